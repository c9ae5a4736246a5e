-- A whole correction: tokens that no correction can use are deleted, and the first that one can use ends it.
use Rattle.std.specs.Prelude.{ℕ, ◌+◌, ◌*◌, ◌≤◌, ◌<◌, ◌≡◌, Option, Some, None}
use Rattle.std.proofs.Math.Path.{sym, ap, subst}
use Rattle.std.proofs.Common.{◌∙◌, arith}
use mathlib.Core.List.{List, ◌++◌, append_assoc}
use Rattle.std.proofs.Math.ListN.{length, get_or, take}
use Rattle.grammar.specs.Run.{Hit, deletes, pops}
use Rattle.grammar.specs.Theory.Folds.{missing_of}
use Rattle.grammar.specs.Theory.Tables.{Sized}
use Rattle.moves.specs.States.{CanCount}
use Rattle.moves.specs.Pile.{pile, pile_length}
use Rattle.moves.specs.declared.Parser.{Parser}
use Rattle.correction.specs.Tokens.{rest_of, rest_token}
use Rattle.correction.specs.Symbols.{symbol_small, pile_cell}
use Rattle.correction.specs.Searching.{CanSearch, Used, SearchOf, all_take}
use Rattle.correction.specs.Records.{CanRecord, words_of, words_moves}
use Rattle.correction.specs.Popping.{CanPop, PoppedOf, topmost, records_of, pop_words, pops_popped}
use Rattle.correction.specs.Corrections.{CanCorrect, Correction, CorrectedOf}
use Rattle.correction.specs.Deleting.{Deleted, rest_length}

module _ {S : Sized} {log masks prices stack : List ℕ} {p : Parser} (can : CanCorrect S log masks prices stack p) where
  -- ---- The hit

  hit_told : {σ : List ℕ} {t i : ℕ} {found : Option ℕ} → SearchOf S σ t found → found ≡ Some i → Used S σ t i
  unfolding SearchOf
  hit_told {σ} {t} s f = subst (λ x. SearchOf S σ t x) f s

  pub correction : {before after : List ℕ} {q : Parser} (d : Deleted S log stack before p q after) (i : ℕ) {found : Option ℕ}
      → SearchOf S (pile stack q.height) (get_or log q.place 0) found → found ≡ Some i
      → Hit S.grammar (pile stack p.height) (rest_of log p.place) d.deleted i
  unfolding SearchOf
  correction {before} {after} {q} d i s₀ f =
      let s = hit_told s₀ f in
      let j = d.deleted in
      let σ = pile stack p.height in
      let ρ = rest_of log p.place in
      let token : get_or log q.place 0 ≡ get_or ρ j 0 = ap (λ k. get_or log k 0) d.place ∙ sym (rest_token log p.place j) in
      let used : Used S σ (get_or ρ j 0) i =
      subst (λ t. Used S σ t i) token (subst (λ h. Used S (pile stack h) (get_or log q.place 0) i) d.height s) in
      record {
        within = omega (arith, rest_length log p.place can.place, d.place, d.within);
        plausible = used.plausible;
        least_r = d.none;
        least_i = used.least;
      }

  -- The correction that the hit is, with what the tables make of the symbols popped.
  corrects : {before after : List ℕ} {q : Parser} (d : Deleted S log stack before p q after) (i : ℕ) {found : Option ℕ}
      → SearchOf S (pile stack q.height) (get_or log q.place 0) found → found ≡ Some i → Correction S log stack p
  unfolding topmost
  corrects d i s f =
      let σ = pile stack p.height in
      record {
        deleted = d.deleted;
        popped = i;
        becomes = topmost masks σ i;
        hit = correction d i s f;
        pops = pops_popped can.search.known (all_take i can.search.symbols);
      }

  module _ {before mid after : List ℕ} {q u : Parser} (d : Deleted S log stack before p q mid) (i : ℕ) {found : Option ℕ}
      (s : SearchOf S (pile stack q.height) (get_or log q.place 0) found) (f : found ≡ Some i)
      (w : PoppedOf masks stack mid q q.place i u after) where
    -- The stack popped from is the one that was searched.
    same_records : records_of masks (pile stack q.height) i ≡ length (missing_of (topmost masks (pile stack p.height) i))
    unfolding records_of
    same_records = ap (λ h. length (missing_of (topmost masks (pile stack h) i))) d.height

    pub corrected_full : length after < 3 * u.records → CorrectedOf S log stack before p after None
    unfolding CorrectedOf corrects
    corrected_full l = (corrects d i s f, omega (arith, same_records, w.records, w.size, d.records, d.size))

    pub corrected_on : 3 * u.records ≤ length after → CorrectedOf S log stack before p after (Some u)
    unfolding CorrectedOf corrects pop_words
    corrected_on l =
        let j = d.deleted in
        let ps = topmost masks (pile stack p.height) i in
        let dels = deletes p.place (take j (rest_of log p.place)) in
        let front = take (3 * p.records) before in
        let old : take (3 * q.records) mid ≡ front ++ words_of dels =
        ap (λ k. take (3 * k) mid) d.records ∙ d.front (omega (arith, w.records, w.size, d.records, d.size)) in (
          corrects d i s f,
          record {
            place = w.place ∙ d.place;
            height = w.height ∙ d.height;
            moves = omega (arith, w.moves, d.moves);
            records = omega (arith, same_records, w.records, d.records);
            listed = w.listed ∙ d.listed;
            size = w.size ∙ d.size;
            fits = omega (arith, w.size, d.size);
            front =
                w.front (omega (arith, w.size))
                ∙ ap (λ t. t ++ words_of (pops q.place (topmost masks (pile stack q.height) i))) old
                ∙ ap (λ h. (front ++ words_of dels) ++ words_of (pops q.place (topmost masks (pile stack h) i))) d.height
                ∙ ap (λ k. (front ++ words_of dels) ++ words_of (pops k ps)) d.place
                ∙ append_assoc front (words_of dels) (words_of (pops (p.place + j) ps))
                ∙ ap (λ t. front ++ t) (sym (words_moves dels (pops (p.place + j) ps)));
          },
        )

  -- ---- What the calls need

  pub seek_can : {before after : List ℕ} {q : Parser} → Deleted S log stack before p q after
      → CanSearch S log masks prices stack q.height
  seek_can d = subst (λ h. CanSearch S log masks prices stack h) (sym d.height) can.search

  pub record_can : {before after : List ℕ} {q : Parser} → Deleted S log stack before p q after → CanRecord q.records q.place
  record_can d =
      record {
        count = omega (arith, d.records, d.place, d.within, can.count);
        place_fits = omega (arith, d.within, can.search.known.short);
      }

  pub delete_can : {before after : List ℕ} {q : Parser} → Deleted S log stack before p q after → CanCount q
  delete_can d =
      record {
        place = omega (arith, d.within, can.search.known.short);
        height = omega (arith, d.height, can.counts.height);
        moves = omega (arith, d.moves, d.place, d.within, can.room);
        records = omega (arith, d.records, d.place, d.within, can.count);
        listed = omega (arith, d.listed, can.counts.listed);
      }

  pub pop_can : {before after : List ℕ} {q : Parser} (d : Deleted S log stack before p q after) (i : ℕ) {found : Option ℕ}
      → SearchOf S (pile stack q.height) (get_or log q.place 0) found → found ≡ Some i → CanPop masks stack q i
  pop_can {q = q} d i s f =
      let low : i < p.height = omega (arith, (correction d i s f).plausible.within, pile_length stack p.height) in
      record {
        table = omega (arith, can.search.known.shared.sets_size);
        symbols = λ k l.
            symbol_small can.search.known (pile_cell stack p.height can.search.symbols k (omega (arith, d.height)));
        cells = omega (arith, d.height, can.search.cells);
        within = omega (arith, d.height);
        place_fits = omega (arith, d.within, can.search.known.short);
        room = omega (arith, d.moves, d.place, d.within, can.room);
        count = omega (arith, d.records, d.place, d.within, can.count);
        counts = delete_can d;
      }
