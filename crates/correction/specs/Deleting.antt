-- The deletes of a correction: tokens that no correction can use.
use Rattle.std.specs.Prelude.{ℕ, ◌+◌, ◌-◌, ◌*◌, ◌≤◌, ◌<◌, ◌≡◌, refl, true, Option, None}
use Rattle.std.proofs.Math.Path.{sym, ap, subst}
use Rattle.std.proofs.Common.{◌∙◌, length-append, length-drop}
use mathlib.Core.List.{List, [], ◌∷◌, ◌++◌, append_assoc, append-nil}
use Rattle.std.proofs.Math.Logic.{⊎_elim}
use native.Mathlib.Omega.{arith}
use Rattle.std.proofs.Math.ListN.{length, get_or, take}
use Rattle.grammar.specs.Words.{END}
use Rattle.grammar.specs.Moves.{edits, edit_words}
use Rattle.grammar.specs.Run.{Plausible, deletes}
use Rattle.grammar.specs.Theory.Tables.{Sized}
use Rattle.moves.specs.States.{deleted_by}
use Rattle.moves.specs.Tests.{begins_by, le_or_lt}
use Rattle.moves.specs.Pile.{pile, pile_length, pile_at}
use Rattle.moves.specs.declared.Parser.{Parser}
use Rattle.correction.specs.Tokens.{rest_of, rest_token, token_past}
use Rattle.correction.specs.Searching.{SearchOf, paid, bounded, usable}
use Rattle.correction.specs.Records.{Recorded, words_of, words_delete}
use Rattle.correction.specs.Corrections.{CanCorrect}

-- From p the first j tokens were deleted, since no correction can use one of them.
pub record Deleted (S : Sized) (log stack before : List ℕ) (p : Parser) (q : Parser) (after : List ℕ) : Type 0 where
  pub deleted : ℕ
  pub place : q.place ≡ p.place + deleted
  pub within : q.place ≤ length log
  pub height : q.height ≡ p.height
  pub moves : q.moves ≡ p.moves + deleted
  pub records : q.records ≡ p.records + deleted
  pub listed : q.listed ≡ p.listed
  pub none : (h k : ℕ) → h < deleted → Plausible S.grammar (pile stack p.height) (get_or (rest_of log p.place) h END) k → ⊥
  pub size : length after ≡ length before
  pub front : 3 * (p.records + deleted) ≤ length before
      → take (3 * (p.records + deleted)) after
      ≡ take (3 * p.records) before ++ words_of (deletes p.place (take deleted (rest_of log p.place)))

pub deleted_none : (S : Sized) (log stack before : List ℕ) (p : Parser) → p.place ≤ length log
    → Deleted S log stack before p p before
unfolding words_of deletes edits edit_words
deleted_none S log stack before p l =
    let e : 3 * (p.records + 0) ≡ 3 * p.records = omega arith in
    record {
      deleted = 0;
      place = omega arith;
      within = l;
      height = refl;
      moves = omega arith;
      records = omega arith;
      listed = refl;
      none = λ h k m s. omega arith;
      size = refl;
      front = λ h. ap (λ n. take n before) e ∙ sym (append-nil (take (3 * p.records) before));
    }

pub rest_length : (log : List ℕ) (place : ℕ) → place ≤ length log → length (rest_of log place) ≡ length log + 1 - place
rest_length log place l = omega (arith, length-drop place (log ++ (END ∷ [])), length-append log (END ∷ []))

module _ {S : Sized} {log masks prices stack : List ℕ} {p : Parser} (can : CanCorrect S log masks prices stack p) where
  -- END can be used, with all above the bottom popped.
  end_usable : Plausible S.grammar (pile stack p.height) END (p.height - 1)
  unfolding begins_by
  end_usable =
      let known = can.search.known in
      let σ = pile stack p.height in
      let l : length σ ≡ p.height = pile_length stack p.height in
      let c : p.height - (p.height - 1 + 1) ≡ 0 = omega (arith, can.some) in
      let e : get_or σ (p.height - 1) 0 ≡ END =
      pile_at stack p.height (p.height - 1) (omega (arith, can.some)) ∙ ap (λ k. get_or stack k 0) c ∙ can.bottom in
      let low : length σ ≤ 256 = omega (arith, can.search.low) in
      let cost = bounded known σ can.search.symbols low END known.terminals_low (p.height - 1) in
      let free = known.shared.limit END known.terminals_low in
      usable known σ can.search.symbols low END known.terminals_low (p.height - 1) (omega (arith, can.some))
      (subst (λ x. begins_by masks x END ≡ true) (sym e) refl)
      ((free (paid prices σ (p.height - 1)) (omega (arith, cost))).1 (can.unlimited (paid prices σ (p.height - 1))))

  -- So a token that cannot be used is not END.
  pub unusable_inside : (place : ℕ) → ((k : ℕ) → Plausible S.grammar (pile stack p.height) (get_or log place 0) k → ⊥)
      → place < length log
  unusable_inside place n =
      ⊎_elim
      (λ l.
      absurd (n (p.height - 1)
      (subst (λ t. Plausible S.grammar (pile stack p.height) t (p.height - 1)) (sym (token_past log place l)) end_usable)))
      (λ l. l)
      (le_or_lt (length log) place)

  one_more : {before after last : List ℕ} {q u : Parser} → Deleted S log stack before p q after
      → SearchOf S (pile stack q.height) (get_or log q.place 0) None → u ≡ deleted_by q
      → Recorded after q.records 1 q.place (get_or log q.place 0) last → Deleted S log stack before p u last
  unfolding SearchOf
  one_more {before} {after} {last} {q} {u} d s e z =
      let j = d.deleted in
      let σ = pile stack p.height in
      let ρ = rest_of log p.place in
      let none : (k : ℕ) → Plausible S.grammar σ (get_or log q.place 0) k → ⊥ =
      subst (λ h. (k : ℕ) → Plausible S.grammar (pile stack h) (get_or log q.place 0) k → ⊥) d.height s in
      let inside : q.place < length log = unusable_inside q.place none in
      let token : get_or log q.place 0 ≡ get_or ρ j 0 = ap (λ k. get_or log k 0) d.place ∙ sym (rest_token log p.place j) in
      subst (λ v. Deleted S log stack before p v last) (sym e)
      (record {
        deleted = j + 1;
        place = omega (arith, d.place);
        within = omega arith;
        height = d.height;
        moves = omega (arith, d.moves);
        records = omega (arith, d.records);
        listed = d.listed;
        none = λ h k l x.
            ⊎_elim
            (λ m.
            let i : h ≡ j = omega arith in
            none k (subst (λ t. Plausible S.grammar σ t k) (ap (λ n. get_or ρ n 0) i ∙ sym token) x))
            (λ m. d.none h k m x)
            (le_or_lt j h);
        size = z.size ∙ d.size;
        front = λ h.
            let n : q.records ≡ p.records + j = d.records in
            let m : 3 * (p.records + (j + 1)) ≡ 3 * (q.records + 1) = omega arith in
            let old : take (3 * q.records) after ≡ take (3 * p.records) before ++ words_of (deletes p.place (take j ρ)) =
            ap (λ k. take (3 * k) after) n ∙ d.front (omega arith) in
            let within : j < length ρ = omega (arith, rest_length log p.place can.place, d.place) in
            ap (λ k. take k last) m
            ∙ z.front (omega (arith, d.size))
            ∙ ap (λ t. t ++ (1 ∷ q.place ∷ get_or log q.place 0 ∷ [])) old
            ∙ append_assoc (take (3 * p.records) before) (words_of (deletes p.place (take j ρ)))
            (1 ∷ q.place ∷ get_or log q.place 0 ∷ [])
            ∙ ap (λ x. take (3 * p.records) before ++ (words_of (deletes p.place (take j ρ)) ++ (1 ∷ x ∷ get_or log q.place 0 ∷ [])))
            d.place
            ∙ ap (λ x. take (3 * p.records) before ++ (words_of (deletes p.place (take j ρ)) ++ (1 ∷ (p.place + j) ∷ x ∷ []))) token
            ∙ ap (λ t. take (3 * p.records) before ++ t) (sym (words_delete p.place j ρ within));
      })

  pub deleted_more : {before after last : List ℕ} {q u : Parser} {t : ℕ} {found : Option ℕ} → Deleted S log stack before p q after
      → SearchOf S (pile stack q.height) (get_or log q.place 0) found → found ≡ None → u ≡ deleted_by q
      → t ≡ get_or log q.place 0 → Recorded after q.records 1 q.place t last → Deleted S log stack before p u last
  deleted_more {after = after} {last = last} {q = q} {t = t} d s f e g z =
      one_more d
      (subst (λ x. SearchOf S (pile stack q.height) (get_or log q.place 0) x) f s)
      e
      (subst (λ x. Recorded after q.records 1 q.place x last) g z)
