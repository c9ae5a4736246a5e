-- The turns of spelling: each keeps the state, and takes a step of those that are left.
use Prim.Native.Nat.{ℕ, zero, suc, ◌+◌, ◌-◌, ◌/◌, ◌%◌, ◌≤◌, ◌<◌}
use Rattle.std.specs.Prelude.{◌≡◌, get_or}
use Rattle.std.proofs.Math.Path.{refl, ap, ap₂, subst}
use Rattle.std.proofs.Common.{sym, ◌∙◌, get_or-set_same, get_or-set_other}
use mathlib.Core.List.{List, [], ◌∷◌, ◌++◌, append_assoc, append-nil}
use Rattle.std.proofs.Math.Logic.{dite}
use Rattle.std.proofs.Math.Decide.{dec_lt}
use native.Mathlib.Omega.{arith}
use Rattle.std.proofs.Math.ListN.{length, set, length-append, length-set}
use Rattle.base.specs.Written.{written, written_none, written_more}
use Rattle.grammar.specs.Derivation.{All}
use Rattle.strings.specs.Laws.{
  members_none,
  members_more,
  spelt_token,
  deep_spelt,
  deep_zero,
  deep_below,
  steps_some,
  raised_length,
  raised_append,
}
use Rattle.strings.specs.Lengths.{Measured}
use Rattle.strings.specs.Spelling.{members, right_of, joined, spelt, Deep, raised}
use Rattle.strings.specs.Work.{
  below,
  to_spell,
  steps_left,
  Spelt,
  Spelling,
  head_of,
  tail_of,
  to_spell_none,
  to_spell_up,
  steps_up,
  to_spell_more,
  steps_more,
  to_spell_down,
  steps_down,
}

-- ---- The turns

module _ {table : List ℕ} {D symbol raise : ℕ} {old : List ℕ} {at : ℕ} {stack : List ℕ} {h left : ℕ} {tokens : List ℕ} {end : ℕ}
    (s : Spelling table D symbol raise old at stack h left tokens end) where
  -- All is spelled.
  pub spelling_ends : left ≡ 0 → h ≡ 0 → Spelt table D symbol raise old at tokens end
  spelling_ends e f =
      let none : to_spell table D stack h left ≡ [] = ap₂ (λ a b. to_spell table D stack a b) f e ∙ to_spell_none table D stack in
      let all : s.done ≡ spelt table D symbol =
      sym (append-nil s.done) ∙ (ap (λ l. s.done ++ l) (sym none) ∙ s.still) in
      record {
        wrote = s.wrote ∙ ap (λ w. written old at (raised raise w)) all;
        ends = s.ended ∙ ap (λ (w : List ℕ). at + length w) all;
      }

  -- The topmost word is taken up.
  pub spelling_up : (i : ℕ) → h ≡ suc i → left ≡ 0 → Spelling table D symbol raise old at stack i (get_or stack i 0) tokens end
  spelling_up i e f =
      record {
        low = omega (arith, s.low);
        cells = s.cells;
        done = s.done;
        wrote = s.wrote;
        ended = s.ended;
        still =
            ap (λ l. s.done ++ l) (sym (ap₂ (λ a b. to_spell table D stack a b) e f ∙ to_spell_up table D stack i)) ∙ s.still;
        deep = s.deeper i (omega arith);
        deeper = λ j l. s.deeper j (omega arith);
      }

  module _ (some : 0 < left) where
    mine : All (λ X. Deep table (D - h) X) (left % 256 ∷ members (left / 256))
    mine = subst (λ l. All (λ X. Deep table (D - h) X) l) (members_more left some) s.deep

    pub spelling_deep : Deep table (D - h) (left % 256)
    spelling_deep = head_of mine

    whole : s.done ++ (spelt table (D - h) (left % 256) ++ to_spell table D stack h (left / 256)) ≡ spelt table D symbol
    whole = ap (λ l. s.done ++ l) (sym (to_spell_more table D stack h left some)) ∙ s.still

    -- There is room for a token.
    pub spelling_room : left % 256 < 64 → end + 1 ≤ at + length (spelt table D symbol)
    spelling_room low =
        omega (
          arith,
          s.ended,
          ap length whole,
          length-append s.done (spelt table (D - h) (left % 256) ++ to_spell table D stack h (left / 256)),
          length-append (spelt table (D - h) (left % 256)) (to_spell table D stack h (left / 256)),
          ap length (spelt_token table (D - h) (left % 256) low),
        )

    -- A token is written.
    pub spelling_token : left % 256 < 64 → at + length (spelt table D symbol) ≤ length old
        → Spelling table D symbol raise old at stack h (left / 256) (set tokens end (left % 256 + raise)) (end + 1)
    unfolding raised
    spelling_token low room =
        let x : ℕ = left % 256 in
        let long : length (raised raise s.done) ≡ length s.done = raised_length raise s.done in
        let fits = spelling_room low in
        let ended = s.ended in
        record {
          low = s.low;
          cells = s.cells;
          done = s.done ++ (x ∷ []);
          wrote =
              ap₂ (λ (l : List ℕ) (n : ℕ). set l n (x + raise)) s.wrote (ended ∙ ap (λ (n : ℕ). at + n) (sym long))
              ∙ (written_more old at (raised raise s.done) (x + raise) (omega arith)
              ∙ ap (λ l. written old at l) (sym (raised_append raise s.done (x ∷ []))));
          ended = simp length-append (omega arith);
          still =
              append_assoc s.done (x ∷ []) (to_spell table D stack h (left / 256))
              ∙ (ap (λ l. s.done ++ (l ++ to_spell table D stack h (left / 256))) (sym (spelt_token table (D - h) x low)) ∙ whole);
          deep = tail_of mine;
          deeper = s.deeper;
        }

    -- A nonterminal whose string is empty is passed.
    pub spelling_pass : {lengths : List ℕ} → Measured table D lengths → 64 ≤ left % 256 → left % 256 < 128
        → get_or lengths (left % 256 - 64) 0 ≡ 0
        → Spelling table D symbol raise old at stack h (left / 256) tokens end
    spelling_pass m high inside none =
        let x : ℕ = left % 256 in
        let same : 64 + (x - 64) ≡ x = omega arith in
        let size : length (spelt table D x) ≡ 0 =
        ap (λ Y. length (spelt table D Y)) (sym same) ∙ (sym (m.exact (x - 64) (omega arith)) ∙ none) in
        let empty : spelt table (D - h) x ≡ [] = deep_spelt table (D - h) D (omega arith) x spelling_deep ∙ no_length (spelt table D x) size in
        record {
          low = s.low;
          cells = s.cells;
          done = s.done;
          wrote = s.wrote;
          ended = s.ended;
          still = ap (λ l. s.done ++ (l ++ to_spell table D stack h (left / 256))) (sym empty) ∙ whole;
          deep = tail_of mine;
          deeper = s.deeper;
        }
      where
        no_length : (l : List ℕ) → length l ≡ 0 → l ≡ []
        no_length [] e = refl
        no_length (x ∷ l) e = absurd (omega arith)

    -- A nonterminal goes at least one right side deep.
    pub spelling_high : 64 ≤ left % 256 → (h < D) × (left % 256 < 128)
    spelling_high high = go (D - h) refl spelling_deep
      where
        go : (d : ℕ) → d ≡ D - h → Deep table d (left % 256) → (h < D) × (left % 256 < 128)
        go zero e k = absurd (omega (arith, deep_zero table (left % 256) k))
        go (suc d) e k = (omega arith, (deep_below table d (left % 256) k high).0)

    -- A nonterminal is begun.
    pub spelling_down : D ≤ 64 → 64 ≤ left % 256
        → Spelling table D symbol raise old at (set stack h (left / 256)) (h + 1) (get_or table (left % 256 - 64) 0) tokens end
    unfolding right_of
    spelling_down few high =
        let x : ℕ = left % 256 in
        let rest : ℕ = left / 256 in
        let inside = spelling_high high in
        let d : ℕ = D - suc h in
        let e : D - h ≡ suc d = omega arith in
        let next : suc h ≡ h + 1 = omega arith in
        let room : h < length stack = omega (arith, s.cells) in
        subst (λ n. Spelling table D symbol raise old at (set stack h rest) n (get_or table (x - 64) 0) tokens end) next
        (record {
          low = omega arith;
          cells = length-set stack h rest ∙ s.cells;
          done = s.done;
          wrote = s.wrote;
          ended = s.ended;
          still = ap (λ l. s.done ++ l) (to_spell_down table D stack h rest x d e refl room high) ∙ whole;
          deep = (deep_below table d x (subst (λ n. Deep table n x) e spelling_deep) high).1;
          deeper = λ i l.
              dite (dec_lt i h)
              (λ lower.
              subst (λ w. All (λ X. Deep table (D - i) X) (members w)) (sym (get_or-set_other stack h i rest 0 (λ e. omega arith)))
              (s.deeper i lower))
              (λ top.
              let same : h ≡ i = omega arith in
              subst (λ n. All (λ X. Deep table (D - n) X) (members (get_or (set stack h rest) n 0))) same
              (subst (λ w. All (λ X. Deep table (D - h) X) (members w)) (sym (get_or-set_same stack h rest 0 room)) (tail_of mine)));
        })

-- ---- The steps fall

pub steps_up_less : (table : List ℕ) (D : ℕ) (stack : List ℕ) (h i left : ℕ) → h ≡ suc i → left ≡ 0
    → steps_left table D stack i (get_or stack i 0) < steps_left table D stack h left
steps_up_less table D stack h i left e f =
    omega (arith, ap₂ (λ a b. steps_left table D stack a b) e f, steps_up table D stack i)

pub steps_more_less : (table : List ℕ) (D : ℕ) (stack : List ℕ) (h left : ℕ) → 0 < left
    → steps_left table D stack h (left / 256) < steps_left table D stack h left
steps_more_less table D stack h left l =
    omega (arith, steps_more table D stack h left l, steps_some table (D - h) (left % 256))

pub steps_down_less : (table : List ℕ) (D : ℕ) (stack : List ℕ) (h left : ℕ) → 0 < left → h < D → h < length stack → 64 ≤ left % 256
    → steps_left table D (set stack h (left / 256)) (h + 1) (get_or table (left % 256 - 64) 0) < steps_left table D stack h left
steps_down_less table D stack h left l low room high =
    let d : ℕ = D - suc h in
    let e : D - h ≡ suc d = omega arith in
    let next : suc h ≡ h + 1 = omega arith in
    omega (
      arith,
      steps_more table D stack h left l,
      steps_down table D stack h (left / 256) (left % 256) d e refl room high,
      ap (λ n. steps_left table D (set stack h (left / 256)) n (get_or table (left % 256 - 64) 0)) next,
    )

-- The first state.
pub spelling_begins : (table : List ℕ) (D symbol raise : ℕ) (old : List ℕ) (at : ℕ) (stack : List ℕ) → length stack ≡ 64 → 1 ≤ symbol
    → symbol < 256 → Deep table D symbol → at ≤ length old → Spelling table D symbol raise old at stack 0 symbol old at
unfolding raised to_spell below joined
spelling_begins table D symbol raise old at stack cells low high deep room =
    let here : symbol % 256 ≡ symbol = omega arith in
    let rest : symbol / 256 ≡ 0 = omega arith in
    let one : members symbol ≡ symbol ∷ [] =
    members_more symbol low ∙ ap₂ (λ x l. x ∷ l) here (ap members rest ∙ members_none) in
    let same : D - 0 ≡ D = omega arith in
    record {
      low = omega arith;
      cells = cells;
      done = [];
      wrote = sym (written_none old at);
      ended = omega arith;
      still =
          ap (λ l. joined (λ X. spelt table (D - 0) X) l ++ []) one
          ∙ (append-nil (spelt table (D - 0) symbol ++ []) ∙ (append-nil (spelt table (D - 0) symbol) ∙ ap (λ n. spelt table n symbol) same));
      deep =
          subst (λ l. All (λ X. Deep table (D - 0) X) l) (sym one)
          (All.also (subst (λ n. Deep table n symbol) (sym same) deep) All.nothing);
      deeper = λ i l. absurd (omega arith);
    }
