-- The visit of rule p, whose left side is nonterminal k and whose right side costs `total`, `sum` as the table holds it.
--     kept       nothing is written
--     written    cost and rule are written
use Prim.Native.Nat.{ℕ, ◌+◌, ◌≤◌, ◌<◌}
use mathlib.Core.Path.{◌≡◌, refl, sym, ap, ◌∙◌, subst}
use mathlib.Core.List.Memᴰ
use mathlib.Core.List.{List, [], ◌∷◌, Memᴰ}
use mathlib.Core.Logic.{◌⊎◌, inl, inr, ⊎_elim}
use native.Mathlib.Omega.{arith}
use lib.ListN.{length, set, length-set}
use lib.Seq.{get_or-set_same, get_or-set_other}
use Rattle.base.specs.Choices.{below_or, same_or}
use Rattle.grammar.specs.Words.{terminal_count, nonterminal_count, rule_count, left_side, right_side, insert_cost, RuleSymbol, Shaped}
use Rattle.grammar.specs.Grammar.{RuleOf}
use Rattle.grammar.specs.Theory.Rewriting.{Affords}
use Rattle.grammar.specs.Theory.Closed.{total}
use Rattle.grammar.specs.Theory.Members.{all_at}
use Rattle.grammar.specs.Theory.Pigeonhole.{range, range_member, range_within}
use Rattle.grammar.specs.Theory.RightSides.{right_symbols}
use Rattle.shape.specs.Accessors.{LeftOf}
use mathlib.Core.Bool.{true}
use Rattle.sets.specs.Bits.{member}
use Rattle.sets.specs.Laws.{empty_none, with_same}
use Rattle.mentions.specs.Mentions.{Mentions}
use Rattle.costs.specs.Held.{Held, Ruled, SettledAt, cost_sum, entry}
use Rattle.costs.specs.Settled.{rule_affords, rule_some}
use Rattle.costs.specs.Visiting.{Revised, Capped, Known, Fell}
use Rattle.costs.proofs.Summing.{total_less, total_no_more, total_same}

-- A number stands in a list or not.
neither : {x y : ℕ} {α : List ℕ} → (x ≡ y → ⊥) → (Memᴰ x α → ⊥) → Memᴰ x (y ∷ α) → ⊥
neither n f (Memᴰ.head e) = n e
neither n f (Memᴰ.tail m) = f m

member_or : (x : ℕ) (α : List ℕ) → Memᴰ x α ⊎ (Memᴰ x α → ⊥)
member_or x [] = inr (λ m. Memᴰ.not-nil m)
member_or x (y ∷ α) =
    ⊎_elim (λ e. inl (Memᴰ.head e))
    (λ n. ⊎_elim (λ m. inl (Memᴰ.tail m)) (λ f. inr (neither n f)) (member_or x α))
    (same_or x y)

-- The left side by a number that is the same.
pub left_at : {ws : List ℕ} {p j k : ℕ} → j ≡ k → LeftOf ws p k → LeftOf ws p j
left_at {ws} {p} e left = subst (LeftOf ws p) (sym e) left

module _
    (ws l : List ℕ)
    (s : Shaped ws)
    (held : Held ws l)
    (p : ℕ)
    (h : p < rule_count ws)
    (k : ℕ)
    (left : LeftOf ws p k)
    (sum : ℕ)
    (cap : Capped (total (entry l) (right_side ws p)) sum) where
  -- ---- Nothing is written

  settled : (entry l (64 + k) ≤ sum) × (entry l (64 + k) ≡ sum → sum ≤ 60000 → entry l (64 + (64 + k)) ≤ p) → SettledAt ws p l
  settled f =
      let own = ap (entry l) left.names in
      let place : 64 + left_side ws p ≡ 64 + (64 + k) = omega (arith, left.names) in
      let least = f.0 in
      record {
        below = omega (arith, cap.below);
        known = λ some. omega (arith, cap.some some);
        lowest = λ e small.
            let is = cap.low (omega arith) in
            omega (arith, f.1 (omega arith) (omega arith), ap (entry l) place);
      }

  pub kept : (entry l (64 + k) ≤ sum) × (entry l (64 + k) ≡ sum → sum ≤ 60000 → entry l (64 + (64 + k)) ≤ p)
      → Revised ws (λ q. q ≡ p) l l 0
  kept f =
      record {
        held = held;
        settles = λ q b. ⊎_elim (λ e. inr (subst (λ n. SettledAt ws n l) (sym e) (settled f))) inr;
        lower = λ some. absurd (omega arith);
        level = λ e. refl;
      }

  -- ---- Cost and rule are written

  module _ (f : (sum ≤ entry l (64 + k)) × (sum ≡ entry l (64 + k) → (sum ≤ 60000) × (p < entry l (64 + (64 + k))))) (v : ℕ) (known : Known sum p v) where
    abbrev lower : List ℕ
    lower = set l (64 + k) sum

    abbrev new : List ℕ
    new = set lower (64 + (64 + k)) v

    long : length new ≡ 192
    long = length-set lower (64 + (64 + k)) v ∙ (length-set l (64 + k) sum ∙ held.size)

    cost_at : entry new (64 + k) ≡ sum
    cost_at =
        get_or-set_other lower (64 + (64 + k)) (64 + k) v 0 (λ e. omega arith)
        ∙ get_or-set_same l (64 + k) sum 0 (omega (arith, held.size, left.small))

    rule_at : entry new (128 + k) ≡ v
    rule_at =
        let place : 128 + k ≡ 64 + (64 + k) = omega arith in
        ap (entry new) place
        ∙ get_or-set_same lower (64 + (64 + k)) v 0 (omega (arith, length-set l (64 + k) sum, held.size, left.small))

    elsewhere : (X : ℕ) → (X ≡ 64 + k → ⊥) → (X ≡ 128 + k → ⊥) → entry new X ≡ entry l X
    elsewhere X cost rule =
        get_or-set_other lower (64 + (64 + k)) X v 0 (λ e. rule (omega arith)) ∙ get_or-set_other l (64 + k) X sum 0 cost

    -- The sum is a cost: the right side has no symbol without one.
    some : total (entry l) (right_side ws p) < 1000000
    some =
        ⊎_elim (λ less. less)
        (λ none.
        let full = cap.none none in
        ⊎_elim (λ low. absurd (omega (arith, f.0)))
        (λ top. absurd (omega (arith, (f.1 (omega (arith, top.2))).0)))
        (held.limit (64 + k)))
        (below_or (total (entry l) (right_side ws p)) 1000000)

    low : sum ≤ 60001
    low = cap.some some

    small_rule : v < 256
    small_rule =
        ⊎_elim (λ over. omega (arith, known.over over)) (λ few. omega (arith, known.known few, s.rules_high)) (below_or 60000 sum)

    found : sum ≤ 60000 → Affords (RuleOf ws) (insert_cost ws) ((64 + k) ∷ []) (entry new (64 + k))
    found few =
        let is = cap.exact few in
        subst (λ A. Affords (RuleOf ws) (insert_cost ws) (A ∷ []) (entry new (64 + k))) left.names
        (subst (Affords (RuleOf ws) (insert_cost ws) (left_side ws p ∷ [])) (sym is ∙ sym cost_at)
        (rule_affords ws l s held p h (omega arith)))

    other_cost : (j : ℕ) → j < 64 → (j ≡ k → ⊥) → entry new (64 + j) ≡ entry l (64 + j)
    other_cost j below other = elsewhere (64 + j) (λ e. other (omega arith)) (λ e. omega arith)

    other_rule : (j : ℕ) → (j ≡ k → ⊥) → entry new (128 + j) ≡ entry l (128 + j)
    other_rule j other = elsewhere (128 + j) (λ e. omega (arith, left.small)) (λ e. other (omega arith))

    no_higher : (X : ℕ) → X < 128 → entry new X ≤ entry l X
    no_higher X below =
        ⊎_elim (λ e. omega (arith, ap (entry new) e, ap (entry l) e, cost_at, f.0))
        (λ cost. omega (arith, elsewhere X cost (λ e. omega arith))) (same_or X (64 + k))

    -- A right side is made of symbols.
    symbol_low : {X : ℕ} → RuleSymbol (terminal_count ws) (nonterminal_count ws) X → X < 128
    symbol_low (RuleSymbol.terminal a b) = omega (arith, s.terminals_high)
    symbol_low (RuleSymbol.nonterminal a b) = omega (arith, s.nonterminals_high)

    right_low : (q : ℕ) → q < rule_count ws → (X : ℕ) → Memᴰ X (right_side ws q) → X < 128
    right_low q b X m = symbol_low (all_at (right_symbols ws s q b) m)

    left_side_lem : (q : ℕ) → q < rule_count ws → (64 ≤ left_side ws q) × (left_side ws q < 128)
    unfolding left_side
    left_side_lem q b = (omega arith, omega (arith, (s.rules q b).left, s.nonterminals_high))

    right_no_higher : (q : ℕ) → q < rule_count ws → total (entry new) (right_side ws q) ≤ total (entry l) (right_side ws q)
    right_no_higher q b = total_no_more (entry new) (entry l) (right_side ws q) (λ X m. no_higher X (right_low q b X m))

    -- What is said of each nonterminal, at k and elsewhere.
    each : (P : ℕ → Type 0) → P k → ((j : ℕ) → j < nonterminal_count ws → (j ≡ k → ⊥) → P j) → (j : ℕ) → j < nonterminal_count ws → P j
    each P here there j below = ⊎_elim (λ e. subst P (sym e) here) (there j below) (same_or j k)

    ruled_here : entry new (64 + k) ≤ 60000 → Ruled ws new k (entry new (128 + k))
    ruled_here cheap =
        let few : sum ≤ 60000 = omega (arith, cost_at) in
        let is = cap.exact few in
        subst (Ruled ws new k) (sym (rule_at ∙ known.known few))
        (record { counted = h; left = left.names; costs = omega (arith, right_no_higher p h, cost_at) })

    ruled_there : (j : ℕ) → j < nonterminal_count ws → (j ≡ k → ⊥) → entry new (64 + j) ≤ 60000 → Ruled ws new j (entry new (128 + j))
    ruled_there j below other cheap =
        let same = other_cost j (omega (arith, s.nonterminals_high)) other in
        let was = held.ruled j below (omega arith) in
        subst (Ruled ws new j) (sym (other_rule j other))
        (record {
          counted = was.counted;
          left = was.left;
          costs = omega (arith, right_no_higher (entry l (128 + j)) was.counted, was.costs);
        })

    holds : Held ws new
    holds =
        record {
          size = long;
          terminal = λ t below.
              let few = s.terminals_high in
              elsewhere t (λ e. omega arith) (λ e. omega arith) ∙ held.terminal t below;
          sound = each (λ j. entry new (64 + j) ≤ 60000 → Affords (RuleOf ws) (insert_cost ws) ((64 + j) ∷ []) (entry new (64 + j)))
              (λ cheap. found (omega (arith, cost_at)))
              (λ j below other cheap.
              let same = other_cost j (omega (arith, s.nonterminals_high)) other in
              subst (Affords (RuleOf ws) (insert_cost ws) ((64 + j) ∷ [])) (sym same) (held.sound j below (omega arith)));
          some = each (λ j. entry new (64 + j) ≤ 60001 → (c : ℕ) × Affords (RuleOf ws) (insert_cost ws) ((64 + j) ∷ []) c)
              (λ _.
              subst (λ A. (c : ℕ) × Affords (RuleOf ws) (insert_cost ws) (A ∷ []) c) left.names (rule_some ws l s held p h some))
              (λ j below other cheap.
              let same = other_cost j (omega (arith, s.nonterminals_high)) other in
              held.some j below (omega arith));
          ruled = each (λ j. entry new (64 + j) ≤ 60000 → Ruled ws new j (entry new (128 + j))) ruled_here ruled_there;
          no_rule = each (λ j. 60000 < entry new (64 + j) → entry new (128 + j) ≡ 0)
              (λ over. rule_at ∙ known.over (omega (arith, cost_at)))
              (λ j below other over.
              let same = other_cost j (omega (arith, s.nonterminals_high)) other in
              other_rule j other ∙ held.no_rule j below (omega arith));
          limit = λ X.
              ⊎_elim (λ e. inl (omega (arith, ap (entry new) e, cost_at, low)))
              (λ cost.
              ⊎_elim (λ e. inl (omega (arith, ap (entry new) e, rule_at, small_rule)))
              (λ rule. subst (λ c. (c ≤ 60001) ⊎ ((64 ≤ X) × (X < 128) × (c ≡ 1000000))) (sym (elsewhere X cost rule)) (held.limit X))
              (same_or X (128 + k)))
              (same_or X (64 + k));
          blank = λ t above below. elsewhere t (λ e. omega arith) (λ e. omega arith) ∙ held.blank t above below;
          beyond = λ X above below. elsewhere X (λ e. omega (arith, left.below)) (λ e. omega arith) ∙ held.beyond X above below;
          no_name = λ X above. elsewhere X (λ e. omega (arith, left.small)) (λ e. omega (arith, left.below)) ∙ held.no_name X above;
        }

    -- ---- The rules settled

    -- Rule q, whose right side costs what it did.
    module _ (q : ℕ) (b : q < rule_count ws) (same : total (entry new) (right_side ws q) ≡ total (entry l) (right_side ws q)) where
      visited : q ≡ p → SettledAt ws q new
      visited e =
          let own : entry new (left_side ws q) ≡ sum = ap (λ n. entry new (left_side ws n)) e ∙ (ap (entry new) left.names ∙ cost_at) in
          let place : 64 + left_side ws p ≡ 128 + k = omega (arith, left.names) in
          let rule : entry new (64 + left_side ws q) ≡ v =
          ap (λ n. entry new (64 + left_side ws n)) e ∙ (ap (entry new) place ∙ rule_at) in
          let right : total (entry l) (right_side ws q) ≡ total (entry l) (right_side ws p) =
          ap (λ n. total (entry l) (right_side ws n)) e in
          record {
            below = omega (arith, cap.below);
            known = λ _. omega (arith, low);
            lowest = λ _ cheap. omega (arith, known.known (omega arith));
          }

      still : SettledAt ws q l → SettledAt ws q new
      still was = at (same_or (left_side ws q) (64 + k))
        where
          at : (left_side ws q ≡ 64 + k) ⊎ (left_side ws q ≡ 64 + k → ⊥) → SettledAt ws q new
          at (inl e) =
              let own : entry new (left_side ws q) ≡ sum = ap (entry new) e ∙ cost_at in
              let old = ap (entry l) e in
              let place : 64 + left_side ws q ≡ 128 + k = omega arith in
              let rule : entry new (64 + left_side ws q) ≡ v = ap (entry new) place ∙ rule_at in
              let at-rule : 64 + left_side ws q ≡ 64 + (64 + k) = omega arith in
              let before = ap (entry l) at-rule in
              record {
                below = omega (arith, was.below, f.0);
                known = λ _. omega (arith, low);
                lowest = λ t cheap.
                    let tie : sum ≡ entry l (64 + k) = omega (arith, was.below, f.0) in
                    omega (arith, (f.1 tie).1, known.known (omega arith), was.lowest (omega arith) (omega arith));
              }
          at (inr n) =
              let sides = left_side_lem q b in
              let own : entry new (left_side ws q) ≡ entry l (left_side ws q) = elsewhere (left_side ws q) n (λ e. omega (arith, sides.1)) in
              let rule : entry new (64 + left_side ws q) ≡ entry l (64 + left_side ws q) =
              elsewhere (64 + left_side ws q) (λ e. omega (arith, left.small, sides.0)) (λ e. n (omega arith)) in
              record {
                below = omega (arith, was.below);
                known = λ t. omega (arith, was.known (omega arith));
                lowest = λ t cheap. omega (arith, was.lowest (omega arith) (omega arith));
              }

      either : (q ≡ p) ⊎ SettledAt ws q l → SettledAt ws q new
      either = ⊎_elim visited still

    -- No right side that does not mention k costs less.
    unmentioned : (q : ℕ) → q < rule_count ws → (Mentions ws q k → ⊥) → total (entry new) (right_side ws q) ≡ total (entry l) (right_side ws q)
    unmentioned q b none =
        total_same (entry new) (entry l) (right_side ws q)
        (λ X m.
        elsewhere X (λ e. none (subst (λ Y. Memᴰ Y (right_side ws q)) e m)) (λ e. omega (arith, right_low q b X m)))

    -- Where the cost stays, all costs do.
    level : sum ≡ entry l (64 + k) → (X : ℕ) → X < 128 → entry new X ≡ entry l X
    level e X below =
        ⊎_elim (λ g. ap (entry new) g ∙ (cost_at ∙ (e ∙ ap (entry l) (sym g)))) (λ g. elsewhere X g (λ i. omega arith))
        (same_or X (64 + k))

    falls : sum < entry l (64 + k) → cost_sum new < cost_sum l
    falls less =
        total_less (entry new) (entry l) (range 64 64) (64 + k) (range_member 64 64 (64 + k) (omega arith) (omega (arith, left.small)))
        (λ X m. no_higher X (omega (arith, (range_within 64 64 X m).1))) (omega (arith, cost_at))

    pub written : {r : ℕ} → Fell (entry l (64 + k)) sum k r → Revised ws (λ q. q ≡ p) l new r
    written {r} fell = ⊎_elim down tied (below_or sum (entry l (64 + k)))
      where
        down : sum < entry l (64 + k) → Revised ws (λ q. q ≡ p) l new r
        down less =
            let is = fell.falls less in
            record {
              held = holds;
              settles = λ q b x.
                  ⊎_elim
                  (λ m. inl (record { number = k; listed = subst (λ n. member n k ≡ true) (sym is) (with_same 0 k); mentions = m }))
                  (λ none. inr (either q b (unmentioned q b none) x))
                  (member_or (64 + k) (right_side ws q));
              lower = λ _. falls less;
              level = λ z. absurd (empty_none k (subst (λ n. member n k ≡ true) (sym is ∙ z) (with_same 0 k)));
            }

        tied : entry l (64 + k) ≤ sum → Revised ws (λ q. q ≡ p) l new r
        tied more =
            let e : sum ≡ entry l (64 + k) = omega (arith, f.0) in
            let is = fell.stays more in
            record {
              held = holds;
              settles = λ q b x.
                  inr
                  (either q b (total_same (entry new) (entry l) (right_side ws q) (λ X m. level e X (right_low q b X m))) x);
              lower = λ some. absurd (omega arith);
              level = λ _.
                  total_same (entry new) (entry l) (range 64 64) (λ X m. level e X (omega (arith, (range_within 64 64 X m).1)));
            }
