-- Two tables of costs and cheapest rules of the same words are equal.
use Rattle.std.specs.Prelude.{ℕ, ◌+◌, ◌-◌, ◌≤◌, ◌<◌, ◌≡◌, List, length, get_or}
use Rattle.std.proofs.Common.{sym, ◌∙◌, subst, ⊎_elim, arith, ext_get_or}
use Rattle.base.specs.Choices.{below_or}
use Rattle.grammar.specs.Words.{terminal_count, nonterminal_count, insert_cost}
use Rattle.grammar.specs.Grammar.{RuleOf}
use Rattle.grammar.specs.Theory.Costing.{cheapest_rule_unique}
use Rattle.costs.specs.Costed.{Costed}

module _ (ws l m : List ℕ) (one : Costed ws l) (two : Costed ws m) where
  -- A cost that one table knows the other knows, and holds no lower.
  no_lower : (k : ℕ) → k < nonterminal_count ws → get_or l (64 + k) 0 ≤ 60000 → get_or m (64 + k) 0 ≤ get_or l (64 + k) 0
  no_lower k h small =
      let mine = (one.exact k h small).cheapest in
      ⊎_elim
      (λ known. omega (arith, (two.exact k h (omega arith)).cheapest.least mine.string mine.yields, mine.costs))
      (λ over. omega (arith, two.over k h over mine.string mine.yields, mine.costs))
      (below_or (get_or m (64 + k) 0) 60001)

  -- A cost above 60,000 is the same in both: 60,001 where there is a string, and 1,000,000 where there is none.
  high_cost : (k : ℕ) → k < nonterminal_count ws → 60001 ≤ get_or l (64 + k) 0 → 60001 ≤ get_or m (64 + k) 0
      → get_or l (64 + k) 0 ≡ get_or m (64 + k) 0
  high_cost k h over also =
      ⊎_elim
      (λ low.
      ⊎_elim (λ small. omega arith) (λ none. absurd (two.barren k h (omega (arith, none.2)) (one.productive k h low)))
      (two.limit (64 + k)))
      (λ none.
      ⊎_elim (λ small. absurd (one.barren k h (omega (arith, none.2)) (two.productive k h small)))
      (λ also. omega (arith, none.2, also.2))
      (two.limit (64 + k)))
      (one.limit (64 + k))

pub costs_unique : (ws l m : List ℕ) → Costed ws l → Costed ws m → l ≡ m
costs_unique ws l m one two = ext_get_or 0 l m (one.size ∙ sym two.size) same
  where
    cost : (k : ℕ) → k < nonterminal_count ws → get_or l (64 + k) 0 ≡ get_or m (64 + k) 0
    cost k h =
        ⊎_elim
        (λ known.
        let up = no_lower ws l m one two k h (omega arith) in
        omega (arith, no_lower ws m l two one k h (omega arith)))
        (λ over.
        ⊎_elim (λ known. omega (arith, no_lower ws m l two one k h (omega arith)))
        (λ also. high_cost ws l m one two k h over also)
        (below_or (get_or m (64 + k) 0) 60001))
        (below_or (get_or l (64 + k) 0) 60001)

    rule : (k : ℕ) → k < nonterminal_count ws → get_or l (128 + k) 0 ≡ get_or m (128 + k) 0
    rule k h =
        ⊎_elim
        (λ known.
        (cheapest_rule_unique (RuleOf ws) (insert_cost ws) (one.exact k h (omega arith)) (two.exact k h (omega (arith, cost k h)))).1)
        (λ over. one.no_rule k h (omega arith) ∙ sym (two.no_rule k h (omega (arith, cost k h))))
        (below_or (get_or l (64 + k) 0) 60001)

    -- From nonterminal 0 on, in either half of the table.
    named : (from : ℕ) → ((k : ℕ) → k < nonterminal_count ws → get_or l (from + k) 0 ≡ get_or m (from + k) 0)
        → (X : ℕ) → from ≤ X → (from + nonterminal_count ws ≤ X → get_or l X 0 ≡ get_or m X 0) → get_or l X 0 ≡ get_or m X 0
    named from each X above beyond =
        ⊎_elim
        (λ h.
        let e : from + (X - from) ≡ X = omega arith in
        subst (λ Y. get_or l Y 0 ≡ get_or m Y 0) e (each (X - from) (omega arith)))
        beyond
        (below_or X (from + nonterminal_count ws))

    high : (X : ℕ) → 64 ≤ X → get_or l X 0 ≡ get_or m X 0
    high X above =
        ⊎_elim (λ h. named 64 cost X above (λ b. one.beyond X b h ∙ sym (two.beyond X b h)))
        (λ h. named 128 rule X h (λ b. one.no_name X b ∙ sym (two.no_name X b)))
        (below_or X 128)

    low : (X : ℕ) → X < 64 → get_or l X 0 ≡ get_or m X 0
    low X below =
        ⊎_elim (λ h. one.terminal X h ∙ sym (two.terminal X h)) (λ h. one.blank X h below ∙ sym (two.blank X h below))
        (below_or X (terminal_count ws))

    same : (X : ℕ) → X < length l → get_or l X 0 ≡ get_or m X 0
    same X h = ⊎_elim (low X) (high X) (below_or X 64)
