-- Costs, for any rules: a symbol, a list and a nonterminal's cheapest rule are one each; a list costs the sum over its members; and some
-- rule reaches the cost of its left side.
use Rattle.std.specs.Prelude.{ℕ, ◌≤◌, ◌≡◌, List, [], ◌∷◌}
use Rattle.std.proofs.Math.Path.{refl}
use Rattle.std.proofs.Common.{sym, ◌∙◌, subst, append-nil, arith}
use Rattle.grammar.specs.Words.{Terminal}
use Rattle.grammar.specs.Derivation.{Rules, All, Yields}
use Rattle.grammar.specs.Cost.{string_cost, Cheapest, SymbolCost, ListCost, CheapestRule}
use Rattle.grammar.specs.Theory.Leftmost.{Der, to_der}
use Rattle.grammar.specs.Theory.Closed.{total, ClosedCost, closed_cost}

module _ (R : Rules) (price : ℕ → ℕ) where
  pub cheapest_unique : {A b c : ℕ} → Cheapest R price A b → Cheapest R price A c → b ≡ c
  cheapest_unique x y =
      omega (arith, x.least y.string y.yields, y.least x.string x.yields, x.costs, y.costs)

  pub symbol_cost_unique : {X b c : ℕ} → SymbolCost R price X b → SymbolCost R price X c → b ≡ c
  symbol_cost_unique (SymbolCost.terminal l e) (SymbolCost.terminal k f) = sym e ∙ f
  symbol_cost_unique (SymbolCost.terminal l e) (SymbolCost.nonterminal k y) = absurd (omega arith)
  symbol_cost_unique (SymbolCost.nonterminal l x) (SymbolCost.terminal k f) = absurd (omega arith)
  symbol_cost_unique (SymbolCost.nonterminal l x) (SymbolCost.nonterminal k y) = cheapest_unique x y

  -- A symbol list has one cost,
  pub list_cost_unique : {α : List ℕ} {b c : ℕ} → ListCost R price α b → ListCost R price α c → b ≡ c
  list_cost_unique ListCost.nothing ListCost.nothing = refl
  list_cost_unique (ListCost.also x xs e) (ListCost.also y ys f) =
      omega (arith, symbol_cost_unique x y, list_cost_unique xs ys, e, f)

  -- which is the sum over its members.
  pub list_cost_sum : (cost : ℕ → ℕ) {α : List ℕ} → All (λ X. SymbolCost R price X (cost X)) α → ListCost R price α (total cost α)
  unfolding total
  list_cost_sum cost All.nothing = ListCost.nothing
  list_cost_sum cost (All.also h a) = ListCost.also h (list_cost_sum cost a) refl

  -- A nonterminal has one cost and one cheapest rule.
  pub cheapest_rule_unique : {A b c p q : ℕ} → CheapestRule R price A b p → CheapestRule R price A c q → (b ≡ c) × (p ≡ q)
  cheapest_rule_unique {p = p} {q = q} x y =
      let same = cheapest_unique x.cheapest y.cheapest in
      let up = x.lowest q y.right y.rule (subst (ListCost R price y.right) (sym same) y.reaches) in
      let down = y.lowest p x.right x.rule (subst (ListCost R price x.right) same x.reaches) in
      (same, omega arith)

-- A rule of A whose right side costs what A costs, by `cost`.
pub record Reaching (R : Rules) (cost : ℕ → ℕ) (A : ℕ) : Type 0 where
  pub number : ℕ
  pub right : List ℕ
  pub rule : R number A right
  pub reaches : total cost right ≡ cost A

module _ (R : Rules) (price cost : ℕ → ℕ) (terminals : (t : ℕ) → Terminal t → cost t ≤ price t) (costs : ClosedCost R cost) where
  -- The first rule of the derivation of a string that costs what A costs is such a rule.
  pub reached : {A : ℕ} {w : List ℕ} → 64 ≤ A → Yields R (A ∷ []) w → string_cost price w ≡ cost A → Reaching R cost A
  reached {A} {w} high y e = go (to_der R y.derives) y.terminals e
    where
      no_terminal : {v : List ℕ} → All Terminal (A ∷ v) → ⊥
      no_terminal (All.also h a) = omega arith

      go : {v : List ℕ} → Der R (A ∷ []) v → All Terminal v → string_cost price v ≡ cost A → Reaching R cost A
      go (Der.keep d) a f = absurd (no_terminal a)
      go {v} (Der.down {p = p} {β = β} r d) a f =
          let inner : Der R β v = subst (λ l. Der R l v) (append-nil β) d in
          record {
            number = p;
            right = β;
            rule = r;
            reaches = omega (arith, closed_cost R price cost terminals costs inner a, costs p A β r);
          }
