-- A table of costs that no rule can lower holds exactly the costs by derivations.
use Rattle.std.specs.Prelude.{ℕ, ◌≤◌, ◌≡◌, refl, Bool, false, T, leb}
use Rattle.std.proofs.Math.Path.{ap}
use Rattle.std.proofs.Math.Option.{Option, none, some}
use mathlib.Core.List.{List, [], ◌∷◌}
use Rattle.std.proofs.Common.{arith, leb→le, lt-ltb}
use Rattle.std.proofs.Math.Nat.{le_of_eq}
use Rattle.grammar.specs.Words.{Terminal}
use Rattle.grammar.specs.Derivation.{Rules}
use Rattle.grammar.specs.Cost.{Cheapest}
use Rattle.grammar.specs.Theory.Leftmost.{to_der}
use Rattle.grammar.specs.Theory.Closed.{total, ClosedCost, closed_cost}
use Rattle.grammar.specs.Model.Tests.{some_same}
use Rattle.grammar.specs.Model.Ruled.{Rule, RuleAt, every_rule, every_rule_lem}
use Rattle.grammar.specs.Model.Costs.{plus_some, cost_by, sum_by, rounds, rounds_sound}

-- Both are known, and the first is no more than the second.
unfoldable pub at_most : Option ℕ → Option ℕ → Bool
at_most none b = false
at_most (some a) none = false
at_most (some a) (some b) = leb a b

-- No right side costs less than its left side.
unfoldable pub is_settled : (ℕ → ℕ) → List Rule → List (Option ℕ) → Bool
unfolding every_rule at_most cost_by sum_by
is_settled price rs table = every_rule (λ A β. at_most (cost_by price table A) (sum_by price table β)) rs

-- A known cost as a number.
unfoldable pub known : Option ℕ → ℕ
known none = 0
known (some c) = c

unfoldable pub cost_of : (ℕ → ℕ) → List (Option ℕ) → ℕ → ℕ
unfolding known cost_by
cost_of price table X = known (cost_by price table X)

at_most_lem : (a b : Option ℕ) → T (at_most a b) → (x y : ℕ) × (a ≡ some x) × (b ≡ some y) × (x ≤ y)
unfolding at_most
at_most_lem (some a) (some b) h = (a, b, refl, refl, leb→le a b h)
at_most_lem none b h = elim h [ ]
at_most_lem (some a) none h = elim h [ ]

module _ (price : ℕ → ℕ) (table : List (Option ℕ)) where
  pub cost_known : (X c : ℕ) → cost_by price table X ≡ some c → cost_of price table X ≡ c
  unfolding cost_of known
  cost_known X c e = ap known e

  -- A sum that is known is the sum over the members.
  pub sum_total : (α : List ℕ) (c : ℕ) → sum_by price table α ≡ some c → total (cost_of price table) α ≡ c
  unfolding sum_by total
  sum_total [] c e = some_same e
  sum_total (X ∷ α) c e =
      let h = plus_some (cost_by price table X) (sum_by price table α) c e in
      omega (arith, cost_known X h.0 h.2, sum_total α h.1 h.3, h.4)

  pub terminal_cost : (t : ℕ) → Terminal t → cost_of price table t ≡ price t
  unfolding cost_of cost_by known
  terminal_cost t l = rw (lt-ltb t 64 l)

module _ (rs : List Rule) (price : ℕ → ℕ) (N n : ℕ) (settled : T (is_settled price rs (rounds price rs N n))) where
  closed : ClosedCost (RuleAt rs) (cost_of price (rounds price rs N n))
  unfolding is_settled
  closed p A β i =
      let table = rounds price rs N n in
      let h = at_most_lem (cost_by price table A) (sum_by price table β)
      (every_rule_lem (λ B γ. at_most (cost_by price table B) (sum_by price table γ)) settled i) in
      omega (arith, cost_known price table A h.0 h.2, sum_total price table β h.1 h.3, h.4)

  -- An entry is exactly the nonterminal's cost.
  pub cheapest : (A c : ℕ) → cost_by price (rounds price rs N n) A ≡ some c → Cheapest (RuleAt rs) price A c
  unfolding total
  cheapest A c e =
      let table = rounds price rs N n in
      let a = rounds_sound rs price N n A c e in
      record {
        string = a.string;
        yields = a.yields;
        costs = a.costs;
        least = λ w y.
            let l = closed_cost (RuleAt rs) price (cost_of price table) (λ t h. le_of_eq (terminal_cost price table t h)) closed
            (to_der _ y.derives) y.terminals in
            omega (arith, cost_known price table A c e);
      }

-- A cost by derivations is one number.
pub cheapest_unique : {R : Rules} {price : ℕ → ℕ} {A c d : ℕ} → Cheapest R price A c → Cheapest R price A d → c ≡ d
cheapest_unique a b = omega (arith, a.least b.string b.yields, b.least a.string a.yields, a.costs, b.costs)
