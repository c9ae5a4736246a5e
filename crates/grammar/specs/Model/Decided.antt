-- A grammar with tests for what a run asks of it: FIRST of a list, what can be empty, the cost of a symbol, and the reliability.
use Rattle.std.specs.Prelude.{ℕ, ◌≡◌, refl, Bool, ◌⊎◌, T}
use Rattle.std.proofs.Common.{sym, subst, inl, inr, ⊎_elim, arith}
use mathlib.Core.List.{List, [], ◌∷◌, append-nil, head-eq_of_cons-eq}
use Rattle.grammar.specs.Words.{Terminal}
use Rattle.grammar.specs.Derivation.{Rules, All, First, CanBeEmpty}
use Rattle.grammar.specs.Cost.{SymbolCost, ListCost}
use Rattle.grammar.specs.Grammar.{Grammar}
use Rattle.grammar.specs.Theory.Closed.{total}
use Rattle.grammar.specs.Theory.Leftmost.{Der, to_der, of_der}
use Rattle.grammar.specs.Model.Ruled.{Rule, RuleAt}

-- The tests: the rules in order, whether a token is in FIRST of a list, whether a symbol can be empty, whether it is the grammar's and
-- what it costs, and whether a cost is strictly below a token's reliability.
pub record Tests : Type 0 where
  pub rules : List Rule
  pub first : List ℕ → ℕ → Bool
  pub empty : ℕ → Bool
  pub inner : ℕ → Bool
  pub cost : ℕ → ℕ
  pub below : ℕ → ℕ → Bool

-- The tests say exactly what holds of the grammar.
pub record Decided (G : Grammar) (D : Tests) : Type 0 where
  pub listed : (p A : ℕ) (β : List ℕ) → G.rules p A β → RuleAt D.rules p A β
  pub lists : (p A : ℕ) (β : List ℕ) → RuleAt D.rules p A β → G.rules p A β
  pub first_says : (α : List ℕ) (t : ℕ) → Terminal t → T (D.first α t) → First G.rules α t
  pub says_first : (α : List ℕ) (t : ℕ) → First G.rules α t → T (D.first α t)
  pub empty_says : (X : ℕ) → T (D.empty X) → CanBeEmpty G.rules (X ∷ [])
  pub says_empty : (X : ℕ) → CanBeEmpty G.rules (X ∷ []) → T (D.empty X)
  pub costs : (X : ℕ) → T (D.inner X) → SymbolCost G.rules G.price X (D.cost X)
  pub below_says : (c t : ℕ) → T (D.below c t) → G.reliable c t
  pub says_below : (c t : ℕ) → G.reliable c t → T (D.below c t)

-- ---- Costs are determined

pub symbol_cost_unique : {R : Rules} {price : ℕ → ℕ} {X c d : ℕ} → SymbolCost R price X c → SymbolCost R price X d → c ≡ d
symbol_cost_unique (SymbolCost.terminal l e) (SymbolCost.terminal m f) = omega arith
symbol_cost_unique (SymbolCost.terminal l e) (SymbolCost.nonterminal m f) = absurd (omega arith)
symbol_cost_unique (SymbolCost.nonterminal l e) (SymbolCost.terminal m f) = absurd (omega arith)
symbol_cost_unique (SymbolCost.nonterminal l a) (SymbolCost.nonterminal m b) =
    omega (arith, a.least b.string b.yields, b.least a.string a.yields, a.costs, b.costs)

-- The cost of a list of known symbols is the sum over them,
pub list_cost : {R : Rules} {price cost : ℕ → ℕ} {α : List ℕ} → All (λ X. SymbolCost R price X (cost X)) α
    → ListCost R price α (total cost α)
unfolding total
list_cost All.nothing = ListCost.nothing
list_cost (All.also h a) = ListCost.also h (list_cost a) refl

-- and nothing else.
pub list_cost_is : {R : Rules} {price cost : ℕ → ℕ} {α : List ℕ} {c : ℕ} → All (λ X. SymbolCost R price X (cost X)) α
    → ListCost R price α c → c ≡ total cost α
unfolding total
list_cost_is All.nothing ListCost.nothing = refl
list_cost_is (All.also h a) (ListCost.also k l e) = omega (arith, e, symbol_cost_unique h k, list_cost_is a l)

-- ---- FIRST of one symbol

-- A symbol derives a form: the form is the symbol, or one of its right sides derives it.
from_symbol : {R : Rules} {X : ℕ} {w : List ℕ} → Der R (X ∷ []) w → (w ≡ X ∷ []) ⊎ ((p : ℕ) × (β : List ℕ) × R p X β × Der R β w)
from_symbol {X = X} (Der.keep Der.done) = inl refl
from_symbol {R} (Der.down {p = p} {β = β} {w = w} r d) = inr (p, β, r, subst (λ l. Der R l w) (append-nil β) d)

-- A symbol begins with t: it is t, or one of its right sides begins with t.
pub first_symbol : {R : Rules} {X t : ℕ} → First R (X ∷ []) t
    → (X ≡ t) ⊎ ((p : ℕ) × (β : List ℕ) × R p X β × First R β t)
first_symbol {R} f =
    ⊎_elim
    (λ e. inl (sym (head-eq_of_cons-eq e)))
    (λ h. inr (h.0, h.1, h.2, record { token = f.token; rest = f.rest; begins = of_der R h.3 }))
    (from_symbol (to_der R f.begins))
