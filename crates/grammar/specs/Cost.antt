-- Document 01: "The cost of a terminal string is the sum of its costs, 0 for the empty one. The cost of a nonterminal is
-- that of its cheapest derivable terminal string. The cost of a symbol list is the sum over its members."
-- `price` gives a terminal's insert cost. And document 02, request (iii): which rule of a nonterminal is the cheap one.
use Rattle.std.specs.Prelude.{ℕ, suc, ◌+◌, ◌≤◌, ◌≡◌, List, [], ◌∷◌, ◌++◌}
use Rattle.grammar.specs.Words.{Terminal}
use Rattle.grammar.specs.Derivation.{Rules, Yields}

-- The cost of a terminal string.
unfoldable pub string_cost : (ℕ → ℕ) → List ℕ → ℕ
string_cost price [] = 0
string_cost price (t ∷ w) = price t + string_cost price w

-- The cost of nonterminal A is c: some terminal string that A derives costs c, and none costs less.
pub record Cheapest (R : Rules) (price : ℕ → ℕ) (A c : ℕ) : Type 0 where
  pub string : List ℕ
  pub yields : Yields R (A ∷ []) string
  pub costs : string_cost price string ≡ c
  pub least : (w : List ℕ) → Yields R (A ∷ []) w → c ≤ string_cost price w

-- The cost of symbol X is c.
pub data SymbolCost (R : Rules) (price : ℕ → ℕ) (X c : ℕ) : Type 0 where
  terminal : Terminal X → price X ≡ c → SymbolCost R price X c
  nonterminal : 64 ≤ X → Cheapest R price X c → SymbolCost R price X c

-- The cost of a symbol list is c.
pub data ListCost (R : Rules) (price : ℕ → ℕ) : List ℕ → ℕ → Type 0 where
  nothing : ListCost R price [] 0
  also : {X b c d : ℕ} {α : List ℕ} → SymbolCost R price X b → ListCost R price α c → b + c ≡ d → ListCost R price (X ∷ α) d

-- "The lowest-numbered rule that reaches it": the cost of A is c, rule p of A has a right side that costs just as much, and no rule of A
-- with a lower number has one.
pub record CheapestRule (R : Rules) (price : ℕ → ℕ) (A c p : ℕ) : Type 0 where
  pub cheapest : Cheapest R price A c
  pub right : List ℕ
  pub rule : R p A right
  pub reaches : ListCost R price right c
  pub lowest : (q : ℕ) (γ : List ℕ) → R q A γ → ListCost R price γ c → p ≤ q

-- "Following cheapest rules .. comes to an end": from the list it ends with the terminal string w, and at most d rules are followed one
-- below the other.
pub data Ends (R : Rules) (price : ℕ → ℕ) : ℕ → List ℕ → List ℕ → Type 0 where
  nothing : {d : ℕ} → Ends R price d [] []
  terminal : {d t : ℕ} {α w : List ℕ} → Terminal t → Ends R price d α w → Ends R price d (t ∷ α) (t ∷ w)
  nonterminal : {d A c p : ℕ} {β α v w x : List ℕ} → CheapestRule R price A c p → R p A β → Ends R price d β v
      → Ends R price (suc d) α w → x ≡ v ++ w → Ends R price (suc d) (A ∷ α) x
