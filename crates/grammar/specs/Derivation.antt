-- Document 01: "All these sets are defined by derivations, not by the program that finds them."
-- A grammar is abstract here: a relation R, in which `R p A β` says that rule p rewrites A to β.
use Rattle.std.specs.Prelude.{ℕ, ◌≡◌, List, [], ◌∷◌, ◌++◌}
use Rattle.grammar.specs.Words.{Terminal}

-- Rule p rewrites A to β.
abbrev pub Rules : Type 1
Rules = ℕ → ℕ → List ℕ → Type 0

-- One step of the textbook: one symbol, anywhere in the form, is replaced by the right side of a rule for it.
pub data Step (R : Rules) : List ℕ → List ℕ → Type 0 where
  here : {p A : ℕ} {β γ : List ℕ} → R p A β → Step R (A ∷ γ) (β ++ γ)
  later : {X : ℕ} {α δ : List ℕ} → Step R α δ → Step R (X ∷ α) (X ∷ δ)

-- Zero or more steps.
pub data Derives (R : Rules) : List ℕ → List ℕ → Type 0 where
  done : {α : List ℕ} → Derives R α α
  step : {α β γ : List ℕ} → Step R α β → Derives R β γ → Derives R α γ

-- Each member of the list has the property.
pub data All (P : ℕ → Type 0) : List ℕ → Type 0 where
  nothing : All P []
  also : {x : ℕ} {l : List ℕ} → P x → All P l → All P (x ∷ l)

-- The list can be empty: it derives the empty form.
abbrev pub CanBeEmpty : Rules → List ℕ → Type 0
CanBeEmpty R α = Derives R α []

-- Token t is in FIRST of the list: the list derives a form that begins with t.
pub record First (R : Rules) (α : List ℕ) (t : ℕ) : Type 0 where
  pub token : Terminal t
  pub rest : List ℕ
  pub begins : Derives R α (t ∷ rest)

-- Token t is in FOLLOW(A): `begin`, which is START END, derives a form in which t stands right behind A. So FOLLOW(START)
-- holds END.
pub record Follow (R : Rules) (begin : List ℕ) (A t : ℕ) : Type 0 where
  pub token : Terminal t
  pub front : List ℕ
  pub rest : List ℕ
  pub stands : Derives R begin (front ++ (A ∷ t ∷ rest))

-- A is reachable from `begin`: it derives a form that has A in it.
pub record Reachable (R : Rules) (begin : List ℕ) (A : ℕ) : Type 0 where
  pub front : List ℕ
  pub rest : List ℕ
  pub stands : Derives R begin (front ++ (A ∷ rest))

-- The list derives the terminal string w.
pub record Yields (R : Rules) (α w : List ℕ) : Type 0 where
  pub terminals : All Terminal w
  pub derives : Derives R α w

-- A derives some terminal string.
pub record Productive (R : Rules) (A : ℕ) : Type 0 where
  pub string : List ℕ
  pub yields : Yields R (A ∷ []) string

-- Token t is in the predict set of the rule from A to β: "FIRST of its right side, with FOLLOW of its left side added
-- where the right side can be empty".
pub data Predict (R : Rules) (begin : List ℕ) (A : ℕ) (β : List ℕ) (t : ℕ) : Type 0 where
  by_first : First R β t → Predict R begin A β t
  by_follow : CanBeEmpty R β → Follow R begin A t → Predict R begin A β t

-- "No two rules of one nonterminal share a predict token": two rules of A that have t in common are one rule.
abbrev pub NoneShared : Rules → List ℕ → Type 0
NoneShared R begin =
    (p q A t : ℕ) (β γ : List ℕ) → R p A β → R q A γ → Predict R begin A β t → Predict R begin A γ t → p ≡ q
