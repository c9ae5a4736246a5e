-- Closed sets are complete: a set that is closed under the rules holds every symbol that has the property by a
-- derivation. One law each for what is inherited upwards (can be empty, derives a terminal string), downwards
-- (reachable), FIRST, FOLLOW and cost. A grammar check whose sets are closed misses nothing.
use Rattle.std.specs.Prelude.{ℕ, ◌+◌, ◌≤◌, ◌≡◌, List, [], ◌∷◌, ◌++◌, ◌⊎◌}
use Rattle.std.proofs.Common.{inl, inr, ⊎_elim}
use native.Mathlib.Omega.{arith}
use Rattle.grammar.specs.Words.{Terminal}
use Rattle.grammar.specs.Derivation.{Rules, All}
use Rattle.grammar.specs.Cost.{string_cost}
use Rattle.grammar.specs.Theory.Leftmost.{Der, done, keep, down}

-- ---- All

pub all_append : {P : ℕ → Type 0} {α β : List ℕ} → All P α → All P β → All P (α ++ β)
all_append All.nothing b = b
all_append (All.also h a) b = All.also h (all_append a b)

pub all_front : {P : ℕ → Type 0} (α β : List ℕ) → All P (α ++ β) → All P α
all_front [] β a = All.nothing
all_front (X ∷ α) β (All.also h a) = All.also h (all_front α β a)

pub all_rest : {P : ℕ → Type 0} (α : List ℕ) {β : List ℕ} → All P (α ++ β) → All P β
all_rest [] a = a
all_rest (X ∷ α) (All.also h a) = all_rest α a

-- ---- Upwards and downwards

-- A left side has what all of a right side have.
abbrev pub ClosedUp : Rules → (ℕ → Type 0) → Type 0
ClosedUp R P = (p A : ℕ) (β : List ℕ) → R p A β → All P β → P A

-- All of a right side have what the left side has.
abbrev pub ClosedDown : Rules → (ℕ → Type 0) → Type 0
ClosedDown R P = (p A : ℕ) (β : List ℕ) → R p A β → P A → All P β

module _ (R : Rules) (P : ℕ → Type 0) where
  pub closed_up : ClosedUp R P → {α w : List ℕ} → Der R α w → All P w → All P α
  closed_up c done a = All.nothing
  closed_up c (keep d) (All.also h a) = All.also h (closed_up c d a)
  closed_up c (down {β = β} {α = α} r d) a =
      let both = closed_up c d a in
      All.also (c _ _ β r (all_front β α both)) (all_rest β both)

  pub closed_down : ClosedDown R P → {α w : List ℕ} → Der R α w → All P α → All P w
  closed_down c done a = All.nothing
  closed_down c (keep d) (All.also h a) = All.also h (closed_down c d a)
  closed_down c (down {β = β} r d) (All.also h a) = closed_down c d (all_append (c _ _ β r h) a)

-- ---- FIRST, for one token: `Null X` says that X can be empty, `Begin X` that the token is in FIRST of X.

pub data Begins (Null Begin : ℕ → Type 0) : List ℕ → Type 0 where
  here : {X : ℕ} {α : List ℕ} → Begin X → Begins Null Begin (X ∷ α)
  past : {X : ℕ} {α : List ℕ} → Null X → Begins Null Begin α → Begins Null Begin (X ∷ α)

-- Begins, of two lists side by side: in the first, or behind it.
pub begins_append : {Null Begin : ℕ → Type 0} (α : List ℕ) {β : List ℕ} → Begins Null Begin (α ++ β)
    → Begins Null Begin α ⊎ (All Null α × Begins Null Begin β)
begins_append [] b = inr (All.nothing, b)
begins_append (X ∷ α) (Begins.here h) = inl (Begins.here h)
begins_append (X ∷ α) (Begins.past n b) =
    ⊎_elim (λ f. inl (Begins.past n f)) (λ g. inr (All.also n g.0, g.1)) (begins_append α b)

pub begins_front : {Null Begin : ℕ → Type 0} {α : List ℕ} (β : List ℕ) → Begins Null Begin α → Begins Null Begin (α ++ β)
begins_front β (Begins.here h) = Begins.here h
begins_front β (Begins.past n b) = Begins.past n (begins_front β b)

pub begins_behind : {Null Begin : ℕ → Type 0} {α β : List ℕ} → All Null α → Begins Null Begin β → Begins Null Begin (α ++ β)
begins_behind All.nothing b = b
begins_behind (All.also n a) b = Begins.past n (begins_behind a b)

-- A left side begins as each of its right sides does.
abbrev pub ClosedFirst : Rules → (ℕ → Type 0) → (ℕ → Type 0) → Type 0
ClosedFirst R Null Begin = (p A : ℕ) (β : List ℕ) → R p A β → Begins Null Begin β → Begin A

module _ (R : Rules) (Null Begin : ℕ → Type 0) (nulls : ClosedUp R Null) (firsts : ClosedFirst R Null Begin) where
  pub closed_first : {α w : List ℕ} → Der R α w → Begins Null Begin w → Begins Null Begin α
  closed_first (keep d) (Begins.here h) = Begins.here h
  closed_first (keep d) (Begins.past n b) = Begins.past n (closed_first d b)
  closed_first (down {β = β} r d) b =
      ⊎_elim (λ f. Begins.here (firsts _ _ β r f)) (λ g. Begins.past (nulls _ _ β r g.0) g.1)
      (begins_append β (closed_first d b))
  closed_first done b = elim b [ ]

-- ---- FOLLOW, for the same token: `Behind X` says that the token is in FOLLOW of X.

-- Each symbol of the list behind which the token may stand is in `Behind`; E says that it may stand behind the list.
pub data Followed (Null Begin Behind : ℕ → Type 0) (E : Type 0) : List ℕ → Type 0 where
  nothing : Followed Null Begin Behind E []
  also : {X : ℕ} {α : List ℕ} → (Begins Null Begin α → Behind X) → (All Null α → E → Behind X) → Followed Null Begin Behind E α
      → Followed Null Begin Behind E (X ∷ α)

-- In each right side every symbol is followed by what follows it there, and the last by what follows the left side.
abbrev pub ClosedFollow : Rules → (ℕ → Type 0) → (ℕ → Type 0) → (ℕ → Type 0) → Type 0
ClosedFollow R Null Begin Behind = (p A : ℕ) (β : List ℕ) → R p A β → Followed Null Begin Behind (Behind A) β

module _
    (R : Rules)
    (Null Begin Behind : ℕ → Type 0)
    (nulls : ClosedUp R Null)
    (firsts : ClosedFirst R Null Begin)
    (follows : ClosedFollow R Null Begin Behind) where
  -- A right side in the place of its left side.
  followed_within : (E : Type 0) {A : ℕ} {β : List ℕ} (α : List ℕ) → Followed Null Begin Behind (Behind A) β
      → (Begins Null Begin α → Behind A) → (All Null α → E → Behind A) → Followed Null Begin Behind E α
      → Followed Null Begin Behind E (β ++ α)
  followed_within E α Followed.nothing f g rest = rest
  followed_within E α (Followed.also {α = β} b n inner) f g rest =
      Followed.also
      (λ h. ⊎_elim b (λ k. n k.0 (f k.1)) (begins_append β h))
      (λ a e. n (all_front β α a) (g (all_rest β a) e))
      (followed_within E α inner f g rest)

  pub closed_follow : (E : Type 0) {α w : List ℕ} → Der R α w → Followed Null Begin Behind E α → Followed Null Begin Behind E w
  closed_follow E done s = Followed.nothing
  closed_follow E (keep d) (Followed.also b n s) =
      Followed.also
      (λ h. b (closed_first R Null Begin nulls firsts d h))
      (λ a. n (closed_up R Null nulls d a))
      (closed_follow E d s)
  closed_follow E (down {A = A} {β = β} {α = α} r d) (Followed.also b n s) =
      closed_follow E d (followed_within E α (follows _ A β r) b n s)

-- What is followed in a form, read off: where the token begins what stands behind X, X is in `Behind`.
pub followed_at : {Null Begin Behind : ℕ → Type 0} {E : Type 0} (φ : List ℕ) {X : ℕ} {ω : List ℕ}
    → Followed Null Begin Behind E (φ ++ (X ∷ ω)) → Begins Null Begin ω → Behind X
followed_at [] (Followed.also b n s) h = b h
followed_at (Y ∷ φ) (Followed.also b n s) h = followed_at φ s h

-- ---- Cost: `cost X` for each symbol.

-- The sum over a list.
unfoldable pub total : (ℕ → ℕ) → List ℕ → ℕ
total cost [] = 0
total cost (X ∷ α) = cost X + total cost α

pub total_append : (cost : ℕ → ℕ) (α β : List ℕ) → total cost (α ++ β) ≡ total cost α + total cost β
unfolding total
total_append cost [] β = omega arith
total_append cost (X ∷ α) β = omega (arith, total_append cost α β)

-- No left side costs more than one of its right sides.
abbrev pub ClosedCost : Rules → (ℕ → ℕ) → Type 0
ClosedCost R cost = (p A : ℕ) (β : List ℕ) → R p A β → cost A ≤ total cost β

module _ (R : Rules) (price cost : ℕ → ℕ) (terminals : (t : ℕ) → Terminal t → cost t ≤ price t) (costs : ClosedCost R cost) where
  pub closed_cost : {α w : List ℕ} → Der R α w → All Terminal w → total cost α ≤ string_cost price w
  unfolding total string_cost
  closed_cost done a = omega arith
  closed_cost (keep {X = X} d) (All.also h a) = omega (arith, terminals X h, closed_cost d a)
  closed_cost (down {A = A} {β = β} {α = α} r d) a = omega (arith, costs _ A β r, total_append cost β α, closed_cost d a)
