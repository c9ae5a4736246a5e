-- How a test tells a fact.
--     told, denied          a branch knows the fact, or that it fails
--     tells_le, tells_eq    the comparison is the fact
--     tells_as              another test tells as much
--     tells_unique          two tests of one fact answer the same
--     below_or_not          of two numbers the first is below the second, or not
use Rattle.std.specs.Prelude.{ℕ, ◌≤◌, ◌<◌, Bool, true, false, ◌⊎◌, ◌≡◌, refl, leb, eqb}
use Rattle.std.proofs.Common.{true≢false, inl, inr, leb-true, leb-false, eqb-true, arith, not-le_of_lt}
use Rattle.std.proofs.lemmas.Bool.{false≢true, eqb-false}
use Rattle.std.proofs.Math.Decide.{dec_lt}

-- A test's answer r tells whether P holds.
pub record Tells (P : Type 0) (r : Bool) : Type 0 where
  pub yes : r ≡ true → P
  pub no : r ≡ false → P → ⊥

pub told : {P : Type 0} → P → Tells P true
told p = record { yes = λ _. p; no = λ e _. true≢false e }

pub denied : {P : Type 0} → (P → ⊥) → Tells P false
denied n = record { yes = λ e. absurd (false≢true e); no = λ _ p. n p }

pub tells_le : {P : Type 0} (a b : ℕ) → (a ≤ b → P) → (P → a ≤ b) → Tells P (leb a b)
tells_le a b to from = record { yes = λ e. to (leb-true a b e); no = λ e p. not-le_of_lt (leb-false a b e) (from p) }

pub tells_eq : {P : Type 0} (a b : ℕ) → (a ≡ b → P) → (P → a ≡ b) → Tells P (eqb a b)
tells_eq a b to from = record { yes = λ e. to (eqb-true a b e); no = λ e p. eqb-false a b e (from p) }

pub tells_unique : {P : Type 0} (a b : Bool) → Tells P a → Tells P b → a ≡ b
tells_unique true true t u = refl
tells_unique true false t u = absurd (u.no refl (t.yes refl))
tells_unique false true t u = absurd (t.no refl (u.yes refl))
tells_unique false false t u = refl

pub tells_as : {P Q : Type 0} {r : Bool} → (P → Q) → (Q → P) → Tells P r → Tells Q r
tells_as to from t = record { yes = λ e. to (t.yes e); no = λ e q. t.no e (from q) }

pub below_or_not : (m n : ℕ) → (m < n) ⊎ (n ≤ m)
below_or_not m n = decided (dec_lt m n)
  where
    decided : Dec (m < n) → (m < n) ⊎ (n ≤ m)
    decided (yes l) = inl l
    decided (no l) = inr (omega arith)
