-- How a watch passes a place, test by test; and what the tests of numbers say.
use Rattle.std.proofs.Common.{◌≡◌, ℕ, zero, suc, Bool, true, false, cond, eqb, pos, refl, true≢false, arith, eqb-true}
use mathlib.Core.Bool.{false≢true}
use lib.Ieee.{binary64, div, of_int}
use borrow.Author.Tests.{eqb-false}
use Rattle.base.specs.Telling.{Tells}
use Rattle.grammar.specs.Pace.{pace_of}
use Rattle.grammar.specs.declared.Pace.TheVariants.{Idle, Mean}
use Rattle.pace.specs.Watch.{Small, spoiled_by}
use Rattle.pace.specs.declared.Watch.{Watch}

pub cond_true : {A : Type 0} (b : Bool) (x y : A) → b ≡ true → cond b x y ≡ x
cond_true true x y e = refl
cond_true false x y e = absurd (false≢true e)

pub cond_false : {A : Type 0} (b : Bool) (x y : A) → b ≡ false → cond b x y ≡ y
cond_false true x y e = absurd (true≢false e)
cond_false false x y e = refl

-- What was spoiled is as small as it was.
pub small_spoiled : (b : Bool) (w : Watch) → Small w → Small (cond b (spoiled_by w) w)
unfolding spoiled_by
small_spoiled true w s = record { count = s.count; sum = s.sum }
small_spoiled false w s = s

-- ---- Tests and numbers

pub equal_tells : {P : Type 0} (m n : ℕ) → (m ≡ n → P) → (P → m ≡ n) → Tells P (eqb m n)
equal_tells m n f g = record { yes = λ e. f (eqb-true m n e); no = λ e p. eqb-false m n e (g p) }

pub no_tells : {P : Type 0} → (P → ⊥) → Tells P false
no_tells n = record { yes = λ e. absurd (false≢true e); no = λ e p. n p }

pub pace_idle : (count sum : ℕ) → count ≡ 0 → Idle ≡ pace_of count sum
unfolding pace_of
pace_idle zero sum e = refl
pace_idle (suc n) sum e = absurd (omega arith)

pub pace_mean : (count sum : ℕ) → (count ≡ 0 → ⊥)
    → Mean (div binary64 (of_int binary64 (pos sum)) (of_int binary64 (pos count))) ≡ pace_of count sum
unfolding pace_of
pace_mean zero sum n = absurd (n refl)
pace_mean (suc n) sum k = refl
