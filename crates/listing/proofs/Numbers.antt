-- The digits of a number: `decimal` of one digit, and of more.
use Prim.Native.Nat.{ℕ, zero, suc, ◌/◌, ◌%◌, ◌≤◌, ◌<◌}
use native.Mathlib.Decide.{dec_lt}
use native.Mathlib.Omega.{arith}
use mathlib.Core.Logic.{dite}
use mathlib.Core.Path.{◌≡◌, refl, ap}
use mathlib.Core.List.{List, ◌++◌}
use borrow.Author.Tests.{lt-ltb, le-ltb}
use Rattle.grammar.specs.Listing.{digit, digits, decimal}

-- One digit.
pub decimal_one : (n : ℕ) → n < 10 → decimal n ≡ digit n
unfolding decimal digits
decimal_one zero l = refl
decimal_one (suc n) l = simp (lt-ltb (suc n) 10 l)

-- More bounds than the number of digits give the same.
digits_same : (j k n : ℕ) → n ≤ j → n ≤ k → digits j n ≡ digits k n
unfolding digits
digits_same zero zero n l m = refl
digits_same zero (suc k) n l m =
    let none : n ≡ 0 = omega arith in
    let small : n < 10 = omega arith in
    simp (lt-ltb n 10 small) (ap digit (omega arith))
digits_same (suc j) zero n l m =
    let small : n < 10 = omega arith in
    simp (lt-ltb n 10 small) (ap digit (omega arith))
digits_same (suc j) (suc k) n l m =
    dite (dec_lt n 10)
    (λ less. simp (lt-ltb n 10 less))
    (λ more.
    let most : 10 ≤ n = omega arith in
    simp (le-ltb n 10 most)
    (ap (λ (l : List ℕ). l ++ digit (n % 10)) (digits_same j k (n / 10) (omega arith) (omega arith))))

-- The last digit behind those of the tenth.
pub decimal_more : (n : ℕ) → 10 ≤ n → decimal n ≡ decimal (n / 10) ++ digit (n % 10)
unfolding decimal digits
decimal_more zero l = absurd (omega arith)
decimal_more (suc n) l =
    simp (le-ltb (suc n) 10 l)
    (ap (λ (l : List ℕ). l ++ digit (suc n % 10)) (digits_same n (suc n / 10) (suc n / 10) (omega arith) (omega arith)))
