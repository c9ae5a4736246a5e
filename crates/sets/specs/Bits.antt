-- A set of numbers below 64 as the bits of a number.
use Rattle.std.specs.Prelude.{ℕ, ◌/◌, ◌%◌, ◌^◌, Bool, eqb}

-- Number i is in the set s: bit i of s is 1.
unfoldable pub member : ℕ → ℕ → Bool
member s i = eqb (s / 2 ^ i % 2) 1
