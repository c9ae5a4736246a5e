-- What the operations on sets give, and what the tests look for.
use Rattle.std.specs.Prelude.{ℕ, ◌-◌, ◌^◌, ◌<◌, true, ◌≡◌, ◌↔◌}
use Rattle.std.specs.Int.Bits.{bit_or}
use Rattle.sets.specs.Bits.{member}

-- The set s, and i.
unfoldable pub with : ℕ → ℕ → ℕ
with s i = bit_or s (2 ^ i)

-- What is in a or in b.
unfoldable pub union : ℕ → ℕ → ℕ
union a b = bit_or a b

-- Some number below 64 is in both.
pub record Shared (a b : ℕ) : Type 0 where
  pub number : ℕ
  pub below : number < 64
  pub left : member a number ≡ true
  pub right : member b number ≡ true

-- The set s without i, which is in it.
unfoldable pub without : ℕ → ℕ → ℕ
without s i = s - 2 ^ i

-- The least number of the set s is i.
pub record Least (s i : ℕ) : Type 0 where
  pub below : i < 64
  pub held : member s i ≡ true
  pub least : (j : ℕ) → j < i → member s j ≡ true → ⊥

-- The greatest number of the set s is i.
pub record Greatest (s i : ℕ) : Type 0 where
  pub below : i < 64
  pub held : member s i ≡ true
  pub greatest : (j : ℕ) → i < j → member s j ≡ true → ⊥

-- The set r has what is in a and not in b.
pub record Beyond (a b r : ℕ) : Type 0 where
  pub exact : (i : ℕ) → (member r i ≡ true) ↔ ((member a i ≡ true) × (member b i ≡ true → ⊥))

-- The set r has the numbers below n.
pub record Below (n r : ℕ) : Type 0 where
  pub exact : (i : ℕ) → (member r i ≡ true) ↔ (i < n)
