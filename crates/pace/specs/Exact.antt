-- Up to 2^53 a number becomes an f64 without loss.
use Rattle.std.specs.Prelude.{◌≡◌, ℕ, ◌≤◌, T, pos}
use Rattle.std.proofs.Common.{arith, le→leb}
use Rattle.std.specs.Float.{binary64}
use Rattle.std.specs.Float.Ieee.{in_float, of_int, to_unsigned}
use Rattle.std.specs.Float.Ieee.Back.{unsigned_back}

pub lossless : (n : ℕ) → n ≤ 9007199254740992 → T (in_float binary64 (pos n))
unfolding in_float
lossless n l = le→leb n 9007199254740992 l

-- Back again it is the same number.
pub exact : (n : ℕ) → n ≤ 9007199254740992 → to_unsigned 64 (of_int binary64 (pos n)) ≡ n
exact n l = (unsigned_back binary64 64 n (lossless n l) (omega arith)).1
