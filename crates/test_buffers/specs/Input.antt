-- What was taken of an input, where it is known which bytes the reader had.
use Rattle.std.specs.Prelude.{ℕ, ◌≡◌, ◌≤◌, ◌<◌, ◌-◌, ◌++◌, min, Bool, true, false, List, length, take, Option, None, Some, IfSome, Result, Ok, Err}
use Rattle.std.specs.Int.{w32, from_le_bytes}
use Rattle.std.specs.Io.KnownBytes.{Consumes, IsAtEnd}

-- A buffer was filled by the first of these bytes; or there were fewer, and the reader has come to their end.
abbrev pub Filled : Option (List ℕ) → Option (List ℕ) → List ℕ → Bool → Type 0
Filled old new buffer true = Consumes old new buffer
Filled old new buffer false = IfSome old (λ (bytes : List ℕ). length bytes < length buffer) × IsAtEnd new

-- A length was taken that stands in four bytes, the lowest first.
pub record SizeIn (old new : Option (List ℕ)) (size : ℕ) : Type 0 where
  pub head : List ℕ
  pub long : length head ≡ 4
  pub said : size ≡ from_le_bytes w32 head
  pub taken : Consumes old new head

-- A length, or none where fewer than four bytes were left.
abbrev pub SizeTaken : {E : Type 0} → Option (List ℕ) → Option (List ℕ) → Result (Option ℕ) E → Type 0
SizeTaken old new (Ok (Some size)) = SizeIn old new size
SizeTaken old new (Ok None) = IfSome old (λ (bytes : List ℕ). length bytes < 4) × IsAtEnd new
SizeTaken old new (Err e) = Unit {0}

-- A length was taken and behind it a text: its first n bytes stand in front of the room, no more than it says and the room holds, and what was
-- passed over behind them is no more than is left of the text.
pub record TextIn (old new : Option (List ℕ)) (room : List ℕ) (n : ℕ) : Type 0 where
  pub head : List ℕ
  pub passed : List ℕ
  pub long : length head ≡ 4
  pub kept : n ≤ min (from_le_bytes w32 head) (length room)
  pub rest : length passed ≤ from_le_bytes w32 head - min (from_le_bytes w32 head) (length room)
  pub taken : Consumes old new (head ++ (take n room ++ passed))

-- So many bytes at most were taken.
pub record Passed (old new : Option (List ℕ)) (most : ℕ) : Type 0 where
  pub bytes : List ℕ
  pub long : length bytes ≤ most
  pub taken : Consumes old new bytes

-- A text, or none where fewer than four bytes were left.
abbrev pub TextTaken : {E : Type 0} → Option (List ℕ) → Option (List ℕ) → List ℕ → Result (Option ℕ) E → Type 0
TextTaken old new room (Ok (Some n)) = TextIn old new room n
TextTaken old new room (Ok None) = IfSome old (λ (bytes : List ℕ). length bytes < 4) × IsAtEnd new
TextTaken old new room (Err e) = Unit {0}
