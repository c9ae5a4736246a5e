-- What is kept of an input.
use Rattle.std.specs.Prelude.{ℕ, ◌≤◌, List, length, Option, IfSome, Result, Ok, Err}
use Rattle.std.specs.Io.KnownBytes.{IsAtEnd}
use Rattle.listing.specs.Answer.{Wrote}

-- As many bytes stand in the room.
abbrev pub InputFits : {E : Type 0} → List ℕ → Result ℕ E → Type 0
InputFits room (Ok n) = n ≤ length room
InputFits room (Err e) = Unit {0}

-- Where it is known which bytes the reader had, those are what was kept, from the first on and as far as the room holds them, and the reader
-- has come to their end. Where a read failed, nothing is said to be kept.
abbrev pub InputKept : {E : Type 0} → Option (List ℕ) → Option (List ℕ) → List ℕ → List ℕ → Result ℕ E → Type 0
InputKept had left before room (Ok n) = IfSome had (λ (bytes : List ℕ). Wrote before bytes room n) × IsAtEnd left
InputKept had left before room (Err e) = Unit {0}
