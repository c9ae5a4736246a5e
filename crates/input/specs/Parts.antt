-- What a read of a part of an input comes to.
use Rattle.std.specs.Prelude.{ℕ, ◌<◌, ◌≤◌, ◌≡◌, List, length, take, Option, None, Some, Result, Ok, Err}
use Rattle.std.specs.Borrow.{Bor, MutBor}
use Rattle.std.specs.Io.KnownBytes.{Consumes, IsAtEnd, Keeps}
use Rattle.std.specs.Ptr.{as_ptr, as_mut_ptr}

-- As many bytes stand in front of the space, one at least.
abbrev pub FrontFits : {E : Type 0} → List ℕ → Result (Option ℕ) E → Type 0
FrontFits space (Ok (Some n)) = (0 < n) × (n ≤ length space) × (n ≡ length (take n space))
FrontFits space (Ok None) = Unit {0}
FrontFits space (Err e) = Unit {0}

-- What the read did to the bytes that the reader had, where they are known: it took as many from their front; at the end there were none,
-- if the space has room; and a read that failed took none, and tells nothing of the end.
abbrev pub FrontTaken : {E : Type 0} → Option (List ℕ) → Option (List ℕ) → List ℕ → Result (Option ℕ) E → Type 0
FrontTaken old new space (Ok (Some n)) = Consumes old new (take n space)
FrontTaken old new space (Ok None) = Keeps old new × (0 < length space → IsAtEnd new)
FrontTaken old new space (Err e) = Keeps old new

-- A part has a byte, and no more than the space.
abbrev pub PartFits : {E : Type 0} → List ℕ → Result (Option (Bor (List ℕ))) E → Type 0
PartFits space (Ok (Some part)) = (0 < length part.now) × (length part.now ≤ length space)
PartFits space (Ok None) = Unit {0}
PartFits space (Err e) = Unit {0}

-- A part begins where the space begins.
abbrev pub PartFront : {E : Type 0} → MutBor (List ℕ) → Result (Option (Bor (List ℕ))) E → Type 0
PartFront space (Ok (Some part)) = as_ptr part ≡ as_mut_ptr space
PartFront space (Ok None) = Unit {0}
PartFront space (Err e) = Unit {0}

-- Where the bytes are known that the reader had, a part is what it lost from their front; at the end there were none, if the space has
-- room; and a read that failed took none, and tells nothing of the end.
abbrev pub PartTaken : {E : Type 0} → Option (List ℕ) → Option (List ℕ) → List ℕ → Result (Option (Bor (List ℕ))) E → Type 0
PartTaken old new space (Ok (Some part)) = Consumes old new part.now
PartTaken old new space (Ok None) = Keeps old new × (0 < length space → IsAtEnd new)
PartTaken old new space (Err e) = Keeps old new
