-- An input that is kept, and what its reader has left of it: before the first part, behind one more, and at the end.
use Rattle.std.specs.Prelude.{ℕ, ◌≡◌, List, [], ◌++◌, length, take, Option, IfSome}
use Rattle.std.proofs.Common.{arith, sym, ap, take_all}
use Rattle.std.specs.Io.KnownBytes.{Consumes, IsAtEnd, Keeps}
use Rattle.std.proofs.KnownBytes.{Consumes-nil, Consumes-trans, Consumes-kept, Consumes-whole}
use Rattle.listing.specs.Answer.{Wrote, Appends}

-- What was taken of what the reader had stands in the room, as far as the room holds it.
pub record Stored (had left : Option (List ℕ)) (before : List ℕ) (size : ℕ) (room : List ℕ) : Type 0 where
  pub front : List ℕ
  pub wrote : Wrote before front room size
  pub taken : Consumes had left front

pub stored_nothing : (had : Option (List ℕ)) (room : List ℕ) → Stored had had room 0 room
stored_nothing had room =
    let none : take (length room) [] ≡ [] = take_all (length room) [] (omega arith) in
    record {
      front = [];
      wrote = record { number = sym (ap length none); holds = ap (λ (l : List ℕ). l ++ room) (sym none) };
      taken = Consumes-nil had;
    }

pub stored_more : (had mid left : Option (List ℕ)) {before room after part : List ℕ} {size next : ℕ} → Appends room size part after next
    → Consumes mid left part → Stored had mid before size room → Stored had left before next after
stored_more had mid left {before} {part = part} appends taken stored =
    record {
      front = stored.front ++ part;
      wrote = appends.goes before stored.front stored.wrote;
      taken = Consumes-trans had mid left stored.front part stored.taken taken;
    }

pub stored_whole : (had mid left : Option (List ℕ)) {before room : List ℕ} {size : ℕ} → Keeps mid left → IsAtEnd left
    → Stored had mid before size room → IfSome had (λ (bytes : List ℕ). Wrote before bytes room size) × IsAtEnd left
stored_whole had mid left {before} {room} {size} kept ended stored =
    let all = Consumes-kept had mid left stored.front stored.taken kept in
    (Consumes-whole had left stored.front (λ (bytes : List ℕ). Wrote before bytes room size) all ended stored.wrote, ended)
