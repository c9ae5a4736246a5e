-- What a watch knows before a place: the clean cycles that close before it, and whether a cycle is open there that is clean
-- so far. Each place keeps this: what spoils there, then its closing mark, then its opening mark.
use Rattle.std.specs.Prelude.{◌≡◌, ℕ, ◌<◌, ◌≤◌, List, slice_index, Some, None}
use Rattle.grammar.specs.Moves.{Move}
use Rattle.grammar.specs.Pace.{Kept, Edited}
use Rattle.pace.specs.Found.{Found}
use Rattle.pace.specs.declared.Watch.{Watch}

-- An edit or a kept restart mark has the place.
pub data Spoils (m : ℕ) (ms : List Move) (p : ℕ) : Type 0 where
  edited : Edited ms p → Spoils m ms p
  restarted : 1 ≤ m → Kept ms p m → Spoils m ms p

-- An opening mark is kept at place a, and behind it there is no kept opening mark before x, no kept closing mark before y and
-- nothing that spoils before e.
pub record OpenAt (o c m : ℕ) (ms : List Move) (x y e a : ℕ) : Type 0 where
  pub marked : 1 ≤ o
  pub earlier : a < x
  pub opens : Kept ms a o
  pub no_opening : (p : ℕ) → a < p → p < x → Kept ms p o → ⊥
  pub no_closing : (p : ℕ) → a < p → p < y → Kept ms p c → ⊥
  pub unspoiled : (p : ℕ) → a < p → p < e → Spoils m ms p → ⊥

-- The watch stands at b: what it found, with its sum in ticks, and whether a cycle is open.
pub record Standing (o c m : ℕ) (ticks : List ℕ) (ms : List Move) (b x y e : ℕ) (w : Watch) : Type 0 where
  pub found : Found o c m ticks ms b w.count w.sum
  pub begun : (t : ℕ) → w.since ≡ Some t → (a : ℕ) × OpenAt o c m ms x y e a × (t ≡ slice_index ticks a)
  pub idle : w.since ≡ None → (a : ℕ) → OpenAt o c m ms x y e a → ⊥
