-- What theorems of proofs/Theory/Counted.antt speak of.
use Rattle.std.specs.Prelude.{◌*◌, ◌≤◌, length}
use Rattle.grammar.specs.Run.{State, Limits}

-- No limit is passed: the stack is not too high, and what is listed fits.
pub record Within (L : Limits) (s : State) : Type 0 where
  pub height : length s.stack ≤ L.height
  pub records : 3 * s.records ≤ L.edit_room
  pub listed : s.listed ≤ L.rule_room
