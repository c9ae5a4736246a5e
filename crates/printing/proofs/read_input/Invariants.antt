-- What was read so far stands in the room, as far as it holds that.
use Rattle.std.proofs.Common.{◌≤◌, length}
use Rattle.printing.proofs.Keeping.{Stored}
use Rattle.printing.proofs.read_input.Given as goal

abbrev pub invariant-loop : goal.invariant-loop
invariant-loop g l = record {
  within : l.size ≤ length l.room;
  stored : Stored (g.R.Read.remaining l.initial.reader) (g.R.Read.remaining l.reader) l.initial.room l.size l.room;
}
