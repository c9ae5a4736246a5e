-- The bytes in front of the buffer are those that the reader has lost.
use Rattle.std.proofs.Common.{◌≤◌, ◌-◌, ◌≡◌, length, take}
use Rattle.std.specs.Io.KnownBytes.{Consumes}
use Rattle.test_buffers.proofs.read_full.Given as goal

abbrev pub invariant-loop-read : goal.invariant-loop-read
invariant-loop-read g l = (l.read ≤ length l.buffer) × (length l.buffer ≡ length l.initial.buffer)
    × Consumes (g.R.Read.remaining l.initial.reader) (g.R.Read.remaining l.reader) (take l.read l.buffer)

abbrev pub decreases-loop-read : goal.decreases-loop-read
decreases-loop-read g l = length l.buffer - l.read
