use Rattle.std.proofs.Common.{ℕ, ◌≤◌, ◌<◌}
use Rattle.shape.specs.Parts.{TerminalRight}
use Rattle.shape.proofs.terminals_right.Given as goal

abbrev pub invariant-loop-t : goal.invariant-loop-t
invariant-loop-t l = (k : ℕ) → k < l.t → 1 ≤ k → TerminalRight l.words k
