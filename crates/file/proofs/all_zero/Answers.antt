-- `file::all_zero` meets its contract: the bytes in front of the index are joined (`Joined`).
use native.Mathlib.Omega.{arith}
use Rattle.file.proofs.Zeros.{joined_begins, joined_goes, joined_tells}
use Rattle.file.proofs.all_zero.Goals as goal

pub loop-byte-init : goal.loop-byte-init
loop-byte-init c = joined_begins _

pub loop-byte-preserved : goal.loop-byte-preserved
loop-byte-preserved c = joined_goes c.loop-byte.invariant

pub returns : goal.returns
returns c = joined_tells c.loop-byte.invariant (omega arith)
