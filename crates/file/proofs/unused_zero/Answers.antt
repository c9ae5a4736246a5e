-- `file::unused_zero` meets its contract: the part that it tests holds the unused words and nothing else.
use Prim.Native.Nat.{ℕ, ◌+◌, ◌*◌, ◌-◌}
use native.Mathlib.Omega.{arith}
use Rattle.file.proofs.Zeros.{part_tells}
use Rattle.file.proofs.unused_zero.Goals as goal

pub returns : goal.returns
returns c =
    let used : ℕ = c.args.used in
    part_tells c.args.block.now 0 used (510 - (4 + 2 * used)) (omega arith) (omega arith) c.all_zero.ensures
