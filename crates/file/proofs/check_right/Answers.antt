-- `file::check_right` meets its contract: the comparison is that of the stored check with the block's.
use Prim.Native.Nat.{ℕ, ◌%◌}
use native.Mathlib.Omega.{arith}
use lib.Seq.{length-take-le}
use mathlib.Core.Path.{refl, sym, ap, ◌∙◌}
use Rattle.base.specs.Telling.{tells_eq}
use Rattle.block.proofs.Parts.{sum_part}
use Rattle.file.proofs.check_right.Goals as goal

pub slice_bounds-check_of-end : goal.slice_bounds-check_of-end
slice_bounds-check_of-end c = omega (arith, length-take-le 510 c.args.block.now (omega arith))

pub returns : goal.returns
returns c =
    let found = c.check_of.ensures ∙ ap (λ (s : ℕ). s % 65521) (sum_part c.args.block.now 0 510 510 refl (omega arith)) in
    tells_eq _ _ (λ same. sym c.pair.ensures ∙ (same ∙ found)) (λ right. c.pair.ensures ∙ (right ∙ sym found))
