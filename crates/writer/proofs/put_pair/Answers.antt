-- `writer::put_pair` meets its contract: two bytes set one after the other are the number's bytes.
use Prim.Native.Nat.{ℕ, ◌/◌, ◌%◌}
use native.Mathlib.Omega.{arith}
use mathlib.Core.Path.{◌≡◌, ap, ◌∙◌}
use mathlib.Core.List.{List}
use lib.ListN.{get_or}
use Rattle.writer.proofs.Putting.{pair_put}
use Rattle.writer.proofs.put_pair.Goals as goal

pub returns : goal.returns
returns c =
    let high : c.args.word / 256 % 256 ≡ c.args.word / 256 = omega (arith, c.ranges.word.fits) in
    pair_put _ _ _ c.requires
    (ap (λ (l : List ℕ). get_or l 0 0) c.to_le_bytes.ensures)
    (ap (λ (l : List ℕ). get_or l 1 0) c.to_le_bytes.ensures ∙ high)
