-- `writer::write_block` meets its contract: number, use count, words and check, each behind what stands there (`block_put`).
use Prim.Native.Nat.{ℕ, ◌%◌, ◌*◌, ◌+◌, ◌-◌}
use native.Mathlib.Omega.{arith}
use mathlib.Core.Path.{ap, ◌∙◌}
use mathlib.Core.List.{List}
use lib.ListN.{length, drop, length-drop}
use lib.Seq.{take_all}
use Rattle.block.proofs.Parts.{sum_part}
use Rattle.writer.proofs.Putting.{block_put}
use Rattle.writer.proofs.write_block.Goals as goal

pub returns : goal.returns
returns c =
    let ws : List ℕ = c.args.words.now in
    let from : ℕ = 253 * c.args.k in
    let at : ℕ = 512 * c.args.k in
    let size : ℕ = 4 + 2 * c.min-used.result in
    let rest = take_all (length ws - from) (drop from ws) (omega (arith, length-drop from ws)) in
    let count = rw rest at c.min-used.ensures in
    let words = rw rest at c.put_words.ensures in
    let found = c.check_of-check.ensures ∙ ap (λ (s : ℕ). s % 65521) (sum_part _ at size _ (omega arith) (omega arith)) in
    block_put _ _ _ c.requires.k_in_bounds_2 c.requires.bytes_value count c.put_pair.ensures c.put_pair-2.ensures words found
    c.put_pair-3.ensures
