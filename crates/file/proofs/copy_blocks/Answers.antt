-- `file::copy_blocks` meets its contract: the words of the blocks before are copied (`BlocksCopied`).
use native.Mathlib.Omega.{arith}
use Prim.Native.Nat.{ℕ}
use mathlib.Core.Path.{ap, ◌∙◌}
use Rattle.std.proofs.Common.{rules, ◌+◌}
use Rattle.std.proofs.lemmas.List.{length_push}
use Rattle.base.specs.Written.{written}
use Rattle.grammar.specs.Theory.Files.{use_most, block_fits}
use Rattle.file.proofs.Blocks.{block_below, used_block, words_block}
use Rattle.file.proofs.Roads.{blocks_road, in_length, turn_block}
use Rattle.std.proofs.lemmas.Iterator.Consumers.{YieldsList-turn, YieldsList-end}
use Rattle.file.proofs.Copying.{blocks_end_lem, blocks_begin, blocks_go}
use Rattle.file.proofs.copy_blocks.Goals as goal

pub loop-block-init : goal.loop-block-init
loop-block-init c = blocks_begin _ _

pub copy_block-at-requires : goal.copy_block-at-requires
copy_block-at-requires c =
    let road = blocks_road c.into_iter-block-iterator.result c.args.bytes.now (search rules) (search rules) in
    let turn = YieldsList-turn road c.loop-block.yielded _ c.loop-block.yielded_by _ _ c.in-Some.block c.in-Some.is c.next.ensures.steps in
    let here = turn_block c.args.bytes.now turn in
    let below = block_below here in
    let most = use_most (c.requires.each_block _ below).use_count in
    record {
      block_size = here.size;
      used_bound = omega (arith, most, used_block here);
      used_in_bounds =
          omega
          (arith, used_block here, block_fits _ c.requires.each_block _ below, c.loop-block.invariant.place, c.loop-block.invariant.same);
    }

pub loop-block-preserved : goal.loop-block-preserved
loop-block-preserved c =
    let road = blocks_road c.into_iter-block-iterator.result c.args.bytes.now (search rules) (search rules) in
    let turn = YieldsList-turn road c.loop-block.yielded _ c.loop-block.yielded_by _ _ c.in-Some.block c.in-Some.is c.next.ensures.steps in
    let here = turn_block c.args.bytes.now turn in
    let below = block_below here in
    let most = use_most (c.requires.each_block _ below).use_count in
    let place = c.copy_block-at.ensures.value ∙ ap (λ (n : ℕ). c.loop-block.at + n) (used_block here) in
    let holds = c.copy_block-at.ensures.words_after ∙ ap (written c.loop-block.words c.loop-block.at) (words_block here most) in
    let copied = blocks_go c.loop-block.invariant c.copy_block-at.auto.words place holds in
    rw (length_push c.loop-block.yielded c.in-Some.block) copied

pub returns : goal.returns
returns c =
    let road = blocks_road c.into_iter-block-iterator.result c.args.bytes.now (search rules) (search rules) in
    let end = YieldsList-end road c.loop-block.yielded _ c.loop-block.yielded_by _ _ c.in-None.is c.next.ensures.steps in
    blocks_end_lem c.loop-block.invariant (end.1 ∙ in_length _ _)
