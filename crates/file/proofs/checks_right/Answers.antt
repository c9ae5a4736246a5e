-- `file::checks_right` meets its contract: each block's test tells whether its check is right.
use mathlib.Core.List.{[]}
use Rattle.std.proofs.Common.{rules, tests, true, false}
use Rattle.std.proofs.lemmas.Iterator.{cases_from_all}
use Rattle.base.specs.Telling.{Tells}
use Rattle.grammar.specs.Theory.Files.{CheckRight}
use Rattle.file.proofs.Blocks.{check_block}
use Rattle.file.proofs.Roads.{blocks_road, in_length, in_block, tells_each}
use Rattle.file.proofs.checks_right.Goals as goal

pub returns : goal.returns
returns c =
    let road = blocks_road c.chunks_exact.result c.args.bytes.now c.chunks_exact.ensures.size c.chunks_exact.ensures.rest in
    tells_each c.args.bytes.now (CheckRight c.args.bytes.now) (λ b r. Tells (CheckRight b 0) r) [] _ c.all.result
    (in_length _ _)
    (λ k b l t. check_block (in_block _ k [] l) t)
    (cases_from_all _ _ c.all.result (λ b. Tells (CheckRight b 0) true) (λ b. Tells (CheckRight b 0) false) c.all.ensures.ran road
    (λ x q k. search (rules, tests))
    (λ x q k. search (rules, tests)))
