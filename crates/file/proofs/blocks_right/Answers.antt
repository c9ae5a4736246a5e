-- `file::blocks_right` meets its contract: each block's test tells whether its fields are right.
use Prim.Native.Nat.{ℕ, ◌/◌, ◌<◌}
use native.Mathlib.Omega.{arith}
use mathlib.Core.List.{[]}
use mathlib.Core.Path.{◌≡◌, refl, ap, ◌∙◌}
use lib.ListN.{length}
use Rattle.std.proofs.Common.{rules, tests, true, false, of_calls}
use Rattle.std.proofs.lemmas.Iterator.{cases_from_all}
use Rattle.std.proofs.lemmas.Iterator.Consumers.{YieldsList-from_enumerate, YieldsList-at}
use Rattle.std.proofs.lemmas.Iterator.Adapters.{serves_from_places}
use Rattle.base.specs.Telling.{Tells}
use Rattle.grammar.specs.File.{BlockFields, block_count}
use Rattle.file.specs.Answer.{FieldsRight}
use Rattle.file.proofs.Blocks.{fields_block}
use Rattle.file.proofs.Roads.{blocks_road, numbered_block, numbered_length, tells_each}
use Rattle.file.proofs.blocks_right.Goals as goal

pub all-requires-clause-callable : goal.all-requires-clause-callable
all-requires-clause-callable c =
    let blocks = blocks_road c.chunks_exact.result c.args.bytes.now c.chunks_exact.ensures.size c.chunks_exact.ensures.rest in
    let road = YieldsList-from_enumerate (YieldsList-at c.enumerate.ensures.source blocks) c.enumerate.ensures.count in
    serves_from_places road (λ x q t. search (rules, tests))
    (λ x k l e.
    let below : k < block_count c.args.bytes.now = omega (arith, numbered_length c.args.bytes.now) in
    let block = numbered_block c.args.bytes.now k (x.0, x.1.now) below in
    let number : x.0 ≡ k = ap (λ p. p.0) e ∙ block.0 in
    let size : length x.1.now ≡ 512 = ap (λ p. length p.1) e ∙ block.1.size in
    let in_count : x.0 < length c.args.bytes.now / 512 = omega arith in
    search (of_calls, rules, tests))

pub returns : goal.returns
returns c =
    let blocks = blocks_road c.chunks_exact.result c.args.bytes.now c.chunks_exact.ensures.size c.chunks_exact.ensures.rest in
    let road = YieldsList-from_enumerate (YieldsList-at c.enumerate.ensures.source blocks) c.enumerate.ensures.count in
    let count : ℕ = length c.args.bytes.now / 512 in
    tells_each c.args.bytes.now (BlockFields c.args.bytes.now) (λ p r. Tells (FieldsRight count p.0 p.1) r) (0, []) _ c.all.result
    (numbered_length c.args.bytes.now)
    (λ k b l t. let block = numbered_block c.args.bytes.now k (0, []) l in fields_block block.1 refl block.0 t)
    (cases_from_all _ _ c.all.result (λ p. Tells (FieldsRight count p.0 p.1) true) (λ p. Tells (FieldsRight count p.0 p.1) false)
    c.all.ensures.ran road
    (λ x q k. search (rules, tests))
    (λ x q k. search (rules, tests)))
