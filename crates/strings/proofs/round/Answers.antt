-- `strings::round` meets its contract: k entries are the sums over their right sides.
use Rattle.std.proofs.Common.{◌∙◌, ap, arith, length-take-le, get_or-take}
use Rattle.grammar.specs.Theory.Closed.{total}
use Rattle.strings.specs.Spelling.{length_in, members}
use Rattle.strings.proofs.Filling.{round_begins, round_goes, round_ends}
use Rattle.strings.proofs.round.Goals as goal

pub loop-k-init : goal.loop-k-init
loop-k-init c = round_begins

pub sum_of-requires : goal.sum_of-requires
sum_of-requires c =
    let size = length-take-le c.args.count c.args.table.now (omega (arith, c.requires.few, c.requires.table_size)) in
    rw (get_or-take c.args.count c.args.table.now c.loop-k.k 0 (omega (arith, size, c.loop-k-test.true)))
    (c.requires.sums c.loop-k.k (omega (arith, size, c.requires.few, c.loop-k-test.true)))

pub bounds-next-k : goal.bounds-next-k
bounds-next-k c =
    let size = length-take-le c.args.count c.args.table.now (omega (arith, c.requires.few, c.requires.table_size)) in
    omega (arith, size, c.loop-k.auto.next, c.requires.next_size, c.requires.few, c.loop-k-test.true)

pub loop-k-preserved : goal.loop-k-preserved
loop-k-preserved c =
    let size = length-take-le c.args.count c.args.table.now (omega (arith, c.requires.few, c.requires.table_size)) in
    round_goes (omega (arith, size, c.loop-k.auto.next, c.requires.next_size, c.requires.few, c.loop-k-test.true)) c.loop-k.invariant
    (c.sum_of.ensures
    ∙ ap (λ w. total (length_in c.args.lengths.now) (members w))
    (get_or-take c.args.count c.args.table.now c.loop-k.k 0 (omega (arith, size, c.loop-k-test.true))))

pub returns : goal.returns
returns c =
    let size = length-take-le c.args.count c.args.table.now (omega (arith, c.requires.few, c.requires.table_size)) in
    round_ends (omega (arith, size, c.loop-k-test.false, c.loop-k.auto.k-end)) c.loop-k.invariant
