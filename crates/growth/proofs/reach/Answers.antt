-- `growth::reach` meets its contract: what is done has been stepped on from and is emptied. The measure is what is left to be done.
use Rattle.std.proofs.Common.{◌^◌, ◌<◌, rules, arith}
use Rattle.growth.specs.Along.{along_begins, along_goes, along_ends, along_less, spent_begins, spent_goes, spent_ends, spent_unstepped}
use Rattle.growth.proofs.reach.Goals as goal

pub loop-reached-init : goal.loop-reached-init
loop-reached-init c = (rw c.with-reached.ensures (along_begins _), spent_begins _)

pub returns-then-rest-eq0 : goal.returns-then-rest-eq0
returns-then-rest-eq0 c = record {
  reached = along_ends c.beyond-rest.ensures c.if-rest-eq0.true c.loop-reached.invariant.0;
  spent = spent_ends c.beyond-rest.ensures c.if-rest-eq0.true c.loop-reached.invariant.0 c.loop-reached.invariant.1;
}

pub loop-reached-smaller : goal.loop-reached-smaller
loop-reached-smaller c =
    let small : c.with-done.result < 2 ^ 64 = search rules in
    rw c.with-done.ensures (along_less c.beyond-rest.ensures c.least-k.ensures (omega (arith, c.with-done.ensures)))

pub loop-reached-preserved : goal.loop-reached-preserved
loop-reached-preserved c =
    let same = spent_unstepped c.loop-reached.invariant.1 c.beyond-rest.ensures c.least-k.ensures in (
      rw (c.union-reached.ensures, c.from-at.ensures, c.with-done.ensures)
          (along_goes c.loop-reached.invariant.0 c.beyond-rest.ensures c.least-k.ensures same),
      rw (c.with-done.ensures, c.from-at.ensures) (spent_goes c.loop-reached.invariant.1 (omega (arith, c.least-k.ensures.below, c.loop-reached.invariant.1.same))),
    )
