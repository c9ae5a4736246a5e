-- `pace::cycles` meets its contract. The loop's invariant: the watch stands at the place (`Watching`).
use Rattle.std.proofs.Common.{arith}
use Rattle.pace.proofs.Watching.{watching_start, watching_small, watching_exact, watching_next, watching_end}
use Rattle.pace.proofs.cycles.Goals as goal

pub marks_of-marks-requires : goal.marks_of-marks-requires
marks_of-marks-requires c = c.requires.shaped

pub loop-place-init : goal.loop-place-init
loop-place-init c = (c.marks_of-marks.ensures, watching_start c.requires)

pub here_at-here-requires : goal.here_at-here-requires
here_at-here-requires c = c.loop-place.invariant.1.cursor

pub offset_bounds-ticks-place : goal.offset_bounds-ticks-place
offset_bounds-ticks-place c = omega (arith, c.loop-place-test.true, c.loop-place.invariant.1.lent.tokens)

pub bounds-ticks-place : goal.bounds-ticks-place
bounds-ticks-place c = omega (arith, c.loop-place-test.true, c.loop-place.invariant.1.lent.ticked)

pub passed-watch-requires : goal.passed-watch-requires
passed-watch-requires c = watching_small c.loop-place.invariant.1

pub loop-place-preserved : goal.loop-place-preserved
loop-place-preserved c = (c.loop-place.invariant.0, watching_next c.loop-place.invariant.1 c.loop-place.invariant.0 c.loop-place-test.true c.here_at-here.ensures c.passed-watch.ensures)

pub pace_of-requires : goal.pace_of-requires
pace_of-requires c = watching_exact c.loop-place.invariant.1

pub returns : goal.returns
returns c = watching_end c.loop-place.invariant.1 c.loop-place-test.false c.pace_of.ensures
