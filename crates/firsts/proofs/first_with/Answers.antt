-- `firsts::first_with` meets its contract: the walk goes on behind a nonterminal that can be empty, and ends at any other symbol (`Fronted`).
use Rattle.std.proofs.Common.{sym}
use Rattle.firsts.specs.Fronts.{front_begins, front_at, front_token, front_past, front_stop, front_ends}
use Rattle.firsts.proofs.first_with.Goals as goal

pub loop-x-init : goal.loop-x-init
loop-x-init c = front_begins _

pub returns-then-x-lt64 : goal.returns-then-x-lt64
returns-then-x-lt64 c =
    rw (← c.right_side-right.ensures.right.is)
    (front_token (front_at _ c.loop-x-test.true c.loop-x.invariant) c.if-x-lt64.true c.with.ensures)

pub returns-then-not-has : goal.returns-then-not-has
returns-then-not-has c =
    rw (← c.right_side-right.ensures.right.is)
    (front_stop (front_at _ c.loop-x-test.true c.loop-x.invariant) c.if-x-lt64.false (rw c.from.ensures at c.union-set.ensures)
    (sym c.if-not-has.ensures))

pub loop-x-preserved : goal.loop-x-preserved
loop-x-preserved c =
    front_past (front_at _ c.loop-x-test.true c.loop-x.invariant) c.if-x-lt64.false (rw c.from.ensures at c.union-set.ensures)
    (sym c.if-not-has.ensures)

pub returns : goal.returns
returns c =
    rw (← c.right_side-right.ensures.right.is) (front_ends _ c.loop-x-test.false c.loop-x.invariant c.union.ensures)
