-- `pace::here_at` meets its contract. The loop's invariant: the records passed are those of the place (`Looked`).
use Rattle.std.proofs.Common.{sym, ◌∙◌, arith}
use Rattle.pace.proofs.Looking.{looked_none, looked_delete, looked_other, looked_all}
use Rattle.pace.proofs.here_at.Goals as goal
use Rattle.pace.proofs.here_at.Goals.{then-kind_of-eq-DELETE, else-kind_of-eq-DELETE}

pub loop-deleted-init : goal.loop-deleted-init
loop-deleted-init c = looked_none c.requires.within

pub stands-requires : goal.stands-requires
stands-requires c = c.requires.rising.room

pub kind_of-requires : goal.kind_of-requires
kind_of-requires c =
    let there = c.stands.ensures.yes c.loop-deleted-test.true in
    omega (arith, there.0, c.requires.rising.room)

pub overflow_add-behind : goal.overflow_add-behind
overflow_add-behind c = omega (arith, (c.stands.ensures.yes c.loop-deleted-test.true).0)

pub loop-deleted-smaller : goal.loop-deleted-smaller
loop-deleted-smaller c = omega (arith, (c.stands.ensures.yes c.loop-deleted-test.true).0)

pub loop-deleted-preserved : goal.loop-deleted-preserved
loop-deleted-preserved c =
    let there = c.stands.ensures.yes c.loop-deleted-test.true in
    elim c.if-kind_of-eq-DELETE.branch [ then-kind_of-eq-DELETE w ↦ looked_delete c.loop-deleted.invariant there w.deleted-is (sym c.kind_of.ensures ∙ w.if-kind_of-eq-DELETE.true) | else-kind_of-eq-DELETE w ↦ looked_other c.loop-deleted.invariant there w.deleted-is (λ e. w.if-kind_of-eq-DELETE.false (c.kind_of.ensures ∙ e)) ]

pub returns : goal.returns
returns c = looked_all c.requires c.loop-deleted.invariant (c.stands.ensures.no c.loop-deleted-test.false)
