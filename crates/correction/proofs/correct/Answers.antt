-- `correction::correct` meets its contract: the tokens passed are deleted, since no correction can use one of them. The measure is
-- what is left of the log: END can be used.
use Prim.Native.Nat.{◌<◌, ◌+◌, ◌-◌}
use native.Mathlib.Omega.{arith}
use mathlib.Core.Path.{sym, subst}
use lib.ListN.{length}
use Rattle.correction.specs.Deleting.{deleted_none, deleted_more}
use Rattle.correction.proofs.Correcting.{seek_can, record_can, delete_can, pop_can, corrected_full, corrected_on}
use Rattle.correction.proofs.correct.Goals as goal

pub loop-i-init : goal.loop-i-init
loop-i-init c = deleted_none _ _ _ _ _ c.requires.place

pub seek-requires : goal.seek-requires
seek-requires c = seek_can c.requires c.loop-i.invariant

pub write_record-requires : goal.write_record-requires
write_record-requires c = record_can c.requires c.loop-i.invariant

pub deleted-q-requires : goal.deleted-q-requires
deleted-q-requires c = delete_can c.requires c.loop-i.invariant

pub loop-i-smaller : goal.loop-i-smaller
loop-i-smaller c =
    subst (λ x. length c.args.log.now + 1 - x.place < length c.args.log.now + 1 -
    c.loop-i.q.place) (sym c.deleted-q.ensures) (omega (arith, c.loop-i.invariant.within))

pub loop-i-preserved : goal.loop-i-preserved
loop-i-preserved c =
    deleted_more c.requires c.loop-i.invariant c.seek.ensures c.in_default.is
    c.deleted-q.ensures c.token_at.ensures c.write_record.ensures

pub pop-u-requires : goal.pop-u-requires
pop-u-requires c = pop_can c.requires c.loop-i.invariant _ c.seek.ensures c.in-Some.is

pub overflow_mul-u : goal.overflow_mul-u
overflow_mul-u c =
    omega (
      arith,
      (pop_can c.requires c.loop-i.invariant _ c.seek.ensures c.in-Some.is).count,
      c.pop-u.ensures.records,
      c.pop-u.ensures.few,
    )

pub returns-then-edits-u : goal.returns-then-edits-u
returns-then-edits-u c = corrected_full c.requires c.loop-i.invariant _ c.seek.ensures c.in-Some.is c.pop-u.ensures c.if-edits-u.true

pub returns-in-loop-i : goal.returns-in-loop-i
returns-in-loop-i c = corrected_on c.requires c.loop-i.invariant _ c.seek.ensures c.in-Some.is c.pop-u.ensures c.if-edits-u.false
