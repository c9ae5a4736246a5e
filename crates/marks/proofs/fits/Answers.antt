-- `marks::fits` meets its contract: what is left of the room and what the records passed take of it make the room.
use Rattle.std.proofs.Common.{ap, ◌∙◌, arith}
use Rattle.base.specs.Telling.{tells_le}
use Rattle.marks.specs.Restoring.{behind_by}
use Rattle.marks.proofs.Sizing.{size_next, size_over, size_goes, size_ends, added_small}
use Rattle.marks.proofs.fits.Goals as goal

pub overflow_add-size : goal.overflow_add-size
overflow_add-size c =
    let step = c.in-Some.ensures.steps.1 in
    omega (
      arith,
      c.from-at.ensures,
      c.type_inv.record 1,
      c.added.ensures,
      added_small c.requires (size_next c.loop-record.invariant.1 _ _ step.0 (step.1 ∙ c.loop-record.invariant.0)).names,
    )

pub returns-then-left-size : goal.returns-then-left-size
returns-then-left-size c =
    let step = c.in-Some.ensures.steps.1 in
    size_over c.loop-record.invariant.1 _ _ step.0 (step.1 ∙ c.loop-record.invariant.0) (omega (arith, c.from-at.ensures, c.added.ensures))
    c.if-left-size.true

pub loop-record-preserved : goal.loop-record-preserved
loop-record-preserved c =
    let step = c.in-Some.ensures.steps.1 in (
      c.in-Some.ensures.steps.0 ∙ c.loop-record.invariant.0,
      size_goes c.loop-record.invariant.1 _ _ step.0 (step.1 ∙ c.loop-record.invariant.0) (omega (arith, c.from-at.ensures, c.added.ensures))
          (omega (arith, c.if-left-size.false)) (c.behind-place.ensures ∙ ap (behind_by _) c.from-at.ensures),
    )

pub returns : goal.returns
returns c =
    size_ends c.loop-record.invariant.1 (omega (arith, c.in-None.ensures.steps.1.0, c.loop-record.invariant.0)) _
    (tells_le _ _ (λ l. omega (arith, c.saturating_sub.ensures)) (λ l. omega (arith, c.saturating_sub.ensures)))
