-- `listing::lines::Pen::edit_lines` meets its contract: the lines of the records that the iterator gave are written (`Editing`).
use Rattle.std.proofs.Common.{arith, ◌∙◌}
use Rattle.listing.proofs.Editing.{editing_goes, editing_ends}
use Rattle.listing.proofs.lines.Pen.edit_lines.Goals as goal

pub loop-record-preserved : goal.loop-record-preserved
loop-record-preserved c =
    let steps = c.in-Some.ensures.steps in
    let three = c.loop-record.invariant.2 in (
      omega (arith, steps.0, three),
      tt,
      steps.0 ∙ three,
      editing_goes c.in-Some.record.now c.next.new.self.rest.now c.loop-record.invariant.3 steps.1.0 (steps.1.1 ∙ three) c.edit_line.ensures,
    )

pub returns : goal.returns
returns c = editing_ends c.loop-record.invariant.3 (omega (arith, c.in-None.ensures.steps.1.0, c.loop-record.invariant.2))
