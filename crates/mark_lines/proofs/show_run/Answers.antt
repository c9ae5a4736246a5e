-- `mark_lines::show_run` meets its contract: the refusal of the repaired log (`marks_refused`), or its lines (`marks_printed`), which fit.
use native.Mathlib.Omega.{arith}
use mathlib.Core.Path.{refl, sym}
use lib.Seq.{length-take-le}
use Rattle.listing.specs.Shown.{shown, shown_refused}
use Rattle.mark_lines.specs.Told.{named_front}
use Rattle.mark_lines.specs.Sizes.{lines_fit}
use Rattle.mark_lines.specs.Leads.{marks_part, marks_few, marks_refused, marks_printed, marks_placed}
use Rattle.mark_lines.proofs.show_run.Goals as goal

pub slice_bounds-marks_as-end : goal.slice_bounds-marks_as-end
slice_bounds-marks_as-end c = sym (length-take-le _ _ (omega (arith, c.number.auto.places, c.requires.log_len_bound)))

pub marks_as-requires : goal.marks_as-requires
marks_as-requires c = record { each = length-take-le _ _ (omega (arith, c.number.auto.places, c.requires.log_len_bound)); small = omega arith }

pub slice_bounds-marked-end : goal.slice_bounds-marked-end
slice_bounds-marked-end c = marks_part c.in-Ok.ensures

pub slice_bounds-listed-end : goal.slice_bounds-listed-end
slice_bounds-listed-end c = sym (length-take-le _ _ (marks_part c.in-Ok.ensures))

pub listed-requires : goal.listed-requires
listed-requires c =
    let named = named_front _ c.args.log.now c.number.ensures c.number.auto.places c.requires.log_len_bound in
    marks_placed c.requires.kept refl _ named
    c.in-Ok.ensures

pub returns-in-Err : goal.returns-in-Err
returns-in-Err c =
    shown_refused c.in-Err.refusal
    (marks_refused c.requires.kept refl c.in-Err.ensures)
    c.refused.ensures (omega (arith, c.requires.in_bounds))

pub returns-in-Ok : goal.returns-in-Ok
returns-in-Ok c =
    let named = named_front _ c.args.log.now c.number.ensures c.number.auto.places c.requires.log_len_bound in
    let told = c.in-Ok.ensures in
    shown (marks_printed c.requires.kept refl _ named told)
    c.listed.ensures.wrote
    (lines_fit c.listed.ensures.words_len_bound (length-take-le _ _ (marks_part told)) (marks_few told) c.requires.in_bounds)
