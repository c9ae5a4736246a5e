-- `listing::show_run` meets its contract: the report's refusal (`kept_refused`), or the listing (`kept_listed`), which fits.
use Rattle.std.proofs.Common.{arith, sym, length-take-le}
use Rattle.listing.specs.Leads.{reported_part, kept_refused, kept_listed}
use Rattle.listing.specs.Shown.{shown, shown_refused, fits_front}
use Rattle.listing.proofs.show_run.Goals as goal

pub overflow_mul-edits : goal.overflow_mul-edits
overflow_mul-edits c = omega (arith, reported_part c.in-Ok.ensures, c.report.auto.edits)

pub slice_bounds-edits-end : goal.slice_bounds-edits-end
slice_bounds-edits-end c = reported_part c.in-Ok.ensures

pub slice_bounds-listed-end : goal.slice_bounds-listed-end
slice_bounds-listed-end c = sym (length-take-le _ _ (reported_part c.in-Ok.ensures))

pub returns-in-Err : goal.returns-in-Err
returns-in-Err c =
    shown_refused c.in-Err.refusal (kept_refused c.requires.kept c.in-Err.ensures) c.refused.ensures (omega (arith, c.requires.in_bounds))

pub returns-in-Ok : goal.returns-in-Ok
returns-in-Ok c =
    let part = reported_part c.in-Ok.ensures in
    shown (kept_listed c.requires.kept c.in-Ok.ensures)
    c.listed.ensures.wrote
    (fits_front c.listed.ensures.report_len_bound (length-take-le _ _ part) part c.report.auto.edits c.requires.in_bounds)
