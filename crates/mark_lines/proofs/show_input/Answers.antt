-- `mark_lines::show_input` meets its contract: the refusal of its count or its file, or what the run gives.
use native.Mathlib.Omega.{arith}
use mathlib.Core.Path.{refl, sym}
use lib.Seq.{length-take-le}
use Rattle.listing.specs.Shown.{shown_refused, apart_parts, apart_kept, apart_short}
use Rattle.mark_lines.specs.Shown.{taken_refused}
use Rattle.mark_lines.proofs.show_input.Goals as goal

pub slice_bounds-words-end : goal.slice_bounds-words-end
slice_bounds-words-end c = (apart_parts c.in-Ok.ensures).0

pub slice_bounds-show_run-end : goal.slice_bounds-show_run-end
slice_bounds-show_run-end c = sym (length-take-le _ _ (apart_parts c.in-Ok.ensures).0)

pub slice_bounds-tokens-end : goal.slice_bounds-tokens-end
slice_bounds-tokens-end c = (apart_parts c.in-Ok.ensures).1.0

pub slice_bounds-show_run-end-in-Ok : goal.slice_bounds-show_run-end-in-Ok
slice_bounds-show_run-end-in-Ok c = sym (length-take-le _ _ (apart_parts c.in-Ok.ensures).1.0)

pub slice_bounds-ticks-end : goal.slice_bounds-ticks-end
slice_bounds-ticks-end c = (apart_parts c.in-Ok.ensures).1.1

pub slice_bounds-show_run-end-in-Ok-2 : goal.slice_bounds-show_run-end-in-Ok-2
slice_bounds-show_run-end-in-Ok-2 c = sym (length-take-le _ _ (apart_parts c.in-Ok.ensures).1.1)

pub show_run-requires : goal.show_run-requires
show_run-requires c =
    let told = c.in-Ok.ensures in
    record {
      in_bounds = c.requires;
      log_len_bound = apart_short told;
      kept = apart_kept told refl refl refl;
    }

pub returns-in-Err : goal.returns-in-Err
returns-in-Err c =
    shown_refused c.in-Err.refusal
    (taken_refused c.in-Err.ensures refl)
    c.refused.ensures (omega (arith, c.requires))
