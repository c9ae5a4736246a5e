-- `marks::restore` meets its contract: what is written and what the records still to come make is the whole result.
use Rattle.std.specs.Slice.Iter.{chunks_exact_rest}
use Rattle.std.proofs.Common.{◌≡◌, ◌≤◌, ◌-◌, length, take, drop, rules, ap, subst, ◌∙◌, arith}
use Rattle.marks.specs.Marking.{Copied}
use Rattle.marks.specs.Restoring.{behind_by}
use Rattle.marks.proofs.Walking.{walk_begins, walk_next, walk_can_copy, walk_can_add, walk_goes, walk_can_end, walk_ends, kept_rest}
use Rattle.marks.proofs.restore.Goals as goal

pub loop-record-init : goal.loop-record-init
loop-record-init c =
    let whole : chunks_exact_rest c.into_iter-record-iterator.result ≡ c.args.records.now = search rules in
    (search rules, rw whole (walk_begins c.requires))

pub offset_bounds-kept-place : goal.offset_bounds-kept-place
offset_bounds-kept-place c =
    let step = c.in-Some.ensures.steps.1 in
    let next = walk_next c.requires c.loop-record.invariant.1 _ _ step.0 (step.1 ∙ c.loop-record.invariant.0) in
    omega (arith, next.rises, next.within, c.well_formed)

pub slice_bounds-copy-count : goal.slice_bounds-copy-count
slice_bounds-copy-count c =
    let step = c.in-Some.ensures.steps.1 in
    let next = walk_next c.requires c.loop-record.invariant.1 _ _ step.0 (step.1 ∙ c.loop-record.invariant.0) in
    omega (arith, next.rises, c.from-at.ensures)

pub slice_bounds-copy-start : goal.slice_bounds-copy-start
slice_bounds-copy-start c =
    let step = c.in-Some.ensures.steps.1 in
    let next = walk_next c.requires c.loop-record.invariant.1 _ _ step.0 (step.1 ∙ c.loop-record.invariant.0) in
    let low : c.loop-record.place ≤ c.from-at.result = omega (arith, next.rises, c.from-at.ensures) in low

pub slice_bounds-copy-end : goal.slice_bounds-copy-end
slice_bounds-copy-end c =
    let step = c.in-Some.ensures.steps.1 in
    let next = walk_next c.requires c.loop-record.invariant.1 _ _ step.0 (step.1 ∙ c.loop-record.invariant.0) in
    let high : c.from-at.result ≤ length c.args.kept.now = omega (arith, next.within, c.from-at.ensures) in high

pub copy-next-requires : goal.copy-next-requires
copy-next-requires c =
    let step = c.in-Some.ensures.steps.1 in
    rw c.from-at.ensures
    (walk_can_copy c.requires c.loop-record.invariant.1 _ _ step.0 (step.1 ∙ c.loop-record.invariant.0))

pub add-end-requires : goal.add-end-requires
add-end-requires c =
    let step = c.in-Some.ensures.steps.1 in
    let place = c.loop-record.place in
    let copied =
    subst (λ n. Copied (take (n - place) (drop place c.args.kept.now)) c.loop-record.tokens c.loop-record.end c.copy-next.new.tokens c.copy-next.result)
    c.from-at.ensures c.copy-next.ensures in
    walk_can_add c.requires c.loop-record.invariant.1 _ _ step.0 (step.1 ∙ c.loop-record.invariant.0) copied c.copy-next.auto.tokens

pub loop-record-preserved : goal.loop-record-preserved
loop-record-preserved c =
    let step = c.in-Some.ensures.steps.1 in
    let place = c.loop-record.place in
    let copied =
    subst (λ n. Copied (take (n - place) (drop place c.args.kept.now)) c.loop-record.tokens c.loop-record.end c.copy-next.new.tokens c.copy-next.result)
    c.from-at.ensures c.copy-next.ensures in (
      c.in-Some.ensures.steps.0 ∙ c.loop-record.invariant.0,
      walk_goes c.requires c.loop-record.invariant.1 _ _ step.0 (step.1 ∙ c.loop-record.invariant.0) copied c.add-end.ensures
          (c.behind-place.ensures ∙ ap (behind_by _) c.from-at.ensures),
    )

pub copy-requires : goal.copy-requires
copy-requires c =
    walk_can_end c.requires c.loop-record.invariant.1 (omega (arith, c.in-None.ensures.steps.1.0, c.loop-record.invariant.0))
    (kept_rest c.args.kept.now c.loop-record.place c.min.result c.min.ensures)

pub returns : goal.returns
returns c =
    walk_ends c.requires c.loop-record.invariant.1 (omega (arith, c.in-None.ensures.steps.1.0, c.loop-record.invariant.0))
    (kept_rest c.args.kept.now c.loop-record.place c.min.result c.min.ensures) c.copy.ensures
