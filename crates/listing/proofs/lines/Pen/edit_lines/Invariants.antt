use Rattle.std.proofs.Common.{◌≡◌}
use Rattle.listing.proofs.Editing.{Editing}
use Rattle.listing.proofs.lines.Pen.edit_lines.Given as goal

abbrev pub invariant-loop-record : goal.invariant-loop-record
invariant-loop-record l =
    (goal.iterator-loop-record).can_next l.record-iterator
    × (goal.iterator-loop-record).is_finite l.record-iterator
    × (l.record-iterator.size ≡ 3)
    × Editing l.initial.self l.edits l.record-iterator.rest.now l.self
