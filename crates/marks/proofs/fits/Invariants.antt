use Rattle.std.specs.Slice.Iter.{chunks_exact_rest, chunks_exact_size}
use Rattle.std.proofs.Common.{◌≡◌}
use Rattle.marks.proofs.Sizing.{Sizing}
use Rattle.marks.proofs.fits.Given as goal

abbrev pub invariant-loop-record : goal.invariant-loop-record
invariant-loop-record l =
    (chunks_exact_size l.record-iterator ≡ 3)
    × Sizing l.records l.strings.lengths l.tokens l.room l.left l.place (chunks_exact_rest l.record-iterator)
