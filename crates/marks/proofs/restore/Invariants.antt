use Rattle.std.specs.Slice.Iter.{chunks_exact_rest, chunks_exact_size}
use Rattle.std.proofs.Common.{◌≡◌}
use Rattle.marks.proofs.Walking.{Walking}
use Rattle.marks.proofs.restore.Given as goal

abbrev pub invariant-loop-record : goal.invariant-loop-record
invariant-loop-record l =
    (chunks_exact_size l.record-iterator ≡ 3)
    × Walking l.strings.rights l.strings.depth l.records l.kept l.raise l.initial.tokens l.place (chunks_exact_rest l.record-iterator) l.tokens l.end
