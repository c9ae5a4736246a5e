-- `correction::write_record` meets its contract: the three words are written where they fit.
use native.Mathlib.Omega.{arith}
use lib.ListN.{length-set}
use Rattle.correction.specs.Records.{recorded_whole, recorded_full}
use Rattle.correction.proofs.write_record.Goals as goal

pub bounds-edits-at-then-at-edits : goal.bounds-edits-at-then-at-edits
bounds-edits-at-then-at-edits c = simp length-set (omega arith)

pub bounds-edits-at-then-at-edits-2 : goal.bounds-edits-at-then-at-edits-2
bounds-edits-at-then-at-edits-2 c = simp length-set (omega arith)

pub returns-then-at-edits : goal.returns-then-at-edits
returns-then-at-edits c = recorded_whole _ _ _ _ _ (omega arith)

pub returns-else-at-edits : goal.returns-else-at-edits
returns-else-at-edits c = recorded_full _ _ _ _ _ (omega arith)
