-- `marks::behind` meets its contract, by the kind of the record.
use Rattle.marks.specs.Restoring.{behind_delete, behind_insert}
use mathlib.Core.Path.{sym}
use Rattle.marks.proofs.behind.Goals as goal

pub returns-then-kind-eq-DELETE : goal.returns-then-kind-eq-DELETE
returns-then-kind-eq-DELETE c = sym (behind_delete _ c.if-kind-eq-DELETE.true)

pub returns : goal.returns
returns c = sym (behind_insert _ c.if-kind-eq-DELETE.false)
