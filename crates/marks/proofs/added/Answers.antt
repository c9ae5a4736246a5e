-- `marks::added` meets its contract, by the kind of the record.
use native.Mathlib.Omega.{arith}
use Rattle.marks.specs.Restoring.{added_delete, added_insert}
use Rattle.strings.specs.Spelling.{length_in}
use mathlib.Core.Path.{sym, ap, ◌∙◌}
use native.Mathlib.Omega.{arith}
use Rattle.marks.proofs.added.Goals as goal

pub returns-then-kind-eq-DELETE : goal.returns-then-kind-eq-DELETE
returns-then-kind-eq-DELETE c = sym (added_delete _ _ c.if-kind-eq-DELETE.true)

pub length_of-requires : goal.length_of-requires
length_of-requires c = omega (arith, c.from.ensures, (c.requires c.if-kind-eq-DELETE.false).1)

pub returns : goal.returns
returns c = c.length_of.ensures ∙ (ap (length_in _) c.from.ensures ∙ sym (added_insert _ _ c.if-kind-eq-DELETE.false))
