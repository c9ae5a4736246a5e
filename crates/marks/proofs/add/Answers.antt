-- `marks::add` meets its contract: a delete adds nothing, an insert its string.
use Rattle.marks.proofs.Walking.{add_none, add_can, add_string}
use Rattle.marks.proofs.add.Goals as goal

pub returns-then-kind-eq-DELETE : goal.returns-then-kind-eq-DELETE
returns-then-kind-eq-DELETE c = add_none c.requires c.if-kind-eq-DELETE.true

pub spell-requires : goal.spell-requires
spell-requires c = add_can c.requires c.if-kind-eq-DELETE.false

pub returns : goal.returns
returns c = add_string c.requires c.if-kind-eq-DELETE.false c.spell.ensures
