-- `growth::add_to` meets its contract: the union is put in the set's place, and where it is the set itself nothing changes.
use Rattle.growth.specs.Added.{added_told_by}
use Rattle.growth.proofs.add_to.Goals as goal

pub returns : goal.returns
returns c = added_told_by _ _ _ c.requires _ c.union-new.ensures
