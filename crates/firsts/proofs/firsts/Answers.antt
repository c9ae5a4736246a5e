-- `firsts::firsts` meets its contract: the pass begins with empty tables, and what comes of it along the list is FIRST (`begun_closed`).
use Rattle.firsts.specs.Begun.{begin_begins, begun_closed}
use Rattle.firsts.proofs.firsts.Goals as goal

pub begin-list-requires : goal.begin-list-requires
begin-list-requires c = record {
  asked = c.requires.asked;
  begun = begin_begins c.requires.blank c.requires.blank_2;
}

pub returns : goal.returns
returns c = begun_closed c.requires.asked c.begin-list.ensures c.close.ensures
