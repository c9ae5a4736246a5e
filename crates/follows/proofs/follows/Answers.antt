-- `follows::follows` meets its contract: the pass begins with END behind START, and what comes of it along the list is FOLLOW
-- (`begun_closed`).
use Rattle.std.proofs.Common.{rules}
use Rattle.base.specs.Blank.{blank_made}
use Rattle.follows.specs.Feeding.{follows_begin}
use Rattle.follows.specs.Begun.{begin_begins, begun_closed}
use Rattle.follows.proofs.follows.Goals as goal

pub begin-list-requires : goal.begin-list-requires
begin-list-requires c = record {
  reached = c.requires.reached;
  begun = begin_begins (blank_made 64) (follows_begin c.requires.blank c.with.ensures c.add_to.ensures);
}

pub returns : goal.returns
returns c =
    begun_closed c.begin-list.ensures.exact.asked c.begin-list.ensures.exact.exact c.begin-list.ensures.fed (search rules)
