-- `verdict::unshared` meets its contract: FOLLOW is filled into a table that was just made, and `predicts::none_shared` tells.
use Rattle.base.specs.Blank.{blank_made}
use Rattle.verdict.proofs.unshared.Goals as goal

pub follows-requires : goal.follows-requires
follows-requires c = record { reached = c.requires; blank = blank_made 64 }

pub none_shared-requires : goal.none_shared-requires
none_shared-requires c = record { follows_of = c.follows.ensures; follows_len = c.follows.auto.out; blank = blank_made 64 }
