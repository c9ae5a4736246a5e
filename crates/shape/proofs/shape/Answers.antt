-- `shape::shape` meets its contract: each part is tested in turn, and all together are the shape.
use Rattle.shape.specs.Parts.{header_of, terminals_of, ready}
use Rattle.shape.proofs.Placing.{shut_out}
use Rattle.shape.proofs.shape.Goals as goal

pub returns-then-not-header_right : goal.returns-then-not-header_right
returns-then-not-header_right c = shut_out (λ s. c.header_right.ensures.no c.if-not-header_right.true (header_of _ s))

pub terminals_right-requires : goal.terminals_right-requires
terminals_right-requires c = c.header_right.ensures.yes c.if-not-header_right.false

pub returns-then-not-terminals_right : goal.returns-then-not-terminals_right
returns-then-not-terminals_right c = shut_out (λ s. c.terminals_right.ensures.no c.if-not-terminals_right.true (terminals_of _ s))

pub rules_right-requires : goal.rules_right-requires
rules_right-requires c = record {
  header_right = c.header_right.ensures.yes c.if-not-header_right.false;
  in_bounds = c.requires;
}

pub returns : goal.returns
returns c =
    record {
      yes = λ e.
          ready _ _ (c.header_right.ensures.yes c.if-not-header_right.false)
          (c.terminals_right.ensures.yes c.if-not-terminals_right.false) (c.rules_right.ensures.yes e);
      no = c.rules_right.ensures.no;
    }
