-- `listing::input::take_apart` meets its contract: the refusal of the count or the file, or what the buffers hold then.
use Rattle.std.proofs.Common.{rules}
use Rattle.listing.proofs.Inputs.{taken_uncounted, taken_unread, taken_apart}
use Rattle.listing.proofs.input.take_apart.Goals as goal

pub returns-in_err-end : goal.returns-in_err-end
returns-in_err-end c = search (rules, taken_uncounted)

pub returns-in_err-count : goal.returns-in_err-count
returns-in_err-count c = search (rules, taken_unread)

pub returns : goal.returns
returns c = taken_apart c.in_ok-end.ensures c.in_ok-count.ensures c.tokens_from.ensures c.ticks_from.ensures
