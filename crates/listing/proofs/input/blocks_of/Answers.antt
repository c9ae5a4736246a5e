-- `listing::input::blocks_of` meets its contract: each test shuts out one part of `Counted`, and behind the last all of it holds.
use Rattle.std.proofs.Common.{arith, rules, ◌≡◌}
use Rattle.grammar.specs.Listing.{blocks_named}
use Rattle.listing.specs.Answer.{uncounted}
use Rattle.listing.proofs.Inputs.{blocks_end_lem}
use Rattle.listing.proofs.input.blocks_of.Goals as goal
use Rattle.listing.proofs.input.blocks_of.Goals.{then-count-eq0-via-then-count-eq0, then-count-eq0-via-else-count-eq0+then-count-gt-MOST_BLOCKS, then-count-eq0-via-else-count-eq0+else-count-gt-MOST_BLOCKS+then-input-end}

pub returns-then-input-lt-COUNT_BYTES : goal.returns-then-input-lt-COUNT_BYTES
returns-then-input-lt-COUNT_BYTES c = uncounted (λ right. omega (arith, right.whole))

pub returns-then-count-eq0 : goal.returns-then-count-eq0
returns-then-count-eq0 c =
    let named : c.from-count.result ≡ blocks_named c.args.input.now = search rules in
    uncounted
    (λ right.
    elim c.then-count-eq0.branch [
      | then-count-eq0-via-then-count-eq0 w ↦ omega (arith, right.low)
      | then-count-eq0-via-else-count-eq0+then-count-gt-MOST_BLOCKS w ↦ omega (arith, right.high)
      | then-count-eq0-via-else-count-eq0+else-count-gt-MOST_BLOCKS+then-input-end w ↦ omega (arith, right.present)
    ])

pub returns : goal.returns
returns c =
    let named : c.from-count.result ≡ blocks_named c.args.input.now = search rules in
    blocks_end_lem _ _ named (omega arith) (omega arith) (omega arith) (omega arith)
