-- `listing::input::tokens_from` meets its contract: the tokens of the first i entries are written (`Filling`).
use Rattle.std.proofs.Common.{arith, rules, ◌<◌, ◌≤◌, ◌≡◌, ◌*◌, ◌+◌, length, take, length-take-le}
use Rattle.grammar.specs.Listing.{token_at, begun_entries}
use Rattle.listing.proofs.Entries.{filling_begins, filling_goes, filling_ends}
use Rattle.listing.proofs.input.tokens_from.Goals as goal

pub loop-i-init : goal.loop-i-init
loop-i-init c = filling_begins _ _ _

pub loop-i-preserved : goal.loop-i-preserved
loop-i-preserved c =
    let inside : c.loop-i.i < length (take c.min-count.result c.args.tokens.now) = omega (arith, c.loop-i.invariant.same, c.loop-i-test.true) in
    let value : c.from_le_bytes.result ≡ token_at c.args.entries.now (0 + 6 * c.loop-i.i) = search rules in
    filling_goes c.loop-i.invariant inside value

pub returns : goal.returns
returns c =
    let most : c.min-count.result ≤ length c.args.tokens.now = omega arith in
    let size = length-take-le c.min-count.result c.args.tokens.now most in
    filling_ends (begun_entries c.args.entries.now 0) c.loop-i.invariant (omega (arith, c.loop-i.auto.i-end, c.loop-i.invariant.same))
    (omega (arith, c.loop-i-test.false)) (search rules)
