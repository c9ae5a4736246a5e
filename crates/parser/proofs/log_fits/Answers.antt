-- `parser::log_fits` meets its contract: the least and the largest token so far span the tokens that came.
use native.Mathlib.Omega.{arith}
use borrow.Author.Tests.{ltb-true, ltb-false}
use Rattle.parser.specs.Parses.{spanned_none, spanned_more, log_high}
use Rattle.std.specs.Prelude.{min, max, get_or}
use Rattle.std.proofs.Common.{rules, ◌≡◌}
use Rattle.parser.proofs.log_fits.Goals as goal

pub loop-t-init : goal.loop-t-init
loop-t-init c = spanned_none

pub loop-t-preserved : goal.loop-t-preserved
loop-t-preserved c =
    let low : c.min-low.result ≡ min c.loop-t.low (get_or c.args.log.now c.loop-t.t-index 0) = search rules in
    let high : c.max-high.result ≡ max c.loop-t.high (get_or c.args.log.now c.loop-t.t-index 0) = search rules in
    spanned_more _ _ _ _ _ low high c.loop-t.invariant

pub terminal_count-requires : goal.terminal_count-requires
terminal_count-requires c = c.requires

pub returns-then-low-gt0 : goal.returns-then-low-gt0
returns-then-low-gt0 c =
    log_high c.loop-t.invariant (omega arith) (omega arith) _ c.requires.terminals_low c.if-log-gt4096.false c.if-low-gt0.true
    c.if-not-asked.false
    (record {
      yes = λ e. omega (arith, ltb-true c.from.result c.terminal_count.result e, c.from.ensures, c.terminal_count.ensures);
      no = λ e h. omega (arith, ltb-false c.from.result c.terminal_count.result e, h, c.from.ensures, c.terminal_count.ensures);
    })
