-- `parser::admits` meets its contract: the two tests tell 10 and 16, in this order.
use mathlib.Core.Path.{◌≡◌, ap, sym, ◌∙◌}
use mathlib.Core.Bool.{true, not, true≢false}
use Rattle.std.proofs.Common.{rules}
use Rattle.grammar.specs.Theory.Conditions.{applies, holds_alone, passes}
use Rattle.parser.proofs.admits.Goals as goal

pub log_fits-requires : goal.log_fits-requires
log_fits-requires c = c.requires

pub returns-then-not-log_fits : goal.returns-then-not-log_fits
returns-then-not-log_fits c = applies (c.log_fits.ensures.no c.if-not-log_fits.true)

pub returns-then-not-asking : goal.returns-then-not-asking
returns-then-not-asking c =
    passes (c.log_fits.ensures.yes c.if-not-log_fits.false) (applies (λ e. true≢false (sym c.if-not-asking.true ∙ ap not e)))

pub returns : goal.returns
returns c =
    let paced : c.args.asking.paced ≡ true = search rules in
    passes (c.log_fits.ensures.yes c.if-not-log_fits.false) (holds_alone paced)
