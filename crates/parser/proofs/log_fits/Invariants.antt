use Rattle.parser.specs.Parses.{Spanned}
use Rattle.parser.proofs.log_fits.Given as goal

abbrev pub invariant-loop-t : goal.invariant-loop-t
invariant-loop-t l = Spanned l.log l.t-index l.low l.high
