use Rattle.std.proofs.Common.{ℕ, ◌<◌, get_or}
use Rattle.grammar.specs.Words.{RuleSymbol}
use Rattle.shape.proofs.symbols_right.Given as goal

abbrev pub invariant-loop-x : goal.invariant-loop-x
invariant-loop-x l = (j : ℕ) → j < l.x-index → RuleSymbol l.t l.n (get_or l.symbols j 0)
