-- What is known where the words are accepted.
use Rattle.std.specs.Prelude.{ℕ, ◌≡◌, List, length}
use Rattle.std.proofs.Math.Option.{none}
use Rattle.grammar.specs.Buffers.{cleared}
use Rattle.grammar.specs.Grammar.{Verdict}
use Rattle.verdict.specs.Answer.{Priced}

-- Accepted words with their table, and two clear buffers.
pub record CanList (ws table costs rules : List ℕ) : Type 0 where
  pub accepts : Verdict ws none
  pub priced : Priced ws table
  pub costs_clear : costs ≡ cleared (length costs)
  pub rules_clear : rules ≡ cleared (length rules)
