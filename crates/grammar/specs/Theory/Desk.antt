-- What theorems of proofs/Theory/Desk.antt speak of.
use Rattle.std.specs.Prelude.{ℕ, ◌≡◌, List}
use Rattle.std.proofs.Math.Option.{none}
use Rattle.grammar.specs.Words.{nonterminal_count}
use Rattle.grammar.specs.Grammar.{grammar_of}
use Rattle.grammar.specs.Buffers.{filled}
use Rattle.grammar.specs.Desk.{CostsAndRules, desk_conditions}
use Rattle.grammar.specs.Refusals.{Lowest}

-- No refusal applies: N, cost and rule of each nonterminal in order, zeros behind.
pub record DeskGives (ws : List ℕ) (cost_room rule_room n : ℕ) (costs rules : List ℕ) : Type 0 where
  pub met : Lowest (desk_conditions ws cost_room rule_room) none
  pub count : n ≡ nonterminal_count ws
  pub costs_of : List ℕ
  pub rules_of_lem : List ℕ
  pub right : CostsAndRules (nonterminal_count ws) (grammar_of ws) costs_of rules_of_lem
  pub costs_hold : costs ≡ filled cost_room costs_of
  pub rules_hold : rules ≡ filled rule_room rules_of_lem
