-- What theorems of proofs/Theory/Meanings.antt speak of.
use Rattle.std.specs.Prelude.{ℕ, List, ◌↔◌}
use Rattle.std.proofs.Math.Option.{Option}
use Rattle.grammar.specs.Grammar.{Meaning, VerdictBy}
use Rattle.grammar.specs.Refusals.{Outcome}
use Rattle.grammar.specs.Run.{Asks, ParsedBy}
use Rattle.grammar.specs.Desk.{DeskBy}
use Rattle.grammar.specs.Marks.{Mark, MarksBy}
use Rattle.grammar.specs.Pace.{ReportedBy}
use Rattle.grammar.specs.declared.Refusal.{Refusal}
use Rattle.grammar.specs.declared.Counts.{Counts}
use Rattle.grammar.specs.declared.Report.{Report}

-- Every answer to the one is an answer to the other, with the same words in every buffer, whatever log and lengths are lent: of those that
-- time nothing,
pub record SameUntimed (M K : Meaning) : Type 1 where
  pub verdict : (o : Option Refusal) → VerdictBy M o ↔ VerdictBy K o
  pub desk : (cost_room rule_room : ℕ) (a : Outcome ℕ) (costs rules : List ℕ)
      → DeskBy M cost_room rule_room a costs rules ↔ DeskBy K cost_room rule_room a costs rules
  pub parsed : (Asked : Asks) (log : List ℕ) (edit_room rule_room : ℕ) (a : Outcome Counts) (es rs : List ℕ)
      → ParsedBy Asked M log edit_room rule_room a es rs ↔ ParsedBy Asked K log edit_room rule_room a es rs
  pub marks : (word_of : Mark → ℕ) (Asked : Asks) (log : List ℕ) (edit_room rule_room token_room : ℕ) (a : Outcome (Counts × ℕ))
      (es rs ts : List ℕ) → MarksBy word_of Asked M log edit_room rule_room token_room a es rs ts
      ↔ MarksBy word_of Asked K log edit_room rule_room token_room a es rs ts

-- and of the report, whatever the ticks.
pub record SameAnswers (M K : Meaning) : Type 1 where
  pub untimed : SameUntimed M K
  pub reported : (log ticks : List ℕ) (edit_room rule_room : ℕ) (a : Outcome (Report × Counts)) (es rs : List ℕ)
      → ReportedBy M log ticks edit_room rule_room a es rs ↔ ReportedBy K log ticks edit_room rule_room a es rs
