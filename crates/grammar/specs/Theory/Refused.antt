-- What theorems of proofs/Theory/Refused.antt speak of.
use Rattle.std.specs.Prelude.{ℕ, List}
use Rattle.std.proofs.Math.Option.{some}
use Rattle.grammar.specs.Moves.{Move}
use Rattle.grammar.specs.Run.{Asks, run_conditions, RunOf}
use Rattle.grammar.specs.declared.Refusal.{Refusal}
use Rattle.grammar.specs.Theory.Conditions.{Held}
use Rattle.grammar.specs.Theory.Due.{Due}

-- Refusal r is given: it is due before the run; or all conditions hold, and the run makes the moves ms and meets it.
pub data Given (Asked : Asks) (ws log : List ℕ) (edit_room rule_room : ℕ) (r : Refusal) : Type 0 where
  before : Due (run_conditions ws log Asked) r → Given Asked ws log edit_room rule_room r
  within : {ms : List Move} → Held (run_conditions ws log Asked) → RunOf ws log edit_room rule_room ms (some r)
      → Given Asked ws log edit_room rule_room r
