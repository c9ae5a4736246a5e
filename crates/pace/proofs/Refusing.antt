-- The refusal of the parse is the report's, whichever way the code hands it on.
use Rattle.std.proofs.Common.{◌≡◌, refl, ℕ, List, length, ◌==◌, Bool, not, Result, Err}
use Rattle.base.specs.Telling.{Tells}
use Rattle.grammar.specs.Words.{UnitOne}
use Rattle.grammar.specs.Run.{ParsedAsking}
use Rattle.grammar.specs.Pace.{Reported}
use Rattle.grammar.specs.Refusals.{outcome_of, refused}
use Rattle.grammar.specs.declared.Refusal.{Refusal}
use Rattle.grammar.specs.declared.Counts.{Counts}
use Rattle.parser.specs.Asking.{asks_by}
use Rattle.pace.specs.Settling.{reports_refused}

pub report_refused : {ws log ticks : List ℕ} {edit_room rule_room : ℕ} {one : Bool} {answer : Result Counts Refusal} {r : Refusal} {x y : List ℕ}
    → Tells (UnitOne ws) one
    → ParsedAsking (asks_by (record { timed = length ticks == length log; paced = not one })) ws log edit_room rule_room (outcome_of answer) x y
    → answer ≡ Err r → Reported ws log ticks edit_room rule_room (refused r) x y
report_refused {ticks = ticks} {answer = answer} unit parsed e = reports_refused ticks answer refl refl unit parsed e
