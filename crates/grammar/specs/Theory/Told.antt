-- What theorems of proofs/Theory/Told.antt speak of.
use Rattle.std.specs.Prelude.{ℕ, ◌≡◌}
use mathlib.Core.List.{List}
use Rattle.std.proofs.Math.Option.{none}
use Rattle.grammar.specs.Words.{opening, closing, restart_mark}
use Rattle.grammar.specs.Moves.{Move}
use Rattle.grammar.specs.Run.{RunOf}
use Rattle.grammar.specs.Pace.{Span, CleanCycles, report_of}
use Rattle.grammar.specs.declared.Report.{Report}
use Rattle.grammar.specs.Theory.Answered.{Admitted}

-- The run that was reported, and its clean cycles.
pub record Told (ws log ticks : List ℕ) (edit_room rule_room : ℕ) (report : Report) : Type 0 where
  pub admits : Admitted ws log
  pub moves : List Move
  pub run : RunOf ws log edit_room rule_room moves none
  pub cycles : List Span
  pub clean : CleanCycles (opening ws) (closing ws) (restart_mark ws) moves cycles
  pub made : report ≡ report_of ticks cycles
