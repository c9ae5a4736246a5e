-- What theorems of proofs/Theory/Paths.antt speak of.
use Rattle.std.specs.Prelude.{◌≡◌, List, [], ◌++◌}
use Rattle.std.proofs.Math.Option.{none}
use Rattle.grammar.specs.Grammar.{Grammar}
use Rattle.grammar.specs.Moves.{Move}
use Rattle.grammar.specs.Run.{Pick, Choice, State, Limits, next, made, limit}

-- From s the run has come to u with the moves ms.
pub data Path (G : Grammar) (L : Limits) : State → List Move → State → Type 0 where
  still : {s : State} → Path G L s [] s
  onward : {s u : State} {x : Pick} {ms : List Move} → Choice G s.stack s.rest x → limit L s x ≡ none → Path G L (next s x) ms u
      → Path G L s (made s x ++ ms) u
