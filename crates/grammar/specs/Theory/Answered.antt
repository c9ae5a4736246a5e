-- What theorems of proofs/Theory/Answered.antt speak of.
use Rattle.std.specs.Prelude.{ℕ, List, ◌∷◌}
use Rattle.grammar.specs.Run.{LogFits, Asks}
use Rattle.grammar.specs.Refusals.{Condition, ◌unless◌}
use Rattle.grammar.specs.declared.Refusal.TheVariants.{BadLog}
use Rattle.grammar.specs.Theory.Good.{Accepted}

-- The words are accepted, and the log fits.
pub record Admitted (ws log : List ℕ) : Type 0 where
  pub words : Accepted ws
  pub fits : LogFits ws log

-- From 10 on.
abbrev pub conditions_from10 : Asks → List ℕ → List ℕ → List Condition
conditions_from10 Asked ws log = (BadLog unless (LogFits ws log × Asked.under_10)) ∷ Asked.behind_10
