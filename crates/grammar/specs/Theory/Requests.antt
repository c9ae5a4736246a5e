-- What theorems of proofs/Theory/Requests.antt speak of.
use Rattle.std.specs.Prelude.{ℕ}
use mathlib.Core.List.{List}
use Rattle.grammar.specs.Grammar.{grammar_of}
use Rattle.grammar.specs.Moves.{Move}
use Rattle.grammar.specs.Run.{started}
use Rattle.grammar.specs.Theory.Earlier.{EarlierRun}

-- The run of a log by 01's rule, in which a correction inserts each symbol that it pops.
abbrev pub EarlierRunOf : List ℕ → List ℕ → List Move → Type 0
EarlierRunOf ws log = EarlierRun (grammar_of ws) (started (grammar_of ws).begin log)
