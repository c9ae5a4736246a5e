-- What the functions of a run need of what it works from.
use Rattle.std.specs.Prelude.{ℕ, List}
use Rattle.grammar.specs.Theory.Tables.{sized_of}
use Rattle.moves.specs.declared.Parser.{Parser}
use Rattle.parser.specs.Lookup.{CanLookUp}
use Rattle.parser.specs.Expanding.{CanExpand}
use Rattle.parser.specs.Turns.{CanTurn}
use Rattle.parser.specs.Runs.{CanRun}
use Rattle.parser.specs.declared.Grounds.{Grounds}

abbrev pub LooksUp : Grounds → ℕ → ℕ → Type 0
LooksUp g = CanLookUp (sized_of g.words.now) g.sides.now g.rows.now

abbrev pub Expands : Grounds → List ℕ → Parser → ℕ → ℕ → Type 0
Expands g = CanExpand (sized_of g.words.now) g.sides.now g.rows.now

abbrev pub Turns : Grounds → List ℕ → List ℕ → List ℕ → Parser → Type 0
Turns g = CanTurn (sized_of g.words.now) g.log.now g.masks.now g.prices.now g.sides.now g.rows.now

abbrev pub Starts : Grounds → List ℕ → Type 0
Starts g = CanRun (sized_of g.words.now) g.log.now g.masks.now g.prices.now g.sides.now g.rows.now
