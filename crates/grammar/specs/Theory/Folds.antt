-- What theorems of proofs/Theory/Folds.antt speak of.
use Rattle.std.specs.Prelude.{ℕ, List, [], ◌∷◌}
use Rattle.grammar.specs.Run.{Pop}

-- The symbols that are inserted, of those popped.
unfoldable pub missing_of : List Pop → List ℕ
missing_of [] = []
missing_of (Pop.dropped X ∷ ps) = missing_of ps
missing_of (Pop.inserted X ∷ ps) = X ∷ missing_of ps
