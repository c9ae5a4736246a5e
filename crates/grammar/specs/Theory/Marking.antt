-- What theorems of proofs/Theory/Marking.antt speak of.
use Prim.Native.Nat.{ℕ}
use mathlib.Core.List.{List, [], ◌∷◌}
use Rattle.grammar.specs.Moves.{Move}
use Rattle.grammar.specs.Marks.{Mark}

-- The symbols that the moves insert, and the tokens that are added among marks.
unfoldable pub inserted_symbols : List Move → List ℕ
inserted_symbols [] = []
inserted_symbols (Move.match p t ∷ ms) = inserted_symbols ms
inserted_symbols (Move.expand q ∷ ms) = inserted_symbols ms
inserted_symbols (Move.drop X ∷ ms) = inserted_symbols ms
inserted_symbols (Move.delete p t ∷ ms) = inserted_symbols ms
inserted_symbols (Move.insert p X ∷ ms) = X ∷ inserted_symbols ms

unfoldable pub added_tokens : List Mark → List ℕ
added_tokens [] = []
added_tokens (Mark.kept p t ∷ xs) = added_tokens xs
added_tokens (Mark.added t ∷ xs) = t ∷ added_tokens xs
