-- What theorems of proofs/Theory/Pops.antt speak of.
use Prim.Native.Nat.{ℕ}
use Rattle.std.specs.Prelude.{Bool, cond}
use mathlib.Core.List.{List, [], ◌∷◌}
use Rattle.grammar.specs.Run.{Pop}

-- What a test makes of the symbols: those that pass it are dropped.
unfoldable pub pop_by : (ℕ → Bool) → ℕ → Pop
pop_by test X = cond (test X) (Pop.dropped X) (Pop.inserted X)

unfoldable pub pops_by : (ℕ → Bool) → List ℕ → List Pop
unfolding pop_by
pops_by test [] = []
pops_by test (X ∷ Xs) = pop_by test X ∷ pops_by test Xs
