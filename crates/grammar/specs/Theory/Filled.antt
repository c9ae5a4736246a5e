-- What theorems of proofs/Theory/Filled.antt speak of.
use Rattle.std.specs.Prelude.{ℕ}
use mathlib.Core.List.{List, [], ◌∷◌, ◌++◌}
use Rattle.grammar.specs.Derivation.{Rules, Yields}
use Rattle.grammar.specs.Moves.{Move, log_token}

-- The terminal string w is the repaired log of the moves with each inserted symbol so replaced.
pub data Filled (R : Rules) : List Move → List ℕ → Type 0 where
  nothing : Filled R [] []
  kept : {p t : ℕ} {ms : List Move} {w : List ℕ} → Filled R ms w → Filled R (Move.match p t ∷ ms) (log_token t ++ w)
  expanded : {q : ℕ} {ms : List Move} {w : List ℕ} → Filled R ms w → Filled R (Move.expand q ∷ ms) w
  dropped : {X : ℕ} {ms : List Move} {w : List ℕ} → Filled R ms w → Filled R (Move.drop X ∷ ms) w
  deleted : {p t : ℕ} {ms : List Move} {w : List ℕ} → Filled R ms w → Filled R (Move.delete p t ∷ ms) w
  replaced : {p X : ℕ} {ms : List Move} {v w : List ℕ} → Yields R (X ∷ []) v → Filled R ms w → Filled R (Move.insert p X ∷ ms) (v ++ w)
