-- What theorems of proofs/Theory/Places.antt speak of.
use Rattle.std.specs.Prelude.{ℕ, ◌+◌, ◌≤◌, ◌<◌, length}
use mathlib.Core.List.{List, [], ◌∷◌, Memᴰ}
use Rattle.grammar.specs.Moves.{Move, Edit, edits}

-- The moves go through the tokens, of which the first stands at place p. A match and a delete go one token on; an insert names
-- the place of a token that is still to come.
pub data Walk : ℕ → List ℕ → List Move → Type 0 where
  over : {p : ℕ} → Walk p [] []
  matched : {p t : ℕ} {ts : List ℕ} {ms : List Move} → Walk (p + 1) ts ms → Walk p (t ∷ ts) (Move.match p t ∷ ms)
  expanded : {p q : ℕ} {ts : List ℕ} {ms : List Move} → Walk p ts ms → Walk p ts (Move.expand q ∷ ms)
  dropped : {p X : ℕ} {ts : List ℕ} {ms : List Move} → Walk p ts ms → Walk p ts (Move.drop X ∷ ms)
  deleted : {p t : ℕ} {ts : List ℕ} {ms : List Move} → Walk (p + 1) ts ms → Walk p (t ∷ ts) (Move.delete p t ∷ ms)
  inserted : {p X : ℕ} {ts : List ℕ} {ms : List Move} → 0 < length ts → Walk p ts ms → Walk p ts (Move.insert p X ∷ ms)

-- The places never fall, and the first is at least p.
pub data Rising : ℕ → List Edit → Type 0 where
  nothing : {p : ℕ} → Rising p []
  also : {p : ℕ} {e : Edit} {es : List Edit} → p ≤ e.place → Rising e.place es → Rising p (e ∷ es)

-- The token at place p has a delete record.
abbrev pub Deleted : List Move → ℕ → Type 0
Deleted ms p = (X : ℕ) × Memᴰ (record { kind = 1; place = p; symbol = X }) (edits ms)
