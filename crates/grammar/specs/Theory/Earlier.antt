-- What theorems of proofs/Theory/Earlier.antt speak of.
use Rattle.std.specs.Prelude.{ℕ, ◌+◌, ◌↔◌, take}
use Rattle.std.proofs.Math.Path.{◌≡◌}
use mathlib.Core.List.{List, [], ◌∷◌, ◌++◌}
use Rattle.std.proofs.Math.ListN.{length}
use Rattle.grammar.specs.Derivation.{Rules, CanBeEmpty}
use Rattle.grammar.specs.Grammar.{Grammar}
use Rattle.grammar.specs.Moves.{Move, Edit, edits, rule_numbers, passed}
use Rattle.grammar.specs.Run.{Pick, matching, expanding, dropping, correcting, Choice}
use Rattle.grammar.specs.Run.{State, next, made, deletes}
use Rattle.grammar.specs.Pace.{Span, Clean}

-- "Each of A1..Ai-1, top first, is an insert move."
unfoldable pub inserts : ℕ → List ℕ → List Move
inserts r [] = []
inserts r (X ∷ Xs) = Move.insert r X ∷ inserts r Xs

-- The moves of a choice by 01's rule: only a correction's are others.
unfoldable pub made_earlier : State → Pick → List Move
made_earlier s matching = made s matching
made_earlier s (expanding p β) = made s (expanding p β)
made_earlier s dropping = made s dropping
made_earlier s (correcting j i ps) = deletes s.place (take j s.rest) ++ inserts (s.place + j) (take i s.stack)

-- The run by 01's rule, to its end, in buffers that are long enough. Search, costs, r and i are those of `Choice`, which looks at nothing
-- that a state counts; what the symbols popped become (ps) plays no part in 01's moves.
pub data EarlierRun (G : Grammar) : State → List Move → Type 0 where
  ended : {s : State} → s.stack ≡ [] → s.rest ≡ [] → EarlierRun G s []
  moved : {s : State} {x : Pick} {ms : List Move} → Choice G s.stack s.rest x → EarlierRun G (next s x) ms
      → EarlierRun G s (made_earlier s x ++ ms)

-- The second records are the first without those of inserted symbols that can be empty.
pub data Without (R : Rules) : List Edit → List Edit → Type 0 where
  nothing : Without R [] []
  kept : {e : Edit} {es fs : List Edit} → (e.kind ≡ 2 → CanBeEmpty R (e.symbol ∷ []) → ⊥) → Without R es fs
      → Without R (e ∷ es) (e ∷ fs)
  left_out : {p X : ℕ} {es fs : List Edit} → CanBeEmpty R (X ∷ []) → Without R es fs
      → Without R (record { kind = 2; place = p; symbol = X } ∷ es) fs

-- What the moves ms keep of the moves ns that 01's rule makes: how many they are, the rule numbers, the tokens passed, the records but
-- those of inserted symbols that can be empty, and which cycles are clean.
pub record AsEarlier (G : Grammar) (ms ns : List Move) : Type 0 where
  pub as_many : length ms ≡ length ns
  pub rules : rule_numbers ms ≡ rule_numbers ns
  pub tokens : passed ms ≡ passed ns
  pub records : Without G.rules (edits ns) (edits ms)
  pub clean : (o c m : ℕ) (s : Span) → Clean o c m ms s ↔ Clean o c m ns s

-- An insert move that stays is of a symbol that cannot be empty.
unfoldable pub Stays : Rules → Move → Type 0
Stays R (Move.match p t) = Unit {0}
Stays R (Move.expand q) = Unit {0}
Stays R (Move.drop X) = Unit {0}
Stays R (Move.delete p t) = Unit {0}
Stays R (Move.insert p X) = CanBeEmpty R (X ∷ []) → ⊥

-- The moves beside 01's.
pub data Beside (R : Rules) : List Move → List Move → Type 0 where
  nothing : Beside R [] []
  same : {m : Move} {ms ns : List Move} → Stays R m → Beside R ms ns → Beside R (m ∷ ms) (m ∷ ns)
  empty : {p X : ℕ} {ms ns : List Move} → CanBeEmpty R (X ∷ []) → Beside R ms ns → Beside R (Move.drop X ∷ ms) (Move.insert p X ∷ ns)
