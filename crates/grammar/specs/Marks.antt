-- Document 02, request (iv): "Write the repaired log with every inserted nonterminal replaced by the string its cheapest rules give."
use Rattle.std.specs.Prelude.{ℕ, zero, suc, ◌≤◌, ◌<◌, List, [], ◌∷◌, ◌++◌, map, length}
use Rattle.grammar.specs.Derivation.{Rules}
use Rattle.grammar.specs.Cost.{Ends}
use Rattle.grammar.specs.Grammar.{Grammar, Meaning, grammar_of, meaning_of}
use Rattle.grammar.specs.Buffers.{filled, cleared}
use Rattle.grammar.specs.Moves.{Move}
use Rattle.grammar.specs.Run.{Asks, no_more, ParsesBy, counts_of}
use Rattle.grammar.specs.Refusals.{Outcome, given, refused}
use Rattle.grammar.specs.declared.Refusal.{Refusal}
use Rattle.grammar.specs.declared.Refusal.TheVariants.{ShortTokens}
use Rattle.grammar.specs.declared.Counts.{Counts}

-- A mark of the result: token t, kept from place p of the log; or a token that is added. "Ticks are not made up": an added one has no
-- place, and so no tick.
pub data Mark : Type 0 where
  kept : (p t : ℕ) → Mark
  added : (t : ℕ) → Mark

unfoldable pub token_of : Mark → ℕ
token_of (kept p t) = t
token_of (added t) = t

-- A matched token as a list of marks: END is none.
unfoldable pub kept_mark : ℕ → ℕ → List Mark
kept_mark p zero = []
kept_mark p (suc t) = kept p (suc t) ∷ []

-- The tokens of a string, each added.
unfoldable pub added_marks : List ℕ → List Mark
added_marks [] = []
added_marks (t ∷ w) = added t ∷ added_marks w

-- The marks that the moves come to: kept tokens as they are, and for each inserted symbol the string with which following cheapest rules
-- from it ends; a terminal is its own.
pub data Marked (R : Rules) (price : ℕ → ℕ) : List Move → List Mark → Type 0 where
  nothing : Marked R price [] []
  matched : {p t : ℕ} {ms : List Move} {xs : List Mark} → Marked R price ms xs → Marked R price (Move.match p t ∷ ms) (kept_mark p t ++ xs)
  expanded : {q : ℕ} {ms : List Move} {xs : List Mark} → Marked R price ms xs → Marked R price (Move.expand q ∷ ms) xs
  dropped : {X : ℕ} {ms : List Move} {xs : List Mark} → Marked R price ms xs → Marked R price (Move.drop X ∷ ms) xs
  deleted : {p t : ℕ} {ms : List Move} {xs : List Mark} → Marked R price ms xs → Marked R price (Move.delete p t ∷ ms) xs
  replaced : {d p X : ℕ} {w : List ℕ} {ms : List Move} {xs : List Mark} → Ends R price d (X ∷ []) w → Marked R price ms xs
      → Marked R price (Move.insert p X ∷ ms) (added_marks w ++ xs)

-- The marks of a grammar, and of the words'.
abbrev pub MarkedBy : Grammar → List Move → List Mark → Type 0
MarkedBy G = Marked G.rules G.price

abbrev pub MarksOf : List ℕ → List Move → List Mark → Type 0
MarksOf ws = MarkedBy (grammar_of ws)

-- The answer, counts of the parse and number of marks or a refusal, and the three buffers afterwards, where `word_of` is what stands for a
-- mark in the last one. "It runs the parse itself, so 01's refusals come first", with what else is asked; "15 when the token buffer
-- is too short for the full result, leaving every output buffer all zeros".
pub data MarksBy (word_of : Mark → ℕ) (Asked : Asks) (M : Meaning) (log : List ℕ) (edit_room rule_room token_room : ℕ)
    : Outcome (Counts × ℕ) → List ℕ → List ℕ → List ℕ → Type 0 where
  unparsed : {r : Refusal} {es rs : List ℕ} → ParsesBy Asked M log edit_room rule_room (refused r) es rs
      → MarksBy word_of Asked M log edit_room rule_room token_room (refused r) es rs (cleared token_room)
  short : {ms : List Move} {xs : List Mark} {es rs : List ℕ} → ParsesBy Asked M log edit_room rule_room (given ms) es rs
      → MarkedBy M.grammar ms xs → token_room < length xs
      → MarksBy word_of Asked M log edit_room rule_room token_room (refused ShortTokens) (cleared edit_room) (cleared rule_room) (cleared token_room)
  whole : {ms : List Move} {xs : List Mark} {es rs : List ℕ} → ParsesBy Asked M log edit_room rule_room (given ms) es rs
      → MarkedBy M.grammar ms xs → length xs ≤ token_room
      → MarksBy word_of Asked M log edit_room rule_room token_room (given (counts_of ms, length xs)) es rs (filled token_room (map word_of xs))

-- The answer to the words.
abbrev pub Marks : (Mark → ℕ) → Asks → List ℕ → List ℕ → ℕ → ℕ → ℕ → Outcome (Counts × ℕ) → List ℕ → List ℕ → List ℕ → Type 0
Marks word_of Asked ws = MarksBy word_of Asked (meaning_of ws)

-- The repaired log in marks alone: each mark is its token, and no more is asked.
abbrev pub MarksAnswer : List ℕ → List ℕ → ℕ → ℕ → ℕ → Outcome (Counts × ℕ) → List ℕ → List ℕ → List ℕ → Type 0
MarksAnswer = Marks token_of no_more
