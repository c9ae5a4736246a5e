-- Document 01, "Moves": what a move is, and what a list of moves leaves: edit records, rule numbers, the repaired log.
use Rattle.std.specs.Prelude.{ℕ, zero, suc, ◌+◌, List, [], ◌∷◌, ◌++◌}

-- "Every match, expand, drop, delete and insert counts one move." A match and a delete name their token's place and the
-- token, an expand its rule, a drop its symbol, an insert the place r and its symbol.
pub data Move : Type 0 where
  match : ℕ → ℕ → Move
  expand : ℕ → Move
  drop : ℕ → Move
  delete : ℕ → ℕ → Move
  insert : ℕ → ℕ → Move

-- "An edit record is three u16 words: kind (1 delete, 2 insert), place, symbol."
pub record Edit : Type 0 where
  pub kind : ℕ
  pub place : ℕ
  pub symbol : ℕ

-- The edit records of the moves: "records stand in move order".
unfoldable pub edits : List Move → List Edit
edits [] = []
edits (match p t ∷ ms) = edits ms
edits (expand q ∷ ms) = edits ms
edits (drop X ∷ ms) = edits ms
edits (delete p t ∷ ms) = record { kind = 1; place = p; symbol = t } ∷ edits ms
edits (insert p X ∷ ms) = record { kind = 2; place = p; symbol = X } ∷ edits ms

-- The records as words.
unfoldable pub edit_words : List Edit → List ℕ
edit_words [] = []
edit_words (e ∷ es) = e.kind ∷ e.place ∷ e.symbol ∷ edit_words es

-- The rule numbers listed: an expand's "rule number is listed", a drop has "nothing listed".
unfoldable pub rule_numbers : List Move → List ℕ
rule_numbers [] = []
rule_numbers (match p t ∷ ms) = rule_numbers ms
rule_numbers (expand q ∷ ms) = q ∷ rule_numbers ms
rule_numbers (drop X ∷ ms) = rule_numbers ms
rule_numbers (delete p t ∷ ms) = rule_numbers ms
rule_numbers (insert p X ∷ ms) = rule_numbers ms

-- A token of the log as a list: END is none.
unfoldable pub log_token : ℕ → List ℕ
log_token zero = []
log_token (suc t) = suc t ∷ []

-- "The repaired log is the log without deleted tokens and with inserted symbols put before place r."
unfoldable pub repaired : List Move → List ℕ
repaired [] = []
repaired (match p t ∷ ms) = log_token t ++ repaired ms
repaired (expand q ∷ ms) = repaired ms
repaired (drop X ∷ ms) = repaired ms
repaired (delete p t ∷ ms) = repaired ms
repaired (insert p X ∷ ms) = X ∷ repaired ms

-- A token with its place.
pub record Placed : Type 0 where
  pub place : ℕ
  pub token : ℕ

-- "Kept and deleted tokens together", END among them: the tokens that the moves go past, with their places.
unfoldable pub passed : List Move → List Placed
passed [] = []
passed (match p t ∷ ms) = record { place = p; token = t } ∷ passed ms
passed (expand q ∷ ms) = passed ms
passed (drop X ∷ ms) = passed ms
passed (delete p t ∷ ms) = record { place = p; token = t } ∷ passed ms
passed (insert p X ∷ ms) = passed ms

-- A list of tokens with their places, from a place on.
unfoldable pub placed : ℕ → List ℕ → List Placed
placed p [] = []
placed p (t ∷ ts) = record { place = p; token = t } ∷ placed (p + 1) ts
