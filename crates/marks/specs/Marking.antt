-- What the functions ask and give on the way to the result.
use Rattle.std.specs.Prelude.{ℕ, ◌+◌, ◌*◌, ◌≤◌, ◌<◌, ◌≡◌, List, map, length, get_or, take, Option}
use Rattle.base.specs.Written.{written}
use Rattle.grammar.specs.Words.{nonterminal_count}
use Rattle.grammar.specs.Derivation.{All}
use Rattle.grammar.specs.Grammar.{grammar_of}
use Rattle.grammar.specs.Moves.{Move, edit_words, repaired}
use Rattle.grammar.specs.Moves.{edits as edits_of}
use Rattle.grammar.specs.Marks.{Mark, MarksOf}
use Rattle.grammar.specs.Theory.Good.{Accepted}
use Rattle.grammar.specs.Theory.Places.{Walk}
use Rattle.grammar.specs.Theory.Tables.{Cheap}
use Rattle.strings.specs.Ready.{Tables}
use Rattle.marks.specs.Answer.{PutOf, word_by}
use Rattle.marks.specs.Restored.{Ahead}
use Rattle.marks.specs.Restoring.{added_words, restored, Names, Listed}

-- ---- One record

pub record CanAdd (t : Tables) (kind symbol raise : ℕ) (tokens : List ℕ) (at : ℕ) : Type 0 where
  pub names : Names kind symbol
  pub small : raise ≤ 4096
  pub room : at + length (added_words t.rights t.depth raise kind symbol) ≤ length tokens

-- What it adds stands in the buffer from `at` on.
pub record WroteAdded (table : List ℕ) (depth kind symbol raise : ℕ) (old : List ℕ) (at : ℕ) (tokens : List ℕ) (end : ℕ) : Type 0 where
  pub wrote : tokens ≡ written old at (added_words table depth raise kind symbol)
  pub ends : end ≡ at + length (added_words table depth raise kind symbol)

-- ---- Kept words

-- The words stand in the buffer from `at` on.
pub record Copied (part old : List ℕ) (at : ℕ) (tokens : List ℕ) (end : ℕ) : Type 0 where
  pub wrote : tokens ≡ written old at part
  pub ends : end ≡ at + length part

-- ---- All records

pub record CanSize (records lengths : List ℕ) (n : ℕ) : Type 0 where
  pub limit : (k : ℕ) → k < 64 → get_or lengths k 0 ≤ 60000
  pub listed : Listed n 0 records

pub record CanRestore (t : Tables) (records kept : List ℕ) (raise : ℕ) (tokens : List ℕ) : Type 0 where
  pub listed : Listed (length kept) 0 records
  pub small : raise ≤ 4096
  pub room : length (restored t.rights t.depth raise kept 0 records) ≤ length tokens

-- The result stands in front of the buffer.
pub record RestoredAs (table : List ℕ) (depth : ℕ) (records kept : List ℕ) (raise : ℕ) (old tokens : List ℕ) (size : ℕ) : Type 0 where
  pub wrote : tokens ≡ written old 0 (restored table depth raise kept 0 records)
  pub count : size ≡ length (restored table depth raise kept 0 records)

-- ---- The result of a run

-- The moves of which the edit buffer has the records: they walk through a log of n tokens, and what they insert is known.
pub record Ran (ws edits : List ℕ) (records n : ℕ) (ms : List Move) : Type 0 where
  pub ahead : List ℕ
  pub tokens : Ahead n 0 ahead
  pub walk : Walk 0 ahead ms
  pub known : All (grammar_of ws).known (repaired ms)
  pub front : take (3 * records) edits ≡ edit_words (edits_of ms)

pub record CanPut (ws prices sides edits : List ℕ) (records : ℕ) (kept : List ℕ) (raise : ℕ) : Type 0 where
  pub accepted : Accepted ws
  pub cheap : Cheap (grammar_of ws) (nonterminal_count ws) prices sides
  pub words : 3 * records ≤ length edits
  pub small : raise ≤ 4096
  pub moves : List Move
  pub ran : Ran ws edits records (length kept) moves

-- The marks of the moves are put into the buffer, each as its word, or do not fit.
pub record PutAs (ws edits : List ℕ) (records : ℕ) (kept : List ℕ) (raise : ℕ) (old tokens : List ℕ) (r : Option ℕ) : Type 0 where
  pub puts : (ms : List Move) (xs : List Mark) → Ran ws edits records (length kept) ms → MarksOf ws ms xs
      → PutOf (map (word_by kept raise) xs) old tokens r
