-- What `correction::correct` promises: the correction that 01 and request (ii) of 02 ask for, and its moves and records; or its records do
-- not fit.
use Rattle.std.specs.Prelude.{ℕ, ◌+◌, ◌*◌, ◌≤◌, ◌<◌, ◌^◌, ◌≡◌, List, ◌++◌, length, get_or, take, Option, Some, None}
use Rattle.grammar.specs.Words.{END}
use Rattle.grammar.specs.Run.{Hit, Pop, Popped, deletes, pops}
use Rattle.grammar.specs.Theory.Folds.{missing_of}
use Rattle.grammar.specs.Theory.Tables.{Sized}
use Rattle.moves.specs.States.{CanCount}
use Rattle.moves.specs.Pile.{pile}
use Rattle.moves.specs.declared.Parser.{Parser}
use Rattle.correction.specs.Tokens.{rest_of}
use Rattle.correction.specs.Searching.{CanSearch}
use Rattle.correction.specs.Records.{words_of}

-- What a correction needs: what a search needs, END at the bottom of the stack, and room to count.
pub record CanCorrect (S : Sized) (log masks prices stack : List ℕ) (p : Parser) : Type 0 where
  pub search : CanSearch S log masks prices stack p.height
  pub some : 0 < p.height
  pub bottom : get_or stack 0 0 ≡ END
  pub unlimited : (c : ℕ) → S.grammar.reliable c END
  pub place : p.place ≤ length log
  pub room : p.moves + (length log + 1) + p.height < 2 ^ 64
  pub count : 3 * (p.records + (length log + 1) + p.height) + 3 < 2 ^ 64
  pub counts : CanCount p

-- The correction that deletes j tokens and pops i symbols, and what these become.
pub record Correction (S : Sized) (log stack : List ℕ) (p : Parser) : Type 0 where
  pub deleted : ℕ
  pub popped : ℕ
  pub becomes : List Pop
  pub hit : Hit S.grammar (pile stack p.height) (rest_of log p.place) deleted popped
  pub pops : Popped S.grammar.rules (take popped (pile stack p.height)) becomes

-- Its records: one for each token deleted and each symbol inserted.
abbrev pub record_count : {S : Sized} {log stack : List ℕ} {p : Parser} → Correction S log stack p → ℕ
record_count c = c.deleted + length (missing_of c.becomes)

-- Its moves are counted, and its records stand behind those before.
pub record Made (S : Sized) (log stack before : List ℕ) (p : Parser) (after : List ℕ) (c : Correction S log stack p) (q : Parser)
    : Type 0 where
  pub place : q.place ≡ p.place + c.deleted
  pub height : q.height + c.popped ≡ p.height
  pub moves : q.moves ≡ p.moves + (c.deleted + c.popped)
  pub records : q.records ≡ p.records + record_count c
  pub listed : q.listed ≡ p.listed
  pub size : length after ≡ length before
  pub fits : 3 * q.records ≤ length before
  pub front : take (3 * q.records) after
      ≡ take (3 * p.records) before
      ++ words_of (deletes p.place (take c.deleted (rest_of log p.place)) ++ pops (p.place + c.deleted) c.becomes)

unfoldable pub CorrectedOf : Sized → List ℕ → List ℕ → List ℕ → Parser → List ℕ → Option Parser → Type 0
CorrectedOf S log stack before p after (Some q) = (c : Correction S log stack p) × Made S log stack before p after c q
CorrectedOf S log stack before p after None =
    (c : Correction S log stack p) × (length before < 3 * (p.records + record_count c))
