-- What the parts of the report promise to each other: what a watch of the cycles does at each place, and what the cursor in
-- the edit records stands for.
use Rattle.std.specs.Prelude.{◌≡◌, ℕ, ◌+◌, ◌-◌, ◌*◌, ◌<◌, ◌≤◌, Bool, cond, not, ◌&&◌, ◌||◌, List, length, ◌==◌, slice_index, Option, Some, None}
use Rattle.std.proofs.Math.Option.{none}
use Rattle.base.specs.Telling.{Tells}
use Rattle.grammar.specs.Words.{Shaped, opening, closing, restart_mark}
use Rattle.grammar.specs.Moves.{Move, edits, edit_words}
use Rattle.grammar.specs.Buffers.{filled}
use Rattle.grammar.specs.Run.{RunOf, counts_of}
use Rattle.grammar.specs.Pace.{wrapped, Reports}
use Rattle.grammar.specs.Refusals.{given}
use Rattle.grammar.specs.declared.Report.{Report}
use Rattle.grammar.specs.Theory.Answered.{Admitted}
use Rattle.pace.specs.declared.Marks.{Marks}
use Rattle.pace.specs.declared.Here.{Here}
use Rattle.pace.specs.declared.Watch.{Watch}

-- ---- The edit records

-- The kind and the place of record i: "kind (1 delete, 2 insert), place, symbol".
abbrev pub kind_at : List ℕ → ℕ → ℕ
kind_at words i = slice_index words (3 * i)

abbrev pub place_at : List ℕ → ℕ → ℕ
place_at words i = slice_index words (3 * i + 1)

-- The records are there, and their places never fall.
pub record Records (words : List ℕ) (records : ℕ) : Type 0 where
  pub room : 3 * records ≤ length words
  pub ordered : (i j : ℕ) → i ≤ j → j < records → place_at words i ≤ place_at words j

-- The cursor `at` stands before the records of place p: those before it have earlier places, the others have not.
pub record Cursor (words : List ℕ) (records at p : ℕ) : Type 0 where
  pub rising : Records words records
  pub within : at ≤ records
  pub before : (i : ℕ) → i < at → place_at words i < p
  pub onward : (i : ℕ) → at ≤ i → i < records → p ≤ place_at words i

-- Some record has place p; some delete record has.
abbrev pub SomeAt : List ℕ → ℕ → ℕ → Type 0
SomeAt words records p = (i : ℕ) × (i < records) × (place_at words i ≡ p)

abbrev pub DeleteAt : List ℕ → ℕ → ℕ → Type 0
DeleteAt words records p = (i : ℕ) × (i < records) × (place_at words i ≡ p) × (kind_at words i ≡ 1)

-- What the records say of place p, and the cursor for the next place.
pub record Stands (words : List ℕ) (records p : ℕ) (here : Here) : Type 0 where
  pub edited : Tells (SomeAt words records p) here.edited
  pub deleted : Tells (DeleteAt words records p) here.deleted
  pub cursor : Cursor words records here.behind (p + 1)

-- ---- The watch

-- An edit spoils the open cycle.
unfoldable pub spoiled_by : Watch → Watch
spoiled_by w = record { since = None; count = w.count; sum = w.sum }

-- A closing mark counts the open cycle, which is clean, with its time in ticks.
abbrev pub counted : Option ℕ → ℕ → Watch → Watch
counted None tick w = w
counted (Some since) tick w = record { since = None; count = w.count + 1; sum = w.sum + wrapped since tick }

unfoldable pub closed_by : ℕ → Watch → Watch
closed_by tick w = counted w.since tick w

-- An opening mark opens a cycle.
unfoldable pub opened_by : ℕ → Watch → Watch
opened_by tick w = record { since = Some tick; count = w.count; sum = w.sum }

-- A place is passed: first what spoils there, then the closing mark, then the opening mark. A mark that is both does both.
unfoldable pub step_by : Bool → Bool → Bool → ℕ → Watch → Watch
unfolding spoiled_by closed_by opened_by
step_by spoils closes opens tick w =
    let spoiled = cond spoils (spoiled_by w) w in
    let closed = cond closes (closed_by tick spoiled) spoiled in
    cond opens (opened_by tick closed) closed

-- The marks of the words.
abbrev pub marks_of : List ℕ → Marks
marks_of ws = record { opening = opening ws; closing = closing ws; restart = restart_mark ws }

-- A mark counts where its token is kept. A restart mark spoils as an edit does.
unfoldable pub passed_by : Marks → Here → ℕ → ℕ → Watch → Watch
unfolding step_by
passed_by marks here token tick w =
    step_by (here.edited || token == marks.restart) (not here.deleted && token == marks.closing)
    (not here.deleted && token == marks.opening) tick w

-- Few cycles so far: nothing overflows at one more.
pub record Small (w : Watch) : Type 0 where
  pub count : w.count ≤ 4095
  pub sum : w.sum ≤ w.count * 4294967295

-- Fewer cycles than places passed: the first place closes none, and no place closes two.
pub record Few (places : ℕ) (w : Watch) : Type 0 where
  pub count : w.count ≤ places - 1
  pub sum : w.sum ≤ w.count * 4294967295
  pub started : (t : ℕ) → w.since ≡ Some t → 1 ≤ places

-- ---- The run

-- What is lent: words that have the shape, a log that is not too long with its ticks, and edit records.
pub record Lent (ws log ticks words : List ℕ) (records : ℕ) : Type 0 where
  pub shaped : Shaped ws
  pub tokens : length log ≤ 4096
  pub ticked : length ticks ≡ length log
  pub rising : Records words records

-- The run of the log ended with the moves ms, and the words are what it left in the edit buffer.
pub record Ran (ws log words : List ℕ) (records : ℕ) (ms : List Move) : Type 0 where
  pub admitted : Admitted ws log
  pub edit_room : ℕ
  pub rule_room : ℕ
  pub run : RunOf ws log edit_room rule_room ms none
  pub left : words ≡ filled edit_room (edit_words (edits ms))
  pub counted : records ≡ length (edits ms)

-- The report is that of the run, whichever run it was that left these edits.
pub record Finds (ws log ticks words : List ℕ) (records : ℕ) (report : Report) : Type 0 where
  pub of_run : (ms : List Move) → Ran ws log words records ms → Reports ws ticks (given ms) (given (report, counts_of ms))
