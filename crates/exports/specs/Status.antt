-- What each exported function answers and leaves in the lent buffers, over the answers of the functions that it calls.
use Rattle.std.specs.Prelude.{ℕ, ◌≡◌, List, [], ◌∷◌, ◌++◌, false, pos, Float, take, replicate}
use Rattle.std.proofs.Math.Option.{Option, none, some}
use Rattle.std.specs.Float.{nan, fin}
use Rattle.grammar.specs.Refusals.{Outcome, given, refused, number_of}
use Rattle.grammar.specs.File.{FileRead}
use Rattle.grammar.specs.Writing.{FileWritten}
use Rattle.grammar.specs.Desk.{DeskAnswer}
use Rattle.grammar.specs.Grammar.{Verdict}
use Rattle.grammar.specs.Run.{Parsed}
use Rattle.grammar.specs.Marks.{MarksAnswer}
use Rattle.grammar.specs.Pace.{Reported}
use Rattle.grammar.specs.declared.Counts.{Counts}
use Rattle.grammar.specs.declared.Refusal.{Refusal}
use Rattle.grammar.specs.declared.Report.{Report}
use Rattle.grammar.specs.declared.Pace.{Pace}
use Rattle.grammar.specs.declared.Pace.TheVariants.{Idle, Mean}

-- What a buffer of `room` cells holds behind `xs` that are written as far as they fit: `blank` in every further cell.
unfoldable pub fitted : {A : Type 0} → A → ℕ → List A → List A
fitted blank room xs = take room (xs ++ replicate room blank)

-- A buffer of counts: those that fit are written, zeros behind them.
abbrev pub counted : ℕ → List ℕ → List ℕ
counted room ns = fitted 0 room ns

-- The status of an answer: that of its values, or the number of the refusal.
unfoldable pub status_of : {A : Type 0} → (A → ℕ) → Outcome A → ℕ
status_of status (given a) = status a
status_of status (refused r) = number_of r

-- What is written of an answer: of a refusal nothing.
unfoldable pub cells_of : {A B : Type 0} → (A → List B) → Outcome A → List B
cells_of cells (given a) = cells a
cells_of cells (refused r) = []

-- The status and the buffer of counts by one outcome, which is `Answer`.
pub record AnsweredAs {A : Type 0} (Answer : Outcome A → Type 0) (status_by : A → ℕ) (counts_by : A → List ℕ) (count_room status : ℕ)
    (counts : List ℕ) : Type 0 where
  pub outcome : Outcome A
  pub answer : Answer outcome
  pub status_is : status ≡ status_of status_by outcome
  pub counts_are : counts ≡ counted count_room (cells_of counts_by outcome)

-- ---- Reading, writing, pricing, parsing and marking

-- A file is read: status 0, and the number of words.
abbrev pub ReadAs : List ℕ → ℕ → ℕ → ℕ → List ℕ → List ℕ → Type 0
ReadAs bytes room count_room status words counts =
    AnsweredAs (λ (o : Outcome ℕ). FileRead bytes room o words) (λ n. 0) (λ n. n ∷ []) count_room status counts

-- A file is written: status 0, and the number of bytes.
abbrev pub WrittenAs : List ℕ → ℕ → ℕ → ℕ → List ℕ → List ℕ → Type 0
WrittenAs words room count_room status bytes counts =
    AnsweredAs (λ (o : Outcome ℕ). FileWritten words room o bytes) (λ n. 0) (λ n. n ∷ []) count_room status counts

-- Costs and cheapest rules are listed: status 0, and the number of nonterminals.
abbrev pub DeskAs : List ℕ → ℕ → ℕ → ℕ → ℕ → List ℕ → List ℕ → List ℕ → Type 0
DeskAs words cost_room rule_room count_room status costs rules counts =
    AnsweredAs (λ (o : Outcome ℕ). DeskAnswer words cost_room rule_room o costs rules) (λ n. 0) (λ n. n ∷ []) count_room status counts

-- The counts of a parse: moves, edit records, rule numbers.
abbrev pub parse_counts : Counts → List ℕ
parse_counts n = n.moves ∷ n.records ∷ n.listed ∷ []

-- A log is parsed: status 0, and its counts.
abbrev pub ParsedAs : List ℕ → List ℕ → ℕ → ℕ → ℕ → ℕ → List ℕ → List ℕ → List ℕ → Type 0
ParsedAs words log edit_room rule_room count_room status edits rules counts =
    AnsweredAs (λ (o : Outcome Counts). Parsed words log edit_room rule_room o edits rules) (λ n. 0) parse_counts count_room status counts

-- The counts of a repaired log in marks alone: those of its parse, and the tokens.
abbrev pub marks_counts : Counts × ℕ → List ℕ
marks_counts a = a.0.moves ∷ a.0.records ∷ a.0.listed ∷ a.1 ∷ []

-- A repaired log is written in marks alone: status 0, and its counts.
abbrev pub MarksAs : List ℕ → List ℕ → ℕ → ℕ → ℕ → ℕ → ℕ → List ℕ → List ℕ → List ℕ → List ℕ → Type 0
MarksAs words log edit_room rule_room token_room count_room status edits rules tokens counts =
    AnsweredAs (λ (o : Outcome (Counts × ℕ)). MarksAnswer words log edit_room rule_room token_room o edits rules tokens) (λ a. 0) marks_counts
    count_room status counts

-- ---- Checking

-- The status of a verdict: 0 where the words are accepted.
unfoldable pub verdict_status : Option Refusal → ℕ
verdict_status none = 0
verdict_status (some r) = number_of r

-- Words are checked: the status is that of their verdict.
pub record CheckedAs (words : List ℕ) (status : ℕ) : Type 0 where
  pub outcome : Option Refusal
  pub verdict : Verdict words outcome
  pub status_is : status ≡ verdict_status outcome

-- ---- Pacing

-- 0.0, which stands in every cell of a float buffer that is not written.
abbrev pub plus_zero : Float
plus_zero = fin false 0 (pos 0)

-- The status of a pace: 1000 where the station is idle.
unfoldable pub pace_status : Pace → ℕ
pace_status Idle = 1000
pace_status (Mean ms) = 0

-- The float of a pace: an idle answer cannot be taken for a mean.
unfoldable pub pace_float : Pace → Float
pace_float Idle = nan
pace_float (Mean ms) = ms

-- A log is paced: the status of its pace, the clean cycles and the sum of their times in ms, and one float. The counts of its parse
-- are not given.
pub record PacedAs (words log ticks : List ℕ) (edit_room rule_room count_room mean_room status : ℕ) (edits rules counts : List ℕ)
    (mean : List Float) : Type 0 where
  pub answered : AnsweredAs (λ (o : Outcome (Report × Counts)). Reported words log ticks edit_room rule_room o edits rules)
      (λ a. pace_status a.0.pace) (λ a. a.0.count ∷ a.0.sum ∷ []) count_room status counts
  pub mean_is : mean ≡ fitted plus_zero mean_room (cells_of (λ a. pace_float a.0.pace ∷ []) answered.outcome)
