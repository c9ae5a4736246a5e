-- Document 01, "Pace": cycles, which of them are clean, their times, and the report; with requests (vi) and (viii) of 02.
use Rattle.std.specs.Prelude.{ℕ, zero, suc, ◌+◌, ◌-◌, ◌%◌, ◌≤◌, ◌<◌, ◌≡◌, length, get_or, pos}
use mathlib.Core.List.{List, [], ◌∷◌, Memᴰ}
use Rattle.std.specs.Float.Ieee.{div, of_int}
use Rattle.std.specs.Float.{binary64}
use Rattle.grammar.specs.Grammar.{Meaning, meaning_of}
use Rattle.grammar.specs.Moves.{Move, edits}
use Rattle.grammar.specs.Refusals.{◌unless◌, Outcome, given, refused}
use Rattle.grammar.specs.Run.{Asks, counts_of, ParsesBy}
use Rattle.grammar.specs.declared.Refusal.{Refusal}
use Rattle.grammar.specs.declared.Refusal.TheVariants.{Hundredths}
use Rattle.grammar.specs.declared.Pace.{Pace}
use Rattle.grammar.specs.declared.Pace.TheVariants.{Idle, Mean}
use Rattle.grammar.specs.declared.Report.{Report}
use Rattle.grammar.specs.declared.Counts.{Counts}

-- ---- Cycles

-- Token t at place p is kept: a match move has it.
abbrev pub Kept : List Move → ℕ → ℕ → Type 0
Kept ms p t = Memᴰ (Move.match p t) ms

-- An edit has place p: a delete's place is its token's, an insert's is r.
abbrev pub Edited : List Move → ℕ → Type 0
Edited ms p = (k X : ℕ) × Memᴰ (record { kind = k; place = p; symbol = X }) (edits ms)

-- The two places of a cycle.
pub record Span : Type 0 where
  pub opened : ℕ
  pub closed : ℕ

-- "A cycle is a kept opening mark at place a and a kept closing mark at place b > a with no kept opening or closing mark
-- between." Where both marks are 0 there are no cycles.
pub record Cycle (o c : ℕ) (ms : List Move) (s : Span) : Type 0 where
  pub marked : 1 ≤ o
  pub ordered : s.opened < s.closed
  pub opens : Kept ms s.opened o
  pub closes : Kept ms s.closed c
  pub no_opening : (p : ℕ) → s.opened < p → p < s.closed → Kept ms p o → ⊥
  pub no_closing : (p : ℕ) → s.opened < p → p < s.closed → Kept ms p c → ⊥

-- "It is clean when no edit has place p with a < p <= b." And by request (vi) of 02 "a kept restart mark strictly between a and b makes a
-- cycle unclean"; a restart mark of 0 is none.
pub record Clean (o c m : ℕ) (ms : List Move) (s : Span) : Type 0 where
  pub cycle : Cycle o c ms s
  pub unedited : (p : ℕ) → s.opened < p → p ≤ s.closed → Edited ms p → ⊥
  pub no_restart : 1 ≤ m → (p : ℕ) → s.opened < p → p < s.closed → Kept ms p m → ⊥

-- Each span closes behind the one before it.
pub data Ascending : List Span → Type 0 where
  nothing : Ascending []
  only : {s : Span} → Ascending (s ∷ [])
  also : {s u : Span} {ss : List Span} → s.closed < u.closed → Ascending (u ∷ ss) → Ascending (s ∷ u ∷ ss)

-- The clean cycles of the moves, each once, in order.
pub record CleanCycles (o c m : ℕ) (ms : List Move) (cs : List Span) : Type 0 where
  pub ascending : Ascending cs
  pub every : (s : Span) → Clean o c m ms s → Memᴰ s cs
  pub only : (s : Span) → Memᴰ s cs → Clean o c m ms s

-- ---- Times

-- "Tick b minus tick a modulo 2^32."
unfoldable pub wrapped : ℕ → ℕ → ℕ
wrapped a b = (b + 4294967296 - a) % 4294967296

-- The time of a cycle in ms: "tick b minus tick a modulo 2^32". (01 goes on: "times ten for unit 1", of which by request (viii) no pace
-- comes.)
unfoldable pub cycle_ms : List ℕ → Span → ℕ
cycle_ms ticks s = wrapped (get_or ticks s.opened 0) (get_or ticks s.closed 0)

-- "The sum of their times in ms."
unfoldable pub total_ms : List ℕ → List Span → ℕ
total_ms ticks [] = 0
total_ms ticks (s ∷ ss) = cycle_ms ticks s + total_ms ticks ss

-- "A pace: idle when the count is 0, else the mean in ms as an f64, sum and count each converted .. and divided once."
unfoldable pub pace_of : ℕ → ℕ → Pace
pace_of zero sum = Idle
pace_of (suc n) sum = Mean (div binary64 (of_int binary64 (pos sum)) (of_int binary64 (pos (suc n))))

-- ---- The report

-- The report of a list of clean cycles.
unfoldable pub report_of : List ℕ → List Span → Report
report_of ticks cs = record { count = length cs; sum = total_ms ticks cs; pace = pace_of (length cs) (total_ms ticks cs) }

-- The report of the moves with the counts of their parse, or the refusal.
pub data ReportsBy (M : Meaning) (ticks : List ℕ) : Outcome (List Move) → Outcome (Report × Counts) → Type 0 where
  paced : {ms : List Move} {cs : List Span} → CleanCycles M.opening M.closing M.restart ms cs
      → ReportsBy M ticks (given ms) (given (report_of ticks cs, counts_of ms))
  unpaced : {r : Refusal} → ReportsBy M ticks (refused r) (refused r)

-- That by the words.
abbrev pub Reports : List ℕ → List ℕ → Outcome (List Move) → Outcome (Report × Counts) → Type 0
Reports ws = ReportsBy (meaning_of ws)

-- What the report asks besides: "ticks and tokens" do not "differ in number" under refusal 10; and by request (viii) of 02 the unit is not
-- 1, "16 .. after 10 and before 11", so before the run.
abbrev pub timed : ℕ → List ℕ → List ℕ → Asks
timed unit log ticks =
    record { under_10 = length ticks ≡ length log; behind_10 = (Hundredths unless (unit ≡ 1 → ⊥)) ∷ [] }

-- The report's answer and the two buffers: it "runs the parse itself" and leaves in them what the parse leaves.
pub record ReportedBy (M : Meaning) (log ticks : List ℕ) (edit_room rule_room : ℕ) (answer : Outcome (Report × Counts)) (es rs : List ℕ)
    : Type 0 where
  pub outcome : Outcome (List Move)
  pub parses : ParsesBy (timed M.unit log ticks) M log edit_room rule_room outcome es rs
  pub reports : ReportsBy M ticks outcome answer

-- The report's answer to the words.
abbrev pub Reported : List ℕ → List ℕ → List ℕ → ℕ → ℕ → Outcome (Report × Counts) → List ℕ → List ℕ → Type 0
Reported ws = ReportedBy (meaning_of ws)
