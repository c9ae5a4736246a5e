-- Request (viii)'s examples. G1 is G with unit 1: the parser takes it, the report and the writer refuse it with 16.
use Rattle.std.specs.Prelude.{ℕ, ◌≤◌, ◌≡◌, true, length, take, drop, replicate, T}
use Rattle.std.proofs.Math.Path.{refl}
use mathlib.Core.List.{List, [], ◌∷◌, ◌++◌}
use Rattle.std.proofs.Math.Option.{none, some}
use Rattle.std.proofs.Common.{arith}
use Rattle.std.proofs.lemmas.List.{length-replicate}
use Rattle.grammar.specs.Words.{is_long, terminal_count, tick_unit}
use Rattle.grammar.specs.Grammar.{Verdict}
use Rattle.grammar.specs.Buffers.{filled, cleared, Fills}
use Rattle.grammar.specs.Moves.{Move, edits, edit_words, rule_numbers}
use Rattle.grammar.specs.Refusals.{Lowest, given, refused}
use Rattle.grammar.specs.Run.{no_more, run_conditions, Settled, Parsed, answered, left}
use Rattle.grammar.specs.Pace.{timed, Reported, ReportsBy}
use Rattle.grammar.specs.Writing.{blocks_of, WordCount, FileWritten}
use Rattle.grammar.specs.declared.Refusal.{Refusal}
use Rattle.grammar.specs.declared.Refusal.TheVariants.{BadShape, BadLog, StackFull, BadCount, Hundredths, ShortBytes}
use Rattle.grammar.specs.Theory.Conditions.{all_met, applies, passes, held_front, refused_front}
use Rattle.grammar.proofs.Theory.Unpaced.{sixteen_reported}
use Rattle.grammar.proofs.Model.Parses.{fits_log, log_test, outcome_of, settled}
use Rattle.grammar.specs.Model.Reflects.{iff_test}
use Rattle.grammar.specs.Model.Verdicts.{verdict_of, judged}
use Rattle.grammar.specs.Cases.Case.{edit_room, rule_room}
use Rattle.grammar.specs.Cases.Cases.{G}

abbrev g1 : List ℕ
g1 = (7 ∷ 4 ∷ 6 ∷ 1 ∷ 4 ∷ 1 ∷ []) ++ drop 6 G

g1_passes : Verdict g1 none
unfolding verdict_of
g1_passes = judged g1 none refl

-- ---- The parser: "on G1, 1 2 3 4: 10 moves, rules 0 2 3"

abbrev cycle : List ℕ
cycle = 1 ∷ 2 ∷ 3 ∷ 4 ∷ []

abbrev moves : List Move
moves =
    Move.expand 0
    ∷ Move.expand 2
    ∷ Move.match 0 1
    ∷ Move.expand 3
    ∷ Move.match 1 2
    ∷ Move.drop 67
    ∷ Move.match 2 3
    ∷ Move.match 3 4
    ∷ Move.drop 64
    ∷ Move.match 4 0
    ∷ []

pub parser_takes_unit_1 : Parsed g1 cycle edit_room rule_room (given (record { moves = 10; records = 0; listed = 3 })) (filled edit_room [])
    (filled rule_room (0 ∷ 2 ∷ 3 ∷ []))
unfolding outcome_of fits_log is_long answered left edits edit_words rule_numbers
parser_takes_unit_1 =
    record {
      outcome = given moves;
      parses =
          record {
            settled =
                settled g1 cycle edit_room rule_room no_more all_met (given moves) true
                (iff_test (log_test g1 cycle) (λ f. (f, tt)) (λ f. f.0)) refl;
            leaves_edits = refl;
            leaves_rules = refl;
          };
      answers = refl;
    }

-- "64 -> 1 64 2; 64 -> empty with unit 1 and 254 of 1: parser 11, report .. 16."
abbrev brackets : List ℕ
brackets = (3 ∷ 1 ∷ 2 ∷ 0 ∷ 0 ∷ 1 ∷ []) ++ ((0 ∷ 0 ∷ 1 ∷ 0 ∷ 1 ∷ 0 ∷ []) ++ (0 ∷ 3 ∷ 1 ∷ 64 ∷ 2 ∷ 0 ∷ 0 ∷ []))

pub brackets_parsed : Parsed brackets (replicate 254 1) edit_room rule_room (refused StackFull) (cleared edit_room) (cleared rule_room)
unfolding outcome_of fits_log is_long answered left rule_numbers
brackets_parsed =
    record {
      outcome = refused StackFull;
      parses =
          record {
            settled =
                settled brackets (replicate 254 1) edit_room rule_room no_more all_met (refused StackFull) true
                (iff_test (log_test brackets (replicate 254 1)) (λ f. (f, tt)) (λ f. f.0)) refl;
            leaves_edits = refl;
            leaves_rules = refl;
          };
      answers = refl;
    }

-- ---- The report

-- It is refused, and leaves zeros.
abbrev ReportRefuses : List ℕ → List ℕ → List ℕ → ℕ → ℕ → Refusal → Type 0
ReportRefuses ws log ticks edit_room rule_room r =
    Reported ws log ticks edit_room rule_room (refused r) (cleared edit_room) (cleared rule_room)

module _ (edit_room rule_room : ℕ) where
  gives_16 : (log ticks : List ℕ) → T (fits_log g1 log) → length ticks ≡ length log
      → ReportRefuses g1 log ticks edit_room rule_room Hundredths
  unfolding tick_unit
  gives_16 log ticks fits same = sixteen_reported (g1_passes, (log_test g1 log).says fits, same, refl)

  -- "Report on 1 2 3 4, on an empty log, and on log 1", whatever the buffers: 16.
  pub report_16 : ReportRefuses g1 cycle (0 ∷ 10 ∷ 20 ∷ 30 ∷ []) edit_room rule_room Hundredths
      × ReportRefuses g1 [] [] edit_room rule_room Hundredths
      × ReportRefuses g1 (1 ∷ []) (0 ∷ []) edit_room rule_room Hundredths
  unfolding fits_log is_long
  report_16 = (gives_16 cycle (0 ∷ 10 ∷ 20 ∷ 30 ∷ []) tt refl, gives_16 [] [] tt refl, gives_16 (1 ∷ []) (0 ∷ []) tt refl)

  pub brackets_reported : ReportRefuses brackets (replicate 254 1) (replicate 254 0) edit_room rule_room Hundredths
  unfolding verdict_of fits_log is_long tick_unit
  brackets_reported =
      sixteen_reported (judged brackets none refl, (log_test brackets (replicate 254 1)).says tt, refl, refl)

  refuses_before : (ws log ticks : List ℕ) (r : Refusal) → Lowest (run_conditions ws log (timed (tick_unit ws) log ticks)) (some r)
      → ReportRefuses ws log ticks edit_room rule_room r
  unfolding left
  refuses_before ws log ticks r l =
      record {
        outcome = refused r;
        parses = record { settled = Settled.before l; leaves_edits = refl; leaves_rules = refl };
        reports = ReportsBy.unpaced;
      }

  -- "On log 1 without a tick, or log 7: 10."
  pub report_10 : ReportRefuses g1 (1 ∷ []) [] edit_room rule_room BadLog × ReportRefuses g1 (7 ∷ []) (0 ∷ []) edit_room rule_room BadLog
  unfolding terminal_count is_long
  report_10 = (
    refuses_before g1 (1 ∷ []) [] BadLog (held_front g1_passes (applies (λ h. omega (arith, h.1)))),
    refuses_before g1 (7 ∷ []) (0 ∷ []) BadLog (held_front g1_passes (applies (λ h. omega (arith, h.0.high 0 (omega arith))))),
  )

  -- "On G1 without its last word: 5."
  pub report_5 : ReportRefuses (take 41 g1) (1 ∷ []) (0 ∷ []) edit_room rule_room BadShape
  unfolding verdict_of
  report_5 = refuses_before (take 41 g1) (1 ∷ []) (0 ∷ []) BadShape (refused_front _ (judged (take 41 g1) (some BadShape) refl))

-- ---- The writer

-- It is refused, and leaves zeros; or the file is written.
abbrev WriteRefuses : List ℕ → ℕ → Refusal → Type 0
WriteRefuses ws room r = FileWritten ws room (refused r) (cleared room)

abbrev Writes : List ℕ → ℕ → Type 0
Writes ws room = FileWritten ws room (given (length (blocks_of ws))) (filled room (blocks_of ws))

abbrev five : List ℕ
five = 7 ∷ 4 ∷ 6 ∷ 1 ∷ 4 ∷ []

some_words : (ws : List ℕ) {n : ℕ} → length ws ≡ n → 1 ≤ n → n ≤ 2783 → WordCount (length ws)
some_words ws e low high = record { some = omega arith; most = omega arith }

unit_1 : (ws : List ℕ) {n : ℕ} (room : ℕ) → length ws ≡ n → 6 ≤ n → n ≤ 2783 → tick_unit ws ≡ 1 → WriteRefuses ws room Hundredths
unit_1 ws room e low high one =
    record {
      write = Fills.refuse (passes (some_words ws e (omega arith) high) (applies (λ n. n (record { six = omega arith; one = one }))));
    }

-- "7 4 6 1 4 1 with 512 or 0 bytes, 0 0 0 0 0 1, 2,783 of 1: 16"; whatever the buffer.
pub writer_16 : (room : ℕ) → WriteRefuses (five ++ (1 ∷ [])) room Hundredths
    × WriteRefuses (0 ∷ 0 ∷ 0 ∷ 0 ∷ 0 ∷ 1 ∷ []) room Hundredths
    × WriteRefuses (replicate 2783 1) room Hundredths
unfolding tick_unit
writer_16 room = (
  unit_1 (five ++ (1 ∷ [])) room refl (omega arith) (omega arith) refl,
  unit_1 (0 ∷ 0 ∷ 0 ∷ 0 ∷ 0 ∷ 1 ∷ []) room refl (omega arith) (omega arith) refl,
  unit_1 (replicate 2783 1) room (length-replicate {A = ℕ} 2783 1) (omega arith) (omega arith) refl,
)

-- "7 4 6 1 4 in 512 bytes: written"; "7 4 6 1 4 2: written".
pub writer_writes : Writes five 512 × Writes (five ++ (2 ∷ [])) 512
unfolding tick_unit
writer_writes = (
  record {
    write = Fills.fill (passes (some_words five refl (omega arith) (omega arith))
        (passes (λ u. omega (arith, u.six)) (passes (omega arith) all_met)));
  },
  record {
    write = Fills.fill (passes (some_words (five ++ (2 ∷ [])) refl (omega arith) (omega arith))
        (passes (λ u. omega (arith, u.one)) (passes (omega arith) all_met)));
  },
)

-- "7 4 6 1 4 0 in 511: 14; 2,784 of 1: 13."
pub writer_14_and_13 : WriteRefuses (five ++ (0 ∷ [])) 511 ShortBytes × ((room : ℕ) → WriteRefuses (replicate 2784 1) room BadCount)
unfolding tick_unit
writer_14_and_13 = (
  record {
    write = Fills.refuse (passes (some_words (five ++ (0 ∷ [])) refl (omega arith) (omega arith))
        (passes (λ u. omega (arith, u.one)) (applies (λ fits. omega (arith, fits)))));
  },
  λ room. record { write = Fills.refuse (applies (λ count. omega (arith, count.most, length-replicate {A = ℕ} 2784 1))) },
)
