-- Request (viii): when the report and the writer are refused with 16. `Requests` states it first.
use Rattle.std.specs.Prelude.{ℕ, ◌≡◌, refl, Bool, true, false, List, ◌↔◌, length, eqb}
use Rattle.std.proofs.Common.{sym, inl, inr, arith, eqb-true}
use Rattle.std.proofs.Math.Option.{Option, none, some}
use Rattle.std.proofs.lemmas.Bool.{eqb-false}
use Rattle.grammar.specs.Words.{tick_unit, UnitOne}
use Rattle.grammar.specs.Grammar.{grammar_conditions, Verdict}
use Rattle.grammar.specs.Buffers.{cleared}
use Rattle.grammar.specs.Moves.{Move}
use Rattle.grammar.specs.Refusals.{Outcome, given, refused}
use Rattle.grammar.specs.Run.{LogFits, run_conditions, RunOf, Settled, left}
use Rattle.grammar.specs.Pace.{timed, Reports, Reported, ReportsBy}
use Rattle.grammar.specs.Writing.{WordCount, write_conditions, FileWritten}
use Rattle.grammar.specs.declared.Refusal.{Refusal}
use Rattle.grammar.specs.declared.Refusal.TheVariants.{Hundredths}
use Rattle.grammar.specs.declared.Report.{Report}
use Rattle.grammar.specs.declared.Counts.{Counts}
use Rattle.grammar.specs.Theory.Answered.{conditions_from10}
use Rattle.grammar.proofs.Theory.Answered.{verdict_held, log_held, behind_held, reported_unique}
use Rattle.grammar.specs.Theory.Conditions.{Held, applies, passes, held_front, some_none}
use Rattle.grammar.specs.Theory.Due.{Due, due_behind, lowest_held}
use Rattle.grammar.specs.Theory.Exists.{Ending}
use Rattle.grammar.specs.Theory.Fills.{fills_exactly}
use Rattle.grammar.proofs.Theory.Headers.{unit_one}
use Rattle.grammar.specs.Theory.Outcomes.{given_refused}
use Rattle.grammar.specs.Theory.Refused.{Given}
use Rattle.grammar.proofs.Theory.Refused.{grammar_without, other, parses_exactly, reports_refused}
use Rattle.grammar.proofs.Theory.Sentences.{run_determined, run_exists}

-- A number that is not other than another is it.
same_unless : (n m : ℕ) → ((n ≡ m → ⊥) → ⊥) → n ≡ m
same_unless n m f = go (eqb n m) refl
  where
    go : (b : Bool) → eqb n m ≡ b → n ≡ m
    go true e = eqb-true n m e
    go false e = absurd (f (eqb-false n m e))

-- ---- The report

-- No run is refused with 16.
not_ending : {o : Option Refusal} → Ending o → o ≡ some Hundredths → ⊥
not_ending Ending.ends e = some_none refl e
not_ending Ending.stack_full e = absurd (let z : ◌≡◌ {A = ℕ} 11 16 = cc in omega arith)
not_ending Ending.no_room e = absurd (let z : ◌≡◌ {A = ℕ} 12 16 = cc in omega arith)

-- None of 5 to 10 applies, and the unit is 1.
abbrev Sixteen : List ℕ → List ℕ → List ℕ → Type 0
Sixteen ws log ticks = Verdict ws none × LogFits ws log × (length ticks ≡ length log) × (tick_unit ws ≡ 1)

due_sixteen : (ws log ticks : List ℕ) → Due (run_conditions ws log (timed (tick_unit ws) log ticks)) Hundredths → Sixteen ws log ticks
unfolding Due
due_sixteen ws log ticks d =
    let from10 = conditions_from10 (timed (tick_unit ws) log ticks) ws log in
    let rest = due_behind (grammar_conditions ws) from10 Hundredths (grammar_without ws Hundredths (omega arith)) d in
    go rest.0 rest.1
  where
    go : Held (grammar_conditions ws) → Due (conditions_from10 (timed (tick_unit ws) log ticks) ws log) Hundredths → Sixteen ws log ticks
    go h (inl f) = absurd (other (omega arith) f.0)
    go h (inr (m, inl f)) = ((lowest_held (grammar_conditions ws)).1 h, m.0, m.1, same_unless (tick_unit ws) 1 f.1)
    go h (inr (m, inr f)) = absurd f.1

given_sixteen : (ws log ticks : List ℕ) {edit_room rule_room : ℕ}
    → Given (timed (tick_unit ws) log ticks) ws log edit_room rule_room Hundredths → Sixteen ws log ticks
given_sixteen ws log ticks (Given.before d) = due_sixteen ws log ticks d
given_sixteen ws log ticks {edit_room} {rule_room} (Given.within h run) =
    let l = (lowest_held (run_conditions ws log (timed (tick_unit ws) log ticks))).1 h in
    let verdict = verdict_held l in
    let fits = (log_held l).0 in
    let found = run_exists ws log verdict fits edit_room rule_room in
    absurd (not_ending found.3 (sym (run_determined ws log verdict fits run found.2).1))

module _ {ws log ticks : List ℕ} {edit_room rule_room : ℕ} where
  -- There it is given, with zeros.
  pub sixteen_reported : Sixteen ws log ticks
      → Reported ws log ticks edit_room rule_room (refused Hundredths) (cleared edit_room) (cleared rule_room)
  unfolding left
  sixteen_reported h =
      record {
        outcome = refused Hundredths;
        parses =
            record {
              settled = Settled.before (held_front h.0 (passes (h.1, h.2) (applies (λ other. other h.3))));
              leaves_edits = refl;
              leaves_rules = refl;
            };
        reports = ReportsBy.unpaced;
      }

  module _ {a : Outcome (Report × Counts)} {x y : List ℕ} (p : Reported ws log ticks edit_room rule_room a x y) where
    pub report_16_exactly : (a ≡ refused Hundredths) ↔ Sixteen ws log ticks
    report_16_exactly = (
      λ e. given_sixteen ws log ticks ((parses_exactly p.parses Hundredths).0 ((reports_refused Hundredths p.reports).0 e)),
      λ h. (reported_unique p (sixteen_reported h)).0,
    )

  not_1 : {o : Outcome (List Move)} {a : Outcome (Report × Counts)} {given-a : Report × Counts}
      → Settled (run_conditions ws log (timed (tick_unit ws) log ticks)) (RunOf ws log edit_room rule_room) o → Reports ws ticks o a
      → a ≡ given given-a → tick_unit ws ≡ 1 → ⊥
  unfolding Held
  not_1 (Settled.whole l r) (ReportsBy.paced c) e = (behind_held l).0
  not_1 (Settled.before l) ReportsBy.unpaced e = absurd (given_refused e refl)
  not_1 (Settled.within l r) ReportsBy.unpaced e = absurd (given_refused e refl)

  -- Where there is a report, the unit is not 1.
  pub unit_not_1 : {report : Report} {counts : Counts} {x y : List ℕ} → Reported ws log ticks edit_room rule_room (given (report, counts)) x y
      → tick_unit ws ≡ 1
      → ⊥
  unit_not_1 p = not_1 p.parses.settled p.reports refl

-- ---- The writer

due_unit_one : (ws : List ℕ) (room : ℕ) → Due (write_conditions ws room) Hundredths → WordCount (length ws) × UnitOne ws
unfolding Due
due_unit_one ws room (inl f) = absurd (other (omega arith) f.0)
due_unit_one ws room (inr (count, inl f)) =
    (count, (unit_one ws).1 (same_unless (tick_unit ws) 1 (λ n. f.1 (λ u. n u.one))))
due_unit_one ws room (inr (count, inr (unit, inl f))) = absurd (other (omega arith) f.0)
due_unit_one ws room (inr (count, inr (unit, inr f))) = absurd f.1

pub writer_16_exactly : {ws x : List ℕ} {room : ℕ} {a : Outcome ℕ} → FileWritten ws room a x
    → (a ≡ refused Hundredths) ↔ (WordCount (length ws) × UnitOne ws)
unfolding Due
writer_16_exactly {ws} {room = room} p = (
  λ e. due_unit_one ws room ((fills_exactly p.write Hundredths).0 e),
  λ h. (fills_exactly p.write Hundredths).1 (inr (h.0, inl (refl, λ n. n h.1))),
)
