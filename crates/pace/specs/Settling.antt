-- From the parse to the report: it asks for as many ticks as tokens and that the unit is not 1, and what it leaves is what the parse
-- leaves.
use Rattle.std.specs.Prelude.{◌≡◌, ℕ, Bool, true, false, not, List, [], length, ◌==◌, ◌≢◌, Result, Ok, Err}
use Rattle.std.proofs.Math.Path.{refl, ap, subst}
use Rattle.std.proofs.Common.{sym, ◌∙◌, true≢false, eqb-true, eq-eqb}
use Rattle.base.specs.Telling.{Tells, told, denied, tells_unique}
use Rattle.grammar.specs.Words.{tick_unit, UnitOne}
use Rattle.grammar.specs.Moves.{Move}
use Rattle.grammar.specs.Refusals.{Outcome, given, refused, outcome_of}
use Rattle.grammar.specs.Run.{RunOf, Settled, run_conditions, Parses, ParsedAsking, counts_of, answered, left}
use Rattle.grammar.specs.Pace.{timed, Reports, Reported, ReportsBy}
use Rattle.grammar.specs.declared.Refusal.{Refusal}
use Rattle.grammar.specs.declared.Refusal.TheVariants.{Hundredths}
use Rattle.grammar.specs.declared.Counts.{Counts}
use Rattle.grammar.specs.declared.Report.{Report}
use Rattle.grammar.proofs.Theory.Answered.{admitted, log_held, parses_asking}
use Rattle.grammar.specs.Theory.Conditions.{lowest_from}
use Rattle.grammar.proofs.Theory.Headers.{unit_one}
use Rattle.grammar.specs.Theory.Outcomes.{given_refused, given_same, refused_same}
use Rattle.pace.specs.Ended.{ran_records}
use Rattle.pace.specs.Watch.{Ran, Lent, Finds}
use Rattle.parser.specs.Asking.{asks_by}
use Rattle.parser.specs.declared.Asking.{Asking}

-- The run of a parse that answered with counts, and what it left.
pub record Whole (ws log ticks : List ℕ) (edit_room rule_room : ℕ) (counts : Counts) (x y : List ℕ) : Type 0 where
  pub moves : List Move
  pub parses : Parses (timed (tick_unit ws) log ticks) ws log edit_room rule_room (given moves) x y
  pub ticked : length ticks ≡ length log
  pub ran : Ran ws log x counts.records moves
  pub counted : counts ≡ counts_of moves

module _ (ticks : List ℕ) (answer : Result Counts Refusal) {ws log : List ℕ} {edit_room rule_room : ℕ} {asking : Asking} {one : Bool} {x y : List ℕ}
    (ticked : asking.timed ≡ (length ticks == length log)) (paced : asking.paced ≡ not one) (unit : Tells (UnitOne ws) one)
    (parsed : ParsedAsking (asks_by asking) ws log edit_room rule_room (outcome_of answer) x y) where
  -- The second test tells whether the unit is not 1.
  other_unit : asking.paced ≡ true → tick_unit ws ≢ 1
  other_unit e u = true≢false (sym e ∙ (paced ∙ ap not (tells_unique one true unit (told ((unit_one ws).1 u)))))

  as_paced : (tick_unit ws ≢ 1) → asking.paced ≡ true
  as_paced n = paced ∙ ap not (tells_unique one false unit (denied (λ u. n ((unit_one ws).0 u))))

  parses : Parses (timed (tick_unit ws) log ticks) ws log edit_room rule_room parsed.outcome x y
  parses =
      parses_asking (λ e. eqb-true (length ticks) (length log) (sym ticked ∙ e)) (λ e. ticked ∙ eq-eqb (length ticks) (length log) e)
      (λ q. lowest_from [] Hundredths [] [] other_unit as_paced (λ p l. l))
      parsed.parses

  -- The parse's refusal is the report's.
  pub reports_refused : {r : Refusal} → answer ≡ Err r → Reported ws log ticks edit_room rule_room (outcome_of {A = Report × Counts} (Err r)) x y
  unfolding answered
  reports_refused {r} e = go parsed.outcome parses (sym (ap outcome_of e) ∙ parsed.answers)
    where
      go : (o : Outcome (List Move)) → Parses (timed (tick_unit ws) log ticks) ws log edit_room rule_room o x y → refused r ≡ answered o
          → Reported ws log ticks edit_room rule_room (refused r) x y
      go (given ms) p a = absurd (given_refused refl (sym a))
      go (refused q) p a =
          subst (λ z. Reported ws log ticks edit_room rule_room (refused z) x y) (sym (refused_same a))
          (record { outcome = refused q; parses = p; reports = ReportsBy.unpaced })

  pub whole : {counts : Counts} → answer ≡ Ok counts → Whole ws log ticks edit_room rule_room counts x y
  unfolding answered left
  whole {counts} e = go parsed.outcome parses (sym (ap outcome_of e) ∙ parsed.answers)
    where
      go : (o : Outcome (List Move)) → Parses (timed (tick_unit ws) log ticks) ws log edit_room rule_room o x y → given counts ≡ answered o
          → Whole ws log ticks edit_room rule_room counts x y
      go (given ms) p a = at p.settled
        where
          at : Settled (run_conditions ws log (timed (tick_unit ws) log ticks)) (RunOf ws log edit_room rule_room) (given ms)
              → Whole ws log ticks edit_room rule_room counts x y
          at (Settled.whole l run) =
              record {
                moves = ms;
                parses = p;
                ticked = (log_held l).1;
                ran =
                    record {
                      admitted = admitted l;
                      edit_room = edit_room;
                      rule_room = rule_room;
                      run = run;
                      left = p.leaves_edits;
                      counted = ap (λ (c : Counts). c.records) (given_same a);
                    };
                counted = given_same a;
              }
      go (refused q) p a = absurd (given_refused refl a)

module _ {ws log ticks : List ℕ} {edit_room rule_room : ℕ} {counts : Counts} {x y : List ℕ}
    (w : Whole ws log ticks edit_room rule_room counts x y) where
  -- What the search for cycles asks for.
  pub whole_lent : Lent ws log ticks x counts.records
  whole_lent =
      let a = w.ran.admitted in
      record {
        shaped = a.words.shaped;
        tokens = a.fits.count;
        ticked = w.ticked;
        rising = ran_records ws log x counts.records w.moves w.ran;
      }

  -- The report is that of the cycles.
  pub whole_reports : {report : Report} → Finds ws log ticks x counts.records report
      → Reported ws log ticks edit_room rule_room (outcome_of (Ok (report, counts))) x y
  whole_reports {report} found =
      record {
        outcome = given w.moves;
        parses = w.parses;
        reports =
            subst (λ c. Reports ws ticks (given w.moves) (given (report, c))) (sym w.counted) (found.of_run w.moves w.ran);
      }
