-- What a log comes to by the words, by tests: the lowest refusal before the run, or the run. `Asked` is what the parser or the report
-- asks besides, of which all that stands behind refusal 10 holds.
use Rattle.std.specs.Prelude.{ℕ, zero, suc, ◌+◌, ◌*◌, ◌<◌, ◌≡◌, Bool, ◌&&◌, List, length, get_or, T, leb, ltb}
use Rattle.std.proofs.Math.Path.{refl, subst}
use Rattle.std.proofs.Math.Bool.{true, false}
use Rattle.std.proofs.Math.Option.{Option, none, some}
use Rattle.std.proofs.Common.{arith, leb→le, le→leb, ltb→lt, lt→ltb}
use Rattle.grammar.specs.Words.{END, Shaped, terminal_count, nonterminal_count}
use Rattle.grammar.specs.Derivation.{All}
use Rattle.grammar.specs.Grammar.{Verdict, start_over_end}
use Rattle.grammar.specs.Moves.{Move}
use Rattle.grammar.specs.Run.{LogFits, Asks, run_conditions, RunOf, Settled, started}
use Rattle.grammar.specs.Refusals.{Lowest, Outcome, given, refused}
use Rattle.grammar.specs.Theory.Conditions.{applies, passes, held_front, refused_front}
use Rattle.grammar.specs.Theory.Good.{accepted}
use Rattle.grammar.specs.declared.Refusal.{Refusal}
use Rattle.grammar.specs.declared.Refusal.TheVariants.{BadLog}
use Rattle.grammar.specs.Model.Tests.{none_some, some_same, both, left_of, right_of_lem, every, every_all, all_every}
use Rattle.grammar.specs.Model.Reflects.{Reflects}
use Rattle.grammar.specs.Theory.Members.{all_index}
use Rattle.grammar.specs.Model.Judge.{costs_ready}
use Rattle.grammar.specs.Model.Verdicts.{verdict_of, judged, accepted_ready}
use Rattle.grammar.specs.Model.Words.{tests_of, decided}
use Rattle.grammar.proofs.Model.Runs.{Done, runs, ran}

-- ---- Refusal 10

unfoldable pub is_token : ℕ → ℕ → Bool
is_token T t = leb 1 t && ltb t T

unfoldable pub fits_log : List ℕ → List ℕ → Bool
unfolding every is_token terminal_count
fits_log ws log = leb (length log) 4096 && every (is_token (terminal_count ws)) log

at_index : {P : ℕ → Type 0} {l : List ℕ} → All P l → (i : ℕ) → i < length l → P (get_or l i END)
at_index (All.also h a) zero l = h
at_index (All.also h a) (suc i) l = at_index a i (omega arith)
at_index All.nothing i l = absurd (omega arith)

pub log_test : (ws log : List ℕ) → Reflects (fits_log ws log) (LogFits ws log)
unfolding fits_log is_token
log_test ws log =
    let token = is_token (terminal_count ws) in
    record {
      says = λ h.
          let a = every_all token log (right_of_lem (leb (length log) 4096) (every token log) h) in
          record {
            count = leb→le (length log) 4096 (left_of (leb (length log) 4096) (every token log) h);
            low = λ i l. leb→le 1 (get_or log i END) (left_of (leb 1 (get_or log i END)) (ltb (get_or log i END) (terminal_count ws))
                (at_index a i l));
            high = λ i l.
                ltb→lt (get_or log i END) (terminal_count ws)
                (right_of_lem (leb 1 (get_or log i END)) (ltb (get_or log i END) (terminal_count ws)) (at_index a i l));
          };
      said = λ f.
          both (leb (length log) 4096) (every token log) (le→leb (length log) 4096 f.count)
          (all_every token
          (all_index log
          (λ i l.
          both (leb 1 (get_or log i END)) (ltb (get_or log i END) (terminal_count ws)) (le→leb 1 (get_or log i END) (f.low i l))
          (lt→ltb (get_or log i END) (terminal_count ws) (f.high i l)))));
    }

-- ---- The outcome

-- More choices than any run makes.
unfoldable pub fuel_for : List ℕ → List ℕ → ℕ
unfolding nonterminal_count
fuel_for ws log = 3 + length log + 8 * nonterminal_count ws * length log

unfoldable pub ending : List Move → Option Refusal → Outcome (List Move)
ending ms none = given ms
ending ms (some r) = refused r

unfoldable pub to_outcome : Option Done → Option (Outcome (List Move))
unfolding ending
to_outcome none = none
to_outcome (some d) = some (ending d.moves d.end)

unfoldable pub by_log : List ℕ → List ℕ → ℕ → ℕ → Bool → Option (Outcome (List Move))
unfolding to_outcome runs tests_of fuel_for
by_log ws log e_r r_r true =
    to_outcome
    (runs (tests_of ws) (record { height = 256; edit_room = e_r; rule_room = r_r }) (fuel_for ws log) (started start_over_end log))
by_log ws log e_r r_r false = some (refused BadLog)

unfoldable pub by_verdict : List ℕ → List ℕ → ℕ → ℕ → Bool → Option (Option Refusal) → Option (Outcome (List Move))
unfolding by_log
by_verdict ws log e_r r_r fits none = none
by_verdict ws log e_r r_r fits (some none) = by_log ws log e_r r_r fits
by_verdict ws log e_r r_r fits (some (some r)) = some (refused r)

-- The model's outcome; `fits` says that refusal 10 does not apply.
unfoldable pub outcome_of : List ℕ → List ℕ → ℕ → ℕ → Bool → Option (Outcome (List Move))
unfolding by_verdict verdict_of
outcome_of ws log e_r r_r fits = by_verdict ws log e_r r_r fits (verdict_of ws)

module _ (ws log : List ℕ) (e_r r_r : ℕ) (Asked : Asks) (behind : Lowest Asked.behind_10 none) where
  ended : (o : Option Refusal) {ms : List Move} → Lowest (run_conditions ws log Asked) none → RunOf ws log e_r r_r ms o
      → Settled (run_conditions ws log Asked) (RunOf ws log e_r r_r) (ending ms o)
  unfolding ending
  ended none l r = Settled.whole l r
  ended (some q) l r = Settled.within l r

  by_run : (c : Outcome (List Move)) → Lowest (run_conditions ws log Asked) none → (d : Option Done)
      → ((f : Done) → d ≡ some f → RunOf ws log e_r r_r f.moves f.end) → to_outcome d ≡ some c
      → Settled (run_conditions ws log Asked) (RunOf ws log e_r r_r) c
  unfolding to_outcome
  by_run c l none r e = absurd (none_some e)
  by_run c l (some d) r e =
      subst (Settled (run_conditions ws log Asked) (RunOf ws log e_r r_r)) (some_same e) (ended d.end l (r d refl))

  by_log_lem : (c : Outcome (List Move)) → Verdict ws none → Shaped ws → T (costs_ready ws) → (b : Bool)
      → Reflects b (LogFits ws log × Asked.under_10)
      → by_log ws log e_r r_r b ≡ some c → Settled (run_conditions ws log Asked) (RunOf ws log e_r r_r) c
  unfolding by_log
  by_log_lem c v s ready true t e =
      by_run c (held_front v (passes (t.says tt) behind))
      (runs (tests_of ws) (record { height = 256; edit_room = e_r; rule_room = r_r }) (fuel_for ws log) (started start_over_end log))
      (λ f q.
      ran (tests_of ws) (decided ws s ready) (record { height = 256; edit_room = e_r; rule_room = r_r }) (fuel_for ws log)
      (started start_over_end log) f q)
      e
  by_log_lem c v s ready false t e =
      subst (Settled (run_conditions ws log Asked) (RunOf ws log e_r r_r)) (some_same e)
      (Settled.before (held_front v (applies (λ m. t.said m))))

  by_verdict_lem : (c : Outcome (List Move)) (b : Bool) → Reflects b (LogFits ws log × Asked.under_10) → (o : Option (Option Refusal))
      → verdict_of ws ≡ o
      → by_verdict ws log e_r r_r b o ≡ some c → Settled (run_conditions ws log Asked) (RunOf ws log e_r r_r) c
  unfolding by_verdict
  by_verdict_lem c b t none q e = absurd (none_some e)
  by_verdict_lem c b t (some none) q e =
      let v = judged ws none q in by_log_lem c v (accepted v).shaped (accepted_ready ws q) b t e
  by_verdict_lem c b t (some (some r)) q e =
      subst (Settled (run_conditions ws log Asked) (RunOf ws log e_r r_r)) (some_same e)
      (Settled.before (refused_front _ (judged ws (some r) q)))

  -- Where the model has an outcome, it is document 01's.
  pub settled : (c : Outcome (List Move)) (b : Bool) → Reflects b (LogFits ws log × Asked.under_10) → outcome_of ws log e_r r_r b ≡ some c
      → Settled (run_conditions ws log Asked) (RunOf ws log e_r r_r) c
  unfolding outcome_of
  settled c b t e = by_verdict_lem c b t (verdict_of ws) refl e
