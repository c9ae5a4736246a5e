-- Demand 1 of the check, the parser and the report: when each refusal is given, and what the buffers hold. `Demands` states it first. Of
-- the reader and the writer, which fill one buffer, Fills.antt has it.
use Rattle.std.specs.Prelude.{ℕ, ◌<◌, ◌≡◌, refl, List, [], ◌∷◌, ◌↔◌}
use Rattle.std.proofs.Common.{sym, subst, ◌∙◌, inl, inr, arith}
use Rattle.std.proofs.Math.Path.{ap}
use Rattle.std.proofs.Math.Option.{Option, some}
use Rattle.grammar.specs.Buffers.{filled, cleared}
use Rattle.grammar.specs.Moves.{Move, edits, edit_words, rule_numbers}
use Rattle.grammar.specs.Refusals.{Condition, ◌unless◌, Lowest, number_of, Outcome, given, refused}
use Rattle.grammar.specs.File.{file_conditions}
use Rattle.grammar.specs.Grammar.{grammar_conditions}
use Rattle.grammar.specs.Run.{Asks, only10, run_conditions, Settled, RunOf, Parses, answered, counts_of, left}
use Rattle.grammar.specs.Pace.{timed, Reports, ReportsBy}
use Rattle.grammar.specs.declared.Refusal.{Refusal}
use Rattle.grammar.specs.declared.Refusal.TheVariants.{NoRoom, Hundredths}
use Rattle.grammar.specs.declared.Counts.{Counts}
use Rattle.grammar.specs.declared.Report.{Report}
use Rattle.grammar.specs.Theory.Answered.{conditions_from10}
use Rattle.grammar.proofs.Theory.Answered.{admitted, runs_determined, settled_unique}
use Rattle.grammar.specs.Theory.Conditions.{lowest_unique}
use Rattle.grammar.specs.Theory.Due.{Above, Due, InOrder, Without, due_behind, lowest_due, lowest_held}
use Rattle.grammar.specs.Theory.Outcomes.{given_refused, given_same, refused_same}
use Rattle.grammar.specs.Theory.Refused.{Given}

-- ---- The conditions stand in the order of their numbers

pub file_in_order : (bytes : List ℕ) (room : ℕ) → InOrder (file_conditions bytes room)
unfolding Above
file_in_order bytes room = (omega arith, (omega arith, (omega arith, (omega arith, tt))))

pub grammar_in_order : (ws : List ℕ) → InOrder (grammar_conditions ws)
unfolding Above
grammar_in_order ws = (omega arith, (omega arith, (omega arith, (omega arith, (omega arith, tt)))))

-- (5 to 10 of every caller; what is asked behind 10 goes on from there.)
run_in_order : (ws log : List ℕ) (Asked : Asks) → Above 10 Asked.behind_10 → InOrder (run_conditions ws log Asked)
unfolding Above
run_in_order ws log Asked behind =
    (omega arith, (omega arith, (omega arith, (omega arith, (omega arith, (omega arith, behind))))))

pub only10_in_order : (P : Type 0) (ws log : List ℕ) → InOrder (run_conditions ws log (only10 P))
unfolding Above
only10_in_order P ws log = run_in_order ws log (only10 P) tt

pub report_in_order : (unit : ℕ) (ws log ticks : List ℕ) → InOrder (run_conditions ws log (timed unit log ticks))
unfolding Above
report_in_order unit ws log ticks = run_in_order ws log (timed unit log ticks) (omega arith, tt)

-- ---- The check

pub lowest_exactly : {cs : List Condition} {o : Option Refusal} → Lowest cs o → (r : Refusal) → (o ≡ some r) ↔ Due cs r
lowest_exactly {cs} l r = (
  λ e. (lowest_due cs r).0 (subst (λ q. Lowest cs q) e l),
  λ d. lowest_unique l ((lowest_due cs r).1 d),
)

-- ---- The run of a log, which the parser and the report share

-- A refusal of a lower number is another one.
pub other : {r q : Refusal} → number_of r < number_of q → r ≡ q → ⊥
other l e = omega (arith, ap number_of e)

-- No condition before a run has refusal 12.
pub no_room_behind : Due [] NoRoom → ⊥
unfolding Due
no_room_behind d = d

pub no_room_timed : (unit : ℕ) → Due ((Hundredths unless (unit ≡ 1 → ⊥)) ∷ []) NoRoom → ⊥
unfolding Due
no_room_timed unit (inl f) = other (omega arith) (sym f.0)
no_room_timed unit (inr f) = f.1

-- The conditions of the check have 5 to 9.
pub grammar_without : (ws : List ℕ) (r : Refusal) → 9 < number_of r → Without (grammar_conditions ws) r
unfolding Without
grammar_without ws r l = (
  other (omega arith),
  (other (omega arith), (other (omega arith), (other (omega arith), (other (omega arith), tt)))),
)

pub due_not_room : (ws log : List ℕ) (Asked : Asks) → (Due Asked.behind_10 NoRoom → ⊥) → Due (run_conditions ws log Asked) NoRoom → ⊥
unfolding Due
due_not_room ws log Asked behind d =
    go (due_behind (grammar_conditions ws) (conditions_from10 Asked ws log) NoRoom (grammar_without ws NoRoom (omega arith)) d).1
  where
    go : Due (conditions_from10 Asked ws log) NoRoom → ⊥
    go (inl f) = other (omega arith) f.0
    go (inr f) = behind f.1

module _ {Asked : Asks} {ws log : List ℕ} {edit_room rule_room : ℕ} where
  settled_given : {o : Outcome (List Move)} {r : Refusal} → Settled (run_conditions ws log Asked) (RunOf ws log edit_room rule_room) o
      → o ≡ refused r → Given Asked ws log edit_room rule_room r
  settled_given (Settled.whole l k) e = absurd (given_refused refl e)
  settled_given (Settled.before {r = q} l) e =
      subst (λ r. Given Asked ws log edit_room rule_room r) (refused_same e) (Given.before ((lowest_due (run_conditions ws log Asked) q).0 l))
  settled_given (Settled.within l k) e =
      subst (λ r. Given Asked ws log edit_room rule_room r) (refused_same e)
      (Given.within ((lowest_held (run_conditions ws log Asked)).0 l) k)

  pub given_settled : {r : Refusal} → Given Asked ws log edit_room rule_room r
      → Settled (run_conditions ws log Asked) (RunOf ws log edit_room rule_room) (refused r)
  given_settled {r} (Given.before d) = Settled.before ((lowest_due (run_conditions ws log Asked) r).1 d)
  given_settled (Given.within h k) = Settled.within ((lowest_held (run_conditions ws log Asked)).1 h) k

  module _ {o : Outcome (List Move)} {x y : List ℕ} (p : Parses Asked ws log edit_room rule_room o x y) where
    pub parses_exactly : (r : Refusal) → (o ≡ refused r) ↔ Given Asked ws log edit_room rule_room r
    parses_exactly r = (
      λ e. settled_given p.settled e,
      λ g. settled_unique (λ l ms ns a b u v. runs_determined (admitted l) u v) p.settled (given_settled g),
    )

    pub parses_zeros : {r : Refusal} → o ≡ refused r → (x ≡ cleared edit_room) × (y ≡ cleared rule_room)
    unfolding left
    parses_zeros e = (
      p.leaves_edits ∙ ap (left (λ ms. edit_words (edits ms)) edit_room) e,
      p.leaves_rules ∙ ap (left rule_numbers rule_room) e,
    )

    pub parses_words : {ms : List Move} → o ≡ given ms
        → (x ≡ filled edit_room (edit_words (edits ms))) × (y ≡ filled rule_room (rule_numbers ms))
    unfolding left
    parses_words e = (
      p.leaves_edits ∙ ap (left (λ ms. edit_words (edits ms)) edit_room) e,
      p.leaves_rules ∙ ap (left rule_numbers rule_room) e,
    )

-- ---- The parser's answer and the report's, over what the log comes to

answer_refused : (o : Outcome (List Move)) {r : Refusal} → answered o ≡ refused r → o ≡ refused r
unfolding answered
answer_refused (given ms) e = absurd (given_refused refl e)
answer_refused (refused q) e = ap refused (refused_same e)

refused_answer : (r : Refusal) → answered (refused r) ≡ refused r
unfolding answered
refused_answer r = refl

pub answered_refused : {o : Outcome (List Move)} {a : Outcome Counts} (r : Refusal) → a ≡ answered o → (a ≡ refused r) ↔ (o ≡ refused r)
answered_refused {o} r e = (λ f. answer_refused o (sym e ∙ f), λ f. e ∙ (ap answered f ∙ refused_answer r))

pub answered_given : (o : Outcome (List Move)) {counts : Counts} → given counts ≡ answered o
    → (ms : List Move) × (o ≡ given ms) × (counts ≡ counts_of ms)
unfolding answered
answered_given (given ms) e = (ms, refl, given_same e)
answered_given (refused r) e = absurd (given_refused refl e)

pub reports_refused : {ws ticks : List ℕ} {o : Outcome (List Move)} {a : Outcome (Report × Counts)} (r : Refusal) → Reports ws ticks o a
    → (a ≡ refused r) ↔ (o ≡ refused r)
reports_refused r (ReportsBy.paced c) = (λ e. absurd (given_refused refl e), λ e. absurd (given_refused refl e))
reports_refused r ReportsBy.unpaced = (λ e. ap refused (refused_same e), λ e. ap refused (refused_same e))

pub reports_given : {ws ticks : List ℕ} {o : Outcome (List Move)} {a : Outcome (Report × Counts)} {report : Report} {counts : Counts}
    → Reports ws ticks o a → a ≡ given (report, counts) → (ms : List Move) × (o ≡ given ms) × (counts ≡ counts_of ms)
reports_given (ReportsBy.paced {ms = ms} c) e = (ms, refl, sym (ap (λ (x : Report × Counts). x.1) (given_same e)))
reports_given ReportsBy.unpaced e = absurd (given_refused e refl)
