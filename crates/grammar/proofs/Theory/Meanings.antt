-- Two meanings of words that agree get the same answers. Request (vi) of 02 asks it of old words and of a restart mark of 0; by request
-- (viii) the unit alone changes no answer but the report's.
--     SameConditions, Alike           what agrees
--     SameUntimed, alike_untimed      so do the check, the desk, the parser and the marks
--     SameAnswers, alike_answers      and where the units agree, the report too
use Rattle.std.specs.Prelude.{ℕ, ◌≤◌, ◌≡◌, refl, List, [], ◌∷◌, ◌++◌, ◌↔◌}
use Rattle.std.proofs.Common.{sym, subst, inl, inr}
use Rattle.std.proofs.Math.Path.{subst₃}
use Rattle.std.proofs.Math.Option.{Option, some}
use Rattle.grammar.specs.Grammar.{Grammar, Meaning, conditions_of, VerdictBy}
use Rattle.grammar.specs.Buffers.{filled}
use Rattle.grammar.specs.Moves.{Move}
use Rattle.grammar.specs.Refusals.{Condition, ◌unless◌, FirstFailing, Lowest, Outcome, given}
use Rattle.grammar.specs.Run.{LogBelow, Asks, conditions_before, Settled, RunBy, ParsesBy, ParsedBy}
use Rattle.grammar.specs.Desk.{CostsAndRules, conditions_at_desk, DeskBy}
use Rattle.grammar.specs.Marks.{Mark, MarksBy}
use Rattle.grammar.specs.Pace.{CleanCycles, timed, ReportsBy, ReportedBy}
use Rattle.grammar.specs.declared.Refusal.{Refusal}
use Rattle.grammar.specs.declared.Refusal.TheVariants.{BadLog, ShortDesk}
use Rattle.grammar.specs.declared.Counts.{Counts}
use Rattle.grammar.specs.declared.Report.{Report}
use Rattle.grammar.proofs.Theory.SameGrammars.{SameGrammar, other_way, same_grammar_sym, to_run_by, to_marked, to_costs}
use Rattle.grammar.proofs.Theory.SameGrammars.{to_reachable, to_productive, to_affordable, to_shared}
use Rattle.grammar.specs.Theory.Meanings.{SameUntimed, SameAnswers}

-- The same refusals in the same order, each under a condition that holds where the other's does.
unfoldable pub SameConditions : List Condition → List Condition → Type 0
SameConditions [] [] = Unit {0}
SameConditions [] (d ∷ ds) = ⊥
SameConditions (c ∷ cs) [] = ⊥
SameConditions (c ∷ cs) (d ∷ ds) = (c.refusal ≡ d.refusal) × (c.holds ↔ d.holds) × SameConditions cs ds

pub record Alike (M K : Meaning) : Type 0 where
  pub conditions : SameConditions M.conditions K.conditions
  pub terminals : M.terminals ≡ K.terminals
  pub nonterminals : M.nonterminals ≡ K.nonterminals
  pub grammar : SameGrammar M.grammar K.grammar
  pub opening : M.opening ≡ K.opening
  pub closing : M.closing ≡ K.closing
  pub restart : M.restart ≡ K.restart

-- ---- What agrees

-- ---- It agrees the other way round

same_conditions_sym : (cs ds : List Condition) → SameConditions cs ds → SameConditions ds cs
unfolding SameConditions
same_conditions_sym [] [] s = tt
same_conditions_sym [] (d ∷ ds) s = absurd s
same_conditions_sym (c ∷ cs) [] s = absurd s
same_conditions_sym (c ∷ cs) (d ∷ ds) s = (sym s.0, other_way s.1, same_conditions_sym cs ds s.2)

pub alike_sym : {M K : Meaning} → Alike M K → Alike K M
alike_sym {M} {K} s =
    record {
      conditions = same_conditions_sym M.conditions K.conditions s.conditions;
      terminals = sym s.terminals;
      nonterminals = sym s.nonterminals;
      grammar = same_grammar_sym s.grammar;
      opening = sym s.opening;
      closing = sym s.closing;
      restart = sym s.restart;
    }

-- ---- Conditions

same_failing : (cs ds : List Condition) (o : Option Refusal) → SameConditions cs ds → FirstFailing cs o → FirstFailing ds o
unfolding SameConditions FirstFailing
same_failing [] [] o s e = e
same_failing [] (d ∷ ds) o s e = absurd s
same_failing (c ∷ cs) [] o s e = absurd s
same_failing (c ∷ cs) (d ∷ ds) o s (inl x) =
    inl (λ h. x.0 (s.1.1 h), subst (λ r. o ≡ some r) s.0 x.1)
same_failing (c ∷ cs) (d ∷ ds) o s (inr x) = inr (s.1.0 x.0, same_failing cs ds o s.2 x.1)

same_lowest : {cs ds : List Condition} {o : Option Refusal} → SameConditions cs ds → Lowest cs o → Lowest ds o
same_lowest {cs} {ds} {o} s l = record { is = same_failing cs ds o s l.is }

same_conditions_refl : (cs : List Condition) → SameConditions cs cs
unfolding SameConditions
same_conditions_refl [] = tt
same_conditions_refl (c ∷ cs) = (refl, (λ h. h, λ h. h), same_conditions_refl cs)

-- One condition more, and others behind it.
same_more : (cs ds : List Condition) (r : Refusal) {P Q : Type 0} (es : List Condition) → SameConditions cs ds → P ↔ Q
    → SameConditions (cs ++ ((r unless P) ∷ es)) (ds ++ ((r unless Q) ∷ es))
unfolding SameConditions
same_more [] [] r es s e = (refl, e, same_conditions_refl es)
same_more [] (d ∷ ds) r es s e = absurd s
same_more (c ∷ cs) [] r es s e = absurd s
same_more (c ∷ cs) (d ∷ ds) r es s e = (s.0, s.1, same_more cs ds r es s.2 e)

-- The five conditions are the same where the shape is.
pub same_conditions : (Shape Shape' : Type 0) (N : ℕ) (G H : Grammar) → Shape ↔ Shape' → SameGrammar G H
    → SameConditions (conditions_of Shape N G) (conditions_of Shape' N H)
unfolding SameConditions
same_conditions Shape Shape' N G H shape s =
    let z = same_grammar_sym s in (
      refl,
      shape,
      (
        refl,
        (to_reachable G H s, to_reachable H G z),
        (
          refl,
          (to_productive G H s, to_productive H G z),
          (refl, (to_affordable G H s, to_affordable H G z), (refl, (to_shared G H s, to_shared H G z), tt)),
        ),
      ),
    )

-- ---- Every answer

module _ {M K : Meaning} (s : Alike M K) where
  to_verdict : {o : Option Refusal} → VerdictBy M o → VerdictBy K o
  to_verdict l = same_lowest s.conditions l

  -- The desk.
  desk_conditions_lem : (cost_room rule_room : ℕ) → SameConditions (conditions_at_desk M cost_room rule_room) (conditions_at_desk K cost_room rule_room)
  desk_conditions_lem cost_room rule_room =
      same_more M.conditions K.conditions ShortDesk [] s.conditions (
        λ f. subst (λ N. (N ≤ cost_room) × (N ≤ rule_room)) s.nonterminals f,
        λ f. subst (λ N. (N ≤ cost_room) × (N ≤ rule_room)) (sym s.nonterminals) f,
      )

  to_desk : {cost_room rule_room : ℕ} {o : Outcome ℕ} {x u : List ℕ} → DeskBy M cost_room rule_room o x u → DeskBy K cost_room rule_room o x u
  to_desk {cost_room} {rule_room} (DeskBy.give {cs = cs} {ps = ps} l c) =
      subst (λ n. DeskBy K cost_room rule_room (given n) (filled cost_room cs) (filled rule_room ps)) (sym s.nonterminals)
      (DeskBy.give (same_lowest (desk_conditions_lem cost_room rule_room) l)
      (subst (λ N. CostsAndRules N K.grammar cs ps) s.nonterminals (to_costs M.grammar K.grammar s.grammar c)))
  to_desk {cost_room} {rule_room} (DeskBy.refuse l) = DeskBy.refuse (same_lowest (desk_conditions_lem cost_room rule_room) l)

  -- The parser.
  run_conditions_lem : (log : List ℕ) (Asked : Asks) → SameConditions (conditions_before M log Asked) (conditions_before K log Asked)
  run_conditions_lem log Asked =
      same_more M.conditions K.conditions BadLog Asked.behind_10 s.conditions (
        λ f. (subst (λ T. LogBelow T log) s.terminals f.0, f.1),
        λ f. (subst (λ T. LogBelow T log) (sym s.terminals) f.0, f.1),
      )

  to_settled : (Asked : Asks) (log : List ℕ) {edit_room rule_room : ℕ} {o : Outcome (List Move)}
      → Settled (conditions_before M log Asked) (RunBy M.grammar log edit_room rule_room) o
      → Settled (conditions_before K log Asked) (RunBy K.grammar log edit_room rule_room) o
  to_settled Asked log (Settled.whole l r) =
      Settled.whole (same_lowest (run_conditions_lem log Asked) l) (to_run_by M.grammar K.grammar s.grammar log r)
  to_settled Asked log (Settled.before l) = Settled.before (same_lowest (run_conditions_lem log Asked) l)
  to_settled Asked log (Settled.within l r) =
      Settled.within (same_lowest (run_conditions_lem log Asked) l) (to_run_by M.grammar K.grammar s.grammar log r)

  to_parses : {Asked : Asks} {log : List ℕ} {edit_room rule_room : ℕ} {o : Outcome (List Move)} {es rs : List ℕ}
      → ParsesBy Asked M log edit_room rule_room o es rs → ParsesBy Asked K log edit_room rule_room o es rs
  to_parses {Asked} {log} p =
      record { settled = to_settled Asked log p.settled; leaves_edits = p.leaves_edits; leaves_rules = p.leaves_rules }

  to_parsed : {Asked : Asks} {log : List ℕ} {edit_room rule_room : ℕ} {a : Outcome Counts} {es rs : List ℕ}
      → ParsedBy Asked M log edit_room rule_room a es rs → ParsedBy Asked K log edit_room rule_room a es rs
  to_parsed p = record { outcome = p.outcome; parses = to_parses p.parses; answers = p.answers }

  -- The repaired log in marks alone.
  to_marks : {word_of : Mark → ℕ} {Asked : Asks} {log : List ℕ} {edit_room rule_room token_room : ℕ} {a : Outcome (Counts × ℕ)}
      {es rs ts : List ℕ} → MarksBy word_of Asked M log edit_room rule_room token_room a es rs ts
      → MarksBy word_of Asked K log edit_room rule_room token_room a es rs ts
  to_marks (MarksBy.unparsed p) = MarksBy.unparsed (to_parses p)
  to_marks (MarksBy.short p m l) = MarksBy.short (to_parses p) (to_marked M.grammar K.grammar s.grammar m) l
  to_marks (MarksBy.whole p m l) = MarksBy.whole (to_parses p) (to_marked M.grammar K.grammar s.grammar m) l

  -- The report.
  to_reports : {ticks : List ℕ} {o : Outcome (List Move)} {a : Outcome (Report × Counts)} → ReportsBy M ticks o a → ReportsBy K ticks o a
  to_reports (ReportsBy.paced {ms = ms} {cs = cs} c) =
      ReportsBy.paced (subst₃ (λ o c m. CleanCycles o c m ms cs) s.opening s.closing s.restart c)
  to_reports ReportsBy.unpaced = ReportsBy.unpaced

  to_reported : M.unit ≡ K.unit → {log ticks : List ℕ} {edit_room rule_room : ℕ} {a : Outcome (Report × Counts)} {es rs : List ℕ}
      → ReportedBy M log ticks edit_room rule_room a es rs → ReportedBy K log ticks edit_room rule_room a es rs
  to_reported unit {log} {ticks} {edit_room} {rule_room} {es = es} {rs = rs} p =
      record {
        outcome = p.outcome;
        parses =
            subst (λ u. ParsesBy (timed u log ticks) K log edit_room rule_room p.outcome es rs) unit (to_parses p.parses);
        reports = to_reports p.reports;
      }

pub alike_untimed : {M K : Meaning} → Alike M K → SameUntimed M K
alike_untimed s =
    let z = alike_sym s in
    record {
      verdict = λ o. (to_verdict s, to_verdict z);
      desk = λ c r a x u. (to_desk s, to_desk z);
      parsed = λ A log e r a x u. (to_parsed s, to_parsed z);
      marks = λ w A log e r t a x u v. (to_marks s, to_marks z);
    }

pub alike_answers : {M K : Meaning} → Alike M K → M.unit ≡ K.unit → SameAnswers M K
alike_answers s unit =
    record {
      untimed = alike_untimed s;
      reported = λ log ticks e r a x u. (to_reported s unit, to_reported (alike_sym s) (sym unit));
    }
