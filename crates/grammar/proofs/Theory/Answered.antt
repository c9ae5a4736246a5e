-- The parser's answer and its two buffers are determined by the words, the log and the lengths of the buffers; so are the
-- report and its buffers, by these and the ticks.
use Rattle.std.specs.Prelude.{ℕ, ◌≡◌, refl, List}
use Rattle.std.proofs.Common.{sym, ap, ◌∙◌, subst, arith}
use Rattle.std.proofs.Math.Option.{Option, none, some}
use Rattle.grammar.specs.Words.{nonterminal_count}
use Rattle.grammar.specs.Derivation.{All}
use Rattle.grammar.specs.Grammar.{grammar_of, grammar_conditions, Verdict}
use Rattle.grammar.specs.Moves.{Move}
use Rattle.grammar.specs.Run.{LogFits, Asks, run_conditions, Settled, RunOf, Parses, ParsedAsking, answered, counts_of}
use Rattle.grammar.specs.Refusals.{Condition, Lowest, Outcome, given, refused}
use Rattle.grammar.specs.Pace.{Reports, Reported, report_of, ReportsBy}
use Rattle.grammar.specs.declared.Refusal.{Refusal}
use Rattle.grammar.specs.declared.Refusal.TheVariants.{BadLog}
use Rattle.grammar.specs.declared.Report.{Report}
use Rattle.grammar.specs.declared.Counts.{Counts}
use Rattle.grammar.specs.Theory.Members.{all_index}
use Rattle.grammar.specs.Theory.Good.{accepted, good_words}
use Rattle.grammar.specs.Theory.States.{LogToken}
use Rattle.grammar.proofs.Theory.States.{live_start}
use Rattle.grammar.specs.Theory.Cycles.{clean_cycles_unique}
use Rattle.grammar.proofs.Theory.Determined.{SameRun, run_determined}
use Rattle.grammar.specs.Theory.Conditions.{Held, held, held_both, lowest_from, lowest_unique, some_none}
use Rattle.grammar.specs.Theory.Answered.{Admitted, conditions_from10}

-- ---- What it means that no condition before a run fails

-- Where none of the conditions before a run fails, the words are accepted,
pub verdict_held : {Asked : Asks} {ws log : List ℕ} → Lowest (run_conditions ws log Asked) none → Verdict ws none
verdict_held {Asked} {ws} {log} l = (held_both (grammar_conditions ws) (conditions_from10 Asked ws log) l).0

-- the log fits, with what else is asked under 10,
pub log_held : {Asked : Asks} {ws log : List ℕ} → Lowest (run_conditions ws log Asked) none → LogFits ws log × Asked.under_10
unfolding Held
log_held {Asked} {ws} {log} l = (held (held_both (grammar_conditions ws) (conditions_from10 Asked ws log) l).1).0

-- and what is asked behind it holds.
pub behind_held : {Asked : Asks} {ws log : List ℕ} → Lowest (run_conditions ws log Asked) none → Held Asked.behind_10
unfolding Held
behind_held {Asked} {ws} {log} l = (held (held_both (grammar_conditions ws) (conditions_from10 Asked ws log) l).1).1

pub admitted : {Asked : Asks} {ws log : List ℕ} → Lowest (run_conditions ws log Asked) none → Admitted ws log
admitted l = record { words = accepted (verdict_held l); fits = (log_held l).0 }

-- The tokens of such a log are terminals other than END.
pub log_tokens : {ws log : List ℕ} → Admitted ws log → All LogToken log
log_tokens {log = log} a =
    let top = a.words.shaped.terminals_high in
    all_index log (λ i l. (a.fits.low i l, omega (arith, a.fits.high i l)))

-- ---- The parse

-- Two runs of one log by accepted words are one.
pub runs_determined : {ws log : List ℕ} {edit_room rule_room : ℕ} {ms ns : List Move} {o q : Option Refusal} → Admitted ws log
    → RunOf ws log edit_room rule_room ms o → RunOf ws log edit_room rule_room ns q → SameRun ms ns o q
runs_determined {ws = ws} a r k =
    let good = good_words ws a.words in
    run_determined (grammar_of ws) (nonterminal_count ws) 8 good _ r k
    (live_start (grammar_of ws) (nonterminal_count ws) 8 good (log_tokens a))

given_one : {A : Type 0} {o q : Option Refusal} {r w : Refusal} → o ≡ q → o ≡ some r → q ≡ some w
    → ◌≡◌ {A = Outcome A} (refused r) (refused w)
given_one e f g = let h = sym f ∙ e ∙ g in cc

-- What a run comes to is one, where runs are.
pub settled_unique : {cs : List Condition} {Runs : List Move → Option Refusal → Type 0} {o q : Outcome (List Move)}
    → (Lowest cs none → (ms ns : List Move) (x y : Option Refusal) → Runs ms x → Runs ns y → SameRun ms ns x y)
    → Settled cs Runs o → Settled cs Runs q → o ≡ q
settled_unique f (Settled.whole {ms = ms} l r) (Settled.whole {ms = ns} k s) =
    let e = (f l ms ns none none r s).moves in cc
settled_unique f (Settled.whole l r) (Settled.before k) = absurd (some_none refl (lowest_unique l k))
settled_unique f (Settled.whole {ms = ms} l r) (Settled.within {ms = ns} {r = w} k s) =
    absurd (some_none refl (f l ms ns none (some w) r s).outcome)
settled_unique f (Settled.before l) (Settled.whole k s) = absurd (some_none refl (lowest_unique k l))
settled_unique f (Settled.before l) (Settled.before k) = given_one (lowest_unique l k) refl refl
settled_unique f (Settled.before l) (Settled.within k s) = absurd (some_none refl (lowest_unique k l))
settled_unique f (Settled.within {ms = ms} {r = v} l r) (Settled.whole {ms = ns} k s) =
    absurd (some_none refl (f l ns ms none (some v) s r).outcome)
settled_unique f (Settled.within l r) (Settled.before k) = absurd (some_none refl (lowest_unique l k))
settled_unique f (Settled.within {ms = ms} {r = v} l r) (Settled.within {ms = ns} {r = w} k s) =
    given_one (f l ms ns (some v) (some w) r s).outcome refl refl

-- What a log comes to and leaves is one.
pub parses_unique : {Asked : Asks} {ws log : List ℕ} {edit_room rule_room : ℕ} {o q : Outcome (List Move)} {x y u v : List ℕ}
    → Parses Asked ws log edit_room rule_room o x u → Parses Asked ws log edit_room rule_room q y v → (o ≡ q) × (x ≡ y) × (u ≡ v)
parses_unique p q =
    let e = settled_unique (λ l ms ns o w r s. runs_determined (admitted l) r s) p.settled q.settled in
    (e, cc (p.leaves_edits, q.leaves_edits), cc (p.leaves_rules, q.leaves_rules))

-- The parser's answer and its buffers are one.
pub parsed_unique : {Asked : Asks} {ws log : List ℕ} {edit_room rule_room : ℕ} {a b : Outcome Counts} {x y u v : List ℕ}
    → ParsedAsking Asked ws log edit_room rule_room a x u → ParsedAsking Asked ws log edit_room rule_room b y v
    → (a ≡ b) × (x ≡ y) × (u ≡ v)
parsed_unique p q =
    let e = parses_unique p.parses q.parses in
    (p.answers ∙ ap answered e.0 ∙ sym q.answers, e.1, e.2)

-- What is asked besides may be said otherwise.
pub parses_asking : {A B : Asks} {ws log : List ℕ} {edit_room rule_room : ℕ} {o : Outcome (List Move)} {x u : List ℕ}
    → (A.under_10 → B.under_10) → (B.under_10 → A.under_10)
    → ((q : Option Refusal) → Lowest A.behind_10 q → Lowest B.behind_10 q)
    → Parses A ws log edit_room rule_room o x u → Parses B ws log edit_room rule_room o x u
parses_asking {A} {B} {ws} {log} {edit_room} {rule_room} f g k p =
    record { settled = go p.settled; leaves_edits = p.leaves_edits; leaves_rules = p.leaves_rules }
  where
    asked : {q : Option Refusal} → Lowest (run_conditions ws log A) q → Lowest (run_conditions ws log B) q
    asked {q} l =
        lowest_from (grammar_conditions ws) BadLog A.behind_10 B.behind_10 (λ h. (h.0, f h.1)) (λ h. (h.0, g h.1))
        (λ h. k q) l

    go : {q : Outcome (List Move)} → Settled (run_conditions ws log A) (RunOf ws log edit_room rule_room) q
        → Settled (run_conditions ws log B) (RunOf ws log edit_room rule_room) q
    go (Settled.whole l r) = Settled.whole (asked l) r
    go (Settled.before l) = Settled.before (asked l)
    go (Settled.within l r) = Settled.within (asked l) r

-- ---- The report

reports_unique : {ws ticks : List ℕ} {o : Outcome (List Move)} {a b : Outcome (Report × Counts)} → Reports ws ticks o a
    → Reports ws ticks o b → a ≡ b
reports_unique {ticks = ticks} (ReportsBy.paced {ms = ms} c) (ReportsBy.paced d) =
    ap (λ cs. given (report_of ticks cs, counts_of ms)) (clean_cycles_unique c d)
reports_unique ReportsBy.unpaced ReportsBy.unpaced = refl

-- The report's answer and its buffers are one.
pub reported_unique : {ws log ticks : List ℕ} {edit_room rule_room : ℕ} {a b : Outcome (Report × Counts)} {x y u v : List ℕ}
    → Reported ws log ticks edit_room rule_room a x u → Reported ws log ticks edit_room rule_room b y v → (a ≡ b) × (x ≡ y) × (u ≡ v)
reported_unique {ws = ws} {ticks = ticks} {a = a} p q =
    let e = parses_unique p.parses q.parses in
    (reports_unique (subst (λ o. Reports ws ticks o a) e.0 p.reports) q.reports, e.1, e.2)
