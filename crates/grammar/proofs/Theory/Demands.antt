-- The theorems to read first: demands 1 to 3 of the definitions, in document 01's words, for every input. Each is proved here by citing;
-- the names on the right say where to look. That there always is an answer is what the functions add: each has a contract by these
-- definitions, and none that a user can call asks for anything (docs/EXCEPTIONS.md).
--
-- `ws` are the grammar words, `Verdict ws none` says that they pass the grammar check, `LogFits ws log` that refusal 10 does
-- not apply, and `RunOf ws log edit_room rule_room ms none` that the run of the log made the moves ms and ended.
use Rattle.std.specs.Prelude.{ℕ, ◌+◌, ◌*◌, ◌≤◌, ◌<◌, ◌≡◌, ◌↔◌, List, [], ◌∷◌, ◌++◌, length, get_or}
use Rattle.std.proofs.Common.{sym, ap, subst, ◌∙◌}
use Rattle.std.proofs.Math.Logic.Iff as Iff
use Rattle.std.proofs.Math.Option.{Option, none, some}
use Rattle.grammar.specs.Words.{START, END, Shaped, nonterminal_count, rule_count, right_size, insert_cost}
use Rattle.grammar.specs.Words.{opening, closing, tick_unit, restart_mark}
use Rattle.grammar.specs.Derivation.{Derives, All, Yields}
use Rattle.grammar.specs.Derivation.{Reachable, Productive, NoneShared}
use Rattle.grammar.specs.Grammar.{RuleOf, Affordable, EachNonterminal, Verdict, grammar_of, start_over_end, grammar_conditions}
use Rattle.grammar.specs.Buffers.{filled, cleared}
use Rattle.grammar.specs.Moves.{Move, edits, repaired, passed, placed}
use Rattle.grammar.specs.Run.{Plausible, Hit, Pop, Choice, correcting}
use Rattle.grammar.specs.Run.{LogFits, Asks, only10, no_more, run_conditions, RunOf, counts_of, Parses, Parsed}
use Rattle.grammar.specs.Refusals.{Condition, Outcome, given}
use Rattle.grammar.specs.File.{file_conditions, file_words, FileRead}
use Rattle.grammar.specs.Pace.{Span, Clean, timed, Reported}
use Rattle.grammar.specs.declared.Refusal.{Refusal}
use Rattle.grammar.specs.declared.Report.{Report}
use Rattle.grammar.specs.declared.Counts.{Counts}
use Rattle.grammar.specs.declared.Pace.TheVariants.{Idle}
use Rattle.grammar.specs.Theory.Good.{Good, accepted, good_within, opens_with_start, eight_bounds}
use Rattle.grammar.specs.Theory.States.{LogToken}
use Rattle.grammar.proofs.Theory.Chosen as Chosen
use Rattle.grammar.proofs.Theory.Answered as AnswersOf
use Rattle.grammar.specs.Theory.Conditions.{Held}
use Rattle.grammar.specs.Theory.Due as Due
use Rattle.grammar.specs.Theory.Due.{Due, InOrder, LowestNumber, lowest_held}
use Rattle.grammar.specs.Theory.Fills.{fills_exactly, fills_zeros, fills_content}
use Rattle.grammar.proofs.Theory.Refused as Refused
use Rattle.grammar.specs.Theory.Refused.{Given}
use Rattle.grammar.proofs.Theory.Told.{told, idle_no_cycle, no_cycle_idle, idle_no_time}
use Rattle.grammar.proofs.Theory.Repaired as Repaired
use Rattle.grammar.proofs.Theory.Filled as Filling
use Rattle.grammar.specs.Theory.Filled.{Filled}
use Rattle.grammar.proofs.Theory.Correct as Correct
use Rattle.grammar.proofs.Theory.Bounded as Bounded
use Rattle.grammar.proofs.Theory.Rebuilt.{rebuilt_repaired}
use Rattle.grammar.proofs.Theory.Kept.{parsed_made}
use Rattle.grammar.specs.Cases.Case.{edit_room, rule_room}
use Rattle.grammar.specs.Cases.Cases.{case12}
use Rattle.grammar.proofs.Cases.Bound as Bound
use Rattle.grammar.specs.Theory.Demands.{Answered, Blank, Lists, Kept}

-- ======== Demand 1: every input gets its answer, each refusal exactly when the table says

-- A refusal is due (`Due`) where its condition fails and every condition before it holds. The lists of conditions stand in the order of
-- their numbers: those of the file, of the grammar, before a run whose caller asks something under 10 at most, and before the report's.
pub in_order : (bytes ws log ticks : List ℕ) (room : ℕ) (P : Type 0)
    → InOrder (file_conditions bytes room)
    × InOrder (grammar_conditions ws)
    × InOrder (run_conditions ws log (only10 P))
    × InOrder (run_conditions ws log (timed (tick_unit ws) log ticks))
in_order bytes ws log ticks room P = (
  Refused.file_in_order bytes room,
  Refused.grammar_in_order ws,
  Refused.only10_in_order P ws log,
  Refused.report_in_order (tick_unit ws) ws log ticks,
)

-- So what is due has "the lowest applicable number": its condition fails, and every condition of a lower number holds.
pub lowest_number : {cs : List Condition} → InOrder cs → (r : Refusal) → Due cs r ↔ LowestNumber cs r
lowest_number order r = Due.lowest_number order r

-- The reader: the file's words, zeros behind them, or a refusal that is due, and zeros.
pub reader_answers : {bytes : List ℕ} {room : ℕ} {a : Outcome ℕ} {x : List ℕ} → FileRead bytes room a x
    → Answered a (Due (file_conditions bytes room)) (x ≡ cleared room)
    (λ n. (n ≡ length (file_words bytes)) × (x ≡ filled room (file_words bytes)))
reader_answers p =
    record {
      exactly = fills_exactly p.read;
      zeros = λ r e. fills_zeros p.read e;
      holds = λ n e. let content = fills_content p.read e in (content.count, content.holds);
    }

-- The check: a refusal that is due. It has no buffer.
pub check_answers : {ws : List ℕ} {o : Option Refusal} → Verdict ws o → (r : Refusal) → (o ≡ some r) ↔ Due (grammar_conditions ws) r
check_answers v = Refused.lowest_exactly v

lists : {Asked : Asks} {ws log : List ℕ} {edit_room rule_room : ℕ} {o : Outcome (List Move)} {x y : List ℕ} {counts : Counts}
    → Parses Asked ws log edit_room rule_room o x y → ((ms : List Move) × (o ≡ given ms) × (counts ≡ counts_of ms))
    → Lists edit_room rule_room x y counts
lists p m =
    let words = Refused.parses_words p m.1 in
    record { moves = m.0; counted = m.2; edit_words_lem = words.0; rule_words = words.1 }

-- The parser: a refusal that is due before the run, or, where none is, the one that a move of the run meets (`Given`).
pub parser_answers : {ws log : List ℕ} {edit_room rule_room : ℕ} {a : Outcome Counts} {x y : List ℕ} → Parsed ws log edit_room rule_room a x y
    → Answered a (Given no_more ws log edit_room rule_room) (Blank edit_room rule_room x y) (Lists edit_room rule_room x y)
parser_answers p =
    record {
      exactly = λ r. Iff.trans (Refused.answered_refused r p.answers) (Refused.parses_exactly p.parses r);
      zeros = λ r e. Refused.parses_zeros p.parses ((Refused.answered_refused r p.answers).0 e);
      holds = λ a e. lists p.parses (Refused.answered_given p.outcome (sym e ∙ p.answers));
    }

-- The report: the same, with as many ticks as tokens asked under 10, and 16 behind it.
pub report_answers : {ws log ticks : List ℕ} {edit_room rule_room : ℕ} {a : Outcome (Report × Counts)} {x y : List ℕ}
    → Reported ws log ticks edit_room rule_room a x y
    → Answered a (Given (timed (tick_unit ws) log ticks) ws log edit_room rule_room) (Blank edit_room rule_room x y)
    (λ given. Lists edit_room rule_room x y given.1)
report_answers p =
    record {
      exactly = λ r. Iff.trans (Refused.reports_refused r p.reports) (Refused.parses_exactly p.parses r);
      zeros = λ r e. Refused.parses_zeros p.parses ((Refused.reports_refused r p.reports).0 e);
      holds = λ a e. lists p.parses (Refused.reports_given p.reports e);
    }

-- A station is idle exactly when its run, which made the moves ms, has no clean cycle; and idle carries no time.
pub idle_exactly : {ws log ticks : List ℕ} {edit_room rule_room : ℕ} {report : Report} {counts : Counts} {x y : List ℕ} {ms : List Move}
    → Reported ws log ticks edit_room rule_room (given (report, counts)) x y → RunOf ws log edit_room rule_room ms none
    → ((report.pace ≡ Idle) ↔ ((s : Span) → Clean (opening ws) (closing ws) (restart_mark ws) ms s → ⊥))
    × (report.pace ≡ Idle → (report.count ≡ 0) × (report.sum ≡ 0))
idle_exactly p run = ((idle_no_cycle (told p) run, no_cycle_idle (told p) run), idle_no_time (told p))

-- ======== Demand 2: the grammar, the corrections, the repaired log

-- A grammar is accepted exactly when the five conditions hold.
pub accepted_exactly : (ws : List ℕ) → Verdict ws none
    ↔ (Shaped ws
    × EachNonterminal ws (Reachable (RuleOf ws) (START ∷ []))
    × EachNonterminal ws (Productive (RuleOf ws))
    × EachNonterminal ws (Affordable (RuleOf ws) (insert_cost ws))
    × NoneShared (RuleOf ws) start_over_end)
unfolding Held
accepted_exactly ws =
    let both = lowest_held (grammar_conditions ws) in (
      λ v. let h = both.0 v in (h.0, h.1.0, h.1.1.0, h.1.1.1.0, h.1.1.1.1.0),
      λ h. both.1 (h.0, (h.1, (h.2, (h.3, (h.4, tt))))),
    )

-- A correction, which deletes j tokens and pops i symbols at stack σ and rest ρ of the log.
module _ (ws : List ℕ) {σ ρ : List ℕ} {j i : ℕ} {ps : List Pop} (chosen : Choice (grammar_of ws) σ ρ (correcting j i ps)) where
  hit : Hit (grammar_of ws) σ ρ j i
  hit = Chosen.correction_hit (grammar_of ws) chosen

  -- It deletes the fewest tokens that a plausible correction can,
  pub fewest_deletes : (h k : ℕ) → Plausible (grammar_of ws) σ (get_or ρ h END) k → j ≤ h
  fewest_deletes h k p = Chosen.fewest_deletes (grammar_of ws) hit p

  -- and then pops the fewest symbols.
  pub fewest_pops : (k : ℕ) → Plausible (grammar_of ws) σ (get_or ρ j END) k → i ≤ k
  fewest_pops k p = Chosen.fewest_pops (grammar_of ws) hit p

-- The run of a log: Sentences.antt says that there is one, and only one.
module _ (ws log : List ℕ) (passes : Verdict ws none) (fits : LogFits ws log) where
  tokens : All LogToken log
  tokens = AnswersOf.log_tokens (record { words = accepted passes; fits = fits })

  good : Good (grammar_of ws) (nonterminal_count ws) 8
  good = good_within ws (accepted passes) 8 (eight_bounds ws (accepted passes))

  opened : good.opened ≡ START ∷ []
  unfolding good
  opened = opens_with_start ws (accepted passes) 8 (eight_bounds ws (accepted passes))

  module _ {edit_room rule_room : ℕ} {ms : List Move} (run : RunOf ws log edit_room rule_room ms none) where
    -- "The repaired log .. must be derivable from START,
    pub repaired_derivable : Derives (RuleOf ws) (START ∷ []) (repaired ms)
    repaired_derivable =
        subst (λ l. Derives (RuleOf ws) l (repaired ms)) opened
        (Repaired.repaired_derivable (grammar_of ws) (nonterminal_count ws) 8 good tokens run)

    -- and it yields a correct log whenever each inserted nonterminal is replaced by any terminal string it derives": w is any
    -- string so made.
    pub repaired_correct : (w : List ℕ) → Filled (RuleOf ws) ms w → Yields (RuleOf ws) (START ∷ []) w
    repaired_correct w filled =
        subst (λ l. Yields (RuleOf ws) l w) opened
        (Filling.repaired_correct (grammar_of ws) (nonterminal_count ws) 8 good tokens run filled)

    -- "Kept and deleted tokens together are the log's tokens, each once", in order, with END behind them.
    pub kept_and_deleted : passed ms ≡ placed 0 (log ++ (END ∷ []))
    kept_and_deleted = Repaired.passed_log log run

    -- There are no edits exactly when the log was correct.
    pub no_edits_exactly_when_correct : (edits ms ≡ []) ↔ Derives (RuleOf ws) (START ∷ []) log
    no_edits_exactly_when_correct = (
      λ none.
          subst (λ l. Derives (RuleOf ws) l log) opened
          (Correct.correct_when_no_edits (grammar_of ws) (nonterminal_count ws) 8 good tokens run none),
      λ correct.
          Correct.no_edits_when_correct (grammar_of ws) (nonterminal_count ws) 8 good tokens run
          (subst (λ l. Derives (RuleOf ws) l log) (sym opened) correct),
    )

-- ======== Demand 3: the moves are counted one by one (`counts_of`), and bounded

-- Moves are at most 2 + n + R x N x n, of every run, also of one that is refused midway, where R bounds the right sides: 8 does, and
-- so does the longest.
pub moves_bounded : (ws log : List ℕ) → Verdict ws none → LogFits ws log
    → {edit_room rule_room : ℕ} {ms : List Move} {o : Option Refusal} (R : ℕ)
    → ((p : ℕ) → p < rule_count ws → right_size ws p ≤ R) → RunOf ws log edit_room rule_room ms o
    → length ms ≤ 2 + length log + R * nonterminal_count ws * length log
moves_bounded ws log passes fits R bound run =
    Bounded.moves_bounded (grammar_of ws) (nonterminal_count ws) R (good_within ws (accepted passes) R bound)
    (tokens ws log passes fits) run

-- Case 12 is "the bound itself": its right sides have R = 0 symbols, and its run makes 2 + n + R x N x n moves.
pub bound_itself : ((p : ℕ) → p < rule_count case12.words → right_size case12.words p ≤ 0)
    × ((ms : List Move) → RunOf case12.words case12.log edit_room rule_room ms none
    → length ms ≡ 2 + length case12.log + 0 * nonterminal_count case12.words * length case12.log)
bound_itself = (Bound.case12_right_sides, λ ms run. Bound.case12_moves run)

-- ======== Demands 2 and 3 of the parser's own answer: what stands in the edit buffer when it answers with counts

pub parse_keeps : {ws log : List ℕ} {edit_room rule_room : ℕ} {counts : Counts} {x y : List ℕ}
    → Parsed ws log edit_room rule_room (given counts) x y → Kept ws log edit_room counts x
parse_keeps {ws} {log} p =
    let m = parsed_made p in
    record {
      records = edits m.moves;
      buffer = m.edits_left;
      count = ap (λ (c : Counts). c.records) m.counted;
      derivable =
          subst (λ l. Derives (RuleOf ws) (START ∷ []) l) (rebuilt_repaired log m.run)
          (repaired_derivable ws log m.verdict m.fits m.run);
      none_when_correct = no_edits_exactly_when_correct ws log m.verdict m.fits m.run;
      bounded = λ R b.
          subst (λ n. n ≤ 2 + length log + R * nonterminal_count ws * length log) (sym (ap (λ (c : Counts). c.moves) m.counted))
          (moves_bounded ws log m.verdict m.fits R b m.run);
    }
