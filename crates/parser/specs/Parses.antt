-- The parser's answer: the refusals before the run, the run, and what the buffers then hold.
use Rattle.std.specs.Prelude.{ℕ, ◌+◌, ◌-◌, ◌*◌, ◌≤◌, ◌<◌, min, max, ◌≡◌, refl, Bool, true, List, ◌++◌, length, get_or, take, replicate, Result, Ok, Err}
use Rattle.std.proofs.Math.Path.{ap, subst}
use Rattle.std.proofs.Common.{◌∙◌, ⊎_elim, arith, length-take-le}
use Rattle.std.proofs.Math.Option.{none}
use Rattle.grammar.specs.Words.{END, Shaped, RuleSymbol, terminal_count, nonterminal_count}
use Rattle.grammar.specs.Buffers.{filled, cleared}
use Rattle.grammar.specs.Grammar.{grammar_of}
use Rattle.grammar.specs.Run.{RunOf, LogFits, LogBelow, Asks, only10, run_conditions, Settled, answered, left, ParsedAsking, Parsed}
use Rattle.grammar.specs.Refusals.{Lowest, Outcome, given, refused, outcome_of, refusal_of}
use Rattle.grammar.specs.declared.Refusal.{Refusal}
use Rattle.grammar.specs.declared.Counts.{Counts}
use Rattle.grammar.specs.Theory.Answered.{conditions_from10}
use Rattle.grammar.proofs.Theory.Answered.{log_held, log_tokens, parses_asking}
use Rattle.grammar.specs.Theory.Conditions.{none_fails, held_front, refused_front}
use Rattle.grammar.specs.Theory.Good.{accepted, good_words}
use Rattle.grammar.specs.Theory.Tables.{Inner, sized_of, Cheap, cheap_of}
use Rattle.base.specs.Blank.{Blank, blank_made}
use Rattle.base.specs.Telling.{Tells}
use Rattle.moves.specs.Tests.{le_or_lt}
use Rattle.verdict.specs.Answer.{Tabled, verdict_in}
use Rattle.parser.specs.Reached.{Setting}
use Rattle.parser.specs.Runs.{Ended, CanRun, RanOf}
use Rattle.parser.specs.Asking.{asks_by}
use Rattle.parser.specs.declared.Asking.{Asking}

-- ---- Refusal 10

-- The first i tokens lie between low and high, and so closely that every other bound of theirs is one of these.
pub record Spanned (log : List ℕ) (i low high : ℕ) : Type 0 where
  pub above : (k : ℕ) → k < i → low ≤ get_or log k END
  pub under : (k : ℕ) → k < i → get_or log k END ≤ high
  pub lowest : (b : ℕ) → b ≤ 65535 → ((k : ℕ) → k < i → b ≤ get_or log k END) → b ≤ low
  pub highest : (b : ℕ) → ((k : ℕ) → k < i → get_or log k END ≤ b) → high ≤ b

module _ {log : List ℕ} where
  pub spanned_none : Spanned log 0 65535 0
  spanned_none =
      record { above = λ k l. absurd (omega arith); under = λ k l. absurd (omega arith); lowest = λ b l f. l; highest = λ b f. omega arith }

  pub spanned_more : (i low high low' high' : ℕ) → low' ≡ min low (get_or log i END) → high' ≡ max high (get_or log i END)
      → Spanned log i low high
      → Spanned log (i + 1) low' high'
  spanned_more i low high low' high' e f w =
      record {
        above = λ k m. at (λ t. low' ≤ t) k m (omega arith) (λ j. omega (arith, w.above k j));
        under = λ k m. at (λ t. t ≤ high') k m (omega arith) (λ j. omega (arith, w.under k j));
        lowest = λ b l g. omega (arith, w.lowest b l (λ k m. g k (omega arith)), g i (omega arith));
        highest = λ b g. omega (arith, w.highest b (λ k m. g k (omega arith)), g i (omega arith));
      }
    where
      at : (P : ℕ → Type 0) (k : ℕ) → k < i + 1 → P (get_or log i END) → (k < i → P (get_or log k END)) → P (get_or log k END)
      at P k m here before =
          ⊎_elim (λ j. let e : i ≡ k = omega arith in subst (λ n. P (get_or log n END)) e here) (λ j. before j) (le_or_lt i k)

module _ {T : ℕ} {log : List ℕ} {Asked : Type 0} {i low high : ℕ} (w : Spanned log i low high) (all : length log ≤ i)
    (exactly : i ≤ length log) where
  -- Where no token is END, every token is in range where the highest is.
  pub log_high : (b : Bool) → 1 ≤ T → length log ≤ 4096 → 0 < low → Asked → Tells (high < T) b
      → Tells (LogBelow T log × Asked) b
  log_high b t l n a h =
      record {
        yes = λ e. (
          record {
            count = l;
            low = λ k m. omega (arith, w.above k (omega arith));
            high = λ k m. omega (arith, w.under k (omega arith), h.yes e);
          },
          a,
        );
        no = λ e f.
            h.no e (omega (arith, w.highest (T - 1) (λ k m. omega (arith, f.0.high k (omega arith)))));
      }

-- ---- Before the run

-- The run's answer where no condition before it fails; else the refusal.
unfoldable pub SettledAs : Asks → List ℕ → List ℕ → ℕ → ℕ → List ℕ → List ℕ → Result Counts Refusal → Type 0
SettledAs Asked ws log edit_room rule_room edit_buffer rule_buffer (Ok counts) =
    Lowest (run_conditions ws log Asked) none × Ended (sized_of ws) log edit_room rule_room counts edit_buffer rule_buffer
SettledAs Asked ws log edit_room rule_room edit_buffer rule_buffer (Err r) =
    Settled (run_conditions ws log Asked) (RunOf ws log edit_room rule_room) (refused r)

-- The sizes of the two tables that a caller lends. In the first nothing stands yet.
pub record Lent (prices sides : List ℕ) : Type 0 where
  pub prices_blank : Blank 256 prices
  pub sides_size : length sides ≡ 512

-- Tables that were just made will do.
pub lent_made : Lent (replicate 256 0) (replicate 512 0)
lent_made = record { prices_blank = blank_made 256; sides_size = (blank_made 512).size }

-- Where the log is not refused, the tables have each nonterminal's cheapest rule and the right sides.
unfoldable pub CheapWhere : List ℕ → List ℕ → List ℕ → Result Counts Refusal → Type 0
CheapWhere ws prices sides (Ok counts) = Cheap (grammar_of ws) (nonterminal_count ws) prices sides
CheapWhere ws prices sides (Err r) = Unit {0}

pub cheap_refused : (ws prices sides : List ℕ) (r : Refusal) → CheapWhere ws prices sides (Err r)
unfolding CheapWhere
cheap_refused ws prices sides r = tt

pub cheap_told : (ws prices sides : List ℕ) {a b : Result Counts Refusal} → CheapWhere ws prices sides a → a ≡ b → CheapWhere ws prices sides b
cheap_told ws prices sides c e = subst (λ x. CheapWhere ws prices sides x) e c

pub cheap_where : (ws prices sides : List ℕ) {a : Result Counts Refusal} {counts : Counts} → CheapWhere ws prices sides a → a ≡ Ok counts
    → Cheap (grammar_of ws) (nonterminal_count ws) prices sides
unfolding CheapWhere
cheap_where ws prices sides c e = cheap_told ws prices sides c e

-- Accepted words, a log that fits and the tables are what a run works from.
setting_of : {ws log sets prices sides rows : List ℕ} → Tabled ws sets prices sides rows (Ok tt) → LogFits ws log
    → Setting (sized_of ws) log sets prices sides rows
setting_of {ws} {log} t f =
    let a = accepted t.verdict in
    let tables = t.known refl in
    record {
      known =
          record {
            terminals_low = a.shaped.terminals_low;
            terminals_high = a.shaped.terminals_high;
            nonterminals_high = a.shaped.nonterminals_high;
            left = λ p A β r. ((good_words ws a).left p A β r).0;
            short = f.count;
            tokens = f.high;
            shared = tables.shared;
          };
      good = good_words ws a;
      inner = λ X k. symbol k;
      begins = refl;
      tokens = log_tokens (record { words = a; fits = f });
      pushes = tables.pushes;
    }
  where
    symbol : {X : ℕ} → RuleSymbol (terminal_count ws) (nonterminal_count ws) X → Inner (terminal_count ws) (nonterminal_count ws) X
    symbol (RuleSymbol.terminal a b) = Inner.terminal b
    symbol (RuleSymbol.nonterminal a b) = Inner.nonterminal a b

module _ (Asked : Asks) {ws sets prices sides rows : List ℕ} {j : Result (Unit {0}) Refusal} (t : Tabled ws sets prices sides rows j) where
  pub check_refuses : (log : List ℕ) (edit_room rule_room : ℕ) (edit_buffer rule_buffer : List ℕ) {r : Refusal} → j ≡ Err r
      → SettledAs Asked ws log edit_room rule_room edit_buffer rule_buffer (Err r)
  unfolding SettledAs
  check_refuses log edit_room rule_room edit_buffer rule_buffer e = Settled.before (refused_front _ (verdict_in t e))

  module _ {u : Unit {0}} (passed : j ≡ Ok u) where
    -- The tables are filled, whatever the run comes to.
    pub run_cheap : (r : Result Counts Refusal) → CheapWhere ws prices sides r
    unfolding CheapWhere
    run_cheap (Ok counts) = let tables = t.known passed in cheap_of tables.shared tables.pushes
    run_cheap (Err r) = tt

    pub log_can : Shaped ws
    log_can = (accepted (verdict_in t passed)).shaped

    module _ {log : List ℕ} {admitted : Result (Unit {0}) Refusal} (lowest : Lowest (conditions_from10 Asked ws log) (refusal_of admitted)) where
      -- 10, or what is asked behind it,
      pub admits_refuses : (edit_room rule_room : ℕ) (edit_buffer rule_buffer : List ℕ) {r : Refusal} → admitted ≡ Err r
          → SettledAs Asked ws log edit_room rule_room edit_buffer rule_buffer (Err r)
      unfolding SettledAs
      admits_refuses edit_room rule_room edit_buffer rule_buffer e =
          Settled.before (held_front (verdict_in t passed) (subst (λ a. Lowest (conditions_from10 Asked ws log) (refusal_of a)) e lowest))

      -- or the run.
      met : {u : Unit {0}} → admitted ≡ Ok u → Lowest (run_conditions ws log Asked) none
      met e = held_front (verdict_in t passed) (subst (λ a. Lowest (conditions_from10 Asked ws log) (refusal_of a)) e lowest)

      pub run_can : (stack : List ℕ) {u : Unit {0}} → admitted ≡ Ok u → 264 ≤ length stack
          → CanRun (sized_of ws) log sets prices sides rows stack
      run_can stack e l =
          record {
            setting = setting_of (subst (λ x. Tabled ws sets prices sides rows x) passed t) (log_held (met e)).0;
            cells = l;
          }

      pub run_settles : (edit_room rule_room : ℕ) (edit_buffer rule_buffer : List ℕ) (r : Result Counts Refusal) {u : Unit {0}} → admitted ≡ Ok u
          → RanOf (sized_of ws) log edit_room rule_room edit_buffer rule_buffer r
          → SettledAs Asked ws log edit_room rule_room edit_buffer rule_buffer r
      unfolding SettledAs RanOf
      run_settles edit_room rule_room edit_buffer rule_buffer (Ok counts) e x = (met e, x)
      run_settles edit_room rule_room edit_buffer rule_buffer (Err r) e x = Settled.within (met e) x.1

-- ---- The parser's contract

-- Words cleared behind a front fill the buffer.
cleared_behind : (n : ℕ) (buffer after : List ℕ) (room : ℕ) → n ≤ length buffer → length buffer ≡ room
    → after ≡ take n buffer ++ replicate (length buffer - n) 0 → after ≡ filled room (take n buffer)
unfolding filled
cleared_behind n buffer after room l e f =
    let k : length (take n buffer) ≡ n = length-take-le n buffer l in
    let m : length buffer - n ≡ room - length (take n buffer) = omega (arith, k, e) in
    f ∙ ap (λ i. take n buffer ++ replicate i 0) m

-- What was listed fits.
pub settled_fits : (Asked : Asks) (ws log edits₀ rules₀ edits' rules' : List ℕ) {answer : Result Counts Refusal} {counts : Counts}
    → SettledAs Asked ws log (length edits₀) (length rules₀) edits' rules' answer → answer ≡ Ok counts
    → (3 * counts.records ≤ length edits₀) × (counts.listed ≤ length rules₀)
unfolding SettledAs
settled_fits Asked ws log edits₀ rules₀ edits' rules' s e =
    let x = subst (λ r. SettledAs Asked ws log (length edits₀) (length rules₀) edits' rules' r) e s in
    (x.1.edits_fit, x.1.rules_fit)

module _ (Asked : Asks) (ws log edits₀ rules₀ edits' rules' : List ℕ) {answer : Result Counts Refusal}
    (s : SettledAs Asked ws log (length edits₀) (length rules₀) edits' rules' answer)
    (same-edits : length edits' ≡ length edits₀) (same-rules : length rules' ≡ length rules₀) (edits_after rules_after : List ℕ) where
  pub parses_counts : {counts : Counts} → answer ≡ Ok counts
      → edits_after ≡ take (3 * counts.records) edits' ++ replicate (length edits' - 3 * counts.records) 0
      → rules_after ≡ take counts.listed rules' ++ replicate (length rules' - counts.listed) 0
      → ParsedAsking Asked ws log (length edits₀) (length rules₀) (outcome_of (Ok counts)) edits_after rules_after
  unfolding SettledAs answered left
  parses_counts {counts} e f g =
      let h = subst (λ r. SettledAs Asked ws log (length edits₀) (length rules₀) edits' rules' r) e s in
      let x = h.1 in
      record {
        outcome = given x.made;
        parses =
            record {
              settled = Settled.whole h.0 x.run;
              leaves_edits =
                  cleared_behind (3 * counts.records) edits' edits_after (length edits₀) (omega (arith, x.edits_fit)) same-edits f
                  ∙ ap (filled (length edits₀)) x.edit_front;
              leaves_rules =
                  cleared_behind counts.listed rules' rules_after (length rules₀) (omega (arith, x.rules_fit)) same-rules g
                  ∙ ap (filled (length rules₀)) x.rule_front;
            };
        answers = ap given x.counted;
      }

  pub parses_refused : {r : Refusal} → answer ≡ Err r → edits_after ≡ replicate (length edits') 0 → rules_after ≡ replicate (length rules') 0
      → ParsedAsking Asked ws log (length edits₀) (length rules₀) (outcome_of (Err r)) edits_after rules_after
  unfolding SettledAs answered left cleared
  parses_refused {r} e f g =
      record {
        outcome = refused r;
        parses =
            record {
              settled = subst (λ x. SettledAs Asked ws log (length edits₀) (length rules₀) edits' rules' x) e s;
              leaves_edits = f ∙ ap (λ n. replicate n 0) same-edits;
              leaves_rules = g ∙ ap (λ n. replicate n 0) same-rules;
            };
        answers = refl;
      }

-- Where the second test holds, only the first is asked; and where both hold, nothing is.
pub parsed_only10 : {asking : Asking} {ws log : List ℕ} {edit_room rule_room : ℕ} {a : Outcome Counts} {x y : List ℕ} → asking.paced ≡ true
    → ParsedAsking (asks_by asking) ws log edit_room rule_room a x y
    → ParsedAsking (only10 (asking.timed ≡ true)) ws log edit_room rule_room a x y
parsed_only10 paced p =
    record {
      outcome = p.outcome;
      parses = parses_asking (λ q. q) (λ q. q) (λ q. none_fails paced) p.parses;
      answers = p.answers;
    }

pub parsed_plain : {asking : Asking} {ws log : List ℕ} {edit_room rule_room : ℕ} {a : Outcome Counts} {x y : List ℕ}
    → asking.timed ≡ true → asking.paced ≡ true → ParsedAsking (asks_by asking) ws log edit_room rule_room a x y
    → Parsed ws log edit_room rule_room a x y
parsed_plain timed paced p =
    let q = parsed_only10 paced p in
    record { outcome = q.outcome; parses = parses_asking (λ h. tt) (λ h. timed) (λ o l. l) q.parses; answers = q.answers }
