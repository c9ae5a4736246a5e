-- How much of an input decides its listing. More than 4,096 tokens are refusal 10 whatever follows, so 4,097 of them are enough,
-- and so are the first 30,216 bytes of an input: the count, 11 blocks and 4,097 entries.
use Rattle.std.specs.Prelude.{ℕ, zero, suc, ◌+◌, ◌-◌, ◌*◌, ◌/◌, ◌≤◌, ◌<◌, ◌≡◌, refl, List, [], ◌∷◌, length, drop}
use Rattle.std.proofs.Math.Decide.{dec_lt}
use Rattle.std.proofs.Common.{arith, ◌∙◌, subst, take_all, take-take, get_or-take}
use Rattle.std.proofs.Math.Logic.{dite}
use Rattle.std.proofs.Math.Path.{ap, ap₂}
use Rattle.std.proofs.Math.Option.{Option}
use Rattle.std.proofs.Math.ListN.{take}
use Rattle.std.proofs.Math.Seq.{length-take-le}
use Rattle.grammar.specs.File.{pair_at, FileRead}
use Rattle.grammar.specs.Moves.{Move}
use Rattle.grammar.specs.Grammar.{grammar_conditions}
use Rattle.grammar.specs.Run.{LogFits, LogBelow, Asks, only10, run_conditions, Settled, Parses}
use Rattle.grammar.specs.Pace.{Reports, Reported, ReportsBy}
use Rattle.grammar.specs.Refusals.{Outcome, given, refused}
use Rattle.grammar.specs.Listing.{
  Counted,
  Printed,
  blocks_named,
  blocks_end,
  file_of,
  entries_at,
  tokens_of,
}
use Rattle.grammar.specs.declared.Counts.{Counts}
use Rattle.grammar.specs.declared.Refusal.{Refusal}
use Rattle.grammar.specs.declared.Refusal.TheVariants.{BadLog}
use Rattle.grammar.specs.declared.Report.{Report}
use Rattle.grammar.proofs.Theory.Answered.{log_held}
use Rattle.grammar.specs.Theory.Conditions.{lowest_from}

pub entries_length : (value : ℕ → ℕ) (at n : ℕ) → length (entries_at value at n) ≡ n
unfolding entries_at
entries_length value at zero = refl
entries_length value at (suc n) = ap suc (entries_length value (at + 6) n)

-- ---- Two logs over 4,096 tokens get the same answer

pub too_long : {A : Type 0} {T : ℕ} {log : List ℕ} → 4096 < length log → LogBelow T log → A
too_long long fits = absurd (omega (arith, fits.count))

settled_other : {Asked Asked' : Asks} {ws log log' : List ℕ} {Runs Runs' : List Move → Option Refusal → Type 0}
    {o : Outcome (List Move)} → 4096 < length log → 4096 < length log' → Settled (run_conditions ws log Asked) Runs o
    → Settled (run_conditions ws log' Asked') Runs' o
settled_other long long' (Settled.whole l r) = too_long long (log_held l).0
settled_other {Asked} {Asked'} {ws} long long' (Settled.before l) =
    Settled.before
    (lowest_from (grammar_conditions ws) BadLog Asked.behind_10 Asked'.behind_10 (λ h. too_long long h.0)
    (λ h. too_long long' h.0) (λ h. too_long long h.0) l)
settled_other long long' (Settled.within l r) = too_long long (log_held l).0

pub parses_other : {Asked Asked' : Asks} {ws log log' x y : List ℕ} {edit_room rule_room : ℕ} {o : Outcome (List Move)}
    → 4096 < length log → 4096 < length log' → Parses Asked ws log edit_room rule_room o x y → Parses Asked' ws log' edit_room rule_room o x y
parses_other long long' p =
    record { settled = settled_other long long' p.settled; leaves_edits = p.leaves_edits; leaves_rules = p.leaves_rules }

settled_held : {Asked : Asks} {ws log : List ℕ} {Runs : List Move → Option Refusal → Type 0} {ms : List Move}
    → Settled (run_conditions ws log Asked) Runs (given ms) → LogFits ws log × Asked.under_10
settled_held (Settled.whole l r) = log_held l

-- A log that is parsed fits, with what else is asked.
pub parsed_held : {Asked : Asks} {ws log x y : List ℕ} {edit_room rule_room : ℕ} {ms : List Move}
    → Parses Asked ws log edit_room rule_room (given ms) x y → LogFits ws log × Asked.under_10
parsed_held p = settled_held p.settled

reports_fits : {Asked : Asks} {ws log ticks : List ℕ} {Runs : List Move → Option Refusal → Type 0} {o : Outcome (List Move)}
    {a : Report × Counts} → Reports ws ticks o (given a) → Settled (run_conditions ws log Asked) Runs o → LogFits ws log
reports_fits (ReportsBy.paced c) (Settled.whole l r) = (log_held l).0

-- A log that is reported fits.
pub reported_fits : {ws log ticks x y : List ℕ} {edit_room rule_room : ℕ} {a : Report × Counts}
    → Reported ws log ticks edit_room rule_room (given a) x y → LogFits ws log
reported_fits p = reports_fits p.reports p.parses.settled

reports_other : {Asked : Asks} {ws log ticks ticks' : List ℕ} {Runs : List Move → Option Refusal → Type 0}
    {o : Outcome (List Move)} {a : Outcome (Report × Counts)} → 4096 < length log → Settled (run_conditions ws log Asked) Runs o
    → Reports ws ticks o a → Reports ws ticks' o a
reports_other {ticks = ticks} long s (ReportsBy.paced c) = too_long long (reports_fits {ticks = ticks} (ReportsBy.paced c) s)
reports_other long s ReportsBy.unpaced = ReportsBy.unpaced

pub reported_other : {ws log ticks log' ticks' x y : List ℕ} {edit_room rule_room : ℕ} {a : Outcome (Report × Counts)}
    → 4096 < length log → 4096 < length log' → Reported ws log ticks edit_room rule_room a x y
    → Reported ws log' ticks' edit_room rule_room a x y
reported_other long long' p =
    record {
      outcome = p.outcome;
      parses = parses_other long long' p.parses;
      reports = reports_other long p.parses.settled p.reports;
    }

-- ---- The first 4,097 tokens and ticks, or more, are enough

pub reported_front : {ws log ticks x y : List ℕ} {edit_room rule_room : ℕ} {a : Outcome (Report × Counts)} (room : ℕ) → 4096 < room
    → length ticks ≤ length log → Reported ws (take room log) (take room ticks) edit_room rule_room a x y
    → Reported ws log ticks edit_room rule_room a x y
reported_front {ws} {log} {ticks} {x} {y} {edit_room} {rule_room} {a} room enough fewer p =
    dite (dec_lt room (length log))
    (λ more. reported_other (omega (arith, length-take-le room log (omega arith))) (omega arith) p)
    (λ less.
    subst (λ l. Reported ws l ticks edit_room rule_room a x y) (take_all room log (omega arith))
    (subst (λ t. Reported ws (take room log) t edit_room rule_room a x y) (take_all room ticks (omega arith)) p))

-- The same of a parse that asks for as many ticks as tokens.
pub parses_front : {ws log x y : List ℕ} {edit_room rule_room : ℕ} {o : Outcome (List Move)} (room : ℕ) (ticks : List ℕ) → 4096 < room
    → length ticks ≤ length log
    → Parses (only10 (length (take room ticks) ≡ length (take room log))) ws (take room log) edit_room rule_room o x y
    → Parses (only10 (length ticks ≡ length log)) ws log edit_room rule_room o x y
parses_front {ws} {log} {x} {y} {edit_room} {rule_room} {o} room ticks enough fewer p =
    dite (dec_lt room (length log))
    (λ more. parses_other (omega (arith, length-take-le room log (omega arith))) (omega arith) p)
    (λ less.
    subst (λ l. Parses (only10 (length ticks ≡ length l)) ws l edit_room rule_room o x y) (take_all room log (omega arith))
    (subst (λ t. Parses (only10 (length t ≡ length (take room log))) ws (take room log) edit_room rule_room o x y)
    (take_all room ticks (omega arith)) p))

-- ---- The first 30,216 bytes, or more, are enough

-- An input that goes on behind those bytes, which are `front`: what they tell of it. Both have too many tokens.
pub record GoesOn (front input : List ℕ) : Type 0 where
  pub fewer : Counted input → Counted front
  pub counted : Counted front → Counted input
  pub file : Counted front → file_of front ≡ file_of input
  pub long_front : Counted front → 4096 < length (tokens_of front)
  pub long : Counted front → 4096 < length (tokens_of input)

-- The front of what stands behind the first two.
front_behind : (m k : ℕ) (l : List ℕ) → m + 2 ≤ k → take m (drop 2 (take k l)) ≡ take m (drop 2 l)
front_behind m zero l h = absurd (omega arith)
front_behind m (suc zero) l h = absurd (omega arith)
front_behind m (suc (suc k)) [] h = refl
front_behind m (suc (suc k)) (a ∷ []) h = refl
front_behind m (suc (suc k)) (a ∷ b ∷ l) h = take-take m k l (omega arith)

module _ (input : List ℕ) (kept : ℕ) (enough : 30216 ≤ kept) (longer : kept < length input) where
  front : List ℕ
  front = take kept input

  front_length : length front ≡ kept
  unfolding front
  front_length = length-take-le kept input (omega arith)

  same_count : blocks_named front ≡ blocks_named input
  unfolding front
  same_count =
      ap₂ (λ (a b : ℕ). a + 256 * b) (get_or-take kept input 0 0 (omega arith)) (get_or-take kept input (0 + 1) 0 (omega arith))

  front_counted : Counted input → Counted front
  front_counted c =
      let size = front_length in
      let same = same_count in
      record {
        whole = omega arith;
        low = omega (arith, c.low);
        high = omega (arith, c.high);
        present = omega (arith, c.high);
      }

  whole_counted : Counted front → Counted input
  whole_counted c =
      let size = front_length in
      let same = same_count in
      record {
        whole = omega arith;
        low = omega (arith, c.low);
        high = omega (arith, c.high);
        present = omega (arith, c.high);
      }

  same_file : Counted front → file_of front ≡ file_of input
  unfolding front file_of
  same_file c =
      ap (λ (n : ℕ). take (512 * n) (drop 2 (take kept input))) same_count
      ∙ front_behind (512 * blocks_named input) kept input (omega (arith, (whole_counted c).high))

  front_long : Counted front → 4096 < length (tokens_of front)
  front_long c =
      omega (arith, entries_length (pair_at front) (blocks_end front) ((length front - blocks_end front + 5) / 6), front_length, c.high)

  whole_long : Counted front → 4096 < length (tokens_of input)
  whole_long c =
      let high = (whole_counted c).high in
      omega (arith, entries_length (pair_at input) (blocks_end input) ((length input - blocks_end input + 5) / 6))

  goes_on : GoesOn (take kept input) input
  unfolding front
  goes_on =
      record { fewer = front_counted; counted = whole_counted; file = same_file; long_front = front_long; long = whole_long }

-- Lines that are the same where an input goes on are told by its first 30,216 bytes or more.
pub by_front : (Lines : List ℕ → List ℕ → Type 0) {input output : List ℕ} (kept : ℕ) → 30216 ≤ kept
    → (GoesOn (take kept input) input → Lines (take kept input) output → Lines input output)
    → Lines (take kept input) output → Lines input output
by_front Lines {input} {output} kept enough longer p =
    dite (dec_lt kept (length input))
    (λ more. longer (goes_on input kept enough more) p)
    (λ less. subst (λ l. Lines l output) (take_all kept input (omega arith)) p)

printed_longer : {front input output : List ℕ} → GoesOn front input → Printed front output → Printed input output
printed_longer g (Printed.uncounted n) = Printed.uncounted (λ c. n (g.fewer c))
printed_longer g (Printed.unread {r = r} {words = words} c f) =
    Printed.unread (g.counted c) (subst (λ b. FileRead b 2783 (refused r) words) (g.file c) f)
printed_longer g (Printed.unreported {n = n} {words = words} c f p) =
    Printed.unreported (g.counted c) (subst (λ b. FileRead b 2783 (given n) words) (g.file c) f)
    (reported_other (g.long_front c) (g.long c) p)
printed_longer g (Printed.listed c f p e) = too_long (g.long_front c) (reported_fits p)

pub printed_front : {input output : List ℕ} (kept : ℕ) → 30216 ≤ kept → Printed (take kept input) output → Printed input output
printed_front kept enough p = by_front Printed kept enough printed_longer p
