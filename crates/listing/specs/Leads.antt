-- How the answers of reader and report lead to the listing: what a program shows that prints by these functions.
use Rattle.std.specs.Prelude.{ℕ, ◌+◌, ◌-◌, ◌*◌, ◌/◌, ◌≤◌, ◌<◌, ◌≡◌, refl, List, [], ◌∷◌, length, take}
use Rattle.std.proofs.Math.Decide.{dec_lt}
use Rattle.std.proofs.Common.{arith, sym, ap, ◌∙◌, subst, subst₂, length-append, take_at, take_all, length-take-le}
use Rattle.std.proofs.Math.Logic.{dite}
use Rattle.grammar.specs.Buffers.{filled}
use Rattle.grammar.specs.File.{FileRead, file_words}
use Rattle.grammar.specs.Moves.{Move, Edit, edits, edit_words}
use Rattle.grammar.specs.Run.{counts_of, left}
use Rattle.grammar.specs.Pace.{Reports, Reported, ReportsBy}
use Rattle.grammar.specs.Refusals.{Outcome, given, refused, number_of}
use Rattle.grammar.proofs.Theory.Folds.{edit_words_length}
use Rattle.grammar.specs.Theory.Fills.{fills_content}
use Rattle.grammar.specs.Listing.{
  Counted,
  Printed,
  blocks_end,
  file_of,
  token_at,
  tick_at,
  tokens_of,
  ticks_of,
  listing,
  refused_line,
}
use Rattle.grammar.specs.declared.Counts.{Counts}
use Rattle.grammar.specs.declared.Refusal.{Refusal}
use Rattle.grammar.specs.declared.Report.{Report}
use Rattle.listing.specs.Answer.{records_of}
use Rattle.listing.specs.Enough.{entries_length, reported_front, reported_fits}

-- The words of records hold those records.
pub records_of_words : (es : List Edit) → records_of (edit_words es) ≡ es
unfolding records_of edit_words
records_of_words [] = refl
records_of_words (e ∷ es) = ap (λ (l : List Edit). e ∷ l) (records_of_words es)

-- The front of the edit buffer: the words of the records.
front_words : (room : ℕ) (es : List Edit) → take (3 * length es) (filled room (edit_words es)) ≡ edit_words es
unfolding filled
front_words room es = take_at (edit_words es) _ (3 * length es) (edit_words_length es)

-- The moves behind a report: its counts are theirs, and the words of their records stand in the edit buffer.
record MovesOf (o : Outcome (List Move)) (counts : Counts) (room : ℕ) (buffer : List ℕ) : Type 0 where
  moves : List Move
  ends : o ≡ given moves
  counted : counts ≡ counts_of moves
  holds : buffer ≡ filled room (edit_words (edits moves))

reports_moves : {ws ticks x : List ℕ} {o : Outcome (List Move)} {report : Report} {counts : Counts} {room : ℕ}
    → Reports ws ticks o (given (report, counts)) → x ≡ left (λ ms. edit_words (edits ms)) room o → MovesOf o counts room x
unfolding left
reports_moves (ReportsBy.paced {ms = ms} c) e = record { moves = ms; ends = refl; counted = refl; holds = e }

moves_of : {ws log ticks x u : List ℕ} {edit_room rule_room : ℕ} {report : Report} {counts : Counts}
    → (q : Reported ws log ticks edit_room rule_room (given (report, counts)) x u) → MovesOf q.outcome counts edit_room x
moves_of q = reports_moves q.reports q.parses.leaves_edits

-- The front of the edit buffer holds the records.
records_front : {o : Outcome (List Move)} {counts : Counts} {room : ℕ} {x : List ℕ} (m : MovesOf o counts room x)
    → records_of (take (3 * counts.records) x) ≡ edits m.moves
records_front {room = room} {x = x} m =
    let es : List Edit = edits m.moves in
    ap (λ (c : Counts). records_of (take (3 * c.records) x)) m.counted
    ∙ (ap (λ (b : List ℕ). records_of (take (3 * length es) b)) m.holds ∙ (ap records_of (front_words room es) ∙ records_of_words es))

-- The words that the reader counts, and those of the records that the report counts, stand in their buffers.
filled_within : (room : ℕ) (ws : List ℕ) → length ws ≤ length (filled room ws)
unfolding filled
filled_within room ws = simp length-append (omega arith)

pub read_part : {bytes words : List ℕ} {room n : ℕ} {o : Outcome ℕ} → FileRead bytes room o words → o ≡ given n → n ≤ length words
read_part {bytes} {room = room} p e =
    let content = fills_content p.read e in
    omega (arith, content.count, ap length content.holds, filled_within room (file_words bytes))

pub reported_part : {ws log ticks x u : List ℕ} {edit_room rule_room : ℕ} {report : Report} {counts : Counts}
    → Reported ws log ticks edit_room rule_room (given (report, counts)) x u → 3 * counts.records ≤ length x
reported_part {edit_room = edit_room} q =
    let m = moves_of q in
    let es : List Edit = edits m.moves in
    let count = ap (λ (c : Counts). c.records) m.counted in
    omega (arith, filled_within edit_room (edit_words es), edit_words_length es, ap length m.holds)

-- ---- What a program shows that keeps `room` tokens and ticks, 4,097 or more

-- The words are those that the reader leaves in 2,783 words.
pub record WordsRead (input words : List ℕ) : Type 0 where
  pub buffer : List ℕ
  pub count : ℕ
  pub read : FileRead (file_of input) 2783 (given count) buffer
  pub front : words ≡ take count buffer

-- Those words, and the tokens and ticks of an input as far as they fit.
pub record Kept (input words log ticks : List ℕ) : Type 0 where
  pub counted : Counted input
  pub file : WordsRead input words
  pub room : ℕ
  pub enough : 4096 < room
  pub tokens : log ≡ take room (tokens_of input)
  pub times : ticks ≡ take room (ticks_of input)

pub fewer_ticks : (input : List ℕ) → length (ticks_of input) ≤ length (tokens_of input)
fewer_ticks input =
    let left : ℕ = length input - blocks_end input in
    let end : ℕ = blocks_end input in
    omega (arith, entries_length (tick_at input) end (left / 6), entries_length (token_at input) end ((left + 5) / 6))

-- The report's answer is the one told.
pub report_told : {words log ticks x y : List ℕ} {edit_room rule_room : ℕ} {a b : Outcome (Report × Counts)}
    → Reported words log ticks edit_room rule_room a x y → a ≡ b → Reported words log ticks edit_room rule_room b x y
report_told {words} {log} {ticks} {x} {y} {edit_room} {rule_room} p e =
    subst (λ (o : Outcome (Report × Counts)). Reported words log ticks edit_room rule_room o x y) e p

-- The report on what is kept is the report on all of it.
whole_report : {input words log ticks x y : List ℕ} {a : Outcome (Report × Counts)} (k : Kept input words log ticks)
    → Reported words log ticks 24576 16384 a x y
    → Reported (take k.file.count k.file.buffer) (tokens_of input) (ticks_of input) 24576 16384 a x y
whole_report {input} {words} {log} {ticks} {x} {y} {a} k p =
    let ws : List ℕ = take k.file.count k.file.buffer in
    let front : List ℕ = take k.room (tokens_of input) in
    reported_front k.room k.enough (fewer_ticks input)
    (subst (λ (t : List ℕ). Reported ws front t 24576 16384 a x y) k.times
    (subst (λ (l : List ℕ). Reported ws l ticks 24576 16384 a x y) k.tokens
    (subst (λ (w : List ℕ). Reported w log ticks 24576 16384 a x y) k.file.front p)))

pub kept_refused : {input words log ticks x y : List ℕ} {r : Refusal} → Kept input words log ticks
    → Reported words log ticks 24576 16384 (refused r) x y → Printed input (refused_line (number_of r))
kept_refused k p = Printed.unreported k.counted k.file.read (whole_report k p)

-- A log of at most 4,096 tokens was kept whole,
pub all_tokens : {input words log ticks : List ℕ} (k : Kept input words log ticks) → length log ≤ 4096 → log ≡ tokens_of input
all_tokens {input} {log = log} k most =
    let size : length log ≡ length (take k.room (tokens_of input)) = ap length k.tokens in
    let enough = k.enough in
    k.tokens
    ∙ take_all k.room (tokens_of input)
    (dite (dec_lt k.room (length (tokens_of input)))
    (λ more. absurd (omega (arith, length-take-le k.room (tokens_of input) (omega arith))))
    (λ less. omega arith))

-- and so were its ticks.
pub all_ticks : {input words log ticks : List ℕ} (k : Kept input words log ticks) → length log ≤ 4096 → ticks ≡ ticks_of input
all_ticks {input} k most =
    k.times ∙ take_all k.room (ticks_of input) (omega (arith, fewer_ticks input, ap length (all_tokens k most), k.enough))

pub kept_listed : {input words log ticks x y : List ℕ} {report : Report} {counts : Counts} → Kept input words log ticks
    → Reported words log ticks 24576 16384 (given (report, counts)) x y
    → Printed input (listing (length log) counts (records_of (take (3 * counts.records) x)) report)
kept_listed {input} {report = report} {counts = counts} k q =
    let whole = whole_report k q in
    let m = moves_of whole in
    subst₂ (λ (l : List ℕ) (es : List Edit). Printed input (listing (length l) counts es report))
    (sym (all_tokens k (reported_fits q).count)) (sym (records_front m)) (Printed.listed k.counted k.file.read whole m.ends)
