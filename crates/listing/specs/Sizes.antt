-- How long a listing can be: a buffer of 155,817 bytes holds any listing whose edit records stand in 24,576 words. A number of 64
-- bits has at most 20 digits, a word at most 5, so an edit line has at most 19 bytes, the first line 112 and the last 57.
use Rattle.std.specs.Prelude.{ℕ, zero, suc, ◌+◌, ◌*◌, ◌/◌, ◌^◌, ◌≤◌, ◌<◌, Bool, true, false, cond, ◌≡◌, refl, List, [], ◌∷◌, eqb, length, take, drop, get_or}
use Rattle.std.proofs.Math.Decide.{dec_lt}
use Rattle.std.proofs.Common.{pow-suc, arith, sym, ap, ◌∙◌, lt-ltb, le-ltb, length-append, take_all, take_at}
use Rattle.std.proofs.Math.Logic.{dite}
use Prim.Native.String.{String}
use Rattle.grammar.specs.Moves.{Edit}
use Rattle.grammar.specs.Refusals.{number_of}
use Rattle.grammar.specs.Theory.Outcomes.{number_small}
use Rattle.grammar.specs.Listing.{
  ascii,
  digits,
  decimal,
  field,
  refused_line,
  ok_line,
  kind_word,
  edit_line,
  edit_lines,
  pace_line,
  listing,
}
use Rattle.grammar.specs.declared.Counts.{Counts}
use Rattle.grammar.specs.declared.Refusal.{Refusal}
use Rattle.grammar.specs.declared.Pace.{Pace}
use Rattle.grammar.specs.declared.Pace.TheVariants.{Idle, Mean}
use Rattle.grammar.specs.declared.Report.{Report}
use Rattle.listing.specs.Answer.{Wrote, records_of}

pub digits_length : (k j n : ℕ) → n < 10 ^ suc k → length (digits j n) ≤ suc k
unfolding digits
digits_length k zero n l = omega arith
digits_length zero (suc j) n l =
    let small : n < 10 = l in
    simp (lt-ltb n 10 small) (omega arith)
digits_length (suc k) (suc j) n l =
    dite (dec_lt n 10)
    (λ small. simp (lt-ltb n 10 small) (omega arith))
    (λ large.
    let more : 10 ≤ n = omega arith in
    let tenth : n / 10 < 10 ^ suc k = omega (arith, pow-suc 10 (suc k)) in
    simp (le-ltb n 10 more, length-append) (omega (arith, digits_length k j (n / 10) tenth)))

-- A number of 64 bits, and a word.
pub decimal_long : (n : ℕ) → n < 2 ^ 64 → length (decimal n) ≤ 20
unfolding decimal
decimal_long n l = digits_length 19 n n (omega arith)

pub decimal_word : (n : ℕ) → n < 65536 → length (decimal n) ≤ 5
unfolding decimal
decimal_word n l = digits_length 4 n n (omega arith)

pub field_length : (word : String) (n : ℕ) → length (field word n) ≡ length (ascii word) + length (decimal n)
unfolding field
field_length word n = length-append (ascii word) (decimal n)

-- ---- The lines

-- Each count is a number of 64 bits.
pub record Small (counts : Counts) : Type 0 where
  pub moves : counts.moves < 2 ^ 64
  pub records : counts.records < 2 ^ 64
  pub listed : counts.listed < 2 ^ 64

ok_length : (n : ℕ) (counts : Counts) → n < 2 ^ 64 → Small counts → length (ok_line n counts) ≤ 112
unfolding ok_line ascii
ok_length n counts a s =
    simp (length-append, field_length)
    (omega (arith, decimal_long n a, decimal_long _ s.moves, decimal_long _ s.records, decimal_long _ s.listed))

either_length : (b : Bool) → length (ascii (cond b "delete " "insert ")) ≡ 7
unfolding ascii
either_length true = refl
either_length false = refl

kind_length : (kind : ℕ) → length (ascii (kind_word kind)) ≡ 7
unfolding kind_word
kind_length kind = either_length (eqb kind 1)

edit_length : (e : Edit) → e.place < 65536 → e.symbol < 65536 → length (edit_line e) ≤ 19
unfolding edit_line ascii
edit_length e a b =
    simp (length-append, field_length)
    (omega (arith, kind_length e.kind, decimal_word e.place a, decimal_word e.symbol b))

lines_length : (ws : List ℕ) → ((i : ℕ) → get_or ws i 0 < 65536) → length (edit_lines (records_of ws)) ≤ 19 * (length ws / 3)
unfolding edit_lines records_of
lines_length [] small = omega arith
lines_length (k ∷ []) small = omega arith
lines_length (k ∷ p ∷ []) small = omega arith
lines_length (k ∷ p ∷ x ∷ ws) small =
    let line = edit_length (record { kind = k; place = p; symbol = x }) (small 1) (small 2) in
    let rest = lines_length ws (λ i. small (suc (suc (suc i)))) in
    simp length-append (omega arith)

pub pace_length : (count sum : ℕ) (pace : Pace) → count < 2 ^ 64 → sum < 2 ^ 64 → length (pace_line count sum pace) ≤ 57
unfolding pace_line ascii
pace_length count sum Idle a b = omega arith
pace_length count sum (Mean mean) a b =
    simp (length-append, field_length) (omega (arith, decimal_long count a, decimal_long sum b))

pub pace_idle : (count sum : ℕ) {pace : Pace} → pace ≡ Idle → length (pace_line count sum pace) ≤ 57
unfolding pace_line ascii
pace_idle count sum e = omega (arith, ap (λ (p : Pace). length (pace_line count sum p)) e)

-- ---- The listings

-- The listing of a run.
pub listing_length : (n : ℕ) (counts : Counts) (ws : List ℕ) (report : Report) → n < 2 ^ 64 → Small counts
    → length (pace_line report.count report.sum report.pace) ≤ 57 → ((i : ℕ) → get_or ws i 0 < 65536)
    → length (listing n counts (records_of ws) report) ≤ 19 * (length ws / 3) + 169
unfolding listing
listing_length n counts ws report a b pace small = simp length-append (omega (arith, ok_length n counts a b, lines_length ws small))

decimal_short : (n : ℕ) → n < 100 → length (decimal n) ≤ 2
unfolding decimal
decimal_short n l = digits_length 1 n n (omega arith)

-- The line of a refusal.
pub refused_length : (r : Refusal) → length (refused_line (number_of r)) ≤ 11
unfolding refused_line ascii
refused_length r =
    simp (length-append, field_length) (omega (arith, decimal_short (number_of r) (number_small r)))

-- ---- What a caller finds in the buffer

-- The front of the buffer is what was written.
pub wrote_front : {old new buffer : List ℕ} {count : ℕ} → Wrote old new buffer count → take count buffer ≡ take (length old) new
wrote_front {old} {new} {buffer} {count} w =
    ap (take count) w.holds ∙ take_at (take (length old) new) (drop count old) count (sym w.number)

-- What fits is written whole: the count is the length, and the front of the buffer is the list.
pub wrote_whole : {old new buffer : List ℕ} {count : ℕ} → Wrote old new buffer count → length new ≤ length old
    → (count ≡ length new) × (take count buffer ≡ new)
wrote_whole {old} {new} {buffer} {count} w fits =
    let all : take (length old) new ≡ new = take_all (length old) new fits in
    (w.number ∙ ap length all, wrote_front w ∙ all)

-- As many as were written stand in the buffer.
pub wrote_part : {old new buffer : List ℕ} {count : ℕ} → Wrote old new buffer count
    → (count ≤ length buffer) × (count ≡ length (take count buffer))
wrote_part {old} {new} {buffer} {count} w =
    let size : length buffer ≡ length (take (length old) new) + length (drop count old) =
    ap length w.holds ∙ length-append (take (length old) new) (drop count old) in
    (omega (arith, w.number), w.number ∙ ap length (sym (wrote_front w)))
