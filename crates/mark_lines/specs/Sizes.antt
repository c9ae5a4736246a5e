-- How long the lines can be: a buffer of 1,441,846 bytes holds those of 65,536 marks. A word has at most 5 digits, a tick 10, a number of
-- 64 bits 20, so the line of a mark has at most 22 bytes, and the last one 54.
use Rattle.std.specs.Prelude.{ℕ, suc, ◌+◌, ◌-◌, ◌*◌, ◌^◌, ◌≤◌, ◌<◌, ◌≡◌, length, get_or}
use Rattle.std.proofs.Math.Decide.{dec_lt}
use native.Mathlib.Omega.{arith}
use Rattle.std.proofs.Math.Logic.{dite}
use mathlib.Core.List.{List, [], ◌∷◌}
use Rattle.std.proofs.Math.ListN.{length-append, length-map}
use Rattle.grammar.specs.Marks.{Mark}
use Rattle.grammar.specs.Listing.{ascii, decimal}
use Rattle.grammar.specs.MarkLines.{added_count, mark_line, mark_lines, mark_listing, marks_line}
use Rattle.listing.specs.Sizes.{decimal_long, decimal_word, digits_length, field_length}
use Rattle.mark_lines.specs.Told.{mark_added, mark_kept, mark_of, marks_in}

decimal_tick : (n : ℕ) → n < 2 ^ 32 → length (decimal n) ≤ 10
unfolding decimal
decimal_tick n l = digits_length 9 n n (omega arith)

kept_length : (ticks : List ℕ) (p t : ℕ) → t < 65536 → get_or ticks p 0 < 2 ^ 32 → length (mark_line ticks (Mark.kept p t)) ≤ 22
unfolding mark_line ascii
kept_length ticks p t a b = simp (length-append, field_length) (omega (arith, decimal_word t a, decimal_tick (get_or ticks p 0) b))

added_length : (ticks : List ℕ) (t : ℕ) → t < 65536 → length (mark_line ticks (Mark.added t)) ≤ 22
unfolding mark_line ascii
added_length ticks t a = simp (length-append, field_length) (omega (arith, decimal_word t a))

few_added : (xs : List Mark) → added_count xs ≤ length xs
unfolding added_count
few_added [] = omega arith
few_added (Mark.kept p t ∷ xs) = omega (arith, few_added xs)
few_added (Mark.added t ∷ xs) = omega (arith, few_added xs)

last_length : (n k : ℕ) → n < 2 ^ 64 → k < 2 ^ 64 → length (marks_line n k) ≤ 54
unfolding marks_line ascii
last_length n k a b = simp (length-append, field_length) (omega (arith, decimal_long n a, decimal_long k b))

module _ (log ticks : List ℕ) (tokens : (i : ℕ) → get_or log i 0 < 65536) (times : (i : ℕ) → get_or ticks i 0 < 2 ^ 32) where
  line_length : (v : ℕ) → v < 65536 → length (mark_line ticks (mark_of log v)) ≤ 22
  line_length v l =
      dite (dec_lt v 4096)
      (λ less. rw (mark_kept log v less) (kept_length ticks v (get_or log v 0) (tokens v) (times v)))
      (λ more.
      let enough : 4096 ≤ v = omega arith in
      rw (mark_added log v enough) (added_length ticks (v - 4096) (omega arith)))

  lines_length : (ws : List ℕ) → ((i : ℕ) → get_or ws i 0 < 65536) → length (mark_lines ticks (marks_in log ws)) ≤ 22 * length ws
  unfolding mark_lines
  lines_length [] small = omega arith
  lines_length (v ∷ ws) small =
      let line = line_length v (small 0) in
      let rest = lines_length ws (λ i. small (suc i)) in
      simp length-append (omega arith)

  -- All of them.
  pub listing_length : (ws : List ℕ) → ((i : ℕ) → get_or ws i 0 < 65536) → length ws < 2 ^ 64
      → length (mark_listing ticks (marks_in log ws)) ≤ 22 * length ws + 54
  unfolding mark_listing
  listing_length ws small l =
      let count = length-map ws (mark_of log) in
      let few = few_added (marks_in log ws) in
      let last = last_length (length (marks_in log ws)) (added_count (marks_in log ws)) (omega arith) (omega arith) in
      simp length-append (omega (arith, lines_length ws small))

-- Those of at most 65,536 words fit.
pub lines_fit : {k m part size : ℕ} → size ≤ 22 * part + 54 → part ≡ k → k ≤ 65536 → 1441846 ≤ m → size ≤ m
lines_fit s a b c = omega arith
