-- What the byte buffer holds while numbers, words and blocks are written into it.
--     pair_put                               a number is its two bytes
--     put_behind                             numbers behind numbers
--     words_begin, words_go, words_end       the words of a block, one by one
--     block_put                              a block: number, use count, words, and the check of these
--     blocks_begin, blocks_end_lem               the blocks, one by one
use Prim.Native.Nat.{ℕ, ◌+◌, ◌*◌, ◌/◌, ◌%◌, ◌-◌, ◌≤◌, ◌<◌, min}
use native.Mathlib.Nat.{sub-zero}
use native.Mathlib.Numerals.{add-one}
use native.Mathlib.Omega.{arith}
use mathlib.Core.Path.{◌≡◌, refl, sym, ap, ap₂, ◌∙◌}
use mathlib.Core.List.{List, [], ◌∷◌, ◌++◌, append_assoc}
use mathlib.Core.Logic.{⊎_elim}
use lib.ListN.{length, get_or, take, drop, set, replicate, length-append, length-take}
use lib.Seq.{length-take-le, take-suc, take_all, get_or-append-add}
use Rattle.base.specs.Telling.{below_or_not}
use Rattle.base.specs.Written.{written, written_none, written_more, written_then}
use Rattle.grammar.specs.Buffers.{filled, cleared}
use Rattle.grammar.specs.File.{weighted_sum}
use Rattle.grammar.specs.Writing.{bytes_of, held_by, fields_of, first_blocks, blocks_for, blocks_of}
use Rattle.grammar.specs.Theory.Files.{same_sum, sum_zeros}
use Rattle.grammar.specs.Theory.Blocks.{
  bytes_length,
  bytes_append,
  filled_at,
  filled_length,
  filled_more,
  filled_zeros,
  held_most,
  fields_length,
  fields_used,
  fields_behind,
  check_of,
  block_splits,
  blocks_length,
}

-- ---- Numbers

pub pair_put : (old : List ℕ) (at n : ℕ) {low high : ℕ} → at + 1 < length old → low ≡ n % 256 → high ≡ n / 256
    → set (set old at low) (at + 1) high ≡ written old at (bytes_of (n ∷ []))
unfolding bytes_of
pair_put old at n {low} {high} l e f =
    let here : at ≡ at + 0 = omega arith in
    ap₂ (λ (a b : ℕ). set (set old at a) (at + 1) b) e f
    ∙ (ap (λ (b : List ℕ). set (set b at (n % 256)) (at + 1) (n / 256)) (sym (written_none old at))
    ∙ (ap (λ (p : ℕ). set (set (written old at []) p (n % 256)) (at + 1) (n / 256)) here
    ∙ (ap (λ (b : List ℕ). set b (at + 1) (n / 256)) (written_more old at [] (n % 256) (omega arith))
    ∙ written_more old at (n % 256 ∷ []) (n / 256) (omega arith))))

-- Numbers written behind numbers.
pub put_behind : (old : List ℕ) {now then : List ℕ} (at place : ℕ) (ns ms : List ℕ) → at ≤ length old → now ≡ written old at (bytes_of ns)
    → place ≡ at + 2 * length ns → then ≡ written now place (bytes_of ms) → then ≡ written old at (bytes_of (ns ++ ms))
put_behind old at place ns ms l first here second =
    let size : place ≡ at + length (bytes_of ns) = omega (arith, bytes_length ns) in
    second
    ∙ (ap₂ (λ (b : List ℕ) (p : ℕ). written b p (bytes_of ms)) first size
    ∙ (written_then old at (bytes_of ns) (bytes_of ms) l ∙ ap (written old at) (sym (bytes_append ns ms))))

-- ---- The words of a block

-- The first i words stand in the buffer, from the byte `at` on.
pub record WordsPut (ws old bytes : List ℕ) (at i : ℕ) : Type 0 where
  pub same : length bytes ≡ length old
  pub holds : bytes ≡ written old at (bytes_of (take i ws))

pub words_begin : (ws old : List ℕ) (at : ℕ) → WordsPut ws old old at 0
unfolding bytes_of
words_begin ws old at = record { same = refl; holds = sym (written_none old at) }

pub words_go : {ws old bytes then : List ℕ} {at i : ℕ} → WordsPut ws old bytes at i → i < length ws → at ≤ length old
    → length then ≡ length bytes → then ≡ written bytes (at + 2 * i) (bytes_of (get_or ws i 0 ∷ []))
    → WordsPut ws old then at (i + 1)
words_go {ws} {old} {bytes} {then} {at} {i} r l room same put =
    let word : ℕ = get_or ws i 0 in
    let here : at + 2 * i ≡ at + 2 * length (take i ws) = omega (arith, length-take-le i ws (omega arith)) in
    let more : take i ws ++ (word ∷ []) ≡ take (i + 1) ws = sym (take-suc ws i 0 l) ∙ ap (λ (n : ℕ). take n ws) (sym (add-one i)) in
    record {
      same = same ∙ r.same;
      holds = put_behind old at (at + 2 * i) (take i ws) (word ∷ []) room r.holds here put
          ∙ ap (λ (ns : List ℕ). written old at (bytes_of ns)) more;
    }

pub words_end : {ws old bytes : List ℕ} {at i : ℕ} → WordsPut ws old bytes at i → length ws ≤ i → bytes ≡ written old at (bytes_of ws)
words_end {ws} {old} {at = at} {i = i} r end = r.holds ∙ ap (λ (ns : List ℕ). written old at (bytes_of ns)) (take_all i ws end)

-- ---- A block

-- As many words as the block holds.
module _ (ws : List ℕ) (k : ℕ) {used : ℕ} (count : used ≡ min (length (drop (253 * k) ws)) 253) where
  used_is : used ≡ length (held_by ws k)
  used_is = omega (arith, length-take 253 (drop (253 * k) ws))

  used_held : take used (drop (253 * k) ws) ≡ held_by ws k
  used_held =
      let all : List ℕ = drop (253 * k) ws in
      ⊎_elim (λ less. take_all used all (omega arith) ∙ sym (take_all 253 all (omega arith)))
      (λ more. let full : used ≡ 253 = omega arith in ap (λ (n : ℕ). take n all) full)
      (below_or_not (length all) 253)

module _ (ws : List ℕ) (k room : ℕ) (fits : 512 * k + 512 ≤ room) where
  abbrev front : List ℕ
  front = first_blocks ws k ++ bytes_of (fields_of ws k)

  front_length : length front ≡ 512 * k + 510
  front_length =
      length-append (first_blocks ws k) (bytes_of (fields_of ws k))
      ∙ ap₂ ◌+◌ (blocks_length ws k) (bytes_length (fields_of ws k) ∙ ap (λ (n : ℕ). 2 * n) (fields_length ws k))

  -- Block number, use count and words over zeros are all the numbers in front of the check.
  fields_put : {old bytes : List ℕ} → old ≡ filled room (first_blocks ws k)
      → bytes ≡ written old (512 * k) (bytes_of (k ∷ length (held_by ws k) ∷ held_by ws k)) → bytes ≡ filled room front
  fields_put blank put =
      let held : List ℕ = held_by ws k in
      let ns : List ℕ = k ∷ length held ∷ held in
      let first : List ℕ = first_blocks ws k in
      let rest : ℕ = 2 * (253 - length held) in
      let size : length (first ++ bytes_of ns) + rest ≤ room =
      simp length-append (omega (arith, blocks_length ws k, bytes_length ns, held_most ws (253 * k))) in
      put
      ∙ (ap₂ (λ (b : List ℕ) (p : ℕ). written b p (bytes_of ns)) blank (sym (blocks_length ws k))
      ∙ (filled_more room first (bytes_of ns)
      ∙ (sym (filled_zeros room (first ++ bytes_of ns) rest size)
      ∙ ap (filled room) (append_assoc first (bytes_of ns) (replicate rest 0) ∙ ap (λ (t : List ℕ). first ++ t) (sym (fields_used ws k))))))

  -- The check that is found in the buffer is the block's.
  check_found : {bytes : List ℕ} {size : ℕ} → bytes ≡ filled room front → size ≡ 4 + 2 * length (held_by ws k)
      → weighted_sum bytes (512 * k) size % 65521 ≡ check_of ws k
  check_found {bytes} {size} holds e =
      let fields : List ℕ = bytes_of (fields_of ws k) in
      ap (λ (s : ℕ). s % 65521)
      (same_sum bytes fields (512 * k) 0 size
      (λ i within.
      let here : 512 * k + i ≡ length (first_blocks ws k) + i = omega (arith, blocks_length ws k) in
      let there : i ≡ 0 + i = omega arith in
      ap (λ (b : List ℕ). get_or b (512 * k + i) 0) holds
      ∙ (filled_at room front (512 * k + i)
      ∙ (ap (λ (n : ℕ). get_or front n 0) here
      ∙ (get_or-append-add (first_blocks ws k) fields i 0 ∙ ap (λ (n : ℕ). get_or fields n 0) there))))
      ∙ sym (sum_zeros fields 0 size 510 (omega (arith, held_most ws (253 * k)))
      (λ i past. let here : 0 + i ≡ i = omega arith in ap (λ (n : ℕ). get_or fields n 0) here ∙ fields_behind ws k i (omega arith))))

  next_block : front ++ bytes_of (check_of ws k ∷ []) ≡ first_blocks ws (k + 1)
  unfolding first_blocks
  next_block =
      append_assoc (first_blocks ws k) (bytes_of (fields_of ws k)) (bytes_of (check_of ws k ∷ []))
      ∙ (ap (λ (b : List ℕ). first_blocks ws k ++ b) (sym (block_splits ws k)) ∙ ap (first_blocks ws) (sym (add-one k)))

  pub block_put : {old one two three four : List ℕ} {used check : ℕ} → old ≡ filled room (first_blocks ws k)
      → used ≡ min (length (drop (253 * k) ws)) 253 → one ≡ written old (512 * k) (bytes_of (k ∷ []))
      → two ≡ written one (512 * k + 2) (bytes_of (used ∷ []))
      → three ≡ written two (512 * k + 4) (bytes_of (take used (drop (253 * k) ws)))
      → check ≡ weighted_sum three (512 * k) (4 + 2 * used) % 65521 → four ≡ written three (512 * k + 510) (bytes_of (check ∷ []))
      → four ≡ filled room (first_blocks ws (k + 1))
  block_put {old} {one} {two} {three} {four} {used} {check} blank count number header words found last =
      let held : List ℕ = held_by ws k in
      let is : used ≡ length held = used_is ws k count in
      let long : length old ≡ room =
      ap length blank ∙ filled_length room (first_blocks ws k) (omega (arith, blocks_length ws k)) in
      let low : 512 * k ≤ length old = omega arith in
      let counted = put_behind old (512 * k) (512 * k + 2) (k ∷ []) (used ∷ []) low number (omega arith) header in
      let worded = put_behind old (512 * k) (512 * k + 4) (k ∷ used ∷ []) (take used (drop (253 * k) ws)) low counted (omega arith) words in
      let fielded : three ≡ filled room front =
      fields_put blank
      (worded ∙ ap₂ (λ (u : ℕ) (h : List ℕ). written old (512 * k) (bytes_of (k ∷ u ∷ h))) is (used_held ws k count)) in
      let right : check ≡ check_of ws k = found ∙ check_found fielded (ap (λ (n : ℕ). 4 + 2 * n) is) in
      last
      ∙ (ap₂ (λ (b : List ℕ) (p : ℕ). written b p (bytes_of (check ∷ []))) fielded (sym front_length)
      ∙ (filled_more room front (bytes_of (check ∷ []))
      ∙ ap (filled room) (ap (λ (c : ℕ). front ++ bytes_of (c ∷ [])) right ∙ next_block)))

-- ---- The blocks

-- The first k blocks stand in front, and zeros behind them.
pub record BlocksPut (ws : List ℕ) (room : ℕ) (bytes : List ℕ) (k : ℕ) : Type 0 where
  pub same : length bytes ≡ room
  pub holds : bytes ≡ filled room (first_blocks ws k)

pub blocks_begin : (ws old : List ℕ) → old ≡ cleared (length old) → BlocksPut ws (length old) old 0
unfolding first_blocks filled cleared
blocks_begin ws old blank = record { same = refl; holds = blank ∙ ap (λ (n : ℕ). replicate n 0) (sym (sub-zero (length old))) }

pub blocks_end_lem : {ws bytes : List ℕ} {room k : ℕ} → BlocksPut ws room bytes k → k ≡ blocks_for (length ws)
    → bytes ≡ filled room (blocks_of ws)
unfolding blocks_of
blocks_end_lem {ws} {room = room} r end = r.holds ∙ ap (λ (n : ℕ). filled room (first_blocks ws n)) end

-- As a block's write asks for it, and leaves it.
pub blocks_lent : {ws bytes : List ℕ} {room k : ℕ} → BlocksPut ws room bytes k → bytes ≡ filled (length bytes) (first_blocks ws k)
blocks_lent {ws} {k = k} r = r.holds ∙ ap (λ (n : ℕ). filled n (first_blocks ws k)) (sym r.same)

pub blocks_go : {ws bytes then : List ℕ} {room k : ℕ} → BlocksPut ws room bytes k → length then ≡ length bytes
    → then ≡ filled (length bytes) (first_blocks ws (k + 1)) → BlocksPut ws room then (k + 1)
blocks_go {ws} {k = k} r same put =
    record { same = same ∙ r.same; holds = put ∙ ap (λ (n : ℕ). filled n (first_blocks ws (k + 1))) r.same }
