-- Request (i): the file of words is a right file and holds the words, so reading it gives them back; and a right file is the file of its
-- words.
--     file_right, file_holds     the file of 1 to 2,783 words, and what it holds
--     is_blocks                  a right file is the file of its words
use Prim.Native.Nat.{ℕ, zero, suc, ◌+◌, ◌*◌, ◌%◌, ◌-◌, ◌≤◌, ◌<◌}
use Rattle.std.proofs.Common.{add-one, ap₂, subst, subst₂, ◌∙◌, ⊎_elim, ext_get_or, take-add}
use native.Mathlib.Omega.{arith}
use Rattle.std.specs.Prelude.{◌≡◌, List, [], ◌∷◌, ◌++◌, get_or, take}
use Rattle.std.proofs.Math.Path.{sym, ap}
use Rattle.std.proofs.Math.ListN.{length, get_or-append, get_or-eq_default}
use Rattle.std.proofs.Math.Seq.{take_all}
use Rattle.std.proofs.lemmas.List.{get_or_at}
use Rattle.base.specs.Telling.{below_or_not}
use Rattle.grammar.specs.File.{
  pair_at,
  block_check,
  stored_check,
  block_count,
  block_number,
  block_word,
  words_used,
  words_from,
  words_of_blocks,
  file_words,
  UseCount,
  full,
  last,
  BlockFields,
}
use Rattle.grammar.specs.Writing.{bytes_of, held_by, fields_of, first_blocks, blocks_for, blocks_of, WordCount}
use Rattle.grammar.specs.Theory.Files.{FileRight, block_words, words_length, word_at, same_sum, blocks_none, blocks_more}
use Rattle.grammar.specs.Theory.Files.{file_length, use_some, use_most}
use Rattle.grammar.specs.Theory.OnlyFile.{Below, only_file}
use Rattle.grammar.specs.Theory.Blocks.{
  bytes_length,
  filled_at,
  held_full,
  held_last,
  held_most,
  fields_length,
  check_of,
  block_splits,
  file_size,
  in_file,
  number_at,
  blocks_below,
  below_append,
}

-- ---- The numbers of block k where the file has them

module _ (ws : List ℕ) (count : WordCount (length ws)) where
  abbrev m : ℕ
  m = blocks_for (length ws)

  abbrev file : List ℕ
  file = first_blocks ws m

  field_at : (k j : ℕ) → k < m → j < 255 → pair_at file (512 * k + 2 * j) ≡ get_or (fields_of ws k) j 0
  field_at k j l within =
      number_at ws m k j l (omega arith) ∙ get_or-append (fields_of ws k) (check_of ws k ∷ []) 0 j (omega (arith, fields_length ws k))

  number_is : (k : ℕ) → k < m → block_number file k ≡ k
  unfolding fields_of
  number_is k l = let place : 512 * k ≡ 512 * k + 2 * 0 = omega arith in ap (pair_at file) place ∙ field_at k 0 l (omega arith)

  used_is : (k : ℕ) → k < m → words_used file k ≡ length (held_by ws k)
  unfolding fields_of
  used_is k l = field_at k 1 l (omega arith)

  word_is : (k i : ℕ) → k < m → i < 253 → block_word file k i ≡ get_or (held_by ws k) i 0
  unfolding fields_of
  word_is k i l within =
      let place : 512 * k + 4 + 2 * i ≡ 512 * k + 2 * suc (suc i) = omega arith in
      ap (pair_at file) place ∙ (field_at k (suc (suc i)) l (omega arith) ∙ filled_at 253 (held_by ws k) i)

  check_is : (k : ℕ) → k < m → stored_check file k ≡ check_of ws k
  check_is k l =
      number_at ws m k 255 l (omega arith) ∙ get_or_at (fields_of ws k) (check_of ws k) [] 0 255 (fields_length ws k)

  -- The file's bytes in front of a check are those that it is the check of.
  sum_is : (k : ℕ) → k < m → block_check file k ≡ check_of ws k
  sum_is k l =
      ap (λ (s : ℕ). s % 65521)
      (same_sum file (bytes_of (fields_of ws k)) (512 * k) 0 510
      (λ i within.
      let here : i ≡ 0 + i = omega arith in
      in_file ws m k i l (omega arith)
      ∙ (ap (λ (b : List ℕ). get_or b i 0) (block_splits ws k)
      ∙ (get_or-append (bytes_of (fields_of ws k)) (bytes_of (check_of ws k ∷ [])) 0 i
      (omega (arith, bytes_length (fields_of ws k), fields_length ws k))
      ∙ ap (λ (n : ℕ). get_or (bytes_of (fields_of ws k)) n 0) here))))

  -- ---- It is a right file

  blocks_are : block_count file ≡ m
  unfolding blocks_of
  blocks_are = omega (arith, file_size ws)

  in_count : (k : ℕ) → k < block_count file → k < m
  in_count k l = omega (arith, blocks_are)

  use_is : (k : ℕ) → k < m → UseCount m k (length (held_by ws k))
  use_is k l = ⊎_elim inside end (below_or_not (k + 1) m)
    where
      inside : k + 1 < m → UseCount m k (length (held_by ws k))
      inside more = full more (held_full ws (253 * k) (omega arith))

      end : m ≤ k + 1 → UseCount m k (length (held_by ws k))
      end most =
          let held = held_last ws (253 * k) (omega arith) in
          last (omega arith) (omega arith) (omega arith)

  fields_are : (k : ℕ) → k < m → BlockFields file k
  fields_are k l =
      record {
        number = number_is k l;
        use_count = subst₂ (λ (c u : ℕ). UseCount c k u) (sym blocks_are) (sym (used_is k l)) (use_is k l);
        unused = λ i past within.
            word_is k i l within
            ∙ get_or-eq_default (held_by ws k) 0 (subst (λ (u : ℕ). u ≤ i) (used_is k l) past);
      }

  pub file_right : FileRight (blocks_of ws)
  unfolding blocks_of
  file_right =
      record {
        size = let some = count.some in let most = count.most in
            let long : length file ≡ 512 * m = file_size ws in
            record { some = omega arith; whole = omega arith; limit = omega arith };
        checks = λ k l. let within = in_count k l in check_is k within ∙ sym (sum_is k within);
        blocks = λ k l. fields_are k (in_count k l);
      }

  -- ---- It holds the words

  -- The used words of block k are those that it was to hold.
  block_holds : (k : ℕ) → k < m → block_words file k ≡ held_by ws k
  block_holds k l =
      let size : length (block_words file k) ≡ length (held_by ws k) = words_length file (512 * k + 4) (words_used file k) ∙ used_is k l in
      ext_get_or 0 (block_words file k) (held_by ws k) size
      (λ i within.
      let used : i < words_used file k = omega (arith, words_length file (512 * k + 4) (words_used file k)) in
      word_at file (512 * k + 4) (words_used file k) i used ∙ word_is k i l (omega (arith, used_is k l, held_most ws (253 * k))))

  blocks_hold : (k : ℕ) → k ≤ m → words_of_blocks file k ≡ take (253 * k) ws
  blocks_hold zero l = blocks_none file
  blocks_hold (suc k) l =
      let place : 253 * k + 253 ≡ 253 * suc k = omega arith in
      ap (words_of_blocks file) (sym (add-one k))
      ∙ (blocks_more file k
      ∙ (ap₂ ◌++◌ (blocks_hold k (omega arith)) (block_holds k l)
      ∙ (sym (take-add (253 * k) 253 ws) ∙ ap (λ (n : ℕ). take n ws) place)))

  pub file_holds : file_words (blocks_of ws) ≡ ws
  unfolding blocks_of
  file_holds = ap (words_of_blocks file) blocks_are ∙ (blocks_hold m (omega arith) ∙ take_all (253 * m) ws (omega arith))

-- ---- A right file is the file of its words

words_below : (bytes : List ℕ) → Below 256 bytes → (at n : ℕ) → Below 65536 (words_from bytes at n)
unfolding words_from
words_below bytes small at zero i = omega arith
words_below bytes small at (suc n) zero = omega (arith, small at, small (at + 1))
words_below bytes small at (suc n) (suc i) = words_below bytes small (at + 2) n i

all_below : (bytes : List ℕ) → Below 256 bytes → (k : ℕ) → Below 65536 (words_of_blocks bytes k)
unfolding words_of_blocks
all_below bytes small zero = λ i. omega arith
all_below bytes small (suc k) =
    below_append 65536 (words_of_blocks bytes k) (block_words bytes k) (all_below bytes small k)
    (words_below bytes small (512 * k + 4) (words_used bytes k))

right_count : (bytes : List ℕ) → FileRight bytes → WordCount (length (file_words bytes))
right_count bytes right =
    let size = right.size in
    let some = size.some in
    let whole = size.whole in
    let limit = size.limit in
    let k : ℕ = block_count bytes - 1 in
    let last-use : UseCount (block_count bytes) k (words_used bytes k) = (right.blocks k (omega arith)).use_count in
    let all : length (file_words bytes) ≡ 253 * k + words_used bytes k = file_length bytes right.blocks k (omega arith) in
    record { some = omega (arith, use_some last-use); most = omega (arith, use_most last-use) }

pub is_blocks : (bytes : List ℕ) → Below 256 bytes → FileRight bytes → bytes ≡ blocks_of (file_words bytes)
is_blocks bytes small right =
    let ws : List ℕ = file_words bytes in
    let count = right_count bytes right in
    only_file bytes (blocks_of ws) small (blocks_below ws (all_below bytes small (block_count bytes)) count.most) right
    (file_right ws count) (sym (file_holds ws count))
