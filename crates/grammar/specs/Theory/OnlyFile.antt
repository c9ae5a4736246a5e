-- A file that the reader accepts is the only one for its words (request (i)).
--     only_file         two files without refusals 1 to 3 that hold the same words are the same bytes
--     accepted          what the reader accepts is such a file, and its words are the front of the buffer
-- Every byte is fixed: block number and use count by the place and the number of words, words by the words, the check by
-- the bytes in front of it.
use Rattle.std.specs.Prelude.{ℕ, zero, suc, ◌+◌, ◌*◌, ◌-◌, ◌/◌, ◌%◌, ◌≤◌, ◌<◌, ◌≡◌, refl, List, ◌++◌, length, get_or, take}
use Rattle.std.proofs.Common.{eq-or-lt_of_le, not-suc-le-zero, le_of_suc-le-suc, add-one, arith, sym, ap, ap₂, subst, ◌∙◌, ⊎_elim, ext_get_or, get_or-append-add}
use Rattle.std.proofs.Math.ListN.{get_or-append}
use Rattle.base.specs.Telling.{below_or_not}
use Rattle.grammar.specs.File.{
  pair_at,
  block_count,
  block_word,
  stored_check,
  words_used,
  words_of_blocks,
  file_words,
  UseCount,
  EachBlock,
  BlockFields,
  FileRead,
}
use Rattle.grammar.specs.Refusals.{given}
use Rattle.grammar.specs.Theory.Fills.{fills_content, front_of}
use Rattle.grammar.specs.Theory.Files.{
  FileRight,
  all_right,
  block_words,
  blocks_more,
  file_length,
  full_length,
  same_sum,
  use_full,
  use_most,
  use_some,
  word_at,
}

-- Each number is below a bound: 256 in a slice of bytes, 65,536 in one of words.
abbrev pub Below : ℕ → List ℕ → Type 0
Below bound ns = (i : ℕ) → get_or ns i 0 < bound

-- ---- Where each word of a file stands

-- Word i of block k stands in the list, behind the words of k full blocks.
abbrev Stands : List ℕ → List ℕ → ℕ → ℕ → Type 0
Stands bytes ws k i = get_or ws (253 * k + i) 0 ≡ block_word bytes k i

module _ (bytes : List ℕ) (right : EachBlock bytes (BlockFields bytes)) where
  abbrev front : ℕ → List ℕ
  front m = words_of_blocks bytes m

  in_block : (m i : ℕ) → m < block_count bytes → i < words_used bytes m → Stands bytes (front m ++ block_words bytes m) m i
  in_block m i l used =
      let size : length (front m) ≡ 253 * m = full_length bytes right m l in
      let place : 253 * m + i ≡ length (front m) + i = omega arith in
      ap (λ (n : ℕ). get_or (front m ++ block_words bytes m) n 0) place
      ∙ (get_or-append-add (front m) (block_words bytes m) i 0 ∙ word_at bytes (512 * m + 4) (words_used bytes m) i used)

  in_front : (m k i : ℕ) → m < block_count bytes → k < m → i < words_used bytes k → Stands bytes (front m) k i
      → Stands bytes (front m ++ block_words bytes m) k i
  in_front m k i l before used stands =
      let size : length (front m) ≡ 253 * m = full_length bytes right m l in
      let most : words_used bytes k ≤ 253 = use_most (right k (omega arith)).use_count in
      get_or-append (front m) (block_words bytes m) 0 (253 * k + i) (omega arith) ∙ stands

  in_blocks : (m k i : ℕ) → m ≤ block_count bytes → k < m → i < words_used bytes k → Stands bytes (front m) k i
  in_blocks zero k i most l used = absurd (not-suc-le-zero l)
  in_blocks (suc m) k i most l used =
      let more : front (suc m) ≡ front m ++ block_words bytes m = ap (words_of_blocks bytes) (sym (add-one m)) ∙ blocks_more bytes m in
      subst (λ (ws : List ℕ). Stands bytes ws k i) (sym more)
      (⊎_elim here (λ before. in_front m k i most before used (in_blocks m k i (omega arith) before used))
      (eq-or-lt_of_le (le_of_suc-le-suc l)))
    where
      here : k ≡ m → Stands bytes (front m ++ block_words bytes m) k i
      here e =
          let within : i < words_used bytes m = subst (λ (n : ℕ). i < words_used bytes n) e used in
          subst (λ (n : ℕ). Stands bytes (front m ++ block_words bytes m) n i) (sym e) (in_block m i most within)

-- ---- The same words, the same bytes

module _ (a b : List ℕ) (bytes-a : Below 256 a) (bytes-b : Below 256 b) where
  abbrev SameByte : ℕ → Type 0
  SameByte p = get_or a p 0 ≡ get_or b p 0

  low : (p : ℕ) → pair_at a p ≡ pair_at b p → SameByte p
  low p e = omega (arith, bytes-a p, bytes-b p)

  high : (p : ℕ) → pair_at a p ≡ pair_at b p → SameByte (p + 1)
  high p e = omega (arith, bytes-a p, bytes-b p)

  module _ (right-a : FileRight a) (right-b : FileRight b) (same : file_words a ≡ file_words b) where
    counts : (block_count a ≡ block_count b) × (words_used a (block_count a - 1) ≡ words_used b (block_count b - 1))
    counts =
        let m : ℕ = block_count a - 1 in
        let n : ℕ = block_count b - 1 in
        let size-a = right-a.size in
        let size-b = right-b.size in
        let use-a : UseCount (block_count a) m (words_used a m) = (right-a.blocks m (omega arith)).use_count in
        let use-b : UseCount (block_count b) n (words_used b n) = (right-b.blocks n (omega arith)).use_count in
        let words : length (file_words a) ≡ length (file_words b) = ap length same in
        let all-a : length (file_words a) ≡ 253 * m + words_used a m = file_length a right-a.blocks m (omega arith) in
        let all-b : length (file_words b) ≡ 253 * n + words_used b n = file_length b right-b.blocks n (omega arith) in
        omega (arith, use_some use-a, use_most use-a, use_some use-b, use_most use-b)

    same_used : (k : ℕ) → k < block_count a → words_used a k ≡ words_used b k
    same_used k l =
        ⊎_elim at_last in_front (eq-or-lt_of_le l)
      where
        at_last : suc k ≡ block_count a → words_used a k ≡ words_used b k
        at_last e =
            let many : block_count a ≡ block_count b = counts.0 in
            ap (words_used a) (omega arith) ∙ (counts.1 ∙ ap (words_used b) (omega arith))

        in_front : suc k < block_count a → words_used a k ≡ words_used b k
        in_front more =
            let many : block_count a ≡ block_count b = counts.0 in
            use_full (right-a.blocks k l).use_count (omega arith)
            ∙ sym (use_full (right-b.blocks k (omega arith)).use_count (omega arith))

    same_word : (k i : ℕ) → k < block_count a → i < 253 → block_word a k i ≡ block_word b k i
    same_word k i l within = ⊎_elim used unused (below_or_not i (words_used a k))
      where
        used : i < words_used a k → block_word a k i ≡ block_word b k i
        used in-a =
            let many : block_count a ≡ block_count b = counts.0 in
            let in_b : i < words_used b k = subst (λ (n : ℕ). i < n) (same_used k l) in-a in
            sym (in_blocks a right-a.blocks (block_count a) k i (omega arith) l in-a)
            ∙ (ap (λ (ws : List ℕ). get_or ws (253 * k + i) 0) same
            ∙ in_blocks b right-b.blocks (block_count b) k i (omega arith) (omega arith) in_b)

        unused : words_used a k ≤ i → block_word a k i ≡ block_word b k i
        unused past-a =
            let many : block_count a ≡ block_count b = counts.0 in
            let past-b : words_used b k ≤ i = subst (λ (n : ℕ). n ≤ i) (same_used k l) past-a in
            (right-a.blocks k l).unused i past-a within ∙ sym ((right-b.blocks k (omega arith)).unused i past-b within)

    -- Bytes 0 to 509 of block k, two by two.
    same_pair : (k j : ℕ) → k < block_count a → j < 255 → pair_at a (512 * k + 2 * j) ≡ pair_at b (512 * k + 2 * j)
    same_pair k zero l within =
        let many : block_count a ≡ block_count b = counts.0 in
        let place : 512 * k + 2 * 0 ≡ 512 * k = omega arith in
        ap (pair_at a) place
        ∙ ((right-a.blocks k l).number ∙ (sym (right-b.blocks k (omega arith)).number ∙ ap (pair_at b) (sym place)))
    same_pair k (suc zero) l within = same_used k l
    same_pair k (suc (suc i)) l within =
        let place : 512 * k + 2 * suc (suc i) ≡ 512 * k + 4 + 2 * i = omega arith in
        ap (pair_at a) place ∙ (same_word k i l (omega arith) ∙ ap (pair_at b) (sym place))

    -- A byte of a pair is its low one or its high one.
    same_half : (p r : ℕ) → pair_at a (p + 2 * (r / 2)) ≡ pair_at b (p + 2 * (r / 2)) → SameByte (p + r)
    same_half p r e = ⊎_elim even odd (below_or_not (r % 2) 1)
      where
        even : r % 2 < 1 → SameByte (p + r)
        even rest =
            let place : p + 2 * (r / 2) ≡ p + r = omega arith in
            subst SameByte place (low (p + 2 * (r / 2)) e)

        odd : 1 ≤ r % 2 → SameByte (p + r)
        odd rest =
            let place : p + 2 * (r / 2) + 1 ≡ p + r = omega arith in
            subst SameByte place (high (p + 2 * (r / 2)) e)

    same_front : (k r : ℕ) → k < block_count a → r < 510 → SameByte (512 * k + r)
    same_front k r l within = same_half (512 * k) r (same_pair k (r / 2) l (omega arith))

    same_check : (k : ℕ) → k < block_count a → stored_check a k ≡ stored_check b k
    same_check k l =
        let many : block_count a ≡ block_count b = counts.0 in
        right-a.checks k l
        ∙ (ap (λ (s : ℕ). s % 65521) (same_sum a b (512 * k) (512 * k) 510 (λ r within. same_front k r l within))
        ∙ sym (right-b.checks k (omega arith)))

    same_byte : (k r : ℕ) → k < block_count a → r < 512 → SameByte (512 * k + r)
    same_byte k r l within = ⊎_elim (same_front k r l) behind (below_or_not r 510)
      where
        behind : 510 ≤ r → SameByte (512 * k + r)
        behind past =
            let place : 512 * k + 2 * (r / 2) ≡ 512 * k + 510 = omega arith in
            same_half (512 * k) r (ap (pair_at a) place ∙ (same_check k l ∙ ap (pair_at b) (sym place)))

    pub only_file : a ≡ b
    only_file =
        let many : block_count a ≡ block_count b = counts.0 in
        let size-a = right-a.size in
        let size-b = right-b.size in
        ext_get_or 0 a b (omega arith)
        (λ p l.
        let place : 512 * (p / 512) + p % 512 ≡ p = omega arith in
        subst SameByte place (same_byte (p / 512) (p % 512) (omega arith) (omega arith)))

-- ---- What the reader accepts

-- What an accepted file holds: it is right, and its words are the front of the buffer.
pub record Accepted (bytes : List ℕ) (n : ℕ) (buffer : List ℕ) : Type 0 where
  pub right : FileRight bytes
  pub words : take n buffer ≡ file_words bytes

pub accepted : {bytes : List ℕ} {room n : ℕ} {buffer : List ℕ} → FileRead bytes room (given n) buffer → Accepted bytes n buffer
accepted {bytes} {room} p =
    let content = fills_content p.read refl in
    record {
      right = all_right bytes room content.met;
      words = ap₂ take content.count content.holds ∙ front_of room (file_words bytes);
    }
