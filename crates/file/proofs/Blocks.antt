-- A block's bytes say of it what the file's bytes say of block k.
--     pair_block, check_block, fields_block     its numbers, its check and its fields
--     block_below, words_block                  it is one of the file's, and its words
use Prim.Native.Nat.{ℕ, zero, suc, ◌+◌, ◌*◌, ◌%◌, ◌<◌, ◌≤◌}
use native.Mathlib.Omega.{arith}
use mathlib.Core.Bool.{Bool}
use mathlib.Core.Path.{◌≡◌, refl, sym, ap, ap₂, subst, ◌∙◌}
use mathlib.Core.List.{List, ◌∷◌}
use lib.ListN.{length, get_or, take, drop}
use lib.Seq.{get_or-take, get_or-drop}
use Rattle.base.specs.Telling.{Tells, tells_as}
use Rattle.grammar.specs.File.{BlockFields, pair_at, block_check, words_from, words_used, block_count}
use Rattle.grammar.specs.Theory.Files.{CheckRight, block_words, same_sum, use_same}
use Rattle.file.specs.Answer.{FieldsRight}

-- The block of the file's bytes.
pub record BlockAt (bytes : List ℕ) (k : ℕ) (block : List ℕ) : Type 0 where
  pub is : block ≡ take 512 (drop (k * 512) bytes)
  pub size : length block ≡ 512
  pub within : k * 512 + 512 ≤ length bytes

module _ {bytes : List ℕ} {k : ℕ} {block : List ℕ} (b : BlockAt bytes k block) where
  pub block_below : k < block_count bytes
  block_below = omega (arith, b.within)

  byte_at : (i : ℕ) → i < 512 → get_or block i 0 ≡ get_or bytes (512 * k + i) 0
  byte_at i l =
      let here : k * 512 + i ≡ 512 * k + i = omega arith in
      ap (λ (t : List ℕ). get_or t i 0) b.is
      ∙ (get_or-take 512 (drop (k * 512) bytes) i 0 l
      ∙ (get_or-drop (k * 512) bytes i 0 ∙ ap (λ (p : ℕ). get_or bytes p 0) here))

  pub pair_block : (i : ℕ) → i + 1 < 512 → pair_at block i ≡ pair_at bytes (512 * k + i)
  pair_block i l =
      let next : 512 * k + (i + 1) ≡ 512 * k + i + 1 = omega arith in
      omega (arith, byte_at i (omega arith), byte_at (i + 1) l ∙ ap (λ (p : ℕ). get_or bytes p 0) next)

  check_same : block_check block 0 ≡ block_check bytes k
  check_same =
      ap (λ (s : ℕ). s % 65521)
      (same_sum block bytes 0 (512 * k) 510
      (λ i l. let here : 0 + i ≡ i = omega arith in ap (λ (p : ℕ). get_or block p 0) here ∙ byte_at i (omega arith)))

  pub check_block : {r : Bool} → Tells (CheckRight block 0) r → Tells (CheckRight bytes k) r
  check_block =
      tells_as
      (λ right. sym (pair_block 510 (omega arith)) ∙ (right ∙ check_same))
      (λ right. pair_block 510 (omega arith) ∙ (right ∙ sym check_same))

  number_same : pair_at block 0 ≡ pair_at bytes (512 * k)
  number_same = let here : 512 * k + 0 ≡ 512 * k = omega arith in pair_block 0 (omega arith) ∙ ap (pair_at bytes) here

  pub used_block : words_used block 0 ≡ words_used bytes k
  used_block = pair_block 2 (omega arith)

  word_same : (i : ℕ) → i < 253 → pair_at block (4 + 2 * i) ≡ pair_at bytes (512 * k + 4 + 2 * i)
  word_same i l =
      let here : 512 * k + (4 + 2 * i) ≡ 512 * k + 4 + 2 * i = omega arith in
      pair_block (4 + 2 * i) (omega arith) ∙ ap (pair_at bytes) here

  pub fields_block : {count j : ℕ} {r : Bool} → count ≡ block_count bytes → j ≡ k → Tells (FieldsRight count j block) r
      → Tells (BlockFields bytes k) r
  fields_block {count} {r = r} e here told =
      tells_as
      (λ right.
      record {
        number = sym number_same ∙ right.number;
        use_count = use_same e used_block right.use_count;
        unused = λ i above below. sym (word_same i below) ∙ right.unused i (omega (arith, used_block)) below;
      })
      (λ right.
      record {
        number = number_same ∙ right.number;
        use_count = use_same (sym e) (sym used_block) right.use_count;
        unused = λ i above below. word_same i below ∙ right.unused i (omega (arith, used_block)) below;
      })
      (subst (λ (i : ℕ). Tells (FieldsRight count i block) r) here told)

  words_same : (n : ℕ) → n ≤ 253 → (i : ℕ) → i + n ≤ 253 → words_from block (4 + 2 * i) n ≡ words_from bytes (512 * k + 4 + 2 * i) n
  unfolding words_from
  words_same zero l i m = refl
  words_same (suc n) l i m =
      let next : 4 + 2 * i + 2 ≡ 4 + 2 * (i + 1) = omega arith in
      let there : 512 * k + 4 + 2 * (i + 1) ≡ 512 * k + 4 + 2 * i + 2 = omega arith in
      ap₂ ◌∷◌ (word_same i (omega arith))
      (ap (λ (p : ℕ). words_from block p n) next
      ∙ (words_same n (omega arith) (i + 1) (omega arith) ∙ ap (λ (p : ℕ). words_from bytes p n) there))

  pub words_block : words_used bytes k ≤ 253 → block_words block 0 ≡ block_words bytes k
  words_block most =
      let here : 512 * k + 4 + 2 * 0 ≡ 512 * k + 4 = omega arith in
      ap (words_from block 4) used_block
      ∙ (words_same (words_used bytes k) most 0 (omega arith) ∙ ap (λ (p : ℕ). words_from bytes p (words_used bytes k)) here)
