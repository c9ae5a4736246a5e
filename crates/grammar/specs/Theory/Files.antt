-- Laws about the grammar file: its sums, its words, and how many words it has.
--     sum_more, words_more, blocks_more     one byte, one word, one block more
--     words_length, blocks_length           how many words those are
--     full_length, file_length, block_fits  where the use counts are right, every block but the last is full
--     all_right                             no refusal applies: the file is right
use Prim.Native.Nat.{ℕ, zero, suc, ◌+◌, ◌*◌, ◌-◌, ◌≤◌, ◌<◌}
use Rattle.std.proofs.Common.{not-suc-le-zero, le_of_suc-le-suc, eq-or-lt_of_le, mul-zero, add-one, sym, ap₂, subst₂, ◌∙◌, ⊎_elim, length-append}
use native.Mathlib.Omega.{arith}
use Rattle.std.specs.Prelude.{◌≡◌, List, [], ◌∷◌, ◌++◌, get_or}
use Rattle.std.proofs.Math.Path.{refl, ap}
use Rattle.std.proofs.Math.Option.{none}
use Rattle.std.proofs.Math.ListN.{length}
use Rattle.grammar.specs.File.{
  pair_at,
  weighted_sum,
  block_check,
  stored_check,
  block_count,
  words_used,
  words_from,
  FileSize,
  words_of_blocks,
  file_words,
  UseCount,
  full,
  last,
  BlockFields,
  EachBlock,
  file_conditions,
}
use Rattle.grammar.specs.Refusals.{Lowest}
use Rattle.grammar.specs.Theory.Conditions.{Held, held}

-- The check of block k is right.
abbrev pub CheckRight : List ℕ → ℕ → Type 0
CheckRight bytes k = stored_check bytes k ≡ block_check bytes k

-- Refusals 1 to 3 are not given.
pub record FileRight (bytes : List ℕ) : Type 0 where
  pub size : FileSize (length bytes)
  pub checks : EachBlock bytes (CheckRight bytes)
  pub blocks : EachBlock bytes (BlockFields bytes)

-- The used words of block k.
abbrev pub block_words : List ℕ → ℕ → List ℕ
block_words bytes k = words_from bytes (512 * k + 4) (words_used bytes k)

-- ---- One byte, one word, one block more

pub sum_none : (bytes : List ℕ) (at : ℕ) → weighted_sum bytes at 0 ≡ 0
unfolding weighted_sum
sum_none bytes at = refl

-- The sum over one byte more.
pub sum_more : (bytes : List ℕ) (at i : ℕ) → weighted_sum bytes at (i + 1) ≡ weighted_sum bytes at i + (i + 1) * get_or bytes (at + i) 0
unfolding weighted_sum
sum_more bytes at i = ap (weighted_sum bytes at) (add-one i)

-- The same bytes have the same sum.
pub same_sum : (a b : List ℕ) (at bt n : ℕ) → ((i : ℕ) → i < n → get_or a (at + i) 0 ≡ get_or b (bt + i) 0)
    → weighted_sum a at n ≡ weighted_sum b bt n
unfolding weighted_sum
same_sum a b at bt zero same = refl
same_sum a b at bt (suc n) same =
    ap₂ ◌+◌ (same_sum a b at bt n (λ i l. same i (omega arith))) (ap (λ (x : ℕ). (n + 1) * x) (same n (omega arith)))

-- Zeros add nothing.
pub sum_zeros : (bytes : List ℕ) (at n m : ℕ) → n ≤ m → ((i : ℕ) → n ≤ i → get_or bytes (at + i) 0 ≡ 0)
    → weighted_sum bytes at m ≡ weighted_sum bytes at n
unfolding weighted_sum
sum_zeros bytes at n zero l blank = let none : 0 ≡ n = omega arith in ap (weighted_sum bytes at) none
sum_zeros bytes at n (suc m) l blank =
    ⊎_elim (λ e. ap (weighted_sum bytes at) (sym e))
    (λ less.
    let rest : weighted_sum bytes at m ≡ weighted_sum bytes at n = sum_zeros bytes at n m (le_of_suc-le-suc less) blank in
    let none : (m + 1) * get_or bytes (at + m) 0 ≡ 0 = ap (λ (x : ℕ). (m + 1) * x) (blank m (le_of_suc-le-suc less)) ∙ mul-zero (m + 1) in
    omega arith)
    (eq-or-lt_of_le l)

pub words_none : (bytes : List ℕ) (at : ℕ) → words_from bytes at 0 ≡ []
unfolding words_from
words_none bytes at = refl

pub words_length : (bytes : List ℕ) (at n : ℕ) → length (words_from bytes at n) ≡ n
unfolding words_from
words_length bytes at zero = refl
words_length bytes at (suc n) = ap suc (words_length bytes (at + 2) n)

words_behind : (bytes : List ℕ) (at n : ℕ) → words_from bytes at (suc n) ≡ words_from bytes at n ++ (pair_at bytes (at + 2 * n) ∷ [])
unfolding words_from
words_behind bytes at zero =
    let here : at ≡ at + 2 * 0 = omega arith in
    ap (λ (p : ℕ). pair_at bytes p ∷ []) here
words_behind bytes at (suc n) =
    let there : at + 2 + 2 * n ≡ at + 2 * suc n = omega arith in
    ap (λ (l : List ℕ). pair_at bytes at ∷ l)
    (words_behind bytes (at + 2) n ∙ ap (λ (p : ℕ). words_from bytes (at + 2) n ++ (pair_at bytes p ∷ [])) there)

-- The words of a block stand two bytes apart.
pub words_more : (bytes : List ℕ) (at n : ℕ) → words_from bytes at (n + 1) ≡ words_from bytes at n ++ (pair_at bytes (at + 2 * n) ∷ [])
words_more bytes at n = ap (words_from bytes at) (add-one n) ∙ words_behind bytes at n

pub word_at : (bytes : List ℕ) (at n i : ℕ) → i < n → get_or (words_from bytes at n) i 0 ≡ pair_at bytes (at + 2 * i)
unfolding words_from
word_at bytes at zero i l = absurd (not-suc-le-zero l)
word_at bytes at (suc n) zero l = ap (pair_at bytes) (omega arith)
word_at bytes at (suc n) (suc i) l = word_at bytes (at + 2) n i (le_of_suc-le-suc l) ∙ ap (pair_at bytes) (omega arith)

pub blocks_none : (bytes : List ℕ) → words_of_blocks bytes 0 ≡ []
unfolding words_of_blocks
blocks_none bytes = refl

pub blocks_more : (bytes : List ℕ) (k : ℕ)
    → words_of_blocks bytes (k + 1) ≡ words_of_blocks bytes k ++ block_words bytes k
unfolding words_of_blocks
blocks_more bytes k = ap (words_of_blocks bytes) (add-one k)

pub blocks_length : (bytes : List ℕ) (k : ℕ) → length (words_of_blocks bytes (k + 1)) ≡ length (words_of_blocks bytes k) + words_used bytes k
blocks_length bytes k =
    ap length (blocks_more bytes k)
    ∙ (length-append (words_of_blocks bytes k) _ ∙ ap (λ (n : ℕ). length (words_of_blocks bytes k) + n) (words_length bytes _ _))

-- ---- Use counts

pub use_full : {count k used : ℕ} → UseCount count k used → k + 1 < count → used ≡ 253
use_full (full _ e) l = e
use_full (last e _ _) l = absurd (omega arith)

pub use_some : {count k used : ℕ} → UseCount count k used → 1 ≤ used
use_some (full _ e) = omega arith
use_some (last _ some _) = some

pub use_most : {count k used : ℕ} → UseCount count k used → used ≤ 253
use_most (full _ e) = omega arith
use_most (last _ _ most) = most

-- What the reader counts is what the definitions name.
pub use_same : {count count' k used used' : ℕ} → count ≡ count' → used ≡ used' → UseCount count k used → UseCount count' k used'
use_same {k = k} e f right = subst₂ (λ (c u : ℕ). UseCount c k u) e f right

module _ (bytes : List ℕ) (right : EachBlock bytes (BlockFields bytes)) where
  -- In front of each block stand full ones.
  pub full_length : (k : ℕ) → k < block_count bytes → length (words_of_blocks bytes k) ≡ 253 * k
  unfolding words_of_blocks
  full_length zero l = refl
  full_length (suc k) l =
      let before : length (words_of_blocks bytes k) ≡ 253 * k = full_length k (omega arith) in
      let used : words_used bytes k ≡ 253 = use_full (right k (omega arith)).use_count (omega arith) in
      let more : length (words_of_blocks bytes (suc k)) ≡ length (words_of_blocks bytes k) + words_used bytes k =
      ap (λ (n : ℕ). length (words_of_blocks bytes n)) (sym (add-one k)) ∙ blocks_length bytes k in
      omega arith

  pub file_length : (k : ℕ) → k + 1 ≡ block_count bytes → length (file_words bytes) ≡ 253 * k + words_used bytes k
  file_length k e =
      let before : length (words_of_blocks bytes k) ≡ 253 * k = full_length k (omega arith) in
      let more : length (words_of_blocks bytes (k + 1)) ≡ length (words_of_blocks bytes k) + words_used bytes k = blocks_length bytes k in
      let whole : length (words_of_blocks bytes (k + 1)) ≡ length (file_words bytes) = ap (λ (n : ℕ). length (words_of_blocks bytes n)) e in
      omega arith

  -- Each block's words have room where the file's have.
  pub block_fits : (k : ℕ) → k < block_count bytes → length (words_of_blocks bytes k) + words_used bytes k ≤ length (file_words bytes)
  block_fits k l =
      let before : length (words_of_blocks bytes k) ≡ 253 * k = full_length k l in
      let end : ℕ = block_count bytes - 1 in
      let whole : length (file_words bytes) ≡ 253 * end + words_used bytes end = file_length end (omega arith) in
      fits before whole (right k l).use_count
    where
      fits : length (words_of_blocks bytes k) ≡ 253 * k
          → length (file_words bytes) ≡ 253 * (block_count bytes - 1) + words_used bytes (block_count bytes - 1)
          → UseCount (block_count bytes) k (words_used bytes k)
          → length (words_of_blocks bytes k) + words_used bytes k ≤ length (file_words bytes)
      fits before whole (full more e) = omega arith
      fits before whole (last e _ _) =
          let here : words_used bytes (block_count bytes - 1) ≡ words_used bytes k = ap (words_used bytes) (omega arith) in
          omega arith

-- No refusal applies: the file is right.
pub all_right : (bytes : List ℕ) (room : ℕ) → Lowest (file_conditions bytes room) none → FileRight bytes
unfolding Held
all_right bytes room l = let right = held l in record { size = right.0; checks = right.1.0; blocks = right.1.1.0 }
