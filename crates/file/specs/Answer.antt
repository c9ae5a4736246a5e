-- What three of the reader's tests tell.
use Rattle.std.specs.Prelude.{ℕ, ◌≤◌, ◌<◌, ◌≡◌, List, length, get_or}
use Rattle.grammar.specs.File.{UseCount, block_number, block_word, words_used}

-- The words of block k behind the used ones are zero.
abbrev pub UnusedZero : List ℕ → ℕ → ℕ → Type 0
UnusedZero bytes k used = (i : ℕ) → used ≤ i → i < 253 → block_word bytes k i ≡ 0

-- Block number, use count and unused words of one block's bytes are right: it is block k of so many.
pub record FieldsRight (count k : ℕ) (block : List ℕ) : Type 0 where
  pub number : block_number block 0 ≡ k
  pub use_count : UseCount count k (words_used block 0)
  pub unused : UnusedZero block 0 (words_used block 0)

-- Every byte of a part is zero.
abbrev pub AllZero : List ℕ → Type 0
AllZero bytes = (i : ℕ) → i < length bytes → get_or bytes i 0 ≡ 0
