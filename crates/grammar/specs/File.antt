-- Document 01, "The grammar file": blocks of 512 bytes, all numbers little endian; and refusals 1 to 4.
-- A file is the list of its bytes; a byte past the end counts as 0, and none such is needed where the size is right.
use Rattle.std.specs.Prelude.{ℕ, zero, suc, ◌+◌, ◌*◌, ◌/◌, ◌%◌, ◌≤◌, ◌<◌, ◌≡◌, List, [], ◌∷◌, ◌++◌, length, get_or}
use Rattle.grammar.specs.Buffers.{Fills}
use Rattle.grammar.specs.Refusals.{Condition, ◌unless◌, Outcome}
use Rattle.grammar.specs.declared.Refusal.TheVariants.{BadSize, BadCheck, BadBlock, ShortWords}

-- The little endian number of two bytes.
abbrev pub pair_at : List ℕ → ℕ → ℕ
pair_at bytes at = get_or bytes at 0 + 256 * get_or bytes (at + 1) 0

-- How many blocks a file has.
abbrev pub block_count : List ℕ → ℕ
block_count bytes = length bytes / 512

-- "Bytes 0-1: block number, from 0."
abbrev pub block_number : List ℕ → ℕ → ℕ
block_number bytes k = pair_at bytes (512 * k)

-- "Bytes 2-3: words used."
abbrev pub words_used : List ℕ → ℕ → ℕ
words_used bytes k = pair_at bytes (512 * k + 2)

-- "Bytes 4-509: 253 words": word i of block k.
abbrev pub block_word : List ℕ → ℕ → ℕ → ℕ
block_word bytes k i = pair_at bytes (512 * k + 4 + 2 * i)

-- The check that stands in "bytes 510-511".
abbrev pub stored_check : List ℕ → ℕ → ℕ
stored_check bytes k = pair_at bytes (512 * k + 510)

-- The sum over bytes 0 to n - 1 from a place on of (i + 1) x byte i.
unfoldable pub weighted_sum : List ℕ → ℕ → ℕ → ℕ
weighted_sum bytes at zero = 0
weighted_sum bytes at (suc i) = weighted_sum bytes at i + (i + 1) * get_or bytes (at + i) 0

-- "The sum over bytes i = 0..509 of (i + 1) x byte i, modulo 65,521."
abbrev pub block_check : List ℕ → ℕ → ℕ
block_check bytes k = weighted_sum bytes (512 * k) 510 % 65521

-- Words used: "exactly 253 in every block but the last, 1 to 253 there".
pub data UseCount (count k used : ℕ) : Type 0 where
  full : k + 1 < count → used ≡ 253 → UseCount count k used
  last : k + 1 ≡ count → 1 ≤ used → used ≤ 253 → UseCount count k used

-- Block number, use count and unused words of block k are right.
pub record BlockFields (bytes : List ℕ) (k : ℕ) : Type 0 where
  pub number : block_number bytes k ≡ k
  pub use_count : UseCount (block_count bytes) k (words_used bytes k)
  pub unused : (i : ℕ) → words_used bytes k ≤ i → i < 253 → block_word bytes k i ≡ 0

-- n words from a byte on.
unfoldable pub words_from : List ℕ → ℕ → ℕ → List ℕ
words_from bytes at zero = []
words_from bytes at (suc n) = pair_at bytes at ∷ words_from bytes (at + 2) n

-- The used words of the first k blocks, in order.
unfoldable pub words_of_blocks : List ℕ → ℕ → List ℕ
words_of_blocks bytes zero = []
words_of_blocks bytes (suc k) = words_of_blocks bytes k ++ words_from bytes (512 * k + 4) (words_used bytes k)

-- The words that a file holds.
abbrev pub file_words : List ℕ → List ℕ
file_words bytes = words_of_blocks bytes (block_count bytes)

-- "Empty, not a multiple of 512, or over 5,632 bytes" is refused.
pub record FileSize (size : ℕ) : Type 0 where
  pub some : 0 < size
  pub whole : size % 512 ≡ 0
  pub limit : size ≤ 5632

-- Each block has the property.
abbrev pub EachBlock : List ℕ → (ℕ → Type 0) → Type 0
EachBlock bytes P = (k : ℕ) → k < block_count bytes → P k

-- The reader's conditions; `room` is the word buffer's length.
abbrev pub file_conditions : List ℕ → ℕ → List Condition
file_conditions bytes room =
    (BadSize unless FileSize (length bytes))
    ∷ (BadCheck unless EachBlock bytes (λ k. stored_check bytes k ≡ block_check bytes k))
    ∷ (BadBlock unless EachBlock bytes (BlockFields bytes))
    ∷ (ShortWords unless (length (file_words bytes) ≤ room))
    ∷ []

-- "Reading yields the words in order and their number; words of the buffer behind them become zero." The reader's
-- answer, a number of words or a refusal, and the buffer afterwards.
pub record FileRead (bytes : List ℕ) (room : ℕ) (answer : Outcome ℕ) (buffer : List ℕ) : Type 0 where
  pub read : Fills (file_conditions bytes room) room (file_words bytes) answer buffer
