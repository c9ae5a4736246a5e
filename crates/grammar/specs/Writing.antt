-- Document 02, request (i): "Take words and a byte buffer and write the blocks of 01."; and refusals 13, 16 and 14. The words are any
-- numbers below 65,536: nothing asks that they are a grammar.
use Rattle.std.specs.Prelude.{ℕ, zero, suc, ◌+◌, ◌*◌, ◌/◌, ◌%◌, ◌≤◌, ◌<◌, List, [], ◌∷◌, ◌++◌, length, take, drop}
use Rattle.grammar.specs.Words.{UnitOne}
use Rattle.grammar.specs.Buffers.{filled, Fills}
use Rattle.grammar.specs.File.{block_check}
use Rattle.grammar.specs.Refusals.{Condition, ◌unless◌, Outcome}
use Rattle.grammar.specs.declared.Refusal.TheVariants.{BadCount, Hundredths, ShortBytes}

-- Numbers of two bytes each: "all numbers are little endian".
unfoldable pub bytes_of : List ℕ → List ℕ
bytes_of [] = []
bytes_of (n ∷ ns) = n % 256 ∷ n / 256 ∷ bytes_of ns

-- The words that block k holds: words 253k to 253k + 252, in the last block as many of them as there are.
abbrev pub held_by : List ℕ → ℕ → List ℕ
held_by ws k = take 253 (drop (253 * k) ws)

-- The numbers of block k in front of its check: "block number", "words used", "253 words, unused ones zero".
unfoldable pub fields_of : List ℕ → ℕ → List ℕ
fields_of ws k = k ∷ length (held_by ws k) ∷ filled 253 (held_by ws k)

-- Block k: those numbers, and "bytes 510-511", the check of the bytes that they are.
unfoldable pub block_of : List ℕ → ℕ → List ℕ
block_of ws k = bytes_of (fields_of ws k ++ (block_check (bytes_of (fields_of ws k)) 0 ∷ []))

-- The first k blocks, in order.
unfoldable pub first_blocks : List ℕ → ℕ → List ℕ
first_blocks ws zero = []
first_blocks ws (suc k) = first_blocks ws k ++ block_of ws k

-- How many blocks n words take, each of them but the last full: n / 253, rounded up.
abbrev pub blocks_for : ℕ → ℕ
blocks_for n = (n + 252) / 253

-- The file of the words.
unfoldable pub blocks_of : List ℕ → List ℕ
blocks_of ws = first_blocks ws (blocks_for (length ws))

-- There are words, and not "more than 2,783".
pub record WordCount (n : ℕ) : Type 0 where
  pub some : 0 < n
  pub most : n ≤ 2783

-- The writer's conditions. By request (viii) "the writer refuses unit 1", and 16 stands "after 13 and before 14". `room` is the byte
-- buffer's length.
abbrev pub write_conditions : List ℕ → ℕ → List Condition
write_conditions ws room =
    (BadCount unless WordCount (length ws))
    ∷ (Hundredths unless (UnitOne ws → ⊥))
    ∷ (ShortBytes unless (512 * blocks_for (length ws) ≤ room))
    ∷ []

-- "Bytes behind the last block become zero." The writer's answer, a number of bytes or a refusal, and the buffer afterwards.
pub record FileWritten (ws : List ℕ) (room : ℕ) (answer : Outcome ℕ) (buffer : List ℕ) : Type 0 where
  pub write : Fills (write_conditions ws room) room (blocks_of ws) answer buffer
