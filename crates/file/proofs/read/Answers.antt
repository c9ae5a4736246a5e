-- `file::read` meets its contract: each test tells whether its refusal applies, and the buffer that was cleared first
-- is what a refusal leaves and what the words are copied over.
use native.Mathlib.Omega.{arith}
use Prim.Native.Nat.{ℕ}
use mathlib.Core.List.{List}
use lib.ListN.{length}
use Rattle.grammar.specs.File.{FileSize, EachBlock, BlockFields}
use Rattle.grammar.specs.Theory.Files.{FileRight, CheckRight}
use Rattle.file.proofs.Answering.{refuses_size, refuses_check, refuses_block, refuses_room, reads_words}
use Rattle.grammar.specs.Theory.Fills.{made_clear}
use Rattle.file.proofs.read.Goals as goal

-- What is known of the file where all three tests have passed.
right : {bytes : List ℕ} → FileSize (length bytes) → EachBlock bytes (CheckRight bytes) → EachBlock bytes (BlockFields bytes)
    → FileRight bytes
right size checks blocks = record { size = size; checks = checks; blocks = blocks }

-- ---- The answers

pub returns-then-not-size_right : goal.returns-then-not-size_right
returns-then-not-size_right c =
    refuses_size _ _ (c.size_right.ensures.no c.if-not-size_right.true)
    (made_clear _ c.fill_from.ensures)

pub returns-then-not-checks_right : goal.returns-then-not-checks_right
returns-then-not-checks_right c =
    refuses_check _ _
    (c.size_right.ensures.yes c.if-not-size_right.false)
    (c.checks_right.ensures.no c.if-not-checks_right.true)
    (made_clear _ c.fill_from.ensures)

pub returns-then-not-blocks_right : goal.returns-then-not-blocks_right
returns-then-not-blocks_right c =
    refuses_block _ _
    (c.size_right.ensures.yes c.if-not-size_right.false)
    (c.checks_right.ensures.yes c.if-not-checks_right.false)
    (c.blocks_right.ensures.no c.if-not-blocks_right.true)
    (made_clear _ c.fill_from.ensures)

pub word_count-count-requires : goal.word_count-count-requires
word_count-count-requires c =
    let sized = c.size_right.ensures.yes c.if-not-size_right.false in
    record {
      bytes_nonzero = omega arith;
      each_block = c.blocks_right.ensures.yes c.if-not-blocks_right.false;
    }

pub returns-then-words-count : goal.returns-then-words-count
returns-then-words-count c = refuses_room _ _ (right (c.size_right.ensures.yes c.if-not-size_right.false) (c.checks_right.ensures.yes c.if-not-checks_right.false) (c.blocks_right.ensures.yes c.if-not-blocks_right.false)) (omega arith) (made_clear _ c.fill_from.ensures)

pub copy_blocks-requires : goal.copy_blocks-requires
copy_blocks-requires c = record {
  each_block = c.blocks_right.ensures.yes c.if-not-blocks_right.false;
  bytes_in_bounds = omega (arith, c.word_count-count.ensures);
}

pub returns : goal.returns
returns c =
    reads_words _ _
    (right (c.size_right.ensures.yes c.if-not-size_right.false) (c.checks_right.ensures.yes c.if-not-checks_right.false) (c.blocks_right.ensures.yes c.if-not-blocks_right.false))
    c.word_count-count.ensures
    c.if-words-count.false
    (made_clear _ c.fill_from.ensures)
    c.copy_blocks.ensures
