-- `writer::write` meets its contract: each test tells whether its refusal applies, and the buffer that was cleared first is what a
-- refusal leaves and what the blocks are written into.
use native.Mathlib.Omega.{arith}
use Rattle.grammar.specs.Theory.Fills.{made_clear, lent_clear}
use Rattle.writer.proofs.Answering.{refuses_count, refuses_unit, refuses_room, writes}
use Rattle.writer.proofs.write.Goals as goal

pub returns-then-not-count_right : goal.returns-then-not-count_right
returns-then-not-count_right c =
    refuses_count _ _ (c.count_right.ensures.no c.if-not-count_right.true)
    (made_clear _ c.fill_from.ensures)

pub returns-then-unit_one : goal.returns-then-unit_one
returns-then-unit_one c = refuses_unit _ _ (c.count_right.ensures.yes c.if-not-count_right.false) (c.unit_one.ensures.yes c.if-unit_one.true) (made_clear _ c.fill_from.ensures)

pub blocks_for-blocks-requires : goal.blocks_for-blocks-requires
blocks_for-blocks-requires c = (c.count_right.ensures.yes c.if-not-count_right.false).most

pub returns-then-bytes-size : goal.returns-then-bytes-size
returns-then-bytes-size c = refuses_room _ _ (c.count_right.ensures.yes c.if-not-count_right.false) (c.unit_one.ensures.no c.if-unit_one.false) (omega arith) (made_clear _ c.fill_from.ensures)

pub write_blocks-requires : goal.write_blocks-requires
write_blocks-requires c =
    let most = (c.count_right.ensures.yes c.if-not-count_right.false).most in
    record {
      blocks_value = c.blocks_for-blocks.ensures;
      blocks_bound = omega arith;
      blocks_in_bounds = omega arith;
      bytes_value = lent_clear c.fill_from.auto.buffer (made_clear _ c.fill_from.ensures);
    }

pub returns : goal.returns
returns c =
    writes _ _ (c.count_right.ensures.yes c.if-not-count_right.false) (c.unit_one.ensures.no c.if-unit_one.false) (omega arith) (omega arith) c.fill_from.auto.buffer
    c.write_blocks.ensures
