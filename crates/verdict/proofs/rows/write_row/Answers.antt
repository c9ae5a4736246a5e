-- `verdict::rows::write_row` meets its contract: the last i symbols stand in the row and are packed (`RowTo`).
use native.Mathlib.Omega.{arith}
use mathlib.Core.Path.{refl}
use Prim.Native.Nat.{◌-◌}
use lib.ListN.{length}
use Rattle.verdict.specs.Rows.{row_begins, row_goes, row_ends, row_room}
use Rattle.verdict.proofs.rows.write_row.Goals as goal

pub loop-i-init : goal.loop-i-init
loop-i-init c = row_begins c.args.row.now c.requires.row_len refl

pub overflow_mul-right : goal.overflow_mul-right
overflow_mul-right c = omega (arith, row_room c.loop-i.invariant (omega (arith, c.requires.short)))

pub overflow_add-right : goal.overflow_add-right
overflow_add-right c =
    omega (
      arith,
      row_room c.loop-i.invariant (omega (arith, c.requires.short)),
      c.from.ensures,
      c.requires.small (length c.args.symbols.now - 1 - c.loop-i.i) (omega arith),
    )

pub loop-i-preserved : goal.loop-i-preserved
loop-i-preserved c =
    rw c.from.ensures
    (row_goes c.loop-i.invariant refl c.requires.short c.loop-i-test.true refl
    (c.requires.small (length c.args.symbols.now - 1 - c.loop-i.i) (omega arith)))

pub returns : goal.returns
returns c = row_ends c.loop-i.invariant c.loop-i-test.false
