-- `strings::spell` meets its contract: what is written and what is still to be spelled make the string. The measure is the steps left.
use native.Mathlib.Omega.{arith}
use Rattle.strings.specs.Turns.{
  spelling_begins,
  spelling_ends,
  spelling_up,
  spelling_token,
  spelling_room,
  spelling_pass,
  spelling_high,
  spelling_down,
  steps_up_less,
  steps_more_less,
  steps_down_less,
}
use Prim.Native.Nat.{◌+◌, ◌%◌}
use mathlib.Core.Path.{refl, ◌∙◌}
use lib.ListN.{length-set}
use native.Mathlib.Omega.{arith}
use Rattle.strings.proofs.spell.Goals as goal

pub loop-left-init : goal.loop-left-init
loop-left-init c = (
  refl,
  rw c.from-left.ensures
      (spelling_begins _ _ _ _ _ _ _ refl c.requires.low (omega (arith, c.requires.high)) c.requires.deep (omega (arith, c.requires.room))),
)

pub shape_of-tokens-then-h-eq0 : goal.shape_of-tokens-then-h-eq0
shape_of-tokens-then-h-eq0 c = c.loop-left.invariant.0

pub returns-then-h-eq0 : goal.returns-then-h-eq0
returns-then-h-eq0 c = spelling_ends c.loop-left.invariant.1 c.if-left-eq0.true c.if-h-eq0.true

pub overflow_sub-h : goal.overflow_sub-h
overflow_sub-h c = omega (arith, c.if-h-eq0.false)

pub offset_bounds-stack-h : goal.offset_bounds-stack-h
offset_bounds-stack-h c = omega (arith, c.loop-left.invariant.1.low, c.requires.spells.few)

pub bounds-stack-h : goal.bounds-stack-h
bounds-stack-h c = omega (arith, c.if-h-eq0.false, c.loop-left.invariant.1.low, c.requires.spells.few)

pub loop-left-smaller-then-left-eq0 : goal.loop-left-smaller-then-left-eq0
loop-left-smaller-then-left-eq0 c = steps_up_less _ _ _ _ _ _ (omega (arith, c.if-h-eq0.false)) c.if-left-eq0.true

pub loop-left-preserved-then-left-eq0 : goal.loop-left-preserved-then-left-eq0
loop-left-preserved-then-left-eq0 c = (
  c.loop-left.invariant.0,
  spelling_up c.loop-left.invariant.1 _ (omega (arith, c.if-h-eq0.false))
      c.if-left-eq0.true,
)

pub overflow_cast-tokens : goal.overflow_cast-tokens
overflow_cast-tokens c = omega (arith, c.if-x-lt64.true)

pub overflow_add-tokens : goal.overflow_add-tokens
overflow_add-tokens c = omega (arith, c.if-x-lt64.true, c.requires.small)

pub offset_bounds-tokens-end : goal.offset_bounds-tokens-end
offset_bounds-tokens-end c =
    omega (
      arith,
      spelling_room c.loop-left.invariant.1 (omega (arith, c.if-left-eq0.false)) c.if-x-lt64.true,
      c.requires.room,
      c.well_formed,
    )

pub bounds-tokens-end : goal.bounds-tokens-end
bounds-tokens-end c =
    omega (
      arith,
      spelling_room c.loop-left.invariant.1 (omega (arith, c.if-left-eq0.false)) c.if-x-lt64.true,
      c.requires.room,
      c.loop-left.invariant.0,
    )

pub overflow_add-end : goal.overflow_add-end
overflow_add-end c =
    omega (
      arith,
      spelling_room c.loop-left.invariant.1 (omega (arith, c.if-left-eq0.false)) c.if-x-lt64.true,
      c.requires.room,
      c.well_formed,
    )

pub loop-left-smaller-then-x-lt64 : goal.loop-left-smaller-then-x-lt64
loop-left-smaller-then-x-lt64 c = steps_more_less _ _ _ _ _ (omega (arith, c.if-left-eq0.false))

pub loop-left-preserved-then-x-lt64 : goal.loop-left-preserved-then-x-lt64
loop-left-preserved-then-x-lt64 c = (
  length-set c.loop-left.tokens c.loop-left.end
      (c.loop-left.left % 256 + c.args.raise)
      ∙ c.loop-left.invariant.0,
  spelling_token c.loop-left.invariant.1 (omega (arith, c.if-left-eq0.false)) c.if-x-lt64.true c.requires.room,
)

pub offset_bounds-lengths-x : goal.offset_bounds-lengths-x
offset_bounds-lengths-x c = omega arith

pub bounds-lengths-x : goal.bounds-lengths-x
bounds-lengths-x c =
    omega (
      arith,
      (spelling_high c.loop-left.invariant.1 (omega (arith, c.if-left-eq0.false)) (omega (arith, c.if-x-lt64.false))).1,
      c.requires.measured.size,
    )

pub offset_bounds-stack-h-then-lengths-x-gt0 : goal.offset_bounds-stack-h-then-lengths-x-gt0
offset_bounds-stack-h-then-lengths-x-gt0 c = omega (arith, c.loop-left.invariant.1.low, c.requires.spells.few)

pub bounds-stack-h-then-lengths-x-gt0 : goal.bounds-stack-h-then-lengths-x-gt0
bounds-stack-h-then-lengths-x-gt0 c =
    omega (
      arith,
      (spelling_high c.loop-left.invariant.1 (omega (arith, c.if-left-eq0.false)) (omega (arith, c.if-x-lt64.false))).0,
      c.requires.spells.few,
    )

pub overflow_add-h : goal.overflow_add-h
overflow_add-h c = omega (arith, c.loop-left.invariant.1.low, c.requires.spells.few)

pub offset_bounds-table-x : goal.offset_bounds-table-x
offset_bounds-table-x c = omega arith

pub bounds-table-x : goal.bounds-table-x
bounds-table-x c = omega (arith, (spelling_high c.loop-left.invariant.1 (omega (arith, c.if-left-eq0.false)) (omega (arith, c.if-x-lt64.false))).1, c.requires.spells.size)

pub loop-left-smaller-then-lengths-x-gt0 : goal.loop-left-smaller-then-lengths-x-gt0
loop-left-smaller-then-lengths-x-gt0 c =
    let high = spelling_high c.loop-left.invariant.1 (omega (arith, c.if-left-eq0.false)) (omega (arith, c.if-x-lt64.false)) in
    steps_down_less _ _ _ _ _ (omega (arith, c.if-left-eq0.false)) high.0 (omega (
      arith,
      high.0,
      c.requires.spells.few,
      c.loop-left.invariant.1.cells,
    )) (omega (arith, c.if-x-lt64.false))

pub loop-left-preserved-then-lengths-x-gt0 : goal.loop-left-preserved-then-lengths-x-gt0
loop-left-preserved-then-lengths-x-gt0 c = (c.loop-left.invariant.0, spelling_down c.loop-left.invariant.1 (omega (arith, c.if-left-eq0.false)) c.requires.spells.few (omega (arith, c.if-x-lt64.false)))

pub loop-left-smaller : goal.loop-left-smaller
loop-left-smaller c = steps_more_less _ _ _ _ _ (omega (arith, c.if-left-eq0.false))

pub loop-left-preserved : goal.loop-left-preserved
loop-left-preserved c = (
  c.loop-left.invariant.0,
  spelling_pass c.loop-left.invariant.1 (omega (arith, c.if-left-eq0.false)) c.requires.measured (omega (arith, c.if-x-lt64.false))
      (spelling_high c.loop-left.invariant.1 (omega (arith, c.if-left-eq0.false)) (omega (arith, c.if-x-lt64.false))).1 (omega (
        arith,
        c.if-lengths-x-gt0.false,
      )),
)
