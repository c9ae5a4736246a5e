-- `moves::descend` meets its contract: all between p's height and d's was passed, and the window shows what is left. The measure is
-- d's height.
use native.Mathlib.Omega.{arith}
use Prim.Native.Nat.{◌<◌, ◌-◌}
use mathlib.Core.Path.{sym, subst}
use Rattle.moves.specs.Tests.{told_of}
use Rattle.moves.specs.Ways.{going_sees, going_counts, going_none, going_more, ends_fits, ends_grows, ends_stuck, ends_bottom}
use Rattle.moves.proofs.descend.Goals as goal

pub loop-d-init : goal.loop-d-init
loop-d-init c = going_none _ _ _ _ c.requires.shows

pub top_of-top-requires : goal.top_of-top-requires
top_of-top-requires c = going_sees c.requires.height (omega (arith, c.loop-d-test.true)) c.loop-d.invariant

pub begins-requires : goal.begins-requires
begins-requires c =
    let small = c.requires.symbols (c.loop-d.d.height - 1) (omega (arith, c.loop-d.invariant.passed.within, c.loop-d-test.true)) in
    (omega (arith, c.top_of-top.ensures, small), c.requires.token, c.requires.table)

pub empty-requires : goal.empty-requires
empty-requires c =
    let small = c.requires.symbols (c.loop-d.d.height - 1) (omega (arith, c.loop-d.invariant.passed.within, c.loop-d-test.true)) in
    (omega (arith, c.top_of-top.ensures, small), c.requires.table)

pub returns-in-Match : goal.returns-in-Match
returns-in-Match c =
    ends_fits _ _ _ _ _ c.loop-d.invariant _ c.top_of-top.ensures _ _ c.begins.ensures
    (omega (arith, c.loop-d-test.true)) (told_of _ _ _ c.choose-pick.ensures c.in-Match.is)

pub returns-in-Expand : goal.returns-in-Expand
returns-in-Expand c =
    ends_grows _ _ _ _ _ c.loop-d.invariant _ c.top_of-top.ensures _ _ c.begins.ensures
    (omega (arith, c.loop-d-test.true)) (told_of _ _ _ c.choose-pick.ensures c.in-Expand.is)

pub dropped-d-requires : goal.dropped-d-requires
dropped-d-requires c = going_counts c.requires (omega (arith, c.loop-d-test.true)) c.loop-d.invariant

pub loop-d-smaller : goal.loop-d-smaller
loop-d-smaller c = subst (λ x. x.height < c.loop-d.d.height) (sym c.dropped-d.ensures) (omega (arith, c.loop-d-test.true))

pub loop-d-preserved : goal.loop-d-preserved
loop-d-preserved c =
    going_more _ _ _ _ _ c.loop-d.invariant _ c.top_of-top.ensures _ _ c.begins.ensures _
    c.dropped-d.ensures (omega (arith, c.loop-d-test.true)) c.empty.ensures
    (told_of _ _ _ c.choose-pick.ensures c.in-Drop.is)

pub returns-in-Error : goal.returns-in-Error
returns-in-Error c =
    ends_stuck _ _ _ _ _ c.loop-d.invariant _ c.top_of-top.ensures _ _ c.begins.ensures
    c.empty.ensures (told_of _ _ _ c.choose-pick.ensures c.in-Error.is)

pub returns : goal.returns
returns c = ends_bottom _ _ _ _ _ c.loop-d-test.false c.loop-d.invariant
