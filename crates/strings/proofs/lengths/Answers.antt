-- `strings::lengths` meets its contract: behind d rounds the lengths are those at depth d; a round that changes nothing is the last.
use native.Mathlib.Omega.{arith}
use Rattle.strings.specs.Lengths.{measured_first, measured_goes, measured_stays, measured_all, can_round}
use mathlib.Core.Path.{refl, sym, ◌∙◌}
use native.Mathlib.Omega.{arith}
use Rattle.strings.proofs.lengths.Goals as goal

pub loop-d-init : goal.loop-d-init
loop-d-init c = (
  omega arith,
  measured_first _ _ c.requires.spells c.requires.size c.requires.zeros,
  refl,
)

pub round-requires : goal.round-requires
round-requires c = can_round _ _ c.requires.spells c.loop-d._d c.loop-d.invariant.1 c.loop-d-test.true c.loop-d.invariant.2

pub renew-requires : goal.renew-requires
renew-requires c = record {
  count_in_bounds = omega (arith, c.round.ensures.size, c.loop-d.invariant.2, c.requires.spells.few);
  count_in_bounds_2 = omega (arith, c.loop-d.invariant.1.size, c.requires.spells.few);
}

pub returns-then-not-renew : goal.returns-then-not-renew
returns-then-not-renew c =
    measured_stays _ _ c.requires.spells c.loop-d._d c.loop-d.invariant.1 c.round.ensures c.renew.ensures c.if-not-renew.true c.loop-d-test.true

pub loop-d-preserved : goal.loop-d-preserved
loop-d-preserved c = (
  omega (arith, c.loop-d-test.true),
  measured_goes _ _ c.requires.spells c.loop-d._d c.loop-d.invariant.1 c.round.ensures c.renew.ensures,
  c.round.ensures.size ∙ c.loop-d.invariant.2,
)

pub shape_of-lengths : goal.shape_of-lengths
shape_of-lengths c = c.loop-d.invariant.1.size ∙ sym c.requires.size

pub returns : goal.returns
returns c = measured_all _ _ c.requires.spells c.loop-d.invariant.1 (omega (arith, c.loop-d.invariant.0, c.loop-d-test.false))
