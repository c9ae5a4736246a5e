-- A number that is in the set has its power there.
use Rattle.std.proofs.Common.{ℕ, ◌-◌, ap, arith}
use Rattle.sets.specs.Operations.{without}
use Rattle.sets.specs.Taking.{shifted, power_below}
use Rattle.sets.proofs.without.Goals as goal

pub overflow_sub-result : goal.overflow_sub-result
overflow_sub-result c =
    omega (arith, shifted c.args.i c.requires.i_bound, power_below c.args.s c.args.i c.requires.i_value)

pub returns : goal.returns
unfolding without
returns c = ap (λ (n : ℕ). c.args.s - n) (shifted c.args.i c.requires.i_bound)
