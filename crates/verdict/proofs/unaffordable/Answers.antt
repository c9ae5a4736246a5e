-- `verdict::unaffordable` meets its contract.
use mathlib.Core.Path.{refl}
use Rattle.verdict.specs.Prices.{Dear}
use Rattle.verdict.proofs.unaffordable.Goals as goal

pub returns-then-within : goal.returns-then-within
returns-then-within c = Dear.string (c.within.ensures.yes c.if-within.true) refl

pub returns-else-within : goal.returns-else-within
returns-else-within c = Dear.none (c.within.ensures.no c.if-within.false) refl
