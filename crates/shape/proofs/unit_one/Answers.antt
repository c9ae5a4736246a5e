-- `shape::unit_one` meets its contract: six words have a unit, which is word 5.
use Rattle.std.proofs.Common.{◌≤◌, ℕ, List, length, nat_eq}
use Rattle.base.specs.Telling.{Tells, tells_eq}
use Rattle.grammar.specs.Words.{word, tick_unit, UnitOne}
use Rattle.shape.proofs.unit_one.Goals as goal

unit-tells : (ws : List ℕ) → 6 ≤ length ws → Tells (UnitOne ws) (nat_eq (word ws 5) 1)
unfolding tick_unit
unit-tells ws six = tells_eq (word ws 5) 1 (λ e. record { six = six; one = e }) (λ u. u.one)

pub returns-then-words-ge6 : goal.returns-then-words-ge6
returns-then-words-ge6 c = unit-tells _ c.if-words-ge6.true
