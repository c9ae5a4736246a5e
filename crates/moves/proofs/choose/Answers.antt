-- `moves::choose` meets its contract: each arm of the match is a case of `pick_by`.
use native.Mathlib.Omega.{arith}
use Rattle.moves.specs.Tests.{picks_match, picks_none, picks_expand, picks_drop, picks_error}
use Rattle.moves.proofs.choose.Goals as goal

pub returns-then-begins-3 : goal.returns-then-begins-3
returns-then-begins-3 c = picks_expand _ _ _ (omega arith) c.if-begins-3.true

pub returns-then-begins : goal.returns-then-begins
returns-then-begins c = picks_match _ _ _ (omega arith) c.if-begins.true

pub returns-else-begins : goal.returns-else-begins
returns-else-begins c = picks_none _ _ _ (omega arith) c.if-begins.false

pub returns-then-begins-2 : goal.returns-then-begins-2
returns-then-begins-2 c = picks_match _ _ _ (omega arith) c.if-begins-2.true

pub returns-else-begins-2 : goal.returns-else-begins-2
returns-else-begins-2 c = picks_none _ _ _ (omega arith) c.if-begins-2.false

pub returns-then-empty : goal.returns-then-empty
returns-then-empty c = picks_drop _ _ _ (omega arith) c.if-begins-3.false c.if-empty.true

pub returns-else-empty : goal.returns-else-empty
returns-else-empty c = picks_error _ _ _ (omega arith) c.if-begins-3.false c.if-empty.false
