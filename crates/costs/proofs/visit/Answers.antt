-- `costs::visit` meets its contract: cost and rule of the left side are written where the right side costs less, or as much by a lower
-- rule.
use native.Mathlib.Omega.{arith}
use Prim.Native.Nat.{◌+◌}
use mathlib.Core.Path.{subst}
use lib.ListN.{length-set}
use Rattle.costs.specs.Held.{held_limited}
use Rattle.costs.specs.Visiting.{Capped}
use Rattle.costs.proofs.Lowering.{left_at, kept, written}
use Rattle.costs.proofs.visit.Goals as goal

pub rule_cost-requires : goal.rule_cost-requires
rule_cost-requires c = record {
  p_bound = c.requires.p_bound;
  limited = held_limited c.requires.held;
}

pub returns-then-stays : goal.returns-then-stays
returns-then-stays c =
    kept _ _ c.left_of-k.ensures.shaped c.requires.held _ c.requires.p_bound _ (left_at c.from-at.ensures c.left_of-k.ensures.left) _
    (subst (λ n. Capped n c.capped-sum.result) c.rule_cost.ensures c.capped-sum.ensures)
    (c.stays.ensures.yes c.if-stays.true)

pub bounds-table-at-4 : goal.bounds-table-at-4
bounds-table-at-4 c =
    omega (
      arith,
      length-set c.args.table.now (64 + c.from-at.result) c.capped-sum.result,
      c.requires.held.size,
      c.left_of-k.ensures.left.small,
      c.from-at.ensures,
    )

pub returns : goal.returns
returns c =
    written _ _ c.left_of-k.ensures.shaped c.requires.held _ c.requires.p_bound _ (left_at c.from-at.ensures c.left_of-k.ensures.left) _
    (subst (λ n. Capped n c.capped-sum.result) c.rule_cost.ensures c.capped-sum.ensures)
    (c.stays.ensures.no c.if-stays.false) _ c.known.ensures (rw (← c.from-at.ensures) at c.fell.ensures)
