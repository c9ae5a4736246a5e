-- `costs::begin_nonterminals` meets its contract: what stands for none is written for each.
use native.Mathlib.Omega.{arith}
use Rattle.std.proofs.lemmas.Grind.{common_steps}
use Rattle.costs.proofs.Beginning.{fresh_filled}
use Rattle.costs.proofs.begin_nonterminals.Goals as goal

pub returns : goal.returns
returns c =
    fresh_filled _ c.nonterminal_count-count.ensures.shaped c.requires (omega (arith, c.nonterminal_count-count.ensures.value)) (grind (arith, common_steps))
