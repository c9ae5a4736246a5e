-- `desk::list` meets its contract: either buffer is too short, or costs and rules are copied in front of zeros.
use native.Mathlib.Omega.{arith}
use Rattle.desk.proofs.Listing.{short, lists, part_words}
use Rattle.desk.proofs.list.Goals as goal
use Rattle.desk.proofs.list.Goals.{then-costs-count-via-then-costs-count, then-costs-count-via-else-costs-count+then-rules-count}

pub nonterminal_count-count-requires : goal.nonterminal_count-count-requires
nonterminal_count-count-requires c = c.requires.priced.shaped

pub returns-then-costs-count : goal.returns-then-costs-count
returns-then-costs-count c =
    short _ _ c.requires.costs_clear c.requires.rules_clear c.requires.accepts
    (λ fits. elim c.then-costs-count.branch [
      | then-costs-count-via-then-costs-count w ↦ omega (arith, fits.0)
      | then-costs-count-via-else-costs-count+then-rules-count w ↦ omega (arith, fits.1)
    ])

pub copy-requires-clause-by_index : goal.copy-requires-clause-by_index
copy-requires-clause-by_index c = part_words _ 64 c.requires.priced

pub copy-requires-2-clause-by_index : goal.copy-requires-2-clause-by_index
copy-requires-2-clause-by_index c = part_words _ 128 c.requires.priced

pub returns : goal.returns
returns c =
    lists _ c.requires c.nonterminal_count-count.ensures (omega arith) (omega arith) c.copy.ensures c.copy-2.ensures
