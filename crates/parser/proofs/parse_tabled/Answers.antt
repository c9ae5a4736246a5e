-- `parser::parse_tabled` meets its contract: the buffers are cleared behind what the run left, or whole.
use native.Mathlib.Omega.{arith}
use Rattle.parser.specs.Asking.{asks_by}
use Rattle.parser.specs.Parses.{settled_fits, parses_counts, parses_refused}
use Rattle.std.proofs.Common.{rules}
use Rattle.parser.proofs.parse_tabled.Goals as goal

pub overflow_mul-counts : goal.overflow_mul-counts
overflow_mul-counts c =
    omega (
      arith,
      (settled_fits (asks_by c.args.asking) _ _ c.args.edits.now c.args.rules.now c.settle.new.edits
          c.settle.new.rules c.settle.ensures.settled_as c.in-Ok.is).0,
      c.well_formed,
    )

pub returns-in-Ok-clause-parsed_asking : goal.returns-in-Ok-clause-parsed_asking
returns-in-Ok-clause-parsed_asking c =
    parses_counts (asks_by c.args.asking) _ _ c.args.edits.now c.args.rules.now c.settle.new.edits
    c.settle.new.rules c.settle.ensures.settled_as c.settle.auto.edits c.settle.auto.rules _ _
    c.in-Ok.is c.fill_from.ensures c.fill_from-in-Ok.ensures

pub returns-in-Err-clause-parsed_asking : goal.returns-in-Err-clause-parsed_asking
returns-in-Err-clause-parsed_asking c =
    parses_refused (asks_by c.args.asking) _ _ c.args.edits.now c.args.rules.now c.settle.new.edits
    c.settle.new.rules c.settle.ensures.settled_as c.settle.auto.edits c.settle.auto.rules _ _
    c.in-Err.is (search rules) (search rules)
