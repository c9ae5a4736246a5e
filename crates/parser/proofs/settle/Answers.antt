-- `parser::settle` meets its contract: the refusals before the run, or the run; and the tables where the words are accepted.
use native.Mathlib.Omega.{arith}
use mathlib.Core.Path.{refl}
use Rattle.base.specs.Blank.{blank_made}
use Rattle.parser.specs.Asking.{asks_by}
use Rattle.parser.specs.Parses.{check_refuses, cheap_refused, log_can, admits_refuses, run_can, run_cheap, run_settles}
use Rattle.std.proofs.Common.{rules, ◌≡◌, Err}
use Rattle.parser.proofs.settle.Goals as goal

pub tables-requires : goal.tables-requires
tables-requires c = record { sets_blank = blank_made 65; prices_blank = c.requires.prices_blank; sides_size = c.requires.sides_size; rows_size = refl }

pub returns-in_err-tables : goal.returns-in_err-tables
returns-in_err-tables c =
    let told : c.from_residual.result ≡ Err c.in_err-tables.field-0.0 = search rules in
    record {
      settled_as = rw told (check_refuses (asks_by c.args.asking) c.tables.ensures _ _ _ _ _ c.in_err-tables.was);
      cheap_where = rw told (cheap_refused _ _ _ _);
    }

pub admits-requires : goal.admits-requires
admits-requires c = log_can (asks_by c.args.asking) c.tables.ensures c.in_ok-tables.was

pub returns-in_err-admits : goal.returns-in_err-admits
returns-in_err-admits c =
    let told : c.from_residual-in_err-admits.result ≡ Err c.in_err-admits.field-0.0 = search rules in
    record {
      settled_as = rw told (admits_refuses (asks_by c.args.asking) c.tables.ensures c.in_ok-tables.was c.admits.ensures _ _ _ _ c.in_err-admits.was);
      cheap_where = run_cheap (asks_by c.args.asking) c.tables.ensures c.in_ok-tables.was _;
    }

pub run-requires : goal.run-requires
run-requires c = run_can (asks_by c.args.asking) c.tables.ensures c.in_ok-tables.was c.admits.ensures _ c.in_ok-admits.was (omega arith)

pub returns : goal.returns
returns c = record {
  settled_as = run_settles (asks_by c.args.asking) c.tables.ensures c.in_ok-tables.was
      c.admits.ensures _ _ _ _ c.run.result c.in_ok-admits.was c.run.ensures;
  cheap_where = run_cheap (asks_by c.args.asking) c.tables.ensures c.in_ok-tables.was _;
}
