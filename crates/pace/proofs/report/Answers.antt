-- `pace::report` meets its contract: the refusals of the parse, or the report of its moves.
use Rattle.std.proofs.Common.{rules, ◌≡◌, refl, Err}
use Rattle.pace.specs.Settling.{whole, whole_lent, whole_reports}
use Rattle.pace.proofs.Refusing.{report_refused}
use Rattle.pace.proofs.report.Goals as goal

pub cycles-told-requires : goal.cycles-told-requires
cycles-told-requires c =
    whole_lent
    (whole c.args.ticks.now _ refl refl c.unit_one.ensures c.parse_asking.ensures
    c.in_ok-counts.was)

pub returns : goal.returns
returns c =
    whole_reports
    (whole c.args.ticks.now _ refl refl c.unit_one.ensures c.parse_asking.ensures
    c.in_ok-counts.was)
    c.cycles-told.ensures

pub returns-in_err-counts : goal.returns-in_err-counts
returns-in_err-counts c =
    let told : c.from_residual.result ≡ Err c.in_err-counts.field-0.0 = search rules in
    rw told (report_refused c.unit_one.ensures c.parse_asking.ensures c.in_err-counts.was)
