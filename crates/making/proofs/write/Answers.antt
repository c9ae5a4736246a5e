-- `making::write` meets its contract: the writer is lent the first words, and its answer is handed on.
use Rattle.std.proofs.Common.{rules, ◌≡◌, Err}
use Rattle.making.specs.Making.{bytes_made, refusal_made, file_made_same}
use Rattle.making.specs.declared.Unmade.TheVariants.{Refused}
use Rattle.making.proofs.write.Goals as goal

pub returns-in_err-write : goal.returns-in_err-write
returns-in_err-write c =
    let e : Err (Refused c.in_err-write.field-0.0) ≡ c.from_residual.result = search rules in
    file_made_same e (refusal_made _ c.min-size.ensures c.in_err-write.was c.write.ensures)

pub returns : goal.returns
returns c = bytes_made _ c.min-size.ensures c.in_ok-write.was c.write.ensures
