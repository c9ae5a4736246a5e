-- `making::file_of` meets its contract: the answer of the spelling, and then of the writer, is the text's.
use Rattle.std.proofs.Common.{arith, rules, ◌≡◌, refl, Err}
use Rattle.making.specs.Making.{words_made, none_made, made_same}
use Rattle.making.specs.declared.Unmade.TheVariants.{NoNumber}
use Rattle.making.proofs.file_of.Goals as goal

pub returns-in_err-count : goal.returns-in_err-count
returns-in_err-count c = λ old text told.
    let e : Err (NoNumber c.in_err-count.field-0.0) ≡ c.from_residual.result = search rules in
    made_same refl e (none_made _ c.in_err-count.was (c.finish.ensures old text told) c.fill_from.ensures)

pub returns : goal.returns
returns c = λ old text told.
    let spelled = c.finish.ensures old text told in
    made_same c.fill_from.auto.buffer refl
    (words_made c.in_ok-count.was c.requires (omega arith) c.finish.auto.words spelled c.write.ensures)
