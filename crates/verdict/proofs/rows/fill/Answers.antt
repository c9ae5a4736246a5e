-- `verdict::rows::fill` meets its contract: FIRST of each right side, no link yet, then all rows (`Filling`).
use native.Mathlib.Omega.{arith}
use mathlib.Core.Path.{◌≡◌, ap, ◌∙◌}
use lib.ListN.{length, take, replicate}
use Rattle.std.proofs.lemmas.List.{length-take-le}
use Rattle.std.proofs.lemmas.Grind.{common_steps}
use Rattle.verdict.specs.Sets.{sets_asked, sets_firsts}
use Rattle.verdict.specs.Filling.{filling_begins}
use Rattle.verdict.proofs.rows.fill.Goals as goal

pub new-masks-requires : goal.new-masks-requires
new-masks-requires c = record {
  asked = sets_asked c.requires.shaped c.requires.sets_of;
  firsts_of = sets_firsts c.requires.shaped c.requires.sets_of;
}

pub rule_firsts-requires : goal.rule_firsts-requires
rule_firsts-requires c = length-take-le 256 c.args.sides.now (omega (arith, c.requires.sides_len))

pub write_rows-requires : goal.write_rows-requires
write_rows-requires c =
    let size : length (take 256 c.args.sides.now) ≡ 256 = length-take-le 256 c.args.sides.now (omega (arith, c.requires.sides_len)) in
    let heads : length (take 128 c.args.rows.now) ≡ 128 = length-take-le 128 c.args.rows.now (omega (arith, c.requires.rows_len)) in
    let zeros : c.fill.new.self ≡ replicate (length (take 128 c.args.rows.now)) 0 = grind (arith, common_steps) in
    filling_begins c.args.sides.now c.args.rows.now c.requires.shaped c.requires.sides_len c.requires.rows_len
    (c.rule_firsts.auto.out ∙ size) (rw c.new-masks.ensures at c.rule_firsts.ensures) (zeros ∙ ap (λ n. replicate n 0) heads)
