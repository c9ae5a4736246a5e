-- `verdict::predictable` meets its contract: FIRST is filled, and `unshared` tells.
use mathlib.Core.Path.{◌∙◌}
use Rattle.verdict.proofs.predictable.Goals as goal

pub new-requires : goal.new-requires
new-requires c = record {
  asked = record { shaped = c.requires.asked.shaped; nulls = c.requires.asked.nulls; size = c.firsts.auto.out ∙ c.requires.asked.size };
  firsts_of = c.firsts.ensures;
}

pub returns : goal.returns
returns c = record { exact = c.firsts.ensures; tells = rw c.new.ensures at c.unshared.ensures }
