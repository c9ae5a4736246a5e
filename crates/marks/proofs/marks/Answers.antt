-- `marks::marks` meets its contract: where the log itself stands for its places and nothing is raised, marks are tokens.
use native.Mathlib.Omega.{arith}
use Rattle.marks.proofs.Answering.{marks_plain}
use mathlib.Core.Path.{refl}
use native.Mathlib.Omega.{arith}
use Rattle.marks.proofs.marks.Goals as goal

pub marks_as-requires : goal.marks_as-requires
marks_as-requires c = record { each = refl; small = omega arith }

pub returns : goal.returns
returns c = marks_plain refl c.marks_as.ensures
