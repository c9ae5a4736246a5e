use mathlib.Core.Path.{◌≡◌}
use Prim.Native.Nat.{ℕ, ◌<◌, ◌^◌}
use lib.ListN.{length, get_or}
use Rattle.mentions.specs.Mentions.{Gathered, Used}
use Rattle.mentions.proofs.gather.Given as goal

abbrev pub invariant-loop-p : goal.invariant-loop-p
invariant-loop-p l = Gathered l.rules l.p l.table × Used l.rules l.p l.uses × (length l.table ≡ length l.initial.table)
    × ((k : ℕ) → get_or l.uses k 0 < 2 ^ 64)
