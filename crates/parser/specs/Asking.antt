-- What a caller of the parser asks before the run.
use Rattle.std.specs.Prelude.{◌≡◌, true, [], ◌∷◌}
use Rattle.grammar.specs.Refusals.{◌unless◌}
use Rattle.grammar.specs.Run.{Asks}
use Rattle.grammar.specs.declared.Refusal.TheVariants.{Hundredths}
use Rattle.parser.specs.declared.Asking.{Asking}

-- What the two tests stand for: refusal 10 where the first is false, 16 behind it where the second is.
abbrev pub asks_by : Asking → Asks
asks_by a = record { under_10 = a.timed ≡ true; behind_10 = (Hundredths unless (a.paced ≡ true)) ∷ [] }
