use Rattle.grammar.specs.Listing.{tick_at}
use Rattle.listing.proofs.Entries.{Filling}
use Rattle.listing.proofs.input.ticks_from.Given as goal

abbrev pub invariant-loop-i : goal.invariant-loop-i
invariant-loop-i l = Filling (tick_at l.entries) 0 l.initial.tick-items l.tick-items l.i
