use Rattle.grammar.specs.Listing.{token_at}
use Rattle.listing.proofs.Entries.{Filling}
use Rattle.listing.proofs.input.tokens_from.Given as goal

abbrev pub invariant-loop-i : goal.invariant-loop-i
invariant-loop-i l = Filling (token_at l.entries) 0 l.initial.token-items l.token-items l.i
