-- State and buffer are those of the parts read so far, which are what the reader has lost.
use Rattle.making.proofs.Going.{Gone}
use Rattle.making.proofs.read_text.Given as goal

abbrev pub invariant-loop : goal.invariant-loop
invariant-loop g l = Gone (g.R.Read.remaining l.initial.reader) (g.R.Read.remaining l.reader) l.initial.words l.state l.words
