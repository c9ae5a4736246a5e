-- `writer::put_words` meets its contract: the first i words are written (`WordsPut`).
use native.Mathlib.Omega.{arith}
use Rattle.writer.proofs.Putting.{words_begin, words_go, words_end}
use Rattle.writer.proofs.put_words.Goals as goal

pub loop-i-init : goal.loop-i-init
loop-i-init c = words_begin _ _ _

pub loop-i-preserved : goal.loop-i-preserved
loop-i-preserved c = words_go c.loop-i.invariant (omega arith) (omega arith) c.put_pair.auto.bytes c.put_pair.ensures

pub returns : goal.returns
returns c = words_end c.loop-i.invariant (omega arith)
