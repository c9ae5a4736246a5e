-- `mark_lines::lines::put_marks` meets its contract: the lines of the words in front of word i are written (`Putting`).
use Rattle.mark_lines.proofs.Putting.{putting_goes, putting_ends}
use Rattle.mark_lines.proofs.lines.put_marks.Goals as goal

pub loop-word-preserved : goal.loop-word-preserved
loop-word-preserved c = putting_goes c.loop-word.invariant c.loop-word-test.true c.put_mark.ensures

pub returns : goal.returns
returns c = putting_ends c.loop-word.invariant c.loop-word-test.false
