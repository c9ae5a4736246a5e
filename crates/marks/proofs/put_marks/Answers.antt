-- `marks::put_marks` meets its contract: from the records of the run to the words of its marks.
use Rattle.marks.proofs.Putting.{put_log, put_can_measure, put_can_size, put_can_restore, put_short, put_whole}
use mathlib.Core.Path.{refl}
use Rattle.marks.proofs.put_marks.Goals as goal

pub returns-then-records-eq0 : goal.returns-then-records-eq0
returns-then-records-eq0 c = put_log c.if-records-eq0.true c.put_log.ensures

pub nonterminal_count-depth-requires : goal.nonterminal_count-depth-requires
nonterminal_count-depth-requires c = c.requires.accepted.shaped

pub gather-requires : goal.gather-requires
gather-requires c = record { shaped = c.requires.accepted.shaped; cheap = c.requires.cheap; size = refl }

pub new-strings-requires : goal.new-strings-requires
new-strings-requires c = put_can_measure c.requires c.gather.ensures c.nonterminal_count-depth.ensures

pub fits-requires : goal.fits-requires
fits-requires c = put_can_size c.requires c.gather.ensures c.nonterminal_count-depth.ensures c.new-strings.ensures.rights c.new-strings.ensures.depth c.new-strings.ensures.ready

pub returns-then-not-fits : goal.returns-then-not-fits
returns-then-not-fits c =
    put_short c.requires c.gather.ensures c.nonterminal_count-depth.ensures c.new-strings.ensures.rights c.new-strings.ensures.depth c.new-strings.ensures.ready c.fits.ensures refl
    c.if-not-fits.true

pub restore-requires : goal.restore-requires
restore-requires c = put_can_restore c.requires c.gather.ensures c.nonterminal_count-depth.ensures c.new-strings.ensures.rights c.new-strings.ensures.depth c.new-strings.ensures.ready c.fits.ensures refl c.if-not-fits.false

pub returns : goal.returns
returns c =
    put_whole c.requires c.gather.ensures c.nonterminal_count-depth.ensures c.new-strings.ensures.rights c.new-strings.ensures.depth c.new-strings.ensures.ready c.fits.ensures refl c.if-not-fits.false
    c.restore.ensures
