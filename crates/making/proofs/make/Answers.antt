-- `making::make` is safe: the file that is made stands in the bytes.
use Rattle.std.proofs.Common.{sym, length-take-le}
use Rattle.making.specs.Making.{file_fits}
use Rattle.making.proofs.make.Goals as goal

pub slice_bounds-write_all-end : goal.slice_bounds-write_all-end
slice_bounds-write_all-end g c =
    let k = c.requires.knows in file_fits c.in-Ok.is (c.file_of.ensures k.old k.text k.told)

pub slice_bounds-write_all-end-in-Ok : goal.slice_bounds-write_all-end-in-Ok
slice_bounds-write_all-end-in-Ok g c =
    let k = c.requires.knows in sym (length-take-le _ _ (file_fits c.in-Ok.is (c.file_of.ensures k.old k.text k.told)))
