-- `listing::lines::Pen::text` meets its contract: what fits of the text is written (`put_part`).
use Rattle.std.proofs.Common.{◌+◌, arith, refl}
use borrow.Rule.Slice.PartMut.{Post-is}
use Rattle.listing.specs.Writing.{put_part}
use Rattle.listing.proofs.lines.Pen.text.Goals as goal

pub returns : goal.returns
returns c =
    let pen = c.args.self.now in
    record {
      same = refl;
      appends = rw (Post-is pen.at (pen.at + c.min-count.result) pen.out.now (omega arith))
          (put_part pen.within c.min-count.ensures c.copy_from_slice.ensures.after);
    }
