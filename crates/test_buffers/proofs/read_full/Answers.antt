-- `test_buffers::read_full` meets its contract: each read takes the next bytes and puts them behind those before.
use Rattle.std.proofs.Common.{rules, sym, subst}
use Rattle.std.specs.Io.KnownBytes.{Consumes}
use Rattle.std.proofs.KnownBytes.{Consumes-trans}
use Rattle.test_buffers.proofs.Taking.{front_grows}
use Rattle.test_buffers.proofs.read_full.Goals as goal

pub loop-read-preserved : goal.loop-read-preserved
loop-read-preserved g c =
    let grown = front_grows c.loop-read.read _ c.in-Ok.more c.loop-read.buffer c.read.new.buf c.loop-read.invariant.0 c.in-Ok.ensures.bound.0 in
    (search rules, search rules, subst (Consumes _ _) (sym grown) (Consumes-trans _ _ _ _ _ c.loop-read.invariant.2 c.in-Ok.ensures.bytes.0))
