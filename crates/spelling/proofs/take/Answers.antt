-- `spelling::take` meets its contract: the bytes in front of the index are taken.
use native.Mathlib.Omega.{arith}
use Rattle.spelling.specs.Steps.{took_none, took_more, took_all}
use Rattle.spelling.proofs.take.Goals as goal

pub loop-byte-init : goal.loop-byte-init
loop-byte-init c = took_none c.args.part.now _ _

pub loop-byte-preserved : goal.loop-byte-preserved
loop-byte-preserved c = took_more c.args.part.now c.loop-byte.byte-index (omega arith) c.loop-byte.invariant c.step-reached.ensures

pub returns : goal.returns
returns c = took_all c.args.part.now c.loop-byte.byte-index (omega arith) c.loop-byte.invariant
