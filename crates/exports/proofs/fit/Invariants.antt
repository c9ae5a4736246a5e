-- `exports::fit`: the first i values are written, as far as they fit.
use Rattle.std.specs.Prelude.{◌≡◌}
use Rattle.exports.specs.Fitting.{over}
use Rattle.exports.proofs.fit.Given as goal

abbrev pub invariant-loop-i : goal.invariant-loop-i
invariant-loop-i g l = l.cells ≡ over l.blank l.initial.cells l.values l.i
