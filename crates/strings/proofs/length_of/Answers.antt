-- `strings::length_of` meets its contract, by the two laws of `length_in`.
use native.Mathlib.Omega.{arith}
use Rattle.strings.specs.Laws.{length_token, length_other}
use mathlib.Core.Path.{sym}
use native.Mathlib.Omega.{arith}
use Rattle.strings.proofs.length_of.Goals as goal

pub returns-then-symbol-lt64 : goal.returns-then-symbol-lt64
returns-then-symbol-lt64 c = sym (length_token _ _ c.if-symbol-lt64.true)

pub returns : goal.returns
returns c = sym (length_other _ _ (omega (arith, c.if-symbol-lt64.false)))
