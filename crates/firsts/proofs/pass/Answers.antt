-- `firsts::pass` meets its contract: a terminal, a nonterminal that can be empty, any other.
use Rattle.std.proofs.Common.{sym, ◌∙◌}
use Rattle.firsts.specs.Opens.{with_token, with_past, with_stop}
use Rattle.firsts.proofs.pass.Goals as goal

pub returns-then-x-lt64 : goal.returns-then-x-lt64
returns-then-x-lt64 c = rw c.with.ensures (with_token _ _ _ _ c.if-x-lt64.true)

pub returns-then-has : goal.returns-then-has
returns-then-has c =
    rw (c.union.ensures, c.from.ensures) (with_past _ _ _ _ c.if-x-lt64.false (sym c.has.ensures ∙ c.if-has.true))

pub returns : goal.returns
returns c = rw c.from.ensures (with_stop _ _ _ _ c.if-x-lt64.false (sym c.has.ensures ∙ c.if-has.false))
