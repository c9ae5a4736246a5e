-- `firsts::lead` meets its contract: the walk goes on behind a nonterminal that can be empty, and ends at any other symbol (`Leading`).
use Rattle.std.proofs.Common.{sym}
use Rattle.firsts.specs.Leading.{lead_at, lead_none, lead_token, lead_past, lead_stop, lead_ends}
use Rattle.firsts.proofs.lead.Goals as goal

pub returns-then-x-lt64 : goal.returns-then-x-lt64
returns-then-x-lt64 c =
    lead_ends c.requires.asked c.requires.p_bound c.left_of-k.ensures.left
    (lead_token c.requires.asked c.requires.p_bound c.left_of-k.ensures.left (lead_at _ c.loop-x-test.true c.loop-x.invariant)
    c.if-x-lt64.true c.with.ensures (rw c.from.ensures at c.add_to.ensures))

pub returns-then-not-has : goal.returns-then-not-has
returns-then-not-has c =
    lead_ends c.requires.asked c.requires.p_bound c.left_of-k.ensures.left
    (lead_stop c.requires.asked c.requires.p_bound c.left_of-k.ensures.left (lead_at _ c.loop-x-test.true c.loop-x.invariant)
    c.if-x-lt64.false c.with-in-loop-x.ensures (rw c.from-in-loop-x.ensures at c.add_to-in-loop-x.ensures) c.with-list.ensures
    (sym c.if-not-has.ensures))

pub loop-x-preserved : goal.loop-x-preserved
loop-x-preserved c =
    lead_past c.requires.asked c.requires.p_bound c.left_of-k.ensures.left (lead_at _ c.loop-x-test.true c.loop-x.invariant)
    c.if-x-lt64.false c.with-in-loop-x.ensures (rw c.from-in-loop-x.ensures at c.add_to-in-loop-x.ensures) c.with-list.ensures
    (sym c.if-not-has.ensures)

pub returns : goal.returns
returns c =
    lead_ends c.requires.asked c.requires.p_bound c.left_of-k.ensures.left (lead_none _ c.loop-x-test.false c.loop-x.invariant)
