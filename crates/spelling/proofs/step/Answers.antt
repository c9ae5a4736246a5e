-- `spelling::step` meets its contract: each state with a blank and with another byte is a law of specs/Steps.antt.
use native.Mathlib.Omega.{arith}
use Rattle.spelling.specs.Steps.{took_as, blank_between, blank_within, between_went_on, within_went_on, stays}
use Rattle.spelling.proofs.step.Goals as goal

pub returns-then-blank : goal.returns-then-blank
returns-then-blank c = took_as c.in-Between.is (blank_between _ (c.blank.ensures.yes c.if-blank.true))

pub returns-then-blank-2 : goal.returns-then-blank-2
returns-then-blank-2 c =
    let ends = c.blank-in-Within.ensures.yes c.if-blank-2.true in
    took_as c.in-Within.is (blank_within _ (omega arith) ends c.store.ensures c.saturating_add.ensures)

pub returns-else-blank : goal.returns-else-blank
returns-else-blank c =
    took_as c.in-Between.is
    (between_went_on _ _ (c.blank.ensures.no c.if-blank.false) c.go_on.ensures)

pub returns-else-blank-2 : goal.returns-else-blank-2
returns-else-blank-2 c =
    took_as c.in-Within.is
    (within_went_on _ _ (c.blank-in-Within.ensures.no c.if-blank-2.false) c.go_on-in-Within.ensures)

pub returns-in-Stopped : goal.returns-in-Stopped
returns-in-Stopped c = took_as c.in-Stopped.is (stays _ _)
