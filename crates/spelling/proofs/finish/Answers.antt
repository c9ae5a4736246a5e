-- `spelling::finish` meets its contract: each state at the end is a law of specs/Steps.antt.
use native.Mathlib.Omega.{arith}
use Rattle.spelling.specs.Steps.{finished_as, ends_between, ends_within, ends_stopped}
use Rattle.spelling.proofs.finish.Goals as goal

pub returns-in-Between : goal.returns-in-Between
returns-in-Between c = finished_as c.in-Between.is (ends_between _ (omega arith) c.fill_from.ensures)

pub returns-in-Within : goal.returns-in-Within
returns-in-Within c =
    finished_as c.in-Within.is
    (ends_within _ (omega arith) c.store.ensures c.saturating_add-all.ensures c.fill_from-in-Within.ensures)

pub returns-in-Stopped : goal.returns-in-Stopped
returns-in-Stopped c =
    finished_as c.in-Stopped.is
    (ends_stopped _ (omega arith) c.saturating_add.ensures c.fill_from-in-Stopped.ensures)
