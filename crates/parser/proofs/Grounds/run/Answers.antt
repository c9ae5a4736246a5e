use native.Mathlib.Omega.{arith}
use lib.ListN.{length-set}
use Rattle.parser.specs.Runs.{runs_begin, turn_can, runs_on, runs_refused, runs_end}
use Rattle.std.proofs.Common.{rules, ◌≡◌, Err}
use Rattle.parser.proofs.Grounds.run.Goals as goal

pub bounds-stack-0 : goal.bounds-stack-0
bounds-stack-0 c = omega (arith, c.requires.cells)

pub bounds-stack-1 : goal.bounds-stack-1
bounds-stack-1 c = simp length-set (omega (arith, c.requires.cells))

pub loop-p-init : goal.loop-p-init
loop-p-init c = runs_begin c.args.stack.now _ _ c.requires c.new-p.ensures

pub turn-requires : goal.turn-requires
turn-requires c = turn_can c.requires.setting c.loop-p.invariant c.loop-p-test.true

pub loop-p-smaller : goal.loop-p-smaller
loop-p-smaller c =
    let on = runs_on c.requires.setting c.loop-p.invariant _ _ _ c.turn.ensures c.in_ok-p.was c.turn.auto.stack in
    omega (arith, on.1, on.2)

pub loop-p-preserved : goal.loop-p-preserved
loop-p-preserved c = (runs_on c.requires.setting c.loop-p.invariant _ _ _ c.turn.ensures c.in_ok-p.was c.turn.auto.stack).0

pub returns-in_err-p : goal.returns-in_err-p
returns-in_err-p c =
    let told : c.from_residual.result ≡ Err c.in_err-p.field-0.0 = search rules in
    rw told (runs_refused c.requires.setting c.loop-p.invariant _ _ _ c.turn.ensures c.in_err-p.was)

pub returns : goal.returns
returns c = runs_end c.requires.setting c.loop-p.invariant c.loop-p-test.false
