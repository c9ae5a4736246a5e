-- `correction::pop` meets its contract: behind each symbol that came, one more is popped.
use Rattle.std.proofs.Common.{◌-◌, ◌<◌, ℕ, List, get_or, refl, sym, ◌∙◌, arith}
use Rattle.correction.specs.Downwards.{Below}
use Rattle.correction.specs.Popping.{popped_none, popped_drop, popped_insert, popped_all, pop_symbol, pop_counts, pop_record}
use Rattle.correction.proofs.pop.Goals as goal
use Rattle.correction.proofs.pop.Goals.{then-empty, else-empty}

-- The symbol that is read is the one behind k others.
down : (stack : List ℕ) (height k : ℕ) → k < height → Below stack height k (get_or stack (height - 1 - k) 0)
down stack height k within = record { within = within; is = refl }

pub loop-k-init : goal.loop-k-init
loop-k-init c = popped_none _ _ _ _ _

pub bounds-stack-p : goal.bounds-stack-p
bounds-stack-p c = omega (arith, c.requires.cells, c.requires.within, c.loop-k-test.true)

pub empty-requires : goal.empty-requires
empty-requires c =
    (pop_symbol c.requires c.loop-k-test.true c.loop-k.invariant (down _ _ _ (omega (arith, c.requires.within, c.loop-k-test.true))), c.requires.table)

pub dropped-q-requires : goal.dropped-q-requires
dropped-q-requires c = pop_counts c.requires c.loop-k-test.true c.loop-k.invariant

pub write_record-requires : goal.write_record-requires
write_record-requires c = pop_record c.requires c.loop-k-test.true c.loop-k.invariant

pub inserted-q-requires : goal.inserted-q-requires
inserted-q-requires c = pop_counts c.requires c.loop-k-test.true c.loop-k.invariant

pub loop-k-preserved : goal.loop-k-preserved
loop-k-preserved c =
    let here = down c.args.stack.now c.args.p.height c.loop-k.k (omega (arith, c.requires.within, c.loop-k-test.true)) in
    elim c.if-empty.branch [
      | then-empty w ↦
          rw (w.q-is, w.edits-is)
          (popped_drop here c.loop-k.invariant w.dropped-q.ensures (sym c.empty.ensures ∙ w.if-empty.true))
      | else-empty w ↦
          rw (w.q-is, w.edits-is)
          (popped_insert here c.loop-k.invariant w.inserted-q.ensures (sym c.empty.ensures ∙ w.if-empty.false) w.write_record.ensures)
    ]

pub returns : goal.returns
returns c = popped_all (omega (arith, c.loop-k-test.false, c.loop-k.auto.k-end)) c.loop-k.invariant
