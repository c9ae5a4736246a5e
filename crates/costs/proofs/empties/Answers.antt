-- `costs::empties` meets its contract: the mask has what can be empty of the nonterminals in front of k.
use native.Mathlib.Omega.{arith}
use Rattle.std.proofs.Common.{rules}
use Prim.Native.Nat.{◌<◌}
use Rattle.grammar.specs.Words.{nonterminal_count}
use Rattle.costs.specs.Empty.{mask_begins, mask_free, mask_paid, mask_ends}
use Rattle.costs.proofs.empties.Goals as goal
use Rattle.costs.proofs.empties.Goals.{then-free, else-free}

pub loop-k-init : goal.loop-k-init
loop-k-init c = mask_begins _

pub loop-k-preserved : goal.loop-k-preserved
loop-k-preserved c =
    let named : c.loop-k.k < nonterminal_count c.args.words.now = omega (arith, c.nonterminal_count-k-end.ensures) in
    elim c.if-free.branch [
      | then-free w ↦
          rw (w.mask-is, w.with-mask.ensures)
          (mask_free c.requires.shaped c.requires.costed named c.loop-k.invariant (search rules))
      | else-free w ↦
          rw w.mask-is
          (mask_paid c.requires.shaped c.requires.costed named c.loop-k.invariant (search rules))
    ]

pub returns : goal.returns
returns c = mask_ends c.loop-k.invariant (omega (arith, c.nonterminal_count-k-end.ensures, c.loop-k.auto.k-end))
