-- `costs::costs` meets its contract: a rule that mentions nothing on the list is settled, and behind the list all are.
use native.Mathlib.Omega.{arith}
use Prim.Native.Nat.{◌<◌, ◌^◌}
use mathlib.Core.Path.{sym, ap, ◌∙◌, subst}
use Rattle.sets.specs.Operations.{union}
use Rattle.costs.specs.Settled.{stands_costed}
use Rattle.costs.proofs.Listing.{left, spans, list_begins, list_goes, list_ends, list_less}
use Rattle.std.proofs.Common.{rules}
use Rattle.costs.proofs.costs.Goals as goal

pub visit_row-list-requires : goal.visit_row-list-requires
visit_row-list-requires c = record {
  shaped = c.rule_count.ensures.shaped;
  mentions_of = c.requires.mentions_of;
  row_bound = omega arith;
  spans = spans c.requires.mentions_of c.rule_count.ensures.value;
  held = c.begin_nonterminals.ensures.held;
}

pub loop-list-init : goal.loop-list-init
loop-list-init c = list_begins c.rule_count.ensures.shaped c.begin_nonterminals.ensures c.requires.mentions_of c.visit_row-list.ensures

pub greatest-k-requires : goal.greatest-k-requires
greatest-k-requires c = c.loop-list-test.true

pub visit_row-fallen-requires : goal.visit_row-fallen-requires
visit_row-fallen-requires c = record {
  shaped = c.rule_count.ensures.shaped;
  mentions_of = c.requires.mentions_of;
  row_bound = omega (arith, c.from.ensures, c.greatest-k.ensures.below);
  spans = spans c.requires.mentions_of c.rule_count.ensures.value;
  held = c.loop-list.invariant.held;
}

pub without-requires : goal.without-requires
without-requires c = record {
  i_bound = c.greatest-k.ensures.below;
  i_value = c.greatest-k.ensures.held;
}

pub loop-list-smaller : goal.loop-list-smaller
loop-list-smaller c =
    let is = c.union-list.ensures ∙ ap (λ n. union n c.visit_row-fallen.result) c.without.ensures in
    let small : c.union-list.result < 2 ^ 64 = search rules in
    subst (λ n. left c.visit_row-fallen.new.table n < left c.loop-list.table c.loop-list.list) (sym is)
    (list_less c.greatest-k.ensures c.visit_row-fallen.ensures (subst (λ n. n < 2 ^ 64) is small))

pub loop-list-preserved : goal.loop-list-preserved
loop-list-preserved c =
    rw c.union-list.ensures (rw c.without.ensures
    (list_goes c.requires.mentions_of c.loop-list.invariant c.greatest-k.ensures (rw c.from.ensures at c.visit_row-fallen.ensures)))

pub shape_of-table : goal.shape_of-table
shape_of-table c = c.loop-list.invariant.held.size ∙ sym c.requires.blank.size

pub returns : goal.returns
returns c = stands_costed _ _ c.rule_count.ensures.shaped (list_ends c.loop-list.invariant (omega (arith, c.loop-list-test.false)))
