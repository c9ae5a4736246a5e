-- `mentions::gather` meets its contract: the rules in front of p are in their rows.
use native.Mathlib.Omega.{arith}
use Prim.Native.Nat.{◌<◌, ◌^◌}
use mathlib.Core.Path.{◌≡◌, refl, sym, ◌∙◌}
use Rattle.grammar.specs.Words.{rule_count}
use Rattle.mentions.specs.Gathering.{gather_begins, gather_goes, use_begins, use_goes}
use Rattle.std.proofs.Common.{rules}
use Rattle.mentions.proofs.gather.Goals as goal

pub loop-p-init : goal.loop-p-init
loop-p-init c = (gather_begins c.requires.clear c.requires.wide, use_begins c.requires.blank, refl, λ k. omega (arith, c.requires.blank.zeros k))

pub mention-named-requires : goal.mention-named-requires
mention-named-requires c = record {
  p_bound = omega (arith, c.rule_count-p-end.ensures.value);
  wide = c.loop-p.invariant.0.wide;
}

pub put_plain-requires : goal.put_plain-requires
put_plain-requires c = omega (arith, c.rule_count-p-end.ensures.value, c.mention-named.ensures.size, c.loop-p.invariant.0.wide)

pub left_of-requires : goal.left_of-requires
left_of-requires c = omega (arith, c.rule_count-p-end.ensures.value)

pub add_to-requires : goal.add_to-requires
add_to-requires c = omega (arith, c.left_of.ensures.left.small, c.loop-p.invariant.1.size)

pub loop-p-preserved : goal.loop-p-preserved
loop-p-preserved c =
    let small : c.mention-named.result < 2 ^ 64 = search rules in (
      gather_goes c.rule_count-p-end.ensures.shaped c.loop-p.invariant.0 (omega (arith, c.rule_count-p-end.ensures.value)) small
          c.mention-named.ensures c.put_plain.ensures,
      use_goes c.loop-p.invariant.1 c.left_of.ensures.left
          c.mention-named.ensures (rw c.from.ensures at c.add_to.ensures),
      c.put_plain.ensures.size ∙ (c.mention-named.ensures.size ∙ c.loop-p.invariant.2),
      λ k. (c.type_inv.uses k).fits,
    )

pub shape_of-table : goal.shape_of-table
shape_of-table c = c.loop-p.invariant.2

pub shape_of-uses : goal.shape_of-uses
shape_of-uses c = c.loop-p.invariant.1.size ∙ sym c.requires.blank.size

pub returns : goal.returns
returns c =
    let all : c.loop-p.p ≡ rule_count c.args.rules.now = omega (arith, c.rule_count-p-end.ensures.value, c.loop-p.auto.p-end) in
    record { mentions_of = rw (← all) c.loop-p.invariant.0; uses_of = rw (← all) c.loop-p.invariant.1; fits = c.loop-p.invariant.3 }
