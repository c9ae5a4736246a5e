-- `mentions::mention` meets its contract: rule p is in the rows of the symbols in front of the index.
use native.Mathlib.Omega.{arith}
use Prim.Native.Nat.{ℕ, ◌<◌, ◌≤◌}
use mathlib.Core.Path.{◌≡◌, sym, subst, ◌∙◌}
use mathlib.Core.List.{List}
use lib.ListN.{length, get_or}
use Rattle.std.proofs.Common.{take, rules}
use Rattle.std.proofs.lemmas.List.{take_more, take_all}
use Rattle.grammar.specs.Words.{right_side}
use Rattle.shape.specs.Accessors.{RightOf}
use Rattle.mentions.specs.Putting.{mention_begins, mention_goes}
use Rattle.mentions.proofs.mention.Goals as goal

-- The symbols that the loop goes through are small, and all are the right side, where they are what `right_side` gave.
small : {ws xs ys : List ℕ} {p i : ℕ} → RightOf ws p ys → i < length xs → xs ≡ ys → get_or xs i 0 < 128
small {i = i} r l same = subst (λ (zs : List ℕ). i < length zs → get_or zs i 0 < 128) (sym same) (r.small i) l

whole : {ws xs ys : List ℕ} {p n : ℕ} → RightOf ws p ys → length xs ≤ n → xs ≡ ys → take n xs ≡ right_side ws p
whole r end same = take_all _ _ end ∙ (same ∙ r.is)

-- ---- The answers

pub loop-x-init : goal.loop-x-init
loop-x-init c = mention_begins

pub name-named-requires : goal.name-named-requires
name-named-requires c = record {
  has_word = omega (arith, c.loop-x.invariant.size, c.requires.p_bound, c.requires.wide);
  x_bound = small c.right_side-symbols.ensures.right c.loop-x-test.true (search (rules, take_all));
}

pub loop-x-preserved : goal.loop-x-preserved
loop-x-preserved c =
    rw (take_more _ c.loop-x.x-index 0 c.loop-x-test.true) (mention_goes (take c.loop-x.x-index _) c.loop-x.invariant c.name-named.ensures)

pub shape_of-table : goal.shape_of-table
shape_of-table c = c.loop-x.invariant.size

pub returns : goal.returns
returns c = rw (← (whole c.right_side-symbols.ensures.right c.loop-x-test.false (search (rules, take_all)))) c.loop-x.invariant
