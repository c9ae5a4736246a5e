-- `growth::close_taking` meets its contract: what is not on the list is passed on. The measure falls with each set that is taken off it.
use Rattle.std.proofs.Common.{◌^◌, ◌<◌, ◌≤◌, ◌*◌, refl, ◌∙◌, rules, arith}
use Rattle.std.specs.Prelude.{sum}
use Rattle.growth.specs.Sums.{sum_below}
use Rattle.growth.specs.Closing.{close_begins, close_goes, close_ends, close_less}
use Rattle.growth.proofs.close_taking.Goals as goal

pub loop-waiting-init : goal.loop-waiting-init
loop-waiting-init g c =
    let small : c.args.list < 2 ^ 64 = search rules in
    (close_begins _ _ _ c.requires.sets_len c.requires.listed, small)

pub take-k-requires : goal.take-k-requires
take-k-requires g c = c.requires.takes.asks _ c.loop-waiting-test.true c.loop-waiting.invariant.1

pub bounds-feeds-at : goal.bounds-feeds-at
bounds-feeds-at g c =
    let below = c.requires.takes.below _ _ c.loop-waiting-test.true c.loop-waiting.invariant.1 c.take-k.ensures in
    omega (arith, below, c.from-at.ensures, c.requires.feeds_len)

pub bounds-sets-at : goal.bounds-sets-at
bounds-sets-at g c =
    let below = c.requires.takes.below _ _ c.loop-waiting-test.true c.loop-waiting.invariant.1 c.take-k.ensures in
    omega (arith, below, c.from-at.ensures, c.loop-waiting.invariant.0.size)

pub without-requires : goal.without-requires
without-requires g c = record {
  i_bound = c.requires.takes.below _ _ c.loop-waiting-test.true c.loop-waiting.invariant.1 c.take-k.ensures;
  i_value = c.requires.takes.held _ _ c.loop-waiting-test.true c.loop-waiting.invariant.1 c.take-k.ensures;
}

pub loop-waiting-smaller : goal.loop-waiting-smaller
loop-waiting-smaller g c =
    let held = c.requires.takes.held _ _ c.loop-waiting-test.true c.loop-waiting.invariant.1 c.take-k.ensures in
    let most : sum c.feed-grown.new.sets ≤ 64 * 2 ^ 64 = sum_below _ (c.feed-grown.ensures.same ∙ c.loop-waiting.invariant.0.size) c.type_inv.sets in
    let small : c.union-waiting.result < 2 ^ 64 = search rules in
    rw (c.union-waiting.ensures, c.without.ensures)
    (close_less _ _ held c.feed-grown.ensures most (rw (c.union-waiting.ensures, c.without.ensures) at small))

pub loop-waiting-preserved : goal.loop-waiting-preserved
loop-waiting-preserved g c =
    let held = c.requires.takes.held _ _ c.loop-waiting-test.true c.loop-waiting.invariant.1 c.take-k.ensures in
    let small : c.union-waiting.result < 2 ^ 64 = search rules in (
      rw (c.union-waiting.ensures, c.without.ensures)
          (close_goes _ c.loop-waiting.invariant.0 held refl refl (rw c.from-at.ensures at c.feed-grown.ensures)),
      small,
    )

pub returns : goal.returns
returns g c = close_ends c.loop-waiting.invariant.0 (omega (arith, c.loop-waiting-test.false))
