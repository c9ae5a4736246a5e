-- `correction::seek` meets its contract: behind k symbols that are left stands the one that comes behind the height less k others.
use Prim.Native.Nat.{ℕ, ◌<◌, ◌≤◌, ◌+◌, ◌-◌}
use native.Mathlib.Omega.{arith}
use mathlib.Core.Path.{◌≡◌, sym, ap, ◌∙◌, subst}
use mathlib.Core.List.{List}
use lib.ListN.{get_or}
use Rattle.grammar.specs.Theory.Tables.{Sized, limit_by}
use Rattle.moves.specs.Tests.{begins_by}
use Rattle.correction.specs.Searching.{Walked, token_below, symbol_low, seek_none, seek_more, seek_fits, seek_dear, seek_all}
use Rattle.correction.proofs.Hits.{seek_hit}
use Rattle.correction.proofs.seek.Goals as goal

-- The symbol that comes behind the height less k others.
down : {height k : ℕ} → 0 < k → k ≤ height → k - 1 ≡ height - 1 - (height - k)
down some most = omega (arith, some, most)

cell_down : (stack : List ℕ) {height k : ℕ} → 0 < k → k ≤ height → get_or stack (k - 1) 0 ≡ get_or stack (height - 1 - (height - k)) 0
cell_down stack some most = ap (λ j. get_or stack j 0) (down some most)

inside : {height k : ℕ} → 0 < k → k ≤ height → height - k < height
inside some most = omega (arith, some, most)

-- A walk that has passed no symbol.
at_front : {S : Sized} {prices σ : List ℕ} {t i : ℕ} → i ≡ 0 → Walked S prices σ t 0 0 → Walked S prices σ t i 0
at_front {S} {prices} {σ} {t} e w = subst (λ j. Walked S prices σ t j 0) (sym e) w

pub offset_bounds-prices-from : goal.offset_bounds-prices-from
offset_bounds-prices-from c = omega (arith, c.from.ensures, token_below c.requires _ _ c.token_at-t.ensures)

pub bounds-prices-from : goal.bounds-prices-from
bounds-prices-from c =
    omega (
      arith,
      c.from.ensures,
      token_below c.requires _ _ c.token_at-t.ensures,
      c.requires.known.shared.prices_size,
    )

pub loop-k-init : goal.loop-k-init
loop-k-init c = at_front (omega arith) (seek_none c.requires _ _ c.token_at-t.ensures)

pub returns-then-limit-cost : goal.returns-then-limit-cost
returns-then-limit-cost c =
    seek_dear c.requires _ _ c.token_at-t.ensures _ _ _ (ap (λ k. limit_by c.args.prices.now k) c.from.ensures)
    c.if-limit-cost.true c.loop-k.invariant

pub bounds-stack-k : goal.bounds-stack-k
bounds-stack-k c = omega (arith, c.requires.cells, c.loop-k.auto.k, c.loop-k-test.true)

pub begins-requires : goal.begins-requires
begins-requires c =
    let low = symbol_low c.requires _ _ c.token_at-t.ensures _ (inside c.loop-k-test.true c.loop-k.auto.k) in (
      omega (arith, low, cell_down c.args.stack.now c.loop-k-test.true c.loop-k.auto.k),
      token_below c.requires _ _ c.token_at-t.ensures,
      omega (arith, c.requires.known.shared.sets_size),
    )

pub returns-then-begins : goal.returns-then-begins
returns-then-begins c =
    let place : c.args.height - 1 - (c.loop-k.k - 1) ≡ c.args.height - c.loop-k.k =
    omega (arith, c.loop-k-test.true, c.loop-k.auto.k) in
    let top = cell_down c.args.stack.now c.loop-k-test.true c.loop-k.auto.k in
    rw place (
    seek_hit c.requires _ _ c.token_at-t.ensures _ _ _ (inside c.loop-k-test.true c.loop-k.auto.k)
    (c.begins.ensures ∙ ap (λ x. begins_by c.args.masks.now x c.token_at-t.result) top)
    c.if-begins.true
    (ap (λ k. limit_by c.args.prices.now k) c.from.ensures) c.if-limit-cost.false c.loop-k.invariant
    )

pub bounds-prices-from-in-loop-k : goal.bounds-prices-from-in-loop-k
bounds-prices-from-in-loop-k c =
    omega (
      arith,
      c.from-in-loop-k.ensures,
      cell_down c.args.stack.now c.loop-k-test.true c.loop-k.auto.k,
      symbol_low c.requires _ _ c.token_at-t.ensures _ (inside c.loop-k-test.true c.loop-k.auto.k),
      c.requires.known.shared.prices_size,
    )

pub overflow_add-cost : goal.overflow_add-cost
overflow_add-cost c =
    let top = cell_down c.args.stack.now c.loop-k-test.true c.loop-k.auto.k in
    omega (
      arith,
      seek_fits c.requires _ _ c.token_at-t.ensures _ _ _ (inside c.loop-k-test.true c.loop-k.auto.k) (c.from-in-loop-k.ensures ∙ top) c.loop-k.invariant,
    )

pub loop-k-preserved : goal.loop-k-preserved
loop-k-preserved c =
    let next : c.args.height - (c.loop-k.k - 1) ≡ c.args.height - c.loop-k.k + 1 = omega (arith, c.loop-k-test.true, c.loop-k.auto.k) in
    let top = cell_down c.args.stack.now c.loop-k-test.true c.loop-k.auto.k in
    rw next (
    seek_more c.requires _ _ c.token_at-t.ensures _ _ _ (inside c.loop-k-test.true c.loop-k.auto.k)
    (c.begins.ensures ∙ ap (λ x. begins_by c.args.masks.now x c.token_at-t.result) top)
    c.if-begins.false
    (c.from-in-loop-k.ensures ∙ top)
    c.loop-k.invariant
    )

pub returns : goal.returns
returns c =
    let all : c.args.height ≤ c.args.height - c.loop-k.k = omega (arith, c.loop-k-test.false) in
    seek_all c.requires _ _ c.token_at-t.ensures _ _ all c.loop-k.invariant
