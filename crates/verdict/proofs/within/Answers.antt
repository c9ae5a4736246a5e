-- `verdict::within` meets its contract: all of these entries are at most the limit.
use native.Mathlib.Omega.{arith}
use Prim.Native.Nat.{ℕ, ◌+◌, ◌-◌, ◌<◌, ◌≤◌}
use mathlib.Core.Path.{◌≡◌, ◌∙◌}
use mathlib.Core.Bool.{Bool, true, false}
use mathlib.Core.List.{List}
use lib.ListN.{length, get_or, take, drop, length-drop}
use lib.Seq.{length-take-le, get_or-take, get_or-drop}
use Rattle.grammar.specs.Words.{nonterminal_count}
use borrow.Author.Tests.{tests}
use Rattle.std.specs.Bool.{MatchBool}
use Rattle.std.specs.List.{AllWithin, HoldsAt}
use Rattle.std.proofs.Common.{rules}
use Rattle.std.proofs.lemmas.Iterator.{cases_from_all, YieldsList-from_slice}
use Rattle.base.specs.Telling.{Tells, told, denied, tells_as}
use Rattle.verdict.proofs.within.Goals as goal

module _ (from n limit : ℕ) (costs : List ℕ) (fits : from + n ≤ length costs) where
  abbrev part : List ℕ
  part = take n (drop from costs)

  size : length part ≡ n
  size = length-take-le n (drop from costs) (omega (arith, length-drop from costs))

  at : (k : ℕ) → k < n → get_or part k 0 ≡ get_or costs (from + k) 0
  at k h = get_or-take n (drop from costs) k 0 h ∙ get_or-drop from costs k 0

  -- So many entries from one on are at most the limit, or one of them is over it.
  entries : (r : Bool)
      → MatchBool r (AllWithin (λ x. x ≤ limit) part 0 (length part)) ((k : ℕ) × (k < length part) × HoldsAt (λ x. limit < x) part k)
      → Tells ((k : ℕ) → k < n → get_or costs (from + k) 0 ≤ limit) r
  entries true all = told (λ k h. omega (arith, all k 0 (omega arith) (omega (arith, size)), at k h))
  entries false one =
      denied
      (λ f.
      let inside : one.0 < n = omega (arith, one.1, size) in
      omega (arith, one.2 0, f one.0 inside, at one.0 inside))

pub returns : goal.returns
returns c =
    let n = 64 + c.nonterminal_count-count.result - 64 in
    let same : n ≡ nonterminal_count c.args.rules.now = omega (arith, c.nonterminal_count-count.ensures.value) in
    let fits : 64 + n ≤ length c.args.costs.now =
    omega (arith, same, c.nonterminal_count-count.ensures.shaped.nonterminals_high, c.requires.size) in
    let cases = cases_from_all _ _ _ (λ x. x ≤ c.args.limit) (λ x. c.args.limit < x) c.all.ensures.ran
    (YieldsList-from_slice (take n (drop 64 c.args.costs.now)) cc) (λ x q k. search (rules, tests)) (λ x q k. search (rules, tests)) in
    tells_as (λ f k h. f k (omega arith)) (λ f k h. f k (omega arith)) (entries 64 n c.args.limit c.args.costs.now fits c.all.result cases)
