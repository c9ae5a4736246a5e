-- Fewer cycles than places: a place closes at most one, and the first none. So the counts stay small.
use Rattle.std.specs.Prelude.{◌≡◌, ℕ, ◌+◌, ◌≤◌, Bool, true, false, cond, refl, Option, Some, None}
use Rattle.std.proofs.Common.{arith}
use Rattle.grammar.proofs.Theory.FewCycles.{time_most}
use Rattle.pace.specs.Watch.{Few, Small, spoiled_by, counted, closed_by, opened_by, step_by}
use Rattle.pace.specs.declared.Watch.{Watch}

pub none_some : {t : ℕ} → ◌≡◌ {A = Option ℕ} None (Some t) → ⊥
none_some e = cc

few_spoiled : {b : ℕ} (edited : Bool) (w : Watch) → Few b w → Few b (cond edited (spoiled_by w) w)
unfolding spoiled_by
few_spoiled true w f = record { count = f.count; sum = f.sum; started = λ t e. absurd (none_some e) }
few_spoiled false w f = f

-- One place more closes one cycle at most.
few_more : {b : ℕ} (w : Watch) → Few b w → Few (b + 1) w
few_more w f = record { count = omega (arith, f.count); sum = f.sum; started = λ t e. omega arith }

few_close : {b : ℕ} (tick : ℕ) (w : Watch) → Few b w → Few (b + 1) (closed_by tick w)
unfolding closed_by
few_close {b} tick w f = go w.since refl
  where
    go : (q : Option ℕ) → w.since ≡ q → Few (b + 1) (counted q tick w)
    go (Some since) e =
        let some = f.started since e in
        record {
          count = omega (arith, f.count);
          sum = omega (arith, f.sum, time_most since tick);
          started = λ t e. absurd (none_some e);
        }
    go None e = few_more w f

few_closed : {b : ℕ} (closes : Bool) (tick : ℕ) (w : Watch) → Few b w → Few (b + 1) (cond closes (closed_by tick w) w)
few_closed true tick w f = few_close tick w f
few_closed false tick w f = few_more w f

few_opened : (b : ℕ) (opens : Bool) (tick : ℕ) (w : Watch) → Few (b + 1) w → Few (b + 1) (cond opens (opened_by tick w) w)
unfolding opened_by
few_opened b true tick w f = record { count = f.count; sum = f.sum; started = λ t e. omega arith }
few_opened b false tick w f = f

pub few_next : {b : ℕ} (edited closes opens : Bool) (tick : ℕ) (w : Watch) → Few b w
    → Few (b + 1) (step_by edited closes opens tick w)
unfolding step_by
few_next {b} edited closes opens tick w f =
    let spoiled = cond edited (spoiled_by w) w in
    let closed = cond closes (closed_by tick spoiled) spoiled in
    few_opened b opens tick closed (few_closed closes tick spoiled (few_spoiled edited w f))

pub few_start : Few 0 (record { since = None; count = 0; sum = 0 })
few_start = record { count = omega arith; sum = omega arith; started = λ t e. absurd (none_some e) }

-- A log has at most 4,096 places.
pub few_small : {b : ℕ} {w : Watch} → b ≤ 4096 → Few b w → Small w
few_small l f = record { count = omega (arith, f.count); sum = f.sum }
