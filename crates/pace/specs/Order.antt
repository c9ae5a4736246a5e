-- Two ways to split an order of numbers.
use Rattle.std.specs.Prelude.{◌≡◌, ℕ, ◌+◌, ◌<◌, ◌≤◌, ◌⊎◌}
use Rattle.std.proofs.Common.{subst, inl, inr, ⊎_elim, arith}
use Rattle.std.proofs.Math.Decide.{dec_lt}

decided : {m n : ℕ} → Dec (m < n) → (m < n) ⊎ (n ≤ m)
decided (yes l) = inl l
decided (no l) = inr (omega arith)

pub below_or_not : (m n : ℕ) → (m < n) ⊎ (n ≤ m)
below_or_not m n = decided (dec_lt m n)

-- What holds below n and at n holds below n + 1.
pub below_next : (P : ℕ → Type 0) (i n : ℕ) → i < n + 1 → (i < n → P i) → P n → P i
below_next P i n l f h = ⊎_elim f (λ g. let e : n ≡ i = omega arith in subst P e h) (below_or_not i n)
