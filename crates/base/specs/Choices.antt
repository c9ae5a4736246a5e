-- Two numbers are the same or not, and one is below the other or not.
use Rattle.std.specs.Prelude.{ℕ, ◌+◌, ◌≤◌, ◌<◌, ◌≡◌, ◌⊎◌}
use Rattle.std.proofs.Common.{inl, inr, arith}
use Rattle.std.proofs.Math.Decide.{dec_lt}

pub below_or : (a b : ℕ) → (a < b) ⊎ (b ≤ a)
below_or a b = elim (dec_lt a b) [ yes h ↦ inl h | no h ↦ inr (omega arith) ]

pub same_or : (a b : ℕ) → (a ≡ b) ⊎ (a ≡ b → ⊥)
same_or a b =
    elim (dec_lt a b) [
      | yes h ↦ inr (λ e. omega arith)
      | no h ↦ elim (dec_lt b a) [ yes g ↦ inr (λ e. omega arith) | no g ↦ inl (omega arith) ]
    ]

-- What is below p + 1 is below p, or is p.
pub below_or_at : (q p : ℕ) → q < p + 1 → (q < p) ⊎ (q ≡ p)
below_or_at q p h = elim (dec_lt q p) [ yes g ↦ inl g | no g ↦ inr (omega arith) ]
