-- Tables that hold nothing: so many numbers, all 0.
--     blank_made     a table that was just made
--     blank_part     a part of such a table
use Rattle.std.specs.Prelude.{ℕ, zero, suc, ◌+◌, ◌≤◌, ◌≡◌, refl, List, [], ◌∷◌, length, get_or, take, drop, replicate}
use Rattle.std.proofs.Common.{◌∙◌, arith, length-drop, get_or-drop, length-take-le}
use Rattle.std.proofs.lemmas.List.{length-replicate}

pub record Blank (n : ℕ) (l : List ℕ) : Type 0 where
  pub size : length l ≡ n
  pub zeros : (i : ℕ) → get_or l i 0 ≡ 0

-- A list of zeros has nothing else.
pub all_zero : (n k : ℕ) → ◌≡◌ {A = ℕ} (get_or (replicate n 0) k 0) 0
all_zero zero k = refl
all_zero (suc n) zero = refl
all_zero (suc n) (suc k) = all_zero n k

pub blank_made : (n : ℕ) → Blank n (replicate n 0)
blank_made n = record { size = length-replicate {A = ℕ} n 0; zeros = all_zero n }

zeros_front : (k : ℕ) (l : List ℕ) → ((i : ℕ) → get_or l i 0 ≡ 0) → (i : ℕ) → get_or (take k l) i 0 ≡ 0
zeros_front zero l z i = refl
zeros_front (suc k) [] z i = refl
zeros_front (suc k) (x ∷ l) z zero = z 0
zeros_front (suc k) (x ∷ l) z (suc i) = zeros_front k l (λ j. z (suc j)) i

pub blank_part : {l : List ℕ} {n : ℕ} (a k : ℕ) → Blank n l → a + k ≤ n → Blank k (take k (drop a l))
blank_part {l} a k b fits =
    record {
      size = length-take-le k (drop a l) (omega (arith, length-drop a l, b.size));
      zeros = zeros_front k (drop a l) (λ i. get_or-drop a l i 0 ∙ b.zeros (a + i));
    }
