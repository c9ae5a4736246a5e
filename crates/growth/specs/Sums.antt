-- The sum of a list of numbers, by which a table is ranked: a set that gains a member is a larger number, so the sum of sets
-- rises. Then what is known of a list that is filled from the front.
use Rattle.std.specs.Prelude.{ℕ, suc, ◌+◌, ◌*◌, ◌^◌, ◌≤◌, ◌<◌, ◌≡◌, List, [], ◌∷◌, length, get_or, set, sum}
use Rattle.std.proofs.Common.{sym, ap, subst, arith, below_more, suc-mul, mul-le-mul_right, get_or-set_same, get_or-set_other, Fits}
use Rattle.std.proofs.lemmas.List.Sums.{sum_by-cons}
use Rattle.std.specs.Int.{w64}

-- Where no element is above b, the sum is at most b for each.
pub sum_bound : (l : List ℕ) (b : ℕ) → ((i : ℕ) → get_or l i 0 ≤ b) → sum l ≤ length l * b
sum_bound [] b f = omega arith
sum_bound (x ∷ l) b f =
    let rest = sum_bound l b (λ i. f (suc i)) in
    let head = f 0 in
    omega (arith, sum_by-cons (λ y. y) x l, suc-mul (length l) b)

-- A list that is filled from the front, one element a turn: what is known of each element in front of p.
pub filled_more : (P : ℕ → ℕ → Type 0) (l : List ℕ) (p v : ℕ) → p < length l → ((q : ℕ) → q < p → P q (get_or l q 0)) → P p v
    → (q : ℕ) → q < p + 1 → P q (get_or (set l p v) q 0)
filled_more P l p v h f g =
    below_more (λ q. P q (get_or (set l p v) q 0)) p
    (λ q below. subst (P q) (sym (get_or-set_other l p q v 0 (λ same. omega arith))) (f q below))
    (subst (P p) (sym (get_or-set_same l p v 0 h)) g)

-- Loops end: the sum of 64 sets stays below 64 * 2 ^ 64.
pub sum_below : (l : List ℕ) → length l ≡ 64 → ((i : ℕ) → Fits w64 (get_or l i 0)) → sum l ≤ 64 * 2 ^ 64
sum_below l e f = subst (λ n. sum l ≤ n * 2 ^ 64) e (sum_bound l (2 ^ 64) (λ i. let g = (f i).fits in omega arith))

-- Of two numbers the first decides, the second where the first is the same.
pub first_less : (limit a b x y : ℕ) → b < a → y < limit → b * limit + y < a * limit + x
first_less limit a b x y less small =
    let more : suc b * limit ≤ a * limit = mul-le-mul_right limit less in omega (arith, suc-mul b limit)

pub second_less : (limit a b x y : ℕ) → b ≡ a → y < x → b * limit + y < a * limit + x
second_less limit a b x y same less = omega (arith, ap (λ n. n * limit) same)
