-- The sum over a right side; and sums of which each member is no more than another's.
use Prim.Native.Nat.{ℕ, ◌+◌, ◌*◌, ◌≤◌, ◌<◌}
use mathlib.Core.Path.{◌≡◌, refl, ap, subst, ◌∙◌}
use mathlib.Core.List.{List, [], ◌∷◌, ◌++◌, Memᴰ}
use native.Mathlib.Omega.{arith}
use lib.ListN.{length, take, get_or}
use Rattle.std.proofs.lemmas.List.{take_more, take_all}
use Rattle.grammar.specs.Theory.Closed.{total}

-- What the first i symbols cost together.
pub record Summed (cost : ℕ → ℕ) (α : List ℕ) (i sum : ℕ) : Type 0 where
  pub is : sum ≡ total cost (take i α)
  pub most : sum ≤ 1000000 * i

pub sum_none : (cost : ℕ → ℕ) (α : List ℕ) → Summed cost α 0 0
unfolding total
sum_none cost α = record { is = refl; most = omega arith }

total_append : (cost : ℕ → ℕ) (α : List ℕ) (X : ℕ) → total cost (α ++ (X ∷ [])) ≡ total cost α + cost X
unfolding total
total_append cost [] X = omega arith
total_append cost (Y ∷ α) X = omega (arith, total_append cost α X)

pub sum_more : {cost : ℕ → ℕ} (α : List ℕ) {i sum : ℕ} → Summed cost α i sum → i < length α → cost (get_or α i 0) ≤ 1000000
    → Summed cost α (i + 1) (sum + cost (get_or α i 0))
sum_more {cost} α {i} s below limit =
    record {
      is = omega (arith, s.is, ap (total cost) (take_more α i 0 below), total_append cost (take i α) (get_or α i 0));
      most = omega (arith, s.most);
    }

pub sum_all : {cost : ℕ → ℕ} (α : List ℕ) {i sum : ℕ} → Summed cost α i sum → length α ≤ i → sum ≡ total cost α
sum_all {cost} α {i} s all = s.is ∙ ap (total cost) (take_all i α all)

-- ---- Sums side by side

pub total_no_more : (f g : ℕ → ℕ) (α : List ℕ) → ((X : ℕ) → Memᴰ X α → f X ≤ g X) → total f α ≤ total g α
unfolding total
total_no_more f g [] each = omega arith
total_no_more f g (X ∷ α) each =
    omega (arith, each X (Memᴰ.head refl), total_no_more f g α (λ Y m. each Y (Memᴰ.tail m)))

-- One member is less.
pub total_less : (f g : ℕ → ℕ) (α : List ℕ) (X : ℕ) → Memᴰ X α → ((Y : ℕ) → Memᴰ Y α → f Y ≤ g Y) → f X < g X
    → total f α < total g α
unfolding total
total_less f g (Y ∷ α) X (Memᴰ.head e) each less =
    let here : f Y < g Y = subst (λ Z. f Z < g Z) e less in
    omega (arith, total_no_more f g α (λ Z m. each Z (Memᴰ.tail m)))
total_less f g (Y ∷ α) X (Memᴰ.tail m) each less =
    omega (arith, each Y (Memᴰ.head refl), total_less f g α X m (λ Z i. each Z (Memᴰ.tail i)) less)
total_less f g [] X x3 each less = elim x3 [ ]

pub total_same : (f g : ℕ → ℕ) (α : List ℕ) → ((X : ℕ) → Memᴰ X α → f X ≡ g X) → total f α ≡ total g α
total_same f g α each =
    let up = total_no_more f g α (λ X m. omega (arith, each X m)) in
    let down = total_no_more g f α (λ X m. omega (arith, each X m)) in
    omega arith
