-- A walk down the stack from its top: the symbol that comes behind n others.
use Rattle.std.specs.Prelude.{ℕ, ◌+◌, ◌-◌, ◌≤◌, ◌<◌, ◌≡◌, List, length, get_or, take, reverse}
use Rattle.std.proofs.Common.{◌∙◌, ap, arith}
use Rattle.std.proofs.lemmas.List.{get_or-reverse, length-reverse, get_or-take, length-take, length-take-le}
use Rattle.std.proofs.lemmas.List.FromFn.{get_or-enumerate_from, length-enumerate_from}
use Rattle.std.proofs.lemmas.Grind.{get_or_default_zero}
use Rattle.std.specs.List.{enumerate_from}

-- Behind n symbols of a stack of this height comes x.
pub record Below (stack : List ℕ) (height n x : ℕ) : Type 0 where
  pub within : n < height
  pub is : x ≡ get_or stack (height - 1 - n) 0

module _ (stack : List ℕ) (height : ℕ) (cells : height ≤ length stack) where
  pub all_down : length (reverse (take height stack)) ≡ height
  all_down = length-reverse (take height stack) ∙ length-take-le height stack cells

  pub down_at : (n x : ℕ) → (n < length (reverse (take height stack))) × (x ≡ get_or (reverse (take height stack)) n x)
      → Below stack height n x
  down_at n x t =
      let all : length (take height stack) ≡ height = length-take-le height stack cells in
      let inside : n < height = omega (arith, t.0, all_down) in
      let place : length (take height stack) - 1 - n ≡ height - 1 - n = omega arith in
      record {
        within = inside;
        is = t.1
            ∙ get_or-reverse (take height stack) n x (omega arith)
            ∙ ap (λ k. get_or (take height stack) k x) place
            ∙ get_or-take height stack (height - 1 - n) x (omega arith)
            ∙ get_or_default_zero stack (height - 1 - n) x (omega arith);
      }

  -- The same of the i topmost symbols alone,
  pub pop_at : (i n x : ℕ) → (n < length (take i (reverse (take height stack)))) × (x ≡ get_or (take i (reverse (take height stack))) n x)
      → (n < i) × Below stack height n x
  pop_at i n x t =
      let l : n < i = omega (arith, t.0, length-take i (reverse (take height stack))) in (
        l,
        down_at n x (
          omega (arith, t.0, length-take i (reverse (take height stack))),
          t.1 ∙ get_or-take i (reverse (take height stack)) n x l,
        ),
      )

  pub pop_all : (i n : ℕ) → i ≤ height → n ≡ length (take i (reverse (take height stack))) → n ≡ i
  pop_all i n l e = omega (arith, e, length-take i (reverse (take height stack)), all_down)

  -- and of the symbols with their numbers.
  pub count_at : (n i x : ℕ) → (n < length (enumerate_from 0 (reverse (take height stack))))
      × (◌≡◌ {A = ℕ × ℕ} (i, x) (get_or (enumerate_from 0 (reverse (take height stack))) n (i, x)))
      → (i ≡ n) × Below stack height n x
  count_at n i x t =
      let l : n < length (reverse (take height stack)) = omega (arith, t.0, length-enumerate_from 0 (reverse (take height stack))) in
      let e = t.1 ∙ get_or-enumerate_from 0 (reverse (take height stack)) n (i, x) l in
      let z : 0 + n ≡ n = omega arith in
      (ap (λ (p : ℕ × ℕ). p.0) e ∙ z, down_at n x (l, ap (λ (p : ℕ × ℕ). p.1) e))

  pub count_all : (n : ℕ) → n ≡ length (enumerate_from 0 (reverse (take height stack))) → n ≡ height
  count_all n e = e ∙ length-enumerate_from 0 (reverse (take height stack)) ∙ all_down
