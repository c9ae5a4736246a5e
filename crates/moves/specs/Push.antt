-- What copying a rule's row to the stack needs, and what it leaves.
use Rattle.std.specs.Prelude.{ℕ, ◌+◌, ◌≤◌, ◌<◌, ◌≡◌, refl, List, length, get_or, set}
use Rattle.std.proofs.Common.{sym, ◌∙◌, subst, ⊎_elim, arith, length-set, get_or-set_same, get_or-set_other}
use Rattle.moves.specs.Tests.{le_or_lt}

-- Eight words from `from` on, and eight cells from `at` on.
pub record CanPush (rows : List ℕ) (from : ℕ) (stack : List ℕ) (at : ℕ) : Type 0 where
  pub words : from + 8 ≤ length rows
  pub cells : at + 8 ≤ length stack

pub record Pushed (rows : List ℕ) (from : ℕ) (stack : List ℕ) (at : ℕ) (after : List ℕ) : Type 0 where
  pub size : length after ≡ length stack
  pub below : (i : ℕ) → i < at → get_or after i 0 ≡ get_or stack i 0
  pub above : (i : ℕ) → i < 8 → get_or after (at + i) 0 ≡ get_or rows (from + i) 0

-- The first n of the eight words are copied.
pub record Pushing (rows : List ℕ) (from : ℕ) (stack : List ℕ) (at : ℕ) (after : List ℕ) (n : ℕ) : Type 0 where
  pub size : length after ≡ length stack
  pub below : (i : ℕ) → i < at → get_or after i 0 ≡ get_or stack i 0
  pub above : (i : ℕ) → i < n → get_or after (at + i) 0 ≡ get_or rows (from + i) 0

pub pushing_none : (rows : List ℕ) (from : ℕ) (stack : List ℕ) (at : ℕ) → Pushing rows from stack at stack 0
pushing_none rows from stack at = record { size = refl; below = λ i l. refl; above = λ i l. absurd (omega arith) }

pub pushing_more : (rows : List ℕ) (from : ℕ) (stack : List ℕ) (at : ℕ) (after : List ℕ) (n : ℕ) → at + n < length stack
    → Pushing rows from stack at after n
    → Pushing rows from stack at (set after (at + n) (get_or rows (from + n) 0)) (n + 1)
pushing_more rows from stack at after n l p =
    record {
      size = length-set after (at + n) x ∙ p.size;
      below = λ i k. get_or-set_other after (at + n) i x 0 (λ e. omega arith) ∙ p.below i k;
      above = λ i k. ⊎_elim (λ m. same i (omega arith)) (λ m. other i m) (le_or_lt n i);
    }
  where
    x : ℕ
    x = get_or rows (from + n) 0

    same : (i : ℕ) → i ≡ n → get_or (set after (at + n) (get_or rows (from + n) 0)) (at + i) 0 ≡ get_or rows (from + i) 0
    same i e =
        subst (λ k. get_or (set after (at + n) (get_or rows (from + n) 0)) (at + k) 0 ≡ get_or rows (from + k) 0) (sym e)
        (get_or-set_same after (at + n) (get_or rows (from + n) 0) 0 (omega (arith, p.size)))

    other : (i : ℕ) → i < n → get_or (set after (at + n) (get_or rows (from + n) 0)) (at + i) 0 ≡ get_or rows (from + i) 0
    other i m = get_or-set_other after (at + n) (at + i) (get_or rows (from + n) 0) 0 (λ e. omega arith) ∙ p.above i m

pub pushed : {rows : List ℕ} {from : ℕ} {stack : List ℕ} {at : ℕ} {after : List ℕ} {n : ℕ} → 8 ≤ n → Pushing rows from stack at after n
    → Pushed rows from stack at after
pushed l p = record { size = p.size; below = p.below; above = λ i k. p.above i (omega arith) }
