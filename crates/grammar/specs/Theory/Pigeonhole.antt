-- Distinct numbers of a range are no more than the range has.
use Rattle.std.specs.Prelude.{ℕ, zero, suc, ◌+◌, ◌≤◌, ◌<◌, ◌≡◌, refl, ◌⊎◌, length}
use Rattle.std.proofs.Common.{sym, ap, ◌∙◌, inl, inr, ⊎_elim, arith}
use mathlib.Core.List.Memᴰ
use mathlib.Core.List.{List, [], ◌∷◌, Memᴰ}
use Rattle.std.proofs.Math.Logic.{dite}
use Rattle.std.proofs.Math.Decide.{dec_lt}

-- No member stands twice.
pub data Distinct : List ℕ → Type 0 where
  nothing : Distinct []
  also : {x : ℕ} {l : List ℕ} → (Memᴰ x l → ⊥) → Distinct l → Distinct (x ∷ l)

-- Of two numbers in order, they are equal or the next is in order too.
first_or_later : (a x : ℕ) → a ≤ x → (x ≡ a) ⊎ (suc a ≤ x)
first_or_later a x l = dite (dec_lt a x) (λ h. inr h) (λ h. inl (omega arith))

-- u without one x.
record Without (x : ℕ) (u : List ℕ) : Type 0 where
  rest : List ℕ
  shorter : length u ≡ suc (length rest)
  others : (y : ℕ) → (y ≡ x → ⊥) → Memᴰ y u → Memᴰ y rest

without : {x : ℕ} {u : List ℕ} → Memᴰ x u → Without x u
without (Memᴰ.head {x = z} {xs = u} e) =
    record {
      rest = u;
      shorter = refl;
      others = λ y n m. ⊎_elim (λ h. absurd (n (h ∙ sym e))) (λ h. h) (Memᴰ.cases_cons m);
    }
without (Memᴰ.tail {x = z} {xs = u} m) =
    let h = without m in
    record {
      rest = z ∷ h.rest;
      shorter = ap suc h.shorter;
      others = λ y n k. ⊎_elim (λ e. Memᴰ.head e) (λ i. Memᴰ.tail (h.others y n i)) (Memᴰ.cases_cons k);
    }

-- A distinct list whose members all stand in u is no longer than u.
pub pigeonhole : {s : List ℕ} (u : List ℕ) → Distinct s → ((x : ℕ) → Memᴰ x s → Memᴰ x u) → length s ≤ length u
pigeonhole u Distinct.nothing i = omega arith
pigeonhole u (Distinct.also {x = x} {l = s} n d) i =
    let w = without (i x (Memᴰ.head refl)) in
    let h : length s ≤ length w.rest =
    pigeonhole w.rest d (λ y m. w.others y (λ e. n (Memᴰ.cast (sym e) m)) (i y (Memᴰ.tail m))) in
    omega (arith, w.shorter)

-- The numbers from a on, n of them.
unfoldable pub range : ℕ → ℕ → List ℕ
range a zero = []
range a (suc n) = a ∷ range (suc a) n

pub range_length : (a n : ℕ) → length (range a n) ≡ n
unfolding range
range_length a zero = refl
range_length a (suc n) = ap suc (range_length (suc a) n)

pub range_member : (a n x : ℕ) → a ≤ x → x < a + n → Memᴰ x (range a n)
unfolding range
range_member a zero x l h = absurd (omega arith)
range_member a (suc n) x l h =
    ⊎_elim (λ e. Memᴰ.head e) (λ k. Memᴰ.tail (range_member (suc a) n x k (omega arith))) (first_or_later a x l)

pub range_within : (a n x : ℕ) → Memᴰ x (range a n) → (a ≤ x) × (x < a + n)
unfolding range
range_within a zero x m = absurd (Memᴰ.not-nil m)
range_within a (suc n) x m =
    ⊎_elim
    (λ e. (omega arith, omega arith))
    (λ k. let h = range_within (suc a) n x k in (omega arith, omega arith))
    (Memᴰ.cases_cons m)

-- Distinct numbers from a to a + n - 1 are at most n.
pub distinct_bounded : (a n : ℕ) {s : List ℕ} → Distinct s → ((x : ℕ) → Memᴰ x s → (a ≤ x) × (x < a + n)) → length s ≤ n
distinct_bounded a n d i =
    let h = pigeonhole (range a n) d (λ x m. range_member a n x (i x m).0 (i x m).1) in omega (arith, range_length a n)
