-- A test that says exactly whether a statement holds, and how such tests are put together.
use Rattle.std.specs.Prelude.{ℕ, ◌+◌, ◌≤◌, ◌<◌, ◌≡◌, Bool, ◌&&◌, ◌||◌, not, ◌⊎◌, T, leb, ltb, eqb}
use Rattle.std.proofs.Common.{inl, inr, ⊎_elim, leb→le, le→leb, ltb→lt, lt→ltb, eqb→eq, T_not}
use Rattle.std.proofs.Math.Dec.{not_T}
use Rattle.grammar.specs.Theory.Pigeonhole.{range, range_member, range_within}
use Rattle.grammar.specs.Model.Tests.{
  both,
  left_of,
  right_of_lem,
  one_of,
  or_left,
  or_right,
  equal_passes,
  every,
  every_all,
  all_every,
  passes_or_not,
}
use Rattle.grammar.specs.Theory.Members.{all_at, all_by}

pub record Reflects (b : Bool) (P : Type 0) : Type 0 where
  pub says : T b → P
  pub said : P → T b

pub le_test : (m n : ℕ) → Reflects (leb m n) (m ≤ n)
le_test m n = record { says = leb→le m n; said = le→leb m n }

pub lt_test : (m n : ℕ) → Reflects (ltb m n) (m < n)
lt_test m n = record { says = ltb→lt m n; said = lt→ltb m n }

pub eq_test : (m n : ℕ) → Reflects (eqb m n) (m ≡ n)
eq_test m n = record { says = eqb→eq m n; said = equal_passes m n }

pub and_test : {a b : Bool} {P Q : Type 0} → Reflects a P → Reflects b Q → Reflects (a && b) (P × Q)
and_test {a} {b} r s =
    record { says = λ h. (r.says (left_of a b h), s.says (right_of_lem a b h)); said = λ h. both a b (r.said h.0) (s.said h.1) }

pub or_test : {a b : Bool} {P Q : Type 0} → Reflects a P → Reflects b Q → Reflects (a || b) (P ⊎ Q)
or_test {a} {b} r s =
    record {
      says = λ h. ⊎_elim (λ k. inl (r.says k)) (λ k. inr (s.says k)) (one_of a b h);
      said = λ h. ⊎_elim (λ k. or_left a b (r.said k)) (λ k. or_right a b (s.said k)) h;
    }

pub not_test : {a : Bool} {P : Type 0} → Reflects a P → Reflects (not a) (P → ⊥)
not_test {a} r = record { says = λ h p. T_not a h (r.said p); said = λ h. not_T a (λ k. h (r.says k)) }

-- Every number from a on, n of them: a test for each of these,
pub each_in_test : {f : ℕ → Bool} {P : ℕ → Type 0} (a n : ℕ) → ((i : ℕ) → a ≤ i → i < a + n → Reflects (f i) (P i))
    → Reflects (every f (range a n)) ((i : ℕ) → a ≤ i → i < a + n → P i)
each_in_test {f} {P} a n r =
    record {
      says = λ h i l k. (r i l k).says (all_at (every_all f (range a n) h) (range_member a n i l k));
      said = λ h.
          all_every f
          (all_by (range a n) (λ i m. let w = range_within a n i m in (r i w.0 w.1).said (h i w.0 w.1)));
    }

-- or for every number.
pub each_test : {f : ℕ → Bool} {P : ℕ → Type 0} (a n : ℕ) → ((i : ℕ) → Reflects (f i) (P i))
    → Reflects (every f (range a n)) ((i : ℕ) → a ≤ i → i < a + n → P i)
each_test a n r = each_in_test a n (λ i l h. r i)

pub iff_test : {b : Bool} {P Q : Type 0} → Reflects b P → (P → Q) → (Q → P) → Reflects b Q
iff_test r f g = record { says = λ h. f (r.says h); said = λ q. r.said (g q) }

-- The statement holds or it does not.
pub either : {b : Bool} {P : Type 0} → Reflects b P → P ⊎ (P → ⊥)
either {b} r = ⊎_elim (λ h. inl (r.says h)) (λ h. inr (λ p. h (r.said p))) (passes_or_not b)
