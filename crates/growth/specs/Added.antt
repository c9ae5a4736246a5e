-- A list of sets to one of which a mask was added.
use Rattle.std.specs.Prelude.{ℕ, ◌^◌, ◌<◌, ◌≡◌, refl, Bool, true, false, not, List, ◌⊎◌, length, get_or, set, eqb, sum}
use Rattle.std.proofs.Common.{sym, ap, ◌∙◌, subst, true≢false, inl, inr, ⊎_elim, arith, length-set, ext_get_or, get_or-set_same, get_or-set_other, eqb-true}
use Rattle.std.proofs.lemmas.Bool.{false≢true, eqb-false}
use Rattle.std.proofs.lemmas.List.{set-get_or}
use Rattle.std.proofs.lemmas.List.Sums.{sum_by-set}
use Rattle.base.specs.Choices.{same_or}
use Rattle.sets.specs.Bits.{member}
use Rattle.sets.specs.Operations.{union}
use Rattle.sets.specs.Laws.{empty_none, union_left, union_right, union_cases, union_grows, union_unchanged, same_members}
use Rattle.base.specs.Blank.{Blank}

-- Nothing is lost.
abbrev pub Kept : List ℕ → List ℕ → Type 0
Kept old new = (j t : ℕ) → member (get_or old j 0) t ≡ true → member (get_or new j 0) t ≡ true

-- Nothing is in sets that are all 0.
pub blank_none : {n : ℕ} {l : List ℕ} → Blank n l → (k t : ℕ) → member (get_or l k 0) t ≡ true → ⊥
blank_none b k t m = empty_none t (subst (λ s. member s t ≡ true) (b.zeros k) m)

-- The members of `mask` were added to set k, and nothing else; `changed` tells whether one of them was not there.
pub record Added (old : List ℕ) (k mask : ℕ) (new : List ℕ) (changed : Bool) : Type 0 where
  pub same : length new ≡ length old
  pub keeps : Kept old new
  pub kept : changed ≡ false → new ≡ old
  pub raised : changed ≡ true → sum old < sum new
  pub holds : (t : ℕ) → member mask t ≡ true → member (get_or new k 0) t ≡ true
  pub source : (j t : ℕ) → member (get_or new j 0) t ≡ true → (member (get_or old j 0) t ≡ true) ⊎ ((j ≡ k) × (member mask t ≡ true))

-- Where the union is the set itself, nothing is to be done.
pub added_nothing : (old : List ℕ) (k mask : ℕ) → union (get_or old k 0) mask ≡ get_or old k 0 → Added old k mask old false
added_nothing old k mask e =
    record {
      same = refl;
      keeps = λ j t m. m;
      kept = λ q. refl;
      raised = λ q. absurd (false≢true q);
      holds = λ t m. union_unchanged (get_or old k 0) mask e t m;
      source = λ j t m. inl m;
    }

module _ (old : List ℕ) (k mask : ℕ) (inside : k < length old) where
  changed_at : (j : ℕ) → j ≡ k → get_or (set old k (union (get_or old k 0) mask)) j 0 ≡ union (get_or old j 0) mask
  changed_at j e =
      subst (λ i. get_or (set old k (union (get_or old k 0) mask)) i 0 ≡ union (get_or old i 0) mask) (sym e)
      (get_or-set_same old k (union (get_or old k 0) mask) 0 inside)

  keeps_all : (j t : ℕ) → (j ≡ k) ⊎ (j ≡ k → ⊥) → member (get_or old j 0) t ≡ true
      → member (get_or (set old k (union (get_or old k 0) mask)) j 0) t ≡ true
  keeps_all j t (inl e) m = subst (λ s. member s t ≡ true) (sym (changed_at j e)) (union_left (get_or old j 0) mask t m)
  keeps_all j t (inr n) m = subst (λ s. member s t ≡ true) (sym (get_or-set_other old k j (union (get_or old k 0) mask) 0 n)) m

  comes_from : (j t : ℕ) → (j ≡ k) ⊎ (j ≡ k → ⊥) → member (get_or (set old k (union (get_or old k 0) mask)) j 0) t ≡ true
      → (member (get_or old j 0) t ≡ true) ⊎ ((j ≡ k) × (member mask t ≡ true))
  comes_from j t (inl e) m =
      ⊎_elim inl (λ h. inr (e, h)) (union_cases (get_or old j 0) mask t (subst (λ s. member s t ≡ true) (changed_at j e) m))
  comes_from j t (inr n) m = inl (subst (λ s. member s t ≡ true) (get_or-set_other old k j (union (get_or old k 0) mask) 0 n) m)

  -- Where it is not, the union is put in its place.
  pub added_some : (union (get_or old k 0) mask ≡ get_or old k 0 → ⊥) → Added old k mask (set old k (union (get_or old k 0) mask)) true
  added_some n =
      record {
        same = length-set old k (union (get_or old k 0) mask);
        keeps = λ j t m. keeps_all j t (same_or j k) m;
        kept = λ q. absurd (true≢false q);
        raised = λ q. omega (arith, n, sum_by-set (λ s. s) old k (union (get_or old k 0) mask) 0 inside, union_grows (get_or old k 0) mask);
        holds = λ t m. subst (λ s. member s t ≡ true) (sym (changed_at k refl)) (union_right (get_or old k 0) mask t m);
        source = λ j t m. comes_from j t (same_or j k) m;
      }

  -- The union is put in its place in any case, and whether it is another set is told.
  pub added_told_by : (u : ℕ) → u ≡ union (get_or old k 0) mask → Added old k mask (set old k u) (not (eqb u (get_or old k 0)))
  added_told_by u is = at (eqb u (get_or old k 0)) refl
    where
      here : set old k u ≡ set old k (union (get_or old k 0) mask)
      here = ap (set old k) is

      at : (b : Bool) → eqb u (get_or old k 0) ≡ b → Added old k mask (set old k u) (not b)
      at true e =
          let same = eqb-true u (get_or old k 0) e in
          subst (λ l. Added old k mask l false) (sym (ap (set old k) same ∙ set-get_or old k 0)) (added_nothing old k mask (sym is ∙ same))
      at false e =
          subst (λ l. Added old k mask l true) (sym here) (added_some (λ same. eqb-false u (get_or old k 0) e (is ∙ same)))

-- ---- Only one answer: of lists of 64 bit numbers, the members fix the numbers

-- What one answer holds the other holds,
also_held : {old new other : List ℕ} {k mask : ℕ} {a b : Bool} → Added old k mask new a → Added old k mask other b → (j t : ℕ)
    → member (get_or new j 0) t ≡ true → member (get_or other j 0) t ≡ true
also_held {other = other} p q j t m =
    ⊎_elim
    (λ h. q.keeps j t h)
    (λ h. subst (λ i. member (get_or other i 0) t ≡ true) (sym h.0) (q.holds t h.1))
    (p.source j t m)

-- so that the lists are one,
pub added_list : {old new other : List ℕ} {k mask : ℕ} {a b : Bool} → Added old k mask new a → Added old k mask other b
    → ((j : ℕ) → get_or new j 0 < 2 ^ 64) → ((j : ℕ) → get_or other j 0 < 2 ^ 64) → new ≡ other
added_list {new = new} {other = other} p q l m =
    ext_get_or 0 new other (p.same ∙ sym q.same)
    (λ j h. same_members 64 (get_or new j 0) (get_or other j 0) (l j) (m j) (also_held p q j) (also_held q p j))

-- and what they tell is.
pub added_told : {old new : List ℕ} {k mask : ℕ} (a b : Bool) → Added old k mask new a → Added old k mask new b → a ≡ b
added_told true true p q = refl
added_told true false p q = absurd (omega (arith, p.raised refl, ap sum (q.kept refl)))
added_told false true p q = absurd (omega (arith, q.raised refl, ap sum (p.kept refl)))
added_told false false p q = refl
