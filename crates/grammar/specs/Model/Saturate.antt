-- A set of numbers of a finite range, grown one by one until nothing more fires: it is closed after as many rounds as the
-- range has numbers, and it holds only what was justified.
use Prim.Native.Nat.{ℕ, zero, suc, ◌+◌, ◌≤◌}
use Rattle.std.specs.Prelude.{◌≡◌, refl, Bool, true, false, ◌&&◌, not, T}
use Rattle.std.proofs.Common.{sym, subst, arith}
use Rattle.std.proofs.Math.Option.{Option, none, some}
use mathlib.Core.List.Memᴰ
use mathlib.Core.List.{List, [], ◌∷◌, Memᴰ}
use Rattle.std.proofs.Math.Logic.{⊎_elim}
use Rattle.std.proofs.Math.ListN.{length}
use Rattle.std.proofs.Math.Dec.{T_not, not_T}
use Rattle.grammar.specs.Derivation.{All}
use Rattle.grammar.specs.Theory.Pigeonhole.{Distinct, pigeonhole}
use Rattle.grammar.specs.Model.Tests.{holds, member_holds, both, left_of, right_of_lem, passes_or_not}

-- The first member of u that passes f.
unfoldable or_else : Bool → ℕ → Option ℕ → Option ℕ
or_else true x o = some x
or_else false x o = o

unfoldable pub pick : (ℕ → Bool) → List ℕ → Option ℕ
unfolding or_else
pick f [] = none
pick f (x ∷ u) = or_else (f x) x (pick f u)

pub data Picked (f : ℕ → Bool) (u : List ℕ) : Option ℕ → Type 0 where
  found : {x : ℕ} → Memᴰ x u → T (f x) → Picked f u (some x)
  missing : ((x : ℕ) → Memᴰ x u → T (f x) → ⊥) → Picked f u none

later : (f : ℕ → Bool) (x : ℕ) {u : List ℕ} {o : Option ℕ} → (T (f x) → ⊥) → Picked f u o → Picked f (x ∷ u) o
later f x n (Picked.found m h) = Picked.found (Memᴰ.tail m) h
later f x n (Picked.missing k) =
    Picked.missing
    (λ y m h. ⊎_elim (λ e. n (subst (λ z. T (f z)) e h)) (λ i. k y i h) (Memᴰ.cases_cons m))

pub picks : (f : ℕ → Bool) (u : List ℕ) → Picked f u (pick f u)
unfolding pick or_else
picks f [] = Picked.missing (λ x m h. Memᴰ.not-nil m)
picks f (x ∷ u) = go (f x) refl (picks f u)
  where
    go : (b : Bool) → f x ≡ b → Picked f u (pick f u) → Picked f (x ∷ u) (or_else b x (pick f u))
    go true e k = Picked.found (Memᴰ.head refl) (subst T (sym e) tt)
    go false e k = later f x (λ h. subst T e h) k

-- A number that fires and is not yet held.
unfoldable fresh : (List ℕ → ℕ → Bool) → List ℕ → ℕ → Bool
unfolding holds
fresh fires s x = not (holds s x) && fires s x

-- The set after n more rounds: each adds a number that fires.
unfoldable pub saturate : (List ℕ → ℕ → Bool) → List ℕ → ℕ → List ℕ → List ℕ
unfolding pick fresh
saturate fires u zero s = s
saturate fires u (suc n) s = elim (pick (fresh fires s) u) [ none ↦ s | some x ↦ saturate fires u n (x ∷ s) ]

-- What fires at the set is in it.
abbrev pub Saturated : (List ℕ → ℕ → Bool) → List ℕ → List ℕ → Type 0
Saturated fires u s = (x : ℕ) → Memᴰ x u → T (fires s x) → T (holds s x)

module _ (fires : List ℕ → ℕ → Bool) (u : List ℕ) where
  -- Everything in the set is justified.
  pub saturate_sound : (P : ℕ → Type 0) → ((s : List ℕ) (x : ℕ) → All P s → Memᴰ x u → T (fires s x) → P x)
      → (n : ℕ) (s : List ℕ) → All P s → All P (saturate fires u n s)
  unfolding saturate fresh
  saturate_sound P j zero s a = a
  saturate_sound P j (suc n) s a =
      go (pick (fresh fires s) u) (picks (fresh fires s) u) (λ t b. saturate_sound P j n t b)
    where
      go : (o : Option ℕ) → Picked (fresh fires s) u o → ((t : List ℕ) → All P t → All P (saturate fires u n t))
          → All P (elim o as (λ _. List ℕ) [ none ↦ s | some x ↦ saturate fires u n (x ∷ s) ])
      go none k f = a
      go (some x) (Picked.found m h) f = f (x ∷ s) (All.also (j s x a m (right_of_lem (not (holds s x)) (fires s x) h)) a)

  -- What does not fire anew at a set is in it.
  stays : (s : List ℕ) → ((x : ℕ) → Memᴰ x u → T (fresh fires s x) → ⊥) → Saturated fires u s
  unfolding fresh
  stays s k x m h =
      ⊎_elim (λ i. i) (λ i. absurd (k x m (both (not (holds s x)) (fires s x) (not_T (holds s x) i) h))) (passes_or_not (holds s x))

  -- A distinct part of u that is as long as u holds all of u.
  full : (s : List ℕ) → Distinct s → ((x : ℕ) → Memᴰ x s → Memᴰ x u) → length u ≤ length s
      → (x : ℕ) → Memᴰ x u → T (holds s x)
  full s d i l x m =
      ⊎_elim (λ h. h) (λ h. absurd (too_many h)) (passes_or_not (holds s x))
    where
      inside : (y : ℕ) → Memᴰ y (x ∷ s) → Memᴰ y u
      inside y k = ⊎_elim (λ e. Memᴰ.cast e m) (i y) (Memᴰ.cases_cons k)

      too_many : (T (holds s x) → ⊥) → ⊥
      too_many h =
          let k : suc (length s) ≤ length u = pigeonhole u (Distinct.also (λ n. h (member_holds n)) d) inside in
          omega arith

  pub saturate_closed : (n : ℕ) (s : List ℕ) → Distinct s → ((x : ℕ) → Memᴰ x s → Memᴰ x u) → length u ≤ n + length s
      → Saturated fires u (saturate fires u n s)
  unfolding saturate fresh
  saturate_closed zero s d i l = λ x m h. full s d i (omega arith) x m
  saturate_closed (suc n) s d i l = go (pick (fresh fires s) u) (picks (fresh fires s) u) (saturate_closed n)
    where
      go : (o : Option ℕ) → Picked (fresh fires s) u o
          → ((t : List ℕ) → Distinct t → ((x : ℕ) → Memᴰ x t → Memᴰ x u) → length u ≤ n + length t
          → Saturated fires u (saturate fires u n t))
          → Saturated fires u (elim o as (λ _. List ℕ) [ none ↦ s | some x ↦ saturate fires u n (x ∷ s) ])
      go none (Picked.missing k) f = stays s k
      go (some x) (Picked.found m h) f =
          f (x ∷ s)
          (Distinct.also (λ k. T_not (holds s x) (left_of (not (holds s x)) (fires s x) h) (member_holds k)) d)
          (λ y k. ⊎_elim (λ e. Memᴰ.cast e m) (i y) (Memᴰ.cases_cons k))
          (omega arith)
