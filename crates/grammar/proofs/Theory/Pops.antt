-- What a correction pops (`Popped` of Run.antt, request (ii) of 02): what each symbol becomes is one, the symbols popped derive those
-- that are inserted, and every correction leaves at least one record.
use Prim.Native.Nat.{ℕ, zero, suc, ◌+◌, ◌≤◌, ◌<◌}
use Rattle.std.specs.Prelude.{◌≡◌, Bool, cond, ◌↔◌, length, get_or, take}
use Rattle.std.proofs.Math.Path.{refl, subst}
use Rattle.std.proofs.Common.{sym, ap, arith}
use Rattle.std.proofs.Math.Bool.{true, false}
use mathlib.Core.List.{List, [], ◌∷◌, cons≢nil}
use Rattle.std.proofs.Math.Logic.{dite}
use Rattle.std.proofs.Math.Dec.{T}
use Rattle.grammar.specs.Words.{END}
use Rattle.grammar.specs.Derivation.{Rules, All, First, CanBeEmpty}
use Rattle.grammar.specs.Grammar.{Grammar}
use Rattle.grammar.specs.Run.{Hit, Pop, Popped, pops}
use Rattle.grammar.specs.Theory.Leftmost.{Der, to_der, of_der, der_append, der_refl}
use Rattle.grammar.specs.Theory.Reach.{first_append}
use Rattle.grammar.specs.Theory.Folds.{missing_of}
use Rattle.grammar.specs.Theory.Pops.{pop_by, pops_by}

-- Each pop is one move.
pub length_pops : (r : ℕ) (ps : List Pop) → length (pops r ps) ≡ length ps
unfolding pops
length_pops r [] = refl
length_pops r (Pop.dropped X ∷ ps) = ap suc (length_pops r ps)
length_pops r (Pop.inserted X ∷ ps) = ap suc (length_pops r ps)

module _ {R : Rules} where
  -- Each symbol is popped once.
  pub popped_length : {Xs : List ℕ} {ps : List Pop} → Popped R Xs ps → length ps ≡ length Xs
  popped_length Popped.nothing = refl
  popped_length (Popped.empty c a) = ap suc (popped_length a)
  popped_length (Popped.missing n a) = ap suc (popped_length a)

  -- What each becomes is one.
  pub popped_unique : {Xs : List ℕ} {ps qs : List Pop} → Popped R Xs ps → Popped R Xs qs → ps ≡ qs
  popped_unique Popped.nothing Popped.nothing = refl
  popped_unique (Popped.empty {X = X} c a) (Popped.empty d b) = ap (λ ps. Pop.dropped X ∷ ps) (popped_unique a b)
  popped_unique (Popped.empty c a) (Popped.missing n b) = absurd (n c)
  popped_unique (Popped.missing n a) (Popped.empty d b) = absurd (n d)
  popped_unique (Popped.missing {X = X} n a) (Popped.missing m b) = ap (λ ps. Pop.inserted X ∷ ps) (popped_unique a b)

  -- By a test that says of each symbol whether it can be empty, it is known what each becomes.
  pub popped_by : (test : ℕ → Bool) {Xs : List ℕ} → All (λ X. T (test X) ↔ CanBeEmpty R (X ∷ [])) Xs → Popped R Xs (pops_by test Xs)
  unfolding pops_by pop_by
  popped_by test All.nothing = Popped.nothing
  popped_by test (All.also {x = X} {l = Xs} h a) = go (popped_by test a) (test X) refl
    where
      go : Popped R Xs (pops_by test Xs) → (b : Bool) → test X ≡ b
          → Popped R (X ∷ Xs) (cond b (Pop.dropped X) (Pop.inserted X) ∷ pops_by test Xs)
      go y true e = Popped.empty (h.0 (subst T (sym e) tt)) y
      go y false e = Popped.missing (λ c. subst T e (h.1 c)) y

  -- Where it is decided what can be empty, each becomes something.
  pub popped_exists : ((X : ℕ) → Dec (CanBeEmpty R (X ∷ []))) → (Xs : List ℕ) → (ps : List Pop) × Popped R Xs ps
  popped_exists d [] = ([], Popped.nothing)
  popped_exists d (X ∷ Xs) =
      let rest = popped_exists d Xs in
      dite
      (d X)
      (λ c. (Pop.dropped X ∷ rest.0, Popped.empty c rest.1))
      (λ n. (Pop.inserted X ∷ rest.0, Popped.missing n rest.1))

  -- The symbols popped derive those that are inserted: a dropped symbol derives the empty form.
  pub popped_derives : {Xs : List ℕ} {ps : List Pop} → Popped R Xs ps → Der R Xs (missing_of ps)
  unfolding missing_of
  popped_derives Popped.nothing = Der.done
  popped_derives (Popped.empty c a) = der_append R (to_der R c) (popped_derives a)
  popped_derives (Popped.missing {X = X} n a) = der_append R (der_refl R (X ∷ [])) (popped_derives a)

  -- A token that begins what stands below a symbol that can be empty begins the whole.
  first_below : {X t : ℕ} {σ : List ℕ} → CanBeEmpty R (X ∷ []) → First R σ t → First R (X ∷ σ) t
  first_below c f =
      record { token = f.token; rest = f.rest; begins = of_der R (der_append R (to_der R c) (to_der R f.begins)) }

  -- Where all that stands above can be empty, the token is in FIRST of the stack.
  all_dropped : {t : ℕ} {ps : List Pop} (i : ℕ) (σ : List ℕ) → i < length σ → First R (get_or σ i END ∷ []) t → Popped R (take i σ) ps
      → missing_of ps ≡ [] → First R σ t
  unfolding missing_of
  all_dropped i [] l f a e = absurd (omega arith)
  all_dropped zero (X ∷ σ) l f a e = first_append R f σ
  all_dropped (suc i) (X ∷ σ) l f (Popped.empty c a) e = first_below c (all_dropped i σ (omega arith) f a e)
  all_dropped (suc i) (X ∷ σ) l f (Popped.missing n a) e = absurd (cons≢nil e)

empty_or_some : {A : Type 0} (l : List A) → (l ≡ [] → ⊥) → 1 ≤ length l
empty_or_some [] n = absurd (n refl)
empty_or_some (x ∷ l) n = omega arith

-- "A correction still leaves at least one record": a delete; or, where r is the token in error, an insert, since t would else be in
-- FIRST of the stack.
pub correction_records : (G : Grammar) {t j i : ℕ} {σ rest : List ℕ} {ps : List Pop} → (First G.rules σ t → ⊥)
    → Hit G σ (t ∷ rest) j i → Popped G.rules (take i σ) ps → 1 ≤ j + length (missing_of ps)
correction_records G {j = zero} {i = i} {σ = σ} {ps = ps} n x a =
    let p = x.plausible in
    omega (arith, empty_or_some (missing_of ps) (λ e. n (all_dropped i σ p.within p.first a e)))
correction_records G {j = suc j} n x a = omega arith
