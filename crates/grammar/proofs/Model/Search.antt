-- The search of a correction: the least r, then the least i, by trying each in turn.
use Prim.Native.Nat.{ℕ, zero, suc, ◌+◌, ◌<◌}
use Rattle.std.specs.Prelude.{◌≡◌, Bool, ◌&&◌, cond, length, get_or, take}
use Rattle.std.proofs.Math.Path.{refl, subst}
use Rattle.std.proofs.Common.{sym, arith}
use Rattle.std.proofs.Math.Bool.{true, false}
use Rattle.std.proofs.Math.Option.{Option, none, some}
use mathlib.Core.List.{List, [], ◌∷◌}
use Rattle.std.proofs.Math.Dec.{T}
use Rattle.grammar.specs.Words.{Terminal, END}
use Rattle.grammar.specs.Derivation.{All, First}
use Rattle.grammar.specs.Cost.{SymbolCost}
use Rattle.grammar.specs.Grammar.{Grammar}
use Rattle.grammar.specs.Run.{Plausible, Hit}
use Rattle.grammar.specs.Theory.Closed.{total}
use Rattle.grammar.specs.Model.Tests.{both, left_of, right_of_lem}
use Rattle.grammar.specs.Model.Decided.{Tests, Decided, list_cost, list_cost_is}

-- As `Plausible`, with the cost as a sum over the symbols above, and a cost `paid` before them.
pub record Suits (G : Grammar) (D : Tests) (σ : List ℕ) (paid t i : ℕ) : Type 0 where
  pub within : i < length σ
  pub first : First G.rules (get_or σ i END ∷ []) t
  pub below : G.reliable (paid + total D.cost (take i σ)) t

unfoldable pub later : Option ℕ → Option ℕ
later none = none
later (some i) = some (suc i)

-- The least i that suits token t.
unfoldable pub fit : Tests → ℕ → List ℕ → ℕ → Option ℕ
unfolding later
fit D t [] paid = none
fit D t (X ∷ σ) paid = cond (D.first (X ∷ []) t && D.below paid t) (some 0) (later (fit D t σ (paid + D.cost X)))

pub data Fitted (G : Grammar) (D : Tests) (σ : List ℕ) (paid t : ℕ) : Option ℕ → Type 0 where
  fits : {i : ℕ} → Suits G D σ paid t i → ((k : ℕ) → k < i → Suits G D σ paid t k → ⊥) → Fitted G D σ paid t (some i)
  unfit : ((k : ℕ) → Suits G D σ paid t k → ⊥) → Fitted G D σ paid t none

module _ {G : Grammar} (D : Tests) (d : Decided G D) (t : ℕ) (l : Terminal t) where
  -- What suits below the top suits the rest, with the top paid for.
  under : (X : ℕ) (σ : List ℕ) (paid k : ℕ) → Suits G D (X ∷ σ) paid t (suc k) → Suits G D σ (paid + D.cost X) t k
  unfolding total
  under X σ paid k s =
      record { within = omega (arith, s.within); first = s.first; below = subst (λ c. G.reliable c t) (omega arith) s.below }

  over : (X : ℕ) (σ : List ℕ) (paid k : ℕ) → Suits G D σ (paid + D.cost X) t k → Suits G D (X ∷ σ) paid t (suc k)
  unfolding total
  over X σ paid k s =
      record { within = omega (arith, s.within); first = s.first; below = subst (λ c. G.reliable c t) (omega arith) s.below }

  -- The top does not suit: what does is below it.
  passed_over : (X : ℕ) (σ : List ℕ) (paid : ℕ) {o : Option ℕ} → (Suits G D (X ∷ σ) paid t 0 → ⊥) → Fitted G D σ (paid + D.cost X) t o
      → Fitted G D (X ∷ σ) paid t (later o)
  unfolding later
  passed_over X σ paid n (Fitted.fits {i = i} s least) = Fitted.fits (over X σ paid i s) go
    where
      go : (k : ℕ) → k < suc i → Suits G D (X ∷ σ) paid t k → ⊥
      go zero h u = n u
      go (suc k) h u = least k (omega arith) (under X σ paid k u)
  passed_over X σ paid n (Fitted.unfit f) = Fitted.unfit go
    where
      go : (k : ℕ) → Suits G D (X ∷ σ) paid t k → ⊥
      go zero u = n u
      go (suc k) u = f k (under X σ paid k u)

  pub fitted : (σ : List ℕ) (paid : ℕ) → Fitted G D σ paid t (fit D t σ paid)
  unfolding fit total
  fitted [] paid = Fitted.unfit (λ k s. let h = s.within in omega arith)
  fitted (X ∷ σ) paid = go (D.first (X ∷ []) t && D.below paid t) refl (fitted σ (paid + D.cost X))
    where
      go : (b : Bool) → (D.first (X ∷ []) t && D.below paid t) ≡ b → Fitted G D σ (paid + D.cost X) t (fit D t σ (paid + D.cost X))
          → Fitted G D (X ∷ σ) paid t (cond b (some 0) (later (fit D t σ (paid + D.cost X))))
      go true e h =
          let k : T (D.first (X ∷ []) t && D.below paid t) = subst T (sym e) tt in
          Fitted.fits {i = 0}
          (record {
            within = omega arith;
            first = d.first_says (X ∷ []) t l (left_of (D.first (X ∷ []) t) (D.below paid t) k);
            below = subst (λ c. G.reliable c t) (omega arith) (d.below_says paid t (right_of_lem (D.first (X ∷ []) t) (D.below paid t) k));
          })
          (λ m i s. omega arith)
      go false e h =
          passed_over X σ paid
          (λ s.
          subst T e
          (both (D.first (X ∷ []) t) (D.below paid t) (d.says_first (X ∷ []) t s.first)
          (d.says_below paid t (subst (λ c. G.reliable c t) (omega arith) s.below))))
          h

-- ---- The least r

pub record Place : Type 0 where
  pub deleted : ℕ
  pub popped : ℕ

unfoldable pub sooner : Option ℕ → Option Place → Option Place
sooner none none = none
sooner none (some p) = some (record { deleted = suc p.deleted; popped = p.popped })
sooner (some i) o = some (record { deleted = 0; popped = i })

unfoldable pub seek : Tests → List ℕ → List ℕ → Option Place
unfolding sooner fit
seek D σ [] = none
seek D σ (t ∷ rest) = sooner (fit D t σ 0) (seek D σ rest)

module _ {G : Grammar} (D : Tests) (d : Decided G D) (σ : List ℕ) (known : All (λ X. SymbolCost G.rules G.price X
    (D.cost X)) σ) where
  all_take : {P : ℕ → Type 0} (i : ℕ) {α : List ℕ} → All P α → All P (take i α)
  all_take zero a = All.nothing
  all_take (suc i) All.nothing = All.nothing
  all_take (suc i) (All.also h a) = All.also h (all_take i a)

  -- What suits is plausible, and what is plausible suits.
  plausible : {t i : ℕ} → Suits G D σ 0 t i → Plausible G σ t i
  plausible {t} {i} s =
      record {
        within = s.within;
        first = s.first;
        cost = total D.cost (take i σ);
        costs = list_cost (all_take i known);
        below = subst (λ c. G.reliable c t) (omega arith) s.below;
      }

  suits : {t i : ℕ} → Plausible G σ t i → Suits G D σ 0 t i
  suits {t} {i} p =
      record {
        within = p.within;
        first = p.first;
        below = subst (λ c. G.reliable c t) (omega (arith, list_cost_is (all_take i known) p.costs)) p.below;
      }

  hit_here : {t i : ℕ} {rest : List ℕ} → Suits G D σ 0 t i → ((k : ℕ) → k < i → Suits G D σ 0 t k → ⊥) → Hit G σ (t ∷ rest) 0 i
  hit_here s least =
      record {
        within = omega arith;
        plausible = plausible s;
        least_r = λ h k l p. omega arith;
        least_i = λ k l p. least k l (suits p);
      }

  hit_later : {t j i : ℕ} {rest : List ℕ} → ((k : ℕ) → Suits G D σ 0 t k → ⊥) → Hit G σ rest j i → Hit G σ (t ∷ rest) (suc j) i
  hit_later {t} {j} {rest = rest} n h =
      record { within = omega (arith, h.within); plausible = h.plausible; least_r = go; least_i = h.least_i }
    where
      go : (m k : ℕ) → m < suc j → Plausible G σ (get_or (t ∷ rest) m END) k → ⊥
      go zero k l p = n k (suits p)
      go (suc m) k l p = h.least_r m k (omega arith) p

  pub data Sought (rest : List ℕ) : Option Place → Type 0 where
    found : {p : Place} → Hit G σ rest p.deleted p.popped → Sought rest (some p)
    lost : Sought rest none

  next_one : {t : ℕ} {rest : List ℕ} {o : Option ℕ} {q : Option Place} → Fitted G D σ 0 t o → Sought rest q → Sought (t ∷ rest) (sooner o q)
  unfolding sooner
  next_one (Fitted.fits s least) q = Sought.found (hit_here s least)
  next_one (Fitted.unfit n) (Sought.found h) = Sought.found (hit_later n h)
  next_one (Fitted.unfit n) Sought.lost = Sought.lost

  -- What the search finds is the hit.
  pub sought : {rest : List ℕ} → All Terminal rest → Sought rest (seek D σ rest)
  unfolding seek
  sought All.nothing = Sought.lost
  sought (All.also {x = t} l a) = next_one (fitted D d t l σ 0) (sought a)
