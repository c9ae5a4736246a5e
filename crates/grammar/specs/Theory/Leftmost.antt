-- The leftmost form of a derivation, in which every proof here works, and that it is the textbook's.
-- `Der R α w` goes from left to right: a symbol stays itself, or is rewritten first. No `++` stands in an index that a
-- proof matches on.
use Rattle.std.specs.Prelude.{ℕ, ◌≡◌, refl}
use Rattle.std.proofs.Common.{sym, ap, ◌∙◌, subst}
use mathlib.Core.List.{List, [], ◌∷◌, ◌++◌, append_assoc, head-eq_of_cons-eq, tail-eq_of_cons-eq, cons≢nil}
use Rattle.grammar.specs.Derivation.{Rules, Step, Derives}

pub data Der (R : Rules) : List ℕ → List ℕ → Type 0 where
  done : Der R [] []
  keep : {X : ℕ} {α w : List ℕ} → Der R α w → Der R (X ∷ α) (X ∷ w)
  down : {p A : ℕ} {β α w : List ℕ} → R p A β → Der R (β ++ α) w → Der R (A ∷ α) w

-- A derivation of α ++ β, taken apart.
pub record Split (R : Rules) (α β w : List ℕ) : Type 0 where
  pub left : List ℕ
  pub right : List ℕ
  pub joined : w ≡ left ++ right
  pub first : Der R α left
  pub second : Der R β right

module _ (R : Rules) where
  whole : {ω β w : List ℕ} → Der R ω w → ω ≡ β → Split R [] β w
  whole {w = w} d e = record { left = []; right = w; joined = refl; first = done; second = rw e at d }

  -- Every list derives itself.
  pub der_refl : (α : List ℕ) → Der R α α
  der_refl [] = done
  der_refl (X ∷ α) = keep (der_refl α)

  -- Two derivations side by side.
  pub der_append : {α β v w : List ℕ} → Der R α v → Der R β w → Der R (α ++ β) (v ++ w)
  der_append done e = e
  der_append (keep d) e = keep (der_append d e)
  der_append {β = δ} (down {β = β} {α = α} r d) e = down r (rw (append_assoc β α δ) at (der_append d e))

  -- A derivation of two lists side by side is two.
  pub split : {ω w : List ℕ} → Der R ω w → (α β : List ℕ) → ω ≡ α ++ β → Split R α β w
  split done [] β e = whole done e
  split done (A ∷ α) β e = absurd (cons≢nil (sym e))
  split (keep {X = X} {α = ρ} {w = w} d) [] β e = whole (keep d) e
  split (keep {X = X} {α = ρ} {w = w} d) (A ∷ α) β e =
      let h : Split R α β w = split d α β (tail-eq_of_cons-eq e) in
      record {
        left = X ∷ h.left;
        right = h.right;
        joined = ap (λ l. X ∷ l) h.joined;
        first = subst (λ Y. Der R (Y ∷ α) (X ∷ h.left)) (head-eq_of_cons-eq e) (keep h.first);
        second = h.second;
      }
  split (down {p = p} {A = B} {β = γ} {α = ρ} {w = w} r d) [] β e = whole (down r d) e
  split (down {p = p} {A = B} {β = γ} {α = ρ} {w = w} r d) (A ∷ α) β e =
      let h : Split R (γ ++ α) β w = split d (γ ++ α) β (ap (λ l. γ ++ l) (tail-eq_of_cons-eq e) ∙ sym (append_assoc γ α β)) in
      record {
        left = h.left;
        right = h.right;
        joined = h.joined;
        first = subst (λ Y. Der R (Y ∷ α) h.left) (head-eq_of_cons-eq e) (down r h.first);
        second = h.second;
      }

  -- One derivation behind another.
  pub der_trans : {α β γ : List ℕ} → Der R α β → Der R β γ → Der R α γ
  der_trans done e = e
  der_trans {γ = γ} (keep {X = X} {α = α} {w = β} d) e =
      let h : Split R (X ∷ []) β γ = split e (X ∷ []) β refl in
      subst (λ w. Der R (X ∷ α) w) (sym h.joined) (der_append h.first (der_trans d h.second))
  der_trans (down r d) e = down r (der_trans d e)

  -- A step is a derivation.
  pub der_step : {α β : List ℕ} → Step R α β → Der R α β
  der_step (Step.here r) = down r (der_refl _)
  der_step (Step.later s) = keep (der_step s)

  -- The textbook's derivation is a leftmost one,
  pub to_der : {α β : List ℕ} → Derives R α β → Der R α β
  to_der Derives.done = der_refl _
  to_der (Derives.step s d) = der_trans (der_step s) (to_der d)

  derives_behind : {X : ℕ} {α β : List ℕ} → Derives R α β → Derives R (X ∷ α) (X ∷ β)
  derives_behind Derives.done = Derives.done
  derives_behind (Derives.step s d) = Derives.step (Step.later s) (derives_behind d)

  -- and a leftmost one is the textbook's.
  pub of_der : {α β : List ℕ} → Der R α β → Derives R α β
  of_der done = Derives.done
  of_der (keep d) = derives_behind (of_der d)
  of_der (down r d) = Derives.step (Step.here r) (of_der d)
