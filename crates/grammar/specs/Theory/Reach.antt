-- How a token comes to the head of a list by leftmost steps: FIRST, taken apart. All LL(1) facts are inductions on it.
use Rattle.std.specs.Prelude.{ℕ, suc, ◌+◌, ◌≡◌, refl}
use Rattle.std.proofs.Common.{sym, ap, ◌∙◌, subst, arith}
use mathlib.Core.List.{List, [], ◌∷◌, ◌++◌, append_assoc, append-nil, nil≢cons, head-eq_of_cons-eq, tail-eq_of_cons-eq}
use Rattle.grammar.specs.Derivation.{Rules, Step, Derives, First, CanBeEmpty}
use Rattle.grammar.specs.Words.{Terminal}
use Rattle.grammar.specs.Theory.Leftmost.{Der, to_der, of_der, der_refl}

-- By n leftmost steps the list becomes t with δ behind it.
pub data Reach (R : Rules) (t : ℕ) : List ℕ → ℕ → List ℕ → Type 0 where
  here : {X : ℕ} {α : List ℕ} → X ≡ t → Reach R t (X ∷ α) 0 α
  down : {p A n : ℕ} {β α δ : List ℕ} → R p A β → Reach R t (β ++ α) n δ → Reach R t (A ∷ α) (suc n) δ

-- By n leftmost steps the list becomes empty.
pub data Empties (R : Rules) : List ℕ → ℕ → Type 0 where
  done : Empties R [] 0
  down : {p A n : ℕ} {β α : List ℕ} → R p A β → Empties R (β ++ α) n → Empties R (A ∷ α) (suc n)

-- A derivation of a form that begins with t.
pub record Reached (R : Rules) (t : ℕ) (α γ : List ℕ) : Type 0 where
  pub steps : ℕ
  pub behind : List ℕ
  pub reach : Reach R t α steps behind
  pub rest : Der R behind γ

-- Where t is reached in φ ++ α: within φ, or behind it, φ being empty.
pub data Where (R : Rules) (t : ℕ) (φ α : List ℕ) (n : ℕ) (δ : List ℕ) : Type 0 where
  within : {δ' : List ℕ} → Reach R t φ n δ' → δ ≡ δ' ++ α → Where R t φ α n δ
  behind : {m l : ℕ} → Empties R φ m → Reach R t α l δ → n ≡ m + l → Where R t φ α n δ

-- Two lists side by side, emptied one after the other.
pub record Emptied (R : Rules) (φ α : List ℕ) (n : ℕ) : Type 0 where
  pub left : ℕ
  pub right : ℕ
  pub first : Empties R φ left
  pub second : Empties R α right
  pub sum : n ≡ left + right

module _ (R : Rules) where
  -- A derivation of a form that begins with t reaches t first.
  pub reached : {t : ℕ} {α γ : List ℕ} → Der R α (t ∷ γ) → Reached R t α γ
  reached (Der.keep {α = α} d) = record { steps = 0; behind = α; reach = Reach.here refl; rest = d }
  reached (Der.down r d) =
      let h = reached d in
      record { steps = suc h.steps; behind = h.behind; reach = Reach.down r h.reach; rest = h.rest }

  -- What reaches t derives a form that begins with t.
  pub der_of_reach : {t n : ℕ} {α δ γ : List ℕ} → Reach R t α n δ → Der R δ γ → Der R α (t ∷ γ)
  der_of_reach {t = t} {γ = γ} (Reach.here {α = α} e) d = subst (λ X. Der R (X ∷ α) (t ∷ γ)) (sym e) (Der.keep d)
  der_of_reach (Reach.down r h) d = Der.down r (der_of_reach h d)

  -- What is emptied derives the empty form,
  pub der_of_empties : {n : ℕ} {α : List ℕ} → Empties R α n → Der R α []
  der_of_empties Empties.done = Der.done
  der_of_empties (Empties.down r h) = Der.down r (der_of_empties h)

  -- and the other way round.
  pub empties : {α : List ℕ} → Der R α [] → (n : ℕ) × Empties R α n
  empties Der.done = (0, Empties.done)
  empties (Der.down r d) = let h = empties d in (suc h.0, Empties.down r h.1)

  -- ---- Reaching a token in two lists side by side

  -- What is appended stays behind.
  pub reach_append : {t n : ℕ} {α δ : List ℕ} → Reach R t α n δ → (ω : List ℕ) → Reach R t (α ++ ω) n (δ ++ ω)
  reach_append (Reach.here e) ω = Reach.here e
  reach_append {t = t} {δ = δ} (Reach.down {n = n} {β = β} {α = α} r h) ω =
      Reach.down r (subst (λ l. Reach R t l n (δ ++ ω)) (append_assoc β α ω) (reach_append h ω))

  -- What can be empty is passed over.
  pub reach_behind : {t m l : ℕ} {φ α δ : List ℕ} → Empties R φ m → Reach R t α l δ → (n : ℕ) → n ≡ m + l → Reach R t (φ ++ α) n δ
  reach_behind {t = t} {l = l} {α = α} {δ = δ} Empties.done h n e = subst (λ k. Reach R t α k δ) (omega (arith, e)) h
  reach_behind {t = t} {l = l} {α = α} {δ = δ} (Empties.down {A = A} {n = m} {β = β} {α = φ} r h) k n e =
      let inner : Reach R t (β ++ (φ ++ α)) (m + l) δ =
      subst (λ x. Reach R t x (m + l) δ) (append_assoc β φ α) (reach_behind h k (m + l) refl) in
      subst (λ x. Reach R t (A ∷ (φ ++ α)) x δ) (omega (arith, e)) (Reach.down r inner)

  -- Two lists that can be empty, side by side.
  pub empties_append : {m l : ℕ} {φ α : List ℕ} → Empties R φ m → Empties R α l → (n : ℕ) → n ≡ m + l → Empties R (φ ++ α) n
  empties_append {l = l} {α = α} Empties.done h n e = subst (λ k. Empties R α k) (omega (arith, e)) h
  empties_append {l = l} {α = α} (Empties.down {A = A} {n = m} {β = β} {α = φ} r h) k n e =
      let inner : Empties R (β ++ (φ ++ α)) (m + l) =
      subst (λ x. Empties R x (m + l)) (append_assoc β φ α) (empties_append h k (m + l) refl) in
      subst (λ x. Empties R (A ∷ (φ ++ α)) x) (omega (arith, e)) (Empties.down r inner)

  -- Two lists side by side are emptied one after the other.
  pub empties_split : {n : ℕ} {ω : List ℕ} → Empties R ω n → (φ α : List ℕ) → ω ≡ φ ++ α → Emptied R φ α n
  empties_split Empties.done [] α e =
      record { left = 0; right = 0; first = Empties.done; second = subst (λ x. Empties R x 0) e Empties.done; sum = refl }
  empties_split Empties.done (Y ∷ φ) α e = absurd (nil≢cons e)
  empties_split (Empties.down {p = p} {A = A} {n = n} {β = β} {α = ρ} r h) [] α e =
      record {
        left = 0;
        right = suc n;
        first = Empties.done;
        second = subst (λ x. Empties R x (suc n)) e (Empties.down r h);
        sum = omega arith;
      }
  empties_split (Empties.down {p = p} {A = A} {n = n} {β = β} {α = ρ} r h) (Y ∷ φ) α e =
      let k = empties_split h (β ++ φ) α (ap (λ l. β ++ l) (tail-eq_of_cons-eq e) ∙ sym (append_assoc β φ α)) in
      record {
        left = suc k.left;
        right = k.right;
        first = Empties.down (subst (λ Z. R p Z β) (head-eq_of_cons-eq e) r) k.first;
        second = k.second;
        sum = omega (arith, k.sum);
      }

  where_down : {t p A n : ℕ} {β δ : List ℕ} (φ : List ℕ) {α : List ℕ} → R p A β → Where R t (β ++ φ) α n δ → Where R t (A ∷ φ) α (suc n) δ
  where_down φ r (Where.within h e) = Where.within (Reach.down r h) e
  where_down φ r (Where.behind {m = m} {l = l} k h e) = Where.behind (Empties.down r k) h (omega (arith, e))

  -- A token reached in φ ++ α is reached within φ, or behind it, φ being empty.
  pub reach_where : {t n : ℕ} {ω δ : List ℕ} → Reach R t ω n δ → (φ α : List ℕ) → ω ≡ φ ++ α → Where R t φ α n δ
  reach_where {t = t} {δ = δ} (Reach.here {X = X} {α = ρ} h) [] α e =
      Where.behind Empties.done (subst (λ l. Reach R t l 0 ρ) e (Reach.here h)) (omega arith)
  reach_where {t = t} {δ = δ} (Reach.here {X = X} {α = ρ} h) (Y ∷ φ) α e =
      Where.within (Reach.here (sym (head-eq_of_cons-eq e) ∙ h)) (tail-eq_of_cons-eq e)
  reach_where {t = t} {δ = δ} (Reach.down {p = p} {A = A} {n = n} {β = β} {α = ρ} r h) [] α e =
      Where.behind Empties.done (subst (λ l. Reach R t l (suc n) δ) e (Reach.down r h)) (omega arith)
  reach_where {t = t} {δ = δ} (Reach.down {p = p} {A = A} {n = n} {β = β} {α = ρ} r h) (Y ∷ φ) α e =
      where_down φ
      (subst (λ Z. R p Z β) (head-eq_of_cons-eq e) r)
      (reach_where h (β ++ φ) α (ap (λ l. β ++ l) (tail-eq_of_cons-eq e) ∙ sym (append_assoc β φ α)))

  -- What is reached below X, where X is reached first.
  pub reach_through : {X t k n : ℕ} {α δ ε : List ℕ} → Reach R X α k δ → Reach R t (X ∷ δ) n ε → (m : ℕ) → m ≡ k + n → Reach R t α m ε
  reach_through {t = t} {n = n} {ε = ε} (Reach.here {X = Y} {α = ρ} e) g m h =
      subst (λ x. Reach R t (Y ∷ ρ) x ε) (omega (arith, h)) (subst (λ x. Reach R t (x ∷ ρ) n ε) (sym e) g)
  reach_through {t = t} {n = n} {ε = ε} (Reach.down {A = A} {n = k} {α = ρ} r f) g m h =
      subst (λ x. Reach R t (A ∷ ρ) x ε) (omega (arith, h)) (Reach.down r (reach_through f g (k + n) refl))

  -- ---- FIRST is reaching a terminal

  -- A token in FIRST is reached,
  pub first_reach : {t : ℕ} {α : List ℕ} → First R α t → (n : ℕ) × (δ : List ℕ) × Reach R t α n δ
  first_reach f = let h = reached (to_der R f.begins) in (h.steps, h.behind, h.reach)

  -- and a terminal that is reached is in FIRST.
  pub reach_first : {t n : ℕ} {α δ : List ℕ} → Terminal t → Reach R t α n δ → First R α t
  reach_first {δ = δ} l h = record { token = l; rest = δ; begins = of_der R (der_of_reach h (der_refl R δ)) }

  -- FIRST of a list is in FIRST of a longer one.
  pub first_append : {t : ℕ} {α : List ℕ} → First R α t → (ω : List ℕ) → First R (α ++ ω) t
  first_append f ω = reach_first f.token (reach_append (first_reach f).2 ω)

  -- FIRST of a right side is in FIRST of the left side.
  pub first_down : {p A t : ℕ} {β : List ℕ} → R p A β → First R β t → First R (A ∷ []) t
  first_down {t = t} {β = β} r f =
      record {
        token = f.token;
        rest = f.rest;
        begins = Derives.step (Step.here r) (subst (λ l. Derives R l (t ∷ f.rest)) (sym (append-nil β)) f.begins);
      }

  -- A token in FIRST of A ∷ σ but not of A is in FIRST of σ, and A can be empty.
  pub first_past : {X t : ℕ} {σ : List ℕ} → First R (X ∷ σ) t → (First R (X ∷ []) t → ⊥) → CanBeEmpty R (X ∷ []) × First R σ t
  first_past {X = X} {t = t} {σ = σ} f g = go (reach_where (first_reach f).2 (X ∷ []) σ refl)
    where
      go : {n : ℕ} {δ : List ℕ} → Where R t (X ∷ []) σ n δ → CanBeEmpty R (X ∷ []) × First R σ t
      go (Where.within h e) = absurd (g (reach_first f.token h))
      go (Where.behind k h e) = (of_der R (der_of_empties k), reach_first f.token h)
