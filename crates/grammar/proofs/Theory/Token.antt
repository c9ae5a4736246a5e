-- The moves for one token: "if t is in FIRST of the whole stack .. moves follow until t is matched". They exist, are
-- determined, end with its match, and have at most N expands among them. A token that has moved is never in error.
use Prim.Native.Nat.{ℕ, zero, suc, ◌≤◌}
use Rattle.std.specs.Prelude.{◌≡◌, refl, List, [], ◌∷◌, ◌++◌}
use Rattle.std.proofs.Common.{sym, ap, subst, append-nil}
use native.Mathlib.Omega.{arith}
use Rattle.grammar.specs.Words.{Terminal}
use Rattle.grammar.specs.Derivation.{First, CanBeEmpty}
use Rattle.grammar.specs.Grammar.{Grammar}
use Rattle.grammar.specs.Run.{Pop, Pick, Choice, matching, expanding, dropping, correcting}
use Rattle.grammar.specs.Theory.Leftmost.{Der, of_der}
use Rattle.grammar.specs.Theory.Good.{Good}
use Rattle.grammar.specs.Theory.Forms.{At, at_down, at_rest}
use Rattle.grammar.specs.Theory.Reach.{Reach, Where, der_of_empties, reach_where, first_reach, reach_first, first_append}
use Rattle.grammar.specs.Theory.Predictive.{first_or_behind}
use Rattle.grammar.specs.Theory.Leads.{Budget, budget_full, budget_some, budget_expand, budget_drop}
use Rattle.grammar.proofs.Theory.Chosen.{choice_determined, dropped_empty}

-- From stack σ the choices xs are made for token t, of which the last is its match; τ is the stack then.
pub data Eaten (G : Grammar) (t : ℕ) (ρ : List ℕ) : List ℕ → List Pick → List ℕ → Type 0 where
  matched : {X : ℕ} {σ : List ℕ} → Choice G (X ∷ σ) (t ∷ ρ) matching → Eaten G t ρ (X ∷ σ) (matching ∷ []) σ
  expanded : {A p : ℕ} {β σ τ : List ℕ} {xs : List Pick} → Choice G (A ∷ σ) (t ∷ ρ) (expanding p β) → Eaten G t ρ (β ++ σ) xs τ
      → Eaten G t ρ (A ∷ σ) (expanding p β ∷ xs) τ
  dropped : {X : ℕ} {σ τ : List ℕ} {xs : List Pick} → Choice G (X ∷ σ) (t ∷ ρ) dropping → Eaten G t ρ σ xs τ
      → Eaten G t ρ (X ∷ σ) (dropping ∷ xs) τ

-- How many of the choices are expands.
unfoldable pub expands : List Pick → ℕ
expands [] = 0
expands (matching ∷ xs) = expands xs
expands (expanding p β ∷ xs) = suc (expands xs)
expands (dropping ∷ xs) = expands xs
expands (correcting j i ps ∷ xs) = expands xs

zero_one : ◌≡◌ {A = ℕ} 0 1 → ⊥
zero_one e = omega arith

-- What an expand and a drop are chosen by.
expand_by : {G : Grammar} {A p t : ℕ} {β σ ρ : List ℕ} → Choice G (A ∷ σ) (t ∷ ρ) (expanding p β) → G.rules p A β × First G.rules β t
expand_by (Choice.expand r f) = (r, f)

drop_by : {G : Grammar} {X t : ℕ} {σ ρ : List ℕ} → Choice G (X ∷ σ) (t ∷ ρ) dropping
    → CanBeEmpty G.rules (X ∷ []) × First G.rules σ t
drop_by {G = G} (Choice.pass f n) = dropped_empty G f n

-- A token that an expand or a drop has moved for is in FIRST of the stack then: it is not in error.
pub expanded_fits : {G : Grammar} {A p t : ℕ} {β σ ρ : List ℕ} → Choice G (A ∷ σ) (t ∷ ρ) (expanding p β) → First G.rules (β ++ σ) t
expanded_fits {G = G} {σ = σ} c = first_append G.rules (expand_by c).1 σ

-- So it is behind a drop.
pub dropped_fits : {G : Grammar} {X t : ℕ} {σ ρ : List ℕ} → Choice G (X ∷ σ) (t ∷ ρ) dropping → First G.rules σ t
dropped_fits c = (drop_by c).1

-- A correction is made only where the token is in error.
pub in_error : {G : Grammar} {t j i : ℕ} {σ ρ : List ℕ} {ps : List Pop} → Choice G σ (t ∷ ρ) (correcting j i ps) → First G.rules σ t → ⊥
in_error (Choice.correct n x y) f = n f

module _ (G : Grammar) (N R : ℕ) (good : Good G N R) where
  eaten_of : (f : ℕ) {t n : ℕ} {σ δ : List ℕ} → n ≤ f → Reach G.rules t σ n δ → Terminal t → At G σ → (ρ : List ℕ)
      → (xs : List Pick) × (τ : List ℕ) × Eaten G t ρ σ xs τ
  eaten_of zero l (Reach.here {α = σ} e) i a ρ = (matching ∷ [], σ, Eaten.matched (Choice.match e))
  eaten_of zero l (Reach.down r h) i a ρ = absurd (omega arith)
  eaten_of (suc f) l (Reach.here {α = σ} e) i a ρ = (matching ∷ [], σ, Eaten.matched (Choice.match e))
  eaten_of (suc f) {t = t} l (Reach.down {p = p} {A = A} {n = n} {β = β} {α = σ} {δ = δ} r h) i a ρ =
      go (λ m ω ε k g b. eaten_of f k g i b ρ) (reach_where G.rules h β σ refl)
    where
      go : ((m : ℕ) (ω ε : List ℕ) → m ≤ f → Reach G.rules t ω m ε → At G ω → (xs : List Pick) × (τ : List ℕ) × Eaten G t ρ ω xs τ)
          → Where G.rules t β σ n δ → (xs : List Pick) × (τ : List ℕ) × Eaten G t ρ (A ∷ σ) xs τ
      go rec (Where.within g e) =
          let k = rec n (β ++ σ) δ (omega arith) h (at_down G N R good a r) in
          (expanding p β ∷ k.0, k.1, Eaten.expanded (Choice.expand r (reach_first G.rules i g)) k.2)
      go rec (Where.behind {m = m} {l = j} c g e) =
          let k = rec j σ δ (omega arith) g (at_rest G N R good (A ∷ []) a) in
          let empty : CanBeEmpty G.rules (A ∷ []) =
          of_der G.rules (Der.down r (subst (λ x. Der G.rules x []) (sym (append-nil β)) (der_of_empties G.rules c))) in (
            dropping ∷ k.0,
            k.1,
            Eaten.dropped
                (Choice.pass
                (reach_first G.rules i (Reach.down r h))
                (λ f. first_or_behind G N R good (A ∷ []) σ a f empty (reach_first G.rules i g)))
                k.2,
          )

  -- "Moves follow until t is matched."
  pub token_matched : {t : ℕ} {σ : List ℕ} → At G σ → First G.rules σ t → (ρ : List ℕ)
      → (xs : List Pick) × (τ : List ℕ) × Eaten G t ρ σ xs τ
  token_matched a f ρ = let h = first_reach G.rules f in eaten_of h.0 (omega arith) h.2 f.token a ρ

  two_picks : {t : ℕ} {σ ρ : List ℕ} {x y : Pick} → Choice G σ (t ∷ ρ) x → Choice G σ (t ∷ ρ) y → Terminal t → (x ≡ y → ⊥) → ⊥
  two_picks c d i n = n (choice_determined G N R good c d i)

  -- The moves for a token are determined.
  pub token_determined : {t : ℕ} {ρ σ τ υ : List ℕ} {xs ys : List Pick} → Eaten G t ρ σ xs τ → Eaten G t ρ σ ys υ → Terminal t
      → (xs ≡ ys) × (τ ≡ υ)
  token_determined (Eaten.matched c) (Eaten.matched d) i = (refl, refl)
  token_determined (Eaten.matched c) (Eaten.expanded d k) i = absurd (two_picks c d i (λ e. zero_one (cc)))
  token_determined (Eaten.matched c) (Eaten.dropped d k) i = absurd (two_picks c d i (λ e. zero_one (cc)))
  token_determined (Eaten.expanded c h) (Eaten.matched d) i = absurd (two_picks c d i (λ e. zero_one (cc)))
  token_determined {t = t} {ρ = ρ} {υ = υ}
      (Eaten.expanded {p = p} {β = β} {σ = σ} {xs = xs} c h)
      (Eaten.expanded {p = q} {β = γ} {xs = ys} d k)
      i =
      let e : expanding p β ≡ expanding q γ = choice_determined G N R good c d i in
      let right : β ≡ γ = cc in
      let both = token_determined h (subst (λ l. Eaten G t ρ (l ++ σ) ys υ) (sym right) k) i in
      let rest : xs ≡ ys = both.0 in
      (cc, both.1)
  token_determined (Eaten.expanded c h) (Eaten.dropped d k) i = absurd (two_picks c d i (λ e. zero_one (cc)))
  token_determined (Eaten.dropped c h) (Eaten.matched d) i = absurd (two_picks c d i (λ e. zero_one (cc)))
  token_determined (Eaten.dropped c h) (Eaten.expanded d k) i = absurd (two_picks c d i (λ e. zero_one (cc)))
  token_determined (Eaten.dropped c h) (Eaten.dropped d k) i =
      let both = token_determined h k i in (ap (λ zs. dropping ∷ zs) both.0, both.1)

  budgeted : {t : ℕ} {ρ σ τ : List ℕ} {xs : List Pick} → Eaten G t ρ σ xs τ → (k : ℕ) → At G σ → Budget G.rules t σ k → expands xs ≤ k
  unfolding expands
  budgeted (Eaten.matched c) k a b = omega arith
  budgeted (Eaten.expanded {σ = σ} c h) zero a b =
      absurd (omega (arith, budget_some G N R good σ (expand_by c).0 (expand_by c).1 b))
  budgeted (Eaten.expanded c h) (suc k) a b =
      let r = (expand_by c).0 in
      let form = at_down G N R good a r in
      omega (arith, budgeted h k form (budget_expand G N R good form r (expand_by c).1 b))
  budgeted (Eaten.dropped {X = X} c h) k a b = budgeted h k (at_rest G N R good (X ∷ []) a) (budget_drop G N R good (drop_by c).0 b)

  -- A token takes at most N expands.
  pub token_expands : {t : ℕ} {σ τ ρ : List ℕ} {xs : List Pick} → Eaten G t ρ σ xs τ → Terminal t → At G σ → expands xs ≤ N
  token_expands {σ = σ} e i a = budgeted e N a (budget_full G N R good σ i)
