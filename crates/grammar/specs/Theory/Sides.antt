-- FIRST behind a list that can be empty, and of a left side: for any rules.
use Rattle.std.specs.Prelude.{ℕ, ◌+◌, ◌≡◌, refl, ◌⊎◌, List, [], ◌∷◌, ◌++◌}
use Rattle.std.proofs.Common.{subst, inl, inr, append-nil}
use Rattle.grammar.specs.Words.{Terminal}
use Rattle.grammar.specs.Derivation.{Rules, First, CanBeEmpty}
use Rattle.grammar.specs.Theory.Leftmost.{to_der}
use Rattle.grammar.specs.Theory.Reach.{Reach, empties, reach_behind}
use Rattle.grammar.specs.Theory.Reach.{first_reach, reach_first}

module _ (R : Rules) where
  -- A token in FIRST of what stands behind a list that can be empty.
  pub first_behind : {t : ℕ} {φ α : List ℕ} → CanBeEmpty R φ → First R α t → First R (φ ++ α) t
  first_behind c f =
      let gone = empties R (to_der R c) in
      let here = first_reach R f in
      reach_first R f.token (reach_behind R gone.1 here.2 (gone.0 + here.0) refl)

  -- FIRST of a nonterminal is that of its right sides.
  pub first_by_rule : {A t : ℕ} → First R (A ∷ []) t → (A ≡ t) ⊎ ((p : ℕ) × (β : List ℕ) × R p A β × First R β t)
  first_by_rule {A = A} {t = t} f = go f.token (first_reach R f).2
    where
      go : {n : ℕ} {δ : List ℕ} → Terminal t → Reach R t (A ∷ []) n δ → (A ≡ t) ⊎ ((p : ℕ) × (β : List ℕ) × R p A β × First R β t)
      go l (Reach.here e) = inl e
      go l (Reach.down {p = p} {n = n} {β = β} {δ = δ} r h) =
          inr (p, β, r, reach_first R l (subst (λ x. Reach R t x n δ) (append-nil β) h))
