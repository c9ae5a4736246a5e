-- One way down: in a form of the first stack a token is reached by one leftmost path. From it: a nonterminal that can be
-- empty has no token in both its FIRST and its FOLLOW, and there is no left recursion.
use Rattle.std.specs.Prelude.{ℕ, suc, ◌+◌, ◌≤◌, ◌<◌, ◌≡◌, refl, List, [], ◌∷◌, ◌++◌, ◌⊎◌, length}
use Rattle.std.proofs.Common.{sym, ap, subst, append-nil, inl, inr, ⊎_elim, arith, length-append}
use Rattle.grammar.specs.Words.{END, Terminal}
use Rattle.grammar.specs.Derivation.{Derives, All, First, CanBeEmpty, Follow, Yields, Predict}
use Rattle.grammar.specs.Grammar.{Grammar}
use Rattle.grammar.specs.Theory.Leftmost.{Der, to_der, of_der, der_append, der_refl}
use Rattle.grammar.specs.Theory.Closed.{closed_down, all_front, all_rest}
use Rattle.grammar.specs.Theory.Good.{Good}
use Rattle.grammar.specs.Theory.Forms.{Ended, At, not_terminal, at_der, at_down, at_nonterminal, at_ended, at_follow, yields_some}
use Rattle.grammar.specs.Theory.Reach.{Reach, Where, reached, der_of_reach, der_of_empties, empties}
use Rattle.grammar.specs.Theory.Reach.{reach_append, reach_behind, reach_where, reach_through, first_reach, reach_first, first_append}

-- Two ways down that are one.
pub record Same (n m : ℕ) (δ ε : List ℕ) : Type 0 where
  pub steps : n ≡ m
  pub behind : δ ≡ ε

module _ (G : Grammar) (N R : ℕ) (good : Good G N R) where
  -- A rule by which a token is reached in a form predicts the token.
  pub predicts : {p A t n : ℕ} {β α δ : List ℕ} → Terminal t → At G (A ∷ α) → G.rules p A β → Reach G.rules t (β ++ α) n δ
      → Predict G.rules G.begin A β t
  predicts {p = p} {A = A} {t = t} {n = n} {β = β} {α = α} {δ = δ} l a r h = go (reach_where G.rules h β α refl)
    where
      go : Where G.rules t β α n δ → Predict G.rules G.begin A β t
      go (Where.within k e) = Predict.by_first (reach_first G.rules l k)
      go (Where.behind e k j) =
          Predict.by_follow
          (of_der G.rules (der_of_empties G.rules e))
          (at_follow G N R good l (at_der G N R good a (Der.keep (der_of_reach G.rules k (der_refl G.rules δ)))))

  -- "Its one rule": two rules of one nonterminal by which a token is reached in a form are one.
  pub one_rule : {p q A t n m : ℕ} {β γ α δ ε : List ℕ} → Terminal t → At G (A ∷ α) → G.rules p A β → G.rules q A γ
      → Reach G.rules t (β ++ α) n δ → Reach G.rules t (γ ++ α) m ε → β ≡ γ
  one_rule {p = p} {q = q} {A = A} {t = t} {β = β} {γ = γ} l a r s h k =
      let e : p ≡ q = good.none_shared_lem p q A t β γ r s (predicts l a r h) (predicts l a s k) in
      good.functional q A A β γ (subst (λ x. G.rules x A β) e r) s

  -- Determinism: a token is reached in a form by one path.
  pub one_way : {t n m : ℕ} {α δ ε : List ℕ} → Reach G.rules t α n δ → Reach G.rules t α m ε → Terminal t → At G α
      → Same n m δ ε
  one_way (Reach.here e) (Reach.here f) l a = record { steps = refl; behind = refl }
  one_way (Reach.here e) (Reach.down r k) l a = absurd (not_terminal G N R good r (subst (λ x. x < 64) (sym e) l))
  one_way (Reach.down r h) (Reach.here e) l a = absurd (not_terminal G N R good r (subst (λ x. x < 64) (sym e) l))
  one_way {t = t} {ε = ε} (Reach.down {β = β} {α = α} r h) (Reach.down {n = m} {β = γ} s k) l a =
      let e : β ≡ γ = one_rule l a r s h k in
      let both = one_way h (subst (λ x. Reach G.rules t (x ++ α) m ε) (sym e) k) l (at_down G N R good a r) in
      record { steps = ap suc both.steps; behind = both.behind }

  -- A list that can be empty has no token both in its FIRST and in FIRST of what stands behind it.
  pub first_or_behind : {t : ℕ} (φ α : List ℕ) → At G (φ ++ α) → First G.rules φ t → CanBeEmpty G.rules φ → First G.rules α t → ⊥
  first_or_behind {t = t} φ α a f c g =
      let here = first_reach G.rules f in
      let gone = empties G.rules (to_der G.rules c) in
      let form : At G (φ ++ (t ∷ g.rest)) =
      at_der G N R good a (der_append G.rules (der_refl G.rules φ) (to_der G.rules g.begins)) in
      let same =
      one_way
      (reach_append G.rules here.2 (t ∷ g.rest))
      (reach_behind G.rules gone.1 (Reach.here {α = g.rest} refl) gone.0 (omega arith))
      f.token
      form in
      omega (arith, ap length same.behind, length-append here.1 (t ∷ g.rest))

  -- A nonterminal that can be empty has no token in both its FIRST and its FOLLOW.
  pub first_or_follow : {A t : ℕ} → CanBeEmpty G.rules (A ∷ []) → First G.rules (A ∷ []) t
      → Follow G.rules G.begin A t → ⊥
  first_or_follow {A = A} {t = t} c f w =
      first_or_behind (A ∷ []) (t ∷ w.rest)
      (record { front = w.front; stands = to_der G.rules w.stands })
      f c
      (record { token = w.token; rest = w.rest; begins = Derives.done })

  -- ---- No left recursion: let A come back to itself by suc k steps, with δ behind it.

  -- Each path down A is then a longer one too.
  longer : {p A t k n : ℕ} {β δ ε : List ℕ} (ω : List ℕ) → G.rules p A β → Reach G.rules A β k δ
      → Reach G.rules t (A ∷ (δ ++ ω)) n ε → Reach G.rules t (A ∷ ω) (suc (k + n)) ε
  longer {k = k} {n = n} ω r back h = Reach.down r (reach_through G.rules (reach_append G.rules back ω) h (k + n) refl)

  -- So A has no token in its FIRST;
  back_no_first : {p A t k : ℕ} {β δ : List ℕ} → G.rules p A β → Reach G.rules A β k δ → First G.rules (A ∷ []) t → ⊥
  back_no_first {p = p} {A = A} {k = k} {β = β} {δ = δ} r back f =
      let A-named = good.left p A β r in
      let form = at_nonterminal G N R good A A-named.0 A-named.1 in
      let here = first_reach G.rules f in
      let once = reach_append G.rules here.2 form.0 in
      let again = longer form.0 r back (reach_append G.rules here.2 (δ ++ form.0)) in
      let same = one_way once again f.token form.1 in
      omega (arith, same.steps)

  -- nor, A being empty, has δ;
  back_no_rest : {p A t k : ℕ} {β δ : List ℕ} → G.rules p A β → Reach G.rules A β k δ → CanBeEmpty G.rules (A ∷ [])
      → First G.rules δ t → ⊥
  back_no_rest {A = A} {t = t} {k = k} {δ = δ} r back c f =
      let gone = empties G.rules (to_der G.rules c) in
      let here = first_reach G.rules f in
      let down = reach_behind G.rules gone.1 here.2 (gone.0 + here.0) refl in
      back_no_first r back
      (reach_first G.rules f.token
      (longer [] r back (subst (λ l. Reach G.rules t (A ∷ l) (gone.0 + here.0) here.1) (sym (append-nil δ)) down)))

  -- and where δ can be empty too, a token behind A is reached by two paths.
  back_no_behind : {p A t k : ℕ} {β δ : List ℕ} (ω : List ℕ) → G.rules p A β → Reach G.rules A β k δ
      → CanBeEmpty G.rules (A ∷ []) → CanBeEmpty G.rules δ → At G (A ∷ ω) → First G.rules ω t → ⊥
  back_no_behind {A = A} {k = k} {δ = δ} ω r back c d a f =
      let gone = empties G.rules (to_der G.rules c) in
      let none = empties G.rules (to_der G.rules d) in
      let here = first_reach G.rules f in
      let once = reach_behind G.rules gone.1 here.2 (gone.0 + here.0) refl in
      let past = reach_behind G.rules none.1 here.2 (none.0 + here.0) refl in
      let again = longer ω r back (reach_behind G.rules gone.1 past (gone.0 + (none.0 + here.0)) refl) in
      let same = one_way once again f.token a in
      omega (arith, same.steps)

  -- What derives a terminal string can be empty or has a token in its FIRST.
  empty_or_first : {φ : List ℕ} (w : List ℕ) → Yields G.rules φ w → CanBeEmpty G.rules φ ⊎ ((t : ℕ) × First G.rules φ t)
  empty_or_first [] y = inl y.derives
  empty_or_first (t ∷ w) y = inr (t, record { token = all_head y.terminals; rest = w; begins = y.derives })
    where
      all_head : {t : ℕ} {w : List ℕ} → All Terminal (t ∷ w) → Terminal t
      all_head (All.also h a) = h

  inner_or_first : {φ : List ℕ} → All G.known φ → CanBeEmpty G.rules φ ⊎ ((t : ℕ) × First G.rules φ t)
  inner_or_first a = let y = yields_some G N R good a in empty_or_first y.0 y.1

  -- A list that ends with END has some token in its FIRST.
  pub ended_first : {α : List ℕ} → Ended G.known α → (t : ℕ) × First G.rules α t
  ended_first (Ended.last {X = X} e) = (
    END,
    record { token = omega arith; rest = []; begins = subst (λ x. Derives G.rules (X ∷ []) (x ∷ [])) e Derives.done },
  )
  ended_first (Ended.also {X = X} {α = α} h a) =
      ⊎_elim
      (λ c. let t = ended_first a in (t.0, past c t.1))
      (λ t. (t.0, first_append G.rules t.1 α))
      (inner_or_first (All.also h All.nothing))
    where
      past : {t : ℕ} → CanBeEmpty G.rules (X ∷ []) → First G.rules α t → First G.rules (X ∷ α) t
      past c f =
          let gone = empties G.rules (to_der G.rules c) in
          let here = first_reach G.rules f in
          reach_first G.rules f.token (reach_behind G.rules gone.1 here.2 (gone.0 + here.0) refl)

  -- Behind a nonterminal END is still to come.
  pub behind_nonterminal : {A : ℕ} {ω : List ℕ} → 64 ≤ A → Ended G.known (A ∷ ω) → Ended G.known ω
  behind_nonterminal l (Ended.last e) = absurd (omega (arith, e))
  behind_nonterminal l (Ended.also h a) = a

  -- No nonterminal derives, in one or more steps, a form that begins with itself.
  pub no_left_recursion : {p A : ℕ} {β γ : List ℕ} → G.rules p A β → Derives G.rules β (A ∷ γ) → ⊥
  no_left_recursion {p = p} {A = A} {β = β} r d =
      let named = good.left p A β r in
      let form = at_nonterminal G N R good A named.0 named.1 in
      let back = reached G.rules (to_der G.rules d) in
      let inner : All G.known (A ∷ back.behind) =
      closed_down G.rules G.known (λ q B γ s h. good.symbols q B γ s)
      (der_of_reach G.rules back.reach (der_refl G.rules back.behind))
      (good.symbols p A β r) in
      let token = ended_first (behind_nonterminal named.0 (at_ended G N R good form.1)) in
      ⊎_elim
      (λ c.
      ⊎_elim
      (λ e. back_no_behind form.0 r back.reach c e form.1 token.1)
      (λ t. back_no_rest r back.reach c t.1)
      (inner_or_first (all_rest (A ∷ []) inner)))
      (λ t. back_no_first r back.reach t.1)
      (inner_or_first (all_front (A ∷ []) back.behind inner))
