-- How a token leads down a list: the nonterminals that are expanded for it, each in the right side of the one before.
-- They are distinct, since each is nearer to the token than the one before; so they are at most N.
use Rattle.std.specs.Prelude.{ℕ, zero, suc, ◌+◌, ◌≤◌, ◌<◌, ◌≡◌, refl, ◌⊎◌, length}
use Rattle.std.proofs.Common.{sym, subst, inl, inr, ⊎_elim, arith}
use mathlib.Core.List.Memᴰ
use mathlib.Core.List.{List, [], ◌∷◌, ◌++◌, append-nil, Memᴰ}
use Rattle.grammar.specs.Words.{Terminal}
use Rattle.grammar.specs.Derivation.{Rules, Derives, First, CanBeEmpty}
use Rattle.grammar.specs.Grammar.{Grammar}
use Rattle.grammar.specs.Theory.Leftmost.{Der, to_der, of_der, der_append}
use Rattle.grammar.specs.Theory.Pigeonhole.{Distinct, distinct_bounded}
use Rattle.grammar.specs.Theory.Good.{Good, good_below}
use Rattle.grammar.specs.Theory.Forms.{At, at_nonterminal}
use Rattle.grammar.specs.Theory.Reach.{Reach, Where, der_of_empties, empties, reach_append, reach_behind, reach_where}
use Rattle.grammar.specs.Theory.Reach.{first_reach, reach_first}
use Rattle.grammar.specs.Theory.Predictive.{one_way, first_or_behind}

-- Token t leads down the list, and `As` are expanded for it: it is the head; or the head is expanded and t leads down the
-- right side alone; or the head can be empty and t leads down the rest.
pub data Lead (R : Rules) (t : ℕ) : List ℕ → List ℕ → Type 0 where
  here : {X : ℕ} {α : List ℕ} → X ≡ t → Lead R t (X ∷ α) []
  down : {p A : ℕ} {β α As : List ℕ} → R p A β → Lead R t β As → Lead R t (A ∷ α) (A ∷ As)
  past : {X : ℕ} {α As : List ℕ} → CanBeEmpty R (X ∷ []) → Lead R t α As → Lead R t (X ∷ α) As

-- A nonterminal from which the token is reached in at most n steps.
pub record Near (R : Rules) (t n A : ℕ) : Type 0 where
  pub steps : ℕ
  pub behind : List ℕ
  pub reach : Reach R t (A ∷ []) steps behind
  pub near : steps ≤ n

-- What a lead shows: the path to the token, and that those expanded are named, distinct and no farther from it.
pub record Led (R : Rules) (N t : ℕ) (α As : List ℕ) : Type 0 where
  pub steps : ℕ
  pub behind : List ℕ
  pub reach : Reach R t α steps behind
  pub near : (A : ℕ) → Memᴰ A As → Near R t steps A
  pub named : (A : ℕ) → Memᴰ A As → (64 ≤ A) × (A < 64 + N)
  pub distinct : Distinct As

-- At most k expands are left for t down the list.
abbrev pub Budget : Rules → ℕ → List ℕ → ℕ → Type 0
Budget R t α k = (As : List ℕ) → Lead R t α As → length As ≤ k

near_more : {R : Rules} {t n m A : ℕ} → n ≤ m → Near R t n A → Near R t m A
near_more l h = record { steps = h.steps; behind = h.behind; reach = h.reach; near = omega (arith, h.near) }

module _ (R : Rules) where
  -- A token that is reached leads down; `f` bounds the depth.
  lead_of : (f : ℕ) {t n : ℕ} {α δ : List ℕ} → n ≤ f → Reach R t α n δ → (As : List ℕ) × Lead R t α As
  lead_of zero l (Reach.here e) = ([], Lead.here e)
  lead_of zero l (Reach.down r h) = absurd (omega arith)
  lead_of (suc f) l (Reach.here e) = ([], Lead.here e)
  lead_of (suc f) {t = t} l (Reach.down {p = p} {A = A} {n = n} {β = β} {α = α} {δ = δ} r h) =
      go (λ m ω ε k g. lead_of f k g) (reach_where R h β α refl)
    where
      go : ((m : ℕ) (ω ε : List ℕ) → m ≤ f → Reach R t ω m ε → (As : List ℕ) × Lead R t ω As) → Where R t β α n δ
          → (As : List ℕ) × Lead R t (A ∷ α) As
      go rec (Where.within {δ' = ε} g e) = let k = rec n β ε (omega arith) g in (A ∷ k.0, Lead.down r k.1)
      go rec (Where.behind {m = m} {l = i} c g e) =
          let k = rec i α δ (omega arith) g in
          (k.0, Lead.past (of_der R (Der.down r (subst (λ x. Der R x []) (sym (append-nil β)) (der_of_empties R c)))) k.1)

  -- A token in FIRST of a list leads down it.
  pub first_lead : {t : ℕ} {α : List ℕ} → First R α t → (As : List ℕ) × Lead R t α As
  first_lead f = let h = first_reach R f in lead_of h.0 (omega arith) h.2

  -- Down two lists side by side: down the first, or down the second, the first being empty.
  pub lead_append : {t : ℕ} {As : List ℕ} (β α : List ℕ) → Lead R t (β ++ α) As
      → Lead R t β As ⊎ (CanBeEmpty R β × Lead R t α As)
  lead_append [] α l = inr (Derives.done, l)
  lead_append (X ∷ β) α (Lead.here e) = inl (Lead.here e)
  lead_append (X ∷ β) α (Lead.down r l) = inl (Lead.down r l)
  lead_append (X ∷ β) α (Lead.past c l) =
      ⊎_elim
      (λ k. inl (Lead.past c k))
      (λ k. inr (of_der R (der_append R (to_der R c) (to_der R k.0)), k.1))
      (lead_append β α l)

module _ (G : Grammar) (N R : ℕ) (good : Good G N R) where
  -- The depth of a token below a nonterminal is one number.
  alone : {A t n m : ℕ} {δ ε : List ℕ} → 64 ≤ A → G.known A → Terminal t → Reach G.rules t (A ∷ []) n δ
      → Reach G.rules t (A ∷ []) m ε → n ≡ m
  alone {A = A} l h i f g =
      let form = at_nonterminal G N R good A l h in
      (one_way G N R good (reach_append G.rules f form.0) (reach_append G.rules g form.0) i form.1).steps

  -- Every lead shows it.
  pub led : {t : ℕ} {α As : List ℕ} → Lead G.rules t α As → Terminal t → Led G.rules N t α As
  led (Lead.here {α = α} e) i =
      record {
        steps = 0;
        behind = α;
        reach = Reach.here e;
        near = λ A m. absurd (Memᴰ.not-nil m);
        named = λ A m. absurd (Memᴰ.not-nil m);
        distinct = Distinct.nothing;
      }
  led {t = t} (Lead.down {p = p} {A = A} {β = β} {α = α} {As = As} r l) i =
      let below = led l i in
      let name = good.left p A β r in
      let own : Reach G.rules t (A ∷ []) (suc below.steps) (below.behind ++ []) =
      Reach.down r (reach_append G.rules below.reach []) in
      record {
        steps = suc below.steps;
        behind = below.behind ++ α;
        reach = Reach.down r (reach_append G.rules below.reach α);
        near =
            λ B m.
            ⊎_elim
            (λ e.
            subst (λ x. Near G.rules t (suc below.steps) x) (sym e)
            (record { steps = suc below.steps; behind = below.behind ++ []; reach = own; near = omega arith }))
            (λ k. near_more (omega arith) (below.near B k))
            (Memᴰ.cases_cons m);
        named =
            λ B m.
            ⊎_elim (λ e. subst (λ x. (64 ≤ x) × (x < 64 + N)) (sym e) (name.0, good_below good name.0 name.1))
            (λ k. below.named B k) (Memᴰ.cases_cons m);
        distinct =
            Distinct.also
            (λ m.
            let again = below.near A m in
            let same = alone name.0 name.1 i own again.reach in
            omega (arith, again.near))
            below.distinct;
      }
  led {t = t} (Lead.past {X = X} {α = α} {As = As} c l) i =
      let below = led l i in
      let gone = empties G.rules (to_der G.rules c) in
      record {
        steps = gone.0 + below.steps;
        behind = below.behind;
        reach = reach_behind G.rules gone.1 below.reach (gone.0 + below.steps) refl;
        near = λ B m. near_more (omega arith) (below.near B m);
        named = below.named;
        distinct = below.distinct;
      }

  -- A token that leads down a list is in its FIRST.
  pub lead_first : {t : ℕ} {α As : List ℕ} → Lead G.rules t α As → Terminal t → First G.rules α t
  lead_first l i = reach_first G.rules i (led l i).reach

  -- A token takes at most N expands.
  pub budget_full : {t : ℕ} (α : List ℕ) → Terminal t → Budget G.rules t α N
  budget_full α i As l = let h = led l i in distinct_bounded 64 N h.distinct h.named

  -- An expand takes one of them,
  pub budget_expand : {p A t k : ℕ} {β σ : List ℕ} → At G (β ++ σ) → G.rules p A β → First G.rules β t
      → Budget G.rules t (A ∷ σ) (suc k) → Budget G.rules t (β ++ σ) k
  budget_expand {β = β} {σ = σ} a r f b As l =
      ⊎_elim
      (λ h. let n = b (_ ∷ As) (Lead.down r h) in omega arith)
      (λ h. absurd (first_or_behind G N R good β σ a f h.0 (lead_first h.1 f.token)))
      (lead_append G.rules β σ l)

  -- of which there is one;
  pub budget_some : {p A t k : ℕ} {β : List ℕ} (σ : List ℕ) → G.rules p A β → First G.rules β t
      → Budget G.rules t (A ∷ σ) k → 1 ≤ k
  budget_some σ r f b = let h = first_lead G.rules f in let n = b (_ ∷ h.0) (Lead.down r h.1) in omega arith

  -- a drop takes none.
  pub budget_drop : {X t k : ℕ} {σ : List ℕ} → CanBeEmpty G.rules (X ∷ []) → Budget G.rules t (X ∷ σ) k
      → Budget G.rules t σ k
  budget_drop c b As l = b As (Lead.past c l)
