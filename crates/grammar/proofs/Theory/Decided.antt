-- FIRST and what can be empty are decided for a good grammar whose rules are finitely many and decided, as an accepted grammar's are: what
-- can be empty is so by a derivation at most N high, and what leads to a token does so by at most N expands, so both are searches with an
-- end.
use Rattle.std.specs.Prelude.{ℕ, zero, suc, ◌<◌, ◌≡◌, refl, ◌⊎◌, length}
use Rattle.std.proofs.Common.{subst, inl, inr, ⊎_elim, arith}
use mathlib.Core.List.{List, [], ◌∷◌, cons≢nil}
use Rattle.std.proofs.Math.Logic.{dite}
use Rattle.std.proofs.Math.Decide.{dec_lt, ℕ_discrete}
use Rattle.grammar.specs.Words.{END, rule_count, left_side, right_side, nonterminal_count, reliability}
use Rattle.grammar.specs.Derivation.{Rules, First, CanBeEmpty}
use Rattle.grammar.specs.Grammar.{Grammar, grammar_of, RuleOf, Reliable, limited as strictly}
use Rattle.grammar.specs.Theory.Leftmost.{of_der}
use Rattle.grammar.specs.Theory.Good.{Good, Accepted, good_words}
use Rattle.grammar.specs.Theory.Reach.{der_of_empties}
use Rattle.grammar.specs.Theory.Leads.{Lead, first_lead, lead_first, budget_full}
use Rattle.grammar.specs.Theory.Heights.{Null, null_empties, null_high}
use Rattle.grammar.proofs.Theory.Exists.{least_below}

-- Token t leads down the list by fewer than d expands.
pub record Short (R : Rules) (t d : ℕ) (α : List ℕ) : Type 0 where
  pub expanded : List ℕ
  pub lead : Lead R t α expanded
  pub short : length expanded < d

-- A rule of A whose right side has the property.
pub record By (R : Rules) (A : ℕ) (Q : List ℕ → Type 0) (p : ℕ) : Type 0 where
  pub right : List ℕ
  pub rule : R p A right
  pub has : Q right

-- ---- The two searches, where rules are finitely many and decided

module _
    (R : Rules)
    (P : ℕ)
    (counted : (p A : ℕ) (β : List ℕ) → R p A β → p < P)
    (functional : (p A : ℕ) (β γ : List ℕ) → R p A β → R p A γ → β ≡ γ)
    (dec_rule : (p A : ℕ) → Dec ((β : List ℕ) × R p A β)) where
  dec_by : (A : ℕ) (Q : List ℕ → Type 0) → ((β : List ℕ) → Dec (Q β)) → (p : ℕ) → Dec (By R A Q p)
  dec_by A Q d p =
      dite
      (dec_rule p A)
      (λ r.
      dite
      (d r.0)
      (λ q. yes (record { right = r.0; rule = r.1; has = q }))
      (λ n. no (λ b. n (subst Q (functional p A b.right r.0 b.rule r.1) b.has))))
      (λ n. no (λ b. n (b.right, b.rule)))

  dec_some_rule : (A : ℕ) (Q : List ℕ → Type 0) → ((β : List ℕ) → Dec (Q β)) → Dec ((p : ℕ) × By R A Q p)
  dec_some_rule A Q d =
      ⊎_elim
      (λ h. yes (h.value, h.holds))
      (λ n. no (λ b. n b.0 (counted b.0 A b.1.right b.1.rule) b.1))
      (least_below (By R A Q) (dec_by A Q d) P)

  null_cases : {h A : ℕ} {α : List ℕ} → Null R (suc h) (A ∷ α) → ((p : ℕ) × By R A (Null R h) p) × Null R (suc h) α
  null_cases (Null.also {p = p} {β = β} r b a) = ((p, record { right = β; rule = r; has = b }), a)

  null_zero : {A : ℕ} {α : List ℕ} → Null R 0 (A ∷ α) → ⊥
  null_zero n = null_low n refl
    where
      null_low : {h A : ℕ} {α : List ℕ} → Null R h (A ∷ α) → h ≡ 0 → ⊥
      null_low (Null.also r b a) e = omega (arith, e)

  dec_null_list : (h : ℕ) → ((β : List ℕ) → Dec (Null R h β)) → (α : List ℕ) → Dec (Null R (suc h) α)
  dec_null_list h d [] = yes Null.done
  dec_null_list h d (A ∷ α) =
      dite
      (dec_some_rule A (Null R h) d)
      (λ b.
      dite
      (dec_null_list h d α)
      (λ a. yes (Null.also b.1.rule b.1.has a))
      (λ n. no (λ k. n (null_cases k).1)))
      (λ n. no (λ k. n (null_cases k).0))

  dec_null : (h : ℕ) (α : List ℕ) → Dec (Null R h α)
  dec_null zero [] = yes Null.done
  dec_null zero (A ∷ α) = no null_zero
  dec_null (suc h) α = dec_null_list h (dec_null h) α

  -- How a token may lead down a list: at its head, by a rule of its head, or past it.
  short_cases : {t d X : ℕ} {α : List ℕ} → Short R t (suc d) (X ∷ α)
      → (X ≡ t) ⊎ (((p : ℕ) × By R X (Short R t d) p) ⊎ (CanBeEmpty R (X ∷ []) × Short R t (suc d) α))
  short_cases {t = t} {d = d} {X = X} {α = α} s = go s.lead s.short
    where
      go : {As : List ℕ} → Lead R t (X ∷ α) As → length As < suc d
          → (X ≡ t) ⊎ (((p : ℕ) × By R X (Short R t d) p) ⊎ (CanBeEmpty R (X ∷ []) × Short R t (suc d) α))
      go (Lead.here e) l = inl e
      go (Lead.down {p = p} {β = β} {As = As} r k) l =
          inr (inl (p, record { right = β; rule = r; has = record { expanded = As; lead = k; short = omega arith } }))
      go (Lead.past {As = As} c k) l = inr (inr (c, record { expanded = As; lead = k; short = l }))

  module _ (dec_empty : (X : ℕ) → Dec (CanBeEmpty R (X ∷ []))) (t : ℕ) where
    dec_short_list : (d : ℕ) → ((β : List ℕ) → Dec (Short R t d β)) → (α : List ℕ) → Dec (Short R t (suc d) α)
    dec_short_list d f [] = no (λ s. no_lead s.lead refl)
      where
        no_lead : {α As : List ℕ} → Lead R t α As → α ≡ [] → ⊥
        no_lead (Lead.here e) h = cons≢nil h
        no_lead (Lead.down r k) h = cons≢nil h
        no_lead (Lead.past c k) h = cons≢nil h
    dec_short_list d f (X ∷ α) =
        dite
        (ℕ_discrete X t)
        (λ e. yes (record { expanded = []; lead = Lead.here e; short = omega arith }))
        (λ n.
        dite
        (dec_some_rule X (Short R t d) f)
        (λ b.
        yes
        (record {
          expanded = X ∷ b.1.has.expanded;
          lead = Lead.down b.1.rule b.1.has.lead;
          short = omega (arith, b.1.has.short);
        }))
        (λ m.
        dite
        (dec_empty X)
        (λ c.
        dite
        (dec_short_list d f α)
        (λ s. yes (record { expanded = s.expanded; lead = Lead.past c s.lead; short = s.short }))
        (λ k. no (λ s. ⊎_elim n (λ z. ⊎_elim m (λ w. k w.1) z) (short_cases s))))
        (λ k. no (λ s. ⊎_elim n (λ z. ⊎_elim m (λ w. k w.0) z) (short_cases s)))))

    dec_short : (d : ℕ) (α : List ℕ) → Dec (Short R t d α)
    dec_short zero α = no (λ s. absurd (omega (arith, s.short)))
    dec_short (suc d) α = dec_short_list d (dec_short d) α

module _
    (G : Grammar)
    (N R : ℕ)
    (good : Good G N R)
    (P : ℕ)
    (counted : (p A : ℕ) (β : List ℕ) → G.rules p A β → p < P)
    (dec_rule : (p A : ℕ) → Dec ((β : List ℕ) × G.rules p A β)) where
  functional : (p A : ℕ) (β γ : List ℕ) → G.rules p A β → G.rules p A γ → β ≡ γ
  functional p A β γ r s = good.functional p A A β γ r s

  -- What can be empty is decided,
  pub dec_empty : (X : ℕ) → Dec (CanBeEmpty G.rules (X ∷ []))
  dec_empty X =
      dite
      (dec_null G.rules P counted functional dec_rule N (X ∷ []))
      (λ h. yes (of_der G.rules (der_of_empties G.rules (null_empties h).1)))
      (λ n. no (λ c. n (null_high G N R good c)))

  -- and so is FIRST.
  pub dec_first : (α : List ℕ) (t : ℕ) → Dec (First G.rules α t)
  dec_first α t =
      dite
      (dec_lt t 64)
      (λ l.
      dite
      (dec_short G.rules P counted functional dec_rule dec_empty t (suc N) α)
      (λ s. yes (lead_first G N R good s.lead l))
      (λ n.
      no
      (λ f.
      let h = first_lead G.rules f in
      n (record { expanded = h.0; lead = h.1; short = omega (arith, budget_full G N R good α l h.0 h.1) }))))
      (λ n. no (λ f. n f.token))

-- ---- The words of an accepted grammar

dec_rule_of : (ws : List ℕ) (p A : ℕ) → Dec ((β : List ℕ) × RuleOf ws p A β)
dec_rule_of ws p A =
    dite
    (dec_lt p (rule_count ws))
    (λ l.
    dite
    (ℕ_discrete A (left_side ws p))
    (λ e. yes (right_side ws p, record { counted = l; left = e; right = refl }))
    (λ n. no (λ r. n r.1.left)))
    (λ n. no (λ r. n r.1.counted))

-- For the words of an accepted grammar FIRST is decided,
pub dec_first_of : (ws : List ℕ) → Accepted ws → (α : List ℕ) (t : ℕ) → Dec (First (RuleOf ws) α t)
dec_first_of ws a =
    dec_first (grammar_of ws) (nonterminal_count ws) 8 (good_words ws a) (rule_count ws) (λ p A β r. r.counted) (dec_rule_of ws)

-- what can be empty is,
pub dec_empty_of : (ws : List ℕ) → Accepted ws → (X : ℕ) → Dec (CanBeEmpty (RuleOf ws) (X ∷ []))
dec_empty_of ws a =
    dec_empty (grammar_of ws) (nonterminal_count ws) 8 (good_words ws a) (rule_count ws) (λ p A β r. r.counted) (dec_rule_of ws)

-- and so is the reliability test.
pub dec_reliable_of : (ws : List ℕ) (c t : ℕ) → Dec (Reliable ws c t)
dec_reliable_of ws c t =
    dite
    (ℕ_discrete t END)
    (λ e. yes (Reliable.unlimited e))
    (λ n. dite (dec_lt c (reliability ws t)) (λ l. yes (strictly l)) (λ m. no (λ r. neither n m r)))
  where
    neither : {c t : ℕ} → (t ≡ END → ⊥) → (c < reliability ws t → ⊥) → Reliable ws c t → ⊥
    neither n m (Reliable.unlimited e) = n e
    neither n m (Reliable.limited l) = m l
