-- What can be empty is so by a derivation at most N high: nonterminals below one another in it are distinct, since each is
-- emptied by fewer steps than the one above.
use Rattle.std.specs.Prelude.{ℕ, zero, suc, ◌+◌, ◌≤◌, ◌<◌, ◌≡◌, refl, length}
use Rattle.std.proofs.Common.{sym, subst, ⊎_elim, arith}
use mathlib.Core.List.Memᴰ
use mathlib.Core.List.{List, [], ◌∷◌, Memᴰ}
use Rattle.grammar.specs.Derivation.{Rules, CanBeEmpty}
use Rattle.grammar.specs.Grammar.{Grammar}
use Rattle.grammar.specs.Theory.Leftmost.{to_der}
use Rattle.grammar.specs.Theory.Pigeonhole.{Distinct, distinct_bounded}
use Rattle.grammar.specs.Theory.Good.{Good, good_below}
use Rattle.grammar.specs.Theory.Forms.{at_nonterminal, at_ended}
use Rattle.grammar.specs.Theory.Reach.{Empties, Emptied, empties, empties_append, empties_split, reach_behind, first_reach}
use Rattle.grammar.specs.Theory.Predictive.{one_way, ended_first, behind_nonterminal}

-- The list can be empty by a derivation at most h high.
pub data Null (R : Rules) : ℕ → List ℕ → Type 0 where
  done : {h : ℕ} → Null R h []
  also : {p A h : ℕ} {β α : List ℕ} → R p A β → Null R h β → Null R (suc h) α → Null R (suc h) (A ∷ α)

-- It is emptied by some number of steps.
pub null_empties : {R : Rules} {h : ℕ} {α : List ℕ} → Null R h α → (n : ℕ) × Empties R α n
null_empties Null.done = (0, Empties.done)
null_empties {R = R} (Null.also r b a) =
    let one = null_empties b in
    let rest = null_empties a in
    (suc (one.0 + rest.0), Empties.down r (empties_append R one.1 rest.1 (one.0 + rest.0) refl))

module _ (G : Grammar) (N R : ℕ) (good : Good G N R) where
  -- A nonterminal is emptied by one number of steps.
  empties_alone : {A m n : ℕ} → 64 ≤ A → G.known A → Empties G.rules (A ∷ []) m → Empties G.rules (A ∷ []) n → m ≡ n
  empties_alone {A = A} {m = m} {n = n} l h e f =
      let form = at_nonterminal G N R good A l h in
      let token = ended_first G N R good (behind_nonterminal G N R good l (at_ended G N R good form.1)) in
      let k = first_reach G.rules token.1 in
      let same =
      one_way G N R good
      (reach_behind G.rules e k.2 (m + k.0) refl)
      (reach_behind G.rules f k.2 (n + k.0) refl)
      token.1.token
      form.1 in
      omega (arith, same.steps)

  -- Those above, and that they take more than m steps.
  record Above (m : ℕ) (As : List ℕ) : Type 0 where
    distinct : Distinct As
    named : (B : ℕ) → Memᴰ B As → (64 ≤ B) × (B < 64 + N)
    more : (B : ℕ) → Memᴰ B As → (e : ℕ) × Empties G.rules (B ∷ []) e × (m < e)

  above_less : {m n : ℕ} {As : List ℕ} → n ≤ m → Above m As → Above n As
  above_less l a =
      record {
        distinct = a.distinct;
        named = a.named;
        more = λ B i. let h = a.more B i in (h.0, h.1, omega (arith, h.2));
      }

  -- One more above.
  above_also : {p A m n : ℕ} {β As : List ℕ} → G.rules p A β → Empties G.rules β n → n < m → Above m As → Above n (A ∷ As)
  above_also {p = p} {A = A} {m = m} {n = n} {β = β} {As = As} r e l a =
      let name = good.left p A β r in
      let own : Empties G.rules (A ∷ []) (suc n) = Empties.down r (empties_append G.rules e Empties.done n (omega arith)) in
      record {
        distinct =
            Distinct.also
            (λ i. let h = a.more A i in omega (arith, h.2, empties_alone name.0 name.1 own h.1))
            a.distinct;
        named =
            λ B i.
            ⊎_elim (λ e. subst (λ x. (64 ≤ x) × (x < 64 + N)) (sym e) (name.0, good_below good name.0 name.1)) (λ k. a.named B k)
            (Memᴰ.cases_cons i);
        more =
            λ B i.
            ⊎_elim
            (λ e. (suc n, subst (λ x. Empties G.rules (x ∷ []) (suc n)) (sym e) own, omega arith))
            (λ k. let h = a.more B k in (h.0, h.1, omega (arith, h.2)))
            (Memᴰ.cases_cons i);
      }

  null_within : (f : ℕ) {m : ℕ} {α : List ℕ} → m ≤ f → Empties G.rules α m → (As : List ℕ) → Above m As → (h : ℕ)
      → h + length As ≡ N → Null G.rules h α
  null_within zero l Empties.done As a h e = Null.done
  null_within zero l (Empties.down r k) As a h e = absurd (omega arith)
  null_within (suc f) l Empties.done As a h e = Null.done
  null_within (suc f) l (Empties.down {p = p} {A = A} {n = n} {β = β} {α = α} r k) As a h e =
      go (λ m ω i d Bs b j g. null_within f i d Bs b j g) h e
    where
      parts : Emptied G.rules β α n
      parts = empties_split G.rules k β α refl

      above : Above parts.left (A ∷ As)
      above = above_also r parts.first (omega (arith, parts.sum)) a

      go : ((m : ℕ) (ω : List ℕ) → m ≤ f → Empties G.rules ω m → (Bs : List ℕ) → Above m Bs → (i : ℕ) → i + length Bs ≡ N
          → Null G.rules i ω)
          → (h : ℕ) → h + length As ≡ N → Null G.rules h (A ∷ α)
      go rec zero e = absurd (omega (arith, distinct_bounded 64 N above.distinct above.named))
      go rec (suc h) e =
          Null.also r
          (rec parts.left β (omega (arith, parts.sum)) parts.first (A ∷ As) above h (omega arith))
          (rec parts.right α (omega (arith, parts.sum)) parts.second As (above_less (omega (arith, parts.sum)) a) (suc h) e)

  -- What can be empty is so by a derivation at most N high.
  pub null_high : {α : List ℕ} → CanBeEmpty G.rules α → Null G.rules N α
  null_high c =
      let e = empties G.rules (to_der G.rules c) in
      null_within e.0 (omega arith) e.1 []
      (record {
        distinct = Distinct.nothing;
        named = λ B i. absurd (Memᴰ.not-nil i);
        more = λ B i. absurd (Memᴰ.not-nil i);
      })
      N (omega arith)
