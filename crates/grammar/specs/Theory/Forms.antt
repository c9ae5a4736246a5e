-- The forms that the first stack derives: each ends with END and has END nowhere else, and what stands in one to its end
-- can be derived further there. `At` is the invariant of the run's stack.
use Rattle.std.specs.Prelude.{ℕ, ◌≤◌, ◌≡◌, refl}
use Rattle.std.proofs.Common.{sym, ap, subst, arith}
use mathlib.Core.List.{List, [], ◌∷◌, ◌++◌, append_assoc, cons≢nil}
use Rattle.grammar.specs.Words.{RuleSymbol, END, Terminal}
use Rattle.grammar.specs.Derivation.{Rules, Derives, All, Follow, Yields}
use Rattle.grammar.specs.Grammar.{Grammar}
use Rattle.grammar.specs.Theory.Leftmost.{Der, to_der, of_der, der_append, der_refl, der_trans}
use Rattle.grammar.specs.Theory.Closed.{all_append}
use Rattle.grammar.specs.Theory.Good.{Good}

-- END stands at the end, and each member before it has the property.
pub data Ended (P : ℕ → Type 0) : List ℕ → Type 0 where
  last : {X : ℕ} → X ≡ END → Ended P (X ∷ [])
  also : {X : ℕ} {α : List ℕ} → P X → Ended P α → Ended P (X ∷ α)

-- The first stack derives a form in which α stands to the end.
pub record At (G : Grammar) (α : List ℕ) : Type 0 where
  pub front : List ℕ
  pub stands : Der G.rules G.begin (front ++ α)

-- ---- Ended

-- What has the property, before a list that ends so.
pub ended_append : {P : ℕ → Type 0} {α β : List ℕ} → All P α → Ended P β → Ended P (α ++ β)
ended_append All.nothing e = e
ended_append (All.also h a) e = Ended.also h (ended_append a e)

-- What has the property, before END.
pub ended_of : {P : ℕ → Type 0} {α : List ℕ} → All P α → Ended P (α ++ (END ∷ []))
ended_of a = ended_append a (Ended.last refl)

-- Such a list is not empty.
pub ended_nonempty : {P : ℕ → Type 0} {α : List ℕ} → Ended P α → α ≡ [] → ⊥
ended_nonempty (Ended.last h) e = cons≢nil e
ended_nonempty (Ended.also h a) e = cons≢nil e

-- What stands before END.
pub ended_front : {P : ℕ → Type 0} {α : List ℕ} → Ended P α → (φ : List ℕ) × All P φ × (α ≡ φ ++ (END ∷ []))
ended_front (Ended.last h) = ([], All.nothing, ap (λ x. x ∷ []) h)
ended_front (Ended.also {X = X} h a) =
    let k = ended_front a in (X ∷ k.0, All.also h k.1, ap (λ l. X ∷ l) k.2)

ended_tail : {P : ℕ → Type 0} {Y : ℕ} {α : List ℕ} → Ended P (Y ∷ α) → (α ≡ [] → ⊥) → Ended P α
ended_tail (Ended.last h) n = absurd (n refl)
ended_tail (Ended.also h a) n = a

-- A list with a member is not empty.
pub some_end : (φ : List ℕ) (X : ℕ) (α : List ℕ) → φ ++ (X ∷ α) ≡ [] → ⊥
some_end [] X α e = cons≢nil e
some_end (Y ∷ φ) X α e = cons≢nil e

-- What stands in such a list to its end is such a list.
pub ended_rest : {P : ℕ → Type 0} (φ : List ℕ) {X : ℕ} {α : List ℕ} → Ended P (φ ++ (X ∷ α)) → Ended P (X ∷ α)
ended_rest [] e = e
ended_rest (Y ∷ φ) {X} {α} e = ended_rest φ (ended_tail e (some_end φ X α))

-- ---- The forms of a good grammar

-- The empty list derives itself alone.
pub der_nil : {R : Rules} {w : List ℕ} → Der R [] w → w ≡ []
der_nil Der.done = refl

module _ (G : Grammar) (N R : ℕ) (good : Good G N R) where
  -- A terminal is not rewritten.
  pub not_terminal : {p A : ℕ} {β : List ℕ} → G.rules p A β → Terminal A → ⊥
  not_terminal {p = p} {A = A} {β = β} r l = let h = (good.left p A β r).0 in omega arith

  -- END derives itself alone.
  pub end_stays : {w : List ℕ} → Der G.rules (END ∷ []) w → w ≡ END ∷ []
  end_stays (Der.keep d) = ap (λ l. END ∷ l) (der_nil d)
  end_stays (Der.down r d) = absurd (not_terminal r (omega arith))

  -- A derivation keeps END at the end.
  pub ended_der : {α w : List ℕ} → Der G.rules α w → Ended G.known α → Ended G.known w
  ended_der Der.done e = e
  ended_der (Der.keep d) (Ended.last {X = X} h) = subst (λ l. Ended G.known (X ∷ l)) (sym (der_nil d)) (Ended.last h)
  ended_der (Der.keep d) (Ended.also h a) = Ended.also h (ended_der d a)
  ended_der (Der.down r d) (Ended.last h) = absurd (not_terminal r (omega (arith, h)))
  ended_der (Der.down {β = β} r d) (Ended.also h a) = ended_der d (ended_append (good.symbols _ _ β r) a)

  -- The first stack ends with END.
  pub ended_begin : Ended G.known G.begin
  ended_begin = subst (λ l. Ended G.known l) (sym good.begins) (ended_of good.inner)

  -- A list of what may stand in a rule derives a terminal string.
  pub yields_some : {φ : List ℕ} → All G.known φ → (w : List ℕ) × Yields G.rules φ w
  yields_some All.nothing = ([], record { terminals = All.nothing; derives = Derives.done })
  yields_some (All.also {x = X} {l = φ} h a) =
      let first = one h in
      let rest = yields_some a in (
        first.0 ++ rest.0,
        record {
          terminals = all_append first.1.terminals rest.1.terminals;
          derives =
              of_der G.rules
              (der_append G.rules (to_der G.rules first.1.derives) (to_der G.rules rest.1.derives));
        },
      )
    where
      one : {X : ℕ} → G.known X → (w : List ℕ) × Yields G.rules (X ∷ []) w
      one {X} k = go (good.ranged X k)
        where
          go : RuleSymbol 64 N X → (w : List ℕ) × Yields G.rules (X ∷ []) w
          go (RuleSymbol.terminal a b) = (X ∷ [], record { terminals = All.also b All.nothing; derives = Derives.done })
          go (RuleSymbol.nonterminal a b) = let h = good.productive X a k in (h.string, h.yields)

  -- ---- At

  -- The first stack stands in a form,
  pub at_begin : At G G.begin
  at_begin = record { front = []; stands = der_refl G.rules G.begin }

  -- so does what a list that stands in one derives,
  pub at_der : {α γ : List ℕ} → At G α → Der G.rules α γ → At G γ
  at_der a d =
      record { front = a.front; stands = der_trans G.rules a.stands (der_append G.rules (der_refl G.rules a.front) d) }

  -- so does the rest of such a list,
  pub at_rest : (φ : List ℕ) {α : List ℕ} → At G (φ ++ α) → At G α
  at_rest φ {α} a =
      record { front = a.front ++ φ; stands = subst (λ l. Der G.rules G.begin l) (sym (append_assoc a.front φ α)) a.stands }

  -- and so does such a list with its head rewritten.
  pub at_down : {p A : ℕ} {β α : List ℕ} → At G (A ∷ α) → G.rules p A β → At G (β ++ α)
  at_down {β = β} {α = α} a r = at_der a (Der.down r (der_refl G.rules (β ++ α)))

  -- Every nonterminal stands in some form.
  pub at_nonterminal : (A : ℕ) → 64 ≤ A → G.known A → (ω : List ℕ) × At G (A ∷ ω)
  at_nonterminal A l h =
      let k = good.reachable A l h in
      (k.rest, record { front = k.front; stands = to_der G.rules k.stands })

  -- What stands in a form to its end ends with END.
  pub at_ended : {X : ℕ} {α : List ℕ} → At G (X ∷ α) → Ended G.known (X ∷ α)
  at_ended a = ended_rest a.front (ended_der a.stands ended_begin)

  -- A token that stands behind A in a form is in FOLLOW(A).
  pub at_follow : {A t : ℕ} {γ : List ℕ} → Terminal t → At G (A ∷ t ∷ γ) → Follow G.rules G.begin A t
  at_follow {γ = γ} l a = record { token = l; front = a.front; rest = γ; stands = of_der G.rules a.stands }
