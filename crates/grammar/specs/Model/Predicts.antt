-- Predict sets and "no two rules of one nonterminal share a predict token", by tests over the tokens below T.
use Prim.Native.Nat.{ℕ, suc, ◌+◌, ◌≤◌, ◌<◌}
use Rattle.std.specs.Prelude.{◌≡◌, refl, true, ◌&&◌, ◌||◌, not, ◌⊎◌, T, eqb}
use Rattle.std.proofs.Common.{sym, ap, subst, subst₂, inl, inr, ⊎_elim, arith, eqb→eq, T_not}
use Rattle.std.proofs.Math.Bool.{Bool}
use mathlib.Core.List.Memᴰ
use mathlib.Core.List.{List, [], ◌∷◌}
use Rattle.std.proofs.Math.Dec.{not_T}
use Rattle.grammar.specs.Words.{Terminal, RuleSymbol}
use Rattle.grammar.specs.Derivation.{All, Reachable, Predict, NoneShared}
use Rattle.grammar.specs.Theory.Leftmost.{Der, to_der, of_der}
use Rattle.grammar.specs.Theory.Closed.{closed_down, all_rest}
use Rattle.grammar.specs.Theory.Pigeonhole.{range}
use Rattle.grammar.specs.Model.Tests.{
  holds,
  both,
  left_of,
  right_of_lem,
  one_of,
  or_left,
  or_right,
  equal_passes,
  every,
  every_all,
  all_every,
}
use Rattle.grammar.specs.Model.Ruled.{Rule, RuleAt, Ranged, some_rule, passing, some_rule_lem}
use Rattle.grammar.specs.Theory.Members.{all_at, all_map}
use Rattle.grammar.specs.Model.Sets.{nulls, null_sound, nulls_complete, each_empty}
use Rattle.grammar.specs.Model.Firsts.{begins, starts, firsts, is_first, first_sound, first_complete}
use Rattle.grammar.specs.Model.Follows.{follows, is_follow, follow_sound, follow_complete}
use Rattle.grammar.specs.Model.Reflects.{Reflects, each_test, iff_test}

-- ---- One token

-- Token t is in the predict set of the rule from A to β, by the three sets.
unfoldable pub is_predict : List ℕ → List ℕ → List ℕ → ℕ → ℕ → List ℕ → Bool
unfolding begins holds starts every
is_predict ns fs os t A β = begins (holds ns) (starts t fs) β || (every (holds ns) β && holds os A)

-- No two rules of one left side pass f.
unfoldable pub clash_free : (ℕ → List ℕ → Bool) → List Rule → Bool
unfolding some_rule
clash_free f [] = true
clash_free f (r ∷ rs) = not (f r.left r.right && some_rule (λ A β. eqb r.left A && f A β) rs) && clash_free f rs

-- Two rules of one left side that both pass f are one.
abbrev pub OneEach : (ℕ → List ℕ → Bool) → List Rule → Type 0
OneEach f rs = (p q A : ℕ) (β γ : List ℕ) → RuleAt rs p A β → RuleAt rs q A γ → T (f A β) → T (f A γ) → p ≡ q

module _ (f : ℕ → List ℕ → Bool) (r : Rule) (rs : List Rule) where
  -- The head and a later rule of its left side do not both pass.
  no_later : T (not (f r.left r.right && some_rule (λ A β. eqb r.left A && f A β) rs)) → (q A : ℕ) (β γ : List ℕ)
      → A ≡ r.left → β ≡ r.right → RuleAt rs q A γ → T (f A β) → T (f A γ) → ⊥
  no_later n q A β γ e d i h k =
      T_not (f r.left r.right && some_rule (λ B δ. eqb r.left B && f B δ) rs) n
      (both (f r.left r.right) (some_rule (λ B δ. eqb r.left B && f B δ) rs) (subst₂ (λ B δ. T (f B δ)) e d h)
      (some_rule_lem (λ B δ. eqb r.left B && f B δ) i (both (eqb r.left A) (f A γ) (equal_passes r.left A (sym e)) k)))

  -- Where the later rules do, each passes once.
  one_more : T (not (f r.left r.right && some_rule (λ A β. eqb r.left A && f A β) rs)) → OneEach f rs → OneEach f (r ∷ rs)
  one_more n o p q A β γ (RuleAt.here e d) (RuleAt.here g b) h k = refl
  one_more n o p q A β γ (RuleAt.here e d) (RuleAt.there {p = q'} j) h k = absurd (no_later n q' A β γ e d j h k)
  one_more n o p q A β γ (RuleAt.there {p = p'} i) (RuleAt.here g b) h k = absurd (no_later n p' A γ β g b i k h)
  one_more n o p q A β γ (RuleAt.there {p = p'} i) (RuleAt.there {p = q'} j) h k = ap suc (o p' q' A β γ i j h k)

pub clash_test : (f : ℕ → List ℕ → Bool) (rs : List Rule) → Reflects (clash_free f rs) (OneEach f rs)
unfolding clash_free
clash_test f [] = record { says = λ c p q A β γ i j h k. elim i [ ]; said = λ o. tt }
clash_test f (r ∷ rs) =
    let head = not (f r.left r.right && some_rule (λ A β. eqb r.left A && f A β) rs) in
    let rest = clash_test f rs in
    record {
      says = λ c. one_more f r rs (left_of head (clash_free f rs) c) (rest.says (right_of_lem head (clash_free f rs) c));
      said = λ o.
          both head (clash_free f rs)
          (not_T (f r.left r.right && some_rule (λ A β. eqb r.left A && f A β) rs)
          (λ h.
          let i = passing (λ A β. eqb r.left A && f A β) rs
          (right_of_lem (f r.left r.right) (some_rule (λ A β. eqb r.left A && f A β) rs) h) in
          let e = eqb→eq r.left i.left (left_of (eqb r.left i.left) (f i.left i.right) i.passes) in
          let z = o 0 (suc i.number) r.left r.right i.right (RuleAt.here refl refl)
          (RuleAt.there (subst (λ A. RuleAt rs i.number A i.right) (sym e) i.rule))
          (left_of (f r.left r.right) (some_rule (λ A β. eqb r.left A && f A β) rs) h)
          (subst (λ A. T (f A i.right)) (sym e) (right_of_lem (eqb r.left i.left) (f i.left i.right) i.passes)) in
          omega arith))
          (rest.said (λ p q A β γ i j h k. let z = o (suc p) (suc q) A β γ (RuleAt.there i) (RuleAt.there j) h k in omega arith));
    }

-- ---- The predict test is exact

-- A symbol of a grammar with N nonterminals.
abbrev pub Inner : ℕ → ℕ → Type 0
Inner N X = (X < 64) ⊎ ((64 ≤ X) × (X < 64 + N))

module _ (rs : List Rule) (bound N t : ℕ) (σ : List ℕ) (ranged : Ranged rs bound N) (inner : All (Inner N) σ)
    (reach : (p A : ℕ) (β : List ℕ) → RuleAt rs p A β → Reachable (RuleAt rs) σ A) where
  pub predict_test : Terminal t → (p A : ℕ) (β : List ℕ) → RuleAt rs p A β
      → Reflects (is_predict (nulls rs N) (firsts rs (nulls rs N) N t) (follows rs (nulls rs N) (firsts rs (nulls rs N) N t) N t σ) t A β)
      (Predict (RuleAt rs) σ A β t)
  unfolding is_predict is_first is_follow
  predict_test l p A β i = record { says = to; said = from }
    where
      ns : List ℕ
      ns = nulls rs N

      a : Bool
      a = is_first rs N β t

      b : Bool
      b = every (holds (nulls rs N)) β && is_follow rs N σ t A

      to : T (is_first rs N β t || (every (holds (nulls rs N)) β && is_follow rs N σ t A)) → Predict (RuleAt rs) σ A β t
      to h =
          ⊎_elim
          (λ k. Predict.by_first (first_sound rs N t l β k))
          (λ k.
          Predict.by_follow
          (of_der _ (each_empty (all_map (null_sound rs N) (every_all (holds ns) β (left_of (every (holds ns) β)
          (is_follow rs N σ t A) k)))))
          (follow_sound rs N t σ l reach A (right_of_lem (every (holds ns) β) (is_follow rs N σ t A) k)))
          (one_of a b h)

      from : Predict (RuleAt rs) σ A β t → T (is_first rs N β t || (every (holds (nulls rs N)) β && is_follow rs N σ t A))
      from (Predict.by_first f) = or_left a b (first_complete rs N t bound ranged f)
      from (Predict.by_follow e f) =
          or_right a b
          (both (every (holds ns) β) (is_follow rs N σ t A) (all_every (holds ns) (nulls_complete rs N bound ranged (to_der _ e)))
          (follow_complete rs N t σ l bound ranged inner A (ranged.low p A β i) f))

-- ---- All tokens

unfoldable pub shared_free : List Rule → ℕ → List ℕ → ℕ → Bool
unfolding nulls firsts follows clash_free is_predict
shared_free rs N σ t =
    let ns = nulls rs N in
    let fs = firsts rs ns N t in
    let os = follows rs ns fs N t σ in
    clash_free (is_predict ns fs os t) rs

unfoldable pub is_none_shared : List Rule → ℕ → ℕ → List ℕ → Bool
unfolding every shared_free range
is_none_shared rs bound N σ = every (shared_free rs N σ) (range 0 bound)

module _ (rs : List Rule) (bound N : ℕ) (σ : List ℕ) (ranged : Ranged rs bound N) (inner : All (Inner N) σ)
    (low : All (λ X. (X < bound) ⊎ (64 ≤ X)) σ)
    (reach : (p A : ℕ) (β : List ℕ) → RuleAt rs p A β → Reachable (RuleAt rs) σ A) where
  symbol_low : {X : ℕ} → RuleSymbol bound N X → (X < bound) ⊎ (64 ≤ X)
  symbol_low (RuleSymbol.terminal a b) = inl b
  symbol_low (RuleSymbol.nonterminal a b) = inr a

  right_low : (p A : ℕ) (β : List ℕ) → RuleAt rs p A β → All (λ X. (X < bound) ⊎ (64 ≤ X)) β
  right_low p A β i = all_map (λ X. symbol_low) (ranged.symbols p A β i)

  stays_low : {α w : List ℕ} → Der (RuleAt rs) α w → All (λ X. (X < bound) ⊎ (64 ≤ X)) α → All (λ X. (X < bound) ⊎ (64 ≤ X)) w
  stays_low d a = closed_down (RuleAt rs) (λ X. (X < bound) ⊎ (64 ≤ X)) (λ p A β i h. right_low p A β i) d a

  below : {t : ℕ} → Terminal t → (t < bound) ⊎ (64 ≤ t) → t < bound
  below l c = ⊎_elim (λ h. h) (λ h. absurd (omega arith)) c

  -- A predict token is a token of the grammar.
  token_below : {p A t : ℕ} {β : List ℕ} → RuleAt rs p A β → Predict (RuleAt rs) σ A β t → t < bound
  token_below {p} {A} {t} {β} i (Predict.by_first f) =
      below f.token (all_at (stays_low (to_der _ f.begins) (right_low p A β i)) (Memᴰ.head refl))
  token_below {t = t} i (Predict.by_follow e f) =
      below f.token (all_at (all_rest f.front (stays_low (to_der _ f.stands) low)) (Memᴰ.tail (Memᴰ.head refl)))

  pub none_shared_test : Reflects (is_none_shared rs bound N σ) (NoneShared (RuleAt rs) σ)
  unfolding is_none_shared shared_free
  none_shared_test =
      iff_test {P = (t : ℕ) → 0 ≤ t → t < 0 + bound → OneEach (test t) rs} (each_test 0 bound (λ t. clash_test (test t) rs)) to from
    where
      test : ℕ → ℕ → List ℕ → Bool
      test t = is_predict (nulls rs N) (firsts rs (nulls rs N) N t) (follows rs (nulls rs N) (firsts rs (nulls rs N) N t) N t σ) t

      exact : (t : ℕ) → t < bound → (p A : ℕ) (β : List ℕ) → RuleAt rs p A β → Reflects (test t A β) (Predict (RuleAt rs) σ A β t)
      exact t h p A β i = predict_test rs bound N t σ ranged inner reach (omega (arith, ranged.terminals)) p A β i

      to : ((t : ℕ) → 0 ≤ t → t < 0 + bound → OneEach (test t) rs) → NoneShared (RuleAt rs) σ
      to o p q A t β γ i j h k =
          let l = token_below i h in
          o t (omega arith) (omega arith) p q A β γ i j ((exact t l p A β i).said h) ((exact t l q A γ j).said k)

      from : NoneShared (RuleAt rs) σ → (t : ℕ) → 0 ≤ t → t < 0 + bound → OneEach (test t) rs
      from n t a b p q A β γ i j h k =
          let l : t < bound = omega arith in
          n p q A t β γ i j ((exact t l p A β i).says h) ((exact t l q A γ j).says k)
