-- FOLLOW of a list of rules, by rounds for one token, proved to be exactly FOLLOW by derivations where every left side is
-- reachable; and from it the predict test.
use Prim.Native.Nat.{ℕ, ◌+◌, ◌≤◌, ◌<◌}
use Rattle.std.specs.Prelude.{◌≡◌, refl, Bool, false, ◌&&◌, ◌||◌, ◌⊎◌, eqb}
use Rattle.std.proofs.Common.{sym, ap, ◌∙◌, subst, inl, inr, arith, eqb→eq, lt→ltb}
use mathlib.Core.List.{List, [], ◌∷◌, ◌++◌, append-nil, Memᴰ}
use Rattle.std.proofs.Math.Logic.{⊎_elim}
use Rattle.std.proofs.Math.Dec.{T, ltb}
use Rattle.grammar.specs.Words.{Terminal, RuleSymbol}
use Rattle.grammar.specs.Derivation.{All, Follow, Reachable}
use Rattle.grammar.specs.Theory.Leftmost.{Der, der_refl, der_append, der_trans, to_der, of_der}
use Rattle.grammar.specs.Theory.Closed.{ClosedFollow, closed_follow, Followed, followed_at, Begins}
use Rattle.grammar.specs.Model.Tests.{
  holds,
  holds_member,
  both,
  left_of,
  right_of_lem,
  one_of,
  or_left,
  or_right,
  equal_passes,
  not_below,
  every,
  every_all,
  all_every,
}
use Rattle.grammar.specs.Model.Ruled.{Rule, RuleAt, Ranged, some_rule, passing, some_rule_lem}
use Rattle.grammar.specs.Theory.Members.{all_at, all_map}
use Rattle.grammar.specs.Theory.Rewriting.{opened}
use Rattle.grammar.specs.Model.Sets.{grown, grown_closed, grown_sound, nulls, null_sound, null_closed, each_empty}
use Rattle.grammar.specs.Model.Firsts.{begins, say_begins, starts, firsts, is_first, first_sound, firsts_closed}

-- B stands in the list with the token right behind it; e says that the token stands behind the list.
unfoldable pub behind : (ℕ → Bool) → (ℕ → Bool) → Bool → List ℕ → ℕ → Bool
unfolding begins every
behind null begin e [] B = false
behind null begin e (X ∷ α) B = (eqb X B && (begins null begin α || (every null α && e))) || behind null begin e α B

pub record Stands (null begin : ℕ → Bool) (e : Bool) (β : List ℕ) (B : ℕ) : Type 0 where
  pub front : List ℕ
  pub rest : List ℕ
  pub joined : β ≡ front ++ (B ∷ rest)
  pub next : T (begins null begin rest) ⊎ (T (every null rest) × T e)

stands : (null begin : ℕ → Bool) (e : Bool) (β : List ℕ) (B : ℕ) → T (behind null begin e β B) → Stands null begin e β B
unfolding behind
stands null begin e (X ∷ α) B h =
    ⊎_elim
    (λ k.
    record {
      front = [];
      rest = α;
      joined = ap (λ Y. Y ∷ α) (eqb→eq X B (left_of (eqb X B) (begins null begin α || (every null α && e)) k));
      next = ⊎_elim inl (λ i. inr (left_of (every null α) e i, right_of_lem (every null α) e i))
          (one_of (begins null begin α) (every null α && e) (right_of_lem (eqb X B) (begins null begin α || (every null α && e)) k));
    })
    (λ k.
    let i = stands null begin e α B k in
    record { front = X ∷ i.front; rest = i.rest; joined = ap (λ l. X ∷ l) i.joined; next = i.next })
    (one_of (eqb X B && (begins null begin α || (every null α && e))) (behind null begin e α B) h)
stands null begin e [] B h = elim h [ ]

-- The other way: every member of the list is followed as the test says.
followed : (null begin : ℕ → Bool) (e : Bool) (Behind : ℕ → Type 0) (E : Type 0) (β : List ℕ) → (E → T e)
    → ((B : ℕ) → Memᴰ B β → T (behind null begin e β B) → Behind B)
    → Followed (λ X. T (null X)) (λ X. T (begin X)) Behind E β
unfolding behind
followed null begin e Behind E [] g f = Followed.nothing
followed null begin e Behind E (X ∷ α) g f =
    Followed.also
    (λ b. f X (Memᴰ.head refl) (front (or_left (begins null begin α) (every null α && e) (say_begins null begin b))))
    (λ a i.
    f X (Memᴰ.head refl)
    (front (or_right (begins null begin α) (every null α && e) (both (every null α) e (all_every null a) (g i)))))
    (followed null begin e Behind E α g
    (λ B m h. f B (Memᴰ.tail m) (or_right (eqb X B && (begins null begin α || (every null α && e))) (behind null begin e α B) h)))
  where
    front : T (begins null begin α || (every null α && e)) → T (behind null begin e (X ∷ α) X)
    front h =
        or_left (eqb X X && (begins null begin α || (every null α && e))) (behind null begin e α X)
        (both (eqb X X) (begins null begin α || (every null α && e)) (equal_passes X X refl) h)

unfoldable follow_fires : List Rule → List ℕ → List ℕ → ℕ → List ℕ → List ℕ → ℕ → Bool
unfolding behind holds starts some_rule
follow_fires rs ns fs t σ s B =
    behind (holds ns) (starts t fs) false σ B || some_rule (λ A β. behind (holds ns) (starts t fs) (holds s A) β B) rs

-- The nonterminals with t in their FOLLOW, where σ is what a run begins with.
unfoldable pub follows : List Rule → List ℕ → List ℕ → ℕ → ℕ → List ℕ → List ℕ
unfolding grown follow_fires
follows rs ns fs N t σ = grown (follow_fires rs ns fs t σ) N

unfoldable pub is_follow : List Rule → ℕ → List ℕ → ℕ → ℕ → Bool
unfolding holds follows nulls firsts
is_follow rs N σ t B = holds (follows rs (nulls rs N) (firsts rs (nulls rs N) N t) N t σ) B

module _ (rs : List Rule) (N t : ℕ) (σ : List ℕ) (l : Terminal t) where
  -- t stands behind B in a form, since it begins what stands there.
  by_begin : (φ ψ : List ℕ) {B : ℕ} (c : List ℕ) → Der (RuleAt rs) σ (φ ++ (B ∷ (c ++ ψ))) → T (is_first rs N c t) → Follow (RuleAt rs) σ B t
  by_begin φ ψ {B} c d h =
      let f = first_sound rs N t l c h in
      record {
        token = l;
        front = φ;
        rest = f.rest ++ ψ;
        stands = of_der _
            (der_trans _ d
            (der_append _ (der_refl _ φ) (Der.keep (der_append _ (to_der _ f.begins) (der_refl _ ψ)))));
      }

  pub follow_sound : ((p A : ℕ) (β : List ℕ) → RuleAt rs p A β → Reachable (RuleAt rs) σ A)
      → (B : ℕ) → T (is_follow rs N σ t B) → Follow (RuleAt rs) σ B t
  unfolding is_follow follows follow_fires is_first
  follow_sound reach B h =
      all_at (grown_sound (follow_fires rs (nulls rs N) (firsts rs (nulls rs N) N t) t σ) (λ X. Follow (RuleAt rs) σ X t) j N)
      (holds_member _ B h)
    where
      ns : List ℕ
      ns = nulls rs N

      fs : List ℕ
      fs = firsts rs (nulls rs N) N t

      at_start : (x : ℕ) → Stands (holds ns) (starts t fs) false σ x → Follow (RuleAt rs) σ x t
      at_start x s =
          ⊎_elim
          (λ b.
          by_begin s.front [] s.rest
          (subst (λ w. Der (RuleAt rs) σ w)
          (s.joined ∙ ap (λ w. s.front ++ (x ∷ w)) (sym (append-nil s.rest)))
          (der_refl (RuleAt rs) σ))
          b)
          (λ k. absurd k.1)
          s.next

      in_rule : (s : List ℕ) (x p A : ℕ) (β : List ℕ) → All (λ X. Follow (RuleAt rs) σ X t) s → RuleAt rs p A β
          → Stands (holds ns) (starts t fs) (holds s A) β x → Follow (RuleAt rs) σ x t
      in_rule s x p A β a r i =
          ⊎_elim
          (λ b.
          let m = reach p A β r in
          by_begin (m.front ++ i.front) m.rest i.rest
          (opened (RuleAt rs) σ m.front m.rest i.front i.rest x (to_der _ m.stands) r i.joined)
          b)
          (λ k.
          let f = all_at a (holds_member s A k.1) in
          let gone : Der (RuleAt rs) i.rest [] = each_empty (all_map (null_sound rs N) (every_all (holds ns) i.rest k.0)) in
          record {
            token = l;
            front = f.front ++ i.front;
            rest = f.rest;
            stands = of_der _
                (der_trans _
                (opened (RuleAt rs) σ f.front (t ∷ f.rest) i.front i.rest x (to_der _ f.stands) r i.joined)
                (der_append _ (der_refl _ (f.front ++ i.front)) (Der.keep (der_append _ gone (der_refl _ (t ∷ f.rest))))));
          })
          i.next

      j : (s : List ℕ) (x : ℕ) → All (λ X. Follow (RuleAt rs) σ X t) s → T (follow_fires rs ns fs t σ s x) → Follow (RuleAt rs) σ x t
      j s x a h =
          ⊎_elim
          (λ k. at_start x (stands (holds ns) (starts t fs) false σ x k))
          (λ k.
          let i = passing (λ A β. behind (holds ns) (starts t fs) (holds s A) β x) rs k in
          in_rule s x i.number i.left i.right a i.rule (stands (holds ns) (starts t fs) (holds s i.left) i.right x
          i.passes))
          (one_of (behind (holds ns) (starts t fs) false σ x) (some_rule (λ A β. behind (holds ns) (starts t fs) (holds s A) β x) rs) h)

  -- A terminal, or followed by t by the test.
  unfoldable settled : ℕ → Bool
  unfolding is_follow
  settled X = ltb X 64 || is_follow rs N σ t X

  settled_if : (X : ℕ) → (X < 64) ⊎ ((64 ≤ X) × (X < 64 + N)) → (64 ≤ X → X < 64 + N → T (is_follow rs N σ t X)) → T (settled X)
  unfolding settled
  settled_if X c f =
      ⊎_elim
      (λ h. or_left (ltb X 64) (is_follow rs N σ t X) (lt→ltb X 64 h))
      (λ h. or_right (ltb X 64) (is_follow rs N σ t X) (f h.0 h.1))
      c

  settled_above : (X : ℕ) → 64 ≤ X → T (settled X) → T (is_follow rs N σ t X)
  unfolding settled
  settled_above X h k =
      ⊎_elim (λ i. absurd (not_below X 64 i h)) (λ i. i) (one_of (ltb X 64) (is_follow rs N σ t X) k)

  pub follow_complete : (T' : ℕ) → Ranged rs T' N → All (λ X. (X < 64) ⊎ ((64 ≤ X) × (X < 64 + N))) σ
      → (B : ℕ) → 64 ≤ B → Follow (RuleAt rs) σ B t → T (is_follow rs N σ t B)
  unfolding is_follow follows follow_fires starts
  follow_complete t' r inner B h f =
      settled_above B h
      (followed_at f.front
      (closed_follow (RuleAt rs) (λ X. T (holds ns X)) (λ X. T (starts t fs X)) (λ X. T (settled X)) (null_closed rs N t' r)
      (firsts_closed rs N t t' r) closed ⊥ (to_der _ f.stands) start)
      (Begins.here (or_left (eqb t t) (holds fs t) (equal_passes t t refl))))
    where
      ns : List ℕ
      ns = nulls rs N

      fs : List ℕ
      fs = firsts rs (nulls rs N) N t

      os : List ℕ
      os = follows rs (nulls rs N) (firsts rs (nulls rs N) N t) N t σ

      held : (X : ℕ) → 64 ≤ X → X < 64 + N → T (follow_fires rs ns fs t σ os X) → T (is_follow rs N σ t X)
      held X a b = grown_closed (follow_fires rs ns fs t σ) N X a b

      start : Followed (λ X. T (holds ns X)) (λ X. T (starts t fs X)) (λ X. T (settled X)) ⊥ σ
      start =
          followed (holds ns) (starts t fs) false (λ X. T (settled X)) ⊥ σ (λ k. k)
          (λ X m k.
          settled_if X (all_at inner m)
          (λ a b.
          held X a b
          (or_left (behind (holds ns) (starts t fs) false σ X)
          (some_rule (λ A β. behind (holds ns) (starts t fs) (holds os A) β X) rs) k)))

      ranged : (X : ℕ) → RuleSymbol t' N X → (X < 64) ⊎ ((64 ≤ X) × (X < 64 + N))
      ranged X (RuleSymbol.terminal a b) = inl (omega (arith, r.terminals))
      ranged X (RuleSymbol.nonterminal a b) = inr (a, b)

      closed : ClosedFollow (RuleAt rs) (λ X. T (holds ns X)) (λ X. T (starts t fs X)) (λ X. T (settled X))
      closed p A β i =
          followed (holds ns) (starts t fs) (holds os A) (λ X. T (settled X)) (T (settled A)) β (settled_above A (r.low p A β i))
          (λ X m k.
          settled_if X (ranged X (all_at (r.symbols p A β i) m))
          (λ a b.
          held X a b
          (or_right (behind (holds ns) (starts t fs) false σ X)
          (some_rule (λ C γ. behind (holds ns) (starts t fs) (holds os C) γ X) rs)
          (some_rule_lem (λ C γ. behind (holds ns) (starts t fs) (holds os C) γ X) i k))))
