-- FIRST of a list of rules, by rounds for one token, proved to be exactly FIRST by derivations.
use Rattle.std.specs.Prelude.{ℕ, refl, Bool, false, ◌&&◌, ◌||◌}
use Rattle.std.proofs.Common.{sym}
use Rattle.std.proofs.Math.Path.{subst}
use mathlib.Core.List.{List, [], ◌∷◌, ◌++◌}
use Rattle.std.proofs.Math.Logic.{⊎_elim}
use Rattle.std.proofs.Math.Dec.{T, eqb, eqb→eq}
use Rattle.grammar.specs.Words.{Terminal}
use Rattle.grammar.specs.Derivation.{All, First}
use Rattle.grammar.specs.Theory.Leftmost.{Der, der_refl, der_append, to_der, of_der}
use Rattle.grammar.specs.Theory.Closed.{ClosedFirst, closed_first, Begins}
use Rattle.grammar.specs.Model.Tests.{holds, holds_member, both, left_of, right_of_lem, one_of, or_left, or_right, equal_passes}
use Rattle.grammar.specs.Model.Ruled.{Rule, RuleAt, Ranged, some_rule, passing, some_rule_lem}
use Rattle.grammar.specs.Theory.Members.{all_at}
use Rattle.grammar.specs.Theory.Rewriting.{rewritten}
use Rattle.grammar.specs.Model.Sets.{grown, grown_closed, grown_sound, nulls, null_sound, null_closed}

-- A symbol that passes `begin` stands in the list behind symbols that pass `null`.
unfoldable pub begins : (ℕ → Bool) → (ℕ → Bool) → List ℕ → Bool
begins null begin [] = false
begins null begin (X ∷ α) = begin X || (null X && begins null begin α)

pub begins_say : (null begin : ℕ → Bool) (α : List ℕ) → T (begins null begin α) → Begins (λ X. T (null X)) (λ X. T (begin X)) α
unfolding begins
begins_say null begin (X ∷ α) h =
    ⊎_elim Begins.here
    (λ k. Begins.past (left_of (null X) (begins null begin α) k) (begins_say null begin α (right_of_lem (null X) (begins null begin α) k)))
    (one_of (begin X) (null X && begins null begin α) h)
begins_say null begin [] h = elim h [ ]

pub say_begins : (null begin : ℕ → Bool) {α : List ℕ} → Begins (λ X. T (null X)) (λ X. T (begin X)) α → T (begins null begin α)
unfolding begins
say_begins null begin (Begins.here {X = X} {α = α} h) = or_left (begin X) (null X && begins null begin α) h
say_begins null begin (Begins.past {X = X} {α = α} n b) =
    or_right (begin X) (null X && begins null begin α) (both (null X) (begins null begin α) n (say_begins null begin b))

-- X is the token or in the set.
unfoldable pub starts : ℕ → List ℕ → ℕ → Bool
unfolding holds
starts t s X = eqb X t || holds s X

unfoldable first_fires : List Rule → List ℕ → ℕ → List ℕ → ℕ → Bool
unfolding some_rule begins holds starts
first_fires rs ns t s A = some_rule (λ B β. eqb A B && begins (holds ns) (starts t s) β) rs

-- The nonterminals with t in their FIRST, where those of ns can be empty.
unfoldable pub firsts : List Rule → List ℕ → ℕ → ℕ → List ℕ
unfolding grown first_fires
firsts rs ns N t = grown (first_fires rs ns t) N

-- t is in FIRST of the list.
unfoldable pub is_first : List Rule → ℕ → List ℕ → ℕ → Bool
unfolding begins holds nulls starts firsts
is_first rs N α t = begins (holds (nulls rs N)) (starts t (firsts rs (nulls rs N) N t)) α

module _ (rs : List Rule) (N t : ℕ) where
  -- X derives a form that begins with t.
  abbrev Leads : ℕ → Type 0
  Leads X = (γ : List ℕ) × Der (RuleAt rs) (X ∷ []) (t ∷ γ)

  -- What begins by the sets begins by a derivation.
  leads_list : {α : List ℕ} → Begins (λ X. T (holds (nulls rs N) X)) Leads α → (γ : List ℕ) × Der (RuleAt rs) α (t ∷ γ)
  leads_list (Begins.here {α = α} h) = (h.0 ++ α, der_append (RuleAt rs) h.1 (der_refl (RuleAt rs) α))
  leads_list (Begins.past n b) = let k = leads_list b in (k.0, der_append (RuleAt rs) (null_sound rs N _ n) k.1)

  begins_map : {Null P Q : ℕ → Type 0} → ((X : ℕ) → P X → Q X) → {α : List ℕ} → Begins Null P α → Begins Null Q α
  begins_map f (Begins.here h) = Begins.here (f _ h)
  begins_map f (Begins.past n b) = Begins.past n (begins_map f b)

  starts_leads : (s : List ℕ) → All Leads s → (X : ℕ) → T (starts t s X) → Leads X
  unfolding starts
  starts_leads s a X h =
      ⊎_elim
      (λ e. ([], subst (λ Y. Der (RuleAt rs) (Y ∷ []) (t ∷ [])) (sym (eqb→eq X t e)) (der_refl (RuleAt rs) (t ∷ []))))
      (λ k. all_at a (holds_member s X k))
      (one_of (eqb X t) (holds s X) h)

  firsts_sound : All Leads (firsts rs (nulls rs N) N t)
  unfolding firsts first_fires
  firsts_sound = grown_sound (first_fires rs (nulls rs N) t) Leads j N
    where
      j : (s : List ℕ) (x : ℕ) → All Leads s → T (first_fires rs (nulls rs N) t s x) → Leads x
      j s x a h =
          let i = passing (λ B β. eqb x B && begins (holds (nulls rs N)) (starts t s) β) rs h in
          let e = eqb→eq x i.left (left_of (eqb x i.left) (begins (holds (nulls rs N)) (starts t s) i.right) i.passes) in
          let b = begins_say (holds (nulls rs N)) (starts t s) i.right
          (right_of_lem (eqb x i.left) (begins (holds (nulls rs N)) (starts t s) i.right) i.passes) in
          let k = leads_list (begins_map (starts_leads s a) b) in
          (k.0, subst (λ Y. Der (RuleAt rs) (Y ∷ []) (t ∷ k.0)) (sym e) (rewritten _ i.rule k.1))

  pub first_sound : Terminal t → (α : List ℕ) → T (is_first rs N α t) → First (RuleAt rs) α t
  unfolding is_first
  first_sound l α h =
      let k = leads_list (begins_map (starts_leads (firsts rs (nulls rs N) N t) firsts_sound) (begins_say _ _ α h)) in
      record { token = l; rest = k.0; begins = of_der _ k.1 }

  pub firsts_closed : (T' : ℕ) → Ranged rs T' N
      → ClosedFirst (RuleAt rs) (λ X. T (holds (nulls rs N) X)) (λ X. T (starts t (firsts rs (nulls rs N) N t) X))
  unfolding firsts first_fires starts
  firsts_closed t' r p A β i b =
      or_right (eqb A t) (holds (firsts rs (nulls rs N) N t) A)
      (grown_closed (first_fires rs (nulls rs N) t) N A (r.low p A β i) (r.high p A β i)
      (some_rule_lem (λ B γ. eqb A B && begins (holds (nulls rs N)) (starts t (firsts rs (nulls rs N) N t)) γ) i
      (both (eqb A A) (begins (holds (nulls rs N)) (starts t (firsts rs (nulls rs N) N t)) β) (equal_passes A A refl) (say_begins _ _ b))))

  pub first_complete : (T' : ℕ) → Ranged rs T' N → {α : List ℕ} → First (RuleAt rs) α t → T (is_first rs N α t)
  unfolding is_first starts
  first_complete t' r f =
      say_begins _ _
      (closed_first (RuleAt rs) (λ X. T (holds (nulls rs N) X)) (λ X. T (starts t (firsts rs (nulls rs N) N t) X)) (null_closed rs N t' r)
      (firsts_closed t' r) (to_der _ f.begins)
      (Begins.here (or_left (eqb t t) (holds (firsts rs (nulls rs N) N t) t) (equal_passes t t refl))))
