-- The choice of move, by tests: match, the rule that fits, drop, or the search.
use Rattle.std.specs.Prelude.{ℕ, suc, ◌≡◌, Bool, ◌&&◌, cond, ◌↔◌, take, eqb}
use Rattle.std.proofs.Math.Path.{refl, subst}
use Rattle.std.proofs.Common.{sym, eqb→eq}
use Rattle.std.proofs.Math.Bool.{true, false}
use Rattle.std.proofs.Math.Option.{Option, none, some}
use mathlib.Core.List.{List, [], ◌∷◌}
use Rattle.std.proofs.Math.Logic.{⊎_elim}
use Rattle.std.proofs.Math.Dec.{T}
use Rattle.grammar.specs.Words.{Terminal}
use Rattle.grammar.specs.Derivation.{All, First, CanBeEmpty}
use Rattle.grammar.specs.Cost.{SymbolCost}
use Rattle.grammar.specs.Grammar.{Grammar}
use Rattle.grammar.specs.Run.{Pick, matching, expanding, dropping, correcting, Choice}
use Rattle.grammar.specs.Theory.Pops.{pop_by, pops_by}
use Rattle.grammar.proofs.Theory.Pops.{popped_by}
use Rattle.grammar.specs.Model.Tests.{none_some, some_same, both, left_of, right_of_lem, equal_passes}
use Rattle.grammar.specs.Model.Ruled.{Rule, RuleAt}
use Rattle.grammar.specs.Model.Decided.{Tests, Decided, first_symbol}
use Rattle.grammar.proofs.Model.Search.{Place, seek, Sought, sought}

pub record Numbered : Type 0 where
  pub number : ℕ
  pub right : List ℕ

unfoldable pub after : Option Numbered → Option Numbered
after none = none
after (some r) = some (record { number = suc r.number; right = r.right })

-- The first rule of X whose right side has t in FIRST.
unfoldable pub rule_for : Tests → ℕ → ℕ → List Rule → Option Numbered
unfolding after
rule_for D X t [] = none
rule_for D X t (r ∷ rs) =
    cond (eqb X r.left && D.first r.right t) (some (record { number = 0; right = r.right })) (after (rule_for D X t rs))

pub data RuleFound (D : Tests) (X t : ℕ) (rs : List Rule) : Option Numbered → Type 0 where
  found : {r : Numbered} → RuleAt rs r.number X r.right → T (D.first r.right t) → RuleFound D X t rs (some r)
  missing : ((p : ℕ) (β : List ℕ) → RuleAt rs p X β → T (D.first β t) → ⊥) → RuleFound D X t rs none

module _ (D : Tests) (X t : ℕ) where
  skip : {r : Rule} {rs : List Rule} {o : Option Numbered} → (X ≡ r.left → T (D.first r.right t) → ⊥) → RuleFound D X t rs o
      → RuleFound D X t (r ∷ rs) (after o)
  unfolding after
  skip n (RuleFound.found i h) = RuleFound.found (RuleAt.there i) h
  skip {r} {rs} n (RuleFound.missing f) = RuleFound.missing go
    where
      go : (p : ℕ) (β : List ℕ) → RuleAt (r ∷ rs) p X β → T (D.first β t) → ⊥
      go p β (RuleAt.here e d) h = n e (subst (λ γ. T (D.first γ t)) d h)
      go p β (RuleAt.there {p = q} i) h = f q β i h

  pub rule_found : (rs : List Rule) → RuleFound D X t rs (rule_for D X t rs)
  unfolding rule_for
  rule_found [] = RuleFound.missing (λ p β i h. elim i [ ])
  rule_found (r ∷ rs) = go (eqb X r.left && D.first r.right t) refl (rule_found rs)
    where
      go : (b : Bool) → (eqb X r.left && D.first r.right t) ≡ b → RuleFound D X t rs (rule_for D X t rs)
          → RuleFound D X t (r ∷ rs) (cond b (some (record { number = 0; right = r.right })) (after (rule_for D X t rs)))
      go true e h =
          let k : T (eqb X r.left && D.first r.right t) = subst T (sym e) tt in
          RuleFound.found
          (RuleAt.here (eqb→eq X r.left (left_of (eqb X r.left) (D.first r.right t) k)) refl)
          (right_of_lem (eqb X r.left) (D.first r.right t) k)
      go false e h =
          skip (λ i k. subst T e (both (eqb X r.left) (D.first r.right t) (equal_passes X r.left i) k)) h

-- ---- The choice

unfoldable pub by_hit : Tests → List ℕ → Option Place → Option Pick
unfolding pops_by pop_by
by_hit D σ none = none
by_hit D σ (some p) = some (correcting p.deleted p.popped (pops_by D.empty (take p.popped σ)))

unfoldable pub by_rest : Tests → List ℕ → List ℕ → Bool → Option Pick
unfolding by_hit seek
by_rest D σ rest true = some dropping
by_rest D σ rest false = by_hit D σ (seek D σ rest)

unfoldable pub by_rule : Tests → List ℕ → List ℕ → ℕ → Option Numbered → Option Pick
unfolding by_rest
by_rule D σ rest t (some r) = some (expanding r.number r.right)
by_rule D σ rest t none = by_rest D σ rest (D.first σ t)

unfoldable pub by_top : Tests → ℕ → List ℕ → ℕ → List ℕ → Bool → Option Pick
unfolding by_rule rule_for
by_top D X σ t rest true = some matching
by_top D X σ t rest false = by_rule D (X ∷ σ) (t ∷ rest) t (rule_for D X t D.rules)

unfoldable pub choose : Tests → List ℕ → List ℕ → Option Pick
unfolding by_top
choose D [] rest = none
choose D (X ∷ σ) [] = none
choose D (X ∷ σ) (t ∷ rest) = by_top D X σ t rest (eqb X t)

module _
    {G : Grammar} (D : Tests) (d : Decided G D) (X t : ℕ) (σ rest : List ℕ)
    (known : All (λ Y. SymbolCost G.rules G.price Y (D.cost Y)) (X ∷ σ)) (tokens : All Terminal (t ∷ rest)) where
  token : {u : ℕ} {us : List ℕ} → All Terminal (u ∷ us) → Terminal u
  token (All.also l a) = l

  all_tested : (Xs : List ℕ) → All (λ Y. T (D.empty Y) ↔ CanBeEmpty G.rules (Y ∷ [])) Xs
  all_tested [] = All.nothing
  all_tested (Y ∷ Xs) = All.also (d.empty_says Y, d.says_empty Y) (all_tested Xs)

  by_hit_lem : {x : Pick} → (First G.rules (X ∷ σ) t → ⊥) → (o : Option Place) → Sought D d (X ∷ σ) known (t ∷ rest) o
      → by_hit D (X ∷ σ) o ≡ some x
      → Choice G (X ∷ σ) (t ∷ rest) x
  unfolding by_hit
  by_hit_lem n (some p) (Sought.found h) e = subst (λ y. Choice G (X ∷ σ) (t ∷ rest) y) (some_same e)
      (Choice.correct n h (popped_by D.empty (all_tested (take p.popped (X ∷ σ)))))
  by_hit_lem n none h e = absurd (none_some e)

  by_rest_lem : {x : Pick} → (First G.rules (X ∷ []) t → ⊥) → (b : Bool) → D.first (X ∷ σ) t ≡ b → by_rest D (X ∷ σ) (t ∷ rest) b ≡ some x
      → Choice G (X ∷ σ) (t ∷ rest) x
  unfolding by_rest
  by_rest_lem n true q e =
      subst (λ y. Choice G (X ∷ σ) (t ∷ rest) y) (some_same e) (Choice.pass (d.first_says (X ∷ σ) t (token tokens) (subst T (sym q) tt)) n)
  by_rest_lem n false q e =
      by_hit_lem (λ f. subst T q (d.says_first (X ∷ σ) t f)) (seek D (X ∷ σ) (t ∷ rest)) (sought D d (X ∷ σ) known tokens) e

  by_rule_lem : {x : Pick} → (X ≡ t → ⊥) → (o : Option Numbered) → RuleFound D X t D.rules o → by_rule D (X ∷ σ) (t ∷ rest) t o ≡ some x
      → Choice G (X ∷ σ) (t ∷ rest) x
  unfolding by_rule
  by_rule_lem n (some r) (RuleFound.found i h) e =
      subst (λ y. Choice G (X ∷ σ) (t ∷ rest) y) (some_same e)
      (Choice.expand (d.lists r.number X r.right i) (d.first_says r.right t (token tokens) h))
  by_rule_lem n none (RuleFound.missing f) e =
      by_rest_lem
      (λ h. ⊎_elim n (λ k. f k.0 k.1 (d.listed k.0 X k.1 k.2) (d.says_first k.1 t k.3)) (first_symbol h))
      (D.first (X ∷ σ) t) refl e

  by_top_lem : {x : Pick} → (b : Bool) → eqb X t ≡ b → by_top D X σ t rest b ≡ some x → Choice G (X ∷ σ) (t ∷ rest) x
  unfolding by_top
  by_top_lem true q e = subst (λ y. Choice G (X ∷ σ) (t ∷ rest) y) (some_same e) (Choice.match (eqb→eq X t (subst T (sym q) tt)))
  by_top_lem false q e =
      by_rule_lem (λ i. subst T q (equal_passes X t i)) (rule_for D X t D.rules) (rule_found D X t D.rules) e

-- What the tests choose is the choice.
pub chosen : {G : Grammar} (D : Tests) (d : Decided G D) (σ rest : List ℕ) (x : Pick)
    → All (λ Y. SymbolCost G.rules G.price Y (D.cost Y)) σ
    → All Terminal rest → choose D σ rest ≡ some x → Choice G σ rest x
unfolding choose
chosen D d [] rest x a b e = absurd (none_some e)
chosen D d (X ∷ σ) [] x a b e = absurd (none_some e)
chosen D d (X ∷ σ) (t ∷ rest) x a b e = by_top_lem D d X t σ rest a b (eqb X t) refl e
