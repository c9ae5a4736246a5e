-- A grammar as a list of rules, and tests over all of them.
use Rattle.std.specs.Prelude.{ℕ, zero, suc, ◌+◌, ◌≤◌, ◌<◌, ◌≡◌, refl, Bool, true, false, ◌&&◌, ◌||◌, List, [], ◌∷◌, T}
use Rattle.std.proofs.Common.{sym, subst₂, ⊎_elim}
use Rattle.grammar.specs.Derivation.{All}
use Rattle.grammar.specs.Words.{RuleSymbol}
use Rattle.grammar.specs.Model.Tests.{left_of, right_of_lem, one_of, or_left, or_right}

pub record Rule : Type 0 where
  pub left : ℕ
  pub right : List ℕ

-- Rule p of the list rewrites A to β.
pub data RuleAt : List Rule → ℕ → ℕ → List ℕ → Type 0 where
  here : {r : Rule} {rs : List Rule} {A : ℕ} {β : List ℕ} → A ≡ r.left → β ≡ r.right → RuleAt (r ∷ rs) zero A β
  there : {r : Rule} {rs : List Rule} {p A : ℕ} {β : List ℕ} → RuleAt rs p A β → RuleAt (r ∷ rs) (suc p) A β

-- Left sides are nonterminals, and right sides hold terminals below T, which is at most 64, and nonterminals.
pub record Ranged (rs : List Rule) (T N : ℕ) : Type 0 where
  pub terminals : T ≤ 64
  pub low : (p A : ℕ) (β : List ℕ) → RuleAt rs p A β → 64 ≤ A
  pub high : (p A : ℕ) (β : List ℕ) → RuleAt rs p A β → A < 64 + N
  pub symbols : (p A : ℕ) (β : List ℕ) → RuleAt rs p A β → All (RuleSymbol T N) β

-- Some rule passes f.
unfoldable pub some_rule : (ℕ → List ℕ → Bool) → List Rule → Bool
some_rule f [] = false
some_rule f (r ∷ rs) = f r.left r.right || some_rule f rs

pub record Passing (f : ℕ → List ℕ → Bool) (rs : List Rule) : Type 0 where
  pub number : ℕ
  pub left : ℕ
  pub right : List ℕ
  pub rule : RuleAt rs number left right
  pub passes : T (f left right)

pub passing : (f : ℕ → List ℕ → Bool) (rs : List Rule) → T (some_rule f rs) → Passing f rs
unfolding some_rule
passing f (r ∷ rs) h =
    ⊎_elim
    (λ k. record { number = 0; left = r.left; right = r.right; rule = RuleAt.here refl refl; passes = k })
    (λ k.
    let i = passing f rs k in
    record { number = suc i.number; left = i.left; right = i.right; rule = RuleAt.there i.rule; passes = i.passes })
    (one_of (f r.left r.right) (some_rule f rs) h)
passing f [] h = elim h [ ]

pub some_rule_lem : (f : ℕ → List ℕ → Bool) {rs : List Rule} {p A : ℕ} {β : List ℕ} → RuleAt rs p A β → T (f A β) → T (some_rule f rs)
unfolding some_rule
some_rule_lem f (RuleAt.here {r = r} {rs = rs} e d) h =
    or_left (f r.left r.right) (some_rule f rs) (subst₂ (λ X γ. T (f X γ)) e d h)
some_rule_lem f (RuleAt.there {r = r} {rs = rs} i) h = or_right (f r.left r.right) (some_rule f rs) (some_rule_lem f i h)

-- Every rule passes f.
unfoldable pub every_rule : (ℕ → List ℕ → Bool) → List Rule → Bool
every_rule f [] = true
every_rule f (r ∷ rs) = f r.left r.right && every_rule f rs

pub every_rule_lem : (f : ℕ → List ℕ → Bool) {rs : List Rule} {p A : ℕ} {β : List ℕ} → T (every_rule f rs) → RuleAt rs p A β → T (f A β)
unfolding every_rule
every_rule_lem f h (RuleAt.here {r = r} {rs = rs} e d) =
    subst₂ (λ X γ. T (f X γ)) (sym e) (sym d) (left_of (f r.left r.right) (every_rule f rs) h)
every_rule_lem f h (RuleAt.there {r = r} {rs = rs} i) = every_rule_lem f (right_of_lem (f r.left r.right) (every_rule f rs) h) i
