-- The predict set of a rule as a mask: a walk over its right side with FOLLOW of its left side behind it.
use Rattle.std.specs.Prelude.{ℕ, ◌<◌, ◌≡◌, true, List, ◌⊎◌, ◌↔◌, get_or}
use Rattle.std.proofs.Common.{sym, subst, inl, inr}
use Rattle.grammar.specs.Words.{Terminal, rule_count, left_side, right_side}
use Rattle.grammar.specs.Derivation.{CanBeEmpty, First, Follow, Predict}
use Rattle.grammar.specs.Grammar.{RuleOf, start_over_end}
use Rattle.grammar.specs.Theory.RightSides.{right_symbols}
use Rattle.shape.specs.Accessors.{LeftOf}
use Rattle.sets.specs.Bits.{member}
use Rattle.firsts.specs.Opens.{FirstWith, Opens}
use Rattle.firsts.specs.Masks.{FirstsOf, opens_exact}
use Rattle.firsts.specs.Asked.{Asked}
use Rattle.follows.specs.Follows.{FollowsOf}

-- Token t is in the predict set of rule p.
abbrev pub PredictRule : List ℕ → ℕ → ℕ → Type 0
PredictRule ws p t = Predict (RuleOf ws) start_over_end (left_side ws p) (right_side ws p) t

-- The bits of `mask` are the predict set of rule p.
pub record PredictMask (ws : List ℕ) (p mask : ℕ) : Type 0 where
  pub exact : (t : ℕ) → Terminal t → (member mask t ≡ true) ↔ PredictRule ws p t

-- The walk finds exactly the predict set.
pub predict_found : {ws : List ℕ} {null : ℕ} {firsts follows : List ℕ} → Asked ws null firsts → FirstsOf ws firsts → FollowsOf ws follows
    → {p k mask : ℕ}
    → p < rule_count ws → LeftOf ws p k → FirstWith null firsts (get_or follows k 0) (right_side ws p) mask → PredictMask ws p mask
predict_found {ws} {null = null} {firsts = firsts} {follows = follows} asked exact fed {p} {k} {mask} h left w =
    record { exact = λ t l. (λ m. to t l ((opens t l).0 ((w.exact t).0 m)), λ d. (w.exact t).1 ((opens t l).1 (from t l d))) }
  where
    opens : (t : ℕ) (l : Terminal t)
        → Opens null firsts (get_or follows k 0) t (right_side ws p)
        ↔ (First (RuleOf ws) (right_side ws p) t ⊎ (CanBeEmpty (RuleOf ws) (right_side ws p) × (member (get_or follows k 0) t ≡ true)))
    opens t l =
        opens_exact ws asked.shaped null asked.nulls firsts exact t l
        (right_symbols ws asked.shaped p h)

    to : (t : ℕ) → Terminal t
        → First (RuleOf ws) (right_side ws p) t ⊎ (CanBeEmpty (RuleOf ws) (right_side ws p) × (member (get_or follows k 0) t ≡ true))
        → PredictRule ws p t
    to t l (inl f) = Predict.by_first f
    to t l (inr f) =
        Predict.by_follow f.0
        (subst (λ A. Follow (RuleOf ws) start_over_end A t) (sym left.names)
        ((fed.follow k t left.below l).0 f.1))

    from : (t : ℕ) → Terminal t → PredictRule ws p t
        → First (RuleOf ws) (right_side ws p) t ⊎ (CanBeEmpty (RuleOf ws) (right_side ws p) × (member (get_or follows k 0) t ≡ true))
    from t l (Predict.by_first f) = inl f
    from t l (Predict.by_follow e f) =
        inr (
          e,
          (fed.follow k t left.below l).1 (subst (λ A. Follow (RuleOf ws) start_over_end A t) left.names f),
        )
