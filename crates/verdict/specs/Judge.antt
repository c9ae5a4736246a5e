-- The verdict, condition by condition: where the ones before hold and this one does not, and where all hold.
use Rattle.std.specs.Prelude.{List, [], ◌∷◌, ℕ}
use Rattle.std.proofs.Math.Option.{none, some}
use Rattle.std.proofs.Common.{sym, subst, arith}
use Rattle.costs.specs.Costed.{Costed}
use Rattle.verdict.specs.Prices.{Dear, Limited, afford_none, productive_all, productive_none}
use Rattle.grammar.specs.Words.{START, Shaped, insert_cost}
use Rattle.grammar.specs.Derivation.{Reachable, Productive, NoneShared}
use Rattle.grammar.specs.Grammar.{RuleOf, Affordable, EachNonterminal, start_over_end, Verdict}
use Rattle.grammar.specs.declared.Refusal.TheVariants.{BadShape, Unreachable, NoString, TooCostly, SharedPredict}
use Rattle.grammar.specs.declared.Refusal.{Refusal}
use Rattle.grammar.specs.Theory.Conditions.{all_met, applies, passes}

module _ (ws : List ℕ) where
  pub refused_5 : (Shaped ws → ⊥) → Verdict ws (some BadShape)
  refused_5 n = applies n

  module _ (s : Shaped ws) where
    pub refused_6 : (EachNonterminal ws (Reachable (RuleOf ws) (START ∷ [])) → ⊥) → Verdict ws (some Unreachable)
    refused_6 n = passes s (applies n)

    module _ (r : EachNonterminal ws (Reachable (RuleOf ws) (START ∷ []))) where
      pub refused_7 : (EachNonterminal ws (Productive (RuleOf ws)) → ⊥) → Verdict ws (some NoString)
      refused_7 n = passes s (passes r (applies n))

      module _ (p : EachNonterminal ws (Productive (RuleOf ws))) where
        pub refused_8 : (EachNonterminal ws (Affordable (RuleOf ws) (insert_cost ws)) → ⊥) → Verdict ws (some TooCostly)
        refused_8 n = passes s (passes r (passes p (applies n)))

        module _ (a : EachNonterminal ws (Affordable (RuleOf ws) (insert_cost ws))) where
          pub refused_9 : (NoneShared (RuleOf ws) start_over_end → ⊥) → Verdict ws (some SharedPredict)
          refused_9 n = passes s (passes r (passes p (passes a (applies n))))

          pub accepted : NoneShared (RuleOf ws) start_over_end → Verdict ws none
          accepted n = passes s (passes r (passes p (passes a (passes n all_met))))

-- A nonterminal costs more than 60,000: 7 where one derives no string, else 8.
pub refused_dear : {ws l : List ℕ} {r : Refusal} → Shaped ws → EachNonterminal ws (Reachable (RuleOf ws) (START ∷ [])) → Costed ws l
    → (Limited ws l → ⊥) → Dear ws l r → Verdict ws (some r)
refused_dear {ws} s reached c dear (Dear.string f e) =
    subst (λ r. Verdict ws (some r)) (sym e) (refused_8 ws s reached (productive_all c f) (λ all. dear (afford_none c all)))
refused_dear {ws} s reached c dear (Dear.none n e) =
    subst (λ r. Verdict ws (some r)) (sym e) (refused_7 ws s reached (λ all. n (productive_none c all)))

-- What costs no more than 60,000 derives a string.
pub productive_limited : {ws l : List ℕ} → Costed ws l → Limited ws l → EachNonterminal ws (Productive (RuleOf ws))
productive_limited c f = productive_all c (λ k h. omega (arith, f k h))
