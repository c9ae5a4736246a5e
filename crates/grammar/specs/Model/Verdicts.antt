-- The verdict on grammar words, by the tests in document 01's order: where the model gives one, it is the definitions'.
use Rattle.std.specs.Prelude.{◌≡◌, Bool, List, [], ◌∷◌, ℕ, drop}
use Rattle.std.proofs.Math.Path.{refl, subst}
use Rattle.std.proofs.Common.{sym}
use Rattle.std.proofs.Math.Bool.{true, false}
use Rattle.std.proofs.Math.Option.{Option, none, some}
use Rattle.std.proofs.Math.Dec.{T}
use Rattle.grammar.specs.Words.{START, Shaped}
use Rattle.grammar.specs.Derivation.{Reachable}
use Rattle.grammar.specs.Grammar.{RuleOf, EachNonterminal, grammar_conditions, Verdict}
use Rattle.grammar.specs.Refusals.{Condition, Lowest}
use Rattle.grammar.specs.Theory.Conditions.{all_met, applies, passes}
use Rattle.grammar.specs.declared.Refusal.{Refusal}
use Rattle.grammar.specs.declared.Refusal.TheVariants.{BadShape, Unreachable, NoString, TooCostly, SharedPredict}
use Rattle.grammar.specs.Model.Tests.{none_some, some_same}
use Rattle.grammar.specs.Model.Reflects.{Reflects}
use Rattle.grammar.specs.Model.Shape.{is_shaped, shape_test}
use Rattle.grammar.specs.Model.Judge.{
  all_reachable,
  all_productive,
  costs_ready,
  all_affordable,
  none_shared,
  reachable_test,
  productive_test,
  affordable_test,
  shared_test,
}

-- ---- The verdict, in order

unfoldable pub by_shared : Bool → Option (Option Refusal)
by_shared true = some none
by_shared false = some (some SharedPredict)

unfoldable pub by_cost : List ℕ → Bool → Option (Option Refusal)
unfolding by_shared none_shared
by_cost ws true = by_shared (none_shared ws)
by_cost ws false = some (some TooCostly)

unfoldable pub by_ready : List ℕ → Bool → Option (Option Refusal)
unfolding by_cost all_affordable
by_ready ws true = by_cost ws (all_affordable ws)
by_ready ws false = none

unfoldable pub by_productive : List ℕ → Bool → Option (Option Refusal)
unfolding by_ready costs_ready
by_productive ws true = by_ready ws (costs_ready ws)
by_productive ws false = some (some NoString)

unfoldable pub by_reachable : List ℕ → Bool → Option (Option Refusal)
unfolding by_productive all_productive
by_reachable ws true = by_productive ws (all_productive ws)
by_reachable ws false = some (some Unreachable)

unfoldable pub by_shape : List ℕ → Bool → Option (Option Refusal)
unfolding by_reachable all_reachable
by_shape ws true = by_reachable ws (all_reachable ws)
by_shape ws false = some (some BadShape)

-- The model's verdict; nothing where its costs are not ready.
unfoldable pub verdict_of : List ℕ → Option (Option Refusal)
unfolding by_shape is_shaped
verdict_of ws = by_shape ws (is_shaped ws)

module _ (ws : List ℕ) (o : Option Refusal) where
  -- A test that fails: its refusal applies.
  fails : {b : Bool} {c : Condition} {cs : List Condition} → Reflects b c.holds → b ≡ false → some (some c.refusal) ≡ some o
      → Lowest (c ∷ cs) o
  fails {c = c} {cs = cs} t q e = subst (Lowest (c ∷ cs)) (some_same e) (applies (λ k. subst T q (t.said k)))

  passed : {b : Bool} {P : Type 0} → Reflects b P → b ≡ true → P
  passed t q = t.says (subst T (sym q) tt)

  module _ (s : Shaped ws) where
    judge_shared : EachNonterminal ws (Reachable (RuleOf ws) (START ∷ [])) → (b : Bool) → none_shared ws ≡ b → by_shared b ≡ some o
        → Lowest (drop 4 (grammar_conditions ws)) o
    unfolding by_shared
    judge_shared r true q e = subst (Lowest (drop 4 (grammar_conditions ws))) (some_same e) (passes (passed (shared_test ws s r) q) all_met)
    judge_shared r false q e = fails (shared_test ws s r) q e

    judge_cost : EachNonterminal ws (Reachable (RuleOf ws) (START ∷ [])) → T (costs_ready ws) → (b : Bool) → all_affordable ws ≡ b
        → by_cost ws b ≡ some o → Lowest (drop 3 (grammar_conditions ws)) o
    unfolding by_cost
    judge_cost r c true q e = passes (passed (affordable_test ws s c) q) (judge_shared r (none_shared ws) refl e)
    judge_cost r c false q e = fails (affordable_test ws s c) q e

    judge_ready : EachNonterminal ws (Reachable (RuleOf ws) (START ∷ [])) → (b : Bool) → costs_ready ws ≡ b → by_ready ws b ≡ some o
        → Lowest (drop 3 (grammar_conditions ws)) o
    unfolding by_ready
    judge_ready r true q e = judge_cost r (subst T (sym q) tt) (all_affordable ws) refl e
    judge_ready r false q e = absurd (none_some e)

    judge_productive : EachNonterminal ws (Reachable (RuleOf ws) (START ∷ [])) → (b : Bool) → all_productive ws ≡ b
        → by_productive ws b ≡ some o → Lowest (drop 2 (grammar_conditions ws)) o
    unfolding by_productive
    judge_productive r true q e = passes (passed (productive_test ws s) q) (judge_ready r (costs_ready ws) refl e)
    judge_productive r false q e = fails (productive_test ws s) q e

    judge_reachable : (b : Bool) → all_reachable ws ≡ b → by_reachable ws b ≡ some o → Lowest (drop 1 (grammar_conditions ws)) o
    unfolding by_reachable
    judge_reachable true q e = let r = passed (reachable_test ws s) q in passes r (judge_productive r (all_productive ws) refl e)
    judge_reachable false q e = fails (reachable_test ws s) q e

  judge_shape : (b : Bool) → is_shaped ws ≡ b → by_shape ws b ≡ some o → Verdict ws o
  unfolding by_shape
  judge_shape true q e = let s = passed (shape_test ws) q in passes s (judge_reachable s (all_reachable ws) refl e)
  judge_shape false q e = fails (shape_test ws) q e

  -- Where the model gives a verdict, it is the definitions'.
  pub judged : verdict_of ws ≡ some o → Verdict ws o
  unfolding verdict_of
  judged e = judge_shape (is_shaped ws) refl e

-- An accepted grammar's costs are ready.
refused_not : {r : Refusal} → some (some r) ≡ some none → ⊥
refused_not e = none_some (sym (some_same e))

pub accepted_ready : (ws : List ℕ) → verdict_of ws ≡ some none → T (costs_ready ws)
unfolding verdict_of by_shape by_reachable by_productive by_ready
accepted_ready ws e = by_shape_lem (is_shaped ws) e
  where
    by_ready_lem : (b : Bool) → costs_ready ws ≡ b → by_ready ws b ≡ some none → T (costs_ready ws)
    by_ready_lem true q e = subst T (sym q) tt
    by_ready_lem false q e = absurd (none_some e)

    by_productive_lem : (b : Bool) → by_productive ws b ≡ some none → T (costs_ready ws)
    by_productive_lem true e = by_ready_lem (costs_ready ws) refl e
    by_productive_lem false e = absurd (refused_not e)

    by_reachable_lem : (b : Bool) → by_reachable ws b ≡ some none → T (costs_ready ws)
    by_reachable_lem true e = by_productive_lem (all_productive ws) e
    by_reachable_lem false e = absurd (refused_not e)

    by_shape_lem : (b : Bool) → by_shape ws b ≡ some none → T (costs_ready ws)
    by_shape_lem true e = by_reachable_lem (all_reachable ws) e
    by_shape_lem false e = absurd (refused_not e)
