-- Two grammars that agree: what one of them derives, costs, runs and marks, the other does.
--     SameGrammar, same_grammar_sym         what agrees, and the other way round
--     to_run_by                             a run by the one is a run by the other
--     to_reachable .. to_shared             what the check asks of the one holds of the other
--     to_costs, to_marked                   what the desk lists and what moves come to are the same
use Rattle.std.specs.Prelude.{ℕ, ◌+◌, ◌≡◌, List, [], ◌∷◌, ◌↔◌, get_or}
use Rattle.std.proofs.Common.{sym, subst}
use Rattle.std.proofs.Math.Option.{Option}
use Rattle.grammar.specs.Words.{START}
use Rattle.grammar.specs.Derivation.{Reachable, Productive, NoneShared}
use Rattle.grammar.specs.Cost.{ListCost, CheapestRule}
use Rattle.grammar.specs.Grammar.{Grammar, Affordable, Each}
use Rattle.grammar.specs.Moves.{Move}
use Rattle.grammar.specs.Run.{Plausible, Hit, Choice, State, Limits, Run, RunBy, Pick, started}
use Rattle.grammar.specs.Desk.{CostsAndRules}
use Rattle.grammar.specs.Marks.{Mark, Marked, MarkedBy}
use Rattle.grammar.specs.declared.Refusal.{Refusal}
use Rattle.grammar.specs.Theory.SameRules.{
  Within,
  first_within,
  reachable_within,
  productive_within,
  none_shared_within,
  popped_within,
  affordable_within,
  list_within,
  cheapest_rule_within,
  marked_within,
}

pub record SameGrammar (G H : Grammar) : Type 0 where
  pub rules : (p A : ℕ) (β : List ℕ) → G.rules p A β ↔ H.rules p A β
  pub begin : G.begin ≡ H.begin
  pub price : G.price ≡ H.price
  pub reliable : (c t : ℕ) → G.reliable c t ↔ H.reliable c t

pub other_way : {A B : Type 0} → A ↔ B → B ↔ A
other_way e = (e.1, e.0)

pub same_grammar_sym : {G H : Grammar} → SameGrammar G H → SameGrammar H G
same_grammar_sym s =
    record {
      rules = λ p A β. other_way (s.rules p A β);
      begin = sym s.begin;
      price = sym s.price;
      reliable = λ c t. other_way (s.reliable c t);
    }

module _ (G H : Grammar) (s : SameGrammar G H) where
  to : Within G.rules H.rules
  to p A β = (s.rules p A β).0

  from : Within H.rules G.rules
  from p A β = (s.rules p A β).1

  to_cost : {α : List ℕ} {c : ℕ} → ListCost G.rules G.price α c → ListCost H.rules H.price α c
  to_cost {α} {c} k = subst (λ f. ListCost H.rules f α c) s.price (list_within G.rules H.rules to from k)

  pub to_marked : {ms : List Move} {xs : List Mark} → MarkedBy G ms xs → MarkedBy H ms xs
  to_marked {ms} {xs} k =
      subst (λ f. Marked H.rules f ms xs) s.price
      (marked_within G.rules H.rules to from k)

  to_plausible : {σ : List ℕ} {t i : ℕ} → Plausible G σ t i → Plausible H σ t i
  to_plausible {t = t} p =
      record {
        within = p.within;
        first = first_within G.rules H.rules to p.first;
        cost = p.cost;
        costs = to_cost p.costs;
        below = (s.reliable p.cost t).0 p.below;
      }

-- A run by the one is a run by the other.
module _ (G H : Grammar) (s : SameGrammar G H) where
  to_hit : {σ ρ : List ℕ} {j i : ℕ} → Hit G σ ρ j i → Hit H σ ρ j i
  to_hit h =
      record {
        within = h.within;
        plausible = to_plausible G H s h.plausible;
        least_r = λ g k l p. h.least_r g k l (to_plausible H G (same_grammar_sym s) p);
        least_i = λ k l p. h.least_i k l (to_plausible H G (same_grammar_sym s) p);
      }

  to_choice : {σ ρ : List ℕ} {x : Pick} → Choice G σ ρ x → Choice H σ ρ x
  to_choice (Choice.match e) = Choice.match e
  to_choice (Choice.expand {A = A} {p = p} {β = β} r f) =
      Choice.expand (to G H s p A β r) (first_within G.rules H.rules (to G H s) f)
  to_choice (Choice.pass f n) =
      Choice.pass (first_within G.rules H.rules (to G H s) f) (λ k. n (first_within H.rules G.rules (from G H s) k))
  to_choice (Choice.correct n h k) =
      Choice.correct (λ f. n (first_within H.rules G.rules (from G H s) f)) (to_hit h)
      (popped_within G.rules H.rules (to G H s) (from G H s) k)

  to_run : {L : Limits} {z : State} {ms : List Move} {o : Option Refusal} → Run G L z ms o → Run H L z ms o
  to_run (Run.ended e f) = Run.ended e f
  to_run (Run.moved c e r) = Run.moved (to_choice c) e (to_run r)
  to_run (Run.stopped c e) = Run.stopped (to_choice c) e

  pub to_run_by : (log : List ℕ) {edit_room rule_room : ℕ} {ms : List Move} {o : Option Refusal} → RunBy G log edit_room rule_room ms o
      → RunBy H log edit_room rule_room ms o
  to_run_by log {edit_room} {rule_room} {ms} {o} r =
      subst (λ σ. Run H (record { height = 256; edit_room = edit_room; rule_room = rule_room }) (started σ log) ms o) s.begin (to_run r)

  -- What the check asks of the one holds of the other.
  pub to_reachable : {N : ℕ} → Each N (Reachable G.rules (START ∷ [])) → Each N (Reachable H.rules (START ∷ []))
  to_reachable e k l = reachable_within G.rules H.rules (to G H s) (e k l)

  pub to_productive : {N : ℕ} → Each N (Productive G.rules) → Each N (Productive H.rules)
  to_productive e k l = productive_within G.rules H.rules (to G H s) (e k l)

  pub to_affordable : {N : ℕ} → Each N (Affordable G.rules G.price) → Each N (Affordable H.rules H.price)
  to_affordable e k l =
      subst (λ f. Affordable H.rules f (64 + k)) s.price
      (affordable_within G.rules H.rules (to G H s) (from G H s) (e k l))

  pub to_shared : NoneShared G.rules G.begin → NoneShared H.rules H.begin
  to_shared apart =
      subst (λ σ. NoneShared H.rules σ) s.begin (none_shared_within G.rules H.rules (to G H s) (from G H s) apart)

  -- So do the cheapest rules that the desk lists.
  pub to_costs : {N : ℕ} {cs ps : List ℕ} → CostsAndRules N G cs ps → CostsAndRules N H cs ps
  to_costs {cs = cs} {ps = ps} c =
      record {
        costs_count = c.costs_count;
        rules_count = c.rules_count;
        each = λ k l.
            subst (λ f. CheapestRule H.rules f (64 + k) (get_or cs k 0) (get_or ps k 0)) s.price
            (cheapest_rule_within G.rules H.rules (to G H s) (from G H s) (c.each k l));
      }
