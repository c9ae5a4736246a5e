-- What two sets of rules that say the same derive, and what it costs: each of it by one set is so by the other.
--     Within                                        every rule of the one is a rule of the other
--     derives_within .. predict_within              where R is within S
--     cheapest_within .. marked_within              where each is within the other
use Rattle.std.specs.Prelude.{ℕ, List}
use Rattle.grammar.specs.Derivation.{Rules, Step, Derives, First, Follow, Reachable, Yields, Productive, Predict, NoneShared}
use Rattle.grammar.specs.Cost.{Cheapest, SymbolCost, ListCost, CheapestRule, Ends}
use Rattle.grammar.specs.Grammar.{Affordable}
use Rattle.grammar.specs.Marks.{Mark, Marked}
use Rattle.grammar.specs.Moves.{Move}
use Rattle.grammar.specs.Run.{Pop, Popped}

abbrev pub Within : Rules → Rules → Type 0
Within R S = (p A : ℕ) (β : List ℕ) → R p A β → S p A β

module _ (R S : Rules) (w : Within R S) where
  pub step_within : {α β : List ℕ} → Step R α β → Step S α β
  step_within (Step.here {p = p} {A = A} {β = β} r) = Step.here (w p A β r)
  step_within (Step.later s) = Step.later (step_within s)

  pub derives_within : {α β : List ℕ} → Derives R α β → Derives S α β
  derives_within Derives.done = Derives.done
  derives_within (Derives.step s d) = Derives.step (step_within s) (derives_within d)

  pub first_within : {α : List ℕ} {t : ℕ} → First R α t → First S α t
  first_within f = record { token = f.token; rest = f.rest; begins = derives_within f.begins }

  pub follow_within : {σ : List ℕ} {A t : ℕ} → Follow R σ A t → Follow S σ A t
  follow_within f = record { token = f.token; front = f.front; rest = f.rest; stands = derives_within f.stands }

  pub reachable_within : {σ : List ℕ} {A : ℕ} → Reachable R σ A → Reachable S σ A
  reachable_within f = record { front = f.front; rest = f.rest; stands = derives_within f.stands }

  pub yields_within : {α v : List ℕ} → Yields R α v → Yields S α v
  yields_within y = record { terminals = y.terminals; derives = derives_within y.derives }

  pub productive_within : {A : ℕ} → Productive R A → Productive S A
  productive_within p = record { string = p.string; yields = yields_within p.yields }

  pub predict_within : {σ β : List ℕ} {A t : ℕ} → Predict R σ A β t → Predict S σ A β t
  predict_within (Predict.by_first f) = Predict.by_first (first_within f)
  predict_within (Predict.by_follow e f) = Predict.by_follow (derives_within e) (follow_within f)

module _ (R S : Rules) (to : Within R S) (from : Within S R) where
  pub none_shared_within : {σ : List ℕ} → NoneShared R σ → NoneShared S σ
  none_shared_within apart p q A t β γ r s x y =
      apart p q A t β γ (from p A β r) (from q A γ s) (predict_within S R from x) (predict_within S R from y)

  pub popped_within : {Xs : List ℕ} {ps : List Pop} → Popped R Xs ps → Popped S Xs ps
  popped_within Popped.nothing = Popped.nothing
  popped_within (Popped.empty e k) = Popped.empty (derives_within R S to e) (popped_within k)
  popped_within (Popped.missing n k) = Popped.missing (λ e. n (derives_within S R from e)) (popped_within k)

  module _ {price : ℕ → ℕ} where
    pub cheapest_within : {A c : ℕ} → Cheapest R price A c → Cheapest S price A c
    cheapest_within c =
        record {
          string = c.string;
          yields = yields_within R S to c.yields;
          costs = c.costs;
          least = λ w y. c.least w (yields_within S R from y);
        }

    pub affordable_within : {A : ℕ} → Affordable R price A → Affordable S price A
    affordable_within a = record { cost = a.cost; cheapest = cheapest_within a.cheapest; limit = a.limit }

    symbol_within : {X c : ℕ} → SymbolCost R price X c → SymbolCost S price X c
    symbol_within (SymbolCost.terminal t e) = SymbolCost.terminal t e
    symbol_within (SymbolCost.nonterminal l c) = SymbolCost.nonterminal l (cheapest_within c)

    pub list_within : {α : List ℕ} {c : ℕ} → ListCost R price α c → ListCost S price α c
    list_within ListCost.nothing = ListCost.nothing
    list_within (ListCost.also x k e) = ListCost.also (symbol_within x) (list_within k) e

module _ (R S : Rules) (to : Within R S) (from : Within S R) {price : ℕ → ℕ} where
  pub cheapest_rule_within : {A c p : ℕ} → CheapestRule R price A c p → CheapestRule S price A c p
  cheapest_rule_within {A} {p = p} k =
      record {
        cheapest = cheapest_within R S to from k.cheapest;
        right = k.right;
        rule = to p A k.right k.rule;
        reaches = list_within R S to from k.reaches;
        lowest = λ q γ r l. k.lowest q γ (from q A γ r) (list_within S R from to l);
      }

  ends_within : {d : ℕ} {α w : List ℕ} → Ends R price d α w → Ends S price d α w
  ends_within Ends.nothing = Ends.nothing
  ends_within (Ends.terminal t k) = Ends.terminal t (ends_within k)
  ends_within (Ends.nonterminal {A = A} {p = p} {β = β} c r k l e) =
      Ends.nonterminal (cheapest_rule_within c) (to p A β r) (ends_within k) (ends_within l) e

  pub marked_within : {ms : List Move} {xs : List Mark} → Marked R price ms xs → Marked S price ms xs
  marked_within Marked.nothing = Marked.nothing
  marked_within (Marked.matched k) = Marked.matched (marked_within k)
  marked_within (Marked.expanded k) = Marked.expanded (marked_within k)
  marked_within (Marked.dropped k) = Marked.dropped (marked_within k)
  marked_within (Marked.deleted k) = Marked.deleted (marked_within k)
  marked_within (Marked.replaced e k) = Marked.replaced (ends_within e) (marked_within k)
