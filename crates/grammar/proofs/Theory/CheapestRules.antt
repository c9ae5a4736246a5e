-- In an accepted grammar each nonterminal has its cheapest rule, and following cheapest rules ends (Ending.antt).
use Rattle.std.specs.Prelude.{ℕ, ◌+◌, ◌-◌, ◌≤◌, ◌<◌, ◌≡◌, refl, List, [], ◌∷◌}
use Rattle.std.proofs.Common.{sym, ap, subst, ◌∙◌, arith}
use Rattle.std.proofs.Math.Logic.{dite}
use Rattle.std.proofs.Math.Decide.{dec_lt, ℕ_discrete}
use Rattle.grammar.specs.Words.{Terminal, RuleSymbol, nonterminal_count, rule_count, left_side, right_side, insert_cost}
use Rattle.grammar.specs.Derivation.{All}
use Rattle.grammar.specs.Cost.{Cheapest, SymbolCost, ListCost, CheapestRule, Ends}
use Rattle.grammar.specs.Grammar.{RuleOf, grammar_of}
use Rattle.grammar.specs.Theory.Closed.{total, ClosedCost}
use Rattle.grammar.specs.Theory.Costing.{list_cost_unique, list_cost_sum, reached}
use Rattle.grammar.specs.Theory.Ending as Ending
use Rattle.grammar.specs.Theory.Exists.{Least}
use Rattle.grammar.proofs.Theory.Exists.{least_of}
use Rattle.grammar.specs.Theory.Good.{Accepted, Good, good_words}
use Rattle.grammar.specs.Theory.Members.{all_map}
use Rattle.grammar.specs.Theory.Rewriting.{Affords, affords_nothing, affords_terminal, affords_append, affords_rule}
use Rattle.grammar.specs.Theory.RightSides.{rule_at}

-- What X costs, for each number X: of a terminal its insert cost, of what may stand in a rule its cost.
pub record CostOf (ws : List ℕ) (X : ℕ) : Type 0 where
  pub cost : ℕ
  pub terminal : Terminal X → cost ≡ insert_cost ws X
  pub exact : (grammar_of ws).known X → SymbolCost (RuleOf ws) (insert_cost ws) X cost

module _ (ws : List ℕ) (a : Accepted ws) where
  good : Good (grammar_of ws) (nonterminal_count ws) 8
  good = good_words ws a

  nonterminal_below : {X : ℕ} → 64 ≤ X → (grammar_of ws).known X → X - 64 < nonterminal_count ws
  nonterminal_below l (RuleSymbol.terminal x y) = absurd (omega (arith, a.shaped.terminals_high))
  nonterminal_below l (RuleSymbol.nonterminal x y) = omega arith

  pub cost_of_lem : (X : ℕ) → CostOf ws X
  cost_of_lem X =
      dite (dec_lt X 64)
      (λ low. record { cost = insert_cost ws X; terminal = λ _. refl; exact = λ _. SymbolCost.terminal low refl })
      (λ high.
      dite (dec_lt (X - 64) (nonterminal_count ws))
      (λ h.
      let e : 64 + (X - 64) ≡ X = omega arith in
      let known = a.affordable (X - 64) h in
      record {
        cost = known.cost;
        terminal = λ low. absurd (high low);
        exact = λ _.
            subst (λ Y. SymbolCost (RuleOf ws) (insert_cost ws) Y known.cost) e (SymbolCost.nonterminal (omega arith) known.cheapest);
      })
      (λ h.
      record {
        cost = 0;
        terminal = λ low. absurd (high low);
        exact = λ k. absurd (h (nonterminal_below (omega arith) k));
      }))

  abbrev pub cost : ℕ → ℕ
  cost X = (cost_of_lem X).cost

  -- ---- Some rule reaches the cost of its left side

  symbol_affords : {X c : ℕ} → SymbolCost (RuleOf ws) (insert_cost ws) X c → Affords (RuleOf ws) (insert_cost ws) (X ∷ []) c
  symbol_affords (SymbolCost.terminal l e) = affords_terminal (RuleOf ws) (insert_cost ws) l e
  symbol_affords (SymbolCost.nonterminal l c) = record { string = c.string; yields = c.yields; costs = c.costs }

  list_affords : {α : List ℕ} → All (grammar_of ws).known α → Affords (RuleOf ws) (insert_cost ws) α (total cost α)
  unfolding total
  list_affords All.nothing = affords_nothing (RuleOf ws) (insert_cost ws)
  list_affords (All.also {x = X} h k) =
      affords_append (RuleOf ws) (insert_cost ws) (symbol_affords ((cost_of_lem X).exact h)) (list_affords k)

  closed : ClosedCost (RuleOf ws) cost
  closed p A β r =
      let mine = good.left p A β r in
      let found = affords_rule (RuleOf ws) (insert_cost ws) r (list_affords (good.symbols p A β r)) in
      no_more mine.0 ((cost_of_lem A).exact mine.1) found
    where
      no_more : {X c d : ℕ} → 64 ≤ X → SymbolCost (RuleOf ws) (insert_cost ws) X c → Affords (RuleOf ws) (insert_cost ws) (X ∷ []) d → c ≤ d
      no_more l (SymbolCost.terminal k e) found = absurd (omega arith)
      no_more l (SymbolCost.nonterminal k x) found = omega (arith, x.least found.string found.yields, found.costs)

  -- ---- The lowest of them

  -- Rule q of A reaches its cost.
  abbrev Reaches : ℕ → ℕ → Type 0
  Reaches A q = (left_side ws q ≡ A) × (total cost (right_side ws q) ≡ cost A)

  decides : (A q : ℕ) → Dec (Reaches A q)
  decides A q =
      dite (ℕ_discrete (left_side ws q) A)
      (λ e. dite (ℕ_discrete (total cost (right_side ws q)) (cost A)) (λ f. yes (e, f)) (λ n. no (λ r. n r.1)))
      (λ n. no (λ r. n r.0))

  -- A nonterminal of the grammar,
  module _ (A : ℕ) (high : 64 ≤ A) (known : (grammar_of ws).known A) where
    -- what it costs,
    cheapest : Cheapest (RuleOf ws) (insert_cost ws) A (cost A)
    cheapest = go ((cost_of_lem A).exact known)
      where
        go : {c : ℕ} → SymbolCost (RuleOf ws) (insert_cost ws) A c → Cheapest (RuleOf ws) (insert_cost ws) A c
        go (SymbolCost.terminal l e) = absurd (omega arith)
        go (SymbolCost.nonterminal l c) = c

    lowest_reaching : Least (Reaches A) (rule_count ws)
    lowest_reaching =
        let r =
        reached (RuleOf ws) (insert_cost ws) cost (λ t low. omega (arith, (cost_of_lem t).terminal low)) closed high cheapest.yields
        cheapest.costs in
        least_of (Reaches A) (decides A) (rule_count ws) r.number r.rule.counted
        (sym r.rule.left, ap (total cost) (sym r.rule.right) ∙ r.reaches)

    right_cost : {β : List ℕ} → All (grammar_of ws).known β → ListCost (RuleOf ws) (insert_cost ws) β (total cost β)
    right_cost k = list_cost_sum (RuleOf ws) (insert_cost ws) cost (all_map (λ X h. (cost_of_lem X).exact h) k)

    -- and its cheapest rule.
    pub cheapest_rule : (p : ℕ) × CheapestRule (RuleOf ws) (insert_cost ws) A (cost A) p
    cheapest_rule =
        let low = lowest_reaching in
        let rule =
        subst (λ B. RuleOf ws low.value B (right_side ws low.value)) low.holds.0 (rule_at ws low.value low.small) in (
          low.value,
          record {
            cheapest = cheapest;
            right = right_side ws low.value;
            rule = rule;
            reaches = subst (ListCost (RuleOf ws) (insert_cost ws) (right_side ws low.value)) low.holds.1
                (right_cost (good.symbols low.value A (right_side ws low.value) rule));
            lowest = λ q γ r c.
                let own = list_cost_unique (RuleOf ws) (insert_cost ws) (right_cost (good.symbols q A γ r)) c in
                dite (dec_lt q low.value)
                (λ less. absurd (low.least q less (sym r.left, ap (total cost) (sym r.right) ∙ own)))
                (λ less. omega arith);
          },
        )

  -- No token is free.
  paid : (t : ℕ) → Terminal t → (grammar_of ws).known t → 1 ≤ insert_cost ws t
  paid t low (RuleSymbol.terminal x y) = (a.shaped.terminals t x y).cost_low
  paid t low (RuleSymbol.nonterminal x y) = absurd (omega arith)

  -- Following cheapest rules from any nonterminal ends, and at most N rules are followed one below the other.
  pub cheapest_ends : (k : ℕ) → k < nonterminal_count ws
      → (w : List ℕ) × Ends (RuleOf ws) (insert_cost ws) (nonterminal_count ws) ((64 + k) ∷ []) w
  cheapest_ends k h =
      Ending.cheapest_ends (grammar_of ws) (nonterminal_count ws) 8 good cost (record { paid = paid; cheap = cheapest_rule }) (64 + k)
      (omega arith) (RuleSymbol.nonterminal (omega arith) (omega arith))
