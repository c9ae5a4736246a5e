-- A table that no rule lowers holds exactly the costs: sound by the strings found on the way, least because it is settled. And the lowest
-- rule that reaches a cost by such a table is the cheapest one.
--     rule_affords, rule_some       sound: a right side's sum is the cost of a string that its left side derives, or it derives some
--     cheapest, over, barren        sound and settled, therefore exact
--     right_cost, right_total       what a right side costs, by derivations and by the table
--     rule_is                       the rule that is noted is the cheapest one
use Rattle.std.specs.Prelude.{ℕ, ◌+◌, ◌-◌, ◌*◌, ◌≤◌, ◌<◌, ◌≡◌, List, [], ◌∷◌, length}
use Rattle.std.proofs.Math.Path.{refl}
use Rattle.std.proofs.Common.{sym, ap, subst, ⊎_elim}
use native.Mathlib.Omega.{arith}
use Rattle.base.specs.Choices.{below_or}
use Rattle.grammar.specs.Words.{Terminal, terminal_count, nonterminal_count, rule_count, left_side, right_side, insert_cost, RuleSymbol, Shaped}
use Rattle.grammar.specs.Derivation.{All, Productive, Yields}
use Rattle.grammar.specs.Cost.{string_cost, Cheapest, SymbolCost, ListCost, CheapestRule}
use Rattle.grammar.specs.Grammar.{RuleOf}
use Rattle.grammar.specs.Theory.Leftmost.{to_der}
use Rattle.grammar.specs.Theory.Closed.{total, ClosedCost, ClosedUp, closed_cost, closed_up}
use Rattle.grammar.specs.Theory.Costing.{list_cost_unique}
use Rattle.grammar.specs.Theory.Rewriting.{Affords, affords_nothing, affords_terminal, affords_append, affords_rule}
use Rattle.grammar.specs.Theory.RightSides.{right_symbols, rule_at}
use Rattle.grammar.specs.Theory.Members.{all_map}
use Rattle.shape.specs.Inside.{right_small}
use Rattle.costs.specs.Costed.{Costed}
use Rattle.costs.specs.Held.{Held, Ruled, Stands, entry}

-- ---- Sound

symbol_affords : (ws l : List ℕ) → terminal_count ws ≤ 64 → Held ws l → (X : ℕ) → RuleSymbol (terminal_count ws) (nonterminal_count ws) X
    → entry l X ≤ 60000 → Affords (RuleOf ws) (insert_cost ws) (X ∷ []) (entry l X)
symbol_affords ws l few held X (RuleSymbol.terminal low high) small =
    affords_terminal (RuleOf ws) (insert_cost ws) (omega arith) (sym (held.terminal X high))
symbol_affords ws l few held X (RuleSymbol.nonterminal low high) small =
    let e : 64 + (X - 64) ≡ X = omega arith in
    let small' : entry l (64 + (X - 64)) ≤ 60000 = subst (λ Y. entry l Y ≤ 60000) (sym e) small in
    subst (λ Y. Affords (RuleOf ws) (insert_cost ws) (Y ∷ []) (entry l Y)) e (held.sound (X - 64) (omega arith) small')

list_affords : (ws l : List ℕ) → terminal_count ws ≤ 64 → Held ws l → (α : List ℕ)
    → All (RuleSymbol (terminal_count ws) (nonterminal_count ws)) α → total (entry l) α ≤ 60000
    → Affords (RuleOf ws) (insert_cost ws) α (total (entry l) α)
unfolding total
list_affords ws l few held [] All.nothing small = affords_nothing (RuleOf ws) (insert_cost ws)
list_affords ws l few held (X ∷ α) (All.also x a) small =
    affords_append (RuleOf ws) (insert_cost ws) (symbol_affords ws l few held X x (omega arith))
    (list_affords ws l few held α a (omega arith))

pub rule_affords : (ws l : List ℕ) → Shaped ws → Held ws l → (p : ℕ) → p < rule_count ws → total (entry l) (right_side ws p) ≤ 60000
    → Affords (RuleOf ws) (insert_cost ws) (left_side ws p ∷ []) (total (entry l) (right_side ws p))
rule_affords ws l s held p h small =
    affords_rule (RuleOf ws) (insert_cost ws) (rule_at ws p h)
    (list_affords ws l s.terminals_high held (right_side ws p) (right_symbols ws s p h) small)

-- Each symbol of a list derives some string where none of them costs 1,000,000.
symbol_some : (ws l : List ℕ) → terminal_count ws ≤ 64 → Held ws l → (X : ℕ) → RuleSymbol (terminal_count ws) (nonterminal_count ws) X
    → entry l X ≤ 60001 → (c : ℕ) × Affords (RuleOf ws) (insert_cost ws) (X ∷ []) c
symbol_some ws l few held X (RuleSymbol.terminal low high) small =
    (insert_cost ws X, affords_terminal (RuleOf ws) (insert_cost ws) (omega arith) refl)
symbol_some ws l few held X (RuleSymbol.nonterminal low high) small =
    let e : 64 + (X - 64) ≡ X = omega arith in
    let small' : entry l (64 + (X - 64)) ≤ 60001 = subst (λ Y. entry l Y ≤ 60001) (sym e) small in
    subst (λ Y. (c : ℕ) × Affords (RuleOf ws) (insert_cost ws) (Y ∷ []) c) e (held.some (X - 64) (omega arith) small')

list_some : (ws l : List ℕ) → terminal_count ws ≤ 64 → Held ws l → (α : List ℕ)
    → All (RuleSymbol (terminal_count ws) (nonterminal_count ws)) α → total (entry l) α < 1000000
    → (c : ℕ) × Affords (RuleOf ws) (insert_cost ws) α c
unfolding total
list_some ws l few held [] All.nothing small = (0, affords_nothing (RuleOf ws) (insert_cost ws))
list_some ws l few held (X ∷ α) (All.also x a) small =
    let own : entry l X ≤ 60001 = ⊎_elim (λ low. low) (λ none. absurd (omega (arith, none.2))) (held.limit X) in
    let here = symbol_some ws l few held X x own in
    let rest = list_some ws l few held α a (omega arith) in
    (here.0 + rest.0, affords_append (RuleOf ws) (insert_cost ws) here.1 rest.1)

pub rule_some : (ws l : List ℕ) → Shaped ws → Held ws l → (p : ℕ) → p < rule_count ws → total (entry l) (right_side ws p) < 1000000
    → (c : ℕ) × Affords (RuleOf ws) (insert_cost ws) (left_side ws p ∷ []) c
rule_some ws l s held p h small =
    let found = list_some ws l s.terminals_high held (right_side ws p) (right_symbols ws s p h) small in
    (found.0, affords_rule (RuleOf ws) (insert_cost ws) (rule_at ws p h) found.1)

-- ---- Least

module _ (ws l : List ℕ) (s : Shaped ws) (stands : Stands ws l) where
  held : Held ws l
  held = stands.held

  no_dearer : (t : ℕ) → Terminal t → entry l t ≤ insert_cost ws t
  no_dearer t low =
      ⊎_elim (λ h. omega (arith, held.terminal t h)) (λ h. omega (arith, held.blank t h low)) (below_or t (terminal_count ws))

  closed : ClosedCost (RuleOf ws) (entry l)
  closed p A β r =
      let settled = (stands.settles p r.counted).below in
      subst (λ X. entry l X ≤ total (entry l) β) (sym r.left)
      (subst (λ γ. entry l (left_side ws p) ≤ total (entry l) γ) (sym r.right) settled)

  least : (A : ℕ) (w : List ℕ) → Yields (RuleOf ws) (A ∷ []) w → entry l A ≤ string_cost (insert_cost ws) w
  unfolding total
  least A w y =
      omega
      (arith, closed_cost (RuleOf ws) (insert_cost ws) (entry l) no_dearer closed (to_der (RuleOf ws) y.derives) y.terminals)

  pub over : (k : ℕ) → 60000 < entry l (64 + k) → (w : List ℕ) → Yields (RuleOf ws) ((64 + k) ∷ []) w
      → 60000 < string_cost (insert_cost ws) w
  over k big w y = omega (arith, least (64 + k) w y)

  pub cheapest : (k : ℕ) → k < nonterminal_count ws → entry l (64 + k) ≤ 60000
      → Cheapest (RuleOf ws) (insert_cost ws) (64 + k) (entry l (64 + k))
  cheapest k h small =
      let found = held.sound k h small in
      record { string = found.string; yields = found.yields; costs = found.costs; least = least (64 + k) }

  -- ---- What a symbol and a right side cost

  symbol_cost : {X : ℕ} → RuleSymbol (terminal_count ws) (nonterminal_count ws) X → entry l X ≤ 60000
      → SymbolCost (RuleOf ws) (insert_cost ws) X (entry l X)
  symbol_cost {X} (RuleSymbol.terminal low high) small =
      SymbolCost.terminal (omega (arith, s.terminals_high)) (sym (held.terminal X high))
  symbol_cost {X} (RuleSymbol.nonterminal low high) small =
      let e : 64 + (X - 64) ≡ X = omega arith in
      let small' : entry l (64 + (X - 64)) ≤ 60000 = subst (λ Y. entry l Y ≤ 60000) (sym e) small in
      subst (λ Y. SymbolCost (RuleOf ws) (insert_cost ws) Y (entry l Y)) e
      (SymbolCost.nonterminal (omega arith) (cheapest (X - 64) (omega arith) small'))

  pub right_cost : {β : List ℕ} → All (RuleSymbol (terminal_count ws) (nonterminal_count ws)) β → total (entry l) β ≤ 60000
      → ListCost (RuleOf ws) (insert_cost ws) β (total (entry l) β)
  unfolding total
  right_cost All.nothing small = ListCost.nothing
  right_cost (All.also x a) small = ListCost.also (symbol_cost x (omega arith)) (right_cost a (omega arith)) refl

  -- A symbol whose cost is at most 60,000 has it in the table.
  symbol_entry : {X c : ℕ} → SymbolCost (RuleOf ws) (insert_cost ws) X c → entry l X ≤ c
  symbol_entry {X} (SymbolCost.terminal low e) = omega (arith, no_dearer X low)
  symbol_entry {X} (SymbolCost.nonterminal high c) = omega (arith, least X c.string c.yields, c.costs)

  right_entry : {β : List ℕ} {c : ℕ} → ListCost (RuleOf ws) (insert_cost ws) β c → total (entry l) β ≤ c
  unfolding total
  right_entry ListCost.nothing = omega arith
  right_entry (ListCost.also x xs e) = omega (arith, symbol_entry x, right_entry xs)

  pub right_total : {β : List ℕ} {c : ℕ} → All (RuleSymbol (terminal_count ws) (nonterminal_count ws)) β
      → ListCost (RuleOf ws) (insert_cost ws) β c → c ≤ 60000 → total (entry l) β ≡ c
  right_total a x small =
      list_cost_unique (RuleOf ws) (insert_cost ws) (right_cost a (omega (arith, right_entry x))) x

  -- ---- The cheapest rule of nonterminal k, whose cost is known

  module _ (k : ℕ) (h : k < nonterminal_count ws) (small : entry l (64 + k) ≤ 60000) where
    noted : Ruled ws l k (entry l (128 + k))
    noted = held.ruled k h small

    reaches : total (entry l) (right_side ws (entry l (128 + k))) ≡ entry l (64 + k)
    reaches =
        let settled = (stands.settles (entry l (128 + k)) noted.counted).below in
        omega (arith, noted.costs, ap (entry l) noted.left)

    no_lower : (q : ℕ) (γ : List ℕ) → RuleOf ws q (64 + k) γ → ListCost (RuleOf ws) (insert_cost ws) γ (entry l (64 + k))
        → entry l (128 + k) ≤ q
    no_lower q γ r x =
        let same = right_total (right_symbols ws s q r.counted)
        (subst (λ β. ListCost (RuleOf ws) (insert_cost ws) β (entry l (64 + k))) r.right x) small in
        let own = ap (entry l) r.left in
        let place : 64 + left_side ws q ≡ 128 + k = omega (arith, r.left) in
        let found = (stands.settles q r.counted).lowest (omega arith) (omega arith) in
        omega (arith, ap (entry l) place)

    pub rule_is : CheapestRule (RuleOf ws) (insert_cost ws) (64 + k) (entry l (64 + k)) (entry l (128 + k))
    rule_is =
        record {
          cheapest = cheapest k h small;
          right = right_side ws (entry l (128 + k));
          rule = subst (λ A. RuleOf ws (entry l (128 + k)) A (right_side ws (entry l (128 + k)))) noted.left
              (rule_at ws (entry l (128 + k)) noted.counted);
          reaches = subst (ListCost (RuleOf ws) (insert_cost ws) (right_side ws (entry l (128 + k)))) reaches
              (right_cost (right_symbols ws s (entry l (128 + k)) noted.counted) (omega (arith, reaches)));
          lowest = no_lower;
        }

  -- ---- What derives no terminal string

  -- A symbol that is no nonterminal without a cost.
  abbrev Has : ℕ → Type 0
  Has X = entry l X ≤ 60001

  total_few : {β : List ℕ} → All Has β → total (entry l) β ≤ 60001 * length β
  unfolding total
  total_few All.nothing = omega arith
  total_few (All.also x a) = omega (arith, total_few a)

  ups : ClosedUp (RuleOf ws) Has
  ups p A β r all =
      let few = right_small ws s p r.counted in
      let sum = subst (λ γ. total (entry l) γ ≤ 60001 * length γ) r.right (total_few all) in
      subst Has (sym r.left) ((stands.settles p r.counted).known (omega arith))

  pub barren : (k : ℕ) → 60001 < entry l (64 + k) → Productive (RuleOf ws) (64 + k) → ⊥
  barren k big p =
      omega (
        arith,
        big,
        first_of (closed_up (RuleOf ws) Has ups (to_der (RuleOf ws) p.yields.derives) (all_map tokens p.yields.terminals)),
      )
    where
      tokens : (t : ℕ) → Terminal t → Has t
      tokens t low = ⊎_elim (λ h. h) (λ none. absurd (omega (arith, none.0))) (held.limit t)

      first_of : {X : ℕ} {α : List ℕ} → All Has (X ∷ α) → Has X
      first_of (All.also h a) = h

-- ---- All of it

pub stands_costed : (ws l : List ℕ) → Shaped ws → Stands ws l → Costed ws l
stands_costed ws l s stands =
    let held = stands.held in
    record {
      size = held.size;
      terminal = held.terminal;
      exact = rule_is ws l s stands;
      over = λ k h big. over ws l s stands k big;
      no_rule = held.no_rule;
      productive = λ k h small.
          let found = (held.some k h small).1 in record { string = found.string; yields = found.yields };
      barren = λ k h big. barren ws l s stands k big;
      limit = held.limit;
      blank = held.blank;
      beyond = held.beyond;
      no_name = held.no_name;
    }
