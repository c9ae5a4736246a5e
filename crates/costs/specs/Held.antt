-- Costs that fall: what the table holds at first and on the way, and when no rule lowers it any more.
use Rattle.std.specs.Prelude.{ℕ, ◌+◌, ◌≤◌, ◌<◌, ◌≡◌, ◌⊎◌, List, [], ◌∷◌, length, get_or}
use Rattle.std.proofs.Common.{⊎_elim, arith}
use Rattle.grammar.specs.Words.{terminal_count, nonterminal_count, rule_count, left_side, right_side, insert_cost}
use Rattle.grammar.specs.Grammar.{RuleOf}
use Rattle.grammar.specs.Theory.Rewriting.{Affords}
use Rattle.grammar.specs.Theory.Closed.{total}
use Rattle.grammar.specs.Theory.Pigeonhole.{range}

-- The entry at X: the cost of symbol X, or from 128 on a rule.
abbrev pub entry : List ℕ → ℕ → ℕ
entry l X = get_or l X 0

-- The size of the table, and a limit of its entries.
pub record Limited (l : List ℕ) : Type 0 where
  pub size : length l ≡ 192
  pub limit : (X : ℕ) → entry l X ≤ 1000000

-- The terminals have their costs, and nothing else stands there.
pub record Begun (ws l : List ℕ) : Type 0 where
  pub size : length l ≡ 192
  pub terminal : (t : ℕ) → t < terminal_count ws → entry l t ≡ insert_cost ws t
  pub beyond : (X : ℕ) → terminal_count ws ≤ X → entry l X ≡ 0

-- Nonterminal k has rule p, whose right side costs no more than k does.
pub record Ruled (ws l : List ℕ) (k p : ℕ) : Type 0 where
  pub counted : p < rule_count ws
  pub left : left_side ws p ≡ 64 + k
  pub costs : total (entry l) (right_side ws p) ≤ entry l (64 + k)

-- On the way: a cost of at most 60,000 is that of some terminal string, perhaps not of the cheapest, and has a rule; with one of 60,001
-- there is some string; a cost above 60,000 has no rule.
pub record Held (ws l : List ℕ) : Type 0 where
  pub size : length l ≡ 192
  pub terminal : (t : ℕ) → t < terminal_count ws → entry l t ≡ insert_cost ws t
  pub sound : (k : ℕ) → k < nonterminal_count ws → entry l (64 + k) ≤ 60000
      → Affords (RuleOf ws) (insert_cost ws) ((64 + k) ∷ []) (entry l (64 + k))
  pub some : (k : ℕ) → k < nonterminal_count ws → entry l (64 + k) ≤ 60001
      → (c : ℕ) × Affords (RuleOf ws) (insert_cost ws) ((64 + k) ∷ []) c
  pub ruled : (k : ℕ) → k < nonterminal_count ws → entry l (64 + k) ≤ 60000 → Ruled ws l k (entry l (128 + k))
  pub no_rule : (k : ℕ) → k < nonterminal_count ws → 60000 < entry l (64 + k) → entry l (128 + k) ≡ 0
  pub limit : (X : ℕ) → (entry l X ≤ 60001) ⊎ ((64 ≤ X) × (X < 128) × (entry l X ≡ 1000000))
  pub blank : (t : ℕ) → terminal_count ws ≤ t → t < 64 → entry l t ≡ 0
  pub beyond : (X : ℕ) → 64 + nonterminal_count ws ≤ X → X < 128 → entry l X ≡ 0
  pub no_name : (X : ℕ) → 128 + nonterminal_count ws ≤ X → entry l X ≡ 0

pub held_limited : {ws l : List ℕ} → Held ws l → Limited l
held_limited h =
    record { size = h.size; limit = λ X. ⊎_elim (λ low. omega arith) (λ none. omega (arith, none.2)) (h.limit X) }

-- At first no nonterminal has a cost.
pub record Fresh (ws l : List ℕ) : Type 0 where
  pub held : Held ws l
  pub unknown : (k : ℕ) → k < nonterminal_count ws → entry l (64 + k) ≡ 1000000

-- The left side of rule p costs no more than its right side, has a cost where that has one, and where they cost the same it has a rule that
-- is no higher than p.
pub record SettledAt (ws : List ℕ) (p : ℕ) (l : List ℕ) : Type 0 where
  pub below : entry l (left_side ws p) ≤ total (entry l) (right_side ws p)
  pub known : total (entry l) (right_side ws p) < 1000000 → entry l (left_side ws p) ≤ 60001
  pub lowest : total (entry l) (right_side ws p) ≡ entry l (left_side ws p) → entry l (left_side ws p) ≤ 60000
      → entry l (64 + left_side ws p) ≤ p

-- No rule changes it any more.
pub record Stands (ws l : List ℕ) : Type 0 where
  pub held : Held ws l
  pub settles : (p : ℕ) → p < rule_count ws → SettledAt ws p l

-- The costs of the nonterminals together, which fall.
abbrev pub cost_sum : List ℕ → ℕ
cost_sum l = total (entry l) (range 64 64)
