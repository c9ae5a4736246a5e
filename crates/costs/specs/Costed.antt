-- What the table of costs and cheapest rules holds.
use Rattle.std.specs.Prelude.{ℕ, ◌+◌, ◌≤◌, ◌<◌, ◌≡◌, List, [], ◌∷◌, ◌⊎◌, length, get_or}
use Rattle.grammar.specs.Words.{terminal_count, nonterminal_count, insert_cost}
use Rattle.grammar.specs.Derivation.{Productive, Yields}
use Rattle.grammar.specs.Cost.{string_cost, CheapestRule}
use Rattle.grammar.specs.Grammar.{RuleOf}

-- 192 entries: of each terminal its insert cost; of each nonterminal its cost and, 64 entries on, its cheapest rule, or 60,001 and 0 where
-- every terminal string that it derives costs more than 60,000, or 1,000,000 and 0 where it derives none; 0 for what is no symbol.
pub record Costed (ws l : List ℕ) : Type 0 where
  pub size : length l ≡ 192
  pub terminal : (t : ℕ) → t < terminal_count ws → get_or l t 0 ≡ insert_cost ws t
  pub exact : (k : ℕ) → k < nonterminal_count ws → get_or l (64 + k) 0 ≤ 60000
      → CheapestRule (RuleOf ws) (insert_cost ws) (64 + k) (get_or l (64 + k) 0) (get_or l (128 + k) 0)
  pub over : (k : ℕ) → k < nonterminal_count ws → 60000 < get_or l (64 + k) 0 → (w : List ℕ)
      → Yields (RuleOf ws) ((64 + k) ∷ []) w → 60000 < string_cost (insert_cost ws) w
  pub no_rule : (k : ℕ) → k < nonterminal_count ws → 60000 < get_or l (64 + k) 0 → get_or l (128 + k) 0 ≡ 0
  pub productive : (k : ℕ) → k < nonterminal_count ws → get_or l (64 + k) 0 ≤ 60001 → Productive (RuleOf ws) (64 + k)
  pub barren : (k : ℕ) → k < nonterminal_count ws → 60001 < get_or l (64 + k) 0 → Productive (RuleOf ws) (64 + k) → ⊥
  pub limit : (X : ℕ) → (get_or l X 0 ≤ 60001) ⊎ ((64 ≤ X) × (X < 128) × (get_or l X 0 ≡ 1000000))
  pub blank : (t : ℕ) → terminal_count ws ≤ t → t < 64 → get_or l t 0 ≡ 0
  pub beyond : (X : ℕ) → 64 + nonterminal_count ws ≤ X → X < 128 → get_or l X 0 ≡ 0
  pub no_name : (X : ℕ) → 128 + nonterminal_count ws ≤ X → get_or l X 0 ≡ 0
