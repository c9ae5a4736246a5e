-- What the walks over right sides ask.
use Rattle.grammar.specs.Grammar.{RuleOf}
use Rattle.std.specs.Prelude.{ℕ, ◌<◌, ◌≡◌, List, length, get_or}
use Rattle.grammar.specs.Theory.Masks.{FirstMask, NullMask}
use Rattle.grammar.specs.Words.{rule_count, right_side, nonterminal_count, Shaped}

-- Words that have the shape, the mask of nonterminals that can be empty, and a table of 64 sets.
pub record Asked (ws : List ℕ) (null : ℕ) (table : List ℕ) : Type 0 where
  pub shaped : Shaped ws
  pub nulls : NullMask (RuleOf ws) (nonterminal_count ws) null
  pub size : length table ≡ 64

-- The table holds FIRST of each right side.
pub record RuleFirstsOf (ws table : List ℕ) : Type 0 where
  pub first : (p : ℕ) → p < rule_count ws → FirstMask (RuleOf ws) (right_side ws p) (get_or table p 0)
