-- What the accessors of a grammar that has the shape give, each with the bounds that a caller needs.
use Rattle.std.specs.Prelude.{ℕ, ◌+◌, ◌*◌, ◌≤◌, ◌<◌, ◌≡◌, List, [], ◌∷◌, length, get_or, take, drop}
use Rattle.std.proofs.Common.{arith}
use Rattle.grammar.specs.Words.{word, header_size, terminal_count, nonterminal_count, rule_count, opening, closing, tick_unit, insert_cost, reliability, left_side, right_side, RuleSymbol}

-- The words that both headers have, by what they say. Word 0 tells T and which header it is.
abbrev pub header_words : List ℕ → List ℕ
header_words ws = word ws 0 ∷ nonterminal_count ws ∷ rule_count ws ∷ opening ws ∷ closing ws ∷ tick_unit ws ∷ []

-- The left side of rule p is nonterminal k, which is symbol 64 + k.
pub record LeftOf (ws : List ℕ) (p k : ℕ) : Type 0 where
  pub names : left_side ws p ≡ 64 + k
  pub below : k < nonterminal_count ws
  pub small : k < 64

pub left_of_unique : {ws : List ℕ} {p k j : ℕ} → LeftOf ws p k → LeftOf ws p j → k ≡ j
left_of_unique a b = omega (arith, a.names, b.names)

-- These are the two words of each terminal.
pub record TerminalsOf (ws xs : List ℕ) : Type 0 where
  pub is : xs ≡ take (2 * terminal_count ws) (drop (header_size ws) ws)
  pub size : length xs ≡ 2 * terminal_count ws
  pub cost : (t : ℕ) → t < terminal_count ws → get_or xs (2 * t) 0 ≡ insert_cost ws t
  pub reliability : (t : ℕ) → t < terminal_count ws → get_or xs (2 * t + 1) 0 ≡ reliability ws t

-- These are the symbols of the right side of rule p.
pub record RightOf (ws : List ℕ) (p : ℕ) (xs : List ℕ) : Type 0 where
  pub is : xs ≡ right_side ws p
  pub short : length xs ≤ 8
  pub ranged : (i : ℕ) → i < length xs → RuleSymbol (terminal_count ws) (nonterminal_count ws) (get_or xs i 0)
  pub small : (i : ℕ) → i < length xs → get_or xs i 0 < 128
