-- The rules of words that have the shape: each has its number, its left side is a nonterminal, and the symbols of its right
-- side are in range.
use Rattle.std.specs.Prelude.{ℕ, ◌+◌, ◌≤◌, ◌<◌, ◌≡◌, refl, List, get_or, drop}
use Rattle.std.proofs.Common.{sym, ◌∙◌, subst, arith, length-take, get_or-take, get_or-drop}
use Rattle.grammar.specs.Words.{word, terminal_count, nonterminal_count, rule_count, left_side, right_side, right_size, rule_place}
use Rattle.grammar.specs.Words.{RuleSymbol, Shaped}
use Rattle.grammar.specs.Derivation.{All}
use Rattle.grammar.specs.Grammar.{RuleOf}
use Rattle.grammar.specs.Theory.Members.{all_index}

-- The rule with the number p.
pub rule_at : (ws : List ℕ) (p : ℕ) → p < rule_count ws → RuleOf ws p (left_side ws p) (right_side ws p)
rule_at ws p h = record { counted = h; left = refl; right = refl }

-- A left side is no terminal.
pub rule_left : (ws : List ℕ) (p A : ℕ) (β : List ℕ) → RuleOf ws p A β → 64 ≤ A
unfolding left_side
rule_left ws p A β r = omega (arith, r.left)

-- Symbol i of a right side, by the words.
pub right_at : (ws : List ℕ) (p i : ℕ) → i < right_size ws p → get_or (right_side ws p) i 0 ≡ word ws (rule_place ws p + 2 + i)
unfolding right_side
right_at ws p i l = get_or-take (right_size ws p) (drop (rule_place ws p + 2) ws) i 0 l ∙ get_or-drop (rule_place ws p + 2) ws i 0

pub right_symbols : (ws : List ℕ) → Shaped ws → (p : ℕ) → p < rule_count ws
    → All (RuleSymbol (terminal_count ws) (nonterminal_count ws)) (right_side ws p)
unfolding right_side
right_symbols ws s p h =
    all_index (right_side ws p)
    (λ i l.
    let k : i < right_size ws p = omega (arith, length-take (right_size ws p) (drop (rule_place ws p + 2) ws)) in
    subst (RuleSymbol (terminal_count ws) (nonterminal_count ws)) (sym (right_at ws p i k)) ((s.rules p h).symbols i k))
