-- Where the words of a grammar that has the shape lie: all inside the list; and what its sides are. No caller needs the layout.
--     place_before, place_inside    each rule begins where the one before it ends, and ends inside the list
--     header_inside                 so do the header and the terminals' words
--     places_small                  no rule begins behind word 135 + 10 * p
--     words_small                   a list that has the shape has at most 2,695 words
--     left_ranged                   a left side is one of the N nonterminals
--     right_length, right_small     a right side's length
--     symbol_small                  a rule's symbol is below 128
use Rattle.std.specs.Prelude.{ℕ, zero, suc, ◌+◌, ◌*◌, ◌≤◌, ◌<◌, ◌≡◌, refl, List, length, drop}
use Rattle.std.proofs.Common.{arith, le_refl, length-take, length-drop}
use Rattle.std.proofs.Math.Decide.{le_ind}
use Rattle.grammar.proofs.Theory.Headers.{size_most}
use Rattle.grammar.specs.Words.{
  header_size,
  terminal_count,
  nonterminal_count,
  rule_count,
  rule_place,
  left_side,
  right_side,
  right_size,
  RuleSymbol,
  Shaped,
}

place_before : (ws : List ℕ) (p q : ℕ) → p ≤ q → rule_place ws p ≤ rule_place ws q
unfolding rule_place
place_before ws p q before =
    le_ind (λ (k : ℕ). rule_place ws p ≤ rule_place ws k) (le_refl (rule_place ws p)) (λ k _ up. omega arith) q before

pub place_next : (ws : List ℕ) (p : ℕ) → rule_place ws (suc p) ≡ rule_place ws p + 2 + right_size ws p
unfolding rule_place right_size
place_next ws p = refl

pub place_first : (ws : List ℕ) → rule_place ws 0 ≡ header_size ws + 2 * terminal_count ws
unfolding rule_place
place_first ws = refl

pub place_inside : (ws : List ℕ) → Shaped ws → (p : ℕ) → p < rule_count ws → rule_place ws p + 2 + right_size ws p ≤ length ws
place_inside ws s p h = omega (arith, place_before ws (suc p) (rule_count ws) h, place_next ws p, s.whole)

pub header_inside : (ws : List ℕ) → Shaped ws → header_size ws + 2 * terminal_count ws + 2 ≤ length ws
header_inside ws s = omega (arith, place_first ws, place_inside ws s 0 s.rules_low)

pub places_small : (ws : List ℕ) → terminal_count ws ≤ 64 → (p : ℕ) → ((q : ℕ) → q < p → right_size ws q ≤ 8)
    → rule_place ws p ≤ 135 + 10 * p
places_small ws few zero small = omega (arith, place_first ws, size_most ws)
places_small ws few (suc p) small =
    omega (arith, place_next ws p, small p (le_refl (suc p)), places_small ws few p (λ q h. small q (omega arith)))

-- "The longest word list is now 2,695."
pub words_small : (ws : List ℕ) → Shaped ws → length ws ≤ 2695
words_small ws s =
    omega
    (arith, places_small ws s.terminals_high (rule_count ws) (λ q l. (s.rules q l).size), s.whole, s.rules_high)

-- ---- Left and right sides

pub left_ranged : (ws : List ℕ) → Shaped ws → (p : ℕ) → p < rule_count ws
    → (64 ≤ left_side ws p) × (left_side ws p < 64 + nonterminal_count ws)
unfolding left_side
left_ranged ws s p h = (omega arith, omega (arith, (s.rules p h).left))

pub right_length : (ws : List ℕ) → Shaped ws → (p : ℕ) → p < rule_count ws → length (right_side ws p) ≡ right_size ws p
unfolding right_side
right_length ws s p h =
    omega
    (arith, length-take (right_size ws p) (drop (rule_place ws p + 2) ws), length-drop (rule_place ws p + 2) ws, place_inside ws s p h)

pub right_small : (ws : List ℕ) → Shaped ws → (p : ℕ) → p < rule_count ws → length (right_side ws p) ≤ 8
right_small ws s p h = omega (arith, right_length ws s p h, (s.rules p h).size)

-- ---- Symbols

pub symbol_small : {T N X : ℕ} → T ≤ 64 → N ≤ 64 → RuleSymbol T N X → X < 128
symbol_small t n (RuleSymbol.terminal a b) = omega arith
symbol_small t n (RuleSymbol.nonterminal a b) = omega arith
