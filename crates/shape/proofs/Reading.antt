-- What stands where, if the words have the shape: the header, the words of a terminal, the words of rule p.
use Prim.Native.Nat.{ℕ, zero, suc, ◌+◌, ◌-◌, ◌*◌, ◌≤◌, ◌<◌}
use mathlib.Core.Path.{◌≡◌, refl, sym, ap, ap₂, ◌∙◌, subst}
use mathlib.Core.List.{List}
use native.Mathlib.Omega.{arith}
use Rattle.std.proofs.Common.{length-take, length-drop, get_or-take, get_or-drop}
use lib.ListN.{length, get_or, take, drop}
use Rattle.grammar.specs.Words.{
  word,
  header_size,
  terminal_count,
  nonterminal_count,
  rule_count,
  opening,
  closing,
  tick_unit,
  insert_cost,
  reliability,
  rule_place,
  left_side,
  right_side,
  right_size,
  RuleSymbol,
  Shaped,
}
use Rattle.grammar.proofs.Theory.Headers.{size_least}
use Rattle.grammar.specs.Theory.RightSides.{right_at}
use Rattle.shape.specs.Accessors.{LeftOf, RightOf, TerminalsOf, header_words}
use Rattle.shape.specs.Inside.{header_inside, left_ranged, right_length, right_small, symbol_small}

-- The least list with the shape has a rule without symbols behind END's words.
pub front_inside : (ws : List ℕ) → Shaped ws → 10 ≤ length ws
front_inside ws s = omega (arith, header_inside ws s, size_least ws, s.terminals_low)

-- The words of the header stand at the front,
pub header_at : (ws : List ℕ) (i : ℕ) → i < 6 → word ws i ≡ get_or (header_words ws) i 0
unfolding nonterminal_count rule_count opening closing tick_unit
header_at ws zero l = refl
header_at ws (suc zero) l = refl
header_at ws (suc (suc zero)) l = refl
header_at ws (suc (suc (suc zero))) l = refl
header_at ws (suc (suc (suc (suc zero)))) l = refl
header_at ws (suc (suc (suc (suc (suc zero))))) l = refl
header_at ws (suc (suc (suc (suc (suc (suc i)))))) l = absurd (omega arith)

module _ (ws : List ℕ) (s : Shaped ws) (p : ℕ) (h : p < rule_count ws) (w : ℕ) where
  pub left_at : w ≡ word ws (rule_place ws p + 0) → LeftOf ws p w
  unfolding left_side
  left_at read =
      let place : rule_place ws p + 0 ≡ rule_place ws p = omega arith in
      let names : left_side ws p ≡ 64 + w = ap (λ k. 64 + k) (sym (read ∙ ap (word ws) place)) in
      let below : w < nonterminal_count ws = omega (arith, (left_ranged ws s p h).1) in
      record { names = names; below = below; small = omega (arith, s.nonterminals_high) }

module _ (ws : List ℕ) (s : Shaped ws) (p : ℕ) (h : p < rule_count ws) where
  pub right_there : (xs : List ℕ) → xs ≡ right_side ws p → RightOf ws p xs
  right_there xs e =
      let ranged = λ (i : ℕ) (l : i < length xs).
      let inside : i < right_size ws p = omega (arith, right_length ws s p h, ap length e) in
      subst (RuleSymbol (terminal_count ws) (nonterminal_count ws)) (sym (ap (λ ys. get_or ys i 0) e ∙ right_at ws p i inside))
      ((s.rules p h).symbols i inside) in
      record {
        is = e;
        short = omega (arith, right_small ws s p h, ap length e);
        ranged = ranged;
        small = λ i l. symbol_small s.terminals_high s.nonterminals_high (ranged i l);
      }

-- The part of the words that is a right side, by its place and its size as they were read.
pub right_part : (ws : List ℕ) (p : ℕ) {a n : ℕ} → a ≡ rule_place ws p → n ≡ word ws (a + 2 - 1)
    → take (a + 2 + n - (a + 2)) (drop (a + 2) ws) ≡ right_side ws p
unfolding right_side right_size
right_part ws p {a} {n} e f =
    let before : a + 2 - 1 ≡ rule_place ws p + 1 = omega (arith, e) in
    let size : a + 2 + n - (a + 2) ≡ word ws (rule_place ws p + 1) = omega (arith, f, ap (word ws) before) in
    ap₂ (λ k l. take k (drop l ws)) size (ap (λ k. k + 2) e)

-- The size of that part, by the word before it.
pub size_word : (ws : List ℕ) (p : ℕ) {a : ℕ} → a ≡ rule_place ws p → word ws (a + 2 - 1) ≡ right_size ws p
unfolding right_size
size_word ws p {a} e = let before : a + 2 - 1 ≡ rule_place ws p + 1 = omega (arith, e) in ap (word ws) before

-- The part of the words that is the terminals' words, by its place and their number as they were read.
module _ (ws : List ℕ) (s : Shaped ws) {a t : ℕ} (e : a ≡ header_size ws) (f : t ≡ terminal_count ws) where
  pub terminals_end : a + 2 * t ≤ length ws
  terminals_end = omega (arith, header_inside ws s, e, f)

  pub terminals_there : TerminalsOf ws (take (a + 2 * t - a) (drop a ws))
  unfolding insert_cost reliability
  terminals_there =
      let room : a + 2 * t - a ≡ 2 * t = omega arith in
      let at = λ (k : ℕ) (l : k < 2 * t). get_or-take (a + 2 * t - a) (drop a ws) k 0 (omega arith) ∙ get_or-drop a ws k 0 in
      record {
        is = ap₂ (λ k l. take k (drop l ws)) (room ∙ ap (λ k. 2 * k) f) e;
        size = omega (arith, length-take (a + 2 * t - a) (drop a ws), length-drop a ws, terminals_end, f);
        cost = λ k l. at (2 * k) (omega (arith, f)) ∙ ap (λ h. get_or ws (h + 2 * k) 0) e;
        reliability = λ k l.
            let next : a + (2 * k + 1) ≡ header_size ws + 2 * k + 1 = omega (arith, e) in
            at (2 * k + 1) (omega (arith, f)) ∙ ap (λ h. get_or ws h 0) next;
      }
