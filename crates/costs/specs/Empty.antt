-- What costs nothing can be empty: every terminal of a right side costs at least 1.
--     empty_is, empty_costs   by the table
--     mask_begins, mask_free, mask_paid, mask_ends   the mask, nonterminal by nonterminal
use Rattle.std.specs.Prelude.{ℕ, ◌+◌, ◌≤◌, ◌<◌, ◌≡◌, true, ◌↔◌, get_or}
use Rattle.std.proofs.Math.Path.{refl}
use Rattle.std.proofs.Common.{sym, subst, arith}
use mathlib.Core.List.{List, [], ◌∷◌}
use Rattle.std.proofs.Math.Logic.{⊎_elim}
use Rattle.base.specs.Choices.{below_or, below_or_at}
use Rattle.grammar.specs.Words.{Terminal, terminal_count, nonterminal_count, insert_cost, RuleSymbol, Shaped}
use Rattle.grammar.specs.Derivation.{All, CanBeEmpty, Derives, Yields}
use Rattle.grammar.specs.Cost.{string_cost}
use Rattle.grammar.specs.Grammar.{RuleOf}
use Rattle.grammar.specs.Theory.Closed.{closed_down}
use Rattle.grammar.specs.Theory.Leftmost.{to_der}
use Rattle.grammar.specs.Theory.Masks.{NullMask}
use Rattle.grammar.specs.Theory.RightSides.{right_symbols}
use Rattle.sets.specs.Bits.{member}
use Rattle.sets.specs.Operations.{with}
use Rattle.sets.specs.Laws.{empty_none, with_same, with_keeps, with_cases}
use Rattle.costs.specs.Costed.{Costed}

module _ {ws l : List ℕ} (s : Shaped ws) (c : Costed ws l) where
  -- ---- By derivations

  paid : {t : ℕ} → Terminal t → RuleSymbol (terminal_count ws) (nonterminal_count ws) t → 1 ≤ insert_cost ws t
  paid low (RuleSymbol.terminal some high) = (s.terminals _ some high).cost_low
  paid low (RuleSymbol.nonterminal high below) = absurd (omega arith)

  no_tokens : (w : List ℕ) → All Terminal w → All (RuleSymbol (terminal_count ws) (nonterminal_count ws)) w
      → string_cost (insert_cost ws) w ≡ 0 → w ≡ []
  unfolding string_cost
  no_tokens [] a b e = refl
  no_tokens (t ∷ w) (All.also h a) (All.also k b) e = absurd (omega (arith, paid h k))

  -- What a nonterminal derives is made of symbols.
  symbols : {k : ℕ} {w : List ℕ} → k < nonterminal_count ws → Yields (RuleOf ws) ((64 + k) ∷ []) w
      → All (RuleSymbol (terminal_count ws) (nonterminal_count ws)) w
  symbols {k} h y =
      closed_down (RuleOf ws) (RuleSymbol (terminal_count ws) (nonterminal_count ws))
      (λ p A β r _. subst (All (RuleSymbol (terminal_count ws) (nonterminal_count ws))) (sym r.right) (right_symbols ws s p r.counted))
      (to_der (RuleOf ws) y.derives) (All.also (RuleSymbol.nonterminal (omega arith) (omega arith)) All.nothing)

  pub empty_is : (k : ℕ) → k < nonterminal_count ws → get_or l (64 + k) 0 ≡ 0 → CanBeEmpty (RuleOf ws) ((64 + k) ∷ [])
  empty_is k h e =
      let best = (c.exact k h (omega arith)).cheapest in
      let none = no_tokens best.string best.yields.terminals (symbols h best.yields) (omega (arith, best.costs)) in
      subst (Derives (RuleOf ws) ((64 + k) ∷ [])) none best.yields.derives

  pub empty_costs : (k : ℕ) → k < nonterminal_count ws → CanBeEmpty (RuleOf ws) ((64 + k) ∷ []) → get_or l (64 + k) 0 ≡ 0
  unfolding string_cost
  empty_costs k h d =
      let y : Yields (RuleOf ws) ((64 + k) ∷ []) [] = record { terminals = All.nothing; derives = d } in
      ⊎_elim (λ known. omega (arith, (c.exact k h (omega arith)).cheapest.least [] y)) (λ over. absurd (omega (arith, c.over k h over [] y)))
      (below_or (get_or l (64 + k) 0) 60001)

-- ---- The mask

-- The nonterminals before k that can be empty.
pub record Emptied (ws : List ℕ) (k mask : ℕ) : Type 0 where
  pub exact : (j : ℕ) → (member mask j ≡ true) ↔ ((j < k) × CanBeEmpty (RuleOf ws) ((64 + j) ∷ []))

pub mask_begins : (ws : List ℕ) → Emptied ws 0 0
mask_begins ws = record { exact = λ j. (λ m. absurd (empty_none j m), λ u. absurd (omega (arith, u.0))) }

module _ {ws l : List ℕ} {k mask : ℕ} (s : Shaped ws) (c : Costed ws l) (h : k < nonterminal_count ws) (f : Emptied ws k mask) where
  -- A nonterminal that costs nothing is added,
  pub mask_free : get_or l (64 + k) 0 ≡ 0 → Emptied ws (k + 1) (with mask k)
  mask_free e =
      record {
        exact = λ j. (
          λ m.
              ⊎_elim (λ q. (omega arith, subst (λ n. CanBeEmpty (RuleOf ws) ((64 + n) ∷ [])) q (empty_is s c k h e)))
              (λ was. let u = (f.exact j).0 was in (omega (arith, u.0), u.1))
              (with_cases mask k j m),
          λ u.
              (⊎_elim (λ before. with_keeps mask k j ((f.exact j).1 (before, u.1)))
              (λ q. subst (λ n. member (with mask k) n ≡ true) (sym q) (with_same mask k)) (below_or_at j k u.0)),
        );
      }

  -- and no other.
  pub mask_paid : 0 < get_or l (64 + k) 0 → Emptied ws (k + 1) mask
  mask_paid some =
      record {
        exact = λ j. (
          λ m. let u = (f.exact j).0 m in (omega (arith, u.0), u.1),
          λ u.
              (⊎_elim (λ before. (f.exact j).1 (before, u.1))
              (λ q.
              absurd (omega (arith, empty_costs s c k h (subst (λ n. CanBeEmpty (RuleOf ws) ((64 + n) ∷ [])) q u.1))))
              (below_or_at j k u.0)),
        );
      }

pub mask_ends : {ws : List ℕ} {k mask : ℕ} → Emptied ws k mask → k ≡ nonterminal_count ws
    → NullMask (RuleOf ws) (nonterminal_count ws) mask
mask_ends f e k h = (λ m. ((f.exact k).0 m).1, λ d. (f.exact k).1 (omega arith, d))
