-- The costs of accepted words, and the limits that the reliabilities set.
--     afford_all, afford_none    the table tells whether no nonterminal costs more than 60,000
--     priced, price_limit        what the table of costs says of each symbol
--     limits-*                   the limits, terminal by terminal
use Rattle.std.specs.Prelude.{ℕ, zero, suc, ◌+◌, ◌-◌, ◌≤◌, ◌<◌, ◌≡◌, refl, List, ◌↔◌, length, get_or, set}
use Rattle.std.proofs.Common.{sym, ◌∙◌, subst, ⊎_elim, arith, length-set}
use Rattle.base.specs.Choices.{below_or}
use Rattle.grammar.specs.Words.{terminal_count, nonterminal_count, insert_cost, reliability, Shaped}
use Rattle.grammar.specs.Derivation.{Productive}
use Rattle.grammar.specs.Cost.{SymbolCost, Cheapest, CheapestRule}
use Rattle.grammar.specs.Grammar.{RuleOf, Affordable, Reliable, EachNonterminal}
use Rattle.grammar.specs.Theory.Tables.{Inner}
use Rattle.grammar.specs.declared.Refusal.{Refusal}
use Rattle.grammar.specs.declared.Refusal.TheVariants.{NoString, TooCostly}
use Rattle.costs.specs.Costed.{Costed}
use Rattle.verdict.specs.Parts.{each_entry}

-- ---- Refusals 7 and 8

-- No nonterminal's entry is over the limit.
abbrev pub Within : List ℕ → ℕ → List ℕ → Type 0
Within ws limit l = (k : ℕ) → k < nonterminal_count ws → get_or l (64 + k) 0 ≤ limit

abbrev pub Limited : List ℕ → List ℕ → Type 0
Limited ws l = Within ws 60000 l

-- The refusal where a nonterminal costs more than 60,000.
pub data Dear (ws l : List ℕ) (r : Refusal) : Type 0 where
  string : Within ws 60001 l → r ≡ TooCostly → Dear ws l r
  none : (Within ws 60001 l → ⊥) → r ≡ NoString → Dear ws l r

pub productive_all : {ws l : List ℕ} → Costed ws l → Within ws 60001 l → EachNonterminal ws (Productive (RuleOf ws))
productive_all c f k h = c.productive k h (f k h)

pub productive_none : {ws l : List ℕ} → Costed ws l → EachNonterminal ws (Productive (RuleOf ws)) → Within ws 60001 l
productive_none {l = l} c f k h =
    ⊎_elim (λ over. absurd (c.barren k h over (f k h))) (λ most. most) (below_or 60001 (get_or l (64 + k) 0))

pub afford_all : {ws l : List ℕ} → Costed ws l → Limited ws l → EachNonterminal ws (Affordable (RuleOf ws) (insert_cost ws))
afford_all {l = l} c f k h = record { cost = get_or l (64 + k) 0; cheapest = (c.exact k h (f k h)).cheapest; limit = f k h }

pub afford_none : {ws l : List ℕ} → Costed ws l → EachNonterminal ws (Affordable (RuleOf ws) (insert_cost ws)) → Limited ws l
afford_none {ws} {l} c f k h =
    let a = f k h in
    ⊎_elim
    (λ over. absurd (omega (arith, a.cheapest.costs, a.limit, c.over k h over a.cheapest.string a.cheapest.yields)))
    (λ most. most)
    (below_or 60000 (get_or l (64 + k) 0))

-- ---- The cost of each symbol

module _ {ws l : List ℕ} (s : Shaped ws) (c : Costed ws l) (f : Limited ws l) where
  pub priced : (X : ℕ) → Inner (terminal_count ws) (nonterminal_count ws) X → SymbolCost (RuleOf ws) (insert_cost ws) X (get_or l X 0)
  priced X (Inner.terminal h) = SymbolCost.terminal (omega (arith, s.terminals_high)) (sym (c.terminal X h))
  priced X (Inner.nonterminal low high) =
      let k = X - 64 in
      let e : 64 + k ≡ X = omega arith in
      let below : k < nonterminal_count ws = omega arith in
      SymbolCost.nonterminal low
      (subst (λ Y. Cheapest (RuleOf ws) (insert_cost ws) Y (get_or l Y 0)) e (c.exact k below (f k below)).cheapest)

  -- The cheapest rule stands 64 entries behind the cost.
  pub ruled : (A : ℕ) → 64 ≤ A → A < 64 + nonterminal_count ws
      → CheapestRule (RuleOf ws) (insert_cost ws) A (get_or l A 0) (get_or l (64 + A) 0)
  ruled A low high =
      let e : 64 + (A - 64) ≡ A = omega arith in
      let at : 128 + (A - 64) ≡ 64 + A = omega arith in
      subst (λ B. CheapestRule (RuleOf ws) (insert_cost ws) B (get_or l B 0) (get_or l (64 + A) 0)) e
      (subst (λ i. CheapestRule (RuleOf ws) (insert_cost ws) (64 + (A - 64)) (get_or l (64 + (A - 64)) 0) (get_or l i 0)) at
      (c.exact (A - 64) (omega arith) (f (A - 64) (omega arith))))

  terminal_limit : (t : ℕ) → t < terminal_count ws → insert_cost ws t ≤ 60000
  terminal_limit zero h = omega (arith, s.end_cost)
  terminal_limit (suc t) h = omega (arith, (s.terminals (suc t) (omega arith) h).cost_high)

  pub price_limit : (X : ℕ) → Inner (terminal_count ws) (nonterminal_count ws) X → get_or l X 0 ≤ 60000
  price_limit X (Inner.terminal h) = omega (arith, c.terminal X h, terminal_limit X h)
  price_limit X (Inner.nonterminal low high) =
      let e : 64 + (X - 64) ≡ X = omega arith in subst (λ Y. get_or l Y 0 ≤ 60000) e (f (X - 64) (omega arith))

-- ---- The limit of each terminal

-- A cost of a stack is below v exactly where it is below the reliability of t.
abbrev pub LimitOf : List ℕ → ℕ → ℕ → Type 0
LimitOf ws t v = (c : ℕ) → c < 4294967295 → (c < v) ↔ Reliable ws c t

-- The limits of END and of the terminals before t.
pub record Limits (ws : List ℕ) (t : ℕ) (l : List ℕ) : Type 0 where
  pub some : 0 < t
  pub size : length l ≡ 64
  pub limit : (x : ℕ) → x < t → LimitOf ws x (get_or l x 0)

pub limits_begin : {ws : List ℕ} (l : List ℕ) → length l ≡ 64 → Limits ws 1 (set l 0 4294967295)
limits_begin {ws} l e =
    record {
      some = omega arith;
      size = length-set l 0 4294967295 ∙ e;
      limit = each_entry (λ x v. x < 1 → LimitOf ws x v) l 0 4294967295 (omega arith)
          (λ _ c h. (λ _. Reliable.unlimited refl, λ _. h)) (λ x n h. absurd (n (omega arith)));
    }

pub limits_go : {ws l : List ℕ} {t v : ℕ} → Limits ws t l → t < 64 → v ≡ reliability ws t → Limits ws (t + 1) (set l t v)
limits_go {ws} {l} {t} {v} f h e =
    record {
      some = omega arith;
      size = length-set l t v ∙ f.size;
      limit = each_entry (λ x v. x < t + 1 → LimitOf ws x v) l t v (omega (arith, f.size))
          (λ _ c b. (λ below. Reliable.limited (omega arith), back c)) (λ x n b. f.limit x (omega arith));
    }
  where
    back : (c : ℕ) → Reliable ws c t → c < v
    back c (Reliable.unlimited is) = absurd (omega (arith, f.some))
    back c (Reliable.limited below) = omega arith

pub limits_end : {ws l : List ℕ} {t n : ℕ} → Limits ws t l → 0 < n → n ≤ t → Limits ws n l
limits_end f low h = record { some = low; size = f.size; limit = λ x b. f.limit x (omega arith) }
