-- The rules of the words as a list, and that the list says what the words say.
use Rattle.std.specs.Prelude.{ℕ, zero, suc, ◌+◌, ◌<◌, ◌≡◌, List, map}
use Rattle.std.proofs.Common.{sym, ap, ◌∙◌, subst, arith}
use Rattle.grammar.specs.Words.{
  terminal_count,
  nonterminal_count,
  rule_count,
  left_side,
  right_side,
  right_size,
  rule_place,
  RuleSymbol,
  Shaped,
  header_size,
  is_long,
}
use Rattle.grammar.specs.Derivation.{All}
use Rattle.grammar.specs.Grammar.{RuleOf}
use Rattle.grammar.specs.Theory.RightSides.{right_symbols}
use Rattle.grammar.specs.Theory.Pigeonhole.{range}
use Rattle.grammar.specs.Model.Ruled.{Rule, RuleAt, Ranged}

unfoldable pub rule_of : List ℕ → ℕ → Rule
unfolding rule_place right_side left_side right_size header_size is_long terminal_count
rule_of ws p = record { left = left_side ws p; right = right_side ws p }

unfoldable pub rules_of : List ℕ → List Rule
unfolding rule_of range rule_count
rules_of ws = map (rule_of ws) (range 0 (rule_count ws))

pub record Listed (f : ℕ → Rule) (a n p A : ℕ) (β : List ℕ) : Type 0 where
  pub counted : p < n
  pub left : A ≡ (f (a + p)).left
  pub right : β ≡ (f (a + p)).right

listed : (f : ℕ → Rule) (a n p A : ℕ) (β : List ℕ) → RuleAt (map f (range a n)) p A β → Listed f a n p A β
unfolding range
listed f a (suc n) p A β (RuleAt.here e d) =
    record { counted = omega arith; left = e ∙ ap (λ k. (f k).left) (omega arith); right = d ∙ ap (λ k. (f k).right) (omega arith) }
listed f a (suc n) p A β (RuleAt.there {p = q} i) =
    let h = listed f (suc a) n q A β i in
    record {
      counted = omega (arith, h.counted);
      left = h.left ∙ ap (λ k. (f k).left) (omega arith);
      right = h.right ∙ ap (λ k. (f k).right) (omega arith);
    }
listed f a zero p A β x' = elim x' [ ]

lists : (f : ℕ → Rule) (a n p A : ℕ) (β : List ℕ) → Listed f a n p A β → RuleAt (map f (range a n)) p A β
unfolding range
lists f a zero p A β h = absurd (let k = h.counted in omega arith)
lists f a (suc n) zero A β h =
    let e : a + 0 ≡ a = omega arith in RuleAt.here (h.left ∙ ap (λ k. (f k).left) e) (h.right ∙ ap (λ k. (f k).right) e)
lists f a (suc n) (suc p) A β h =
    RuleAt.there
    (lists f (suc a) n p A β
    (record {
      counted = omega (arith, h.counted);
      left = h.left ∙ ap (λ k. (f k).left) (omega arith);
      right = h.right ∙ ap (λ k. (f k).right) (omega arith);
    }))

-- The list has the words' rules, and no others.
pub rule_listed : (ws : List ℕ) (p A : ℕ) (β : List ℕ) → RuleOf ws p A β → RuleAt (rules_of ws) p A β
unfolding rules_of rule_of
rule_listed ws p A β r =
    let e : p ≡ 0 + p = omega arith in
    lists (rule_of ws) 0 (rule_count ws) p A β
    (record { counted = r.counted; left = r.left ∙ ap (left_side ws) e; right = r.right ∙ ap (right_side ws) e })

pub listed_rule : (ws : List ℕ) (p A : ℕ) (β : List ℕ) → RuleAt (rules_of ws) p A β → RuleOf ws p A β
unfolding rules_of rule_of
listed_rule ws p A β i =
    let h = listed (rule_of ws) 0 (rule_count ws) p A β i in
    let e : 0 + p ≡ p = omega arith in
    record { counted = h.counted; left = h.left ∙ ap (left_side ws) e; right = h.right ∙ ap (right_side ws) e }

-- ---- The shape keeps symbols in range

pub ranged : (ws : List ℕ) → Shaped ws → Ranged (rules_of ws) (terminal_count ws) (nonterminal_count ws)
unfolding left_side
ranged ws s =
    record {
      terminals = s.terminals_high;
      low = λ p A β i. omega (arith, (listed_rule ws p A β i).left);
      high = λ p A β i. let r = listed_rule ws p A β i in omega (arith, r.left, (s.rules p r.counted).left);
      symbols = λ p A β i.
          let r = listed_rule ws p A β i in
          subst (All (RuleSymbol (terminal_count ws) (nonterminal_count ws))) (sym r.right) (right_symbols ws s p r.counted);
    }
