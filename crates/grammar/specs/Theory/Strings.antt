-- The string with which following cheapest rules ends (`Ends` of Cost.antt), for any rules that have one right side each, and left sides
-- that are no terminals.
--     ends_one         it is one, however deep one looks
--     ends_yields      the list derives it
--     ends_cost        it costs what the list costs
--     ends-length      it has no more tokens than it costs, where no token is free
use Rattle.std.specs.Prelude.{ℕ, ◌+◌, ◌≤◌, ◌≡◌, List, ◌∷◌, ◌++◌, length}
use Rattle.std.proofs.Math.Path.{refl, ap, subst}
use Rattle.std.proofs.Common.{sym, ap₂, ◌∙◌, arith}
use Rattle.grammar.specs.Words.{Terminal}
use Rattle.grammar.specs.Derivation.{Rules, All, Yields}
use Rattle.grammar.specs.Cost.{string_cost, SymbolCost, ListCost, CheapestRule, Ends}
use Rattle.grammar.specs.Grammar.{RuleOf}
use Rattle.grammar.specs.Theory.Closed.{all_append}
use Rattle.grammar.specs.Theory.Costing.{cheapest_rule_unique, list_cost_unique}
use Rattle.grammar.specs.Theory.Leftmost.{Der, der_append, of_der}
use Rattle.grammar.specs.Theory.Rewriting.{rewritten, string_append}
use Rattle.grammar.specs.Theory.RightSides.{rule_left}

-- Left sides are no terminals, and a rule has one right side.
pub record Plain (R : Rules) : Type 0 where
  pub left : (p A : ℕ) (β : List ℕ) → R p A β → 64 ≤ A
  pub functional : (p A : ℕ) (β γ : List ℕ) → R p A β → R p A γ → β ≡ γ

-- So it is in every list of words.
pub plain_words : (ws : List ℕ) → Plain (RuleOf ws)
plain_words ws = record { left = rule_left ws; functional = λ p A β γ r s. r.right ∙ sym s.right }

module _ (R : Rules) (price : ℕ → ℕ) (plain : Plain R) where
  -- Two cheapest rules of A have one right side.
  same_right : {A b c p q : ℕ} {β γ : List ℕ} → CheapestRule R price A b p → R p A β → CheapestRule R price A c q → R q A γ → β ≡ γ
  same_right {A} {p = p} {β = β} {γ = γ} x r y s =
      plain.functional p A β γ r (subst (λ n. R n A γ) (sym (cheapest_rule_unique R price x y).1) s)

  pub ends_one : {d e : ℕ} {α v w : List ℕ} → Ends R price d α v → Ends R price e α w → v ≡ w
  ends_one Ends.nothing Ends.nothing = refl
  ends_one (Ends.terminal {t = t} h x) (Ends.terminal k y) = ap (λ l. t ∷ l) (ends_one x y)
  ends_one (Ends.terminal h x) (Ends.nonterminal {β = β} c r y z e) = absurd (let l = plain.left _ _ β r in omega arith)
  ends_one (Ends.nonterminal {β = β} c r y z e) (Ends.terminal h x) = absurd (let l = plain.left _ _ β r in omega arith)
  ends_one (Ends.nonterminal {d = d} {v = v} c r y z e) (Ends.nonterminal c' r' y' z' e') =
      let first = ends_one (subst (λ l. Ends R price d l v) (same_right c r c' r') y) y' in
      e ∙ (ap₂ (λ a b. a ++ b) first (ends_one z z') ∙ sym e')

  pub ends_terminals : {d : ℕ} {α w : List ℕ} → Ends R price d α w → All Terminal w
  ends_terminals Ends.nothing = All.nothing
  ends_terminals (Ends.terminal h x) = All.also h (ends_terminals x)
  ends_terminals (Ends.nonterminal c r y z e) = subst (λ l. All Terminal l) (sym e) (all_append (ends_terminals y) (ends_terminals z))

  ends_der : {d : ℕ} {α w : List ℕ} → Ends R price d α w → Der R α w
  ends_der Ends.nothing = Der.done
  ends_der (Ends.terminal h x) = Der.keep (ends_der x)
  ends_der (Ends.nonterminal {A = A} {α = α} c r y z e) =
      subst (λ l. Der R (A ∷ α) l) (sym e) (der_append R (rewritten R r (ends_der y)) (ends_der z))

  pub ends_yields : {d : ℕ} {α w : List ℕ} → Ends R price d α w → Yields R α w
  ends_yields x = record { terminals = ends_terminals x; derives = of_der R (ends_der x) }

  pub ends_cost : {d : ℕ} {α w : List ℕ} → Ends R price d α w → ListCost R price α (string_cost price w)
  unfolding string_cost
  ends_cost Ends.nothing = ListCost.nothing
  ends_cost (Ends.terminal h x) = ListCost.also (SymbolCost.terminal h refl) (ends_cost x) refl
  ends_cost (Ends.nonterminal {A = A} {c = c} {p = p} {β = β} {v = v} {w = w} {x = s} x r y z e) =
      let right = subst (λ l. ListCost R price l c) (plain.functional p A x.right β x.rule r) x.reaches in
      let own : string_cost price v ≡ c = list_cost_unique R price (ends_cost y) right in
      let all : c + string_cost price w ≡ string_cost price s = omega (arith, own, ap (string_cost price) e, string_append price v w) in
      ListCost.also (SymbolCost.nonterminal (plain.left p A β r) x.cheapest) (ends_cost z) all

-- Where each of its tokens costs something, a string has no more tokens than it costs.
pub string_length : (price : ℕ → ℕ) {w : List ℕ} → All (λ t. 1 ≤ price t) w → length w ≤ string_cost price w
unfolding string_cost
string_length price All.nothing = omega arith
string_length price (All.also h a) = omega (arith, string_length price a)
