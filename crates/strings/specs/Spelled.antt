-- The table of accepted words spells the strings of the definitions: following cheapest rules from what is known ends with what is spelt,
-- N right sides one below the other are enough, and no string has more than 60,000 tokens.
use Rattle.std.specs.Prelude.{ℕ, zero, suc, ◌+◌, ◌-◌, ◌≤◌, ◌<◌, ◌≡◌, refl, List, [], ◌∷◌, ◌++◌, length, get_or}
use Rattle.std.proofs.Math.Path.{sym, ap, ap₂, subst}
use Rattle.std.proofs.Common.{◌∙◌, append-nil, arith}
use Rattle.std.proofs.Math.Logic.{dite}
use Rattle.std.proofs.Math.Decide.{dec_lt}
use Rattle.grammar.specs.Words.{RuleSymbol, nonterminal_count, terminal_count, insert_cost}
use Rattle.grammar.specs.Derivation.{All}
use Rattle.grammar.specs.Cost.{SymbolCost, ListCost, CheapestRule, Ends}
use Rattle.grammar.specs.Grammar.{RuleOf, grammar_of}
use Rattle.grammar.specs.Theory.Closed.{closed_down}
use Rattle.grammar.specs.Theory.Costing.{list_cost_unique}
use Rattle.grammar.specs.Theory.Good.{Accepted, Good, good_words, good_below}
use Rattle.grammar.specs.Theory.Leftmost.{to_der}
use Rattle.grammar.proofs.Theory.Marking.{known_ends}
use Rattle.grammar.specs.Theory.Members.{all_map}
use Rattle.grammar.specs.Theory.Strings.{plain_words, ends_terminals, ends_yields, ends_cost, string_length}
use Rattle.grammar.specs.Theory.Tables.{packed}
use Rattle.strings.specs.Laws.{Byte, members_none, members_packed, spelt_token, spelt_none, spelt_right, deep_token, deep_right}
use Rattle.strings.specs.Spelling.{members, right_of, joined, spelt, Deep}

-- The right side of each nonterminal's cheapest rule, packed; nothing behind the last nonterminal.
pub record Rights (ws table : List ℕ) : Type 0 where
  pub size : length table ≡ 64
  pub right : (A c p : ℕ) (β : List ℕ) → CheapestRule (RuleOf ws) (insert_cost ws) A c p → RuleOf ws p A β
      → get_or table (A - 64) 0 ≡ packed β
  pub blank : (k : ℕ) → nonterminal_count ws ≤ k → get_or table k 0 ≡ 0

-- What lengths and spelling rest on: the table is deep enough everywhere, and no string is long.
pub record Spells (table : List ℕ) (depth : ℕ) : Type 0 where
  pub size : length table ≡ 64
  pub some : 1 ≤ depth
  pub few : depth ≤ 64
  pub deep : (k : ℕ) → k < 64 → Deep table depth (64 + k)
  pub limit : (k : ℕ) → k < 64 → length (spelt table depth (64 + k)) ≤ 60000
  pub blank : (k : ℕ) → depth ≤ k → get_or table k 0 ≡ 0

-- A nonterminal without a right side spells nothing.
pub blank_right : (table : List ℕ) (k : ℕ) → get_or table k 0 ≡ 0 → right_of table (64 + k) ≡ []
unfolding right_of
blank_right table k e =
    let same : 64 + k - 64 ≡ k = omega arith in
    ap (λ n. members (get_or table n 0)) same ∙ (ap members e ∙ members_none)

pub blank_spelt : (table : List ℕ) (d k : ℕ) → get_or table k 0 ≡ 0 → spelt table d (64 + k) ≡ []
unfolding joined
blank_spelt table zero k e = spelt_none table (64 + k) (omega arith)
blank_spelt table (suc d) k e =
    spelt_right table d (64 + k) (omega arith) ∙ ap (joined (λ Y. spelt table d Y)) (blank_right table k e)

module _ (ws table : List ℕ) (a : Accepted ws) (r : Rights ws table) where
  good : Good (grammar_of ws) (nonterminal_count ws) 8
  good = good_words ws a

  byte : {x : ℕ} → RuleSymbol (terminal_count ws) (nonterminal_count ws) x → Byte x
  byte (RuleSymbol.terminal l h) = (l, omega (arith, a.shaped.terminals_high))
  byte (RuleSymbol.nonterminal l h) = (omega arith, omega (arith, a.shaped.nonterminals_high))

  -- The table has the right side of a cheapest rule.
  right_of_lem : {A c p : ℕ} {β : List ℕ} → CheapestRule (RuleOf ws) (insert_cost ws) A c p → RuleOf ws p A β → right_of table A ≡ β
  unfolding right_of
  right_of_lem {A} {c} {p} {β} x s =
      ap members (r.right A c p β x s) ∙ members_packed (all_map (λ y k. byte k) (good.symbols p A β s))

  record Spelled (d : ℕ) (α w : List ℕ) : Type 0 where
    is : joined (λ X. spelt table d X) α ≡ w
    deep : All (λ X. Deep table d X) α

  ends_spelt : {d : ℕ} {α w : List ℕ} → Ends (RuleOf ws) (insert_cost ws) d α w → Spelled d α w
  unfolding joined
  ends_spelt Ends.nothing = record { is = refl; deep = All.nothing }
  ends_spelt (Ends.terminal {d = d} {t = t} l x) =
      let h = ends_spelt x in
      record {
        is = ap₂ (λ u v. u ++ v) (spelt_token table d t l) h.is;
        deep = All.also (deep_token table d t l) h.deep;
      }
  ends_spelt (Ends.nonterminal {d = d} {A = A} {p = p} {β = β} {v = v} x s y z e) =
      let inner = ends_spelt y in
      let rest = ends_spelt z in
      let same = right_of_lem x s in
      let left = good.left p A β s in
      let high = good_below good left.0 left.1 in
      record {
        is =
            ap₂ (λ u v. u ++ v)
            (spelt_right table d A left.0 ∙ (ap (joined (λ Y. spelt table d Y)) same ∙ inner.is)) rest.is
            ∙ sym e;
        deep =
            All.also
            (deep_right table d A left.0 (omega (arith, a.shaped.nonterminals_high))
            (subst (λ l. All (λ Y. Deep table d Y) l) (sym same) inner.deep))
            rest.deep;
      }

  first_of : {P : ℕ → Type 0} {X : ℕ} → All P (X ∷ []) → P X
  first_of (All.also h a) = h

  -- What is known is deep enough at N, and following cheapest rules from it ends with what is spelt.
  pub known_deep : (X : ℕ) → (grammar_of ws).known X → Deep table (nonterminal_count ws) X
  known_deep X k = first_of (ends_spelt (known_ends ws a X k).1).deep

  pub known_spelt : (X : ℕ) → (grammar_of ws).known X
      → Ends (RuleOf ws) (insert_cost ws) (nonterminal_count ws) (X ∷ []) (spelt table (nonterminal_count ws) X)
  unfolding joined
  known_spelt X k =
      let h = known_ends ws a X k in
      let same : spelt table (nonterminal_count ws) X ≡ h.0 = sym (append-nil (spelt table (nonterminal_count ws) X)) ∙ (ends_spelt h.1).is in
      subst (λ w. Ends (RuleOf ws) (insert_cost ws) (nonterminal_count ws) (X ∷ []) w) (sym same) h.1

  paid : (t : ℕ) → (grammar_of ws).known t → t < 64 → 1 ≤ insert_cost ws t
  paid t (RuleSymbol.terminal x y) l = (a.shaped.terminals t x y).cost_low
  paid t (RuleSymbol.nonterminal x y) l = absurd (omega arith)

  both : {w : List ℕ} → All (λ t. t < 64) w → All (grammar_of ws).known w → All (λ t. 1 ≤ insert_cost ws t) w
  both All.nothing All.nothing = All.nothing
  both (All.also l b) (All.also k c) = All.also (paid _ k l) (both b c)

  one_cost : {X c : ℕ} → ListCost (RuleOf ws) (insert_cost ws) (X ∷ []) c → 64 ≤ X → (grammar_of ws).known X → c ≤ 60000
  one_cost {X} {c} x high k =
      let below = good_below good high k in
      let e : 64 + (X - 64) ≡ X = omega arith in
      let known = a.affordable (X - 64) (omega arith) in
      let own = subst (λ Y. SymbolCost (RuleOf ws) (insert_cost ws) Y known.cost) e (SymbolCost.nonterminal (omega arith) known.cheapest) in
      let sum : known.cost + 0 ≡ known.cost = omega arith in
      omega (arith, list_cost_unique (RuleOf ws) (insert_cost ws) x (ListCost.also own ListCost.nothing sum), known.limit)

  -- No string has more than 60,000 tokens.
  pub known_limit : (X : ℕ) → 64 ≤ X → (grammar_of ws).known X → length (spelt table (nonterminal_count ws) X) ≤ 60000
  known_limit X high k =
      let ends = known_spelt X k in
      let R = RuleOf ws in
      let price = insert_cost ws in
      let derived = to_der R (ends_yields R price (plain_words ws) ends).derives in
      let known = closed_down R (grammar_of ws).known (λ p A β s _. good.symbols p A β s) derived (All.also k All.nothing) in
      omega (
        arith,
        string_length price (both (ends_terminals R price (plain_words ws) ends) known),
        one_cost (ends_cost R price (plain_words ws) ends) high k,
      )

  pub spells_words : Spells table (nonterminal_count ws)
  spells_words =
      record {
        size = r.size;
        some = a.shaped.nonterminals_low;
        few = a.shaped.nonterminals_high;
        deep = λ k l.
            dite (dec_lt k (nonterminal_count ws))
            (λ h. known_deep (64 + k) (RuleSymbol.nonterminal (omega arith) (omega arith)))
            (λ h. empty (nonterminal_count ws) k l a.shaped.nonterminals_low (r.blank k (omega arith)));
        limit = λ k l.
            dite (dec_lt k (nonterminal_count ws))
            (λ h. known_limit (64 + k) (omega arith) (RuleSymbol.nonterminal (omega arith) (omega arith)))
            (λ h. omega (arith, ap length (blank_spelt table (nonterminal_count ws) k (r.blank k (omega arith)))));
        blank = r.blank;
      }
    where
      empty : (d k : ℕ) → k < 64 → 1 ≤ d → get_or table k 0 ≡ 0 → Deep table d (64 + k)
      empty zero k l s e = absurd (omega arith)
      empty (suc d) k l s e =
          deep_right table d (64 + k) (omega arith) (omega arith)
          (subst (λ l. All (λ Y. Deep table d Y) l) (sym (blank_right table k e)) All.nothing)
