-- The words' grammar with its tests: what the run's model needs.
use Rattle.std.specs.Prelude.{ℕ, ◌+◌, refl, Bool, ◌&&◌, ◌||◌, List, [], ◌∷◌, T, leb, eqb}
use Rattle.std.proofs.Common.{sym, eqb→eq, lt→ltb}
use mathlib.Core.List.Memᴰ
use Rattle.std.proofs.Math.Logic.{⊎_elim}
use Rattle.std.proofs.Math.Dec.{leb→le, ltb, ltb→lt}
use Rattle.grammar.specs.Words.{END, Shaped, terminal_count, nonterminal_count, insert_cost, reliability, header_size, is_long}
use Rattle.grammar.specs.Derivation.{CanBeEmpty}
use Rattle.grammar.specs.Cost.{SymbolCost}
use Rattle.grammar.specs.Grammar.{grammar_of, RuleOf, Reliable}
use Rattle.grammar.specs.Theory.Leftmost.{to_der, of_der}
use Rattle.grammar.specs.Theory.Members.{all_at}
use Rattle.grammar.specs.Model.Tests.{holds, left_of, right_of_lem, one_of, or_left, or_right, equal_passes}
use Rattle.grammar.specs.Model.Ruled.{RuleAt}
use Rattle.grammar.specs.Model.Sets.{nulls, null_sound, nulls_complete}
use Rattle.grammar.specs.Model.Firsts.{begins, starts, firsts, is_first, first_sound, first_complete}
use Rattle.grammar.specs.Model.Prices.{cost_of, terminal_cost}
use Rattle.grammar.specs.Model.Judge.{table_of, costs_ready, ready_cost}
use Rattle.grammar.specs.Model.Wording.{rules_of, rule_listed, listed_rule, ranged}
use Rattle.grammar.specs.Theory.SameRules.{derives_within, first_within}
use Rattle.grammar.specs.Model.Decided.{Tests, Decided}

-- A symbol of the grammar's.
unfoldable pub is_inner : ℕ → ℕ → Bool
is_inner N X = ltb X 64 || (leb 64 X && ltb X (64 + N))

-- A cost is strictly below the reliability of token t, END's being unlimited.
unfoldable pub is_below : List ℕ → ℕ → ℕ → Bool
unfolding reliability header_size is_long
is_below ws c t = eqb t END || ltb c (reliability ws t)

-- The tests of the words' grammar.
unfoldable pub tests_of : List ℕ → Tests
unfolding rules_of nulls table_of begins holds starts firsts is_inner cost_of is_below nonterminal_count insert_cost header_size is_long terminal_count
tests_of ws =
    let rs = rules_of ws in
    let N = nonterminal_count ws in
    let ns = nulls rs N in
    let table = table_of ws in
    record {
      rules = rs;
      first = λ α t. begins (holds ns) (starts t (firsts rs ns N t)) α;
      empty = holds ns;
      inner = is_inner N;
      cost = cost_of (insert_cost ws) table;
      below = is_below ws;
    }

module _ (ws : List ℕ) (s : Shaped ws) (ready : T (costs_ready ws)) where
  inner_cost : (X : ℕ) → T (is_inner (nonterminal_count ws) X)
      → SymbolCost (RuleOf ws) (insert_cost ws) X (cost_of (insert_cost ws) (table_of ws) X)
  unfolding is_inner
  inner_cost X h =
      let N = nonterminal_count ws in
      ⊎_elim
      (λ k. let l = ltb→lt X 64 k in SymbolCost.terminal l (sym (terminal_cost (insert_cost ws) (table_of ws) X l)))
      (λ k.
      let l = leb→le 64 X (left_of (leb 64 X) (ltb X (64 + N)) k) in
      let m = ltb→lt X (64 + N) (right_of_lem (leb 64 X) (ltb X (64 + N)) k) in
      SymbolCost.nonterminal l (ready_cost ws s ready X l m))
      (one_of (ltb X 64) (leb 64 X && ltb X (64 + N)) h)

  below_reliable : (c t : ℕ) → T (is_below ws c t) → Reliable ws c t
  unfolding is_below
  below_reliable c t h =
      ⊎_elim (λ k. Reliable.unlimited (eqb→eq t END k)) (λ k. Reliable.limited (ltb→lt c (reliability ws t) k))
      (one_of (eqb t END) (ltb c (reliability ws t)) h)

  reliable_below : (c t : ℕ) → Reliable ws c t → T (is_below ws c t)
  unfolding is_below
  reliable_below c t (Reliable.unlimited e) = or_left (eqb t END) (ltb c (reliability ws t)) (equal_passes t END e)
  reliable_below c t (Reliable.limited h) = or_right (eqb t END) (ltb c (reliability ws t)) (lt→ltb c (reliability ws t) h)

  empty_null : (X : ℕ) → CanBeEmpty (RuleOf ws) (X ∷ []) → T (holds (nulls (rules_of ws) (nonterminal_count ws)) X)
  empty_null X c =
      let rs = rules_of ws in
      let d = to_der (RuleAt rs) (derives_within (RuleOf ws) (RuleAt rs) (rule_listed ws) c) in
      all_at (nulls_complete rs (nonterminal_count ws) (terminal_count ws) (ranged ws s) d) (Memᴰ.head refl)

  pub decided : Decided (grammar_of ws) (tests_of ws)
  unfolding tests_of is_first
  decided =
      let rs = rules_of ws in
      let N = nonterminal_count ws in
      record {
        listed = rule_listed ws;
        lists = listed_rule ws;
        first_says = λ α t l h. first_within (RuleAt rs) (RuleOf ws) (listed_rule ws) (first_sound rs N t l α h);
        says_first = λ α t f.
            first_complete rs N t (terminal_count ws) (ranged ws s) (first_within (RuleOf ws) (RuleAt rs) (rule_listed ws) f);
        empty_says = λ X h. derives_within (RuleAt rs) (RuleOf ws) (listed_rule ws) (of_der (RuleAt rs) (null_sound rs N X h));
        says_empty = empty_null;
        costs = inner_cost;
        below_says = below_reliable;
        says_below = reliable_below;
      }
