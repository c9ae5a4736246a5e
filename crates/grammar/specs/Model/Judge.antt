-- The conditions of the grammar check as tests: each says exactly whether its condition is met.
use Rattle.std.specs.Prelude.{ℕ, ◌+◌, ◌-◌, ◌≤◌, ◌<◌, ◌≡◌, refl, Bool, true, false, ◌&&◌, List, [], ◌∷◌, ◌++◌, T, leb}
use Rattle.std.proofs.Common.{sym, append_assoc, inl, inr}
use Rattle.std.proofs.Math.Path.{subst}
use Rattle.std.proofs.Math.Option.{Option, none, some}
use native.Mathlib.Omega.{arith}
use Rattle.grammar.specs.Words.{START, END, Shaped, terminal_count, nonterminal_count, insert_cost, header_size, is_long}
use Rattle.grammar.specs.Derivation.{All, Reachable, Productive, NoneShared}
use Rattle.grammar.specs.Cost.{Cheapest}
use Rattle.grammar.specs.Grammar.{RuleOf, Affordable}
use Rattle.grammar.specs.Theory.Leftmost.{Der, der_refl, der_append, to_der, of_der}
use Rattle.grammar.specs.Theory.Pigeonhole.{range, range_member}
use Rattle.grammar.specs.Model.Tests.{left_of, right_of_lem, every, every_all}
use Rattle.grammar.specs.Model.Reflects.{Reflects, le_test, each_in_test, iff_test}
use Rattle.grammar.specs.Model.Ruled.{Rule, RuleAt}
use Rattle.grammar.specs.Theory.Members.{all_at}
use Rattle.grammar.specs.Model.Sets.{
  is_productive,
  productive_sound,
  productive_complete,
  is_reachable,
  reachable_sound,
  reachable_complete,
}
use Rattle.grammar.specs.Model.Costs.{rounds, cost_by}
use Rattle.grammar.specs.Model.Prices.{is_settled, cost_of, cost_known, cheapest, cheapest_unique}
use Rattle.grammar.specs.Model.Predicts.{is_none_shared, none_shared_test}
use Rattle.grammar.specs.Model.Wording.{rules_of, rule_listed, listed_rule, ranged}
use Rattle.grammar.specs.Theory.SameRules.{reachable_within, productive_within, predict_within, cheapest_within}

-- What holds of each nonterminal, by its symbol and by its number.
symbols_numbers : {b : Bool} (N : ℕ) (P : ℕ → Type 0) → Reflects b ((A : ℕ) → 64 ≤ A → A < 64 + N → P A)
    → Reflects b ((k : ℕ) → k < N → P (64 + k))
symbols_numbers N P r =
    iff_test r
    (λ f k h. f (64 + k) (omega arith) (omega arith))
    (λ f A l h. let e : 64 + (A - 64) ≡ A = omega arith in subst P e (f (A - 64) (omega arith)))

-- What is reachable from START is reachable from START END.
with_end : {rs : List Rule} {A : ℕ} → Reachable (RuleAt rs) (START ∷ []) A → Reachable (RuleAt rs) (START ∷ END ∷ []) A
with_end {rs} {A} r =
    record {
      front = r.front;
      rest = r.rest ++ (END ∷ []);
      stands = of_der _
          (subst (λ w. Der (RuleAt rs) (START ∷ END ∷ []) w) (append_assoc r.front (A ∷ r.rest) (END ∷ []))
          (der_append _ (to_der _ r.stands) (der_refl _ (END ∷ []))));
    }

-- ---- The tests

unfoldable pub all_reachable : List ℕ → Bool
unfolding every is_reachable rules_of range nonterminal_count
all_reachable ws = every (is_reachable (rules_of ws) (nonterminal_count ws)) (range 64 (nonterminal_count ws))

unfoldable pub all_productive : List ℕ → Bool
unfolding every is_productive rules_of range nonterminal_count
all_productive ws = every (is_productive (rules_of ws) (nonterminal_count ws)) (range 64 (nonterminal_count ws))

-- The costs of the nonterminals.
unfoldable pub table_of : List ℕ → List (Option ℕ)
unfolding rounds rules_of insert_cost header_size is_long nonterminal_count
table_of ws = rounds (insert_cost ws) (rules_of ws) (nonterminal_count ws) (nonterminal_count ws)

unfoldable pub is_known : Option ℕ → Bool
is_known none = false
is_known (some c) = true

unfoldable pub costs_ready : List ℕ → Bool
unfolding table_of is_settled rules_of every is_known cost_by range insert_cost header_size is_long nonterminal_count
costs_ready ws =
    let table = table_of ws in
    is_settled (insert_cost ws) (rules_of ws) table
    && every (λ A. is_known (cost_by (insert_cost ws) table A)) (range 64 (nonterminal_count ws))

unfoldable pub all_affordable : List ℕ → Bool
unfolding table_of every cost_of range insert_cost header_size is_long nonterminal_count
all_affordable ws =
    let table = table_of ws in every (λ A. leb (cost_of (insert_cost ws) table A) 60000) (range 64 (nonterminal_count ws))

unfoldable pub none_shared : List ℕ → Bool
unfolding is_none_shared rules_of terminal_count nonterminal_count
none_shared ws = is_none_shared (rules_of ws) (terminal_count ws) (nonterminal_count ws) (START ∷ END ∷ [])

-- ---- Each test says exactly whether its condition is met

module _ (ws : List ℕ) (s : Shaped ws) where
  -- The words' rules as a list, and back.
  to : (p A : ℕ) (β : List ℕ) → RuleOf ws p A β → RuleAt (rules_of ws) p A β
  to = rule_listed ws

  from : (p A : ℕ) (β : List ℕ) → RuleAt (rules_of ws) p A β → RuleOf ws p A β
  from = listed_rule ws

  pub reachable_test : Reflects (all_reachable ws)
      ((k : ℕ) → k < nonterminal_count ws → Reachable (RuleOf ws) (START ∷ []) (64 + k))
  unfolding all_reachable
  reachable_test =
      let rs = rules_of ws in
      let N = nonterminal_count ws in
      symbols_numbers N (Reachable (RuleOf ws) (START ∷ []))
      (each_in_test 64 N
      (λ A l h.
      record {
        says = λ k. reachable_within (RuleAt rs) (RuleOf ws) from (reachable_sound rs N A k);
        said = λ r.
            reachable_complete rs N (terminal_count ws) (ranged ws s) s.nonterminals_low A l
            (reachable_within (RuleOf ws) (RuleAt rs) to r);
      }))

  pub productive_test : Reflects (all_productive ws) ((k : ℕ) → k < nonterminal_count ws → Productive (RuleOf ws) (64 + k))
  unfolding all_productive
  productive_test =
      let rs = rules_of ws in
      let N = nonterminal_count ws in
      symbols_numbers N (Productive (RuleOf ws))
      (each_in_test 64 N
      (λ A l h.
      record {
        says = λ k. productive_within (RuleAt rs) (RuleOf ws) from (productive_sound rs N A k);
        said = λ r. productive_complete rs N (terminal_count ws) (ranged ws s) A (productive_within (RuleOf ws) (RuleAt rs) to r);
      }))

  known_cost : (o : Option ℕ) → T (is_known o) → (c : ℕ) × (o ≡ some c)
  unfolding is_known
  known_cost (some c) h = (c, refl)
  known_cost none h = elim h [ ]

  -- Where the table is ready, each nonterminal has its cost there.
  pub ready_cost : T (costs_ready ws) → (A : ℕ) → 64 ≤ A → A < 64 + nonterminal_count ws
      → Cheapest (RuleOf ws) (insert_cost ws) A (cost_of (insert_cost ws) (table_of ws) A)
  unfolding costs_ready table_of
  ready_cost r A l h =
      let rs = rules_of ws in
      let N = nonterminal_count ws in
      let price = insert_cost ws in
      let table = table_of ws in
      let settled = left_of (is_settled price rs table) (every (λ B. is_known (cost_by price table B)) (range 64 N)) r in
      let all = right_of_lem (is_settled price rs table) (every (λ B. is_known (cost_by price table B)) (range 64 N)) r in
      let k = known_cost (cost_by price table A)
      (all_at (every_all (λ B. is_known (cost_by price table B)) (range 64 N) all) (range_member 64 N A l h)) in
      subst (Cheapest (RuleOf ws) price A) (sym (cost_known price table A k.0 k.1))
      (cheapest_within (RuleAt rs) (RuleOf ws) from to (cheapest rs price N N settled A k.0 k.1))

  pub affordable_test : T (costs_ready ws) → Reflects (all_affordable ws)
      ((k : ℕ) → k < nonterminal_count ws → Affordable (RuleOf ws) (insert_cost ws) (64 + k))
  unfolding all_affordable
  affordable_test r =
      symbols_numbers (nonterminal_count ws) (Affordable (RuleOf ws) (insert_cost ws))
      (each_in_test 64 (nonterminal_count ws)
      (λ A l h.
      iff_test (le_test (cost_of (insert_cost ws) (table_of ws) A) 60000)
      (λ k. record { cost = cost_of (insert_cost ws) (table_of ws) A; cheapest = ready_cost r A l h; limit = k })
      (λ a. omega (arith, cheapest_unique a.cheapest (ready_cost r A l h), a.limit))))

  pub shared_test : ((k : ℕ) → k < nonterminal_count ws → Reachable (RuleOf ws) (START ∷ []) (64 + k))
      → Reflects (none_shared ws) (NoneShared (RuleOf ws) (START ∷ END ∷ []))
  unfolding none_shared
  shared_test reach =
      let rs = rules_of ws in
      iff_test
      (none_shared_test rs (terminal_count ws) (nonterminal_count ws) (START ∷ END ∷ []) (ranged ws s)
      (All.also (inr (omega arith, omega (arith, s.nonterminals_low))) (All.also (inl (omega arith)) All.nothing))
      (All.also (inr (omega arith)) (All.also (inl (omega (arith, s.terminals_low))) All.nothing))
      (λ p A β i.
      let r = ranged ws s in
      let e : 64 + (A - 64) ≡ A = omega (arith, r.low p A β i) in
      with_end
      (reachable_within (RuleOf ws) (RuleAt rs) to
      (subst (Reachable (RuleOf ws) (START ∷ [])) e (reach (A - 64) (omega (arith, r.low p A β i, r.high p A β i)))))))
      (λ n p q A t β γ i j h k.
      n p q A t β γ (to p A β i) (to q A γ j) (predict_within (RuleOf ws) (RuleAt rs) to h) (predict_within (RuleOf ws) (RuleAt rs) to k))
      (λ n p q A t β γ i j h k.
      n p q A t β γ (from p A β i) (from q A γ j) (predict_within (RuleAt rs) (RuleOf ws) from h)
      (predict_within (RuleAt rs) (RuleOf ws) from k))
