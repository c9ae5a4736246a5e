-- What the theory needs of an accepted grammar: right sides of any length up to R, any first stack that ends with END.
-- Every theorem from here on is about such a grammar; `good_words` says that the words of an accepted grammar are one.
use Rattle.std.specs.Prelude.{ℕ, ◌+◌, ◌-◌, ◌≤◌, ◌<◌, ◌≡◌, List, [], ◌∷◌, ◌++◌, length, drop}
use Rattle.std.proofs.Math.Path.{refl}
use Rattle.std.proofs.Common.{sym, ◌∙◌, subst, append_assoc, arith}
use Rattle.std.proofs.Math.Option.{none}
use Rattle.std.proofs.Math.ListN.{length-take}
use Rattle.grammar.specs.Words.{
  START,
  END,
  Shaped,
  RuleSymbol,
  terminal_count,
  nonterminal_count,
  rule_count,
  left_side,
  right_side,
  right_size,
  rule_place,
  insert_cost,
}
use Rattle.grammar.specs.Derivation.{All, Reachable, Productive, NoneShared}
use Rattle.grammar.specs.Cost.{Cheapest}
use Rattle.grammar.specs.Grammar.{Grammar, grammar_of, RuleOf, Reliable, Verdict, Affordable, EachNonterminal, start_over_end}
use Rattle.grammar.specs.Theory.Conditions.{Held, held}
use Rattle.grammar.specs.Theory.RightSides.{right_symbols}
use Rattle.grammar.specs.Theory.Leftmost.{to_der, of_der, der_append, der_refl}

-- A good grammar, with N nonterminals and right sides of at most R symbols.
pub record Good (G : Grammar) (N R : ℕ) : Type 0 where
  -- what is known is a terminal other than END, or one of N nonterminals
  pub ranged : (X : ℕ) → G.known X → RuleSymbol 64 N X
  -- the first stack is `opened` over END
  pub opened : List ℕ
  pub begins : G.begin ≡ opened ++ (END ∷ [])
  pub inner : All G.known opened
  -- left sides are known nonterminals, right sides have at most R symbols, all known
  pub left : (p A : ℕ) (β : List ℕ) → G.rules p A β → (64 ≤ A) × G.known A
  pub size : (p A : ℕ) (β : List ℕ) → G.rules p A β → length β ≤ R
  pub symbols : (p A : ℕ) (β : List ℕ) → G.rules p A β → All G.known β
  -- a rule has one right side
  pub functional : (p A B : ℕ) (β γ : List ℕ) → G.rules p A β → G.rules p B γ → β ≡ γ
  -- the conditions of the grammar check
  pub reachable : (A : ℕ) → 64 ≤ A → G.known A → Reachable G.rules G.begin A
  pub productive : (A : ℕ) → 64 ≤ A → G.known A → Productive G.rules A
  pub costs : (A : ℕ) → 64 ≤ A → G.known A → (c : ℕ) × Cheapest G.rules G.price A c
  pub none_shared_lem : NoneShared G.rules G.begin
  -- "its reliability counts as unlimited"
  pub unlimited : (c : ℕ) → G.reliable c END

-- A known nonterminal is one of the N.
pub good_below : {G : Grammar} {N R A : ℕ} → Good G N R → 64 ≤ A → G.known A → A < 64 + N
good_below {A = A} good l k = go (good.ranged A k)
  where
    go : {N : ℕ} → RuleSymbol 64 N A → A < 64 + N
    go (RuleSymbol.terminal a b) = omega arith
    go (RuleSymbol.nonterminal a b) = b

-- END is not known.
pub known_not_end : {G : Grammar} {N R X : ℕ} → Good G N R → G.known X → X ≡ END → ⊥
known_not_end {X = X} good k e = go (good.ranged X k)
  where
    go : {N : ℕ} → RuleSymbol 64 N X → ⊥
    go (RuleSymbol.terminal a b) = omega arith
    go (RuleSymbol.nonterminal a b) = omega arith

-- ---- The words of an accepted grammar

-- The five conditions, of words that are accepted.
pub record Accepted (ws : List ℕ) : Type 0 where
  pub shaped : Shaped ws
  pub reachable : EachNonterminal ws (Reachable (RuleOf ws) (START ∷ []))
  pub productive : EachNonterminal ws (Productive (RuleOf ws))
  pub affordable : EachNonterminal ws (Affordable (RuleOf ws) (insert_cost ws))
  pub none_shared_lem : NoneShared (RuleOf ws) start_over_end

-- Accepted words meet all five.
pub accepted : {ws : List ℕ} → Verdict ws none → Accepted ws
unfolding Held
accepted {ws} v =
    let h = held v in
    record {
      shaped = h.0;
      reachable = h.1.0;
      productive = h.1.1.0;
      affordable = h.1.1.1.0;
      none_shared_lem = h.1.1.1.1.0;
    }

known_ranged : {T N x : ℕ} → T ≤ 64 → RuleSymbol T N x → RuleSymbol 64 N x
known_ranged l (RuleSymbol.terminal a b) = RuleSymbol.terminal a (omega arith)
known_ranged l (RuleSymbol.nonterminal a b) = RuleSymbol.nonterminal a b

module _ (ws : List ℕ) (a : Accepted ws) where
  words_left : (p A : ℕ) (β : List ℕ) → RuleOf ws p A β → (64 ≤ A) × RuleSymbol (terminal_count ws) (nonterminal_count ws) A
  unfolding left_side
  words_left p A β r =
      let h = (a.shaped.rules p r.counted).left in
      (omega (arith, r.left), RuleSymbol.nonterminal (omega (arith, r.left)) (omega (arith, r.left)))

  words_size : (p : ℕ) → length (right_side ws p) ≤ right_size ws p
  unfolding right_side
  words_size p = omega (arith, length-take (right_size ws p) (drop (rule_place ws p + 2) ws))

  words_reachable : (k : ℕ) → k < nonterminal_count ws → Reachable (RuleOf ws) (start_over_end) (64 + k)
  words_reachable k l =
      let h = a.reachable k l in
      let d = der_append (RuleOf ws) (to_der (RuleOf ws) h.stands) (der_refl (RuleOf ws) (END ∷ [])) in
      record {
        front = h.front;
        rest = h.rest ++ (END ∷ []);
        stands = of_der (RuleOf ws) (rw append_assoc at d);
      }

  at_number : (P : ℕ → Type 0) (T N : ℕ) → T ≤ 64 → ((k : ℕ) → k < N → P (64 + k)) → (A : ℕ) → 64 ≤ A → RuleSymbol T N A → P A
  at_number P T N t f A l (RuleSymbol.terminal x y) = absurd (omega arith)
  at_number P T N t f A l (RuleSymbol.nonterminal x y) =
      let e : 64 + (A - 64) ≡ A = omega arith in
      subst P e (f (A - 64) (omega arith))

  each_known : (P : ℕ → Type 0) → EachNonterminal ws P → (A : ℕ) → 64 ≤ A → (grammar_of ws).known A → P A
  each_known P = at_number P (terminal_count ws) (nonterminal_count ws) a.shaped.terminals_high

  -- The words of an accepted grammar give a good grammar, whatever R bounds its right sides.
  pub good_within : (R : ℕ) → ((p : ℕ) → p < rule_count ws → right_size ws p ≤ R) → Good (grammar_of ws) (nonterminal_count ws) R
  good_within R bound =
      record {
        opened = START ∷ [];
        begins = refl;
        ranged = λ X k. known_ranged a.shaped.terminals_high k;
        inner = All.also {x = START} (RuleSymbol.nonterminal (omega arith) (omega (arith, a.shaped.nonterminals_low))) All.nothing;
        left = words_left;
        size =
            λ p A β r. subst (λ l. length l ≤ R) (sym r.right) (omega (arith, words_size p, bound p r.counted));
        symbols = λ p A β r. subst (λ l. All (RuleSymbol (terminal_count ws) (nonterminal_count ws)) l) (sym r.right)
            (right_symbols ws a.shaped p r.counted);
        functional = λ p A B β γ r s. r.right ∙ sym s.right;
        reachable = each_known (Reachable (RuleOf ws) start_over_end) words_reachable;
        productive = each_known (Productive (RuleOf ws)) a.productive;
        costs =
            each_known
            (λ A. (c : ℕ) × Cheapest (RuleOf ws) (grammar_of ws).price A c)
            (λ k l. ((a.affordable k l).cost, (a.affordable k l).cheapest));
        none_shared_lem = a.none_shared_lem;
        unlimited = λ c. Reliable.unlimited refl;
      }

  -- Its first stack is START over END.
  pub opens_with_start : (R : ℕ) (bound : (p : ℕ) → p < rule_count ws → right_size ws p ≤ R) → (good_within R bound).opened ≡ START ∷ []
  unfolding good_within
  opens_with_start R bound = refl

  -- 8 bounds all right sides.
  pub eight_bounds : (p : ℕ) → p < rule_count ws → right_size ws p ≤ 8
  eight_bounds p h = (a.shaped.rules p h).size

  -- So R is 8 for every accepted grammar.
  pub good_words : Good (grammar_of ws) (nonterminal_count ws) 8
  good_words = good_within 8 eight_bounds
