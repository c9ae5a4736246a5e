-- What the answers of the grammar check mean, and what stands in the tables behind them.
use Rattle.std.specs.Prelude.{ℕ, ◌+◌, ◌≤◌, ◌<◌, ◌≡◌, refl, Bool, true, List, [], ◌∷◌, length, get_or, Result, Ok, Err, ◌↔◌, IsSome, IfSome, Option, None, Some, ⊤, ok_or}
use Rattle.std.proofs.Common.{sym, ap, ◌∙◌, subst, arith, true≢false}
use Rattle.std.proofs.Math.Option.{none, some}
use borrow.Rule.Slice.PartMut.{put_mid}
use Rattle.grammar.specs.Words.{START, Shaped, terminal_count, nonterminal_count, rule_count, insert_cost}
use Rattle.grammar.specs.Derivation.{NoneShared, Reachable}
use Rattle.grammar.specs.Cost.{SymbolCost, CheapestRule}
use Rattle.grammar.specs.Grammar.{RuleOf, EachNonterminal, Verdict, grammar_of, start_over_end}
use Rattle.grammar.specs.Refusals.{refusal_of}
use Rattle.grammar.specs.Theory.Conditions.{lowest_unique}
use Rattle.grammar.specs.Theory.Outcomes.{verdict_same}
use Rattle.grammar.specs.Theory.Tables.{Inner, Shared, Pushes}
use Rattle.grammar.specs.declared.Refusal.{Refusal}
use Rattle.grammar.specs.declared.Refusal.TheVariants.{BadShape}
use Rattle.std.specs.Result.{result_ok}
use Rattle.std.proofs.lemmas.Option.{MatchOption-at_some}
use Rattle.verdict.specs.Judge.{refused_5}
use Rattle.base.specs.Blank.{Blank}
use Rattle.base.specs.Telling.{Tells}
use Rattle.mentions.specs.Mentions.{MentionsOf}
use Rattle.costs.specs.Costed.{Costed}
use Rattle.firsts.specs.Masks.{FirstsOf}
use Rattle.verdict.specs.Parts.{part_length, inside_part, before_part}
use Rattle.verdict.specs.Prices.{Limited, Limits, LimitOf, priced, price_limit, ruled}
use Rattle.verdict.specs.Sets.{SetsOf}

-- The table of which rules mention a nonterminal is filled, and r tells whether every nonterminal is reachable; then the other table holds
-- nothing.
pub record Reaching (ws mentions uses : List ℕ) (r : Bool) : Type 0 where
  pub gathered : MentionsOf ws mentions
  pub tells : Tells (EachNonterminal ws (Reachable (RuleOf ws) (START ∷ []))) r
  pub blank : r ≡ true → Blank 64 uses

-- The table of FIRST is filled, and r tells whether no two rules of one nonterminal share a predict token.
pub record Predicted (ws l : List ℕ) (r : Bool) : Type 0 where
  pub exact : FirstsOf ws l
  pub tells : Tells (NoneShared (RuleOf ws) start_over_end) r

-- Accepted words: the costs and sets on which the verdict rests.
pub record Passing (ws costs sets : List ℕ) : Type 0 where
  pub shaped : Shaped ws
  pub costed : Costed ws costs
  pub limited : Limited ws costs
  pub exact : SetsOf ws sets

-- Accepted words: the cost of each symbol and the cheapest rule of each nonterminal.
pub record Priced (ws prices : List ℕ) : Type 0 where
  pub shaped : Shaped ws
  pub costed : Costed ws prices
  pub limited : Limited ws prices

-- All tables of accepted words.
pub record Tables (ws sets prices sides rows : List ℕ) : Type 0 where
  pub shared : Shared (grammar_of ws) (terminal_count ws) (nonterminal_count ws) sets prices
  pub pushes : Pushes (grammar_of ws) (nonterminal_count ws) (rule_count ws) sides rows

-- The answer is the verdict, and more is known of accepted words.
pub record Answered (ws : List ℕ) (Known : Type 0) (a : Result (Unit {0}) Refusal) : Type 0 where
  pub verdict : Verdict ws (refusal_of a)
  pub known : a ≡ Ok tt → Known

-- The answer of the test, with what it leaves behind it.
abbrev pub Judged : List ℕ → List ℕ → List ℕ → Result (Unit {0}) Refusal → Type 0
Judged ws costs sets r = Answered ws (Passing ws costs sets) r

-- The answer where the costs and the cheapest rules are filled in.
abbrev pub PricedAs : List ℕ → List ℕ → Result (Unit {0}) Refusal → Type 0
PricedAs ws prices r = Answered ws (Priced ws prices) r

-- The answer where the tables are filled.
abbrev pub Tabled : List ℕ → List ℕ → List ℕ → List ℕ → List ℕ → Result (Unit {0}) Refusal → Type 0
Tabled ws sets prices sides rows r = Answered ws (Tables ws sets prices sides rows) r

-- The sizes of the lent tables. In the first two nothing stands yet: who lends them has just made them, and they are not cleared again.
pub record Sizes (sets prices sides rows : List ℕ) : Type 0 where
  pub sets_blank : Blank 65 sets
  pub prices_blank : Blank 256 prices
  pub sides_size : length sides ≡ 512
  pub rows_size : length rows ≡ 4224

pub accepting : {ws : List ℕ} {Known : Type 0} → Verdict ws none → Known → Answered ws Known (Ok tt)
accepting v k = record { verdict = v; known = λ _. k }

pub refusing : {ws : List ℕ} {Known : Type 0} {r : Refusal} → Verdict ws (some r) → Answered ws Known (Err r)
refusing v = record { verdict = v; known = λ e. absurd (let z : ◌≡◌ {A = ℕ} 0 1 = cc in omega arith) }

-- Less is known where only the costs and the cheapest rules are asked for.
pub judged_priced : {ws prices sets : List ℕ} {a : Result (Unit {0}) Refusal} → Judged ws prices sets a → PricedAs ws prices a
judged_priced k =
    record {
      verdict = k.verdict;
      known = λ e. let p = k.known e in record { shaped = p.shaped; costed = p.costed; limited = p.limited };
    }

-- The verdict in an arm that knows the answer.
pub verdict_in : {ws : List ℕ} {Known : Type 0} {a b : Result (Unit {0}) Refusal} → Answered ws Known a → a ≡ b → Verdict ws (refusal_of b)
verdict_in {ws} k e = subst (λ x. Verdict ws (refusal_of x)) e k.verdict

-- Rules are there, of these words,
pub rules_are : {ws rules : List ℕ} (o : Option (List ℕ)) (r : Result (List ℕ) Refusal) → IfSome o (λ l. l ≡ ws) → o ≡ result_ok r
    → r ≡ Ok rules → rules ≡ ws
rules_are o r is e f = MatchOption-at_some ⊤ _ _ (e ∙ ap result_ok f) is

-- or the words have no shape.
pub no_rules : {ws : List ℕ} {Known : Type 0} {q s : Refusal} (o : Option (List ℕ)) (r : Result (List ℕ) Refusal) → IsSome o ↔ Shaped ws
    → r ≡ ok_or o BadShape → r ≡ Err q → s ≡ q → Answered ws Known (Err s)
no_rules {ws} {Known} {s = s} None r is e f same =
    let due : Answered ws Known (Err BadShape) = refusing (refused_5 ws (λ h. true≢false (sym (is.1 h)))) in
    let bad : BadShape ≡ s = cc in
    subst (λ r. Answered ws Known (Err r)) bad due
no_rules (Some x) r is e f same = absurd (let z : ◌≡◌ {A = ℕ} 0 1 = cc in omega arith)

-- ---- The shared tables

-- Costs came back in front of the limits.
pub shared : {ws costs sets : List ℕ} (prices limits : List ℕ) → Passing ws costs sets → length prices ≡ 256
    → Limits ws (terminal_count ws) limits
    → Shared (grammar_of ws) (terminal_count ws) (nonterminal_count ws) sets (put_mid 192 64 (put_mid 0 192 prices costs) limits)
shared {ws} {costs} {sets} prices limits p size l =
    record {
      sets_size = p.exact.size;
      first = p.exact.first;
      nulls = p.exact.nulls;
      prices_size = part_length 192 64 mid limits room l.size ∙ long;
      cost = λ X i. subst (SymbolCost (RuleOf ws) (insert_cost ws) X) (sym (low X i)) (priced shaped p.costed p.limited X i);
      cost_limit = λ X i. omega (arith, low X i, price_limit shaped p.costed p.limited X i);
      rule = λ A a b.
          let same = low A (Inner.nonterminal a b) in
          let also = kept (64 + A) (omega (arith, shaped.nonterminals_high)) in
          subst (λ c. CheapestRule (RuleOf ws) (insert_cost ws) A c (get_or (put_mid 192 64 mid limits) (64 + A) 0)) (sym same)
          (subst (CheapestRule (RuleOf ws) (insert_cost ws) A (get_or costs A 0)) (sym also) (ruled shaped p.costed p.limited A a b));
      limit = λ t h.
          let at = inside_part 192 64 mid limits room l.size t (192 + t) refl (omega (arith, shaped.terminals_high)) in
          subst (LimitOf ws t) (sym at) (l.limit t h);
    }
  where
    shaped : Shaped ws
    shaped = p.shaped

    mid : List ℕ
    mid = put_mid 0 192 prices costs

    long : length mid ≡ 256
    long = part_length 0 192 prices costs (omega arith) p.costed.size ∙ size

    room : 256 ≤ length mid
    room = omega (arith, long)

    small : (X : ℕ) → Inner (terminal_count ws) (nonterminal_count ws) X → X < 128
    small X (Inner.terminal h) = omega (arith, shaped.terminals_high)
    small X (Inner.nonterminal a b) = omega (arith, shaped.nonterminals_high)

    kept : (X : ℕ) → X < 192 → get_or (put_mid 192 64 mid limits) X 0 ≡ get_or costs X 0
    kept X h =
        before_part 192 64 mid limits room l.size X h
        ∙ inside_part 0 192 prices costs (omega arith) p.costed.size X X (omega arith) h

    low : (X : ℕ) → Inner (terminal_count ws) (nonterminal_count ws) X → get_or (put_mid 192 64 mid limits) X 0 ≡ get_or costs X 0
    low X i = kept X (omega (arith, small X i))

-- ---- One answer

-- Two answers that the contract of `check` allows for the same words are equal.
pub check_unique : (ws : List ℕ) (a b : Result (Unit {0}) Refusal) → Verdict ws (refusal_of a) → Verdict ws (refusal_of b) → a ≡ b
check_unique ws a b v w = verdict_same a b (lowest_unique v w)
