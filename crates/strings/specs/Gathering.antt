-- The table of right sides, taken from the parser's tables.
use Rattle.std.specs.Prelude.{ℕ, ◌+◌, ◌-◌, ◌≤◌, ◌<◌, ◌≡◌, List, length, get_or}
use Rattle.std.proofs.Common.{ap, subst, ◌∙◌, arith}
use Rattle.grammar.specs.Words.{Shaped, nonterminal_count, insert_cost}
use Rattle.grammar.specs.Grammar.{RuleOf, grammar_of}
use Rattle.grammar.specs.Theory.Costing.{cheapest_rule_unique}
use Rattle.grammar.specs.Theory.Good.{Accepted, good_words, good_below}
use Rattle.grammar.specs.Theory.Tables.{Cheap}
use Rattle.strings.specs.Spelled.{Rights}

pub record CanGather (ws prices sides table : List ℕ) : Type 0 where
  pub shaped : Shaped ws
  pub cheap : Cheap (grammar_of ws) (nonterminal_count ws) prices sides
  pub size : length table ≡ 64

-- Entry k, of the first `count`, is the right side of the rule that the prices name for nonterminal 64 + k; the entries behind stay.
pub record Gathered (count : ℕ) (prices sides old table : List ℕ) : Type 0 where
  pub size : length table ≡ length old
  pub right : (k : ℕ) → k < count → get_or table k 0 ≡ get_or sides (256 + get_or prices (128 + k) 0) 0
  pub others : (k : ℕ) → count ≤ k → get_or table k 0 ≡ get_or old k 0

-- In a table that was blank these are the right sides of cheapest rules.
pub gathered_rights : (ws prices sides : List ℕ) {old table : List ℕ} → Accepted ws
    → Cheap (grammar_of ws) (nonterminal_count ws) prices sides
    → length old ≡ 64 → ((k : ℕ) → get_or old k 0 ≡ 0)
    → Gathered (nonterminal_count ws) prices sides old table → Rights ws table
gathered_rights ws prices sides a cheap size blank g =
    record {
      size = g.size ∙ size;
      right = λ A c p β x r.
          let good = good_words ws a in
          let left = good.left p A β r in
          let low = good_below good left.0 left.1 in
          let own = cheap.rule A left.0 low in
          let same : get_or prices (64 + A) 0 ≡ p = (cheapest_rule_unique (RuleOf ws) (insert_cost ws) own x).1 in
          let place : 128 + (A - 64) ≡ 64 + A = omega arith in
          g.right (A - 64) (omega arith)
          ∙ (ap (λ n. get_or sides (256 + get_or prices n 0) 0) place ∙ (ap (λ n. get_or sides (256 + n) 0) same ∙ cheap.right p A β r));
      blank = λ k l. g.others k l ∙ blank k;
    }

-- A cheapest rule's number has a place among the right sides.
pub rule_small : (ws prices sides : List ℕ) → Cheap (grammar_of ws) (nonterminal_count ws) prices sides → (k : ℕ) → k < nonterminal_count ws
    → get_or prices (128 + k) 0 < 256
rule_small ws prices sides cheap k l =
    let own = cheap.rule (64 + k) (omega arith) (omega arith) in
    let small = cheap.counted (get_or prices (64 + (64 + k)) 0) (64 + k) own.right own.rule in
    let place : 64 + (64 + k) ≡ 128 + k = omega arith in
    subst (λ n. get_or prices n 0 < 256) place small
