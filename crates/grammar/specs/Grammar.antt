-- Document 01: what the words mean as a grammar, the five conditions in their order, and the verdict.
use Rattle.std.specs.Prelude.{ℕ, ◌+◌, ◌≤◌, ◌<◌, ◌≡◌, List, [], ◌∷◌}
use Rattle.std.proofs.Math.Option.{Option}
use Rattle.grammar.specs.Words.{
  START,
  END,
  RuleSymbol,
  Shaped,
  terminal_count,
  nonterminal_count,
  rule_count,
  left_side,
  right_side,
  insert_cost,
  reliability,
  opening,
  closing,
  restart_mark,
  tick_unit,
}
use Rattle.grammar.specs.Derivation.{Rules, Reachable, Productive, NoneShared}
use Rattle.grammar.specs.Cost.{Cheapest}
use Rattle.grammar.specs.Refusals.{Condition, ◌unless◌, Lowest}
use Rattle.grammar.specs.declared.Refusal.{Refusal}
use Rattle.grammar.specs.declared.Refusal.TheVariants.{BadShape, Unreachable, NoString, TooCostly, SharedPredict}

-- An abstract grammar, of which the words are one source: right sides of any length, any first stack.
pub record Grammar : Type 1 where
  -- what may stand in a rule
  pub known : ℕ → Type 0
  -- rule p rewrites A to β
  pub rules : Rules
  -- the stack that a run begins with
  pub begin : List ℕ
  -- the insert cost of a terminal
  pub price : ℕ → ℕ
  -- `reliable c t`: a cost of c is strictly below the reliability of token t
  pub reliable : ℕ → ℕ → Type 0

-- Rule p of the words rewrites A to β. "Rules are numbered from 0."
pub record RuleOf (ws : List ℕ) (p A : ℕ) (β : List ℕ) : Type 0 where
  pub counted : p < rule_count ws
  pub left : A ≡ left_side ws p
  pub right : β ≡ right_side ws p

-- A cost of c is strictly below the reliability of token t; END's "counts as unlimited".
pub data Reliable (ws : List ℕ) (c t : ℕ) : Type 0 where
  unlimited : t ≡ END → Reliable ws c t
  limited : c < reliability ws t → Reliable ws c t

-- "The stack begins as START over END."
abbrev pub start_over_end : List ℕ
start_over_end = START ∷ END ∷ []

-- The grammar that the words are.
abbrev pub grammar_of : List ℕ → Grammar
grammar_of ws = record {
  known = RuleSymbol (terminal_count ws) (nonterminal_count ws);
  rules = RuleOf ws;
  begin = start_over_end;
  price = insert_cost ws;
  reliable = Reliable ws;
}

-- The cost of A is at most 60,000.
pub record Affordable (R : Rules) (price : ℕ → ℕ) (A : ℕ) : Type 0 where
  pub cost : ℕ
  pub cheapest : Cheapest R price A cost
  pub limit : cost ≤ 60000

-- Each of N nonterminals has the property.
abbrev pub Each : ℕ → (ℕ → Type 0) → Type 0
Each N P = (k : ℕ) → k < N → P (64 + k)

-- Each nonterminal of the words has it.
abbrev pub EachNonterminal : List ℕ → (ℕ → Type 0) → Type 0
EachNonterminal ws P = Each (nonterminal_count ws) P

-- The conditions: "the words have the shape above; every nonterminal is reachable from START; every nonterminal derives some
-- terminal string; none costs more than 60,000; no two rules of one nonterminal share a predict token".
abbrev pub conditions_of : Type 0 → ℕ → Grammar → List Condition
conditions_of Shape N G =
    (BadShape unless Shape)
    ∷ (Unreachable unless Each N (Reachable G.rules (START ∷ [])))
    ∷ (NoString unless Each N (Productive G.rules))
    ∷ (TooCostly unless Each N (Affordable G.rules G.price))
    ∷ (SharedPredict unless NoneShared G.rules G.begin)
    ∷ []

-- Those of the words.
abbrev pub grammar_conditions : List ℕ → List Condition
grammar_conditions ws = conditions_of (Shaped ws) (nonterminal_count ws) (grammar_of ws)

-- What words mean: all that an answer to them depends on. Request (vi) of 02 speaks of it, "old words mean what they meant".
pub record Meaning : Type 1 where
  -- refusals 5 to 9
  pub conditions : List Condition
  -- T and N
  pub terminals : ℕ
  pub nonterminals : ℕ
  pub grammar : Grammar
  -- the marks of a cycle, the restart mark (0 for none) and the tick unit
  pub opening : ℕ
  pub closing : ℕ
  pub restart : ℕ
  pub unit : ℕ

-- What these words mean.
abbrev pub meaning_of : List ℕ → Meaning
meaning_of ws = record {
  conditions = grammar_conditions ws;
  terminals = terminal_count ws;
  nonterminals = nonterminal_count ws;
  grammar = grammar_of ws;
  opening = opening ws;
  closing = closing ws;
  restart = restart_mark ws;
  unit = tick_unit ws;
}

-- The verdict: none where the words are accepted, else the lowest refusal of 5 to 9 that applies.
abbrev pub VerdictBy : Meaning → Option Refusal → Type 0
VerdictBy M o = Lowest M.conditions o

-- The verdict on the words.
abbrev pub Verdict : List ℕ → Option Refusal → Type 0
Verdict ws o = VerdictBy (meaning_of ws) o
