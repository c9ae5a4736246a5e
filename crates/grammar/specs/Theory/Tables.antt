-- What a run reads in place of a grammar: lent tables of plain numbers, each exactly what it is by derivations.
-- What any right sides share stands in two, `sets` and `prices`; what pushing a right side needs in two more, `sides` and `rows`.
use Rattle.std.specs.Prelude.{ℕ, ◌+◌, ◌-◌, ◌*◌, ◌≤◌, ◌<◌, ◌≡◌, List, [], ◌∷◌, ◌↔◌, length, get_or}
use Rattle.std.proofs.Common.{arith}
use Rattle.grammar.specs.Words.{terminal_count, nonterminal_count, rule_count}
use Rattle.grammar.specs.Derivation.{First}
use Rattle.grammar.specs.Cost.{SymbolCost, CheapestRule}
use Rattle.grammar.specs.Grammar.{Grammar, grammar_of}
use Rattle.grammar.specs.Theory.Masks.{NullMask, FirstMask}

-- "A symbol is a terminal 0..T-1 or a nonterminal 64..64+N-1."
pub data Inner (T N X : ℕ) : Type 0 where
  terminal : X < T → Inner T N X
  nonterminal : 64 ≤ X → X < 64 + N → Inner T N X

-- A grammar with the sizes of its tables: how many terminals, nonterminals and rules it has.
pub record Sized : Type 1 where
  pub grammar : Grammar
  pub terminals : ℕ
  pub nonterminals : ℕ
  pub rules : ℕ

-- The words as such a grammar.
abbrev pub sized_of : List ℕ → Sized
sized_of ws = record { grammar = grammar_of ws; terminals = terminal_count ws; nonterminals = nonterminal_count ws; rules = rule_count ws }

-- A symbol of such a grammar.
abbrev pub SymbolOf : Sized → ℕ → Type 0
SymbolOf S X = Inner S.terminals S.nonterminals X

-- What a cost must stay below for token t.
abbrev pub limit_by : List ℕ → ℕ → ℕ
limit_by prices t = get_or prices (192 + t) 0

-- `sets` has FIRST of each nonterminal (0 to 63) and the nonterminals that can be empty (64). `prices` has the cost of each symbol (0 to
-- 127), the cheapest rule of each nonterminal 64 places behind its cost (128 to 191), and from 192 on what a cost must stay below for each
-- token: END's is above every cost of a stack.
pub record Shared (G : Grammar) (T N : ℕ) (sets prices : List ℕ) : Type 0 where
  pub sets_size : length sets ≡ 65
  pub first : (k : ℕ) → k < N → FirstMask G.rules ((64 + k) ∷ []) (get_or sets k 0)
  pub nulls : NullMask G.rules N (get_or sets 64 0)
  pub prices_size : length prices ≡ 256
  pub cost : (X : ℕ) → Inner T N X → SymbolCost G.rules G.price X (get_or prices X 0)
  pub cost_limit : (X : ℕ) → Inner T N X → get_or prices X 0 ≤ 60000
  pub rule : (A : ℕ) → 64 ≤ A → A < 64 + N → CheapestRule G.rules G.price A (get_or prices A 0) (get_or prices (64 + A) 0)
  pub limit : (t : ℕ) → t < T → (c : ℕ) → c < 4294967295 → (c < limit_by prices t) ↔ G.reliable c t

-- A right side in one word: a symbol in each byte, the first in the lowest.
unfoldable pub packed : List ℕ → ℕ
packed [] = 0
packed (x ∷ β) = x + 256 * packed β

-- `link` names the last rule of left side A before rule p that has a token in its FIRST, as its number plus 1; 0 where there
-- is none. No expand chooses a rule whose FIRST is empty, so that a parser need not walk over it.
pub record LastBefore (G : Grammar) (A p link : ℕ) : Type 0 where
  pub within : link ≤ p
  pub named : 0 < link → (β : List ℕ) × (t : ℕ) × (G.rules (link - 1) A β × First G.rules β t)
  pub others : (q : ℕ) (β : List ℕ) → link ≤ q → q < p → G.rules q A β → (t : ℕ) → First G.rules β t → ⊥

-- The row of rule p, from A to β, has 16 words behind the 128 of the heads: its symbols, the last one first (0 to 7), its length
-- (8), and the link to the last rule of A before it that has a token in its FIRST (9).
pub record Row (G : Grammar) (rows : List ℕ) (p A : ℕ) (β : List ℕ) : Type 0 where
  pub symbols : (i : ℕ) → i < length β → get_or rows (128 + 16 * p + i) 0 ≡ get_or β (length β - (i + 1)) 0
  pub size : get_or rows (128 + 16 * p + 8) 0 ≡ length β
  pub link : LastBefore G A p (get_or rows (128 + 16 * p + 9) 0)

-- `sides` has FIRST of the right side of each of P rules (0 to 255) and that right side packed (256 to 511). `rows` has for each
-- symbol that is a nonterminal the link to its last rule that has a token in its FIRST (0 to 127), and a row for each rule.
pub record Pushes (G : Grammar) (N P : ℕ) (sides rows : List ℕ) : Type 0 where
  pub few : P ≤ 256
  pub counted : (p A : ℕ) (β : List ℕ) → G.rules p A β → p < P
  pub sides_size : length sides ≡ 512
  pub first : (p A : ℕ) (β : List ℕ) → G.rules p A β → FirstMask G.rules β (get_or sides p 0)
  pub right : (p A : ℕ) (β : List ℕ) → G.rules p A β → get_or sides (256 + p) 0 ≡ packed β
  pub rows_size : length rows ≡ 4224
  pub head : (A : ℕ) → 64 ≤ A → A < 64 + N → LastBefore G A P (get_or rows A 0)
  pub row : (p A : ℕ) (β : List ℕ) → G.rules p A β → Row G rows p A β

-- What spelling strings of cheapest rules needs of these tables: the number of each nonterminal's cheapest rule, and right sides packed.
pub record Cheap (G : Grammar) (N : ℕ) (prices sides : List ℕ) : Type 0 where
  pub prices_size : length prices ≡ 256
  pub sides_size : length sides ≡ 512
  pub rule : (A : ℕ) → 64 ≤ A → A < 64 + N → CheapestRule G.rules G.price A (get_or prices A 0) (get_or prices (64 + A) 0)
  pub right : (p A : ℕ) (β : List ℕ) → G.rules p A β → get_or sides (256 + p) 0 ≡ packed β
  pub counted : (p A : ℕ) (β : List ℕ) → G.rules p A β → p < 256

pub cheap_of : {G : Grammar} {T N P : ℕ} {sets prices sides rows : List ℕ} → Shared G T N sets prices → Pushes G N P sides rows
    → Cheap G N prices sides
cheap_of s p =
    record {
      prices_size = s.prices_size;
      sides_size = p.sides_size;
      rule = s.rule;
      right = p.right;
      counted = λ q A β r. omega (arith, p.few, p.counted q A β r);
    }
