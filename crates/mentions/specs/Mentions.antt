-- Which rules mention a nonterminal: "revisit only the rules that mention them" (document 02, request (v)).
use Rattle.std.specs.Prelude.{ℕ, ◌+◌, ◌*◌, ◌/◌, ◌%◌, ◌≤◌, ◌<◌, ◌≡◌, true, ◌↔◌, length, get_or}
use mathlib.Core.List.{List, Memᴰ}
use Rattle.grammar.specs.Words.{rule_count, left_side, right_side}
use Rattle.sets.specs.Bits.{member}

-- Rule p mentions nonterminal k: it stands in the right side.
abbrev pub Mentions : List ℕ → ℕ → ℕ → Type 0
Mentions ws p k = Memᴰ (64 + k) (right_side ws p)

-- Rule p is in row r: bit p % 64 of the row's word p / 64 is there.
abbrev pub InRow : List ℕ → ℕ → ℕ → Type 0
InRow table r p = member (get_or table (65 * (p / 64) + r) 0) (p % 64) ≡ true

-- The table has room for all rules, and nothing stands in it.
abbrev pub Wide : List ℕ → List ℕ → Type 0
Wide ws table = 65 * ((rule_count ws + 63) / 64) ≤ length table

abbrev pub Clear : List ℕ → Type 0
Clear table = (i : ℕ) → get_or table i 0 ≡ 0

-- The rules before p are in the rows of the nonterminals that they mention, or in row 64 where they mention none.
pub record Gathered (ws : List ℕ) (p : ℕ) (table : List ℕ) : Type 0 where
  pub wide : Wide ws table
  pub named : (k q : ℕ) → k < 64 → InRow table k q ↔ ((q < p) × Mentions ws q k)
  pub plain : (q : ℕ) → InRow table 64 q ↔ ((q < p) × ((k : ℕ) → Mentions ws q k → ⊥))

-- All of them.
abbrev pub MentionsOf : List ℕ → List ℕ → Type 0
MentionsOf ws table = Gathered ws (rule_count ws) table

-- A rule of nonterminal k before p mentions nonterminal j.
pub record Uses (ws : List ℕ) (p k j : ℕ) : Type 0 where
  pub rule : ℕ
  pub before : rule < p
  pub left : left_side ws rule ≡ 64 + k
  pub mentions : Mentions ws rule j

-- Set k has the nonterminals that the rules of k before p mention.
pub record Used (ws : List ℕ) (p : ℕ) (uses : List ℕ) : Type 0 where
  pub size : length uses ≡ 64
  pub exact : (k j : ℕ) → (member (get_or uses k 0) j ≡ true) ↔ Uses ws p k j

abbrev pub UsesOf : List ℕ → List ℕ → Type 0
UsesOf ws uses = Used ws (rule_count ws) uses
