-- Document 01, "Symbols and grammar words": a grammar is a list of u16 words. Everything here is defined on every
-- list of numbers; a word past the end counts as 0, and `Shaped` says that none such is needed.
use Rattle.std.specs.Prelude.{ℕ, zero, suc, ◌+◌, ◌-◌, ◌*◌, ◌≤◌, ◌<◌, ◌≡◌, Bool, cond, List, length, get_or, take, drop, ltb}

-- The word at a place.
abbrev pub word : List ℕ → ℕ → ℕ
word ws i = get_or ws i 0

-- ---- The header: words 0 to 5; by request (vi) of 02 also word 6, the restart mark, where word 0 says so

-- "Grammars get a seventh header word ..; such grammars have T + 256 in word 0." Which header stands there is told by word 0 alone.
unfoldable pub is_long : List ℕ → Bool
is_long ws = ltb 256 (word ws 0)

-- How many words the header has: the terminals' words begin behind it.
unfoldable pub header_size : List ℕ → ℕ
header_size ws = cond (is_long ws) 7 6

-- T, terminals, END included.
unfoldable pub terminal_count : List ℕ → ℕ
terminal_count ws = cond (is_long ws) (word ws 0 - 256) (word ws 0)

-- N, nonterminals.
unfoldable pub nonterminal_count : List ℕ → ℕ
nonterminal_count ws = word ws 1

-- P, rules.
unfoldable pub rule_count : List ℕ → ℕ
rule_count ws = word ws 2

-- The opening mark of a cycle.
unfoldable pub opening : List ℕ → ℕ
opening ws = word ws 3

-- The closing mark of a cycle.
unfoldable pub closing : List ℕ → ℕ
closing ws = word ws 4

-- The tick unit: 0 one ms, 1 ten ms. By request (viii) of 02 no pace comes of unit 1.
unfoldable pub tick_unit : List ℕ → ℕ
tick_unit ws = word ws 5

-- Request (viii): "unit 1, that is, six words or more with word 5 equal to 1", whatever else the words are.
pub record UnitOne (ws : List ℕ) : Type 0 where
  pub six : 6 ≤ length ws
  pub one : tick_unit ws ≡ 1

-- "The restart mark, 1..T-1, or 0 for none." The short header has none.
unfoldable pub restart_mark : List ℕ → ℕ
restart_mark ws = cond (is_long ws) (word ws 6) 0

-- ---- Then 2 words for each terminal, then P rules

-- The insert cost of terminal t.
unfoldable pub insert_cost : List ℕ → ℕ → ℕ
insert_cost ws t = word ws (header_size ws + 2 * t)

-- The reliability of terminal t, as it stands in the words. (END's counts as unlimited: `Reliable` of Grammar.antt.)
unfoldable pub reliability : List ℕ → ℕ → ℕ
reliability ws t = word ws (header_size ws + 2 * t + 1)

-- Where rule p stands: the first behind the terminals' words, each other behind the one before it. A rule is its left
-- side, its length and its symbols.
unfoldable pub rule_place : List ℕ → ℕ → ℕ
rule_place ws zero = header_size ws + 2 * terminal_count ws
rule_place ws (suc p) = rule_place ws p + 2 + word ws (rule_place ws p + 1)

-- "A rule's left side k names symbol 64 + k."
unfoldable pub left_side : List ℕ → ℕ → ℕ
left_side ws p = 64 + word ws (rule_place ws p)

-- How many symbols the right side of rule p has.
unfoldable pub right_size : List ℕ → ℕ → ℕ
right_size ws p = word ws (rule_place ws p + 1)

-- The right side of rule p.
unfoldable pub right_side : List ℕ → ℕ → List ℕ
right_side ws p = take (right_size ws p) (drop (rule_place ws p + 2) ws)

-- ---- Symbols

-- "Terminal 0 is END."
abbrev pub END : ℕ
END = 0

-- "Symbol 64 is START."
abbrev pub START : ℕ
START = 64

-- A terminal is below 64.
abbrev pub Terminal : ℕ → Type 0
Terminal x = x < 64

-- What may stand in a rule: "a terminal 0..T-1 or a nonterminal 64..64+N-1", and END "never stands in a rule".
pub data RuleSymbol (T N x : ℕ) : Type 0 where
  terminal : 1 ≤ x → x < T → RuleSymbol T N x
  nonterminal : 64 ≤ x → x < 64 + N → RuleSymbol T N x

-- ---- The shape

-- Opening and closing mark: "each 1..T-1, or both 0 (no cycles); they may be equal".
pub data Marks (T o c : ℕ) : Type 0 where
  marked : 1 ≤ o → o < T → 1 ≤ c → c < T → Marks T o c
  unmarked : o ≡ 0 → c ≡ 0 → Marks T o c

-- Request (vi): "the restart mark, 1..T-1, or 0 for none"; it "differs from the opening and closing marks unless it is 0".
pub data Restart (T o c m : ℕ) : Type 0 where
  restarts : 1 ≤ m → m < T → (m ≡ o → ⊥) → (m ≡ c → ⊥) → Restart T o c m
  none : m ≡ 0 → Restart T o c m

-- The words of a terminal other than END: "cost 1..1,000; reliability 0..60,000".
pub record TerminalWords (ws : List ℕ) (t : ℕ) : Type 0 where
  pub cost_low : 1 ≤ insert_cost ws t
  pub cost_high : insert_cost ws t ≤ 1000
  pub reliability_high : reliability ws t ≤ 60000

-- The words of a rule: "left side, length, symbols", "0..N-1, 0..8, symbols".
pub record RuleWords (ws : List ℕ) (p : ℕ) : Type 0 where
  pub left : word ws (rule_place ws p) < nonterminal_count ws
  pub size : right_size ws p ≤ 8
  pub symbols : (i : ℕ) → i < right_size ws p → RuleSymbol (terminal_count ws) (nonterminal_count ws) (word ws (rule_place ws p + 2 + i))

-- "The words have the shape above": the table's ranges, END's two words, and "the words end with the last rule".
-- The last line also says that no word of any of them lies past the end, since each rule ends where the next begins.
pub record Shaped (ws : List ℕ) : Type 0 where
  pub terminals_low : 1 ≤ terminal_count ws
  pub terminals_high : terminal_count ws ≤ 64
  pub nonterminals_low : 1 ≤ nonterminal_count ws
  pub nonterminals_high : nonterminal_count ws ≤ 64
  pub rules_low : 1 ≤ rule_count ws
  pub rules_high : rule_count ws ≤ 256
  pub marks : Marks (terminal_count ws) (opening ws) (closing ws)
  pub unit : tick_unit ws ≤ 1
  pub restart : Restart (terminal_count ws) (opening ws) (closing ws) (restart_mark ws)
  pub end_cost : insert_cost ws END ≡ 0
  pub end_reliability : reliability ws END ≡ 0
  pub terminals : (t : ℕ) → 1 ≤ t → t < terminal_count ws → TerminalWords ws t
  pub rules : (p : ℕ) → p < rule_count ws → RuleWords ws p
  pub whole : rule_place ws (rule_count ws) ≡ length ws
