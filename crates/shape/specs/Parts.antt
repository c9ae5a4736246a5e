-- The parts of the shape, word by word as the test reads them, and how they make the whole.
--     header_of, terminals_of, rule_of_lem    words that have the shape have each part
--     ready                               all parts together
use Rattle.std.specs.Prelude.{ℕ, ◌+◌, ◌*◌, ◌≤◌, ◌<◌, Bool, true, false, ◌≡◌, refl, List, length, get_or}
use Rattle.std.proofs.Common.{sym, ap, ◌∙◌, arith}
use Rattle.grammar.specs.Words.{
  word,
  terminal_count,
  nonterminal_count,
  rule_count,
  header_size,
  opening,
  closing,
  tick_unit,
  restart_mark,
  insert_cost,
  reliability,
  right_size,
  rule_place,
  Marks,
  Restart,
  RuleSymbol,
  Shaped,
}
use Rattle.shape.specs.Ready.{Ready}
use Rattle.shape.specs.Inside.{header_inside, place_inside}

-- A test's answer r: yes brings P, and no shuts Q out.
pub record Decides (P Q : Type 0) (r : Bool) : Type 0 where
  pub yes : r ≡ true → P
  pub no : r ≡ false → Q → ⊥

-- Whether words have the shape is told in one way, whatever stands in the places.
pub shape_unique : {ws places others : List ℕ} (a b : Bool) → Decides (Ready ws places) (Shaped ws) a
    → Decides (Ready ws others) (Shaped ws) b → a ≡ b
shape_unique true true d e = refl
shape_unique true false d e = absurd (e.no refl (d.yes refl).shaped)
shape_unique false true d e = absurd (d.no refl (e.yes refl).shaped)
shape_unique false false d e = refl

pub record Between (low high x : ℕ) : Type 0 where
  pub from : low ≤ x
  pub to : x ≤ high

-- The terminals' words lie inside the list, and END's two are 0.
pub record EndRight (ws : List ℕ) : Type 0 where
  pub inside : header_size ws + 2 * terminal_count ws ≤ length ws
  pub cost : word ws (header_size ws) ≡ 0
  pub reliability : word ws (header_size ws + 1) ≡ 0

-- What is known where that is tested, by T as it was read.
pub record EndAsked (ws : List ℕ) (T : ℕ) : Type 0 where
  pub read : T ≡ terminal_count ws
  pub some : 1 ≤ T
  pub least : 8 ≤ length ws

-- The header, and what lies behind it of the terminals' words.
pub record HeaderRight (ws : List ℕ) : Type 0 where
  pub terminals : Between 1 64 (terminal_count ws)
  pub nonterminals : Between 1 64 (word ws 1)
  pub rules : Between 1 256 (word ws 2)
  pub marks : Marks (terminal_count ws) (word ws 3) (word ws 4)
  pub unit : Between 0 1 (word ws 5)
  pub restart : Restart (terminal_count ws) (word ws 3) (word ws 4) (restart_mark ws)
  pub end : EndRight ws

-- The two words of a terminal other than END.
pub record TerminalRight (ws : List ℕ) (t : ℕ) : Type 0 where
  pub cost : Between 1 1000 (word ws (header_size ws + 2 * t))
  pub reliability : Between 0 60000 (word ws (header_size ws + 2 * t + 1))

abbrev pub TerminalsRight : List ℕ → Type 0
TerminalsRight ws = (t : ℕ) → 1 ≤ t → t < terminal_count ws → TerminalRight ws t

-- The symbols of a right side that begins at a word.
abbrev pub SymbolsRight : List ℕ → ℕ → ℕ → ℕ → ℕ → Type 0
SymbolsRight ws from size T N = (i : ℕ) → i < size → RuleSymbol T N (word ws (from + i))

-- All symbols of a right side.
abbrev pub AllSymbols : List ℕ → ℕ → ℕ → Type 0
AllSymbols xs T N = (i : ℕ) → i < length xs → RuleSymbol T N (get_or xs i 0)

-- The words of a rule at a place, all inside the list.
pub record RuleRight (ws : List ℕ) (at T N : ℕ) : Type 0 where
  pub left : word ws at < N
  pub size : word ws (at + 1) ≤ 8
  pub symbols : SymbolsRight ws (at + 2) (word ws (at + 1)) T N
  pub inside : at + 2 + word ws (at + 1) ≤ length ws

-- A rule at a place, by T and N of the header.
abbrev pub RuleThere : List ℕ → ℕ → Type 0
RuleThere ws at = RuleRight ws at (terminal_count ws) (word ws 1)

-- All rules, their places, and that the words end with the last.
pub record RulesRight (ws places : List ℕ) : Type 0 where
  pub rules : (p : ℕ) → p < word ws 2 → RuleThere ws (rule_place ws p)
  pub whole : rule_place ws (word ws 2) ≡ length ws
  pub long : word ws 2 ≤ length places
  pub exact : (p : ℕ) → p < word ws 2 → get_or places p 0 ≡ rule_place ws p

pub header_of : (ws : List ℕ) → Shaped ws → HeaderRight ws
unfolding nonterminal_count rule_count opening closing tick_unit insert_cost reliability
header_of ws s =
    let none : header_size ws + 2 * 0 ≡ header_size ws = omega arith in
    record {
      terminals = record { from = s.terminals_low; to = s.terminals_high };
      nonterminals = record { from = s.nonterminals_low; to = s.nonterminals_high };
      rules = record { from = s.rules_low; to = s.rules_high };
      marks = s.marks;
      unit = record { from = omega arith; to = s.unit };
      restart = s.restart;
      end = record {
        inside = omega (arith, header_inside ws s);
        cost = ap (word ws) (sym none) ∙ s.end_cost;
        reliability = ap (λ k. word ws (k + 1)) (sym none) ∙ s.end_reliability;
      };
    }

pub terminals_of : (ws : List ℕ) → Shaped ws → TerminalsRight ws
unfolding insert_cost reliability
terminals_of ws s t some h =
    let words = s.terminals t some h in
    record {
      cost = record { from = words.cost_low; to = words.cost_high };
      reliability = record { from = omega arith; to = words.reliability_high };
    }

pub rule_of_lem : (ws : List ℕ) → Shaped ws → (p : ℕ) → p < word ws 2 → RuleThere ws (rule_place ws p)
unfolding nonterminal_count rule_count right_size
rule_of_lem ws s p h =
    let words = s.rules p h in
    record { left = words.left; size = words.size; symbols = words.symbols; inside = place_inside ws s p h }

pub ready : (ws places : List ℕ) → HeaderRight ws → TerminalsRight ws → RulesRight ws places → Ready ws places
unfolding nonterminal_count rule_count opening closing tick_unit insert_cost reliability right_size
ready ws places h t r =
    let none : header_size ws + 2 * 0 ≡ header_size ws = omega arith in
    record {
      shaped = record {
        terminals_low = h.terminals.from;
        terminals_high = h.terminals.to;
        nonterminals_low = h.nonterminals.from;
        nonterminals_high = h.nonterminals.to;
        rules_low = h.rules.from;
        rules_high = h.rules.to;
        marks = h.marks;
        unit = h.unit.to;
        restart = h.restart;
        end_cost = ap (word ws) none ∙ h.end.cost;
        end_reliability = ap (λ k. word ws (k + 1)) none ∙ h.end.reliability;
        terminals = λ k some l.
            let right = t k some l in
            record { cost_low = right.cost.from; cost_high = right.cost.to; reliability_high = right.reliability.to };
        rules = λ p l. let right = r.rules p l in record { left = right.left; size = right.size; symbols = right.symbols };
        whole = r.whole;
      };
      long = r.long;
      exact = r.exact;
    }
