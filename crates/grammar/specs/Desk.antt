-- Document 02, request (iii): "The setup desk hands in unchecked grammar words and gets cost and rule of each nonterminal, in order, in two
-- u16 buffers, zeros behind."
use Rattle.std.specs.Prelude.{ℕ, ◌+◌, ◌≤◌, ◌<◌, ◌≡◌, List, [], ◌∷◌, ◌++◌, length, get_or}
use Rattle.std.proofs.Math.Option.{none, some}
use Rattle.grammar.specs.Cost.{CheapestRule}
use Rattle.grammar.specs.Grammar.{Grammar, Meaning, meaning_of}
use Rattle.grammar.specs.Buffers.{filled, cleared}
use Rattle.grammar.specs.Refusals.{Condition, ◌unless◌, Lowest, Outcome, given, refused}
use Rattle.grammar.specs.declared.Refusal.{Refusal}
use Rattle.grammar.specs.declared.Refusal.TheVariants.{ShortDesk}

-- The costs cs and the rule numbers ps of the N nonterminals, in order. Rules are numbered over the whole grammar.
pub record CostsAndRules (N : ℕ) (G : Grammar) (cs ps : List ℕ) : Type 0 where
  pub costs_count : length cs ≡ N
  pub rules_count : length ps ≡ N
  pub each : (k : ℕ) → k < N → CheapestRule G.rules G.price (64 + k) (get_or cs k 0) (get_or ps k 0)

-- "Refusals for the desk: 5 to 9, then 23 when either buffer is shorter than N."
abbrev pub conditions_at_desk : Meaning → ℕ → ℕ → List Condition
conditions_at_desk M cost_room rule_room =
    M.conditions ++ ((ShortDesk unless ((M.nonterminals ≤ cost_room) × (M.nonterminals ≤ rule_room))) ∷ [])

-- Those of the words.
abbrev pub desk_conditions : List ℕ → ℕ → ℕ → List Condition
desk_conditions ws = conditions_at_desk (meaning_of ws)

-- The desk's answer, N or a refusal, and its two buffers afterwards.
pub data DeskBy (M : Meaning) (cost_room rule_room : ℕ) : Outcome ℕ → List ℕ → List ℕ → Type 0 where
  give : {cs ps : List ℕ} → Lowest (conditions_at_desk M cost_room rule_room) none → CostsAndRules M.nonterminals M.grammar cs ps
      → DeskBy M cost_room rule_room (given M.nonterminals) (filled cost_room cs) (filled rule_room ps)
  refuse : {r : Refusal} → Lowest (conditions_at_desk M cost_room rule_room) (some r)
      → DeskBy M cost_room rule_room (refused r) (cleared cost_room) (cleared rule_room)

-- The answer to the words.
abbrev pub DeskAnswer : List ℕ → ℕ → ℕ → Outcome ℕ → List ℕ → List ℕ → Type 0
DeskAnswer ws = DeskBy (meaning_of ws)
