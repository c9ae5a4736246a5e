-- What theorems of proofs/Theory/Demands.antt speak of.
use Rattle.std.specs.Prelude.{ℕ, ◌+◌, ◌*◌, ◌≤◌, ◌<◌, ◌≡◌, ◌↔◌, List, [], ◌∷◌, length}
use Rattle.grammar.specs.Words.{START, nonterminal_count, rule_count, right_size}
use Rattle.grammar.specs.Derivation.{Derives}
use Rattle.grammar.specs.Grammar.{RuleOf}
use Rattle.grammar.specs.Buffers.{filled, cleared}
use Rattle.grammar.specs.Moves.{Move, Edit, edits, edit_words, rule_numbers}
use Rattle.grammar.specs.Run.{counts_of}
use Rattle.grammar.specs.Refusals.{Outcome, given, refused}
use Rattle.grammar.specs.declared.Refusal.{Refusal}
use Rattle.grammar.specs.declared.Counts.{Counts}
use Rattle.grammar.specs.Theory.Rebuilt.{rebuilt}
use Rattle.grammar.specs.Cases.Case.{edit_room, rule_room}

-- What an answer keeps: each refusal is given exactly where `Refuses` says, and leaves `Zeros`; values come with what `Holds` says.
pub record Answered {A : Type 0} (answer : Outcome A) (Refuses : Refusal → Type 0) (Zeros : Type 0) (Holds : A → Type 0) : Type 0 where
  pub exactly : (r : Refusal) → (answer ≡ refused r) ↔ Refuses r
  pub zeros : (r : Refusal) → answer ≡ refused r → Zeros
  pub holds : (a : A) → answer ≡ given a → Holds a

-- The buffers of a parse: zeros; or the words of the moves, zeros behind them.
abbrev pub Blank : ℕ → ℕ → List ℕ → List ℕ → Type 0
Blank edit_room rule_room x y = (x ≡ cleared edit_room) × (y ≡ cleared rule_room)

pub record Lists (edit_room rule_room : ℕ) (x y : List ℕ) (counts : Counts) : Type 0 where
  pub moves : List Move
  pub counted : counts ≡ counts_of moves
  pub edit_words_lem : x ≡ filled edit_room (edit_words (edits moves))
  pub rule_words : y ≡ filled rule_room (rule_numbers moves)

pub record Kept (ws log : List ℕ) (edit_room : ℕ) (counts : Counts) (edit_buffer : List ℕ) : Type 0 where
  -- the records in the buffer, as many as the answer says, and zeros behind them
  pub records : List Edit
  pub buffer : edit_buffer ≡ filled edit_room (edit_words records)
  pub count : counts.records ≡ length records
  -- "The log without deleted tokens and with inserted symbols put before place r" follows from START.
  pub derivable : Derives (RuleOf ws) (START ∷ []) (rebuilt log records)
  -- There are no records exactly when the log was correct.
  pub none_when_correct : (records ≡ []) ↔ Derives (RuleOf ws) (START ∷ []) log
  -- The moves are bounded.
  pub bounded : (R : ℕ) → ((p : ℕ) → p < rule_count ws → right_size ws p ≤ R)
      → counts.moves ≤ 2 + length log + R * nonterminal_count ws * length log
