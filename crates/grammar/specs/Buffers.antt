-- What a lent buffer of `room` words holds afterwards, and what a function answers that fills one.
use Rattle.std.specs.Prelude.{ℕ, ◌-◌, List, ◌++◌, length, replicate}
use Rattle.std.proofs.Math.Option.{none, some}
use Rattle.grammar.specs.Refusals.{Condition, Lowest, Outcome, given, refused}
use Rattle.grammar.specs.declared.Refusal.{Refusal}

-- "All words after the last one written are zero."
unfoldable pub filled : ℕ → List ℕ → List ℕ
filled room ws = ws ++ replicate (room - length ws) 0

-- A refusal: "all output buffers become zero over their whole length".
unfoldable pub cleared : ℕ → List ℕ
cleared room = replicate room 0

-- The answer and the buffer: where all conditions hold, how many words `content` has, and these; else the lowest refusal that applies.
pub data Fills (cs : List Condition) (room : ℕ) (content : List ℕ) : Outcome ℕ → List ℕ → Type 0 where
  fill : Lowest cs none → Fills cs room content (given (length content)) (filled room content)
  refuse : {r : Refusal} → Lowest cs (some r) → Fills cs room content (refused r) (cleared room)
