-- What theorems of proofs/Theory/Exists.antt speak of.
use Rattle.std.specs.Prelude.{ℕ, ◌<◌}
use Rattle.std.proofs.Math.Option.{Option, none, some}
use Rattle.grammar.specs.declared.Refusal.{Refusal}
use Rattle.grammar.specs.declared.Refusal.TheVariants.{StackFull, NoRoom}

-- The run ended, or was refused by 11 or 12.
pub data Ending : Option Refusal → Type 0 where
  ends : Ending none
  stack_full : Ending (some StackFull)
  no_room : Ending (some NoRoom)

-- A least number below b with the property.
pub record Least (P : ℕ → Type 0) (b : ℕ) : Type 0 where
  pub value : ℕ
  pub small : value < b
  pub holds : P value
  pub least : (k : ℕ) → k < value → P k → ⊥
