-- Document 01, "Refusal numbers": the numbers, and "the lowest applicable number .. is given, each tested over the whole
-- input before the next". Where document 02 gives a refusal another place than its number's, its list of conditions has it there.
use Rattle.std.specs.Prelude.{ℕ, ◌≡◌, List, [], ◌∷◌, ◌⊎◌, Result, Ok, Err}
use Rattle.std.proofs.Math.Option.{Option, none, some}
use Rattle.grammar.specs.declared.Refusal.{Refusal}
use Rattle.grammar.specs.declared.Refusal.TheVariants.{
  BadSize,
  BadCheck,
  BadBlock,
  ShortWords,
  BadShape,
  Unreachable,
  NoString,
  TooCostly,
  SharedPredict,
  BadLog,
  StackFull,
  NoRoom,
  BadCount,
  ShortBytes,
  ShortTokens,
  Hundredths,
  ShortDesk,
}

-- The number of each refusal: 1 to 12 are document 01's, the others document 02's.
abbrev pub number_of : Refusal → ℕ
number_of BadSize = 1
number_of BadCheck = 2
number_of BadBlock = 3
number_of ShortWords = 4
number_of BadShape = 5
number_of Unreachable = 6
number_of NoString = 7
number_of TooCostly = 8
number_of SharedPredict = 9
number_of BadLog = 10
number_of StackFull = 11
number_of NoRoom = 12
number_of BadCount = 13
number_of ShortBytes = 14
number_of ShortTokens = 15
number_of Hundredths = 16
number_of ShortDesk = 23

-- What an answer is: values, or a refusal, which "returns its number only".
pub data Outcome (A : Type 0) : Type 0 where
  given : A → Outcome A
  refused : Refusal → Outcome A

-- What an answer of the code stands for.
abbrev pub outcome_of : {A : Type 0} → Result A Refusal → Outcome A
outcome_of (Ok a) = given a
outcome_of (Err r) = refused r

-- What an answer of the code that gives nothing but a verdict stands for.
abbrev pub refusal_of : {A : Type 0} → Result A Refusal → Option Refusal
refusal_of (Ok a) = none
refusal_of (Err r) = some r

-- A condition, beside the refusal that is given where it does not hold.
pub record Condition : Type 1 where
  pub refusal : Refusal
  pub holds : Type 0

infix 3 ◌unless◌
abbrev pub ◌unless◌ : Refusal → Type 0 → Condition
r unless P = record { refusal = r; holds = P }

-- The refusal of the first condition that fails; none where all hold.
unfoldable pub FirstFailing : List Condition → Option Refusal → Type 0
FirstFailing [] o = o ≡ none
FirstFailing (c ∷ cs) o = ((c.holds → ⊥) × (o ≡ some c.refusal)) ⊎ (c.holds × FirstFailing cs o)

-- The lowest refusal that applies, of conditions in the order in which they are tested. Each is its whole condition, so each is
-- tested over the whole input before the next.
pub record Lowest (cs : List Condition) (o : Option Refusal) : Type 0 where
  pub is : FirstFailing cs o
