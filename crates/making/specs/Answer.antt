-- What is known of an input, and what a text of words comes to.
use Rattle.std.specs.Prelude.{ℕ, ◌+◌, ◌≡◌, List, length, Option, IfSome, Result, Ok, Err}
use Rattle.std.specs.Io.KnownBytes.{IsAtEnd}
use Rattle.grammar.specs.Buffers.{cleared}
use Rattle.grammar.specs.Refusals.{given, refused}
use Rattle.grammar.specs.Writing.{FileWritten}
use Rattle.grammar.specs.declared.Refusal.{Refusal}
use Rattle.spelling.specs.Text.{Spells, Stops}
use Rattle.spelling.specs.Answer.{counted, Told}
use Rattle.spelling.specs.declared.Spelled.{Spelled}
use Rattle.making.specs.declared.Unmade.{Unmade}
use Rattle.making.specs.declared.Unmade.TheVariants.{Refused, NoNumber}

-- State and word buffer are those of some text.
pub record Knows (state : Spelled) (buffer : List ℕ) : Type 0 where
  pub old : List ℕ
  pub text : List ℕ
  pub told : Told old text state buffer

-- The state at the end of an input is that of a text.
abbrev pub TextRead : {E : Type 0} → Result Spelled E → List ℕ → Type 0
TextRead (Ok state) buffer = Knows state buffer
TextRead (Err e) buffer = Unit {0}

-- Where it is known which bytes the reader had, all of them are that text, and the reader has come to their end. Where a read failed, there
-- is no text.
abbrev pub TextWhole : {E : Type 0} → Option (List ℕ) → Option (List ℕ) → List ℕ → Result Spelled E → List ℕ → Type 0
TextWhole had left old (Ok state) buffer = IfSome had (λ (text : List ℕ). Told old text state buffer) × IsAtEnd left
TextWhole had left old (Err e) buffer = Unit {0}

-- The file of the words, or a refusal, as the writer of grammar files gives it.
pub data FileMade (ws : List ℕ) (room : ℕ) : Result ℕ Unmade → List ℕ → Type 0 where
  file : {n : ℕ} {bytes : List ℕ} → FileWritten ws room (given n) bytes → FileMade ws room (Ok n) bytes
  refusal : {r : Refusal} {bytes : List ℕ} → FileWritten ws room (refused r) bytes → FileMade ws room (Err (Refused r)) bytes

-- What a text comes to, with a byte buffer of `room` bytes: the file of its words, however many they are, or the place of the first
-- word that is no number, counted from 1, and zeros.
pub data Made (text : List ℕ) (room : ℕ) (answer : Result ℕ Unmade) (bytes : List ℕ) : Type 0 where
  of_words : (ns : List ℕ) → Spells text ns → FileMade ns room answer bytes → Made text room answer bytes
  no_number : (ns : List ℕ) → Stops text ns → answer ≡ Err (NoNumber (record { place = counted (length ns + 1) })) → bytes ≡ cleared room
      → Made text room answer bytes

-- The answer is of the text that the state is of.
abbrev pub Makes : Spelled → List ℕ → ℕ → Result ℕ Unmade → List ℕ → Type 0
Makes state buffer room answer bytes = (old text : List ℕ) → Told old text state buffer → Made text room answer bytes
