-- What the states and the answers of the spelling mean, and what the word buffer holds.
use Rattle.std.specs.Prelude.{ℕ, ◌+◌, ◌-◌, ◌*◌, ◌≤◌, ◌<◌, min, ◌≡◌, List, [], ◌++◌, length, take, drop, Result, Ok, Err}
use Rattle.grammar.specs.Buffers.{filled, cleared}
use Rattle.spelling.specs.Text.{Digit, Number, Numbers, Spells, Stops}
use Rattle.spelling.specs.declared.Spelled.{Spelled}
use Rattle.spelling.specs.declared.Spelled.TheVariants.{Between, Within, Stopped}
use Rattle.spelling.specs.declared.NoNumber.{NoNumber}

-- How many there are, as far as a number of the code goes: nothing bounds a text.
abbrev pub counted : ℕ → ℕ
counted n = min n 18446744073709551615

-- The buffer `old` with the numbers written from its first place on, as far as they fit.
unfoldable pub stored : List ℕ → List ℕ → List ℕ
stored old ns = take (length old) ns ++ drop (length ns) old

-- Whatever follows the text, it begins with the numbers ns, and the rest is what follows.
pub record Passed (text ns : List ℕ) : Type 0 where
  pub before : (more : List ℕ) → Numbers (text ++ more) ns more

-- The text ends with a number of value v, behind a text that is passed.
pub record Open (text ns : List ℕ) (v : ℕ) : Type 0 where
  pub front : List ℕ
  pub word : List ℕ
  pub whole : text ≡ front ++ word
  pub passed : Passed front ns
  pub number : Number word v

-- Whatever follows the text, its first word that is no number is the one behind the numbers ns.
pub record Halted (text ns : List ℕ) : Type 0 where
  pub before : (more : List ℕ) → Stops (text ++ more) ns

-- What a state says of the text so far, in which the numbers ns have ended: no word is begun; a number is begun; or the word behind
-- them is none, whatever follows.
unfoldable pub Says : List ℕ → List ℕ → Spelled → Type 0
Says text ns (Between n) = (n ≡ counted (length ns)) × Passed text ns
Says text ns (Within n v) = (n ≡ counted (length ns)) × Open text ns v
Says text ns (Stopped n) = (n ≡ counted (length ns)) × Halted text ns

-- The text so far, in whose beginning the buffer was `old`, the state and the buffer.
pub record Told (old text : List ℕ) (state : Spelled) (buffer : List ℕ) : Type 0 where
  pub numbers : List ℕ
  pub holds : buffer ≡ stored old numbers
  pub says : Says text numbers state

-- What a text comes to in a buffer of `room` words: its numbers and how many they are; or the place of the first word that is none.
pub data Answered (text : List ℕ) (room : ℕ) (answer : Result ℕ NoNumber) (buffer : List ℕ) : Type 0 where
  words : (ns : List ℕ) → Spells text ns → answer ≡ Ok (counted (length ns)) → buffer ≡ filled room (take room ns)
      → Answered text room answer buffer
  no_number : (ns : List ℕ) → Stops text ns → answer ≡ Err (record { place = counted (length ns + 1) }) → buffer ≡ cleared room
      → Answered text room answer buffer

-- No byte of a text was taken yet.
abbrev pub Begun : Spelled → Type 0
Begun state = (old : List ℕ) → Told old [] state old

-- A part of a text was taken: whatever the text before it was, what was known of it is now known of the text with the part.
abbrev pub Took : Spelled → List ℕ → List ℕ → Spelled → List ℕ → Type 0
Took state part buffer next left = (old text : List ℕ) → Told old text state buffer → Told old (text ++ part) next left

-- The text has ended: the answer is of all of it.
abbrev pub Finished : Spelled → List ℕ → Result ℕ NoNumber → List ℕ → Type 0
Finished state buffer answer left = (old text : List ℕ) → Told old text state buffer → Answered text (length buffer) answer left

-- A word of value v goes on with a byte that is not blank, behind n numbers: with a digit, as long as it fits; else it is no number.
abbrev pub WentOn : ℕ → ℕ → ℕ → Spelled → Type 0
WentOn n v c (Between m) = ⊥
WentOn n v c (Within m w) = (m ≡ n) × Digit c × (w ≡ 10 * v + (c - 48)) × (w ≤ 65535)
WentOn n v c (Stopped m) = (m ≡ n) × (Digit c → 65535 < 10 * v + (c - 48))
