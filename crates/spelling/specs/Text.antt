-- Which words a text spells. A text is a list of bytes; its words are its longest runs of bytes that are not blank, and each has to be
-- a decimal number of at most 65,535.
use Rattle.std.specs.Prelude.{ℕ, ◌+◌, ◌-◌, ◌*◌, ◌^◌, ◌≤◌, ◌<◌, ◌≡◌, List, [], ◌∷◌, ◌++◌, ◌⊎◌, length}
use Rattle.grammar.specs.Derivation.{All}

-- Space, tab, newline or carriage return.
abbrev pub Blank : ℕ → Type 0
Blank c = (c ≡ 32) ⊎ (c ≡ 9) ⊎ (c ≡ 10) ⊎ (c ≡ 13)

-- One of the digits 0 to 9.
pub record Digit (c : ℕ) : Type 0 where
  pub low : 48 ≤ c
  pub high : c ≤ 57

-- The value of a row of digits, the first of which counts most.
unfoldable pub value_of : List ℕ → ℕ
value_of [] = 0
value_of (c ∷ digits) = (c - 48) * 10 ^ length digits + value_of digits

-- The word is the number n: one or more digits, with leading zeros or without.
pub record Number (word : List ℕ) (n : ℕ) : Type 0 where
  pub some : 0 < length word
  pub digits : All Digit word
  pub value : n ≡ value_of word
  pub small : n ≤ 65535

-- What follows a word: the end of the text, or a blank.
pub data Ended : List ℕ → Type 0 where
  end : Ended []
  blank : {c : ℕ} {rest : List ℕ} → Blank c → Ended (c ∷ rest)

-- The text begins with blanks and with words that are the numbers ns, and then goes on as `rest`.
pub data Numbers : List ℕ → List ℕ → List ℕ → Type 0 where
  none : {text rest : List ℕ} → text ≡ rest → Numbers text [] rest
  blank : {c : ℕ} {text ns rest : List ℕ} → Blank c → Numbers text ns rest → Numbers (c ∷ text) ns rest
  number : {whole word text ns rest : List ℕ} {n : ℕ} → whole ≡ word ++ text → Number word n → Ended text → Numbers text ns rest
      → Numbers whole (n ∷ ns) rest

-- All words of the text are numbers: ns.
abbrev pub Spells : List ℕ → List ℕ → Type 0
Spells text ns = Numbers text ns []

-- The text begins with a word that is no number.
pub record BadWord (text : List ℕ) : Type 0 where
  pub word : List ℕ
  pub rest : List ℕ
  pub whole : text ≡ word ++ rest
  pub some : 0 < length word
  pub unbroken : All (λ c. Blank c → ⊥) word
  pub ended : Ended rest
  pub none : (n : ℕ) → Number word n → ⊥

-- Some word of the text is no number; before the first of these stand the numbers ns.
pub record Stops (text ns : List ℕ) : Type 0 where
  pub rest : List ℕ
  pub before : Numbers text ns rest
  pub stop : BadWord rest
