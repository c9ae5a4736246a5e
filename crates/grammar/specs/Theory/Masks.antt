-- Sets of nonterminals and of tokens as the bits of a number, each exactly what it is by derivations.
use Rattle.std.specs.Prelude.{ℕ, ◌+◌, ◌<◌, ◌≡◌, true, List, [], ◌∷◌, ◌↔◌}
use Rattle.sets.specs.Bits.{member}
use Rattle.grammar.specs.Words.{Terminal}
use Rattle.grammar.specs.Derivation.{Rules, CanBeEmpty, First}

-- The bits of `mask` are those of the N nonterminals that can be empty.
abbrev pub NullMask : Rules → ℕ → ℕ → Type 0
NullMask R N mask = (k : ℕ) → k < N → (member mask k ≡ true) ↔ CanBeEmpty R ((64 + k) ∷ [])

-- The bits of `mask` are the tokens in FIRST of the list.
abbrev pub FirstMask : Rules → List ℕ → ℕ → Type 0
FirstMask R α mask = (t : ℕ) → Terminal t → (member mask t ≡ true) ↔ First R α t
