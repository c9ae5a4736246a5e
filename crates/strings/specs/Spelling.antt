-- What a table of right sides spells: entry k is the right side of a rule of nonterminal 64 + k, packed in one word as the parser's tables
-- have it.
use Rattle.std.specs.Prelude.{ℕ, zero, suc, ◌+◌, ◌-◌, ◌/◌, ◌%◌, ◌≤◌, ◌<◌, cond, List, [], ◌∷◌, ◌++◌, ◌⊎◌, get_or, eqb, ltb}
use Rattle.grammar.specs.Derivation.{All}
use Rattle.grammar.specs.Theory.Closed.{total}

-- The symbols of a word, the lowest byte first, up to where only zeros are left: a word has no more bytes than its number says.
unfoldable pub unpacked : ℕ → ℕ → List ℕ
unpacked zero w = []
unpacked (suc n) w = cond (eqb w 0) [] ((w % 256) ∷ unpacked n (w / 256))

unfoldable pub members : ℕ → List ℕ
members w = unpacked w w

-- The right side that the table has for a nonterminal.
unfoldable pub right_of : List ℕ → ℕ → List ℕ
right_of table X = members (get_or table (X - 64) 0)

-- The strings of the members of a list, one behind the other.
unfoldable pub joined : (ℕ → List ℕ) → List ℕ → List ℕ
joined f [] = []
joined f (x ∷ l) = f x ++ joined f l

-- What the table spells for a symbol, where at most d right sides are put in one below the other: a terminal is its own string.
unfoldable pub spelt : List ℕ → ℕ → ℕ → List ℕ
spelt table zero X = cond (ltb X 64) (X ∷ []) []
spelt table (suc d) X = cond (ltb X 64) (X ∷ []) (joined (λ Y. spelt table d Y) (right_of table X))

-- At most d right sides stand one below the other, and each nonterminal has its place in the table.
unfoldable pub Deep : List ℕ → ℕ → ℕ → Type 0
Deep table zero X = X < 64
Deep table (suc d) X = (X < 64) ⊎ ((64 ≤ X) × (X < 128) × All (λ Y. Deep table d Y) (right_of table X))

-- How many steps spelling takes: one for a token, two for a nonterminal, which is begun and ended, and those of its members.
unfoldable pub steps : List ℕ → ℕ → ℕ → ℕ
steps table zero X = 1
steps table (suc d) X = cond (ltb X 64) 1 (2 + total (λ Y. steps table d Y) (right_of table X))

-- What a table of lengths says of a symbol: a terminal is one token.
unfoldable pub length_in : List ℕ → ℕ → ℕ
length_in lengths X = cond (ltb X 64) 1 (get_or lengths (X - 64) 0)

-- The token that is written for t.
unfoldable pub raised : ℕ → List ℕ → List ℕ
raised raise [] = []
raised raise (t ∷ w) = (t + raise) ∷ raised raise w
