-- What measures and spells strings, as contracts see it.
use Rattle.std.specs.Prelude.{ℕ, ◌+◌, ◌≤◌, ◌<◌, List, length}
use Rattle.strings.specs.Lengths.{Measured}
use Rattle.strings.specs.Spelled.{Spells}
use Rattle.strings.specs.Spelling.{spelt}

-- The table of right sides, for how many nonterminals it is, and the lengths of their strings.
pub record Tables : Type 0 where
  pub rights : List ℕ
  pub depth : ℕ
  pub lengths : List ℕ

-- The table is deep enough, and the lengths are those of its strings.
pub record Ready (t : Tables) : Type 0 where
  pub spells : Spells t.rights t.depth
  pub measured : Measured t.rights t.depth t.lengths

-- What writing a symbol's string asks: a symbol, and room for its string.
pub record CanWrite (t : Tables) (symbol raise : ℕ) (tokens : List ℕ) (at : ℕ) : Type 0 where
  pub low : 1 ≤ symbol
  pub high : symbol < 128
  pub small : raise ≤ 4096
  pub room : at + length (spelt t.rights t.depth symbol) ≤ length tokens
