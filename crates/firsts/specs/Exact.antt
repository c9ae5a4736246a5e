-- What walks over right sides go by: words that have the shape, and masks that are exact.
use Rattle.std.specs.Prelude.{ℕ, List}
use Rattle.firsts.specs.Asked.{Asked}
use Rattle.firsts.specs.Masks.{FirstsOf}

-- The words, the nonterminals that can be empty, and FIRST of each nonterminal.
pub record Masked : Type 0 where
  pub ws : List ℕ
  pub null : ℕ
  pub firsts : List ℕ

-- The masks are those of the words.
pub record Exact (m : Masked) : Type 0 where
  pub asked : Asked m.ws m.null m.firsts
  pub exact : FirstsOf m.ws m.firsts
