-- What everything above the shape test works from: words that have the shape, and a table of where each rule stands.
use Rattle.std.specs.Prelude.{ℕ, ◌≤◌, ◌<◌, ◌≡◌, List, length, get_or}
use Rattle.grammar.specs.Words.{rule_count, rule_place, Shaped}

-- The words have the shape, and `places` holds the place of each rule.
pub record Ready (ws places : List ℕ) : Type 0 where
  pub shaped : Shaped ws
  pub long : rule_count ws ≤ length places
  pub exact : (p : ℕ) → p < rule_count ws → get_or places p 0 ≡ rule_place ws p
