-- A hit: the walk that found it went over no place that fits, so that it is the least. The laws beside `specs/Searching.antt`, of what `Used` says.
use Rattle.std.specs.Prelude.{ℕ, ◌-◌, ◌≤◌, ◌<◌, ◌≡◌, Bool, true, List, length, get_or, Some}
use Rattle.std.proofs.Common.{sym, ap, ◌∙◌, arith}
use Rattle.grammar.specs.Derivation.{All}
use Rattle.grammar.specs.Theory.Tables.{Sized, SymbolOf, limit_by}
use Rattle.moves.specs.Tests.{begins_by}
use Rattle.moves.specs.Pile.{pile, pile_length}
use Rattle.correction.specs.Symbols.{Known}
use Rattle.correction.specs.Searching.{CanSearch, SearchOf, Walked, usable, short, token_low, cell, here}

module _ {S : Sized} {log masks prices : List ℕ} (known : Known S log masks prices) (σ : List ℕ) (inner : All (SymbolOf S) σ)
    (low : length σ ≤ 256)
    (t : ℕ) (token : t < S.terminals) where
  pub walked_hit : (i cost : ℕ) → i < length σ → begins_by masks (get_or σ i 0) t ≡ true → cost < limit_by prices t
      → Walked S prices σ t i cost
      → SearchOf S σ t (Some i)
  unfolding SearchOf
  walked_hit i cost l b m w = record { plausible = usable known σ inner low t token i l b (omega (arith, w.pays)); least = w.none }

module _ {S : Sized} {log masks prices stack : List ℕ} {height : ℕ} (can : CanSearch S log masks prices stack height) (r t : ℕ)
    (at-r : t ≡ get_or log r 0) where
  pub seek_hit : (i cost l : ℕ) {b : Bool} → i < height → b ≡ begins_by masks (get_or stack (height - 1 - i) 0) t → b ≡ true
      → l ≡ limit_by prices t → cost < l → Walked S prices (pile stack height) t i cost
      → SearchOf S (pile stack height) (get_or log r 0) (Some i)
  seek_hit i cost l m e n q k w =
      here can r t at-r (Some i)
      (walked_hit can.known (pile stack height) can.symbols (short can r t at-r) t (token_low can r t at-r) i cost
      (omega (arith, pile_length stack height))
      (ap (λ y. begins_by masks y t) (cell can r t at-r i m) ∙ sym e ∙ n)
      (omega (arith, q, k)) w)
