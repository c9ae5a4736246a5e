-- What theorems of proofs/Theory/States.antt speak of.
use Rattle.std.specs.Prelude.{ℕ, ◌≤◌, ◌<◌, ◌≡◌}
use mathlib.Core.List.{List, []}
use Rattle.grammar.specs.Grammar.{Grammar}
use Rattle.grammar.specs.Theory.Forms.{Ended, At}

-- "Each 1..T-1": a terminal other than END.
abbrev pub LogToken : ℕ → Type 0
LogToken t = (1 ≤ t) × (t < 64)

-- What a run keeps, of its stack and the rest of the log.
pub data Live (G : Grammar) (σ ρ : List ℕ) : Type 0 where
  running : Ended G.known σ → Ended LogToken ρ → At G σ → Live G σ ρ
  over : σ ≡ [] → ρ ≡ [] → Live G σ ρ
