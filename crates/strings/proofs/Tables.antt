-- What the tables of strings give to spelling: each symbol is deep enough.
use Rattle.std.specs.Prelude.{ℕ, ◌+◌, ◌-◌, ◌<◌, ◌≡◌, List}
use Rattle.std.proofs.Common.{subst, arith}
use Rattle.std.proofs.Math.Logic.{dite}
use Rattle.std.proofs.Math.Decide.{dec_lt}
use Rattle.strings.specs.Laws.{deep_token}
use Rattle.strings.specs.Ready.{Tables, Ready, CanWrite}
use Rattle.strings.specs.Spelled.{Spells}
use Rattle.strings.specs.Spelling.{Deep}
use Rattle.strings.specs.Work.{CanSpell}

deep_symbol : {table : List ℕ} {depth : ℕ} → Spells table depth → (symbol : ℕ) → symbol < 128 → Deep table depth symbol
deep_symbol {table} {depth} spells symbol high =
    dite (dec_lt symbol 64) (λ low. deep_token table depth symbol low)
    (λ l.
    let e : 64 + (symbol - 64) ≡ symbol = omega arith in
    subst (λ X. Deep table depth X) e (spells.deep (symbol - 64) (omega arith)))

pub can_spell : {t : Tables} {symbol raise : ℕ} {tokens : List ℕ} {at : ℕ} → Ready t → CanWrite t symbol raise tokens at
    → CanSpell t.rights t.depth t.lengths symbol raise tokens at
can_spell {symbol = symbol} ready can =
    record {
      spells = ready.spells;
      measured = ready.measured;
      deep = deep_symbol ready.spells symbol can.high;
      low = can.low;
      high = can.high;
      small = can.small;
      room = can.room;
    }
