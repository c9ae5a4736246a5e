-- What a cleared word buffer holds once words were written into it: "words of the buffer behind them become zero".
use Prim.Native.Nat.{ℕ}
use mathlib.Core.Path.{◌≡◌, ap}
use mathlib.Core.List.{List, ◌++◌}
use lib.ListN.{length}
use Rattle.base.specs.Written.{begun, drop_zeros}
use Rattle.grammar.specs.Buffers.{filled, cleared}

pub begun_filled : (room : ℕ) (words : List ℕ) → begun (cleared room) words ≡ filled room words
unfolding begun cleared filled
begun_filled room words = ap (λ (t : List ℕ). words ++ t) (drop_zeros (length words) room)
