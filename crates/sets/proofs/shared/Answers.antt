-- A number that is not 0 has a bit, and the bits of `bit_and a b` are the common ones.
use Prim.Native.Nat.{ℕ, ◌<◌, ◌^◌}
use mathlib.Core.Bool.{not}
use native.Mathlib.Omega.{arith}
use borrow.Author.Tests.{eqb-true, eqb-false, not-true, not-false}
use borrow.Author.Rules.{rules}
use lib.Dec.{eqb}
use lib.Bits.{bit_and, and_lt}
use Rattle.sets.specs.Operations.{Shared}
use Rattle.base.specs.Telling.{Tells}
use Rattle.sets.proofs.shared.Goals as goal
use Rattle.sets.specs.Laws.{some_member, shared_some, shared_none}

tells : (a b : ℕ) → a < 2 ^ 64 → b < 2 ^ 64 → Tells (Shared a b) (not (eqb (bit_and a b) 0))
tells a b ha hb =
    record {
      yes = λ e.
          let some = eqb-false (bit_and a b) 0 (not-true _ e) in
          shared_some a b (some_member 64 (bit_and a b) (and_lt 64 a b ha hb) (omega arith));
      no = λ e both. shared_none a b (eqb-true (bit_and a b) 0 (not-false _ e)) both;
    }

pub returns : goal.returns
returns c = tells _ _ (search rules) (search rules)
