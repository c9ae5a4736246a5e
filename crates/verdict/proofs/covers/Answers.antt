-- `verdict::covers` meets its contract.
use native.Mathlib.Omega.{arith}
use Prim.Native.Nat.{ℕ, ◌^◌, ◌<◌}
use mathlib.Core.Path.{◌≡◌, refl, sym, ◌∙◌, subst}
use mathlib.Core.Bool.{Bool, true, false, true≢false}
use mathlib.Core.Logic.{⊎_elim}
use lib.Dec.{eqb}
use Rattle.base.specs.Choices.{below_or}
use Rattle.base.specs.Telling.{Tells, tells_eq}
use Rattle.sets.specs.Bits.{member}
use Rattle.sets.specs.Operations.{Below, Beyond}
use Rattle.sets.specs.Laws.{empty_none, some_member}
use Rattle.std.proofs.Common.{rules}
use Rattle.verdict.proofs.covers.Goals as goal

-- Nothing of the set is beyond the mask exactly where all of it is in the mask.
covered : {n all mask rest : ℕ} → rest < 2 ^ 64 → Below n all → Beyond all mask rest
    → Tells ((k : ℕ) → k < n → member mask k ≡ true) (eqb rest 0)
covered {n} {all} {mask} {rest} small below beyond = tells_eq rest 0 (λ e k h. at k h e (member mask k) refl) none
  where
    at : (k : ℕ) → k < n → rest ≡ 0 → (b : Bool) → member mask k ≡ b → member mask k ≡ true
    at k h e true q = q
    at k h e false q =
        absurd
        (empty_none k
        (subst (λ (s : ℕ). member s k ≡ true) e ((beyond.exact k).1 ((below.exact k).1 h, λ m. true≢false (sym m ∙ q)))))

    none : ((k : ℕ) → k < n → member mask k ≡ true) → rest ≡ 0
    none f =
        ⊎_elim (λ zero. omega arith)
        (λ some.
        let found = some_member 64 rest small some in
        let out = (beyond.exact found.number).0 found.held in
        absurd (out.1 (f found.number ((below.exact found.number).0 out.0))))
        (below_or rest 1)

pub returns : goal.returns
returns c =
    let small : c.beyond.result < 2 ^ 64 = search rules in covered small
    (subst (λ n. Below n c.below.result) c.nonterminal_count.ensures.value c.below.ensures)
    c.beyond.ensures
