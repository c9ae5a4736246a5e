-- The sum over a part of some bytes is the sum over so many of them from its place on.
use Prim.Native.Nat.{ℕ, ◌+◌, ◌≤◌}
use native.Mathlib.Omega.{arith}
use mathlib.Core.Path.{◌≡◌, ap, ◌∙◌}
use mathlib.Core.List.{List}
use lib.ListN.{length, get_or, take, drop, length-drop}
use lib.Seq.{get_or-take, get_or-drop, length-take-le}
use Rattle.grammar.specs.File.{weighted_sum}
use Rattle.grammar.specs.Theory.Files.{same_sum}

pub sum_part : (bytes : List ℕ) (at n m : ℕ) → m ≡ n → at + n ≤ length bytes
    → weighted_sum (take m (drop at bytes)) 0 (length (take m (drop at bytes))) ≡ weighted_sum bytes at n
sum_part bytes at n m e l =
    let part : List ℕ = take m (drop at bytes) in
    let size : length part ≡ n = length-take-le m (drop at bytes) (omega (arith, length-drop at bytes)) ∙ e in
    ap (weighted_sum part 0) size
    ∙ same_sum part bytes 0 at n
    (λ i within.
    let here : 0 + i ≡ i = omega arith in
    ap (λ (p : ℕ). get_or part p 0) here
    ∙ (get_or-take m (drop at bytes) i 0 (omega arith) ∙ get_or-drop at bytes i 0))
