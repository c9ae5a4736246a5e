-- `test_buffers::digest` meets its contract: each cell is the next of those that the sum is of.
use Rattle.std.proofs.Common.{arith, ℕ, ◌≡◌, ◌+◌, ◌*◌, ◌%◌, ◌<◌, List, length, map, get_or, sym, ◌∙◌}
use Rattle.std.proofs.lemmas.List.{get_or-map}
use Rattle.test_buffers.specs.Digest.{digest_of, digest_none, digest_more, digest_step}
use Rattle.test_buffers.proofs.digest.Goals as goal

digest_next : {X : Type 0} (f : X → ℕ) (xs : List X) (i sum number : ℕ) (x : X) → i < length xs → sum ≡ digest_of (map f xs) i → number ≡ f x
    → x ≡ get_or xs i x → (sum * 65599 + number) % 4294967291 ≡ digest_of (map f xs) (i + 1)
digest_next f xs i sum number x within so_far is there =
    let e = get_or-map f xs i x 0 within in
    let same : number ≡ get_or (map f xs) i 0 = cc in
    digest_step so_far same ∙ sym (digest_more (map f xs) i)

pub loop-cell-init : goal.loop-cell-init
loop-cell-init g c = (omega arith, sym (digest_none _))

pub loop-cell-preserved : goal.loop-cell-preserved
loop-cell-preserved g c = (
  omega arith,
  digest_next _ _ _ _ _ _ c.loop-cell-test.true c.loop-cell.invariant.1 c.number.ensures.value c.cell-item.is,
)
