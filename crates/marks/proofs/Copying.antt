-- A list that is copied into the buffer word by word; and a log without edits, which is copied whole.
use Rattle.std.specs.Prelude.{ℕ, suc, ◌+◌, ◌≤◌, ◌<◌, ◌≡◌, List, length, take, get_or, set, Some, None}
use Rattle.std.proofs.Common.{sym, ap, ap₂, ◌∙◌, arith, take-suc, length-take-le}
use Rattle.base.specs.Written.{written, written_more}
use Rattle.marks.specs.Answer.{PutOf}
use Rattle.marks.specs.Marking.{Copied}

-- The first words are written, and one more.
pub copied_more : (part old : List ℕ) (at i : ℕ) {tokens : List ℕ} → at + length part ≤ length old → i < length part
    → tokens ≡ written old at (take i part) → set tokens (at + i) (get_or part i 0) ≡ written old at (take (i + 1) part)
copied_more part old at i room l wrote =
    let size : length (take i part) ≡ i = length-take-le i part (omega arith) in
    let next : suc i ≡ i + 1 = omega arith in
    ap₂ (λ (t : List ℕ) (n : ℕ). set t (at + n) (get_or part i 0)) wrote (sym size)
    ∙ (written_more old at (take i part) (get_or part i 0) (omega (arith, size))
    ∙ ap (λ (t : List ℕ). written old at t) (sym (take-suc part i 0 l) ∙ ap (λ (n : ℕ). take n part) next))

pub log_short : (kept old tokens : List ℕ) → length old < length kept → PutOf kept old tokens None
unfolding PutOf
log_short kept old tokens l = l

pub log_whole : {kept old tokens : List ℕ} {size : ℕ} → length kept ≤ length old → Copied kept old 0 tokens size
    → PutOf kept old tokens (Some size)
unfolding PutOf
log_whole {kept} {old} l c = (c.ends ∙ omega arith, l, c.wrote)
