-- One number for the content of a buffer.
use Rattle.std.specs.Prelude.{ℕ, zero, suc, ◌+◌, ◌*◌, ◌%◌, ◌≡◌, refl, List, get_or}
use Rattle.std.proofs.Common.{ap, ap₂, add-one}

-- Of the first n words: each is added to 65,599 times the number of those before it, modulo 4,294,967,291.
unfoldable pub digest_of : List ℕ → ℕ → ℕ
digest_of ws zero = 0
digest_of ws (suc n) = (digest_of ws n * 65599 + get_or ws n 0) % 4294967291

pub digest_none : (ws : List ℕ) → digest_of ws 0 ≡ 0
unfolding digest_of
digest_none ws = refl

pub digest_more : (ws : List ℕ) (n : ℕ) → digest_of ws (n + 1) ≡ (digest_of ws n * 65599 + get_or ws n 0) % 4294967291
unfolding digest_of
digest_more ws n = ap (digest_of ws) (add-one n)

pub digest_step : {s d x w : ℕ} → s ≡ d → x ≡ w → (s * 65599 + x) % 4294967291 ≡ (d * 65599 + w) % 4294967291
digest_step e f = ap₂ (λ a b. (a * 65599 + b) % 4294967291) e f
