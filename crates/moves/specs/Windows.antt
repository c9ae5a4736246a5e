-- The window: the uppermost symbols of the stack once more, one in each byte of a word, the top in the lowest. What a rule has just laid
-- on the stack need not be read back from there.
use Rattle.std.specs.Prelude.{ℕ, ◌-◌, ◌/◌, ◌%◌, ◌≤◌, ◌<◌, ◌≡◌, List, ◌∷◌, length, get_or}
use Rattle.std.proofs.Common.{subst, arith}
use Rattle.moves.specs.Pile.{pile, pile_top}

-- The window shows what lies uppermost, or nothing.
pub data Shows : ℕ → List ℕ → Type 0 where
  nothing : {w : ℕ} {σ : List ℕ} → w ≡ 0 → Shows w σ
  symbol : {w x : ℕ} {σ : List ℕ} → w % 256 ≡ x → Shows (w / 256) σ → Shows w (x ∷ σ)

-- Its lowest byte is the top, where it is not 0.
pub shows_top : {w x : ℕ} {σ : List ℕ} → Shows w (x ∷ σ) → (w % 256 ≡ 0 → ⊥) → w % 256 ≡ x
shows_top (Shows.nothing e) n = absurd (n (omega arith))
shows_top (Shows.symbol e s) n = e

-- One symbol down.
pub shows_below : {w x : ℕ} {σ : List ℕ} → Shows w (x ∷ σ) → Shows (w / 256) σ
shows_below {w} {x} {σ} (Shows.nothing e) = Shows.nothing {w = w / 256} (omega arith)
shows_below (Shows.symbol e s) = s

-- What looking at the top of a stack needs.
pub record CanSee (stack : List ℕ) (height window : ℕ) : Type 0 where
  pub some : 0 < height
  pub cells : height ≤ length stack
  pub shows : Shows window (pile stack height)

pub seen_top : {stack : List ℕ} {height window : ℕ} → CanSee stack height window → (window % 256 ≡ 0 → ⊥)
    → window % 256 ≡ get_or stack (height - 1) 0
seen_top {stack} {height} {window} can n =
    shows_top (subst (λ σ. Shows window σ) (pile_top stack height can.some) can.shows) n

pub seen_below : (stack : List ℕ) (height window : ℕ) → 0 < height → Shows window (pile stack height)
    → Shows (window / 256) (pile stack (height - 1))
seen_below stack height window l s = shows_below (subst (λ σ. Shows window σ) (pile_top stack height l) s)
