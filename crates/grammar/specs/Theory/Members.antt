-- What every member of a list has: read off at a member or a place, mapped, and put together from either.
use Rattle.std.specs.Prelude.{ℕ, zero, suc, ◌<◌, refl, length, get_or}
use Rattle.std.proofs.Common.{sym, subst, arith}
use mathlib.Core.List.{List, [], ◌∷◌, Memᴰ}
use Rattle.grammar.specs.Derivation.{All}

-- A member of a list of which all have a property has it,
pub all_at : {P : ℕ → Type 0} {l : List ℕ} {x : ℕ} → All P l → Memᴰ x l → P x
all_at {P} (All.also {x = y} h a) (Memᴰ.head e) = subst P (sym e) h
all_at (All.also h a) (Memᴰ.tail m) = all_at a m
all_at All.nothing m = elim m [ ]

-- and so has what stands at a place.
pub all_get : {P : ℕ → Type 0} {l : List ℕ} → All P l → (i : ℕ) → i < length l → P (get_or l i 0)
all_get All.nothing i h = absurd (omega arith)
all_get (All.also x a) zero h = x
all_get (All.also x a) (suc i) h = all_get a i (omega arith)

pub all_map : {P Q : ℕ → Type 0} → ((x : ℕ) → P x → Q x) → {l : List ℕ} → All P l → All Q l
all_map f All.nothing = All.nothing
all_map f (All.also h a) = All.also (f _ h) (all_map f a)

-- What each member has all have,
pub all_by : {P : ℕ → Type 0} (l : List ℕ) → ((x : ℕ) → Memᴰ x l → P x) → All P l
all_by [] f = All.nothing
all_by (x ∷ l) f = All.also (f x (Memᴰ.head refl)) (all_by l (λ y m. f y (Memᴰ.tail m)))

-- and so what stands at each place has.
pub all_index : {P : ℕ → Type 0} (l : List ℕ) → ((i : ℕ) → i < length l → P (get_or l i 0)) → All P l
all_index [] f = All.nothing
all_index (x ∷ l) f = All.also (f 0 (omega arith)) (all_index l (λ i h. f (suc i) (omega arith)))
