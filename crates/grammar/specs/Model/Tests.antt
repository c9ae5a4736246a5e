-- Boolean tests and what they say: `T b` is the statement that the test b passes.
use Rattle.std.specs.Prelude.{ℕ, ◌≤◌, ◌≡◌, Bool, true, false, ◌&&◌, ◌||◌, ◌⊎◌, T, eqb, ltb}
use Rattle.std.proofs.Common.{subst, inl, inr, ⊎_elim, arith, eqb→eq, ltb→lt}
use mathlib.Core.List.{List, [], ◌∷◌, Memᴰ}
use Rattle.std.proofs.Math.Option.{none, some}
use Rattle.std.proofs.Math.Dec.{eqb_refl}
use Rattle.grammar.specs.Derivation.{All}

pub both : (a b : Bool) → T a → T b → T (a && b)
both true b x y = y
both false b x y = elim x [ ]

pub left_of : (a b : Bool) → T (a && b) → T a
left_of true b h = tt
left_of false b h = elim h [ ]

pub right_of_lem : (a b : Bool) → T (a && b) → T b
right_of_lem true b h = h
right_of_lem false b h = elim h [ ]

pub one_of : (a b : Bool) → T (a || b) → T a ⊎ T b
one_of true b h = inl tt
one_of false b h = inr h

pub or_left : (a b : Bool) → T a → T (a || b)
or_left true b h = tt
or_left false b h = elim h [ ]

pub or_right : (a b : Bool) → T b → T (a || b)
or_right true b h = tt
or_right false b h = h

-- Nothing is not something, and two that are the same hold the same.
pub none_some : {A : Type 0} {a : A} → none ≡ some a → ⊥
none_some e = let z : ◌≡◌ {A = ℕ} 0 1 = cc in omega arith

pub some_same : {A : Type 0} {a b : A} → some a ≡ some b → a ≡ b
some_same e = cc

-- A test passes or it does not.
pub passes_or_not : (b : Bool) → T b ⊎ (T b → ⊥)
passes_or_not true = inl tt
passes_or_not false = inr (λ h. h)

pub equal_passes : (m n : ℕ) → m ≡ n → T (eqb m n)
equal_passes m n e = subst (λ k. T (eqb m k)) e (eqb_refl m)

pub not_below : (x n : ℕ) → T (ltb x n) → n ≤ x → ⊥
not_below x n h l = let k = ltb→lt x n h in omega arith

-- x stands in l.
unfoldable pub holds : List ℕ → ℕ → Bool
holds [] x = false
holds (y ∷ l) x = eqb x y || holds l x

pub holds_member : (l : List ℕ) (x : ℕ) → T (holds l x) → Memᴰ x l
unfolding holds
holds_member (y ∷ l) x h =
    ⊎_elim (λ e. Memᴰ.head (eqb→eq x y e)) (λ k. Memᴰ.tail (holds_member l x k)) (one_of (eqb x y) (holds l x) h)
holds_member [] x h = elim h [ ]

pub member_holds : {x : ℕ} {l : List ℕ} → Memᴰ x l → T (holds l x)
unfolding holds
member_holds {x = x} (Memᴰ.head {x = y} {xs = l} e) = or_left (eqb x y) (holds l x) (equal_passes x y e)
member_holds {x = x} (Memᴰ.tail {x = y} {xs = l} m) = or_right (eqb x y) (holds l x) (member_holds m)

-- Every member of the list passes f.
unfoldable pub every : (ℕ → Bool) → List ℕ → Bool
every f [] = true
every f (x ∷ l) = f x && every f l

pub every_all : (f : ℕ → Bool) (l : List ℕ) → T (every f l) → All (λ x. T (f x)) l
unfolding every
every_all f [] h = All.nothing
every_all f (x ∷ l) h = All.also (left_of (f x) (every f l) h) (every_all f l (right_of_lem (f x) (every f l) h))

pub all_every : (f : ℕ → Bool) {l : List ℕ} → All (λ x. T (f x)) l → T (every f l)
unfolding every
all_every f All.nothing = tt
all_every f (All.also {x = x} {l = l} h a) = both (f x) (every f l) h (all_every f a)
