-- The laws of sets as the bits of a number, each over all numbers.
--     empty_none                                nothing is in the empty set
--     with_same, with_keeps, with_cases         what is in `with s i`
--     union_left, union_right, union_cases      what is in `union a b`
--     with_grows, union_grows                   neither makes the number smaller
--     union_none                                the empty set adds nothing
--     with_unchanged, union_unchanged           where they change nothing, what was added was there
--     some_member                               a set that is not 0 has a member
--     same_members                              numbers of k bits with the same members are one
use Rattle.std.specs.Prelude.{ℕ, zero, suc, ◌/◌, ◌%◌, ◌^◌, ◌≤◌, ◌<◌, max, min, true, ◌≡◌, refl, ◌⊎◌, eqb}
use Rattle.std.proofs.Common.{sym, ap, ◌∙◌, subst, inl, inr, arith, pow-suc, div-one, div-add-mod', mod-lt, zero-lt-suc, mul_comm, eqb-true, eq-eqb}
use Rattle.std.proofs.Math.Nat.{zero-div, div-div-eq-div-mul}
use Rattle.std.proofs.Math.Arith.{digits_mod}
use Rattle.std.specs.Int.Bits.{bit_or, bit_and, or_step, or_add_and, or_zero_r, and_step}
use Rattle.std.proofs.lemmas.Nat.{or_shr, and_le_l, and_le_r, and_shr}
use Rattle.sets.specs.Bits.{member}
use Rattle.sets.specs.Operations.{with, union, Shared}

-- ---- Bits

-- Bit i of s.
abbrev pub bit : ℕ → ℕ → ℕ
bit s i = s / 2 ^ i % 2

pub bit_small : (s i : ℕ) → bit s i < 2
bit_small s i = mod-lt (s / 2 ^ i) (zero-lt-suc 1)

pub member_bit : (s i : ℕ) → member s i ≡ true → bit s i ≡ 1
unfolding member
member_bit s i m = eqb-true (bit s i) 1 m

pub bit_member : (s i : ℕ) → bit s i ≡ 1 → member s i ≡ true
unfolding member
bit_member s i e = eq-eqb (bit s i) 1 e

or_low : (a b : ℕ) → bit_or a b % 2 ≡ max (a % 2) (b % 2)
or_low a b =
    let small : max (a % 2) (b % 2) < 2 = omega (arith, mod-lt a (zero-lt-suc 1), mod-lt b (zero-lt-suc 1)) in
    ap (λ (n : ℕ). n % 2) (or_step a b) ∙ digits_mod (bit_or (a / 2) (b / 2)) small

and_low : (a b : ℕ) → bit_and a b % 2 ≡ min (a % 2) (b % 2)
and_low a b =
    let small : min (a % 2) (b % 2) < 2 = omega (arith, mod-lt a (zero-lt-suc 1), mod-lt b (zero-lt-suc 1)) in
    ap (λ (n : ℕ). n % 2) (and_step a b) ∙ digits_mod (bit_and (a / 2) (b / 2)) small

or_bit : (a b i : ℕ) → bit (bit_or a b) i ≡ max (bit a i) (bit b i)
or_bit a b i = ap (λ (n : ℕ). n % 2) (or_shr a b i) ∙ or_low (a / 2 ^ i) (b / 2 ^ i)

pub and_bit : (a b i : ℕ) → bit (bit_and a b) i ≡ min (bit a i) (bit b i)
and_bit a b i = ap (λ (n : ℕ). n % 2) (and_shr a b i) ∙ and_low (a / 2 ^ i) (b / 2 ^ i)

-- Bit i + 1 is bit i of the half.
pub bit_suc : (s i : ℕ) → bit s (suc i) ≡ bit (s / 2) i
bit_suc s i =
    ap (λ (n : ℕ). n % 2)
    (ap (λ (n : ℕ). s / n) (pow-suc 2 i ∙ mul_comm (2 ^ i) 2) ∙ sym (div-div-eq-div-mul s 2 (2 ^ i)))

pub bit_zero : (s : ℕ) → bit s 0 ≡ s % 2
bit_zero s = ap (λ (n : ℕ). n % 2) (div-one s)

pub zero_bit : (i : ℕ) → bit 0 i ≡ 0
zero_bit i = ap (λ (n : ℕ). n % 2) (zero-div (2 ^ i))

half_pow : (i : ℕ) → 2 ^ suc i / 2 ≡ 2 ^ i
half_pow i = omega (arith)

even_pow : (i : ℕ) → 2 ^ suc i % 2 ≡ 0
even_pow i = omega (arith)

-- Bit i is the only one of 2 ^ i.
power_bit : (i : ℕ) → bit (2 ^ i) i ≡ 1
power_bit zero = refl
power_bit (suc i) = bit_suc (2 ^ suc i) i ∙ ap (λ (n : ℕ). bit n i) (half_pow i) ∙ power_bit i

power_only : (i j : ℕ) → bit (2 ^ i) j ≡ 1 → i ≡ j
power_only zero zero e = refl
power_only zero (suc j) e = absurd (omega (arith, sym e ∙ bit_suc 1 j ∙ zero_bit j))
power_only (suc i) zero e = absurd (omega (arith, sym e ∙ bit_zero (2 ^ suc i) ∙ even_pow i))
power_only (suc i) (suc j) e =
    ap suc (power_only i j (sym (bit_suc (2 ^ suc i) j ∙ ap (λ (n : ℕ). bit n j) (half_pow i)) ∙ e))

-- ---- What is in a set

pub empty_none : (i : ℕ) → member 0 i ≡ true → ⊥
empty_none i m = omega (arith, sym (member_bit 0 i m) ∙ zero_bit i)

pub union_left : (a b i : ℕ) → member a i ≡ true → member (union a b) i ≡ true
unfolding union
union_left a b i m = bit_member _ i (omega (arith, or_bit a b i, member_bit a i m, bit_small b i))

pub union_right : (a b i : ℕ) → member b i ≡ true → member (union a b) i ≡ true
unfolding union
union_right a b i m = bit_member _ i (omega (arith, or_bit a b i, member_bit b i m, bit_small a i))

pub bit_cases : (s i : ℕ) (n : ℕ) → bit s i ≡ n → (bit s i ≡ 1) ⊎ (bit s i ≡ 0)
bit_cases s i zero e = inr e
bit_cases s i (suc zero) e = inl e
bit_cases s i (suc (suc n)) e = absurd (omega (arith, bit_small s i))

or_cases : (a b i : ℕ) → bit (bit_or a b) i ≡ 1 → (bit a i ≡ 1) ⊎ (bit a i ≡ 0)
    → (member a i ≡ true) ⊎ (member b i ≡ true)
or_cases a b i e (inl one) = inl (bit_member a i one)
or_cases a b i e (inr none) = inr (bit_member b i (omega (arith, or_bit a b i, bit_small b i)))

pub union_cases : (a b i : ℕ) → member (union a b) i ≡ true → (member a i ≡ true) ⊎ (member b i ≡ true)
unfolding union
union_cases a b i m = or_cases a b i (member_bit _ i m) (bit_cases a i _ refl)

pub with_same : (s i : ℕ) → member (with s i) i ≡ true
unfolding with union
with_same s i = union_right s (2 ^ i) i (bit_member (2 ^ i) i (power_bit i))

pub with_keeps : (s i j : ℕ) → member s j ≡ true → member (with s i) j ≡ true
unfolding with union
with_keeps s i j m = union_left s (2 ^ i) j m

which : (s i j : ℕ) → (member s j ≡ true) ⊎ (member (2 ^ i) j ≡ true) → (i ≡ j) ⊎ (member s j ≡ true)
which s i j (inl old) = inr old
which s i j (inr new) = inl (power_only i j (member_bit (2 ^ i) j new))

pub with_cases : (s i j : ℕ) → member (with s i) j ≡ true → (i ≡ j) ⊎ (member s j ≡ true)
unfolding with union
with_cases s i j m = which s i j (union_cases s (2 ^ i) j m)

-- ---- The numbers

pub union_grows : (a b : ℕ) → a ≤ union a b
unfolding union
union_grows a b = omega (arith, or_add_and a b, and_le_r a b)

pub union_grows_right : (a b : ℕ) → b ≤ union a b
unfolding union
union_grows_right a b = omega (arith, or_add_and a b, and_le_l a b)

pub with_grows : (s i : ℕ) → s ≤ with s i
unfolding with union
with_grows s i = union_grows s (2 ^ i)

pub union_none : (a : ℕ) → union a 0 ≡ a
unfolding union
union_none a = or_zero_r a

pub union_unchanged : (a b : ℕ) → union a b ≡ a → (i : ℕ) → member b i ≡ true → member a i ≡ true
union_unchanged a b e i m = subst (λ (s : ℕ). member s i ≡ true) e (union_right a b i m)

pub with_unchanged : (s i : ℕ) → with s i ≡ s → member s i ≡ true
with_unchanged s i e = subst (λ (n : ℕ). member n i ≡ true) e (with_same s i)

pub half_below : (k a : ℕ) → a < 2 ^ suc k → a / 2 < 2 ^ k
half_below k a h = omega (arith, pow-suc 2 k)

member_suc : (s i : ℕ) → member s (suc i) ≡ member (s / 2) i
unfolding member
member_suc s i = ap (λ (n : ℕ). eqb n 1) (bit_suc s i)

-- ---- Common members

-- Some number below k is in the set.
pub record Some (k s : ℕ) : Type 0 where
  pub number : ℕ
  pub below : number < k
  pub held : member s number ≡ true

-- It is the lowest bit, or one of the half.
low_or_half : (k s : ℕ) → 0 < s → (bit s 0 ≡ 1) ⊎ (bit s 0 ≡ 0) → (0 < s / 2 → Some k (s / 2)) → Some (suc k) s
low_or_half k s pos (inl one) deeper = record { number = 0; below = omega arith; held = bit_member s 0 one }
low_or_half k s pos (inr none) deeper =
    let at = deeper (omega (arith, bit_zero s, div-add-mod' s 2)) in
    record { number = suc at.number; below = omega arith; held = member_suc s at.number ∙ at.held }

-- A set that is not 0 has a member.
pub some_member : (k s : ℕ) → s < 2 ^ k → 0 < s → Some k s
some_member zero s small pos = absurd (omega arith)
some_member (suc k) s small pos =
    low_or_half k s pos (bit_cases s 0 _ refl) (λ deep. some_member k (s / 2) (half_below k s small) deep)

-- The common members of a and b are those of `bit_and a b`.
pub shared_some : (a b : ℕ) → Some 64 (bit_and a b) → Shared a b
shared_some a b at =
    let i = at.number in
    let both = member_bit (bit_and a b) i at.held in
    record {
      number = i;
      below = at.below;
      left = bit_member a i (omega (arith, and_bit a b i, bit_small a i, bit_small b i));
      right = bit_member b i (omega (arith, and_bit a b i, bit_small a i, bit_small b i));
    }

pub shared_none : (a b : ℕ) → bit_and a b ≡ 0 → Shared a b → ⊥
shared_none a b none both =
    let i = both.number in
    let apart = sym (and_bit a b i) ∙ ap (λ (n : ℕ). bit n i) none ∙ zero_bit i in
    omega (arith, apart, member_bit a i both.left, member_bit b i both.right)

-- ---- Sets with the same members

same_bits : (k a b : ℕ) → a < 2 ^ k → b < 2 ^ k → ((i : ℕ) → bit a i ≡ bit b i) → a ≡ b
same_bits zero a b l m f = omega arith
same_bits (suc k) a b l m f =
    let half : a / 2 ≡ b / 2 =
    same_bits k (a / 2) (b / 2) (half_below k a l) (half_below k b m) (λ i. sym (bit_suc a i) ∙ (f (suc i) ∙ bit_suc b i)) in
    let low : a % 2 ≡ b % 2 = sym (bit_zero a) ∙ (f 0 ∙ bit_zero b) in
    omega (arith, div-add-mod' a 2, div-add-mod' b 2)

same_bit : (a b i : ℕ) → (member a i ≡ true → member b i ≡ true) → (member b i ≡ true → member a i ≡ true) → (bit a i ≡ 1) ⊎ (bit a i ≡ 0)
    → (bit b i ≡ 1) ⊎ (bit b i ≡ 0) → bit a i ≡ bit b i
same_bit a b i f g (inl x) (inl y) = x ∙ sym y
same_bit a b i f g (inl x) (inr y) = absurd (omega (arith, member_bit b i (f (bit_member a i x))))
same_bit a b i f g (inr x) (inl y) = absurd (omega (arith, member_bit a i (g (bit_member b i y))))
same_bit a b i f g (inr x) (inr y) = x ∙ sym y

pub same_members : (k a b : ℕ) → a < 2 ^ k → b < 2 ^ k → ((i : ℕ) → member a i ≡ true → member b i ≡ true)
    → ((i : ℕ) → member b i ≡ true → member a i ≡ true) → a ≡ b
same_members k a b l m f g = same_bits k a b l m (λ i. same_bit a b i (f i) (g i) (bit_cases a i _ refl) (bit_cases b i _ refl))
