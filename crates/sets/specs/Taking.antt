-- Taking numbers out of sets, by bits.
--     without_gone, without_keeps, without_was   what is in `without s i`
--     without_less                               it is a smaller number
--     least_of                                   the least number is that of the zeros below the lowest bit
--     greatest_of                                the greatest number is that of the highest bit
--     beyond_of                                  what is in a and not in b, by the complement of b
--     below_of                                   the numbers below n
--     least_one, greatest_one, beyond_one, below_one   each is one
use Rattle.std.specs.Prelude.{ℕ, zero, suc, ◌+◌, ◌-◌, ◌*◌, ◌/◌, ◌%◌, ◌^◌, ◌≤◌, ◌<◌, true, ◌≡◌, refl}
use Rattle.std.proofs.Common.{sym, ap, ◌∙◌, subst, ⊎_elim, arith, pow-suc, one-mul, mod-eq_of_lt, pow-add, pow_pos, pow_mono}
use Rattle.std.proofs.Math.Nat.{div-div-eq-div-mul}
use Rattle.std.specs.Int.Bits.{bit_and}
use Rattle.std.specs.Int.Count.{count_leading_zeros, count_trailing_zeros, under}
use Rattle.std.proofs.lemmas.Nat.{leading_top}
use Rattle.std.proofs.Math.Pow.{pow-lt}
use Rattle.base.specs.Choices.{below_or}
use Rattle.sets.specs.Bits.{member}
use Rattle.sets.specs.Operations.{without, Below, Least, Greatest, Beyond}
use Rattle.sets.specs.Laws.{bit, bit_small, member_bit, bit_member, and_bit, bit_suc, bit_zero, zero_bit, bit_cases, half_below, same_members}

-- ---- Without a number

-- No bit of 1 is shifted out.
pub shifted : (i : ℕ) → i < 64 → 1 * 2 ^ i % 2 ^ 64 ≡ 2 ^ i
shifted i small = ap (λ (n : ℕ). n % 2 ^ 64) (one-mul (2 ^ i)) ∙ mod-eq_of_lt (pow-lt small)

-- A number with bit i is at least 2 ^ i.
bit_high : (i s : ℕ) → bit s i ≡ 1 → 2 ^ i ≤ s
bit_high zero s e = omega (arith, bit_zero s)
bit_high (suc i) s e = omega (arith, pow-suc 2 i, bit_high i (s / 2) (sym (bit_suc s i) ∙ e))

half_less : (i s : ℕ) → (s - 2 ^ suc i) / 2 ≡ s / 2 - 2 ^ i
half_less i s = omega (arith, pow-suc 2 i)

gone_bit : (i s : ℕ) → bit s i ≡ 1 → bit (s - 2 ^ i) i ≡ 0
gone_bit zero s e = omega (arith, bit_zero s, bit_zero (s - 2 ^ 0))
gone_bit (suc i) s e =
    bit_suc (s - 2 ^ suc i) i ∙ (ap (λ (n : ℕ). bit n i) (half_less i s) ∙ gone_bit i (s / 2) (sym (bit_suc s i) ∙ e))

rest_bit : (i j s : ℕ) → bit s i ≡ 1 → (i ≡ j → ⊥) → bit (s - 2 ^ i) j ≡ bit s j
rest_bit zero zero s e n = absurd (n refl)
rest_bit zero (suc j) s e n =
    let half : (s - 2 ^ 0) / 2 ≡ s / 2 = omega (arith, bit_zero s) in
    bit_suc (s - 2 ^ 0) j ∙ (ap (λ (n : ℕ). bit n j) half ∙ sym (bit_suc s j))
rest_bit (suc i) zero s e n =
    let low : (s - 2 ^ suc i) % 2 ≡ s % 2 = omega (arith, pow-suc 2 i, bit_high (suc i) s e) in
    bit_zero (s - 2 ^ suc i) ∙ (low ∙ sym (bit_zero s))
rest_bit (suc i) (suc j) s e n =
    bit_suc (s - 2 ^ suc i) j
    ∙ (ap (λ (m : ℕ). bit m j) (half_less i s) ∙ (rest_bit i j (s / 2) (sym (bit_suc s i) ∙ e) (λ q. n (ap suc q)) ∙ sym (bit_suc s j)))

pub without_gone : (s i : ℕ) → member s i ≡ true → member (without s i) i ≡ true → ⊥
unfolding without
without_gone s i m h = omega (arith, gone_bit i s (member_bit s i m), member_bit (s - 2 ^ i) i h)

pub without_keeps : (s i j : ℕ) → member s i ≡ true → (i ≡ j → ⊥) → member s j ≡ true → member (without s i) j ≡ true
unfolding without
without_keeps s i j m n h = bit_member (s - 2 ^ i) j (rest_bit i j s (member_bit s i m) n ∙ member_bit s j h)

pub without_was : (s i j : ℕ) → member s i ≡ true → (i ≡ j → ⊥) → member (without s i) j ≡ true → member s j ≡ true
unfolding without
without_was s i j m n h = bit_member s j (sym (rest_bit i j s (member_bit s i m) n) ∙ member_bit (s - 2 ^ i) j h)

pub power_below : (s i : ℕ) → member s i ≡ true → 2 ^ i ≤ s
power_below s i m = bit_high i s (member_bit s i m)

pub without_less : (s i : ℕ) → member s i ≡ true → without s i < s
unfolding without
without_less s i m = omega (arith, power_below s i m, pow_pos i)

-- ---- The least number

least_below : (d s : ℕ) → 0 < s → s < 2 ^ d → count_trailing_zeros d s < d
unfolding count_trailing_zeros
least_below zero s some small = absurd (omega arith)
least_below (suc d) s some small = at (s % 2) refl (λ half. least_below d (s / 2) half (half_below d s small))
  where
    at : (r : ℕ) → s % 2 ≡ r → (0 < s / 2 → count_trailing_zeros d (s / 2) < d) → under r (count_trailing_zeros d (s / 2)) < suc d
    at zero e deep = omega (arith, deep (omega arith))
    at (suc r) e deep = omega arith

least_bit : (d s : ℕ) → 0 < s → s < 2 ^ d → bit s (count_trailing_zeros d s) ≡ 1
unfolding count_trailing_zeros
least_bit zero s some small = absurd (omega arith)
least_bit (suc d) s some small = at (s % 2) refl (λ half. least_bit d (s / 2) half (half_below d s small))
  where
    at : (r : ℕ) → s % 2 ≡ r → (0 < s / 2 → bit (s / 2) (count_trailing_zeros d (s / 2)) ≡ 1) → bit s (under r (count_trailing_zeros d (s / 2))) ≡ 1
    at zero e deep = bit_suc s (count_trailing_zeros d (s / 2)) ∙ deep (omega arith)
    at (suc r) e deep = omega (arith, bit_zero s)

least_none : (d s j : ℕ) → j < count_trailing_zeros d s → bit s j ≡ 0
unfolding count_trailing_zeros
least_none zero s j h = absurd (omega arith)
least_none (suc d) s j h = at (s % 2) refl j (λ i. least_none d (s / 2) i) h
  where
    at : (r : ℕ) → s % 2 ≡ r → (j : ℕ) → ((i : ℕ) → i < count_trailing_zeros d (s / 2) → bit (s / 2) i ≡ 0)
        → j < under r (count_trailing_zeros d (s / 2)) → bit s j ≡ 0
    at zero e zero deep h = bit_zero s ∙ e
    at zero e (suc j) deep h = bit_suc s j ∙ deep j (omega arith)
    at (suc r) e j deep h = absurd (omega arith)

pub least_of : (s : ℕ) → 0 < s → s < 2 ^ 64 → Least s (count_trailing_zeros 64 s)
least_of s some small =
    record {
      below = least_below 64 s some small;
      held = bit_member s (count_trailing_zeros 64 s) (least_bit 64 s some small);
      least = λ j h m. omega (arith, least_none 64 s j h, member_bit s j m);
    }

-- ---- The greatest number

-- A number from 2 ^ j on and below the double has bit j.
top_bit : (s j : ℕ) → 2 ^ j ≤ s → s < 2 ^ suc j → bit s j ≡ 1
top_bit s zero low high = omega (arith, bit_zero s)
top_bit s (suc j) low high =
    bit_suc s j ∙ top_bit (s / 2) j (omega (arith, pow-suc 2 j)) (omega (arith, pow-suc 2 (suc j)))

pub greatest_of : (s : ℕ) → 0 < s → s < 2 ^ 64 → (count_leading_zeros 64 s ≤ 63) × Greatest s (63 - count_leading_zeros 64 s)
greatest_of s some small =
    let top = leading_top 64 s some small in
    let is : top.0 ≡ 63 - count_leading_zeros 64 s = omega (arith, top.1) in (
      omega (arith, top.1),
      subst (Greatest s) is (record {
        below = omega (arith, top.1);
        held = bit_member s top.0 (top_bit s top.0 top.2 top.3);
        greatest = λ j h m. omega (arith, power_below s j m, top.3, pow_mono {i = suc top.0} {j = j} h);
      }),
    )

-- ---- Beyond another set

low_differs : (n b : ℕ) → b < n * 2 → (n * 2 - 1 - b) % 2 + b % 2 ≡ 1
low_differs n b small = omega arith

complement_bit : (d b i : ℕ) → b < 2 ^ d → i < d → bit (2 ^ d - 1 - b) i + bit b i ≡ 1
complement_bit zero b i small h = absurd (omega arith)
complement_bit (suc d) b zero small h =
    let even = pow-suc 2 d in
    let low = subst (λ (n : ℕ). (n - 1 - b) % 2 + b % 2 ≡ 1) (sym even) (low_differs (2 ^ d) b (omega arith)) in
    omega (arith, bit_zero (2 ^ suc d - 1 - b), bit_zero b)
complement_bit (suc d) b (suc i) small h =
    let half : (2 ^ suc d - 1 - b) / 2 ≡ 2 ^ d - 1 - b / 2 = omega (arith, pow-suc 2 d) in
    omega (
      arith,
      bit_suc (2 ^ suc d - 1 - b) i,
      ap (λ (n : ℕ). bit n i) half,
      bit_suc b i,
      complement_bit d (b / 2) i (half_below d b small) (omega arith),
    )

-- A number in a set of 64 is below 64.
pub member_below : (s i : ℕ) → s < 2 ^ 64 → member s i ≡ true → i < 64
member_below s i small m = at 64 s i small (member_bit s i m)
  where
    at : (d s i : ℕ) → s < 2 ^ d → bit s i ≡ 1 → i < d
    at zero s i small e = absurd (omega (arith, bit_high i s e, pow_pos i))
    at (suc d) s zero small e = omega arith
    at (suc d) s (suc i) small e = omega (arith, at d (s / 2) i (half_below d s small) (sym (bit_suc s i) ∙ e))

pub beyond_of : (a b : ℕ) → a < 2 ^ 64 → b < 2 ^ 64 → Beyond a b (bit_and a (2 ^ 64 - 1 - b))
beyond_of a b small low = record { exact = λ i. (forth i, back i) }
  where
    forth : (i : ℕ) → member (bit_and a (2 ^ 64 - 1 - b)) i ≡ true → (member a i ≡ true) × (member b i ≡ true → ⊥)
    forth i m =
        let both = member_bit (bit_and a (2 ^ 64 - 1 - b)) i m in
        let is = and_bit a (2 ^ 64 - 1 - b) i in
        let one : bit a i ≡ 1 = omega (arith, bit_small a i, bit_small (2 ^ 64 - 1 - b) i) in
        let here = bit_member a i one in (
          here,
          λ h.
              omega (
                arith,
                both,
                is,
                bit_small a i,
                bit_small (2 ^ 64 - 1 - b) i,
                complement_bit 64 b i low (member_below a i small here),
                member_bit b i h,
              ),
        )

    back : (i : ℕ) → (member a i ≡ true) × (member b i ≡ true → ⊥) → member (bit_and a (2 ^ 64 - 1 - b)) i ≡ true
    back i h =
        bit_member (bit_and a (2 ^ 64 - 1 - b)) i
        (⊎_elim
        (λ one. absurd (h.1 (bit_member b i one)))
        (λ none.
        omega
        (arith, and_bit a (2 ^ 64 - 1 - b) i, member_bit a i h.0, complement_bit 64 b i low (member_below a i small h.0)))
        (bit_cases b i _ refl))

-- ---- The numbers below another

low_bit : (n i : ℕ) → i < n → bit (2 ^ n - 1) i ≡ 1
low_bit zero i h = absurd (omega arith)
low_bit (suc n) zero h = omega (arith, bit_zero (2 ^ suc n - 1), pow-suc 2 n, pow_pos n)
low_bit (suc n) (suc i) h =
    let half : (2 ^ suc n - 1) / 2 ≡ 2 ^ n - 1 = omega (arith, pow-suc 2 n, pow_pos n) in
    bit_suc (2 ^ suc n - 1) i ∙ (ap (λ (m : ℕ). bit m i) half ∙ low_bit n i (omega arith))

high_bit : (n i : ℕ) → bit (2 ^ n - 1) i ≡ 1 → i < n
high_bit zero i e = absurd (omega (arith, zero_bit i))
high_bit (suc n) zero e = omega arith
high_bit (suc n) (suc i) e =
    let half : (2 ^ suc n - 1) / 2 ≡ 2 ^ n - 1 = omega (arith, pow-suc 2 n, pow_pos n) in
    omega (arith, high_bit n i (sym (bit_suc (2 ^ suc n - 1) i ∙ ap (λ (m : ℕ). bit m i) half) ∙ e))

shift_bit : (s j i : ℕ) → bit (s / 2 ^ j) i ≡ bit s (j + i)
shift_bit s j i =
    ap (λ (n : ℕ). n % 2) (div-div-eq-div-mul s (2 ^ j) (2 ^ i) ∙ ap (λ (n : ℕ). s / n) (sym (pow-add 2 j i)))

pub below_of : (n : ℕ) → n ≤ 64 → Below n ((2 ^ 64 - 1) / 2 ^ (64 - n))
below_of n most =
    record {
      exact = λ i. (
        λ m.
            let e = sym (shift_bit (2 ^ 64 - 1) (64 - n) i) ∙ member_bit ((2 ^ 64 - 1) / 2 ^ (64 - n)) i m in
            omega (arith, high_bit 64 (64 - n + i) e),
        λ h.
            bit_member ((2 ^ 64 - 1) / 2 ^ (64 - n)) i
            (shift_bit (2 ^ 64 - 1) (64 - n) i ∙ low_bit 64 (64 - n + i) (omega arith)),
      );
    }

-- ---- Only one answer

pub least_one : {s i j : ℕ} → Least s i → Least s j → i ≡ j
least_one {s} {i} {j} a b =
    ⊎_elim (λ less. absurd (b.least i less a.held))
    (λ more. ⊎_elim (λ less. absurd (a.least j less b.held)) (λ less. omega arith) (below_or j i)) (below_or i j)

pub greatest_one : {s i j : ℕ} → Greatest s i → Greatest s j → i ≡ j
greatest_one {s} {i} {j} a b =
    ⊎_elim (λ less. absurd (a.greatest j less b.held))
    (λ more. ⊎_elim (λ less. absurd (b.greatest i less a.held)) (λ less. omega arith) (below_or j i)) (below_or i j)

pub beyond_one : {a b r q : ℕ} → Beyond a b r → Beyond a b q → r < 2 ^ 64 → q < 2 ^ 64 → r ≡ q
beyond_one {r = r} {q} f g l m =
    same_members 64 r q l m (λ i h. (g.exact i).1 ((f.exact i).0 h)) (λ i h. (f.exact i).1 ((g.exact i).0 h))

pub below_one : {n r q : ℕ} → Below n r → Below n q → r < 2 ^ 64 → q < 2 ^ 64 → r ≡ q
below_one {r = r} {q} f g l m =
    same_members 64 r q l m (λ i h. (g.exact i).1 ((f.exact i).0 h)) (λ i h. (f.exact i).1 ((g.exact i).0 h))
