-- What the test of the unused words looks at: bytes joined into one that is zero exactly where they are, and the part of a block
-- that holds those words.
--     joined_begins, joined_goes, joined_tells     the joined byte, one byte more, all of them
--     part_tells                                   the part is zero exactly where the unused words are
use Prim.Native.Nat.{ℕ, ◌+◌, ◌*◌, ◌-◌, ◌/◌, ◌%◌, ◌≤◌, ◌<◌}
use native.Mathlib.Omega.{arith}
use mathlib.Core.Bool.{Bool}
use mathlib.Core.Path.{◌≡◌, sym, ap, ◌∙◌}
use mathlib.Core.List.{List}
use mathlib.Core.Logic.{⊎_elim}
use borrow.Author.Count.{below_more}
use lib.Bits.{bit_or, or_add_and, and_le_l, and_le_r, or_zero_l}
use lib.Dec.{eqb}
use lib.ListN.{length, get_or, take, drop, length-drop}
use lib.Seq.{get_or-take, get_or-drop, length-take-le}
use Rattle.base.specs.Telling.{Tells, tells_as, tells_eq, below_or_not}
use Rattle.grammar.specs.File.{block_word}
use Rattle.file.specs.Answer.{AllZero, UnusedZero}

-- ---- Bytes joined into one

-- The bytes in front of i are joined in `all`, which is zero exactly where they are.
pub record Joined (bytes : List ℕ) (i all : ℕ) : Type 0 where
  pub zeros : all ≡ 0 → (j : ℕ) → j < i → get_or bytes j 0 ≡ 0
  pub zero : ((j : ℕ) → j < i → get_or bytes j 0 ≡ 0) → all ≡ 0

or_left : (a b : ℕ) → bit_or a b ≡ 0 → a ≡ 0
or_left a b e = omega (arith, or_add_and a b, and_le_r a b)

or_right : (a b : ℕ) → bit_or a b ≡ 0 → b ≡ 0
or_right a b e = omega (arith, or_add_and a b, and_le_l a b)

pub joined_begins : (bytes : List ℕ) → Joined bytes 0 0
joined_begins bytes = record { zeros = λ _ j l. absurd (omega arith); zero = λ _. omega arith }

pub joined_goes : {bytes : List ℕ} {i all : ℕ} → Joined bytes i all → Joined bytes (i + 1) (bit_or all (get_or bytes i 0))
joined_goes {bytes} {i} {all} r =
    let next : ℕ = get_or bytes i 0 in
    record {
      zeros = λ none. below_more _ _ (r.zeros (or_left all next none)) (or_right all next none);
      zero = λ each.
          ap (λ (a : ℕ). bit_or a next) (r.zero (λ j l. each j (omega arith)))
          ∙ (or_zero_l next ∙ each i (omega arith));
    }

pub joined_tells : {bytes : List ℕ} {i all : ℕ} → Joined bytes i all → i ≡ length bytes → Tells (AllZero bytes) (eqb all 0)
joined_tells {all = all} r end =
    tells_eq all 0 (λ none j l. r.zeros none j (omega arith)) (λ each. r.zero (λ j l. each j (omega arith)))

-- ---- The part of block k behind the used words

module _ (bytes : List ℕ) (k used size : ℕ) where
  -- The byte where the first unused word stands.
  abbrev begin : ℕ
  begin = 512 * k + 4 + 2 * used

  -- So many bytes from there on. The unused words are those in front of the block's check.
  abbrev part : List ℕ
  part = take size (drop begin bytes)

  part_at : (j : ℕ) → j < size → get_or part j 0 ≡ get_or bytes (begin + j) 0
  part_at j l = get_or-take size (drop begin bytes) j 0 l ∙ get_or-drop begin bytes j 0

  -- Byte j of the part is one of the two of word `used + j / 2`.
  unused_at : UnusedZero bytes k used → (j : ℕ) → begin + j < 512 * k + 510 → get_or bytes (begin + j) 0 ≡ 0
  unused_at zero j l =
      let word : block_word bytes k (used + j / 2) ≡ 0 = zero (used + j / 2) (omega arith) (omega arith) in
      ⊎_elim
      (λ even.
      let here : begin + j ≡ 512 * k + 4 + 2 * (used + j / 2) = omega arith in
      ap (λ (p : ℕ). get_or bytes p 0) here ∙ omega arith)
      (λ odd.
      let here : begin + j ≡ 512 * k + 4 + 2 * (used + j / 2) + 1 = omega arith in
      ap (λ (p : ℕ). get_or bytes p 0) here ∙ omega arith)
      (below_or_not (j % 2) 1)

  module _ (ends : begin + size ≡ 512 * k + 510) (room : 512 * k + 510 ≤ length bytes) where
    part_length : length part ≡ size
    part_length = omega (arith, length-take-le size (drop begin bytes) (omega (arith, length-drop begin bytes)))

    part_unused : AllZero part → UnusedZero bytes k used
    part_unused zero i above below =
        let low : get_or bytes (begin + 2 * (i - used)) 0 ≡ 0 = at (2 * (i - used)) (omega arith) in
        let high : get_or bytes (begin + (2 * (i - used) + 1)) 0 ≡ 0 = at (2 * (i - used) + 1) (omega arith) in
        let first : begin + 2 * (i - used) ≡ 512 * k + 4 + 2 * i = omega arith in
        let second : begin + (2 * (i - used) + 1) ≡ 512 * k + 4 + 2 * i + 1 = omega arith in
        omega (arith, ap (λ (p : ℕ). get_or bytes p 0) first, ap (λ (p : ℕ). get_or bytes p 0) second)
      where
        at : (j : ℕ) → j < size → get_or bytes (begin + j) 0 ≡ 0
        at j l = sym (part_at j l) ∙ zero j (omega (arith, part_length))

    unused_part : UnusedZero bytes k used → AllZero part
    unused_part zero j l = part_at j (omega (arith, part_length)) ∙ unused_at zero j (omega (arith, part_length))

    -- The test of the part tells whether the unused words are zero.
    pub part_tells : {r : Bool} → Tells (AllZero part) r → Tells (UnusedZero bytes k used) r
    part_tells = tells_as part_unused unused_part
