-- Laws about the file of words, request (i): how long it is, where each number of it stands, and that all of it is bytes.
--     bytes_length, bytes_append, pair_of, bytes_below     numbers as bytes
--     fields_length, block_length, file_size               how long the numbers of a block, a block and the file are
--     in_file, number_at                                   each byte and each number of block k stands there in the file
--     blocks_below                                         all of it is bytes
use Prim.Native.Nat.{ℕ, zero, suc, ◌+◌, ◌*◌, ◌/◌, ◌%◌, ◌-◌, ◌≤◌, ◌<◌}
use Rattle.std.proofs.Common.{not-suc-le-zero, le_of_suc-le-suc, eq-or-lt_of_le, sym, ap₂, ◌∙◌, ⊎_elim, length-append, length-drop, length-take-le, take_all, get_or-append-add, get_or-take, get_or-drop}
use native.Mathlib.Omega.{arith}
use Rattle.std.specs.Prelude.{◌≡◌, refl, get_or, take, drop, replicate}
use Rattle.std.proofs.Math.Path.{ap, subst}
use mathlib.Core.List.{List, [], ◌∷◌, ◌++◌, append_assoc}
use Rattle.std.proofs.Math.ListN.{length, get_or-append, get_or-eq_default}
use Rattle.std.proofs.lemmas.List.{length-replicate, replicate-append-replicate}
use Rattle.std.proofs.Math.Seq.{take-append_seam, drop-append-add}
use Rattle.base.specs.Telling.{below_or_not}
use Rattle.base.specs.Written.{written, drop_zeros}
use Rattle.grammar.specs.Buffers.{filled}
use Rattle.grammar.specs.File.{pair_at, block_check}
use Rattle.grammar.specs.Writing.{bytes_of, held_by, fields_of, block_of, first_blocks, blocks_for, blocks_of}
use Rattle.grammar.specs.Theory.OnlyFile.{Below}

-- ---- Numbers as bytes

pub bytes_length : (ns : List ℕ) → length (bytes_of ns) ≡ 2 * length ns
unfolding bytes_of
bytes_length [] = refl
bytes_length (n ∷ ns) = let rest = bytes_length ns in omega arith

pub bytes_append : (ns ms : List ℕ) → bytes_of (ns ++ ms) ≡ bytes_of ns ++ bytes_of ms
unfolding bytes_of
bytes_append [] ms = refl
bytes_append (n ∷ ns) ms = ap (λ (t : List ℕ). n % 256 ∷ n / 256 ∷ t) (bytes_append ns ms)

-- Number j stands in bytes 2j and 2j + 1.
pub pair_of : (ns : List ℕ) (j : ℕ) → pair_at (bytes_of ns) (2 * j) ≡ get_or ns j 0
unfolding bytes_of
pair_of [] j = refl
pair_of (n ∷ ns) zero = omega arith
pair_of (n ∷ ns) (suc j) =
    let place : 2 * suc j ≡ suc (suc (2 * j)) = omega arith in
    let next : 2 * suc j + 1 ≡ suc (suc (2 * j + 1)) = omega arith in
    ap₂ (λ (p q : ℕ). get_or (bytes_of (n ∷ ns)) p 0 + 256 * get_or (bytes_of (n ∷ ns)) q 0) place next ∙ pair_of ns j

pub bytes_below : (ns : List ℕ) → Below 65536 ns → Below 256 (bytes_of ns)
unfolding bytes_of
bytes_below [] small i = omega arith
bytes_below (n ∷ ns) small zero = omega arith
bytes_below (n ∷ ns) small (suc zero) = omega (arith, small 0)
bytes_below (n ∷ ns) small (suc (suc i)) = bytes_below ns (λ j. small (suc j)) i

-- ---- What a buffer holds behind its content

zeros_at : (n i : ℕ) → ◌≡◌ {A = ℕ} (get_or (replicate n 0) i 0) 0
zeros_at zero i = refl
zeros_at (suc n) zero = refl
zeros_at (suc n) (suc i) = zeros_at n i

zeros_behind : (ns : List ℕ) (n i : ℕ) → get_or (ns ++ replicate n 0) i 0 ≡ get_or ns i 0
zeros_behind [] n i = zeros_at n i
zeros_behind (x ∷ ns) n zero = refl
zeros_behind (x ∷ ns) n (suc i) = zeros_behind ns n i

pub filled_at : (room : ℕ) (ns : List ℕ) (i : ℕ) → get_or (filled room ns) i 0 ≡ get_or ns i 0
unfolding filled
filled_at room ns i = zeros_behind ns (room - length ns) i

pub filled_length : (room : ℕ) (ns : List ℕ) → length ns ≤ room → length (filled room ns) ≡ room
unfolding filled
filled_length room ns l = simp length-append (omega (arith, length-replicate {A = ℕ} (room - length ns) 0))

-- A list written behind the content.
pub filled_more : (room : ℕ) (front new : List ℕ) → written (filled room front) (length front) new ≡ filled room (front ++ new)
unfolding written filled
filled_more room front new =
    let zeros : List ℕ = replicate (room - length front) 0 in
    let left : room - length front - length new ≡ room - length (front ++ new) = simp length-append (omega arith) in
    ap₂ (λ (a b : List ℕ). a ++ (new ++ b)) (take-append_seam front zeros)
    (drop-append-add front zeros (length new)
    ∙ (drop_zeros (length new) (room - length front) ∙ ap (λ (n : ℕ). replicate n 0) left))
    ∙ sym (append_assoc front new (replicate (room - length (front ++ new)) 0))

-- Zeros behind the content are there already.
pub filled_zeros : (room : ℕ) (ns : List ℕ) (m : ℕ) → length ns + m ≤ room → filled room (ns ++ replicate m 0) ≡ filled room ns
unfolding filled
filled_zeros room ns m l =
    let size : length (ns ++ replicate m 0) ≡ length ns + m =
    length-append ns (replicate m 0) ∙ ap (λ (n : ℕ). length ns + n) (length-replicate {A = ℕ} m 0) in
    let all : m + (room - length (ns ++ replicate m 0)) ≡ room - length ns = omega (arith, size) in
    append_assoc ns (replicate m 0) _
    ∙ ap (λ (t : List ℕ). ns ++ t)
    (replicate-append-replicate m (room - length (ns ++ replicate m 0)) 0 ∙ ap (λ (n : ℕ). replicate n 0) all)

pub bytes_zeros : (m : ℕ) → bytes_of (replicate m 0) ≡ replicate (2 * m) 0
unfolding bytes_of
bytes_zeros zero = refl
bytes_zeros (suc m) =
    let twice : suc (suc (2 * m)) ≡ 2 * suc m = omega arith in
    ap (λ (t : List ℕ). 0 ∷ 0 ∷ t) (bytes_zeros m) ∙ ap (λ (n : ℕ). replicate n 0) twice

-- ---- The words of a block, which stand in the list from a place on

module _ (ws : List ℕ) (from : ℕ) where
  pub held_full : from + 253 ≤ length ws → length (take 253 (drop from ws)) ≡ 253
  held_full l = length-take-le 253 (drop from ws) (omega (arith, length-drop from ws))

  pub held_last : length ws ≤ from + 253 → length (take 253 (drop from ws)) ≡ length ws - from
  held_last l = ap length (take_all 253 (drop from ws) (omega (arith, length-drop from ws))) ∙ length-drop from ws

  pub held_most : length (take 253 (drop from ws)) ≤ 253
  held_most =
      ⊎_elim (λ less. let held = held_last (omega arith) in omega arith) (λ more. let held = held_full more in omega arith)
      (below_or_not (length ws) (from + 253))

  pub held_at : (i : ℕ) → i < 253 → get_or (take 253 (drop from ws)) i 0 ≡ get_or ws (from + i) 0
  held_at i l = get_or-take 253 (drop from ws) i 0 l ∙ get_or-drop from ws i 0

module _ (ws : List ℕ) (k : ℕ) where
  -- ---- A block

  pub fields_length : length (fields_of ws k) ≡ 255
  unfolding fields_of
  fields_length = ap (λ (n : ℕ). suc (suc n)) (filled_length 253 (held_by ws k) (held_most ws (253 * k)))

  -- The bytes in front of the check: those of the numbers that are used, and zeros.
  pub fields_used : bytes_of (fields_of ws k)
      ≡ bytes_of (k ∷ length (held_by ws k) ∷ held_by ws k) ++ replicate (2 * (253 - length (held_by ws k))) 0
  unfolding fields_of filled
  fields_used =
      let held : List ℕ = held_by ws k in
      bytes_append (k ∷ length held ∷ held) (replicate (253 - length held) 0)
      ∙ ap (λ (t : List ℕ). bytes_of (k ∷ length held ∷ held) ++ t) (bytes_zeros (253 - length held))

  pub fields_behind : (i : ℕ) → 4 + 2 * length (held_by ws k) ≤ i → get_or (bytes_of (fields_of ws k)) i 0 ≡ 0
  fields_behind i l =
      let held : List ℕ = held_by ws k in
      let ns : List ℕ = k ∷ length held ∷ held in
      ap (λ (b : List ℕ). get_or b i 0) fields_used
      ∙ (zeros_behind (bytes_of ns) (2 * (253 - length held)) i
      ∙ get_or-eq_default (bytes_of ns) 0 (omega (arith, bytes_length ns)))

  -- The block's check.
  abbrev pub check_of : ℕ
  check_of = block_check (bytes_of (fields_of ws k)) 0

  -- All numbers of the block.
  abbrev pub numbers_of : List ℕ
  numbers_of = fields_of ws k ++ (check_of ∷ [])

  numbers_length : length numbers_of ≡ 256
  numbers_length = simp length-append (omega (arith, fields_length))

  pub block_length : length (block_of ws k) ≡ 512
  unfolding block_of
  block_length = omega (arith, bytes_length numbers_of, numbers_length)

  pub block_splits : block_of ws k ≡ bytes_of (fields_of ws k) ++ bytes_of (check_of ∷ [])
  unfolding block_of
  block_splits = bytes_append (fields_of ws k) (check_of ∷ [])

  block_number_lem : (j : ℕ) → pair_at (block_of ws k) (2 * j) ≡ get_or numbers_of j 0
  unfolding block_of
  block_number_lem j = pair_of numbers_of j

-- ---- The file

pub blocks_length : (ws : List ℕ) (m : ℕ) → length (first_blocks ws m) ≡ 512 * m
unfolding first_blocks
blocks_length ws zero = refl
blocks_length ws (suc m) = simp length-append (omega (arith, blocks_length ws m, block_length ws m))

pub file_size : (ws : List ℕ) → length (blocks_of ws) ≡ 512 * blocks_for (length ws)
unfolding blocks_of
file_size ws = blocks_length ws (blocks_for (length ws))

in_last : (ws : List ℕ) (m k r : ℕ) → k ≡ m → get_or (first_blocks ws m ++ block_of ws m) (512 * k + r) 0 ≡ get_or (block_of ws k) r 0
in_last ws m k r e =
    let place : 512 * k + r ≡ length (first_blocks ws m) + r = omega (arith, blocks_length ws m) in
    ap (λ (n : ℕ). get_or (first_blocks ws m ++ block_of ws m) n 0) place
    ∙ (get_or-append-add (first_blocks ws m) (block_of ws m) r 0 ∙ ap (λ (n : ℕ). get_or (block_of ws n) r 0) (sym e))

in_front : (ws : List ℕ) (m k r : ℕ) → k < m → r < 512
    → get_or (first_blocks ws m ++ block_of ws m) (512 * k + r) 0 ≡ get_or (first_blocks ws m) (512 * k + r) 0
in_front ws m k r less within =
    get_or-append (first_blocks ws m) (block_of ws m) 0 (512 * k + r) (omega (arith, blocks_length ws m))

-- Byte r of block k.
pub in_file : (ws : List ℕ) (m k r : ℕ) → k < m → r < 512 → get_or (first_blocks ws m) (512 * k + r) 0 ≡ get_or (block_of ws k) r 0
unfolding first_blocks
in_file ws zero k r l within = absurd (not-suc-le-zero l)
in_file ws (suc m) k r l within =
    ⊎_elim (λ e. in_last ws m k r e) (λ less. in_front ws m k r less within ∙ in_file ws m k r less within)
    (eq-or-lt_of_le (le_of_suc-le-suc l))

-- Number j of block k.
pub number_at : (ws : List ℕ) (m k j : ℕ) → k < m → j < 256 → pair_at (first_blocks ws m) (512 * k + 2 * j) ≡ get_or (numbers_of ws k) j 0
number_at ws m k j l within =
    let next : 512 * k + 2 * j + 1 ≡ 512 * k + (2 * j + 1) = omega arith in
    ap (λ (p : ℕ). get_or (first_blocks ws m) (512 * k + 2 * j) 0 + 256 * get_or (first_blocks ws m) p 0) next
    ∙ (ap₂ (λ (a b : ℕ). a + 256 * b) (in_file ws m k (2 * j) l (omega arith)) (in_file ws m k (2 * j + 1) l (omega arith))
    ∙ block_number_lem ws k j)

-- ---- All of it is bytes

pub below_append : (bound : ℕ) (ns ms : List ℕ) → Below bound ns → Below bound ms → Below bound (ns ++ ms)
below_append bound [] ms a b i = b i
below_append bound (n ∷ ns) ms a b zero = a 0
below_append bound (n ∷ ns) ms a b (suc i) = below_append bound ns ms (λ j. a (suc j)) b i

module _ (ws : List ℕ) (small : Below 65536 ws) where
  held_below : (k : ℕ) → Below 65536 (held_by ws k)
  held_below k i =
      ⊎_elim (λ l. subst (λ (n : ℕ). n < 65536) (sym (held_at ws (253 * k) i l)) (small (253 * k + i)))
      (λ l. subst (λ (n : ℕ). n < 65536) (sym (get_or-eq_default (held_by ws k) 0 (omega (arith, held_most ws (253 * k))))) (omega arith))
      (below_or_not i 253)

  fields_below : (k : ℕ) → k < 65536 → Below 65536 (fields_of ws k)
  unfolding fields_of
  fields_below k l zero = l
  fields_below k l (suc zero) = omega (arith, held_most ws (253 * k))
  fields_below k l (suc (suc i)) = subst (λ (n : ℕ). n < 65536) (sym (filled_at 253 (held_by ws k) i)) (held_below k i)

  check_below : (k : ℕ) → Below 65536 (check_of ws k ∷ [])
  check_below k zero = omega arith
  check_below k (suc i) = omega arith

  first_below : (m : ℕ) → m < 65536 → Below 256 (first_blocks ws m)
  unfolding first_blocks block_of
  first_below zero l = λ i. omega arith
  first_below (suc m) l =
      below_append 256 (first_blocks ws m) (block_of ws m) (first_below m (omega arith))
      (bytes_below (numbers_of ws m)
      (below_append 65536 (fields_of ws m) (check_of ws m ∷ []) (fields_below m (omega arith)) (check_below m)))

  pub blocks_below : length ws ≤ 2783 → Below 256 (blocks_of ws)
  unfolding blocks_of
  blocks_below most = first_below (blocks_for (length ws)) (omega arith)
