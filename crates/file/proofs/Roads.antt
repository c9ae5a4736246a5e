-- The blocks of a file's bytes as a list, and what a test of all of them tells.
--     blocks_in, in_length, in_at, in_block     the list of the first blocks, its length, and block k in it
--     blocks_road                               `chunks_exact` gives this list
--     turn_block                                as a loop over the blocks meets block k
--     numbered_block, numbered_length           the list with the blocks' numbers
--     tells_each                                a test of each item, asked of all, tells whether each block has the property
use Prim.Native.Nat.{ℕ, zero, suc, ◌+◌, ◌*◌, ◌/◌, ◌<◌}
use native.Mathlib.Omega.{arith}
use mathlib.Core.Bool.{Bool, true, false}
use mathlib.Core.Path.{◌≡◌, refl, ap, ap₂, subst, ◌∙◌}
use mathlib.Core.List.{List, [], ◌∷◌, ◌++◌}
use lib.ListN.{length, get_or, take, drop, length-append, length-drop}
use lib.Seq.{length-take-le}
use Rattle.std.proofs.lemmas.Iterator.{YieldsList}
use Rattle.std.proofs.lemmas.Iterator.Splits.{YieldsList-from_shown_while}
use Rattle.std.proofs.lemmas.List.{take_at, drop_at, drop-drop}
use Rattle.std.specs.Bool.{MatchBool}
use Rattle.std.specs.List.{AllWithin, HoldsAt, enumerate_from}
use Rattle.std.proofs.lemmas.List.FromFn.{get_or-enumerate_from, length-enumerate_from}
use Rattle.base.specs.Telling.{Tells, told, denied}
use Rattle.grammar.specs.File.{EachBlock, block_count}
use Rattle.file.proofs.Blocks.{BlockAt}
use Rattle.std.specs.Slice.Iter.{chunks_exact_size, chunks_exact_rest, chunks_exact_steps}

-- The first n blocks.
unfoldable pub blocks_in : ℕ → List ℕ → List (List ℕ)
blocks_in zero bytes = []
blocks_in (suc n) bytes = take 512 bytes ∷ blocks_in n (drop 512 bytes)

pub in_length : (n : ℕ) (bytes : List ℕ) → length (blocks_in n bytes) ≡ n
unfolding blocks_in
in_length zero bytes = refl
in_length (suc n) bytes = ap suc (in_length n (drop 512 bytes))

pub in_at : (n k : ℕ) (bytes : List ℕ) (d : List ℕ) → k < n → get_or (blocks_in n bytes) k d ≡ take 512 (drop (k * 512) bytes)
unfolding blocks_in
in_at zero k bytes d l = absurd (omega arith)
in_at (suc n) zero bytes d l = let here : 0 ≡ 0 * 512 = omega arith in ap (λ (m : ℕ). take 512 (drop m bytes)) here
in_at (suc n) (suc k) bytes d l =
    let here : 512 + k * 512 ≡ suc k * 512 = omega arith in
    in_at n k (drop 512 bytes) d (omega arith)
    ∙ (ap (take 512) (drop-drop (k * 512) 512 bytes) ∙ ap (λ (m : ℕ). take 512 (drop m bytes)) here)

in_more : (rest block behind : List ℕ) → rest ≡ block ++ behind → length block ≡ 512
    → blocks_in (length rest / 512) rest ≡ block ∷ blocks_in (length behind / 512) behind
unfolding blocks_in
in_more rest block behind next size =
    let long : length rest ≡ length block + length behind = ap length next ∙ length-append block behind in
    let one : length rest / 512 ≡ suc (length behind / 512) = omega arith in
    ap (λ (n : ℕ). blocks_in n rest) one
    ∙ ap₂ ◌∷◌ (ap (take 512) next ∙ take_at block behind 512 size)
    (ap (blocks_in (length behind / 512)) (ap (drop 512) next ∙ drop_at block behind 512 size))

pub blocks_road : (s : _) (bytes : List ℕ) → chunks_exact_size s ≡ 512 → chunks_exact_rest s ≡ bytes
    → YieldsList (chunks_exact_steps {A = ℕ}) (λ x. x.now) s (blocks_in (length bytes / 512) bytes)
blocks_road s bytes each is =
    let road =
    YieldsList-from_shown_while (chunks_exact_steps {A = ℕ}) (λ x. x.now)
    (λ t. blocks_in (length (chunks_exact_rest t) / 512) (chunks_exact_rest t))
    (λ t. chunks_exact_size t ≡ 512)
    (λ t u e steps. in_length (length (chunks_exact_rest t) / 512) (chunks_exact_rest t) ∙ omega (arith, steps.1.0, e))
    (λ t x u e steps. (steps.0 ∙ e, in_more (chunks_exact_rest t) x.now (chunks_exact_rest u) steps.1.0 (steps.1.1 ∙ e))) s each in
    subst (λ (b : List ℕ). YieldsList (chunks_exact_steps {A = ℕ}) (λ x. x.now) s (blocks_in (length b / 512) b)) is road

-- What a test of each item answers, asked of all of them.
pub tells_each : {A : Type 0} (bytes : List ℕ) (Q : ℕ → Type 0) (T : A → Bool → Type 0) (d : A) (all : List A) (r : Bool)
    → length all ≡ block_count bytes → ((k : ℕ) (b : Bool) → k < block_count bytes → T (get_or all k d) b → Tells (Q k) b)
    → MatchBool r (AllWithin (λ x. T x true) all 0 (length all)) ((k : ℕ) × (k < length all) × HoldsAt (λ x. T x false) all k)
    → Tells (EachBlock bytes Q) r
tells_each bytes Q T d all true size each cases = told (λ k l. (each k true l (cases k d (omega arith) (omega arith))).yes refl)
tells_each bytes Q T d all false size each cases =
    let below = cases.1 in
    denied (λ right. (each cases.0 false (omega arith) (cases.2 d)).no refl (right cases.0 (omega arith)))

-- Block k of the list is block k of the bytes.
pub in_block : (bytes : List ℕ) (k : ℕ) (d : List ℕ) → k < block_count bytes
    → BlockAt bytes k (get_or (blocks_in (length bytes / 512) bytes) k d)
in_block bytes k d l =
    let is = in_at (length bytes / 512) k bytes d l in
    record {
      is = is;
      size = ap length is ∙ length-take-le 512 (drop (k * 512) bytes) (omega (arith, length-drop (k * 512) bytes));
      within = omega arith;
    }

-- As a loop over the blocks meets it, after k others.
pub turn_block : (bytes : List ℕ) {k : ℕ} {block : List ℕ}
    → (k < length (blocks_in (length bytes / 512) bytes)) × (block ≡ get_or (blocks_in (length bytes / 512) bytes) k block)
    → BlockAt bytes k block
turn_block bytes {k} {block} turn =
    let b = in_block bytes k block (omega (arith, turn.0, in_length (length bytes / 512) bytes)) in
    record { is = turn.1 ∙ b.is; size = ap length turn.1 ∙ b.size; within = b.within }

-- An item of the numbered list is a block's number and the block.
pub numbered_block : (bytes : List ℕ) (k : ℕ) (p : ℕ × List ℕ) → k < block_count bytes
    → (get_or (enumerate_from 0 (blocks_in (length bytes / 512) bytes)) k p).0 ≡ k
    × BlockAt bytes k (get_or (enumerate_from 0 (blocks_in (length bytes / 512) bytes)) k p).1
numbered_block bytes k p l =
    let blocks : List (List ℕ) = blocks_in (length bytes / 512) bytes in
    let item = get_or-enumerate_from 0 blocks k p (omega (arith, in_length (length bytes / 512) bytes)) in
    rw item (omega arith, in_block bytes k p.1 l)

pub numbered_length : (bytes : List ℕ) → length (enumerate_from 0 (blocks_in (length bytes / 512) bytes)) ≡ block_count bytes
numbered_length bytes =
    length-enumerate_from 0 (blocks_in (length bytes / 512) bytes) ∙ in_length (length bytes / 512) bytes
