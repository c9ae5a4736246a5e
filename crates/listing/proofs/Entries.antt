-- What a buffer holds while the entries of an input are written into it.
use Prim.Native.Nat.{ℕ, zero, suc, ◌+◌, ◌-◌, ◌*◌, ◌/◌, ◌<◌, ◌≤◌, min}
use native.Mathlib.Nat.{min-zero, zero-min, suc-min-suc}
use native.Mathlib.Numerals.{add-one}
use native.Mathlib.Omega.{arith}
use mathlib.Core.Path.{◌≡◌, refl, sym, ap, ap₂, ◌∙◌}
use mathlib.Core.List.{List, [], ◌∷◌, ◌++◌, append-nil, append_assoc}
use lib.ListN.{length, take, drop, set, get_or, length-set, length-drop, drop_of_length-le}
use lib.Seq.{drop-cons, set_at, length-take-le}
use Rattle.std.proofs.lemmas.List.{get_or-drop}
use Rattle.grammar.specs.File.{pair_at}
use Rattle.grammar.specs.Listing.{entries_at, token_at, tick_at, tokens_from, ticks_from}
use Rattle.listing.specs.Answer.{Wrote}
use Rattle.listing.specs.Enough.{entries_length}

module _ (value : ℕ → ℕ) where
  entries_behind : (at n : ℕ) → entries_at value at (suc n) ≡ entries_at value at n ++ (value (at + 6 * n) ∷ [])
  unfolding entries_at
  entries_behind at zero =
      let here : at ≡ at + 6 * 0 = omega arith in
      ap (λ (p : ℕ). value p ∷ []) here
  entries_behind at (suc n) =
      let there : at + 6 + 6 * n ≡ at + 6 * suc n = omega arith in
      ap (λ (l : List ℕ). value at ∷ l)
      (entries_behind (at + 6) n ∙ ap (λ (p : ℕ). entries_at value (at + 6) n ++ (value p ∷ [])) there)

  -- The first k of n entries.
  take_entries : (k at n : ℕ) → take k (entries_at value at n) ≡ entries_at value at (min n k)
  unfolding entries_at
  take_entries zero at n = ap (entries_at value at) (sym (min-zero n))
  take_entries (suc k) at zero = ap (entries_at value at) (sym (zero-min (suc k)))
  take_entries (suc k) at (suc n) =
      ap (λ (l : List ℕ). value at ∷ l) (take_entries k (at + 6) n) ∙ ap (entries_at value at) (sym (suc-min-suc n k))

-- The first i entries from byte `at` on stand in the buffer.
pub record Filling (value : ℕ → ℕ) (at : ℕ) (old buffer : List ℕ) (i : ℕ) : Type 0 where
  pub same : length buffer ≡ length old
  pub holds : buffer ≡ entries_at value at i ++ drop i old

pub filling_begins : (value : ℕ → ℕ) (at : ℕ) (old : List ℕ) → Filling value at old old 0
unfolding entries_at
filling_begins value at old = record { same = refl; holds = refl }

pub filling_goes : {value : ℕ → ℕ} {at : ℕ} {old buffer : List ℕ} {i v : ℕ} → Filling value at old buffer i → i < length old
    → v ≡ value (at + 6 * i) → Filling value at old (set buffer i v) (i + 1)
filling_goes {value} {at} {old} {buffer} {i} {v} f l e =
    let front : List ℕ = entries_at value at i in
    record {
      same = length-set buffer i v ∙ f.same;
      holds =
          ap (λ (b : List ℕ). set b i v) (f.holds ∙ ap (λ (t : List ℕ). front ++ t) (drop-cons old i 0 l))
          ∙ (set_at front (get_or old i 0) (drop (suc i) old) v i (entries_length value at i)
          ∙ (ap (λ (w : ℕ). front ++ (w ∷ drop (suc i) old)) e
          ∙ (sym (append_assoc front (value (at + 6 * i) ∷ []) (drop (suc i) old))
          ∙ (ap (λ (t : List ℕ). t ++ drop (suc i) old) (sym (entries_behind value at i))
          ∙ ap (λ (k : ℕ). entries_at value at k ++ drop k old) (sym (add-one i))))));
    }

-- All that fit: `front` is as much of the buffer as is written.
pub filling_ends : {value : ℕ → ℕ} {at : ℕ} {old front : List ℕ} {i count : ℕ} (n : ℕ) → Filling value at (take count old) front i
    → i ≤ count → length front ≤ i → count ≡ min (length old) n → Wrote old (entries_at value at n) (front ++ drop count old) count
filling_ends {value} {at} {old} {front} {i} {count} n f below l m =
    let size : length (take count old) ≡ count = length-take-le count old (omega arith) in
    let same : i ≡ count = omega (arith, f.same) in
    let taken : take (length old) (entries_at value at n) ≡ entries_at value at count =
    take_entries value (length old) at n ∙ ap (entries_at value at) (omega arith) in
    let none : drop i (take count old) ≡ [] = drop_of_length-le (take count old) {i = i} (omega arith) in
    let whole : front ≡ entries_at value at count =
    f.holds
    ∙ (ap (λ (t : List ℕ). entries_at value at i ++ t) none
    ∙ (append-nil (entries_at value at i) ∙ ap (entries_at value at) same)) in
    record {
      number = sym (ap length taken ∙ entries_length value at count);
      holds = ap (λ (t : List ℕ). t ++ drop count old) (whole ∙ sym taken);
    }

-- The entries from a byte on are those of what stands from there on.
entries_same : (value other : ℕ → ℕ) (d : ℕ) → ((at : ℕ) → value at ≡ other (d + at)) → (at n : ℕ)
    → entries_at value at n ≡ entries_at other (d + at) n
unfolding entries_at
entries_same value other d same at zero = refl
entries_same value other d same at (suc n) =
    let there : d + (at + 6) ≡ d + at + 6 = omega arith in
    cc (same at, entries_same value other d same (at + 6) n, there)

pair_behind : (bytes : List ℕ) (d at : ℕ) → pair_at (drop d bytes) at ≡ pair_at bytes (d + at)
pair_behind bytes d at =
    let next : d + (at + 1) ≡ d + at + 1 = omega arith in
    cc (get_or-drop d bytes at 0, get_or-drop d bytes (at + 1) 0, ap (λ (p : ℕ). get_or bytes p 0) next)

tick_behind : (bytes : List ℕ) (d at : ℕ) → tick_at (drop d bytes) at ≡ tick_at bytes (d + at)
tick_behind bytes d at =
    let first : d + (at + 2) ≡ d + at + 2 = omega arith in
    let second : d + (at + 2 + 2) ≡ d + at + 2 + 2 = omega arith in
    cc (
      pair_behind bytes d (at + 2),
      pair_behind bytes d (at + 2 + 2),
      ap (λ (p : ℕ). pair_at bytes p) first,
      ap (λ (p : ℕ). pair_at bytes p) second,
    )

pub tokens_behind : (bytes : List ℕ) (d : ℕ) → tokens_from (drop d bytes) 0 ≡ tokens_from bytes d
tokens_behind bytes d =
    let count : (length (drop d bytes) - 0 + 5) / 6 ≡ (length bytes - d + 5) / 6 = simp length-drop (omega arith) in
    let from : d + 0 ≡ d = omega arith in
    entries_same (token_at (drop d bytes)) (token_at bytes) d (pair_behind bytes d) 0 ((length (drop d bytes) - 0 + 5) / 6)
    ∙ ap₂ (λ (p n : ℕ). entries_at (token_at bytes) p n) from count

pub ticks_behind : (bytes : List ℕ) (d : ℕ) → ticks_from (drop d bytes) 0 ≡ ticks_from bytes d
ticks_behind bytes d =
    let count : (length (drop d bytes) - 0) / 6 ≡ (length bytes - d) / 6 = simp length-drop (omega arith) in
    let from : d + 0 ≡ d = omega arith in
    entries_same (tick_at (drop d bytes)) (tick_at bytes) d (tick_behind bytes d) 0 ((length (drop d bytes) - 0) / 6)
    ∙ ap₂ (λ (p n : ℕ). entries_at (tick_at bytes) p n) from count
