-- What a buffer holds while a loop clears it from a place on: z from there up to i, and else what it held.
--     clearing_begins, clearing_more, clearing_ends    the loop's invariant, begun, kept and used
--     clearing_all, clear_whole                        where the place is the first one
use Prim.Native.Nat.{ℕ, zero, suc, ◌+◌, ◌-◌, ◌≤◌, ◌<◌}
use Rattle.std.proofs.Math.Nat.{sub-zero}
use Rattle.std.proofs.Common.{add-one, arith, sym, ◌∙◌, drop_of_length-le, take-append-drop}
use Rattle.std.specs.Prelude.{◌≡◌, length, replicate}
use Rattle.std.proofs.Math.Path.{refl, ap}
use mathlib.Core.List.{List, [], ◌∷◌, ◌++◌, append-nil}
use Rattle.std.proofs.Math.ListN.{take, drop, set, length-set}

module _ {A : Type 0} (z : A) where
  -- n cells from a place on are z, up to m.
  partly : List A → ℕ → ℕ → ℕ → List A
  partly old from n m = take from old ++ (replicate n z ++ drop m old)

  partly_more : (from n m : ℕ) (old : List A) → m ≡ from + n → m < length old
      → set (partly old from n m) m z ≡ partly old from (suc n) (suc m)
  unfolding partly
  partly_more from n m [] e l = absurd (omega arith)
  partly_more zero zero zero (x ∷ xs) e l = refl
  partly_more zero zero (suc m) (x ∷ xs) e l = absurd (omega arith)
  partly_more zero (suc n) zero (x ∷ xs) e l = absurd (omega arith)
  partly_more zero (suc n) (suc m) (x ∷ xs) e l = ap (λ (t : List A). z ∷ t) (partly_more zero n m xs (omega arith) (omega arith))
  partly_more (suc from) n zero (x ∷ xs) e l = absurd (omega arith)
  partly_more (suc from) n (suc m) (x ∷ xs) e l = ap (λ (t : List A). x ∷ t) (partly_more from n m xs (omega arith) (omega arith))

  pub record Clearing (old : List A) (from : ℕ) (buffer : List A) (i : ℕ) : Type 0 where
    pub past : from ≤ i
    pub most : i - from ≤ length old - from
    pub same : length buffer ≡ length old
    pub holds : buffer ≡ take from old ++ (replicate (i - from) z ++ drop i old)

  pub clearing_begins : (old : List A) (from : ℕ) → Clearing old from old from
  clearing_begins old from =
      let none : 0 ≡ from - from = omega arith in
      record {
        past = omega arith;
        most = omega arith;
        same = refl;
        holds = sym (take-append-drop from old) ∙ ap (λ (n : ℕ). take from old ++ (replicate n z ++ drop from old)) none;
      }

  pub clearing_more : {old buffer : List A} {from i : ℕ} → Clearing old from buffer i → i < length buffer
      → Clearing old from (set buffer i z) (i + 1)
  unfolding partly
  clearing_more {old} {buffer} {from} {i} r l =
      let n : ℕ = i - from in
      let next : suc n ≡ i + 1 - from = omega (arith, r.past) in
      record {
        past = omega (arith, r.past);
        most = omega (arith, r.past, r.most, r.same);
        same = length-set buffer i z ∙ r.same;
        holds = ap (λ (b : List A). set b i z) r.holds
            ∙ (partly_more from n i old (omega (arith, r.past)) (omega (arith, r.same))
            ∙ (ap (λ (k : ℕ). take from old ++ (replicate k z ++ drop (suc i) old)) next
            ∙ ap (λ (m : ℕ). take from old ++ (replicate (i + 1 - from) z ++ drop m old)) (sym (add-one i))));
      }

  pub clearing_ends : {old buffer : List A} {from i : ℕ} → Clearing old from buffer i → length buffer ≤ i
      → buffer ≡ take from old ++ replicate (length old - from) z
  clearing_ends {old} {buffer} {from} {i} r l =
      let end : i - from ≡ length old - from = omega (arith, r.most, r.same, r.past) in
      let past : length old ≤ i = omega (arith, r.same) in
      let none : drop i old ≡ [] = drop_of_length-le old past in
      r.holds
      ∙ ap (λ (t : List A). take from old ++ t)
      (ap (λ (t : List A). replicate (i - from) z ++ t) none
      ∙ (append-nil (replicate (i - from) z) ∙ ap (λ (n : ℕ). replicate n z) end))

  pub clear_whole : (room : ℕ) {buffer : List A} → buffer ≡ replicate (room - 0) z → buffer ≡ replicate room z
  clear_whole room e = e ∙ ap (λ (n : ℕ). replicate n z) (sub-zero room)

  pub clearing_all : {old buffer : List A} {i : ℕ} → Clearing old 0 buffer i → length buffer ≤ i → buffer ≡ replicate (length old) z
  clearing_all {old} r l = clear_whole (length old) (clearing_ends r l)
