-- Blank buffers with the first cells written as far as they fit: fits_none to fits_four; and fits, whose values may be any.
-- over_more, over_full and over_ends: the same, written value by value over what a buffer held.
use Prim.Native.Nat.{ℕ, zero, suc, ◌+◌, ◌-◌, ◌≤◌, ◌<◌, min}
use Rattle.std.proofs.Common.{
  arith,
  length,
  get_or,
  take_all,
  take_at,
  take-suc,
  drop-cons,
  ◌++◌,
  ◌∙◌,
  append_assoc,
  append-nil,
  length-append,
  length-drop,
  length-take-le,
}
use Rattle.std.proofs.lemmas.List.{take-append-le, set_at}
use Rattle.std.specs.Prelude.{◌≡◌, take, drop, set, replicate}
use Rattle.std.proofs.Math.Decide.{dec_lt}
use Rattle.std.proofs.Math.Logic.{dite}
use Rattle.std.proofs.Math.Path.{refl, sym, ap}
use mathlib.Core.List.{List, [], ◌∷◌}
use Rattle.exports.specs.Status.{fitted}

module _ {A : Type 0} (z : A) where
  take_blank : (n m : ℕ) → n ≤ m → take n (replicate m z) ≡ replicate n z
  take_blank zero m h = refl
  take_blank (suc n) zero h = absurd (omega arith)
  take_blank (suc n) (suc m) h = ap (λ (l : List A). z ∷ l) (take_blank n m (omega arith))

  pub fits_none : (room : ℕ) → replicate room z ≡ fitted z room []
  unfolding fitted
  fits_none room = sym (take_blank room room (omega arith))

  pub fits_one : (room : ℕ) (a : A) → set (replicate room z) 0 a ≡ fitted z room (a ∷ [])
  unfolding fitted
  fits_one zero a = refl
  fits_one (suc n) a = ap (λ (l : List A). a ∷ l) (sym (take_blank n (suc n) (omega arith)))

  pub fits_two : (room : ℕ) (a b : A) → set (set (replicate room z) 0 a) 1 b ≡ fitted z room (a ∷ b ∷ [])
  unfolding fitted
  fits_two zero a b = refl
  fits_two (suc zero) a b = refl
  fits_two (suc (suc n)) a b = ap (λ (l : List A). a ∷ b ∷ l) (sym (take_blank n (suc (suc n)) (omega arith)))

  pub fits_three : (room : ℕ) (a b d : A)
      → set (set (set (replicate room z) 0 a) 1 b) 2 d ≡ fitted z room (a ∷ b ∷ d ∷ [])
  unfolding fitted
  fits_three zero a b d = refl
  fits_three (suc zero) a b d = refl
  fits_three (suc (suc zero)) a b d = refl
  fits_three (suc (suc (suc n))) a b d = ap (λ (l : List A). a ∷ b ∷ d ∷ l) (sym (take_blank n (suc (suc (suc n))) (omega arith)))

  pub fits_four : (room : ℕ) (a b d e : A)
      → set (set (set (set (replicate room z) 0 a) 1 b) 2 d) 3 e ≡ fitted z room (a ∷ b ∷ d ∷ e ∷ [])
  unfolding fitted
  fits_four zero a b d e = refl
  fits_four (suc zero) a b d e = refl
  fits_four (suc (suc zero)) a b d e = refl
  fits_four (suc (suc (suc zero))) a b d e = refl
  fits_four (suc (suc (suc (suc n)))) a b d e =
      ap (λ (l : List A). a ∷ b ∷ d ∷ e ∷ l) (sym (take_blank n (suc (suc (suc (suc n)))) (omega arith)))

  -- What fits of a list that ends before the room does: all of it, and blanks behind it.
  take_behind : (xs : List A) (room : ℕ) → length xs ≤ room → take room (xs ++ replicate room z) ≡ xs ++ replicate (room - length xs) z
  take_behind xs room l = go xs room room l (omega arith)
    where
      go : (xs : List A) (room more : ℕ) → length xs ≤ room → room ≤ more
          → take room (xs ++ replicate more z) ≡ xs ++ replicate (room - length xs) z
      go [] room more l m = take_blank room more m ∙ ap (λ (n : ℕ). replicate n z) (omega arith)
      go (x ∷ xs) zero more l m = absurd (omega arith)
      go (x ∷ xs) (suc room) more l m =
          ap (λ (l : List A). x ∷ l)
          (go xs room more (omega arith) (omega arith) ∙ ap (λ (n : ℕ). xs ++ replicate n z) (omega arith))

  -- As many values as fit, and blanks behind them.
  pub fits : (room : ℕ) (xs : List A) (n : ℕ) → n ≡ min room (length xs) → take n xs ++ replicate (room - n) z ≡ fitted z room xs
  unfolding fitted
  fits room xs n e =
      dite (dec_lt (length xs) room)
      (λ less.
      let all : n ≡ length xs = omega arith in
      ap (λ (k : ℕ). take k xs ++ replicate (room - k) z) all
      ∙ (ap (λ (l : List A). l ++ replicate (room - length xs) z) (take_all (length xs) xs (omega arith))
      ∙ sym (take_behind xs room (omega arith))))
      (λ more.
      let full : n ≡ room = omega arith in
      let none : room - room ≡ 0 = omega arith in
      ap (λ (k : ℕ). take k xs ++ replicate (room - k) z) full
      ∙ (ap (λ (k : ℕ). take room xs ++ replicate k z) none
      ∙ (append-nil (take room xs) ∙ sym (take-append-le room xs (replicate room z) (omega arith)))))

  -- The same where the values were written over a buffer first.
  pub fits_over : (old xs : List A) {written new : List A} {n : ℕ} → n ≡ min (length old) (length xs) → written ≡ take n xs
      → new ≡ take n (written ++ drop n old) ++ replicate (length (written ++ drop n old) - n) z → new ≡ fitted z (length old) xs
  fits_over old xs {written} {new} {n} e w f =
      let size : length written ≡ n = ap length w ∙ length-take-le n xs (omega arith) in
      let front : take n (written ++ drop n old) ≡ take n xs = take_at written (drop n old) n size ∙ w in
      let whole : length (written ++ drop n old) ≡ length old = simp (length-append, length-drop) (omega arith) in
      f
      ∙ (ap (λ (l : List A). l ++ replicate (length (written ++ drop n old) - n) z) front
      ∙ (ap (λ (k : ℕ). take n xs ++ replicate (k - n) z) whole ∙ fits (length old) xs n e))

  -- A buffer in which the first i values are written, as far as they fit.
  abbrev pub over : List A → List A → ℕ → List A
  over old xs i = take (min (length old) i) xs ++ drop (min (length old) i) old

  -- One value more, where it fits,
  pub over_more : (old xs : List A) (i : ℕ) {cells : List A} {v : A} → i < length xs → i < length old → v ≡ get_or xs i v
      → cells ≡ over old xs i → set cells i v ≡ over old xs (i + 1)
  over_more old xs i {v = v} l room e f =
      let here : min (length old) i ≡ i = omega arith in
      let next : suc i ≡ min (length old) (i + 1) = omega arith in
      ap (λ (c : List A). set c i v) (f ∙ ap (λ (n : ℕ). take n xs ++ drop n old) here)
      ∙ (ap (λ (c : List A). set (take i xs ++ c) i v) (drop-cons old i v room)
      ∙ (set_at (take i xs) (get_or old i v) (drop (suc i) old) v i (length-take-le i xs (omega arith))
      ∙ (ap (λ (x : A). take i xs ++ (x ∷ drop (suc i) old)) e
      ∙ (sym (append_assoc (take i xs) (get_or xs i v ∷ []) (drop (suc i) old))
      ∙ (ap (λ (c : List A). c ++ drop (suc i) old) (sym (take-suc xs i v l))
      ∙ ap (λ (n : ℕ). take n xs ++ drop n old) next)))))

  -- and where it doesn't.
  pub over_full : (old xs : List A) (i : ℕ) {cells : List A} → length old ≤ i → cells ≡ over old xs i → cells ≡ over old xs (i + 1)
  over_full old xs i full f =
      let same : min (length old) i ≡ min (length old) (i + 1) = omega arith in
      f ∙ ap (λ (n : ℕ). take n xs ++ drop n old) same

  -- The whole list, and blanks behind it.
  pub over_ends : (old xs : List A) (i : ℕ) {cells new : List A} → i ≡ length xs → cells ≡ over old xs i
      → new ≡ take (length xs) cells ++ replicate (length cells - length xs) z → new ≡ fitted z (length old) xs
  over_ends old xs i {cells} {new} e f g =
      let n : ℕ = min (length old) (length xs) in
      let w : List A = take n xs ++ drop n old in
      let size : length w ≡ length old = simp (length-append, length-drop) (omega (arith, length-take-le n xs (omega arith))) in
      let whole : cells ≡ w = f ∙ ap (over old xs) e in
      let end : take (length xs) w ++ replicate (length w - length xs) z ≡ take n w ++ replicate (length w - n) z =
      dite (dec_lt (length old) (length xs))
      (λ more.
      let none : length w - length xs ≡ length w - n = omega (arith, size) in
      ap (λ (k : ℕ). take (length xs) w ++ replicate k z) none
      ∙ ap (λ (l : List A). l ++ replicate (length w - n) z)
      (take_all (length xs) w (omega (arith, size)) ∙ sym (take_all n w (omega (arith, size)))))
      (λ less.
      let all : length xs ≡ n = omega arith in
      ap (λ (k : ℕ). take k w ++ replicate (length w - k) z) all) in
      fits_over old xs refl refl
      (g ∙ (ap (λ (c : List A). take (length xs) c ++ replicate (length c - length xs) z) whole ∙ end))
