-- What the word buffer holds.
--     stored_none, stored_more     no number is stored yet; one more is
--     stored_filled                zeros behind the numbers that fit
use Rattle.std.specs.Prelude.{ℕ, suc, ◌-◌, ◌≤◌, ◌<◌, ◌≡◌, ◌⊎◌, drop, set, get_or}
use native.Mathlib.Omega.{arith}
use Rattle.std.proofs.Math.Path.{sym, ap}
use Rattle.std.proofs.Common.{◌∙◌, inl, inr, length-append, length-drop, drop_of_length-le, drop-cons}
use mathlib.Core.List.{List, [], ◌∷◌, ◌++◌, append_assoc, append-nil}
use Rattle.std.proofs.Math.ListN.{length, take, replicate, length-take}
use Rattle.std.proofs.Math.Seq.{take-nil, take_all, take-append_seam, set-append_seam, set_out}
use Rattle.std.proofs.lemmas.List.{take-append-le}
use Rattle.base.specs.Choices.{below_or}
use Rattle.grammar.specs.Buffers.{filled}
use Rattle.spelling.specs.Answer.{counted, stored}

pub stored_none : (old : List ℕ) → old ≡ stored old []
unfolding stored
stored_none old = ap (λ (l : List ℕ). l ++ old) (sym (take-nil (length old)))

pub stored_length : (old ns : List ℕ) → length (stored old ns) ≡ length old
unfolding stored
stored_length old ns = simp (length-append, length-take, length-drop) (omega arith)

-- The numbers fit, or not all do.
stored_fit : (old ns : List ℕ) → length ns ≤ length old → stored old ns ≡ ns ++ drop (length ns) old
unfolding stored
stored_fit old ns l = ap (λ (t : List ℕ). t ++ drop (length ns) old) (take_all (length old) ns l)

stored_over : (old ns : List ℕ) → length old ≤ length ns → stored old ns ≡ take (length old) ns
unfolding stored
stored_over old ns l =
    ap (λ (t : List ℕ). take (length old) ns ++ t) (drop_of_length-le old l) ∙ append-nil (take (length old) ns)

module _ (old ns : List ℕ) {n : ℕ} (count : n ≡ counted (length ns)) (room : length old ≤ 18446744073709551615) where
  pub stored_more : (v : ℕ) → set (stored old ns) n v ≡ stored old (ns ++ (v ∷ []))
  stored_more v = decided (below_or (length ns) (length old))
    where
      size : length (ns ++ (v ∷ [])) ≡ suc (length ns)
      size = simp length-append (omega arith)

      decided : (length ns < length old) ⊎ (length old ≤ length ns) → set (stored old ns) n v ≡ stored old (ns ++ (v ∷ []))
      decided (inl l) =
          let here : n ≡ length ns = omega arith in
          ap (λ (i : ℕ). set (stored old ns) i v) here
          ∙ (ap (λ (t : List ℕ). set t (length ns) v) (stored_fit old ns (omega arith))
          ∙ (ap (λ (t : List ℕ). set (ns ++ t) (length ns) v) (drop-cons old (length ns) 0 l)
          ∙ (set-append_seam ns (get_or old (length ns) 0) (drop (suc (length ns)) old) v
          ∙ (sym (append_assoc ns (v ∷ []) (drop (suc (length ns)) old))
          ∙ (ap (λ (k : ℕ). (ns ++ (v ∷ [])) ++ drop k old) (sym size)
          ∙ sym (stored_fit old (ns ++ (v ∷ [])) (omega (arith, size))))))))
      decided (inr l) =
          set_out (stored old ns) n v (omega (arith, stored_length old ns))
          ∙ (stored_over old ns l
          ∙ (sym (take-append-le (length old) ns (v ∷ []) l) ∙ sym (stored_over old (ns ++ (v ∷ [])) (omega (arith, size)))))

  pub stored_filled : {left : List ℕ} → left ≡ take n (stored old ns) ++ replicate (length (stored old ns) - n) 0
      → left ≡ filled (length (stored old ns)) (take (length (stored old ns)) ns)
  unfolding filled
  stored_filled e =
      let size = stored_length old ns in
      let front : take n (stored old ns) ≡ take (length (stored old ns)) ns =
      decided (below_or (length old) (length ns)) ∙ ap (λ (k : ℕ). take k ns) (sym size) in
      let behind : length (stored old ns) - n ≡ length (stored old ns) - length (take (length (stored old ns)) ns) =
      simp length-take (omega arith) in
      e ∙ (ap (λ (t : List ℕ). t ++ replicate (length (stored old ns) - n) 0) front
      ∙ ap (λ (k : ℕ). take (length (stored old ns)) ns ++ replicate k 0) behind)
    where
      decided : (length old < length ns) ⊎ (length ns ≤ length old) → take n (stored old ns) ≡ take (length old) ns
      decided (inl l) = take_all n (stored old ns) (omega (arith, stored_length old ns)) ∙ stored_over old ns (omega arith)
      decided (inr l) =
          let here : n ≡ length ns = omega arith in
          ap (λ (k : ℕ). take k (stored old ns)) here
          ∙ (ap (λ (t : List ℕ). take (length ns) t) (stored_fit old ns l)
          ∙ (take-append_seam ns (drop (length ns) old) ∙ sym (take_all (length old) ns l)))
