-- What a buffer holds that a list was written into.
--     written_none, written_more     written from a place on, one by one
--     written_then                   two lists, one behind the other
--     written_length, written_at     the buffer keeps its length, and the list stands there
--     begun_none, begun_more         written from the first cell on
--     drop_zeros                     what is left of zeros is zeros
use Rattle.std.specs.Prelude.{ℕ, zero, suc, ◌+◌, ◌-◌, ◌≤◌, ◌<◌, ◌≡◌, refl, List, [], ◌∷◌, ◌++◌, length, take, drop, set, get_or, replicate}
use Rattle.std.proofs.Math.Nat.{sub-zero, zero-sub, suc-sub-suc}
use Rattle.std.proofs.Common.{arith, sym, ap, ◌∙◌, append_assoc, length-append, length-drop, take-append-drop, drop-cons, take_at, length-take-le, get_or-append-add, drop-drop}
use Rattle.std.proofs.Math.ListN.{get_or-append}
use Rattle.std.proofs.lemmas.List.{set_at}
use Rattle.std.proofs.Math.Seq.{take-append_seam, drop-append-add}

-- The buffer `old` with the list `new` written from a place on.
unfoldable pub written : List ℕ → ℕ → List ℕ → List ℕ
written old at new = take at old ++ (new ++ drop (at + length new) old)

-- The buffer `old` begun anew with the list `new`.
unfoldable pub begun : List ℕ → List ℕ → List ℕ
begun old new = new ++ drop (length new) old

pub written_none : (old : List ℕ) (at : ℕ) → written old at [] ≡ old
unfolding written
written_none old at =
    let here : at + 0 ≡ at = omega arith in
    ap (λ (n : ℕ). take at old ++ drop n old) here ∙ take-append-drop at old

pub written_more : (old : List ℕ) (at : ℕ) (new : List ℕ) (v : ℕ) → at + length new < length old
    → set (written old at new) (at + length new) v ≡ written old at (new ++ (v ∷ []))
unfolding written
written_more old at new v l =
    let m : ℕ = at + length new in
    let front : List ℕ = take at old ++ new in
    let size : length front ≡ m = simp length-append (omega (arith, length-take-le at old (omega arith))) in
    let next : suc m ≡ at + length (new ++ (v ∷ [])) = simp length-append (omega arith) in
    ap (λ (t : List ℕ). set (take at old ++ (new ++ t)) m v) (drop-cons old m 0 l)
    ∙ (ap (λ (ws : List ℕ). set ws m v) (sym (append_assoc (take at old) new (get_or old m 0 ∷ drop (suc m) old)))
    ∙ (set_at front (get_or old m 0) (drop (suc m) old) v m size
    ∙ (append_assoc (take at old) new (v ∷ drop (suc m) old)
    ∙ (ap (λ (t : List ℕ). take at old ++ t) (sym (append_assoc new (v ∷ []) (drop (suc m) old)))
    ∙ ap (λ (n : ℕ). take at old ++ ((new ++ (v ∷ [])) ++ drop n old)) next))))

-- A list written behind another.
pub written_then : (old : List ℕ) (at : ℕ) (a b : List ℕ) → at ≤ length old
    → written (written old at a) (at + length a) b ≡ written old at (a ++ b)
unfolding written
written_then old at a b l =
    let m : ℕ = at + length a in
    let front : List ℕ = take at old ++ a in
    let rest : List ℕ = drop m old in
    let size : length front ≡ m = simp length-append (omega (arith, length-take-le at old l)) in
    let next : m + length b ≡ at + length (a ++ b) = simp length-append (omega arith) in
    let behind : drop (m + length b) (front ++ rest) ≡ drop (m + length b) old =
    ap (λ (n : ℕ). drop (n + length b) (front ++ rest)) (sym size)
    ∙ (drop-append-add front rest (length b) ∙ drop-drop (length b) m old) in
    ap (λ (t : List ℕ). take m t ++ (b ++ drop (m + length b) t)) (sym (append_assoc (take at old) a rest))
    ∙ (ap (λ (t : List ℕ). t ++ (b ++ drop (m + length b) (front ++ rest))) (take_at front rest m size)
    ∙ (ap (λ (t : List ℕ). front ++ (b ++ t)) behind
    ∙ (append_assoc (take at old) a (b ++ drop (m + length b) old)
    ∙ (ap (λ (t : List ℕ). take at old ++ t) (sym (append_assoc a b (drop (m + length b) old)))
    ∙ ap (λ (n : ℕ). take at old ++ ((a ++ b) ++ drop n old)) next))))

pub written_length : (old : List ℕ) (at : ℕ) (new : List ℕ) → at + length new ≤ length old → length (written old at new) ≡ length old
unfolding written
written_length old at new l =
    simp length-append (omega (arith, length-take-le at old (omega arith), length-drop (at + length new) old))

pub written_at : (old : List ℕ) (at : ℕ) (new : List ℕ) (i : ℕ) → at ≤ length old → i < length new
    → get_or (written old at new) (at + i) 0 ≡ get_or new i 0
unfolding written
written_at old at new i l within =
    let rest : List ℕ = drop (at + length new) old in
    ap (λ (n : ℕ). get_or (take at old ++ (new ++ rest)) (n + i) 0) (sym (length-take-le at old l))
    ∙ (get_or-append-add (take at old) (new ++ rest) i 0 ∙ get_or-append new rest 0 i within)

pub begun_none : (old : List ℕ) → begun old [] ≡ old
unfolding begun
begun_none old = refl

pub begun_more : (old front new : List ℕ) → written (begun old front) (length front) new ≡ begun old (front ++ new)
unfolding written begun
begun_more old front new =
    rw (take-append_seam, drop-append-add, drop-drop, ← length-append) (sym (append_assoc front new _))

zeros : ℕ → List ℕ
zeros n = replicate n 0

pub drop_zeros : (n room : ℕ) → ◌≡◌ {A = List ℕ} (drop n (replicate room 0)) (replicate (room - n) 0)
unfolding zeros
drop_zeros zero room = ap zeros (sym (sub-zero room))
drop_zeros (suc n) zero = ap zeros (sym (zero-sub (suc n)))
drop_zeros (suc n) (suc room) = drop_zeros n room ∙ ap zeros (sym (suc-sub-suc room n))
