-- Bytes written one behind the other, as far as they fit.
--     wrote_length, wrote_fits    the buffer keeps its length; what ends before the buffer's end is written whole
--     put_none, put_one, put_past nothing is written; one byte that fits; one that does not
--     put_part                    a text, of which a part fits
--     put_then                    two lists, one behind the other
--     put_more, put_text          a text, byte by byte
--     put_all                     what is written from the front on
use Rattle.std.specs.Prelude.{ℕ, suc, ◌+◌, ◌≤◌, ◌<◌, ◌≡◌, refl, List, [], ◌∷◌, ◌++◌, length, take, drop, set, get_or}
use Rattle.std.proofs.Math.Decide.{dec_lt}
use Rattle.std.proofs.Math.Nat.{min-le_left}
use Rattle.std.proofs.Common.{add-one, add-zero, arith, sym, ap, ◌∙◌, subst, append-nil, append_assoc, length-append, length-drop, length-take, drop-cons, take_all, take-suc, length-take-le, min, ◌-◌}
use Rattle.std.proofs.Math.Logic.{dite}
use Rattle.std.proofs.lemmas.List.{set_at, take-append-le, take_at, take-append-drop}
use Rattle.std.proofs.lemmas.Slice.{drop-append-drop}
use Rattle.std.proofs.Math.Seq.{take-nil, take-append-add}
use Rattle.listing.specs.Answer.{Wrote, Appends}

module _ {old front buffer : List ℕ} {at : ℕ} (w : Wrote old front buffer at) where
  pub wrote_length : length buffer ≡ length old
  wrote_length =
      let most = min-le_left (length old) (length front) in
      let shown : length (take (length old) front) ≤ length old = simp length-take most in
      ap length w.holds ∙ simp (length-append, length-drop) (omega (arith, w.number))

  -- What ends before the buffer's end is the whole of it.
  pub wrote_fits : at < length old → take (length old) front ≡ front
  wrote_fits l =
      take_all (length old) front
      (dite (dec_lt (length old) (length front))
      (λ more. absurd (omega (arith, w.number, length-take-le (length old) front (omega arith))))
      (λ less. omega arith))

pub put_none : (buffer : List ℕ) (at : ℕ) → at ≤ length buffer → Appends buffer at [] buffer at
put_none buffer at l =
    record { within = l; goes = λ old front w. subst (λ (t : List ℕ). Wrote old t buffer at) (sym (append-nil front)) w }

-- A byte behind a text that fits.
one_more : (old front : List ℕ) (b : ℕ) → length front < length old
    → set (front ++ drop (length front) old) (length front) b ≡ (front ++ (b ∷ [])) ++ drop (length front + 1) old
one_more old front b l =
    let n : ℕ = length front in
    ap (λ (t : List ℕ). set (front ++ t) n b) (drop-cons old n 0 l)
    ∙ (set_at front (get_or old n 0) (drop (suc n) old) b n refl
    ∙ (sym (append_assoc front (b ∷ []) (drop (suc n) old)) ∙ ap (λ (k : ℕ). (front ++ (b ∷ [])) ++ drop k old) (sym (add-one n))))

wrote_one : {old front buffer : List ℕ} {at : ℕ} (b : ℕ) → Wrote old front buffer at → at < length buffer
    → Wrote old (front ++ (b ∷ [])) (set buffer at b) (at + 1)
wrote_one {old} {front} {buffer} {at} b w l =
    let below : at < length old = omega (arith, wrote_length w) in
    let whole : take (length old) front ≡ front = wrote_fits w below in
    let size : at ≡ length front = w.number ∙ ap length whole in
    let more : length (front ++ (b ∷ [])) ≡ at + 1 = simp length-append (omega arith) in
    let next : take (length old) (front ++ (b ∷ [])) ≡ front ++ (b ∷ []) = take_all (length old) _ (omega arith) in
    let short : length front < length old = omega arith in
    let held : buffer ≡ front ++ drop (length front) old = w.holds ∙ (cc) in
    record {
      number = sym (ap length next ∙ more);
      holds =
          ap (λ (l : List ℕ). set l at b) held
          ∙ (ap (λ (k : ℕ). set (front ++ drop (length front) old) k b) size
          ∙ (one_more old front b short
          ∙ (ap (λ (k : ℕ). (front ++ (b ∷ [])) ++ drop (k + 1) old) (sym size)
          ∙ ap (λ (t : List ℕ). t ++ drop (at + 1) old) (sym next))));
    }

pub put_one : (buffer : List ℕ) (at b : ℕ) → at < length buffer → at + 1 ≤ length (set buffer at b)
    → Appends buffer at (b ∷ []) (set buffer at b) (at + 1)
put_one buffer at b l m = record { within = m; goes = λ old front w. wrote_one b w l }

wrote_past : {old front buffer : List ℕ} {at : ℕ} (new : List ℕ) → Wrote old front buffer at → length buffer ≤ at
    → Wrote old (front ++ new) buffer at
wrote_past {old} {front} {buffer} {at} new w l =
    let full : length old ≤ length front =
    dite (dec_lt (length front) (length old))
    (λ less. absurd (omega (arith, w.number, wrote_length w, ap length (take_all (length old) front (omega arith)))))
    (λ more. omega arith) in
    let same : take (length old) (front ++ new) ≡ take (length old) front = take-append-le (length old) front new full in
    record {
      number = w.number ∙ ap length (sym same);
      holds = w.holds ∙ ap (λ (t : List ℕ). t ++ drop at old) (sym same);
    }

pub put_past : (buffer : List ℕ) (at b : ℕ) → length buffer ≤ at → at ≤ length buffer → Appends buffer at (b ∷ []) buffer at
put_past buffer at b l m = record { within = m; goes = λ old front w. wrote_past (b ∷ []) w l }

-- A text, of which `part` fits.
wrote_text : {old front buffer part : List ℕ} {at count : ℕ} (text : List ℕ) → Wrote old front buffer at → at ≤ length buffer
    → count ≡ min (length text) (length buffer - at) → part ≡ take count text
    → Wrote old (front ++ text) (take at buffer ++ (part ++ drop (at + count) buffer)) (at + count)
wrote_text {old} {front} {buffer} {part} {at} {count} text w l fit p =
    let same : length buffer ≡ length old = wrote_length w in
    dite (dec_lt at (length buffer))
    (λ less.
    let whole : take (length old) front ≡ front = wrote_fits w (omega (arith, same)) in
    let size : at ≡ length front = w.number ∙ ap length whole in
    let held : buffer ≡ front ++ drop (length front) old = w.holds ∙ (cc) in
    let room : ℕ = length old - length front in
    let shown : take room text ≡ take count text =
    dite (dec_lt room (length text))
    (λ more. ap (λ (k : ℕ). take k text) (omega (arith, fit, size, same)))
    (λ all. take_all room text (omega arith) ∙ sym (take_all count text (omega (arith, fit, size, same)))) in
    let next : take (length old) (front ++ text) ≡ front ++ take count text =
    ap (λ (k : ℕ). take k (front ++ text)) (omega (arith, size, same))
    ∙ (take-append-add front text room ∙ ap (λ (t : List ℕ). front ++ t) shown) in
    let before : take at buffer ≡ front = ap (take at) held ∙ take_at front (drop (length front) old) at (sym size) in
    let behind : drop (at + count) buffer ≡ drop (at + count) old =
    ap (drop (at + count)) held ∙ drop-append-drop (length front) old front (at + count) (omega (arith, size)) refl in
    record {
      number =
          omega (arith, size, ap length next, length-append front (take count text), length-take-le count text (omega (arith, fit)));
      holds =
          ap (λ (t : List ℕ). t ++ (part ++ drop (at + count) buffer)) before
          ∙ (ap (λ (t : List ℕ). front ++ (t ++ drop (at + count) buffer)) p
          ∙ (ap (λ (t : List ℕ). front ++ (take count text ++ t)) behind
          ∙ (sym (append_assoc front (take count text) (drop (at + count) old))
          ∙ ap (λ (t : List ℕ). t ++ drop (at + count) old) (sym next))));
    })
    (λ full.
    let none : count ≡ 0 = omega (arith, fit) in
    let stays : take at buffer ++ (part ++ drop (at + count) buffer) ≡ buffer =
    ap (λ (t : List ℕ). take at buffer ++ (t ++ drop (at + count) buffer)) (p ∙ ap (λ (k : ℕ). take k text) none)
    ∙ (ap (λ (k : ℕ). take at buffer ++ drop k buffer) (omega (arith, none)) ∙ take-append-drop at buffer) in
    let past : Wrote old (front ++ text) buffer at = wrote_past text w (omega arith) in
    rw stays (rw none (rw (add-zero at) past)))

pub put_part : {buffer part text : List ℕ} {at count : ℕ} → at ≤ length buffer → count ≡ min (length text) (length buffer - at)
    → part ≡ take count text → Appends buffer at text (take at buffer ++ (part ++ drop (at + count) buffer)) (at + count)
put_part {buffer} {part} {text} {at} {count} l fit p =
    let size : length part ≡ count = ap length p ∙ length-take-le count text (omega (arith, fit)) in
    let split = length-append (take at buffer) (part ++ drop (at + count) buffer) in
    let behind = length-append part (drop (at + count) buffer) in
    record {
      within = omega (arith, fit, size, split, behind, length-take-le at buffer l, length-drop (at + count) buffer);
      goes = λ old front w. wrote_text text w l fit p;
    }

pub put_then : {a b c x y : List ℕ} {i j k : ℕ} → Appends a i x b j → Appends b j y c k → Appends a i (x ++ y) c k
put_then {c = c} {x = x} {y = y} {k = k} p q =
    record {
      within = q.within;
      goes = λ old front w.
          subst (λ (t : List ℕ). Wrote old t c k) (append_assoc front x y) (q.goes old (front ++ x) (p.goes old front w));
    }

-- One byte more of a text.
pub put_more : {a b c : List ℕ} {at i j k : ℕ} (text : List ℕ) → Appends a at (take i text) b j → i < length text
    → Appends b j (get_or text i 0 ∷ []) c k → Appends a at (take (i + 1) text) c k
put_more {a} {c = c} {at = at} {i = i} {k = k} text p l q =
    subst (λ (t : List ℕ). Appends a at t c k) (sym (ap (λ (n : ℕ). take n text) (add-one i) ∙ take-suc text i 0 l)) (put_then p q)

pub put_text : {a b text : List ℕ} {at i j : ℕ} → Appends a at (take i text) b j → length text ≤ i → Appends a at text b j
put_text {a} {b} {text} {at} {i} {j} p l = subst (λ (t : List ℕ). Appends a at t b j) (take_all i text l) p

pub put_as : {a b x y : List ℕ} {at next : ℕ} → Appends a at x b next → x ≡ y → Appends a at y b next
put_as {a} {b} {at = at} {next = next} p e = subst (λ (t : List ℕ). Appends a at t b next) e p

pub put_all : {old new buffer : List ℕ} {count : ℕ} → Appends old 0 new buffer count → Wrote old new buffer count
put_all {old} p =
    let none = sym (take-nil (length old)) in
    p.goes old [] (record { number = ap length none; holds = ap (λ (t : List ℕ). t ++ old) none })
