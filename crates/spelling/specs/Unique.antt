-- A text and a buffer allow one answer: `answered_unique`; and each beginning of a text one state: `told_unique`. A text spells one list
-- of words (`spells_unique`), or has one first word that is no number (`stops_unique`), and never both (`not_both`).
use Rattle.std.specs.Prelude.{ℕ, ◌+◌, ◌-◌, ◌*◌, ◌≤◌, ◌<◌, ◌≡◌, refl, List, [], ◌∷◌, ◌++◌, ◌⊎◌, length, take, Result, Ok, Err}
use Rattle.std.proofs.Common.{arith, sym, ap, ap₂, subst, ◌∙◌, inl, inr, length-append}
use Rattle.base.specs.Choices.{below_or}
use Rattle.grammar.specs.Derivation.{All, nothing, also}
use Rattle.grammar.specs.Buffers.{filled}
use Rattle.spelling.specs.Text.{Blank, Digit, value_of, Number, Ended, Numbers, Spells, BadWord, Stops}
use Rattle.spelling.specs.Text.Ended.{end, blank as ended-blank}
use Rattle.spelling.specs.Text.Numbers.{none, blank, number}
use Rattle.spelling.specs.Answer.{counted, stored, Passed, Open, Says, Told, Answered}
use Rattle.spelling.specs.Answer.Answered.{words, no_number}
use Rattle.spelling.specs.Texts.{
  digit_unblank,
  digits_unbroken,
  passed_spells,
  open_spells,
  halted_stops,
  passed_row,
  open_row,
  row_more,
  row_stops,
}
use Rattle.spelling.specs.declared.Spelled.{Spelled}
use Rattle.spelling.specs.declared.Spelled.TheVariants.{Between, Within, Stopped}
use Rattle.spelling.specs.declared.NoNumber.{NoNumber}

-- ---- Lists

no_cons : {x : ℕ} {l : List ℕ} → [] ≡ x ∷ l → ⊥
no_cons e = let z : ◌≡◌ {A = ℕ} 0 1 = cc in omega arith

head_same : {x y : ℕ} {l m : List ℕ} → x ∷ l ≡ y ∷ m → x ≡ y
head_same e = cc

tail_same : {x y : ℕ} {l m : List ℕ} → x ∷ l ≡ y ∷ m → l ≡ m
tail_same e = cc

cons_same : {x y : ℕ} {l m : List ℕ} → x ≡ y → l ≡ m → x ∷ l ≡ y ∷ m
cons_same e f = cc

last_same : (ns ms : List ℕ) {v w : ℕ} → ns ++ (v ∷ []) ≡ ms ++ (w ∷ []) → (ns ≡ ms) × (v ≡ w)
last_same [] [] e = (refl, head_same e)
last_same [] (m ∷ ms) {v} {w} e = absurd (omega (arith, ap length (tail_same e), length-append ms (w ∷ [])))
last_same (n ∷ ns) [] {v} {w} e = absurd (omega (arith, ap length (tail_same e), length-append ns (v ∷ [])))
last_same (n ∷ ns) (m ∷ ms) e = let same = last_same ns ms (tail_same e) in (cons_same (head_same e) same.0, same.1)

-- ---- Runs of bytes that are not blank

Unbroken : List ℕ → Type 0
Unbroken word = All (λ c. Blank c → ⊥) word

blank_as : {c d : ℕ} → c ≡ d → Blank c → Blank d
blank_as e b = subst (λ (k : ℕ). Blank k) e b

-- A text begins with one longest run.
runs_same : {w v r s : List ℕ} → Unbroken w → Unbroken v → Ended r → Ended s → w ++ r ≡ v ++ s → (w ≡ v) × (r ≡ s)
unfolding Unbroken
runs_same nothing nothing er es e = (refl, e)
runs_same nothing (also u a) end es e = absurd (no_cons e)
runs_same nothing (also u a) (ended-blank b) es e = absurd (u (blank_as (head_same e) b))
runs_same (also u a) nothing er end e = absurd (no_cons (sym e))
runs_same (also u a) nothing er (ended-blank b) e = absurd (u (blank_as (sym (head_same e)) b))
runs_same (also u a) (also u' a') er es e =
    let same = runs_same a a' er es (tail_same e) in
    (cons_same (head_same e) same.0, same.1)

-- A text that begins with such a run does not begin with a blank.
no_blank : {c : ℕ} {text : List ℕ} (word rest : List ℕ) → Unbroken word → 0 < length word → c ∷ text ≡ word ++ rest → Blank c → ⊥
unfolding Unbroken
no_blank [] rest a l e b = omega arith
no_blank (x ∷ word) rest (also u a) l e b = u (blank_as (head_same e) b)

number_unbroken : {word : List ℕ} {n : ℕ} → Number word n → Unbroken word
unfolding Unbroken
number_unbroken w = digits_unbroken w.digits

bad_unbroken : {rest : List ℕ} (bad : BadWord rest) → Unbroken bad.word
unfolding Unbroken
bad_unbroken bad = bad.unbroken

-- ---- One reading

-- Behind the numbers comes the end of the text, or a word that is no number.
data Final (rest : List ℕ) : Type 0 where
  ends : rest ≡ [] → Final rest
  stops : BadWord rest → Final rest

final_no_blank : {c : ℕ} {text rest : List ℕ} → Final rest → c ∷ text ≡ rest → Blank c → ⊥
final_no_blank (ends f) e b = no_cons (sym (e ∙ f))
final_no_blank (stops bad) e b = no_blank bad.word bad.rest (bad_unbroken bad) bad.some (e ∙ bad.whole) b

final_no_number : {word text whole rest : List ℕ} {n : ℕ} → Final rest → whole ≡ rest → whole ≡ word ++ text → Number word n
    → Ended text → ⊥
final_no_number {word} {text} (ends f) e g w d =
    let some = w.some in
    omega (arith, ap length (sym f ∙ (sym e ∙ g)), length-append word text)
final_no_number {n = n} (stops bad) e g w d =
    let same = runs_same (bad_unbroken bad) (number_unbroken w) bad.ended d (sym bad.whole ∙ (sym e ∙ g)) in
    bad.none n (subst (λ (v : List ℕ). Number v n) (sym same.0) w)

one_reading : {text ns ms rest rest' : List ℕ} → Numbers text ns rest → Final rest → Numbers text ms rest' → Final rest'
    → (ns ≡ ms) × (rest ≡ rest')
one_reading (none e) f (none e') f' = (refl, sym e ∙ e')
one_reading (none e) f (blank b p) f' = absurd (final_no_blank f e b)
one_reading (none e) f (number g w d p) f' = absurd (final_no_number f e g w d)
one_reading (blank b p) f (none e) f' = absurd (final_no_blank f' e b)
one_reading (blank b p) f (blank b' p') f' = one_reading p f p' f'
one_reading (blank b p) f (number {word = word} {text = text} g w d p') f' =
    absurd (no_blank word text (number_unbroken w) w.some g b)
one_reading (number g w d p) f (none e) f' = absurd (final_no_number f' e g w d)
one_reading (number {word = word} {text = text} g w d p) f (blank b p') f' =
    absurd (no_blank word text (number_unbroken w) w.some g b)
one_reading (number g w d p) f (number {ns = ms} {rest = rest'} g' w' d' p') f' =
    let same = runs_same (number_unbroken w) (number_unbroken w') d d' (sym g ∙ g') in
    let further = one_reading p f (subst (λ (t : List ℕ). Numbers t ms rest') (sym same.1) p') f' in
    (cons_same (w.value ∙ (ap value_of same.0 ∙ sym w'.value)) further.0, further.1)

pub spells_unique : {text ns ms : List ℕ} → Spells text ns → Spells text ms → ns ≡ ms
spells_unique p q = (one_reading p (ends refl) q (ends refl)).0

pub stops_unique : {text ns ms : List ℕ} → Stops text ns → Stops text ms → ns ≡ ms
stops_unique p q = (one_reading p.before (stops p.stop) q.before (stops q.stop)).0

pub not_both : {text ns ms : List ℕ} → Spells text ns → Stops text ms → ⊥
not_both p q =
    let behind = (one_reading p (ends refl) q.before (stops q.stop)).1 in
    let some = q.stop.some in
    omega (arith, ap length (behind ∙ q.stop.whole), length-append q.stop.word q.stop.rest)

pub answered_unique : {text : List ℕ} {room : ℕ} {r s : Result ℕ NoNumber} {buffer buffer' : List ℕ} → Answered text room r buffer
    → Answered text room s buffer' → (r ≡ s) × (buffer ≡ buffer')
answered_unique {room = room} (words ns p e b) (words ms q e' b') =
    let same = (one_reading p (ends refl) q (ends refl)).0 in (
      e ∙ (ap (λ (l : List ℕ). Ok (counted (length l))) same ∙ sym e'),
      b ∙ (ap (λ (l : List ℕ). filled room (take room l)) same ∙ sym b'),
    )
answered_unique (words ns p e b) (no_number ms q e' b') = absurd (not_both p q)
answered_unique (no_number ns p e b) (words ms q e' b') = absurd (not_both q p)
answered_unique (no_number ns p e b) (no_number ms q e' b') =
    let same = stops_unique p q in
    (e ∙ (ap (λ (l : List ℕ). Err (record { place = counted (length l + 1) })) same ∙ sym e'), b ∙ sym b')

-- ---- One state

-- No text is passed and ends within a number: a further digit would begin another number, and make this one longer.
not_open : {text ns ms : List ℕ} {v : ℕ} → Passed text ns → Open text ms v → ⊥
not_open {text} {ns} {ms} {v} p o = decided (below_or 65535 (10 * v + (48 - 48)))
  where
    zero_digit : Digit 48
    zero_digit = record { low = omega arith; high = omega arith }

    another : Spells (text ++ (48 ∷ [])) (ns ++ (0 ∷ []))
    another = open_spells (row_more 48 (passed_row p) zero_digit (omega arith) (omega arith))

    decided : (65535 < 10 * v + (48 - 48)) ⊎ (10 * v + (48 - 48) ≤ 65535) → ⊥
    decided (inl l) = not_both another (halted_stops (row_stops 48 (open_row o) (digit_unblank zero_digit) (λ d. l)))
    decided (inr l) =
        let longer = open_spells (row_more 48 (open_row o) zero_digit refl l) in
        let same = (last_same ns ms (spells_unique another longer)).0 in
        let more = spells_unique (passed_spells p) (open_spells o) in
        omega (arith, ap length same, ap length more, length-append ms (v ∷ []))

-- The numbers and the state.
says_unique : (text ns ms : List ℕ) (s t : Spelled) → Says text ns s → Says text ms t → (ns ≡ ms) × (s ≡ t)
unfolding Says
says_unique text ns ms (Between n) (Between m) p q =
    let same = spells_unique (passed_spells p.1) (passed_spells q.1) in
    (same, ap Between (p.0 ∙ (ap (λ (l : List ℕ). counted (length l)) same ∙ sym q.0)))
says_unique text ns ms (Between n) (Within m w) p q = absurd (not_open p.1 q.1)
says_unique text ns ms (Between n) (Stopped m) p q = absurd (not_both (passed_spells p.1) (halted_stops q.1))
says_unique text ns ms (Within n v) (Between m) p q = absurd (not_open q.1 p.1)
says_unique text ns ms (Within n v) (Within m w) p q =
    let same = last_same ns ms (spells_unique (open_spells p.1) (open_spells q.1)) in
    (same.0, ap₂ Within (p.0 ∙ (ap (λ (l : List ℕ). counted (length l)) same.0 ∙ sym q.0)) same.1)
says_unique text ns ms (Within n v) (Stopped m) p q = absurd (not_both (open_spells p.1) (halted_stops q.1))
says_unique text ns ms (Stopped n) (Between m) p q = absurd (not_both (passed_spells q.1) (halted_stops p.1))
says_unique text ns ms (Stopped n) (Within m w) p q = absurd (not_both (open_spells q.1) (halted_stops p.1))
says_unique text ns ms (Stopped n) (Stopped m) p q =
    let same = stops_unique (halted_stops p.1) (halted_stops q.1) in
    (same, ap Stopped (p.0 ∙ (ap (λ (l : List ℕ). counted (length l)) same ∙ sym q.0)))

pub told_unique : {old text : List ℕ} (s t : Spelled) {buffer buffer' : List ℕ} → Told old text s buffer → Told old text t buffer'
    → (s ≡ t) × (buffer ≡ buffer')
told_unique {old} {text} s t p q =
    let same = says_unique text p.numbers q.numbers s t p.says q.says in
    (same.1, p.holds ∙ (ap (stored old) same.0 ∙ sym q.holds))
