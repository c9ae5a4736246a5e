-- What one byte more does to what is known of a text.
--     passed_blank, passed_number                 a blank behind a passed text, and behind a number
--     passed_spells, open_spells, halted_stops    the text ends there
--     row_more, row_stops                         a byte that is not blank: the word is a number still, or will be none
use Rattle.std.specs.Prelude.{ℕ, suc, ◌+◌, ◌-◌, ◌*◌, ◌^◌, ◌≤◌, ◌<◌, ◌≡◌, refl, List, [], ◌∷◌, ◌++◌, ◌⊎◌, length}
use Rattle.std.proofs.Common.{mul_assoc, pow-suc, arith, sym, ap, subst, ◌∙◌, append_assoc, append-nil, inl, inr, length-append}
use Rattle.base.specs.Choices.{same_or}
use Rattle.grammar.specs.Derivation.{All, nothing, also}
use Rattle.grammar.specs.Theory.Closed.{all_append, all_rest}
use Rattle.spelling.specs.Text.{Blank, Digit, value_of, Number, Ended, Numbers, Spells, Stops}
use Rattle.spelling.specs.Text.Ended.{end, blank as ended-blank}
use Rattle.spelling.specs.Text.Numbers.{none, blank, number}
use Rattle.spelling.specs.Answer.{Passed, Open, Halted}

-- ---- Numbers, and then further ones

numbers_then : {text ns rest ms behind : List ℕ} → Numbers text ns rest → Numbers rest ms behind → Numbers text (ns ++ ms) behind
numbers_then {ms = ms} {behind = behind} (none e) more = subst (λ (t : List ℕ). Numbers t ms behind) (sym e) more
numbers_then (blank b p) more = blank b (numbers_then p more)
numbers_then (number e w d p) more = number e w d (numbers_then p more)

pub passed_nothing : Passed [] []
passed_nothing = record { before = λ more. none refl }

pub passed_blank : {text ns : List ℕ} {c : ℕ} → Passed text ns → Blank c → Passed (text ++ (c ∷ [])) ns
passed_blank {text} {ns} {c} p b = record { before = longer }
  where
    longer : (more : List ℕ) → Numbers ((text ++ (c ∷ [])) ++ more) ns more
    longer more =
        let read : Numbers (text ++ (c ∷ more)) (ns ++ []) more = numbers_then (p.before (c ∷ more)) (blank b (none refl)) in
        rw append_assoc (rw append-nil at read)

pub passed_number : {text ns : List ℕ} {v c : ℕ} → Open text ns v → Blank c → Passed (text ++ (c ∷ [])) (ns ++ (v ∷ []))
passed_number {text} {ns} {v} {c} o b = record { before = longer }
  where
    longer : (more : List ℕ) → Numbers ((text ++ (c ∷ [])) ++ more) (ns ++ (v ∷ [])) more
    longer more =
        let whole : (text ++ (c ∷ [])) ++ more ≡ o.front ++ (o.word ++ (c ∷ more)) =
        ap (λ (t : List ℕ). (t ++ (c ∷ [])) ++ more) o.whole ∙ simp append_assoc in
        subst (λ (t : List ℕ). Numbers t (ns ++ (v ∷ [])) more) (sym whole)
        (numbers_then (o.passed.before (o.word ++ (c ∷ more)))
        (number refl o.number (ended-blank b) (blank b (none refl))))

pub passed_spells : {text ns : List ℕ} → Passed text ns → Spells text ns
passed_spells {text} {ns} p = rw append-nil at (p.before [])

pub open_spells : {text ns : List ℕ} {v : ℕ} → Open text ns v → Spells text (ns ++ (v ∷ []))
open_spells {text} {ns} {v} o =
    subst (λ (t : List ℕ). Numbers t (ns ++ (v ∷ [])) []) (sym o.whole)
    (numbers_then (o.passed.before o.word) (number (sym (append-nil o.word)) o.number end (none refl)))

pub halted_stops : {text ns : List ℕ} → Halted text ns → Stops text ns
halted_stops h = rw append-nil at (h.before [])

-- ---- The value of digits

size : (word : List ℕ) (c : ℕ) → length (word ++ (c ∷ [])) ≡ suc (length word)
size word c = simp length-append (omega arith)

value_more : (word : List ℕ) (c : ℕ) → value_of (word ++ (c ∷ [])) ≡ 10 * value_of word + (c - 48)
unfolding value_of
value_more [] c = omega arith
value_more (d ∷ word) c =
    let power : ℕ = 10 ^ length word in
    let longer : 10 ^ length (word ++ (c ∷ [])) ≡ power * 10 = ap (λ (n : ℕ). 10 ^ n) (size word c) ∙ pow-suc 10 (length word) in
    let first : (d - 48) * 10 ^ length (word ++ (c ∷ [])) ≡ (d - 48) * power * 10 =
    ap (λ (p : ℕ). (d - 48) * p) longer ∙ sym (mul_assoc (d - 48) power 10) in
    omega (arith, first, value_more word c)

value_grows : (word more : List ℕ) → value_of word ≤ value_of (word ++ more)
value_grows word [] = rw append-nil (omega arith)
value_grows word (c ∷ more) =
    let next = value_grows (word ++ (c ∷ [])) more in
    let same : (word ++ (c ∷ [])) ++ more ≡ word ++ (c ∷ more) = append_assoc word (c ∷ []) more in
    omega (arith, value_more word c, next, ap value_of same)

-- ---- A word that is begun, or not yet

-- The text ends with digits of value v, or with none, behind a text that is passed.
pub record Row (text ns : List ℕ) (v : ℕ) : Type 0 where
  pub front : List ℕ
  pub word : List ℕ
  pub whole : text ≡ front ++ word
  pub passed : Passed front ns
  pub digits : All Digit word
  pub value : v ≡ value_of word

pub passed_row : {text ns : List ℕ} → Passed text ns → Row text ns 0
unfolding value_of
passed_row {text} {ns} p =
    record { front = text; word = []; whole = sym (append-nil text); passed = p; digits = nothing; value = refl }

pub open_row : {text ns : List ℕ} {v : ℕ} → Open text ns v → Row text ns v
open_row o =
    record {
      front = o.front;
      word = o.word;
      whole = o.whole;
      passed = o.passed;
      digits = o.number.digits;
      value = o.number.value;
    }

-- A blank that is none of the first three is the last.
pub blank_last : {c : ℕ} → (c ≡ 32 → ⊥) → (c ≡ 9 → ⊥) → (c ≡ 10 → ⊥) → Blank c → c ≡ 13
blank_last p q r (inl e) = absurd (p e)
blank_last p q r (inr (inl e)) = absurd (q e)
blank_last p q r (inr (inr (inl e))) = absurd (r e)
blank_last p q r (inr (inr (inr e))) = e

-- A digit is no blank.
pub digit_unblank : {c : ℕ} → Digit c → Blank c → ⊥
digit_unblank d b = let last = blank_last (λ e. omega arith) (λ e. omega arith) (λ e. omega arith) b in omega arith

pub digits_unbroken : {word : List ℕ} → All Digit word → All (λ c. Blank c → ⊥) word
digits_unbroken nothing = nothing
digits_unbroken (also d ds) = also (digit_unblank d) (digits_unbroken ds)

-- The run of bytes that are not blank in which a text begins.
record RunOf (text : List ℕ) : Type 0 where
  run : List ℕ
  rest : List ℕ
  whole : text ≡ run ++ rest
  unbroken : All (λ c. Blank c → ⊥) run
  ended : Ended rest

blank_or_not : (c : ℕ) → Blank c ⊎ (Blank c → ⊥)
blank_or_not c = found (same_or c 32) (same_or c 9) (same_or c 10) (same_or c 13)
  where
    found : (c ≡ 32) ⊎ (c ≡ 32 → ⊥) → (c ≡ 9) ⊎ (c ≡ 9 → ⊥) → (c ≡ 10) ⊎ (c ≡ 10 → ⊥) → (c ≡ 13) ⊎ (c ≡ 13 → ⊥)
        → Blank c ⊎ (Blank c → ⊥)
    found (inl e) _ _ _ = inl (inl e)
    found (inr _) (inl e) _ _ = inl (inr (inl e))
    found (inr _) (inr _) (inl e) _ = inl (inr (inr (inl e)))
    found (inr _) (inr _) (inr _) (inl e) = inl (inr (inr (inr e)))
    found (inr p) (inr q) (inr r) (inr s) = inr (λ b. s (blank_last p q r b))

run_of : (text : List ℕ) → RunOf text
run_of [] = record { run = []; rest = []; whole = refl; unbroken = nothing; ended = end }
run_of (c ∷ text) = begun (blank_or_not c) (run_of text)
  where
    begun : Blank c ⊎ (Blank c → ⊥) → RunOf text → RunOf (c ∷ text)
    begun (inl b) r = record { run = []; rest = c ∷ text; whole = refl; unbroken = nothing; ended = ended-blank b }
    begun (inr u) r =
        record {
          run = c ∷ r.run;
          rest = r.rest;
          whole = ap (λ (t : List ℕ). c ∷ t) r.whole;
          unbroken = also u r.unbroken;
          ended = r.ended;
        }

module _ {text ns : List ℕ} {v : ℕ} (c : ℕ) (row : Row text ns v) where
  longer_value : value_of (row.word ++ (c ∷ [])) ≡ 10 * v + (c - 48)
  longer_value = omega (arith, value_more row.word c, row.value)

  pub row_more : {w : ℕ} → Digit c → w ≡ 10 * v + (c - 48) → w ≤ 65535 → Open (text ++ (c ∷ [])) ns w
  row_more d e l =
      record {
        front = row.front;
        word = row.word ++ (c ∷ []);
        whole = ap (λ (t : List ℕ). t ++ (c ∷ [])) row.whole ∙ append_assoc row.front row.word (c ∷ []);
        passed = row.passed;
        number = record {
          some = omega (arith, size row.word c);
          digits = all_append row.digits (also d nothing);
          value = e ∙ sym longer_value;
          small = l;
        };
      }

  -- A word that begins with these bytes is no number.
  no_number : (Digit c → 65535 < 10 * v + (c - 48)) → (run : List ℕ) (n : ℕ) → Number (row.word ++ (c ∷ run)) n → ⊥
  no_number large run n is = refuted (all_rest row.word is.digits)
    where
      refuted : All Digit (c ∷ run) → ⊥
      refuted (also d _) =
          let same : (row.word ++ (c ∷ [])) ++ run ≡ row.word ++ (c ∷ run) = append_assoc row.word (c ∷ []) run in
          omega (arith, large d, longer_value, value_grows (row.word ++ (c ∷ [])) run, ap value_of same, is.value, is.small)

  pub row_stops : (Blank c → ⊥) → (Digit c → 65535 < 10 * v + (c - 48)) → Halted (text ++ (c ∷ [])) ns
  row_stops unblank large = record { before = λ more. stops more (run_of more) }
    where
      stops : (more : List ℕ) → RunOf more → Stops ((text ++ (c ∷ [])) ++ more) ns
      stops more first =
          let word : List ℕ = row.word ++ (c ∷ first.run) in
          let whole : (text ++ (c ∷ [])) ++ more ≡ row.front ++ (word ++ first.rest) =
          ap (λ (t : List ℕ). (t ++ (c ∷ [])) ++ more) row.whole
          ∙ (ap (λ (t : List ℕ). ((row.front ++ row.word) ++ (c ∷ [])) ++ t) first.whole ∙ simp append_assoc) in
          record {
            rest = word ++ first.rest;
            before = subst (λ (t : List ℕ). Numbers t ns (word ++ first.rest)) (sym whole) (row.passed.before (word ++ first.rest));
            stop = record {
              word = word;
              rest = first.rest;
              whole = refl;
              some = simp length-append (omega arith);
              unbroken = all_append (digits_unbroken row.digits) (also unblank first.unbroken);
              ended = first.ended;
              none = no_number large first.run;
            };
          }
