-- The result as the walk over the edit records makes it. `kept` has a word for each place of the log, and `ws` are the words of the records
-- that are still to come, three for each; p is the first place that is not passed yet.
use Rattle.std.specs.Prelude.{ℕ, ◌+◌, ◌-◌, ◌≤◌, ◌<◌, ◌≡◌, refl, Bool, cond, List, [], ◌∷◌, ◌++◌, length, get_or, take, drop, eqb}
use Rattle.std.proofs.Common.{sym, ap, ap₂, ◌∙◌, arith, eq-eqb, ne_eqb, length-append, length-drop, length-take-le}
use Rattle.std.proofs.Math.Logic.{dite}
use Rattle.std.proofs.Math.Decide.{dec_lt, ℕ_discrete}
use Rattle.strings.specs.Laws.{raised_length, length_token, length_other, spelt_token}
use Rattle.strings.specs.Lengths.{Measured}
use Rattle.strings.specs.Spelling.{spelt, raised, length_in}

-- The first place that a record leaves to be passed: a deleted token is passed by it.
unfoldable pub behind_by : ℕ → ℕ → ℕ
behind_by kind at = cond (eqb kind 1) (at + 1) at

-- How many tokens a record adds, by the table of lengths, and which.
unfoldable pub added_by : List ℕ → ℕ → ℕ → ℕ
added_by lengths kind X = cond (eqb kind 1) 0 (length_in lengths X)

unfoldable pub added_words : List ℕ → ℕ → ℕ → ℕ → ℕ → List ℕ
added_words table depth raise kind X = cond (eqb kind 1) [] (raised raise (spelt table depth X))

-- Kept tokens up to the record's place, then what it adds. Behind the last record all is kept.
unfoldable pub restored : List ℕ → ℕ → ℕ → List ℕ → ℕ → List ℕ → List ℕ
restored table depth raise kept p [] = drop p kept
restored table depth raise kept p (k ∷ []) = drop p kept
restored table depth raise kept p (k ∷ q ∷ []) = drop p kept
restored table depth raise kept p (k ∷ q ∷ X ∷ ws) =
    take (q - p) (drop p kept) ++ (added_words table depth raise k X ++ restored table depth raise kept (behind_by k q) ws)

-- How many words that are; n is the length of the log.
unfoldable pub needed : List ℕ → ℕ → ℕ → List ℕ → ℕ
needed lengths n p [] = n - p
needed lengths n p (k ∷ []) = n - p
needed lengths n p (k ∷ q ∷ []) = n - p
needed lengths n p (k ∷ q ∷ X ∷ ws) = q - p + (added_by lengths k X + needed lengths n (behind_by k q) ws)

-- A record that does not delete names a symbol.
abbrev pub Names : ℕ → ℕ → Type 0
Names k X = (k ≡ 1 → ⊥) → (1 ≤ X) × (X < 128)

-- The records name places that never fall, none past END's, and symbols.
pub data Listed (n : ℕ) : ℕ → List ℕ → Type 0 where
  over : {p : ℕ} → p ≤ n + 1 → Listed n p []
  also : {p k q X : ℕ} {ws : List ℕ} → p ≤ q → q ≤ n → Names k X → Listed n (behind_by k q) ws → Listed n p (k ∷ q ∷ X ∷ ws)

-- ---- By the kind of a record

pub behind_delete : {k : ℕ} (q : ℕ) → k ≡ 1 → behind_by k q ≡ q + 1
unfolding behind_by
behind_delete {k} q e = ap (λ (b : Bool). cond b (q + 1) q) (eq-eqb k 1 e)

pub behind_insert : {k : ℕ} (q : ℕ) → (k ≡ 1 → ⊥) → behind_by k q ≡ q
unfolding behind_by
behind_insert {k} q n = ap (λ (b : Bool). cond b (q + 1) q) (ne_eqb k 1 n)

pub added_delete : {k : ℕ} (lengths : List ℕ) (X : ℕ) → k ≡ 1 → added_by lengths k X ≡ 0
unfolding added_by
added_delete {k} lengths X e = ap (λ (b : Bool). cond b 0 (length_in lengths X)) (eq-eqb k 1 e)

pub added_insert : {k : ℕ} (lengths : List ℕ) (X : ℕ) → (k ≡ 1 → ⊥) → added_by lengths k X ≡ length_in lengths X
unfolding added_by
added_insert {k} lengths X n = ap (λ (b : Bool). cond b 0 (length_in lengths X)) (ne_eqb k 1 n)

pub words_delete : {k : ℕ} (table : List ℕ) (depth raise X : ℕ) → k ≡ 1 → added_words table depth raise k X ≡ []
unfolding added_words
words_delete {k} table depth raise X e = ap (λ (b : Bool). cond b [] (raised raise (spelt table depth X))) (eq-eqb k 1 e)

pub words_insert : {k : ℕ} (table : List ℕ) (depth raise X : ℕ) → (k ≡ 1 → ⊥)
    → added_words table depth raise k X ≡ raised raise (spelt table depth X)
unfolding added_words
words_insert {k} table depth raise X n = ap (λ (b : Bool). cond b [] (raised raise (spelt table depth X))) (ne_eqb k 1 n)

-- ---- A record, and what is behind the last

pub restored_also : (table : List ℕ) (depth raise : ℕ) (kept : List ℕ) (p k q X : ℕ) (ws : List ℕ)
    → restored table depth raise kept p (k ∷ q ∷ X ∷ ws)
    ≡ take (q - p) (drop p kept) ++ (added_words table depth raise k X ++ restored table depth raise kept (behind_by k q) ws)
unfolding restored
restored_also table depth raise kept p k q X ws = refl

pub restored_none : (table : List ℕ) (depth raise : ℕ) (kept : List ℕ) (p : ℕ) → restored table depth raise kept p [] ≡ drop p kept
unfolding restored
restored_none table depth raise kept p = refl

pub needed_also : (lengths : List ℕ) (n p k q X : ℕ) (ws : List ℕ)
    → needed lengths n p (k ∷ q ∷ X ∷ ws) ≡ q - p + (added_by lengths k X + needed lengths n (behind_by k q) ws)
unfolding needed
needed_also lengths n p k q X ws = refl

pub needed_none : (lengths : List ℕ) (n p : ℕ) → needed lengths n p [] ≡ n - p
unfolding needed
needed_none lengths n p = refl

-- The places and the symbol of the first record.
pub listed_first : {n p k q X : ℕ} {ws : List ℕ} → Listed n p (k ∷ q ∷ X ∷ ws)
    → (p ≤ q) × (q ≤ n) × Names k X × Listed n (behind_by k q) ws
listed_first (Listed.also a b c d) = (a, b, c, d)

pub listed_low : {n p : ℕ} {ws : List ℕ} → Listed n p ws → p ≤ n + 1
listed_low (Listed.over l) = l
listed_low (Listed.also a b c d) = omega arith

-- ---- As many words as are needed

-- The words kept up to a place.
pub part_length : (kept : List ℕ) (p q : ℕ) → q ≤ length kept → length (take (q - p) (drop p kept)) ≡ q - p
part_length kept p q h = length-take-le (q - p) (drop p kept) (omega (arith, length-drop p kept))

module _ {table lengths : List ℕ} {depth : ℕ} (m : Measured table depth lengths) (raise : ℕ) where
  string_size : (X : ℕ) → X < 128 → length_in lengths X ≡ length (spelt table depth X)
  string_size X l =
      dite (dec_lt X 64)
      (λ low. length_token lengths X low ∙ sym (ap length (spelt_token table depth X low)))
      (λ high.
      let e : 64 + (X - 64) ≡ X = omega arith in
      length_other lengths X (omega arith) ∙ (m.exact (X - 64) (omega arith) ∙ ap (λ Y. length (spelt table depth Y)) e))

  -- What a record adds is as long as the table says.
  pub added_length : (k X : ℕ) → Names k X → length (added_words table depth raise k X) ≡ added_by lengths k X
  added_length k X names =
      dite (ℕ_discrete k 1)
      (λ e. ap length (words_delete table depth raise X e) ∙ sym (added_delete lengths X e))
      (λ n.
      ap length (words_insert table depth raise X n)
      ∙ (raised_length raise (spelt table depth X) ∙ (sym (string_size X (names n).1) ∙ sym (added_insert lengths X n))))

  pub restored_length : (kept : List ℕ) {p : ℕ} {ws : List ℕ} → Listed (length kept) p ws
      → length (restored table depth raise kept p ws) ≡ needed lengths (length kept) p ws
  restored_length kept {p} (Listed.over l) =
      ap length (restored_none table depth raise kept p) ∙ (length-drop p kept ∙ sym (needed_none lengths (length kept) p))
  restored_length kept {p} (Listed.also {k = k} {q = q} {X = X} {ws = ws} l h names r) =
      let rest : List ℕ = restored table depth raise kept (behind_by k q) ws in
      ap length (restored_also table depth raise kept p k q X ws)
      ∙ (length-append (take (q - p) (drop p kept)) (added_words table depth raise k X ++ rest)
      ∙ (ap₂ (λ a b. a + b) (part_length kept p q h)
      (length-append (added_words table depth raise k X) rest
      ∙ ap₂ (λ a b. a + b) (added_length k X names) (restored_length kept r))
      ∙ sym (needed_also lengths (length kept) p k q X ws)))

-- ---- The records one by one

-- The first record of the words, as a part of them,
pub record_first : {ws rest : List ℕ} (x : List ℕ) → ws ≡ x ++ rest → length x ≡ 3
    → ws ≡ get_or x 0 0 ∷ get_or x 1 0 ∷ get_or x 2 0 ∷ rest
record_first [] e l = absurd (omega arith)
record_first (k ∷ []) e l = absurd (omega arith)
record_first (k ∷ q ∷ []) e l = absurd (omega arith)
record_first (k ∷ q ∷ X ∷ []) e l = e
record_first (k ∷ q ∷ X ∷ y ∷ ys) e l = absurd (omega arith)

-- and words that are no record.
pub restored_over : (table : List ℕ) (depth raise : ℕ) (kept : List ℕ) (p : ℕ) (ws : List ℕ) → length ws < 3
    → restored table depth raise kept p ws ≡ drop p kept
unfolding restored
restored_over table depth raise kept p [] l = refl
restored_over table depth raise kept p (k ∷ []) l = refl
restored_over table depth raise kept p (k ∷ q ∷ []) l = refl
restored_over table depth raise kept p (k ∷ q ∷ X ∷ ws) l = absurd (omega arith)

pub needed_over : (lengths : List ℕ) (n p : ℕ) (ws : List ℕ) → length ws < 3 → needed lengths n p ws ≡ n - p
unfolding needed
needed_over lengths n p [] l = refl
needed_over lengths n p (k ∷ []) l = refl
needed_over lengths n p (k ∷ q ∷ []) l = refl
needed_over lengths n p (k ∷ q ∷ X ∷ ws) l = absurd (omega arith)
