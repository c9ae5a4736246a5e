-- Edit records in the buffer: "an edit record is three u16 words: kind (1 delete, 2 insert), place, symbol".
use Rattle.std.specs.Prelude.{ℕ, suc, ◌+◌, ◌*◌, ◌≤◌, ◌<◌, ◌^◌, ◌≡◌, refl, List, [], ◌∷◌, ◌++◌, length, get_or, take, set}
use Rattle.std.proofs.Common.{ap, ◌∙◌, append_assoc, arith, length-set, take-suc, take-suc-set, length-take-le}
use Rattle.grammar.specs.Moves.{Move, Edit, edits, edit_words}
use Rattle.grammar.specs.Run.{deletes}
use Rattle.grammar.proofs.Theory.Folds.{edits_append}

-- ---- One record

pub record CanRecord (records place : ℕ) : Type 0 where
  pub count : 3 * records + 3 < 2 ^ 64
  pub place_fits : place < 65536

-- The buffer keeps its length, and where the record's three words fit they stand behind the records before it.
pub record Recorded (before : List ℕ) (records kind place symbol : ℕ) (after : List ℕ) : Type 0 where
  pub size : length after ≡ length before
  pub front : 3 * records + 3 ≤ length before
      → take (3 * (records + 1)) after ≡ take (3 * records) before ++ (kind ∷ place ∷ symbol ∷ [])

pub recorded_full : (before : List ℕ) (records kind place symbol : ℕ) → length before < 3 * records + 3
    → Recorded before records kind place symbol before
recorded_full before records kind place symbol l = record { size = refl; front = λ h. absurd (omega arith) }

-- Three words written one behind another.
three : (b : List ℕ) (n x y z : ℕ) → n + 3 ≤ length b
    → take (n + 3) (set (set (set b n x) (n + 1) y) (n + 2) z) ≡ take n b ++ (x ∷ y ∷ z ∷ [])
three b n x y z l =
    let b₁ = set b n x in
    let b₂ = set b₁ (n + 1) y in
    let l₁ : length b₁ ≡ length b = length-set b n x in
    let l₂ : length b₂ ≡ length b₁ = length-set b₁ (n + 1) y in
    let e₃ : n + 3 ≡ suc (n + 2) = omega arith in
    let e₂ : n + 2 ≡ suc (n + 1) = omega arith in
    let e₁ : n + 1 ≡ suc n = omega arith in
    let third : take (n + 3) (set b₂ (n + 2) z) ≡ take (n + 2) b₂ ++ (z ∷ []) =
    ap (λ k. take k (set b₂ (n + 2) z)) e₃ ∙ take-suc-set b₂ (n + 2) z (omega arith) in
    let second : take (n + 2) b₂ ≡ take (n + 1) b₁ ++ (y ∷ []) =
    ap (λ k. take k b₂) e₂ ∙ take-suc-set b₁ (n + 1) y (omega arith) in
    let first : take (n + 1) b₁ ≡ take n b ++ (x ∷ []) =
    ap (λ k. take k b₁) e₁ ∙ take-suc-set b n x (omega arith) in
    third
    ∙ ap (λ w. w ++ (z ∷ [])) (second ∙ ap (λ w. w ++ (y ∷ [])) first)
    ∙ ap (λ w. w ++ (z ∷ [])) (append_assoc (take n b) (x ∷ []) (y ∷ []))
    ∙ append_assoc (take n b) (x ∷ y ∷ []) (z ∷ [])

pub recorded_whole : (before : List ℕ) (records kind place symbol : ℕ) → 3 * records + 3 ≤ length before
    → Recorded before records kind place symbol
    (set (set (set before (3 * records) kind) (3 * records + 1) place) (3 * records + 2) symbol)
recorded_whole before records kind place symbol l =
    record {
      size =
          length-set (set (set before (3 * records) kind) (3 * records + 1) place) (3 * records + 2) symbol
          ∙ length-set (set before (3 * records) kind) (3 * records + 1) place
          ∙ length-set before (3 * records) kind;
      front = λ h.
          let e : 3 * (records + 1) ≡ 3 * records + 3 = omega arith in
          ap (λ n. take n (set (set (set before (3 * records) kind) (3 * records + 1) place) (3 * records + 2) symbol)) e
          ∙ three before (3 * records) kind place symbol l;
    }

-- ---- The words of deletes, one more at a time

words_append : (es fs : List Edit) → edit_words (es ++ fs) ≡ edit_words es ++ edit_words fs
unfolding edit_words
words_append [] fs = refl
words_append (e ∷ es) fs = ap (λ l. e.kind ∷ e.place ∷ e.symbol ∷ l) (words_append es fs)

-- The words that the edits of the moves are.
unfoldable pub words_of : List Move → List ℕ
words_of ms = edit_words (edits ms)

pub words_moves : (ms ns : List Move) → words_of (ms ++ ns) ≡ words_of ms ++ words_of ns
unfolding words_of
words_moves ms ns = ap edit_words (edits_append ms ns) ∙ words_append (edits ms) (edits ns)

deletes_append : (p : ℕ) (ts us : List ℕ) → deletes p (ts ++ us) ≡ deletes p ts ++ deletes (p + length ts) us
unfolding deletes
deletes_append p [] us = let e : p ≡ p + 0 = omega arith in ap (λ q. deletes q us) e
deletes_append p (t ∷ ts) us =
    let e : p + 1 + length ts ≡ p + length (t ∷ ts) = omega arith in
    ap (λ l. Move.delete p t ∷ l) (deletes_append (p + 1) ts us ∙ ap (λ q. deletes (p + 1) ts ++ deletes q us) e)

pub words_delete : (p j : ℕ) (ρ : List ℕ) → j < length ρ
    → words_of (deletes p (take (j + 1) ρ)) ≡ words_of (deletes p (take j ρ)) ++ (1 ∷ (p + j) ∷ get_or ρ j 0 ∷ [])
unfolding words_of edits edit_words deletes
words_delete p j ρ l =
    let e : j + 1 ≡ suc j = omega arith in
    let n : length (take j ρ) ≡ j = length-take-le j ρ (omega arith) in
    ap (λ k. words_of (deletes p (take k ρ))) e
    ∙ ap (λ k. words_of (deletes p k)) (take-suc ρ j 0 l)
    ∙ ap words_of (deletes_append p (take j ρ) (get_or ρ j 0 ∷ []))
    ∙ words_moves (deletes p (take j ρ)) (deletes (p + length (take j ρ)) (get_or ρ j 0 ∷ []))
    ∙ ap (λ w. words_of (deletes p (take j ρ)) ++ w)
    (one (p + length (take j ρ)) (get_or ρ j 0) ∙ ap (λ k. 1 ∷ (p + k) ∷ get_or ρ j 0 ∷ []) n)
  where
    one : (q t : ℕ) → words_of (deletes q (t ∷ [])) ≡ 1 ∷ q ∷ t ∷ []
    one q t = refl
