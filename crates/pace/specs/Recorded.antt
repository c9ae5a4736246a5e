-- The edit records as words: record i of the words is record i of the list, so what the words say of a place is what the
-- moves say of it.
use Rattle.std.specs.Prelude.{◌≡◌, ℕ, zero, suc, ◌+◌, ◌*◌, ◌<◌, ◌≤◌, List, [], ◌∷◌, ◌++◌, length, slice_index, refl}
use Rattle.std.proofs.Common.{sym, ap, ◌∙◌, ⊎_elim, arith, length-append}
use mathlib.Core.List.Memᴰ
use mathlib.Core.List.{Memᴰ}
use Rattle.grammar.specs.Moves.{Edit, edit_words}
use Rattle.grammar.proofs.Theory.Folds.{edit_words_length}
use Rattle.grammar.specs.Theory.Places.{Rising}
use Rattle.grammar.proofs.Theory.Places.{rising_member}
use Rattle.pace.specs.Watch.{kind_at, place_at, Records}

-- The records behind the first.
kind_later : (k p X : ℕ) (words : List ℕ) (i : ℕ) → kind_at (k ∷ p ∷ X ∷ words) (suc i) ≡ kind_at words i
kind_later k p X words i =
    let e : 3 * suc i ≡ suc (suc (suc (3 * i))) = omega arith in
    ap (λ (n : ℕ). slice_index (k ∷ p ∷ X ∷ words) n) e

place_later : (k p X : ℕ) (words : List ℕ) (i : ℕ) → place_at (k ∷ p ∷ X ∷ words) (suc i) ≡ place_at words i
place_later k p X words i =
    let e : 3 * suc i + 1 ≡ suc (suc (suc (3 * i + 1))) = omega arith in
    ap (λ (n : ℕ). slice_index (k ∷ p ∷ X ∷ words) n) e

-- Record i of the words is a member of the list,
pub record Entry (es : List Edit) (words : List ℕ) (i : ℕ) : Type 0 where
  pub edit : Edit
  pub member : Memᴰ edit es
  pub kind : kind_at words i ≡ edit.kind
  pub place : place_at words i ≡ edit.place

entry_later : {e : Edit} {es : List Edit} {words : List ℕ} {i : ℕ} → Entry es words i
    → Entry (e ∷ es) (e.kind ∷ e.place ∷ e.symbol ∷ words) (suc i)
entry_later {e} {es} {words} {i} h =
    record {
      edit = h.edit;
      member = Memᴰ.tail h.member;
      kind = kind_later e.kind e.place e.symbol words i ∙ h.kind;
      place = place_later e.kind e.place e.symbol words i ∙ h.place;
    }

pub entry_at : (es : List Edit) (rest : List ℕ) (i : ℕ) → i < length es → Entry es (edit_words es ++ rest) i
unfolding edit_words
entry_at [] rest i l = absurd (omega arith)
entry_at (e ∷ es) rest zero l = record { edit = e; member = Memᴰ.head refl; kind = refl; place = refl }
entry_at (e ∷ es) rest (suc i) l = entry_later (entry_at es rest i (omega arith))

-- and each member is a record of the words.
pub record Index (es : List Edit) (words : List ℕ) (e : Edit) : Type 0 where
  pub at : ℕ
  pub within : at < length es
  pub kind : kind_at words at ≡ e.kind
  pub place : place_at words at ≡ e.place

pub index_of : (es : List Edit) (rest : List ℕ) (e : Edit) → Memᴰ e es → Index es (edit_words es ++ rest) e
unfolding edit_words
index_of [] rest e m = absurd (Memᴰ.not-nil m)
index_of (d ∷ es) rest e m =
    ⊎_elim
    (λ q.
    record {
      at = 0;
      within = omega arith;
      kind = ap (λ (x : Edit). x.kind) (sym q);
      place = ap (λ (x : Edit). x.place) (sym q);
    })
    (λ k.
    let h = index_of es rest e k in
    record {
      at = suc h.at;
      within = omega (arith, h.within);
      kind = kind_later d.kind d.place d.symbol (edit_words es ++ rest) h.at ∙ h.kind;
      place = place_later d.kind d.place d.symbol (edit_words es ++ rest) h.at ∙ h.place;
    })
    (Memᴰ.cases_cons m)

-- Where the places of the list never fall, those of the words do not.
places_ordered : (es : List Edit) (rest : List ℕ) (p i j : ℕ) → Rising p es → i ≤ j → j < length es
    → place_at (edit_words es ++ rest) i ≤ place_at (edit_words es ++ rest) j
unfolding edit_words
places_ordered [] rest p i j r l h = absurd (omega arith)
places_ordered (e ∷ es) rest p zero zero r l h = omega arith
places_ordered (e ∷ es) rest p zero (suc j) (Rising.also low r) l h =
    let later = entry_at es rest j (omega arith) in
    let high = rising_member r later.member in
    omega (arith, place_later e.kind e.place e.symbol (edit_words es ++ rest) j, later.place)
places_ordered (e ∷ es) rest p (suc i) zero r l h = absurd (omega arith)
places_ordered (e ∷ es) rest p (suc i) (suc j) (Rising.also low r) l h =
    let behind = places_ordered es rest e.place i j r (omega arith) (omega arith) in
    omega (
      arith,
      place_later e.kind e.place e.symbol (edit_words es ++ rest) i,
      place_later e.kind e.place e.symbol (edit_words es ++ rest) j,
    )

pub records_rise : (es : List Edit) (rest : List ℕ) (p : ℕ) → Rising p es → Records (edit_words es ++ rest) (length es)
records_rise es rest p r =
    record {
      room = omega (arith, edit_words_length es, length-append (edit_words es) rest);
      ordered = λ i j l h. places_ordered es rest p i j r l h;
    }
