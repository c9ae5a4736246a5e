-- What the cursor has looked at: the records from `at` up to `behind` are those of the place.
use Rattle.std.proofs.Common.{◌≡◌, ℕ, ◌+◌, ◌<◌, ◌≤◌, Bool, true, false, ltb, List, sym, ◌∙◌, ⊎_elim, true≢false, arith, ltb-false, ltb-true}
use mathlib.Core.Bool.{false≢true}
use Rattle.pace.specs.Order.{below_or_not, below_next}
use Rattle.pace.specs.Watch.{Cursor, DeleteAt, Stands, place_at, kind_at}

pub record Looked (words : List ℕ) (records at place behind : ℕ) (deleted : Bool) : Type 0 where
  pub onward : at ≤ behind
  pub within : behind ≤ records
  pub same : (i : ℕ) → at ≤ i → i < behind → place_at words i ≡ place
  pub some : deleted ≡ true → DeleteAt words records place
  pub none : deleted ≡ false → (i : ℕ) → at ≤ i → i < behind → kind_at words i ≡ 1 → ⊥

pub looked_none : {words : List ℕ} {records at place : ℕ} → at ≤ records → Looked words records at place at false
looked_none l =
    record {
      onward = omega arith;
      within = l;
      same = λ i x y. absurd (omega arith);
      some = λ e. absurd (false≢true e);
      none = λ e i x y k. omega arith;
    }

module _ {words : List ℕ} {records at place behind : ℕ} {deleted : Bool} (looked : Looked words records at place behind deleted)
    (there : (behind < records) × (place_at words behind ≡ place)) where
  next_same : (i : ℕ) → at ≤ i → i < behind + 1 → place_at words i ≡ place
  next_same i l h = below_next (λ j. place_at words j ≡ place) i behind h (λ k. looked.same i l k) there.1

  -- One record more: a delete,
  pub looked_delete : {found : Bool} → found ≡ true → kind_at words behind ≡ 1 → Looked words records at place (behind + 1) found
  looked_delete f e =
      record {
        onward = omega (arith, looked.onward);
        within = omega (arith, there.0);
        same = next_same;
        some = λ t. (behind, there.0, there.1, e);
        none = λ t. absurd (true≢false (sym f ∙ t));
      }

  -- or none.
  pub looked_other : {found : Bool} → found ≡ deleted → (kind_at words behind ≡ 1 → ⊥)
      → Looked words records at place (behind + 1) found
  looked_other f n =
      record {
        onward = omega (arith, looked.onward);
        within = omega (arith, there.0);
        same = next_same;
        some = λ t. looked.some (sym f ∙ t);
        none = λ t i l h. below_next (λ j. kind_at words j ≡ 1 → ⊥) i behind h (λ k. looked.none (sym f ∙ t) i l k) n;
      }

-- The records that are left have later places.
module _ {words : List ℕ} {records at place behind : ℕ} {deleted : Bool} (cursor : Cursor words records at place)
    (looked : Looked words records at place behind deleted)
    (gone : (behind < records) × (place_at words behind ≡ place) → ⊥) where
  later : (i : ℕ) → behind ≤ i → i < records → place + 1 ≤ place_at words i
  later i l h =
      let b = cursor.onward behind looked.onward (omega arith) in
      let r = cursor.rising.ordered behind i l h in
      ⊎_elim
      (λ k. omega arith)
      (λ k.
      let e : place_at words behind ≡ place = omega arith in
      absurd (gone (omega arith, e)))
      (below_or_not place (place_at words behind))

  earlier : (i : ℕ) → i < behind → place_at words i < place + 1
  earlier i l =
      ⊎_elim
      (λ h. let b = cursor.before i h in omega arith)
      (λ h. let e = looked.same i h l in omega arith)
      (below_or_not i at)

  -- A record of the place is among those looked at.
  among : (i : ℕ) → i < records → place_at words i ≡ place → (at ≤ i) × (i < behind)
  among i l e =
      ⊎_elim
      (λ h. let b = cursor.before i h in absurd (omega arith))
      (λ h.
      ⊎_elim
      (λ k. (h, k))
      (λ k. let b = later i k l in absurd (omega arith))
      (below_or_not i behind))
      (below_or_not i at)

  pub looked_all : Stands words records place (record { edited = ltb at behind; deleted = deleted; behind = behind })
  looked_all =
      record {
        edited =
            record {
              yes = λ t.
                  let l = ltb-true at behind t in
                  (at, omega (arith, looked.within), looked.same at (omega arith) l);
              no = λ t h.
                  let l = ltb-false at behind t in
                  let w = among h.0 h.1 h.2 in
                  omega (arith, w.0, w.1);
            };
        deleted =
            record {
              yes = looked.some;
              no = λ t h.
                  let w = among h.0 h.1 h.2 in
                  looked.none t h.0 w.0 w.1 h.3;
            };
        cursor =
            record {
              rising = cursor.rising;
              within = looked.within;
              before = earlier;
              onward = later;
            };
      }
