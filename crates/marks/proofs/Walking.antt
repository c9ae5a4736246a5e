-- The loop over the edit records that writes the result: what holds before each turn; and what one record adds.
use Prim.Native.Nat.{ℕ, min, ◌+◌, ◌-◌, ◌≤◌, ◌<◌}
use mathlib.Core.Path.{◌≡◌, refl, sym, ap, ap₂, subst, ◌∙◌}
use mathlib.Core.List.{List, [], ◌++◌, append_assoc}
use mathlib.Core.Logic.{dite}
use native.Mathlib.Decide.{dec_lt}
use native.Mathlib.Omega.{arith}
use lib.ListN.{length, take, drop, length-append, length-drop}
use lib.Seq.{take_all}
use Rattle.std.proofs.lemmas.List.{drop_all}
use Rattle.base.specs.Written.{written, written_none, written_then, written_length}
use Rattle.strings.specs.Laws.{raised_length}
use Rattle.strings.specs.Spelling.{raised, spelt}
use Rattle.strings.specs.Ready.{Tables, CanWrite}
use Rattle.strings.specs.Work.{Spelt}
use Rattle.marks.specs.Marking.{Copied, CanAdd, CanRestore, RestoredAs, WroteAdded}
use Rattle.marks.specs.Restoring.{
  added_words,
  behind_by,
  restored,
  Listed,
  words_delete,
  words_insert,
  restored_also,
  restored_over,
  part_length,
  record_first,
}
use Rattle.marks.proofs.Sizing.{kind_of, place_of, symbol_of, Next, next_of}

-- What is kept from a place on, which may lie behind the end.
pub kept_rest : (kept : List ℕ) (place m : ℕ) → m ≡ min place (length kept) → take (length kept - m) (drop m kept) ≡ drop place kept
kept_rest kept place m e =
    take_all (length kept - m) (drop m kept) (omega (arith, length-drop m kept))
    ∙ dite (dec_lt (length kept) place)
    (λ l.
    let end : m ≡ length kept = omega arith in
    drop_all m kept (omega arith) ∙ sym (drop_all place kept (omega arith)))
    (λ l. let same : m ≡ place = omega arith in ap (λ n. drop n kept) same)

-- ---- The result itself

-- `done` stands in the buffer, and together with what the records still to come make it is the whole result; `ws` are their words.
pub record Walking (table : List ℕ) (depth : ℕ) (records kept : List ℕ) (raise : ℕ) (old : List ℕ) (place : ℕ) (ws tokens : List ℕ)
    (end : ℕ) : Type 0 where
  pub listed : Listed (length kept) place ws
  pub done : List ℕ
  pub wrote : tokens ≡ written old 0 done
  pub ended : end ≡ length done
  pub still : done ++ restored table depth raise kept place ws ≡ restored table depth raise kept 0 records

pub walk_begins : {strings : Tables} {records kept : List ℕ} {raise : ℕ} {old : List ℕ}
    → CanRestore strings records kept raise old → Walking strings.rights strings.depth records kept raise old 0 records old 0
walk_begins {old = old} can =
    record {
      listed = can.listed;
      done = [];
      wrote = sym (written_none old 0);
      ended = refl;
      still = refl;
    }

-- A list that is written behind what is done.
written_behind : (old : List ℕ) (done new : List ℕ) {tokens after : List ℕ} {end : ℕ} → tokens ≡ written old 0 done → end ≡ length done
    → after ≡ written tokens end new → after ≡ written old 0 (done ++ new)
written_behind old done new {tokens} {after} {end} e f g =
    let size : end ≡ 0 + length done = omega arith in
    g ∙ (ap₂ (λ t n. written t n new) e size ∙ written_then old 0 done new (omega arith))

module _ {strings : Tables} {records kept : List ℕ} {raise : ℕ} {old : List ℕ} {place : ℕ} {ws tokens : List ℕ}
    {end : ℕ} (can : CanRestore strings records kept raise old)
    (s : Walking strings.rights strings.depth records kept raise old place ws tokens end) where
  pub walk_length : length tokens ≡ length old
  walk_length =
      ap length s.wrote
      ∙ written_length old 0 s.done
      (omega (arith, can.room, ap length s.still, length-append s.done (restored strings.rights strings.depth raise kept place ws)))

  module _ (x rest : List ℕ) (e : ws ≡ x ++ rest) (three : length x ≡ 3) where
    pub walk_next : Next (length kept) place x rest
    walk_next = next_of x e three s.listed

    abbrev passed : List ℕ
    passed = take (place_of x - place) (drop place kept)

    abbrev adds : List ℕ
    adds = added_words strings.rights strings.depth raise (kind_of x) (symbol_of x)

    abbrev behind : List ℕ
    behind = restored strings.rights strings.depth raise kept (behind_by (kind_of x) (place_of x)) rest

    whole : s.done ++ (passed ++ (adds ++ behind)) ≡ restored strings.rights strings.depth raise kept 0 records
    whole =
        ap (λ t. s.done ++ t)
        (sym
        (ap (λ l. restored strings.rights strings.depth raise kept place l) (record_first x e three)
        ∙ restored_also strings.rights strings.depth raise kept place (kind_of x) (place_of x) (symbol_of x) rest))
        ∙ s.still

    sizes : length s.done + (place_of x - place + (length adds + length behind)) ≤ length old
    sizes =
        omega (
          arith,
          can.room,
          ap length whole,
          length-append s.done (passed ++ (adds ++ behind)),
          length-append passed (adds ++ behind),
          length-append adds behind,
          part_length kept place (place_of x) walk_next.within,
        )

    -- There is room for the words up to the record's place,
    pub walk_can_copy : end + length passed ≤ length tokens
    walk_can_copy = omega (arith, sizes, s.ended, walk_length, part_length kept place (place_of x) walk_next.within)

    -- and for what it adds.
    module _ {mid : List ℕ} {next : ℕ} (copied : Copied passed tokens end mid next) where
      pub walk_can_add : length mid ≡ length tokens → CanAdd strings (kind_of x) (symbol_of x) raise mid next
      walk_can_add same =
          record {
            names = walk_next.names;
            small = can.small;
            room =
                omega (arith, sizes, s.ended, walk_length, copied.ends, same, part_length kept place (place_of x) walk_next.within);
          }

      pub walk_goes : {after : List ℕ} {last behind_place : ℕ}
          → WroteAdded strings.rights strings.depth (kind_of x) (symbol_of x) raise mid next after last
          → behind_place ≡ behind_by (kind_of x) (place_of x)
          → Walking strings.rights strings.depth records kept raise old behind_place rest after last
      walk_goes {after} {last} {behind_place} w f =
          let first : length (s.done ++ passed) ≡ next = length-append s.done passed ∙ omega (arith, copied.ends, s.ended) in
          record {
            listed = subst (λ p. Listed (length kept) p rest) (sym f) walk_next.listed;
            done = (s.done ++ passed) ++ adds;
            wrote =
                written_behind old (s.done ++ passed) adds
                (written_behind old s.done passed s.wrote s.ended copied.wrote) (sym first) w.wrote;
            ended = w.ends ∙ (ap (λ n. n + length adds) (sym first) ∙ sym (length-append (s.done ++ passed) adds));
            still =
                ap (λ p. ((s.done ++ passed) ++ adds) ++ restored strings.rights strings.depth raise kept p rest) f
                ∙ (append_assoc (s.done ++ passed) adds behind ∙ (append_assoc s.done passed (adds ++ behind) ∙ whole));
          }

  -- Behind the last record all is kept.
  module _ {part : List ℕ} (l : length ws < 3) (e : part ≡ drop place kept) where
    end_whole : s.done ++ part ≡ restored strings.rights strings.depth raise kept 0 records
    end_whole = ap (λ t. s.done ++ t) (e ∙ sym (restored_over strings.rights strings.depth raise kept place ws l)) ∙ s.still

    pub walk_can_end : end + length part ≤ length tokens
    walk_can_end = omega (arith, can.room, ap length end_whole, length-append s.done part, s.ended, walk_length)

    pub walk_ends : {after : List ℕ} {size : ℕ} → Copied part tokens end after size
        → RestoredAs strings.rights strings.depth records kept raise old after size
    walk_ends {after} {size} c =
        record {
          wrote = written_behind old s.done part s.wrote s.ended c.wrote ∙ ap (λ t. written old 0 t) end_whole;
          count =
              c.ends ∙ (ap (λ n. n + length part) s.ended ∙ (sym (length-append s.done part) ∙ ap length end_whole));
        }

-- ---- What one record adds

module _ {strings : Tables} {kind symbol raise : ℕ} {tokens : List ℕ} {at : ℕ} (can : CanAdd strings kind symbol raise tokens at) where
  -- A delete adds nothing.
  pub add_none : kind ≡ 1 → WroteAdded strings.rights strings.depth kind symbol raise tokens at tokens at
  add_none e =
      let none = words_delete strings.rights strings.depth raise symbol e in
      record {
        wrote = sym (ap (λ w. written tokens at w) none ∙ written_none tokens at);
        ends = sym (ap (λ (w : List ℕ). at + length w) none ∙ omega arith);
      }

  -- An insert adds a string.
  module _ (n : kind ≡ 1 → ⊥) where
    words : added_words strings.rights strings.depth raise kind symbol ≡ raised raise (spelt strings.rights strings.depth symbol)
    words = words_insert strings.rights strings.depth raise symbol n

    pub add_can : CanWrite strings symbol raise tokens at
    add_can =
        record {
          low = (can.names n).0;
          high = (can.names n).1;
          small = can.small;
          room = omega (arith, can.room, ap length words, raised_length raise (spelt strings.rights strings.depth symbol));
        }

    pub add_string : {after : List ℕ} {end : ℕ} → Spelt strings.rights strings.depth symbol raise tokens at after end
        → WroteAdded strings.rights strings.depth kind symbol raise tokens at after end
    add_string s =
        record {
          wrote = s.wrote ∙ ap (λ w. written tokens at w) (sym words);
          ends = omega (arith, s.ends, ap length words, raised_length raise (spelt strings.rights strings.depth symbol));
        }
