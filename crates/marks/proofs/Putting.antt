-- The result of a run, put into the buffer: from the records of its moves to its marks.
use Rattle.std.specs.Prelude.{Option, Some, None}
use Prim.Native.Nat.{ℕ, zero, suc, ◌*◌, ◌≤◌, ◌<◌}
use mathlib.Core.Path.{◌≡◌, refl, sym, ap, ap₂, subst, ◌∙◌}
use mathlib.Core.Bool.{Bool, true, false}
use mathlib.Core.List.{List, [], map}
use mathlib.Core.Logic.{dite}
use native.Mathlib.Decide.{dec_lt}
use native.Mathlib.Omega.{arith}
use lib.ListN.{length, get_or, take, replicate}
use Rattle.base.specs.Telling.{Tells}
use Rattle.base.specs.Written.{written}
use Rattle.grammar.specs.Words.{nonterminal_count}
use Rattle.grammar.specs.Moves.{Move, edit_words, edits as edits_of}
use Rattle.grammar.specs.Marks.{Mark, MarksOf}
use Rattle.strings.specs.Gathering.{Gathered, gathered_rights}
use Rattle.strings.specs.Lengths.{CanMeasure}
use Rattle.strings.specs.Ready.{Tables, Ready}
use Rattle.strings.specs.Spelled.{Rights, Spells, spells_words}
use Rattle.marks.specs.Answer.{PutOf, word_by}
use Rattle.marks.specs.Marking.{CanPut, CanRestore, CanSize, PutAs, Ran, RestoredAs}
use Rattle.marks.specs.Restored.{listed_walk, marks_restored, marks_unedited}
use Rattle.marks.specs.Restoring.{Listed, needed, restored, restored_length}

-- A table that is all zero.
blank_at : (n k : ℕ) → ◌≡◌ {A = ℕ} (get_or (replicate n 0) k 0) 0
blank_at zero k = refl
blank_at (suc n) zero = refl
blank_at (suc n) (suc k) = blank_at n k

abbrev pub blank : List ℕ
blank = replicate 64 0

-- A log without edits is its own result.
pub put_log : {ws edits : List ℕ} {records : ℕ} {kept : List ℕ} {raise : ℕ} {old tokens : List ℕ} {r : Option ℕ} → records ≡ 0
    → PutOf kept old tokens r → PutAs ws edits records kept raise old tokens r
put_log {ws} {edits} {records} {kept} {raise} {old} {tokens} {r} e p =
    record {
      puts = λ ms xs ran m.
          let none : edit_words (edits_of ms) ≡ [] = sym ran.front ∙ ap (λ n. take (3 * n) edits) e in
          subst (λ l. PutOf l old tokens r) (sym (marks_unedited kept raise ran.walk ran.tokens none m)) p;
    }

module _ {ws prices sides edits : List ℕ} {records : ℕ} {kept : List ℕ} {raise : ℕ} (can : CanPut ws prices sides edits records kept raise)
    {table : List ℕ} (g : Gathered (nonterminal_count ws) prices sides blank table) {depth : ℕ} (deep : depth ≡ nonterminal_count ws) where
  rights : Rights ws table
  rights = gathered_rights ws prices sides can.accepted can.cheap refl (blank_at 64) g

  spells : Spells table depth
  spells = subst (λ n. Spells table n) (sym deep) (spells_words ws table can.accepted rights)

  pub put_can_measure : CanMeasure table depth blank
  put_can_measure = record { spells = spells; size = refl; zeros = blank_at 64 }

  listed : Listed (length kept) 0 (take (3 * records) edits)
  listed =
      let ran = can.ran in
      subst (λ ws. Listed (length kept) 0 ws) (sym ran.front)
      (listed_walk ws can.accepted ran.walk ran.tokens ran.known)

  module _ {strings : Tables} (made : strings.rights ≡ table) (deep_as : strings.depth ≡ depth) (ready : Ready strings) where
    rights_as : Rights ws strings.rights
    rights_as = subst (λ l. Rights ws l) (sym made) rights

    pub put_can_size : CanSize (take (3 * records) edits) strings.lengths (length kept)
    put_can_size =
        record {
          limit = λ k l. omega (arith, ready.measured.exact k l, ready.spells.limit k l);
          listed = listed;
        }

    size : length (restored strings.rights strings.depth raise kept 0 (take (3 * records) edits))
        ≡ needed strings.lengths (length kept) 0 (take (3 * records) edits)
    size = restored_length ready.measured raise kept listed

    -- What the walk makes is the words of the marks.
    words : (ms : List Move) (xs : List Mark) → Ran ws edits records (length kept) ms → MarksOf ws ms xs
        → map (word_by kept raise) xs ≡ restored strings.rights strings.depth raise kept 0 (take (3 * records) edits)
    words ms xs ran marked =
        marks_restored ws strings.rights can.accepted rights_as raise kept ran.walk ran.tokens ran.known marked
        ∙ ap₂ (λ n l. restored strings.rights n raise kept 0 l) (sym (deep_as ∙ deep)) (sym ran.front)

    module _ {room : ℕ} {b : Bool} (t : Tells (needed strings.lengths (length kept) 0 (take (3 * records) edits) ≤ room) b) where
      pub put_can_restore : {tokens : List ℕ} → room ≡ length tokens → b ≡ true
          → CanRestore strings (take (3 * records) edits) kept raise tokens
      put_can_restore e f =
          record {
            listed = listed;
            small = can.small;
            room = omega (arith, size, t.yes f);
          }

      pub put_short : {old tokens : List ℕ} → room ≡ length old → b ≡ false → PutAs ws edits records kept raise old tokens None
      unfolding PutOf
      put_short {old} e f =
          record {
            puts = λ ms xs ran marked.
                over (length (map (word_by kept raise) xs)) (ap length (words ms xs ran marked) ∙ size);
          }
        where
          over : (n : ℕ) → n ≡ needed strings.lengths (length kept) 0 (take (3 * records) edits) → length old < n
          over n h =
              dite (dec_lt (length old) n) (λ l. l) (λ l. absurd (t.no f (omega arith)))

      pub put_whole : {old tokens : List ℕ} {n : ℕ} → room ≡ length old → b ≡ true
          → RestoredAs strings.rights strings.depth (take (3 * records) edits) kept raise old tokens n → PutAs ws edits records kept raise old tokens (Some n)
      unfolding PutOf
      put_whole {old} e f r =
          record {
            puts = λ ms xs ran marked.
                let same = words ms xs ran marked in (
                  r.count ∙ ap length (sym same),
                  omega (arith, ap length same, size, t.yes f),
                  r.wrote ∙ ap (λ l. written old 0 l) (sym same),
                );
          }
