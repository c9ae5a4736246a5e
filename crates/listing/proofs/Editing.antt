-- The edit lines of words, record by record: what is written, and what is left.
use Prim.Native.Nat.{ℕ, ◌<◌}
use native.Mathlib.Omega.{arith}
use mathlib.Core.Path.{◌≡◌, refl, sym, ap, ◌∙◌}
use mathlib.Core.List.{List, [], ◌∷◌, ◌++◌, append-nil, append_assoc}
use lib.ListN.{length, get_or}
use Rattle.grammar.specs.Moves.{Edit}
use Rattle.grammar.specs.Listing.{edit_line, edit_lines}
use Rattle.listing.specs.Answer.{records_of}
use Rattle.listing.specs.Pens.{Penned, pen_none, pen_then, pen_as}
use Rattle.listing.specs.declared.lines.Pen.{Pen}

-- The lines `done` of records are written, and those of the words in `rest` are left.
pub record Editing (before : Pen) (words rest : List ℕ) (after : Pen) : Type 0 where
  pub done : List ℕ
  pub wrote : Penned before done after
  pub left : done ++ edit_lines (records_of rest) ≡ edit_lines (records_of words)

-- The record of three words.
abbrev pub record_of : List ℕ → Edit
record_of ws = record { kind = get_or ws 0 0; place = get_or ws 1 0; symbol = get_or ws 2 0 }

-- Its line stands in front of those of the words behind it.
lines_from : (ws rest : List ℕ) → length ws ≡ 3 → edit_lines (records_of (ws ++ rest)) ≡ edit_line (record_of ws) ++ edit_lines (records_of rest)
unfolding edit_lines records_of
lines_from [] rest l = absurd (omega arith)
lines_from (a ∷ []) rest l = absurd (omega arith)
lines_from (a ∷ b ∷ []) rest l = absurd (omega arith)
lines_from (a ∷ b ∷ c ∷ []) rest l = refl
lines_from (a ∷ b ∷ c ∷ d ∷ ws) rest l = absurd (omega arith)

-- Fewer than three words hold no record.
records_none : (ws : List ℕ) → length ws < 3 → records_of ws ≡ []
unfolding records_of
records_none [] l = refl
records_none (a ∷ []) l = refl
records_none (a ∷ b ∷ []) l = refl
records_none (a ∷ b ∷ c ∷ ws) l = absurd (omega arith)

pub editing_begins : (pen : Pen) (words : List ℕ) → Editing pen words words pen
editing_begins pen words = record { done = []; wrote = pen_none pen; left = refl }

pub editing_goes : {before after next : Pen} {words rest : List ℕ} (three less : List ℕ) → Editing before words rest after
    → rest ≡ three ++ less → length three ≡ 3 → Penned after (edit_line (record_of three)) next → Editing before words less next
editing_goes three less e split size line =
    record {
      done = e.done ++ edit_line (record_of three);
      wrote = pen_then e.wrote line;
      left =
          append_assoc e.done _ _
          ∙ (ap (λ (t : List ℕ). e.done ++ t) (sym (lines_from three less size) ∙ ap (λ (t : List ℕ). edit_lines (records_of t)) (sym split))
          ∙ e.left);
    }

pub editing_ends : {before after : Pen} {words rest : List ℕ} → Editing before words rest after → length rest < 3
    → Penned before (edit_lines (records_of words)) after
unfolding edit_lines
editing_ends {rest = rest} e l =
    let none : records_of rest ≡ [] = records_none rest l in
    pen_as e.wrote
    (sym (append-nil e.done) ∙ (ap (λ (es : List Edit). e.done ++ edit_lines es) (sym none) ∙ e.left))
