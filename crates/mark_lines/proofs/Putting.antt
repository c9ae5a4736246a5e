-- The lines of the marks that words tell, word by word: what is written, and what is left.
use Prim.Native.Nat.{ℕ, ◌+◌, ◌≤◌, ◌<◌}
use native.Mathlib.Numerals.{add-one}
use native.Mathlib.Omega.{arith}
use mathlib.Core.Path.{◌≡◌, refl, sym, ap, ap₂, ◌∙◌}
use mathlib.Core.List.{List, [], ◌∷◌, ◌++◌, append-nil, append_assoc}
use lib.ListN.{length, drop, get_or, drop_of_length-le, length-map}
use lib.Seq.{drop-cons}
use Rattle.grammar.specs.MarkLines.{added_count, mark_line, mark_lines, mark_listing, marks_line}
use Rattle.listing.specs.Pens.{Penned, pen_as, pen_none, pen_then}
use Rattle.listing.specs.declared.lines.Pen.{Pen}
use Rattle.mark_lines.specs.Told.{mark_of, marks_in}

-- The lines `done` of the words in front of word i are written, and the others are left.
pub record Putting (before : Pen) (words log ticks : List ℕ) (after : Pen) (i : ℕ) : Type 0 where
  pub within : i ≤ length words
  pub done : List ℕ
  pub wrote : Penned before done after
  pub left : done ++ mark_lines ticks (marks_in log (drop i words)) ≡ mark_lines ticks (marks_in log words)

-- The line of the mark at word i stands in front of the others.
lines_from : (log ticks words : List ℕ) (i : ℕ) → i < length words → mark_lines ticks (marks_in log (drop i words))
    ≡ mark_line ticks (mark_of log (get_or words i 0)) ++ mark_lines ticks (marks_in log (drop (i + 1) words))
unfolding mark_lines
lines_from log ticks words i l =
    ap (λ (t : List ℕ). mark_lines ticks (marks_in log t))
    (drop-cons words i 0 l ∙ ap (λ (k : ℕ). get_or words i 0 ∷ drop k words) (sym (add-one i)))

pub putting_begins : (pen : Pen) (words log ticks : List ℕ) → Putting pen words log ticks pen 0
putting_begins pen words log ticks =
    record { within = omega arith; done = []; wrote = pen_none pen; left = refl }

pub putting_goes : {before after next : Pen} {words log ticks : List ℕ} {i : ℕ} → Putting before words log ticks after i → i < length words
    → Penned after (mark_line ticks (mark_of log (get_or words i 0))) next → Putting before words log ticks next (i + 1)
putting_goes {words = words} {log = log} {ticks = ticks} {i = i} p l line =
    record {
      within = omega arith;
      done = p.done ++ mark_line ticks (mark_of log (get_or words i 0));
      wrote = pen_then p.wrote line;
      left =
          append_assoc p.done _ _
          ∙ (ap (λ (t : List ℕ). p.done ++ t) (sym (lines_from log ticks words i l)) ∙ p.left);
    }

pub putting_ends : {before after : Pen} {words log ticks : List ℕ} {i : ℕ} → Putting before words log ticks after i → length words ≤ i
    → Penned before (mark_lines ticks (marks_in log words)) after
unfolding mark_lines
putting_ends {words = words} {log = log} {ticks = ticks} {i = i} p l =
    let none : drop i words ≡ [] = drop_of_length-le words {i = i} l in
    pen_as p.wrote
    (sym (append-nil p.done) ∙ (ap (λ (t : List ℕ). p.done ++ mark_lines ticks (marks_in log t)) (sym none) ∙ p.left))

-- The last line behind them.
pub putting_last : {before after last : Pen} {added : ℕ} (words log ticks : List ℕ) → Penned before (mark_lines ticks (marks_in log words)) after
    → ((log : List ℕ) → added ≡ added_count (marks_in log words)) → Penned after (marks_line (length words) added) last
    → Penned before (mark_listing ticks (marks_in log words)) last
unfolding mark_listing
putting_last words log ticks lines counted last =
    pen_as (pen_then lines last)
    (ap₂ (λ (n k : ℕ). mark_lines ticks (marks_in log words) ++ marks_line n k) (sym (length-map words (mark_of log))) (counted log))
