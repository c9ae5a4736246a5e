-- `mark_lines::lines::put_mark` meets its contract: by the two marks that a word can tell.
use Rattle.std.proofs.Common.{append_assoc, ℕ, ◌≡◌, ◌-◌, arith, get_or, sym, ap, ap₂, ◌∙◌, ◌++◌}
use Rattle.grammar.specs.Listing.{ascii, field, newline}
use Rattle.grammar.specs.MarkLines.{mark_line}
use Rattle.listing.specs.Pens.{Penned, pen_then, pen_as}
use Rattle.mark_lines.specs.Told.{mark_added, mark_kept}
use Rattle.mark_lines.proofs.lines.put_mark.Goals.{then-word-ge-ADDED, else-word-ge-ADDED}
use Rattle.mark_lines.proofs.lines.put_mark.Goals as goal

pub returns : goal.returns
unfolding ascii field mark_line
returns c =
    elim c.if-word-ge-ADDED.branch [
      | then-word-ge-ADDED w ↦ let added : Penned c.args.pen.now (field "add " (c.args.word - 4096)) c.if-word-ge-ADDED.pen =
          rw w.pen-is (pen_as w.field.ensures (ap (λ (n : ℕ). field "add " n) w.from.ensures)) in
          pen_as (pen_then added c.byte.ensures) (ap (mark_line _) (sym (mark_added _ _ w.if-word-ge-ADDED.true)))
      | else-word-ge-ADDED w ↦ let place : w.from-place.result ≡ c.args.word = w.from-place.ensures in
          let kept = mark_kept c.args.log.now c.args.word (omega (arith, w.if-word-ge-ADDED.false)) in
          let shown : Penned c.args.pen.now (field "keep " (get_or c.args.log.now c.args.word 0) ++ field " " (get_or c.args.ticks.now c.args.word 0))
          c.if-word-ge-ADDED.pen =
          rw w.pen-is (pen_as (pen_then w.field-else-word-ge-ADDED.ensures w.field-else-word-ge-ADDED-2.ensures)
          (ap₂ (λ (a b : ℕ). field "keep " a ++ field " " b)
          (w.from-else-word-ge-ADDED.ensures ∙ ap (λ (k : ℕ). get_or c.args.log.now k 0) place)
          (w.from-else-word-ge-ADDED-2.ensures ∙ ap (λ (k : ℕ). get_or c.args.ticks.now k 0) place))) in
          pen_as (pen_then shown c.byte.ensures)
          (append_assoc (field "keep " (get_or c.args.log.now c.args.word 0)) (field " " (get_or c.args.ticks.now c.args.word 0)) newline
          ∙ ap (mark_line _) (sym kept))
    ]
