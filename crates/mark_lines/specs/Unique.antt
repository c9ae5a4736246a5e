-- An input has one list of lines: two outputs that `MarksPrinted` allows are equal.
use Rattle.std.specs.Prelude.{ℕ, ◌≡◌, refl, List, length}
use Rattle.std.proofs.Common.{arith, sym, ap, subst}
use Rattle.grammar.specs.Moves.{Move}
use Rattle.grammar.specs.Marks.{Mark, MarksOf}
use Rattle.grammar.specs.MarkLines.{MarksPrinted, mark_listing}
use Rattle.grammar.specs.Run.{Asks, Parses}
use Rattle.grammar.specs.Refusals.{Outcome, number_of}
use Rattle.grammar.specs.Listing.{refused_line, ticks_of}
use Rattle.grammar.proofs.Theory.Answered.{parses_unique}
use Rattle.grammar.proofs.Theory.Marking.{marks_one}
use Rattle.grammar.specs.Theory.Outcomes.{given_refused, given_same, refused_same}
use Rattle.grammar.proofs.Theory.Sentences.{file_read_unique}
use Rattle.listing.specs.Unique.{same_words, read_or_refused}

-- Two parses by the same words come to the same.
module _ {Asked : Asks} {ws vs log x y u v : List ℕ} {edit_room rule_room : ℕ} {o q : Outcome (List Move)} (same : ws ≡ vs)
    (p : Parses Asked ws log edit_room rule_room o x u) (r : Parses Asked vs log edit_room rule_room q y v) where
  same_outcome : o ≡ q
  same_outcome = (parses_unique p (subst (λ ws. Parses Asked ws log edit_room rule_room q y v) (sym same) r)).0

-- And so do the marks that two lists of moves come to, where these are one.
same_marks : {ws vs : List ℕ} {ms ns : List Move} {xs ys : List Mark} → ws ≡ vs → ms ≡ ns → MarksOf ws ms xs → MarksOf vs ns ys → xs ≡ ys
same_marks {vs = vs} {ms = ms} {ys = ys} e f p q =
    marks_one p (subst (λ ws. MarksOf ws ms ys) (sym e) (subst (λ ms. MarksOf vs ms ys) (sym f) q))

pub marks_printed_unique : {input a b : List ℕ} → MarksPrinted input a → MarksPrinted input b → a ≡ b
marks_printed_unique (MarksPrinted.uncounted n) (MarksPrinted.uncounted m) = refl
marks_printed_unique (MarksPrinted.uncounted n) (MarksPrinted.unread c f) = absurd (n c)
marks_printed_unique (MarksPrinted.uncounted n) (MarksPrinted.unparsed c f p) = absurd (n c)
marks_printed_unique (MarksPrinted.uncounted n) (MarksPrinted.beyond c f p m l) = absurd (n c)
marks_printed_unique (MarksPrinted.uncounted n) (MarksPrinted.printed c f p m l) = absurd (n c)
marks_printed_unique (MarksPrinted.unread c f) (MarksPrinted.uncounted n) = absurd (n c)
marks_printed_unique (MarksPrinted.unread c f) (MarksPrinted.unread d g) =
    ap (λ r. refused_line (number_of r)) (refused_same (file_read_unique f g).0)
marks_printed_unique (MarksPrinted.unread c f) (MarksPrinted.unparsed d g p) = read_or_refused g f
marks_printed_unique (MarksPrinted.unread c f) (MarksPrinted.beyond d g p m l) = read_or_refused g f
marks_printed_unique (MarksPrinted.unread c f) (MarksPrinted.printed d g p m l) = read_or_refused g f
marks_printed_unique (MarksPrinted.unparsed c f p) (MarksPrinted.uncounted n) = absurd (n c)
marks_printed_unique (MarksPrinted.unparsed c f p) (MarksPrinted.unread d g) = read_or_refused f g
marks_printed_unique (MarksPrinted.unparsed c f p) (MarksPrinted.unparsed d g q) =
    ap (λ r. refused_line (number_of r)) (refused_same (same_outcome (same_words f g) p q))
marks_printed_unique (MarksPrinted.unparsed c f p) (MarksPrinted.beyond d g q m l) =
    absurd (given_refused refl (same_outcome (same_words g f) q p))
marks_printed_unique (MarksPrinted.unparsed c f p) (MarksPrinted.printed d g q m l) =
    absurd (given_refused refl (same_outcome (same_words g f) q p))
marks_printed_unique (MarksPrinted.beyond c f p m l) (MarksPrinted.uncounted n) = absurd (n c)
marks_printed_unique (MarksPrinted.beyond c f p m l) (MarksPrinted.unread d g) = read_or_refused f g
marks_printed_unique (MarksPrinted.beyond c f p m l) (MarksPrinted.unparsed d g q) =
    absurd (given_refused refl (same_outcome (same_words f g) p q))
marks_printed_unique (MarksPrinted.beyond c f p m l) (MarksPrinted.beyond d g q n k) = refl
marks_printed_unique (MarksPrinted.beyond c f p m l) (MarksPrinted.printed d g q n k) =
    let same = same_words f g in
    absurd (omega (arith, ap length (same_marks same (given_same (same_outcome same p q)) m n)))
marks_printed_unique (MarksPrinted.printed c f p m l) (MarksPrinted.uncounted n) = absurd (n c)
marks_printed_unique (MarksPrinted.printed c f p m l) (MarksPrinted.unread d g) = read_or_refused f g
marks_printed_unique (MarksPrinted.printed c f p m l) (MarksPrinted.unparsed d g q) =
    absurd (given_refused refl (same_outcome (same_words f g) p q))
marks_printed_unique (MarksPrinted.printed c f p m l) (MarksPrinted.beyond d g q n k) =
    let same = same_words f g in
    absurd (omega (arith, ap length (same_marks same (given_same (same_outcome same p q)) m n)))
marks_printed_unique {input} (MarksPrinted.printed c f p m l) (MarksPrinted.printed d g q n k) =
    let same = same_words f g in
    ap (mark_listing (ticks_of input)) (same_marks same (given_same (same_outcome same p q)) m n)
