-- `listing::lines::Pen::kind` meets its contract: the word is the one that `kind_word` picks.
use borrow.Author.Tests.{eq-eqb, ne_eqb}
use Rattle.std.proofs.Common.{ℕ, ap}
use Rattle.grammar.specs.Listing.{ascii, field, kind_word}
use Rattle.listing.specs.Pens.{pen_as}
use Rattle.listing.proofs.lines.Pen.kind.Goals as goal

pub returns-then-kind-eq1 : goal.returns-then-kind-eq1
unfolding ascii field kind_word
returns-then-kind-eq1 c = simp (eq-eqb _ _ c.if-kind-eq1.true) (pen_as c.field.ensures (ap (λ (n : ℕ). field "delete " n) c.from.ensures))

pub returns-else-kind-eq1 : goal.returns-else-kind-eq1
unfolding ascii field kind_word
returns-else-kind-eq1 c =
    simp (ne_eqb _ _ c.if-kind-eq1.false) (pen_as c.field-else-kind-eq1.ensures (ap (λ (n : ℕ). field "insert " n) c.from-else-kind-eq1.ensures))
