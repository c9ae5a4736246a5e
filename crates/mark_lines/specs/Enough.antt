-- The first 30,216 bytes of an input decide its lines: what stands behind them is behind too many tokens, refusal 10 whatever follows.
use Rattle.std.specs.Prelude.{ℕ, ◌≤◌, List, take}
use Rattle.std.proofs.Common.{subst}
use Rattle.grammar.specs.File.{FileRead}
use Rattle.grammar.specs.MarkLines.{MarksPrinted}
use Rattle.grammar.specs.Refusals.{given, refused}
use Rattle.listing.specs.Enough.{GoesOn, by_front, parses_other, parsed_held, too_long}

longer : {front input output : List ℕ} → GoesOn front input → MarksPrinted front output → MarksPrinted input output
longer g (MarksPrinted.uncounted n) = MarksPrinted.uncounted (λ c. n (g.fewer c))
longer g (MarksPrinted.unread {r = r} {words = words} c f) =
    MarksPrinted.unread (g.counted c) (subst (λ b. FileRead b 2783 (refused r) words) (g.file c) f)
longer g (MarksPrinted.unparsed {n = n} {words = words} c f p) =
    MarksPrinted.unparsed (g.counted c) (subst (λ b. FileRead b 2783 (given n) words) (g.file c) f)
    (parses_other (g.long_front c) (g.long c) p)
longer g (MarksPrinted.beyond c f p m l) = too_long (g.long_front c) (parsed_held p).0
longer g (MarksPrinted.printed c f p m l) = too_long (g.long_front c) (parsed_held p).0

pub marks_front : {input output : List ℕ} (kept : ℕ) → 30216 ≤ kept → MarksPrinted (take kept input) output → MarksPrinted input output
marks_front kept enough p = by_front MarksPrinted kept enough longer p
