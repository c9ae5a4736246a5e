-- Request (iv): the lines of `print_marks`, which reads the standard input of the printing program (Listing.antt).
use Rattle.std.specs.Prelude.{ℕ, suc, ◌≤◌, ◌<◌, ◌≡◌, List, [], ◌∷◌, ◌++◌, length, get_or, take}
use Rattle.grammar.specs.File.{FileRead}
use Rattle.grammar.specs.Moves.{Move}
use Rattle.grammar.specs.Run.{only10, Parses}
use Rattle.grammar.specs.Refusals.{number_of, given, refused}
use Rattle.grammar.specs.Listing.{Counted, file_of, tokens_of, ticks_of, field, newline, refused_line}
use Rattle.grammar.specs.Marks.{Mark, MarksOf}
use Rattle.grammar.specs.declared.Refusal.{Refusal}
use Rattle.grammar.specs.declared.Refusal.TheVariants.{BadSize, ShortTokens}

-- `keep TOKEN TICK` for a mark of the log, with its own tick; `add TOKEN` for one that was missing.
unfoldable pub mark_line : List ℕ → Mark → List ℕ
mark_line ticks (Mark.kept p t) = field "keep " t ++ (field " " (get_or ticks p 0) ++ newline)
mark_line ticks (Mark.added t) = field "add " t ++ newline

unfoldable pub mark_lines : List ℕ → List Mark → List ℕ
mark_lines ticks [] = []
mark_lines ticks (x ∷ xs) = mark_line ticks x ++ mark_lines ticks xs

-- How many of the marks are added.
unfoldable pub added_count : List Mark → ℕ
added_count [] = 0
added_count (Mark.kept p t ∷ xs) = added_count xs
added_count (Mark.added t ∷ xs) = suc (added_count xs)

-- The last line: `marks N added K`.
unfoldable pub marks_line : ℕ → ℕ → List ℕ
marks_line n k = field "marks " n ++ (field " added " k ++ newline)

-- All lines of a log that is not refused.
unfoldable pub mark_listing : List ℕ → List Mark → List ℕ
mark_listing ticks xs = mark_lines ticks xs ++ marks_line (length xs) (added_count xs)

-- Which lines an input gets: refusals 1 to 12 as the report gives them, with as many ticks as tokens asked under 10, and never 16, since it
-- times nothing; then 15 beyond 65,536 marks. The program lends what the printing program lends, and 65,536 words for the marks.
pub data MarksPrinted (input : List ℕ) : List ℕ → Type 0 where
  uncounted : (Counted input → ⊥) → MarksPrinted input (refused_line (number_of BadSize))
  unread : {r : Refusal} {words : List ℕ} → Counted input → FileRead (file_of input) 2783 (refused r) words
      → MarksPrinted input (refused_line (number_of r))
  unparsed : {n : ℕ} {r : Refusal} {words es rs : List ℕ} → Counted input → FileRead (file_of input) 2783 (given n) words
      → Parses (only10 (length (ticks_of input) ≡ length (tokens_of input))) (take n words) (tokens_of input) 24576 16384 (refused r) es rs
      → MarksPrinted input (refused_line (number_of r))
  beyond : {n : ℕ} {words es rs : List ℕ} {ms : List Move} {xs : List Mark} → Counted input → FileRead (file_of input) 2783 (given n) words
      → Parses (only10 (length (ticks_of input) ≡ length (tokens_of input))) (take n words) (tokens_of input) 24576 16384 (given ms) es rs
      → MarksOf (take n words) ms xs → 65536 < length xs
      → MarksPrinted input (refused_line (number_of ShortTokens))
  printed : {n : ℕ} {words es rs : List ℕ} {ms : List Move} {xs : List Mark} → Counted input → FileRead (file_of input) 2783 (given n) words
      → Parses (only10 (length (ticks_of input) ≡ length (tokens_of input))) (take n words) (tokens_of input) 24576 16384 (given ms) es rs
      → MarksOf (take n words) ms xs → length xs ≤ 65536
      → MarksPrinted input (mark_listing (ticks_of input) xs)
