-- Document 01, "The printed listing": what standard input holds, the lines that are printed, and which listing an input gets.
-- Standard input and the listing are lists of bytes.
use Rattle.std.specs.Prelude.{ℕ, zero, suc, ◌+◌, ◌-◌, ◌*◌, ◌/◌, ◌%◌, ◌≤◌, ◌≡◌, cond, List, [], ◌∷◌, ◌++◌, length, take, drop, eqb, ltb}
use Prim.Native.Char.{code}
use Prim.Native.String.{String, [] as no_text, ◌∷◌ as ◌then◌}
use Rattle.grammar.specs.File.{pair_at, FileRead}
use Rattle.grammar.specs.Moves.{Move, Edit, edits}
use Rattle.grammar.specs.Refusals.{number_of, given, refused}
use Rattle.grammar.specs.Pace.{Reported}
use Rattle.grammar.specs.declared.Refusal.{Refusal}
use Rattle.grammar.specs.declared.Refusal.TheVariants.{BadSize}
use Rattle.grammar.specs.declared.Pace.{Pace}
use Rattle.grammar.specs.declared.Pace.TheVariants.{Idle, Mean}
use Rattle.grammar.specs.declared.Report.{Report}
use Rattle.grammar.specs.declared.Counts.{Counts}

-- ---- Standard input: "a u16 block count (1..11), that many blocks, then entries of six bytes, .. to the end"

-- The block count.
abbrev pub blocks_named : List ℕ → ℕ
blocks_named input = pair_at input 0

-- Where the blocks end and the entries begin.
abbrev pub blocks_end : List ℕ → ℕ
blocks_end input = 2 + 512 * blocks_named input

-- None of "a bad count, a count cut short, no input or missing blocks", which print refusal 1.
pub record Counted (input : List ℕ) : Type 0 where
  pub whole : 2 ≤ length input
  pub low : 1 ≤ blocks_named input
  pub high : blocks_named input ≤ 11
  pub present : blocks_end input ≤ length input

-- The grammar file: the blocks.
unfoldable pub file_of : List ℕ → List ℕ
file_of input = take (512 * blocks_named input) (drop 2 input)

-- The little endian number of four bytes.
abbrev pub quad_at : List ℕ → ℕ → ℕ
quad_at bytes at = pair_at bytes at + 65536 * pair_at bytes (at + 2)

-- What n "entries of six bytes" from a byte on hold, where `value` gives it for the entry at a byte.
unfoldable pub entries_at : (ℕ → ℕ) → ℕ → ℕ → List ℕ
entries_at value at zero = []
entries_at value at (suc n) = value at ∷ entries_at value (at + 6) n

-- "Token u16 and tick u32": those of the entry at a byte.
abbrev pub token_at : List ℕ → ℕ → ℕ
token_at bytes at = pair_at bytes at

abbrev pub tick_at : List ℕ → ℕ → ℕ
tick_at bytes at = quad_at bytes (at + 2)

-- How many entries are begun from a byte to the end, and how many of them are whole.
abbrev pub begun_entries : List ℕ → ℕ → ℕ
begun_entries bytes at = (length bytes - at + 5) / 6

abbrev pub whole_entries : List ℕ → ℕ → ℕ
whole_entries bytes at = (length bytes - at) / 6

-- The tokens and the ticks from a byte to the end. "A last entry cut short counts under refusal 10": it is a token without
-- its tick, so that ticks and tokens differ in number.
abbrev pub tokens_from : List ℕ → ℕ → List ℕ
tokens_from bytes at = entries_at (token_at bytes) at (begun_entries bytes at)

abbrev pub ticks_from : List ℕ → ℕ → List ℕ
ticks_from bytes at = entries_at (tick_at bytes) at (whole_entries bytes at)

abbrev pub tokens_of : List ℕ → List ℕ
tokens_of input = tokens_from input (blocks_end input)

abbrev pub ticks_of : List ℕ → List ℕ
ticks_of input = ticks_from input (blocks_end input)

-- ---- The lines

-- The bytes of a text.
unfoldable pub ascii : String → List ℕ
ascii no_text = []
ascii (c then s) = code c ∷ ascii s

-- The byte of a digit.
abbrev pub digit : ℕ → List ℕ
digit d = (48 + d) ∷ []

-- The decimal digits of a number, at most k + 1 of them, without leading zeros: one digit below 10, else those of n / 10
-- and the last.
unfoldable pub digits : ℕ → ℕ → List ℕ
digits zero n = digit (n % 10)
digits (suc k) n = cond (ltb n 10) (digit n) (digits k (n / 10) ++ digit (n % 10))

-- A number in decimal: n has no more than n + 1 digits.
unfoldable pub decimal : ℕ → List ℕ
decimal n = digits n n

-- A word and a number.
unfoldable pub field : String → ℕ → List ℕ
field word n = ascii word ++ decimal n

-- What every line ends with.
abbrev pub newline : List ℕ
newline = 10 ∷ []

-- "A refusal prints one line, `refused` and the number."
unfoldable pub refused_line : ℕ → List ℕ
refused_line number = field "refused " number ++ newline

-- "The first line has n, moves, edit records and rule numbers listed."
unfoldable pub ok_line : ℕ → Counts → List ℕ
ok_line n c =
    field "ok tokens " n ++ (field " moves " c.moves ++ (field " edits " c.records ++ (field " rules " c.listed ++ newline)))

-- A record's kind: "1 delete, 2 insert".
unfoldable pub kind_word : ℕ → String
kind_word kind = cond (eqb kind 1) "delete " "insert "

-- "An edit line has kind, place and symbol."
unfoldable pub edit_line : Edit → List ℕ
edit_line e = field (kind_word e.kind) e.place ++ (field " " e.symbol ++ newline)

unfoldable pub edit_lines : List Edit → List ℕ
edit_lines [] = []
edit_lines (e ∷ es) = edit_line e ++ edit_lines es

-- "The last line has count and sum, or `pace idle`."
unfoldable pub pace_line : ℕ → ℕ → Pace → List ℕ
pace_line count sum Idle = ascii "pace idle" ++ newline
pace_line count sum (Mean mean) = field "pace cycles " count ++ (field " ms " sum ++ newline)

-- The listing of a log of n tokens that is not refused.
unfoldable pub listing : ℕ → Counts → List Edit → Report → List ℕ
listing n counts records report = ok_line n counts ++ (edit_lines records ++ pace_line report.count report.sum report.pace)

-- ---- Which listing an input gets: the lowest refusal of the input, the reader and the report, in the table's order, or the
-- listing of the run. The program "lends 2,783 words for the grammar, 24,576 for edits and 16,384 for rules".

pub data Printed (input : List ℕ) : List ℕ → Type 0 where
  -- The input is refused by 1,
  uncounted : (Counted input → ⊥) → Printed input (refused_line (number_of BadSize))
  -- or the file by 1 to 4,
  unread : {r : Refusal} {words : List ℕ} → Counted input → FileRead (file_of input) 2783 (refused r) words
      → Printed input (refused_line (number_of r))
  -- or the first n words of the buffer, which are the file's, with the tokens and ticks, by 5 to 12,
  unreported : {n : ℕ} {r : Refusal} {words edit_buffer rule_buffer : List ℕ} → Counted input
      → FileRead (file_of input) 2783 (given n) words
      → Reported (take n words) (tokens_of input) (ticks_of input) 24576 16384 (refused r) edit_buffer rule_buffer
      → Printed input (refused_line (number_of r))
  -- or the run has made the moves ms and ended.
  listed : {n : ℕ} {words edit_buffer rule_buffer : List ℕ} {report : Report} {counts : Counts} {ms : List Move} → Counted input
      → FileRead (file_of input) 2783 (given n) words
      → (reported : Reported (take n words) (tokens_of input) (ticks_of input) 24576 16384 (given (report, counts)) edit_buffer rule_buffer)
      → reported.outcome ≡ given ms
      → Printed input (listing (length (tokens_of input)) counts (edits ms) report)
