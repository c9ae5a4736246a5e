-- The four lines that document 01 prints for case 5, from the case's edits and counts and one clean cycle of 1,000 ms.
use Rattle.std.specs.Prelude.{◌≡◌, refl, List, [], ◌∷◌}
use Rattle.grammar.specs.Moves.{Edit}
use Rattle.grammar.specs.Pace.{pace_of}
use Rattle.grammar.specs.Refusals.{number_of}
use Rattle.grammar.specs.Listing.{
  ascii,
  digits,
  decimal,
  field,
  ok_line,
  kind_word,
  edit_line,
  edit_lines,
  pace_line,
  listing,
  refused_line,
}
use Rattle.grammar.specs.declared.Refusal.TheVariants.{BadLog}
use Rattle.grammar.specs.declared.Report.{Report}

abbrev inserted : List Edit
inserted = record { kind = 2; place = 1; symbol = 66 } ∷ record { kind = 2; place = 1; symbol = 4 } ∷ []

abbrev reported : Report
reported = record { count = 1; sum = 1000; pace = pace_of 1 1000 }

pub case_five_lines : listing 5 (record { moves = 15; records = 2; listed = 5 }) inserted reported
    ≡ ascii "ok tokens 5 moves 15 edits 2 rules 5\ninsert 1 66\ninsert 1 4\npace cycles 1 ms 1000\n"
unfolding ascii digits decimal field ok_line kind_word edit_line edit_lines pace_line listing pace_of
case_five_lines = refl

-- A line with a delete, an idle pace and a refusal.
pub other_lines : (edit_line (record { kind = 1; place = 0; symbol = 4 }) ≡ ascii "delete 0 4\n")
    × (pace_line 0 0 (pace_of 0 0) ≡ ascii "pace idle\n")
    × (refused_line (number_of BadLog) ≡ ascii "refused 10\n")
unfolding ascii digits decimal field kind_word edit_line pace_line pace_of refused_line
other_lines = (refl, refl, refl)
