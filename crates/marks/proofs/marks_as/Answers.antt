-- `marks::marks_as` meets its contract: refusals 5 to 12 of the parse, then 15, or the marks.
use mathlib.Core.Path.{refl}
use Rattle.parser.specs.Parses.{lent_made, parsed_only10}
use Rattle.marks.proofs.Answering.{marks_can_put, marks_whole, marks_short, marks_unparsed}
use Rattle.marks.proofs.marks_as.Goals as goal

pub parse_tabled-parsing-requires : goal.parse_tabled-parsing-requires
parse_tabled-parsing-requires c = lent_made

pub put_marks-result-requires : goal.put_marks-result-requires
put_marks-result-requires c = marks_can_put (parsed_only10 refl c.parse_tabled-parsing.ensures.parsed_asking) c.in-Ok.is c.parse_tabled-parsing.ensures.cheap_where c.requires

pub returns-in-Some : goal.returns-in-Some
returns-in-Some c =
    marks_whole (parsed_only10 refl c.parse_tabled-parsing.ensures.parsed_asking) c.in-Ok.is c.requires c.put_marks-result.ensures c.in-Some.is
    c.fill_from.ensures

pub returns-in-None : goal.returns-in-None
returns-in-None c =
    marks_short (parsed_only10 refl c.parse_tabled-parsing.ensures.parsed_asking) c.in-Ok.is c.requires c.put_marks-result.ensures c.in-None.is
    c.parse_tabled-parsing.auto.edits c.parse_tabled-parsing.auto.rules c.put_marks-result.auto.tokens
    c.fill_from-in-None.ensures c.fill_from-in-None-2.ensures c.fill_from-in-None-3.ensures

pub returns-in-Err : goal.returns-in-Err
returns-in-Err c =
    marks_unparsed (parsed_only10 refl c.parse_tabled-parsing.ensures.parsed_asking) c.args.tokens.now c.in-Err.is refl
    c.fill_from-in-Err.ensures
