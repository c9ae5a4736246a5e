use Rattle.parser.specs.Turns.{descend_can, match_can, turn_match, expand_can, turn_expand, correct_can, turn_correct, turn_full}
use Rattle.parser.proofs.Grounds.turn.Goals as goal

pub descend-way-requires : goal.descend-way-requires
descend-way-requires c = descend_can c.requires _ c.token_at-t.ensures

pub matched-requires : goal.matched-requires
matched-requires c = match_can c.requires _ c.token_at-t.ensures c.descend-way.ensures c.in-Fits.is

pub expand-requires : goal.expand-requires
expand-requires c = expand_can c.requires _ c.token_at-t.ensures c.descend-way.ensures c.in-Grows.is

pub correct-requires : goal.correct-requires
correct-requires c = correct_can c.requires _ c.token_at-t.ensures

pub returns-in-Fits : goal.returns-in-Fits
returns-in-Fits c = turn_match c.requires _ c.token_at-t.ensures c.descend-way.ensures c.in-Fits.is c.matched.ensures

pub returns-in-Grows : goal.returns-in-Grows
returns-in-Grows c = turn_expand c.requires _ c.token_at-t.ensures _ _ c.expand.result c.descend-way.ensures c.in-Grows.is c.expand.ensures

pub returns-in-Some : goal.returns-in-Some
returns-in-Some c =
    turn_correct c.requires _ c.token_at-t.ensures _ c.descend-way.ensures c.in-Stuck.is c.correct.ensures
    c.in-Some.is c.windowless.ensures

pub returns-in-None : goal.returns-in-None
returns-in-None c =
    turn_full c.requires _ c.token_at-t.ensures _ c.descend-way.ensures c.in-Stuck.is c.correct.ensures
    c.in-None.is
