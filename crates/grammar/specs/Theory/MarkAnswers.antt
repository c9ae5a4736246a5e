-- What theorems of proofs/Theory/MarkAnswers.antt speak of.
use Rattle.std.specs.Prelude.{ℕ, ◌<◌, ◌≡◌, List, map, length}
use Rattle.std.proofs.Math.Option.{none}
use Rattle.grammar.specs.Buffers.{filled}
use Rattle.grammar.specs.Moves.{Move, edits, edit_words, rule_numbers}
use Rattle.grammar.specs.Run.{Asks, run_conditions, RunOf, counts_of}
use Rattle.grammar.specs.Marks.{Mark, MarksOf}
use Rattle.grammar.specs.declared.Refusal.{Refusal}
use Rattle.grammar.specs.declared.Refusal.TheVariants.{ShortTokens}
use Rattle.grammar.specs.declared.Counts.{Counts}
use Rattle.grammar.specs.Theory.Answered.{Admitted}
use Rattle.grammar.specs.Theory.Conditions.{Held}
use Rattle.grammar.specs.Theory.Refused.{Given}

-- Refusal q is given: the parse gives it; or it is 15, the run made the moves ms and ended, and their marks are more than the token buffer
-- holds.
pub data MarksRefuse (Asked : Asks) (ws log : List ℕ) (edit_room rule_room token_room : ℕ) (q : Refusal) : Type 0 where
  parsing : Given Asked ws log edit_room rule_room q → MarksRefuse Asked ws log edit_room rule_room token_room q
  short : {ms : List Move} {xs : List Mark} → q ≡ ShortTokens → Held (run_conditions ws log Asked) → RunOf ws log edit_room rule_room ms none
      → MarksOf ws ms xs → token_room < length xs
      → MarksRefuse Asked ws log edit_room rule_room token_room q

-- What stands in the buffers where nothing is refused: the run made the moves, and these are their marks.
pub record MarksGive (word_of : Mark → ℕ) (ws log : List ℕ) (edit_room rule_room token_room : ℕ) (x u s : List ℕ) (counts : Counts) (n : ℕ) : Type 0 where
  pub moves : List Move
  pub marks : List Mark
  pub admitted : Admitted ws log
  pub run : RunOf ws log edit_room rule_room moves none
  pub marked : MarksOf ws moves marks
  pub counted : counts ≡ counts_of moves
  pub size : n ≡ length marks
  pub edit_words_lem : x ≡ filled edit_room (edit_words (edits moves))
  pub rule_words : u ≡ filled rule_room (rule_numbers moves)
  pub mark_words : s ≡ filled token_room (map word_of marks)
