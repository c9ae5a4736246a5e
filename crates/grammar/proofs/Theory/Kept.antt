-- What the parser's own answer keeps of the demands: where it answers with counts, the records in the edit buffer give a
-- repaired log that is derivable, and so on. `Demands` states it first.
use Rattle.std.specs.Prelude.{ℕ, ◌≡◌, refl, List}
use Rattle.std.proofs.Math.Option.{none}
use Rattle.grammar.specs.Grammar.{Verdict}
use Rattle.grammar.specs.Buffers.{filled}
use Rattle.grammar.specs.Moves.{Move, edits, edit_words, rule_numbers}
use Rattle.grammar.specs.Refusals.{Outcome, given, refused}
use Rattle.grammar.specs.Run.{LogFits, no_more, run_conditions, RunOf, Settled, counts_of, answered, left, Parses, Parsed}
use Rattle.grammar.specs.declared.Counts.{Counts}
use Rattle.grammar.specs.Theory.Outcomes.{given_refused, given_same}
use Rattle.grammar.proofs.Theory.Answered.{verdict_held, log_held}

-- The words are accepted, the log fits, and the run made the moves that the answer counts and the buffers list.
pub record Made (ws log : List ℕ) (edit_room rule_room : ℕ) (counts : Counts) (edit_buffer rule_buffer : List ℕ) : Type 0 where
  pub verdict : Verdict ws none
  pub fits : LogFits ws log
  pub moves : List Move
  pub run : RunOf ws log edit_room rule_room moves none
  pub counted : counts ≡ counts_of moves
  pub edits_left : edit_buffer ≡ filled edit_room (edit_words (edits moves))
  pub rules_left : rule_buffer ≡ filled rule_room (rule_numbers moves)

-- Where the parser answers with counts, the run made them.
pub parsed_made : {ws log : List ℕ} {edit_room rule_room : ℕ} {counts : Counts} {x y : List ℕ}
    → Parsed ws log edit_room rule_room (given counts) x y → Made ws log edit_room rule_room counts x y
unfolding answered left
parsed_made {ws} {log} {edit_room} {rule_room} {counts} {x} {y} p = go p.outcome p.parses p.answers
  where
    go : (o : Outcome (List Move)) → Parses no_more ws log edit_room rule_room o x y → given counts ≡ answered o
        → Made ws log edit_room rule_room counts x y
    go (given ms) q a = at q.settled
      where
        at : Settled (run_conditions ws log no_more) (RunOf ws log edit_room rule_room) (given ms)
            → Made ws log edit_room rule_room counts x y
        at (Settled.whole l r) =
            record {
              verdict = verdict_held l;
              fits = (log_held l).0;
              moves = ms;
              run = r;
              counted = given_same a;
              edits_left = q.leaves_edits;
              rules_left = q.leaves_rules;
            }
    go (refused r) q a = absurd (given_refused refl a)
