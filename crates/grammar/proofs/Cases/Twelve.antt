-- The twelve cases and those of request (ii): the definitions give each of them. The model runs each case, and its answer is compared
-- with the table's; where that test passes, the definitions give the case.
use Prim.Native.Nat.{ℕ}
use Rattle.std.specs.Prelude.{◌≡◌, Bool, true, ◌&&◌, length}
use Rattle.std.proofs.Math.Path.{refl, subst}
use Rattle.std.proofs.Math.Bool.{false, not}
use mathlib.Core.List.{List, [], ◌∷◌}
use Rattle.std.proofs.Math.Option.{Option, none, some}
use Rattle.std.proofs.Math.Dec.{T, eqb, eqb→eq}
use Rattle.grammar.specs.Words.{is_long, opening, closing, restart_mark, tick_unit}
use Rattle.grammar.specs.Buffers.{filled}
use Rattle.grammar.specs.Moves.{Move, edits, edit_words, rule_numbers}
use Rattle.grammar.specs.Refusals.{Lowest, Outcome, given, refused, number_of}
use Rattle.grammar.specs.Run.{Asks, no_more, Parses, Parsed, counts_of, answered, left}
use Rattle.grammar.specs.Pace.{Span, report_of, total_ms, cycle_ms, wrapped, timed, ReportsBy}
use Rattle.grammar.specs.Theory.Conditions.{all_met, holds_alone}
use Rattle.grammar.specs.Model.Tests.{left_of, right_of_lem}
use Rattle.grammar.specs.Model.Reflects.{iff_test}
use Rattle.grammar.proofs.Model.Parses.{fits_log, log_test, outcome_of, settled}
use Rattle.grammar.proofs.Model.Cycles.{cycles_of, is_ascending, clean_cycles}
use Rattle.grammar.proofs.Cases.Compared.{edits_agree, rules_agree, pace_agrees, edits_agree_lem, rules_agree_lem, pace_agrees_lem}
use Rattle.grammar.specs.Cases.Case.{Case, Expected, result, refuses, rule_room, GivesAs, Gives, GivesAll}
use Rattle.grammar.specs.Cases.Cases.{cases}

-- ---- A case that passes is given

module _ (c : Case) where
  spans : List Move → List Span
  unfolding cycles_of opening closing restart_mark is_long
  spans ms = cycles_of (opening c.words) (closing c.words) (restart_mark c.words) ms

  sum : List Move → ℕ
  unfolding spans total_ms cycle_ms wrapped
  sum ms = total_ms c.ticks (spans ms)

  agrees : Expected → Outcome (List Move) → Bool
  unfolding spans sum edits_agree rules_agree pace_agrees is_ascending
  agrees (result told) (given ms) =
      (eqb (length ms) told.moves && edits_agree told.edits ms)
      && (rules_agree told.rules ms && (is_ascending (spans ms) && pace_agrees told.pace (length (spans ms)) (sum ms)))
  agrees (result told) (refused r) = false
  agrees (refuses number) (given ms) = false
  agrees (refuses number) (refused r) = eqb (number_of r) number

  agreed : Option (Outcome (List Move)) → Bool
  unfolding agrees
  agreed none = false
  agreed (some o) = agrees c.expected o

  -- What the report asks besides: a tick for each token, and that the unit is not 1.
  is_timed : Bool
  unfolding tick_unit
  is_timed = eqb (length c.ticks) (length c.log) && not (eqb (tick_unit c.words) 1)

  passes : Bool
  unfolding is_timed agreed outcome_of fits_log
  passes = is_timed && agreed (outcome_of c.words c.log c.lent rule_room (fits_log c.words c.log))

  Timed : Type 0
  Timed = (length c.ticks ≡ length c.log) × (tick_unit c.words ≡ 1 → ⊥)

  timed_told : T is_timed → Timed
  unfolding is_timed Timed
  timed_told h =
      let same = eqb (length c.ticks) (length c.log) in
      let one = eqb (tick_unit c.words) 1 in
      (eqb→eq (length c.ticks) (length c.log) (left_of same (not one) h), not_one (tick_unit c.words) (right_of_lem same (not one) h))
    where
      not_one : (n : ℕ) → T (not (eqb n 1)) → n ≡ 1 → ⊥
      not_one n h e = subst (λ (m : ℕ). T (not (eqb m 1))) e h

  -- What the log comes to, whatever else is asked and holds.
  Came : Outcome (List Move) → Type 1
  Came o = (Asked : Asks) → Asked.under_10 → Lowest Asked.behind_10 none
      → Parses Asked c.words c.log c.lent rule_room o (left (λ ms. edit_words (edits ms)) c.lent o) (left rule_numbers rule_room o)

  parsed : (o : Outcome (List Move)) → Came o
      → Parsed c.words c.log c.lent rule_room (answered o) (left (λ ms. edit_words (edits ms)) c.lent o)
      (left rule_numbers rule_room o)
  unfolding Came
  parsed o k = record { outcome = o; parses = k no_more tt all_met; answers = refl }

  agrees_gives : (e : Expected) (o : Outcome (List Move)) → Timed → Came o → T (agrees e o) → GivesAs c e
  unfolding agrees answered left spans sum Came Timed
  agrees_gives (result told) (given ms) same k h =
      let cs = spans ms in
      let a = eqb (length ms) told.moves in
      let b = edits_agree told.edits ms in
      let d = rules_agree told.rules ms in
      let f = is_ascending cs in
      let g = pace_agrees told.pace (length cs) (sum ms) in
      let front : T (a && b) = left_of (a && b) (d && (f && g)) h in
      let back : T (d && (f && g)) = right_of_lem (a && b) (d && (f && g)) h in
      let last : T (f && g) = right_of_lem d (f && g) back in
      record {
        counts = counts_of ms;
        report = report_of c.ticks cs;
        edit_buffer = filled c.lent (edit_words (edits ms));
        rule_buffer = filled rule_room (rule_numbers ms);
        parsed = parsed (given ms) k;
        reported = record {
          outcome = given ms;
          parses = k (timed (tick_unit c.words) c.log c.ticks) same.0 (holds_alone same.1);
          reports = ReportsBy.paced (clean_cycles (opening c.words) (closing c.words) (restart_mark c.words) ms (left_of f g last));
        };
        moves = eqb→eq (length ms) told.moves (left_of a b front);
        edits = edits_agree_lem c.lent told.edits ms (right_of_lem a b front);
        rules = rules_agree_lem told.rules ms (left_of d (f && g) back);
        pace = pace_agrees_lem told.pace c.ticks cs (right_of_lem f g last);
      }
  agrees_gives (refuses number) (refused r) same k h =
      record {
        refusal = r;
        numbered = eqb→eq (number_of r) number h;
        parsed = parsed (refused r) k;
        reported =
            record {
              outcome = refused r;
              parses = k (timed (tick_unit c.words) c.log c.ticks) same.0 (holds_alone same.1);
              reports = ReportsBy.unpaced;
            };
      }
  agrees_gives (result told) (refused r) same k h = elim h [ ]
  agrees_gives (refuses number) (given ms) same k h = elim h [ ]

  -- The model's test passes: the definitions give the case.
  passes_gives : T passes → Gives c
  unfolding passes Came
  passes_gives h = go (outcome_of ws log c.lent rule_room (fits_log ws log)) refl (right_of_lem is_timed (agreed
      (outcome_of ws log c.lent rule_room (fits_log ws log))) h)
    where
      ws : List ℕ
      ws = c.words

      log : List ℕ
      log = c.log

      told : Timed
      told = timed_told (left_of is_timed (agreed (outcome_of ws log c.lent rule_room (fits_log ws log))) h)

      go : (o : Option (Outcome (List Move))) → outcome_of ws log c.lent rule_room (fits_log ws log) ≡ o → T (agreed o) → Gives c
      go (some o) e k =
          agrees_gives c.expected o told
          (λ Asked a behind.
          record {
            settled =
                settled ws log c.lent rule_room Asked behind o (fits_log ws log)
                (iff_test (log_test ws log) (λ f. (f, a)) (λ f. f.0)) e;
            leaves_edits = refl;
            leaves_rules = refl;
          })
          k
      go none e k = elim k [ ]

-- ---- The theorem

all_pass : List Case → Bool
unfolding passes
all_pass [] = true
all_pass (c ∷ cs) = passes c && all_pass cs

all_given : (cs : List Case) → T (all_pass cs) → GivesAll cs
unfolding all_pass
all_given [] h = GivesAll.nothing
all_given (c ∷ cs) h =
    GivesAll.also (passes_gives c (left_of (passes c) (all_pass cs) h)) (all_given cs (right_of_lem (passes c) (all_pass cs) h))

-- The definitions give each of document 01's twelve cases, and each of request (ii)'s.
pub twelve : GivesAll cases
unfolding all_pass
twelve = all_given cases tt
