-- The run is determined: two runs of one state have equal moves and equal outcome. The parser's and the report's answers are in
-- Answers.antt, those of functions that fill one buffer in Fills.antt.
use Rattle.std.specs.Prelude.{ℕ, ◌≡◌, refl, List}
use Rattle.std.proofs.Common.{sym, ap, ◌∙◌, subst}
use Rattle.std.proofs.Math.Option.{Option, none, some}
use Rattle.grammar.specs.Grammar.{Grammar}
use Rattle.grammar.specs.Moves.{Move}
use Rattle.grammar.specs.Run.{State, Limits, Run, next, limit}
use Rattle.grammar.specs.declared.Refusal.{Refusal}
use Rattle.grammar.specs.Theory.Conditions.{some_none}
use Rattle.grammar.specs.Theory.Good.{Good}
use Rattle.grammar.specs.Theory.States.{Live}
use Rattle.grammar.proofs.Theory.States.{choice_some, live_next, one_choice}

-- Equal moves and equal outcome.
pub record SameRun (ms ns : List Move) (o q : Option Refusal) : Type 0 where
  pub moves : ms ≡ ns
  pub outcome : o ≡ q

module _ (G : Grammar) (N R : ℕ) (good : Good G N R) (L : Limits) where
  -- Two runs of one state are one: by induction, each decision being one.
  pub run_determined : {s : State} {ms ns : List Move} {o q : Option Refusal} → Run G L s ms o → Run G L s ns q
      → Live G s.stack s.rest → SameRun ms ns o q
  run_determined (Run.ended e f) (Run.ended g h) v = record { moves = refl; outcome = refl }
  run_determined (Run.ended e f) (Run.moved d m k) v = absurd (choice_some d f)
  run_determined (Run.ended e f) (Run.stopped d m) v = absurd (choice_some d f)
  run_determined (Run.moved c l r) (Run.ended g h) v = absurd (choice_some c h)
  run_determined {s = s} {q = q} (Run.moved {x = x} {ms = ms} {o = o} c l r) (Run.moved {x = y} {ms = ns} d m k) v =
      let e : x ≡ y = one_choice G N R good v c d in
      let rest : SameRun ms ns o q =
      run_determined r (subst (λ z. Run G L (next s z) ns q) (sym e) k) (live_next G N R good s c v) in
      let same = rest.moves in
      record { moves = cc; outcome = rest.outcome }
  run_determined {s = s} (Run.moved {x = x} c l r) (Run.stopped {x = y} d m) v =
      absurd (some_none (subst (λ z. limit L s z ≡ none) (one_choice G N R good v c d) l) m)
  run_determined (Run.stopped c l) (Run.ended g h) v = absurd (choice_some c h)
  run_determined {s = s} (Run.stopped {x = x} {r = w} c l) (Run.moved {x = y} d m k) v =
      absurd (some_none m (subst (λ z. limit L s z ≡ some w) (one_choice G N R good v c d) l))
  run_determined {s = s} (Run.stopped {x = x} c l) (Run.stopped {x = y} d m) v =
      let e : x ≡ y = one_choice G N R good v c d in
      record { moves = refl; outcome = sym l ∙ ap (λ z. limit L s z) e ∙ m }
