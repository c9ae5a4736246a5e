-- A run so far: by decisions that meet no limit it has come from one state to another. What holds of the moves of every path
-- holds of every run, also of one that is refused midway.
use Rattle.std.specs.Prelude.{ℕ, ◌≡◌, List, ◌++◌}
use Rattle.std.proofs.Common.{sym, subst, append_assoc, append-nil}
use Rattle.std.proofs.Math.Option.{Option, none}
use Rattle.grammar.specs.Grammar.{Grammar}
use Rattle.grammar.specs.Moves.{Move}
use Rattle.grammar.specs.Run.{Pick, Choice, State, Limits, Run, next, made, limit}
use Rattle.grammar.specs.declared.Refusal.{Refusal}
use Rattle.grammar.specs.Theory.Good.{Good}
use Rattle.grammar.specs.Theory.States.{Live}
use Rattle.grammar.proofs.Theory.States.{live_next}
use Rattle.grammar.specs.Theory.Paths.{Path}

module _ (G : Grammar) (L : Limits) where
  -- A path and a run from where it ends are a run.
  pub path_run : {s u : State} {ms ns : List Move} {o : Option Refusal} → Path G L s ms u → Run G L u ns o → Run G L s (ms ++ ns) o
  path_run Path.still r = r
  path_run {ns = ns} {o = o} (Path.onward {s = s} {x = x} {ms = ms} c l q) r =
      subst (λ w. Run G L s w o) (sym (append_assoc (made s x) ms ns)) (Run.moved c l (path_run q r))

  -- Two paths, one behind the other.
  pub path_trans : {s u v : State} {ms ns : List Move} → Path G L s ms u → Path G L u ns v → Path G L s (ms ++ ns) v
  path_trans Path.still r = r
  path_trans {v = v} {ns = ns} (Path.onward {s = s} {x = x} {ms = ms} c l q) r =
      subst (λ w. Path G L s w v) (sym (append_assoc (made s x) ms ns)) (Path.onward c l (path_trans q r))

  -- One more decision.
  pub path_on : {s u : State} {x : Pick} {ms : List Move} → Path G L s ms u → Choice G u.stack u.rest x → limit L u x ≡ none
      → Path G L s (ms ++ made u x) (next u x)
  path_on {s = s} {u = u} {x = x} {ms = ms} q c l =
      path_trans q (subst (λ w. Path G L u w (next u x)) (append-nil (made u x)) (Path.onward c l Path.still))

  -- A run makes the moves of a path, whatever its outcome.
  pub run_path : {s : State} {ms : List Move} {o : Option Refusal} → Run G L s ms o → (u : State) × Path G L s ms u
  run_path (Run.ended {s = s} e f) = (s, Path.still)
  run_path (Run.moved c l r) = let h = run_path r in (h.0, Path.onward c l h.1)
  run_path (Run.stopped {s = s} c l) = (s, Path.still)

-- A path keeps what a run keeps.
pub path_live : (G : Grammar) (N R : ℕ) (good : Good G N R) {L : Limits} {s u : State} {ms : List Move} → Path G L s ms u
    → Live G s.stack s.rest → Live G u.stack u.rest
path_live G N R good Path.still v = v
path_live G N R good (Path.onward {s = s} c l q) v = path_live G N R good q (live_next G N R good s c v)
