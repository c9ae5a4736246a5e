-- What a report tells of the run: its moves and their clean cycles. It is idle exactly where there is none, and then carries no time.
use Rattle.std.specs.Prelude.{ℕ, zero, suc, ◌≡◌, refl, length}
use Rattle.std.proofs.Common.{sym, ◌∙◌, subst, arith}
use Rattle.std.proofs.Math.Path.{ap}
use mathlib.Core.List.Memᴰ
use mathlib.Core.List.{List, [], ◌∷◌, Memᴰ}
use Rattle.std.proofs.Math.Option.{none}
use Rattle.grammar.specs.Words.{opening, closing, restart_mark, tick_unit}
use Rattle.grammar.specs.Moves.{Move}
use Rattle.grammar.specs.Refusals.{Outcome, given}
use Rattle.grammar.specs.Run.{RunOf, Settled, run_conditions}
use Rattle.grammar.specs.Pace.{Span, Clean, total_ms, pace_of, report_of, timed, Reports, Reported, ReportsBy}
use Rattle.grammar.specs.declared.Pace.TheVariants.{Idle}
use Rattle.grammar.specs.declared.Report.{Report}
use Rattle.grammar.specs.declared.Counts.{Counts}
use Rattle.grammar.specs.Theory.Outcomes.{given_refused, given_same}
use Rattle.grammar.proofs.Theory.Answered.{admitted, runs_determined}
use Rattle.grammar.specs.Theory.Told.{Told}

told_by : {ws log ticks : List ℕ} {edit_room rule_room : ℕ} {o : Outcome (List Move)} {a : Outcome (Report × Counts)} {report : Report}
    {counts : Counts} → Settled (run_conditions ws log (timed (tick_unit ws) log ticks)) (RunOf ws log edit_room rule_room) o
    → Reports ws ticks o a → a ≡ given (report, counts) → Told ws log ticks edit_room rule_room report
told_by (Settled.whole {ms = ms} l r) (ReportsBy.paced {cs = cs} c) e =
    record {
      admits = admitted l;
      moves = ms;
      run = r;
      cycles = cs;
      clean = c;
      made = sym (ap (λ (x : Report × Counts). x.0) (given_same e));
    }
told_by (Settled.before l) ReportsBy.unpaced e = absurd (given_refused e refl)
told_by (Settled.within l r) ReportsBy.unpaced e = absurd (given_refused e refl)

pub told : {ws log ticks : List ℕ} {edit_room rule_room : ℕ} {report : Report} {counts : Counts} {x y : List ℕ}
    → Reported ws log ticks edit_room rule_room (given (report, counts)) x y → Told ws log ticks edit_room rule_room report
told p = told_by p.parses.settled p.reports refl

-- ---- Idle

-- A list without members is empty.
none_empty : (cs : List Span) → ((s : Span) → Memᴰ s cs → ⊥) → length cs ≡ 0
none_empty [] n = refl
none_empty (s ∷ cs) n = absurd (n s (Memᴰ.head refl))

empty_none : (cs : List Span) → length cs ≡ 0 → (s : Span) → Memᴰ s cs → ⊥
empty_none [] e s m = Memᴰ.not-nil m
empty_none (u ∷ cs) e s m = omega arith

idle_count : (count sum : ℕ) → pace_of count sum ≡ Idle → count ≡ 0
unfolding pace_of
idle_count zero sum e = refl
idle_count (suc n) sum e = absurd (let z : ◌≡◌ {A = ℕ} 0 1 = cc in omega arith)

count_idle : (count sum : ℕ) → count ≡ 0 → pace_of count sum ≡ Idle
unfolding pace_of
count_idle zero sum e = refl
count_idle (suc n) sum e = absurd (omega arith)

no_time : (ticks : List ℕ) (cs : List Span) → length cs ≡ 0 → total_ms ticks cs ≡ 0
unfolding total_ms
no_time ticks [] e = refl
no_time ticks (s ∷ cs) e = absurd (omega arith)

module _ {ws log ticks : List ℕ} {edit_room rule_room : ℕ} {report : Report} (t : Told ws log ticks edit_room rule_room report) where
  pub told_count : report.count ≡ length t.cycles
  unfolding report_of
  told_count = ap (λ (r : Report). r.count) t.made

  pub told_sum : report.sum ≡ total_ms ticks t.cycles
  unfolding report_of
  told_sum = ap (λ (r : Report). r.sum) t.made

  told_pace : report.pace ≡ pace_of (length t.cycles) (total_ms ticks t.cycles)
  unfolding report_of
  told_pace = ap (λ (r : Report). r.pace) t.made

  told_idle : report.pace ≡ Idle → (s : Span) → Clean (opening ws) (closing ws) (restart_mark ws) t.moves s → ⊥
  told_idle e s y =
      empty_none t.cycles (idle_count (length t.cycles) (total_ms ticks t.cycles) (sym told_pace ∙ e)) s
      (t.clean.every s y)

  idle_told : ((s : Span) → Clean (opening ws) (closing ws) (restart_mark ws) t.moves s → ⊥) → report.pace ≡ Idle
  idle_told n =
      told_pace
      ∙ count_idle (length t.cycles) (total_ms ticks t.cycles)
      (none_empty t.cycles (λ s m. n s (t.clean.only s m)))

  -- The run's moves are these.
  same_moves : {ms : List Move} → RunOf ws log edit_room rule_room ms none → t.moves ≡ ms
  same_moves r = (runs_determined t.admits t.run r).moves

  pub idle_no_cycle : {ms : List Move} → RunOf ws log edit_room rule_room ms none → report.pace ≡ Idle → (s : Span)
      → Clean (opening ws) (closing ws) (restart_mark ws) ms s → ⊥
  idle_no_cycle r e s y = told_idle e s (subst (λ ms. Clean (opening ws) (closing ws) (restart_mark ws) ms s) (sym (same_moves r)) y)

  pub no_cycle_idle : {ms : List Move} → RunOf ws log edit_room rule_room ms none
      → ((s : Span) → Clean (opening ws) (closing ws) (restart_mark ws) ms s → ⊥) → report.pace ≡ Idle
  no_cycle_idle r n = idle_told (λ s y. n s (subst (λ ms. Clean (opening ws) (closing ws) (restart_mark ws) ms s) (same_moves r) y))

  -- Without a clean cycle there is no time.
  pub idle_no_time : report.pace ≡ Idle → (report.count ≡ 0) × (report.sum ≡ 0)
  idle_no_time e =
      let n = idle_count (length t.cycles) (total_ms ticks t.cycles) (sym told_pace ∙ e) in
      (told_count ∙ n, told_sum ∙ no_time ticks t.cycles n)
