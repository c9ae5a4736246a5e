-- The theorems to read first: what document 01, "Pace", promises of a report, for all words, logs, ticks and buffers. `Reported`
-- is the contract of the report. When it is idle, `Demands` says; when it is refused with 16, and what it is at most, `Requests`.
use Rattle.std.specs.Prelude.{◌≡◌, ℕ, ◌-◌, ◌%◌, ◌<◌, ◌≤◌, List, pos, slice_index, Result}
use Rattle.std.proofs.Common.{arith}
use Rattle.std.specs.Float.{binary64}
use Rattle.std.specs.Float.Ieee.{of_int, to_unsigned}
use Rattle.grammar.specs.Refusals.{given, outcome_of}
use Rattle.grammar.specs.declared.Refusal.{Refusal}
use Rattle.grammar.specs.Pace.{Span, wrapped, cycle_ms, Reported}
use Rattle.grammar.specs.declared.Report.{Report}
use Rattle.grammar.specs.declared.Counts.{Counts}
use Rattle.grammar.specs.Theory.Outcomes.{outcome_same}
use Rattle.grammar.proofs.Theory.Sentences as Sentences
use Rattle.grammar.proofs.Theory.Requests.{report_limits}
use Rattle.pace.specs.Exact.{exact}

-- The report is the only one, and so is every word of the buffers.
pub report_unique : {ws log ticks : List ℕ} {edit_room rule_room : ℕ} (r s : Result (Report × Counts) Refusal) {x y u v : List ℕ}
    → Reported ws log ticks edit_room rule_room (outcome_of r) x u → Reported ws log ticks edit_room rule_room (outcome_of s) y v
    → (r ≡ s) × (x ≡ y) × (u ≡ v)
report_unique r s p q =
    let same = Sentences.reported_unique p q in
    (outcome_same r s same.0, same.1, same.2)

module _ {ws log ticks : List ℕ} {edit_room rule_room : ℕ} {report : Report} {counts : Counts} {x y : List ℕ}
    (reported : Reported ws log ticks edit_room rule_room (given (report, counts)) x y) where
  -- Sum and count become floats without loss.
  pub sum_exact : to_unsigned 64 (of_int binary64 (pos report.sum)) ≡ report.sum
  sum_exact = let limits = report_limits reported in exact report.sum (omega (arith, limits.0, limits.1))

  pub count_exact : to_unsigned 64 (of_int binary64 (pos report.count)) ≡ report.count
  count_exact = let limits = report_limits reported in exact report.count (omega (arith, limits.0))

-- "This is the true time where that is below 2^32 ticks": the ticks of a cycle are the remainders of true times, in ms, of
-- which the second is the later; its time is their difference.
pub true_time : (ticks : List ℕ) (s : Span) (from to : ℕ) → slice_index ticks s.opened ≡ from % 4294967296
    → slice_index ticks s.closed ≡ to % 4294967296 → from ≤ to → to - from < 4294967296
    → cycle_ms ticks s ≡ to - from
unfolding cycle_ms wrapped
true_time ticks s from to e f l below = omega arith
