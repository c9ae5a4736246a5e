-- From the answers of the functions called to what the exported functions promise.
use Rattle.std.proofs.Common.{ℕ, ◌≡◌, refl, ap, ◌∙◌, List, [], ◌∷◌}
use Rattle.std.proofs.Math.Option.{none, some}
use lib.Ieee.{Float, binary64, div, nan, of_bits, of_fields}
use Rattle.grammar.specs.Refusals.{Outcome, given, refused, number_of}
use Rattle.grammar.specs.Grammar.{Verdict}
use Rattle.grammar.specs.Pace.{Reported}
use Rattle.grammar.specs.declared.Counts.{Counts}
use Rattle.grammar.specs.declared.Refusal.{Refusal}
use Rattle.grammar.specs.declared.Report.{Report}
use Rattle.exports.specs.Status.{
  AnsweredAs,
  CheckedAs,
  PacedAs,
  cells_of,
  counted,
  fitted,
  pace_float,
  pace_status,
  plus_zero,
  status_of,
  verdict_status,
}

-- ---- Checking

pub accepts : {ws : List ℕ} → Verdict ws none → CheckedAs ws 0
unfolding verdict_status
accepts v = record { outcome = none; verdict = v; status_is = refl }

pub rejects : {ws : List ℕ} {r : Refusal} {status : ℕ} → Verdict ws (some r) → status ≡ number_of r → CheckedAs ws status
unfolding verdict_status
rejects {r = r} v s = record { outcome = some r; verdict = v; status_is = s }

-- ---- Reading, parsing and pacing

module _ {A : Type 0} {Answer : Outcome A → Type 0} {status_by : A → ℕ} {counts_by : A → List ℕ} {count_room : ℕ} where
  -- An answer of values,
  pub answers : (a : A) {status : ℕ} {counts : List ℕ} → Answer (given a) → status ≡ status_by a → counts ≡ counted count_room (counts_by a)
      → AnsweredAs Answer status_by counts_by count_room status counts
  unfolding status_of cells_of
  answers a h s c = record { outcome = given a; answer = h; status_is = s; counts_are = c }

  -- or a refusal.
  pub refuses : (r : Refusal) {status : ℕ} {counts : List ℕ} → Answer (refused r) → status ≡ number_of r → counts ≡ counted count_room []
      → AnsweredAs Answer status_by counts_by count_room status counts
  unfolding status_of cells_of
  refuses r h s c = record { outcome = refused r; answer = h; status_is = s; counts_are = c }

-- The literal 0.0 of the code stands behind what fits.
pub over_zeros : (room : ℕ) {mean xs ys : List Float} → mean ≡ fitted (of_bits binary64 0) room xs → xs ≡ ys → mean ≡ fitted plus_zero room ys
unfolding of_bits of_fields
over_zeros room e same = e ∙ ap (λ (l : List Float). fitted plus_zero room l) same

-- The division by which the idle station's float is made.
pub no_number : div binary64 (of_bits binary64 0) (of_bits binary64 0) ≡ nan
unfolding div of_bits of_fields
no_number = refl

module _ {words log ticks edits rules counts : List ℕ} {mean : List Float} {edit_room rule_room count_room mean_room status : ℕ} where
  pub paces : {report : Report} {made : Counts} → Reported words log ticks edit_room rule_room (given (report, made)) edits rules
      → status ≡ pace_status report.pace → counts ≡ counted count_room (report.count ∷ report.sum ∷ [])
      → mean ≡ fitted plus_zero mean_room (pace_float report.pace ∷ [])
      → PacedAs words log ticks edit_room rule_room count_room mean_room status edits rules counts mean
  unfolding cells_of answers
  paces {report} {made} answer s c m = record { answered = answers (report, made) answer s c; mean_is = m }

  pub paces_not : {r : Refusal} → Reported words log ticks edit_room rule_room (refused r) edits rules → status ≡ number_of r
      → counts ≡ counted count_room [] → mean ≡ fitted plus_zero mean_room []
      → PacedAs words log ticks edit_room rule_room count_room mean_room status edits rules counts mean
  unfolding cells_of refuses
  paces_not {r} answer s c m = record { answered = refuses r answer s c; mean_is = m }
