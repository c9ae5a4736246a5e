-- Two answers that an exported function's contract allows for the same inputs and rooms are equal: the status, and every
-- cell of every lent buffer.
use Rattle.std.specs.Prelude.{ℕ, ◌≡◌, List, [], ◌∷◌, Float}
use Rattle.std.proofs.Common.{sym, ap, ◌∙◌}
use Rattle.std.proofs.Math.Option.{Option}
use Rattle.grammar.specs.Refusals.{Outcome}
use Rattle.grammar.specs.declared.Refusal.{Refusal}
use Rattle.grammar.proofs.Theory.Requests.{file_written_unique, desk_unique, marks_unique}
use Rattle.grammar.proofs.Theory.Sentences.{verdict_unique, file_read_unique, parsed_unique, reported_unique}
use Rattle.exports.specs.Status.{
  AnsweredAs,
  CheckedAs,
  DeskAs,
  MarksAs,
  PacedAs,
  ParsedAs,
  ReadAs,
  WrittenAs,
  cells_of,
  counted,
  fitted,
  pace_float,
  plus_zero,
  status_of,
  verdict_status,
}

-- Status and counts are one where the outcome is.
answered_unique : {A : Type 0} {P Q : Outcome A → Type 0} {status : A → ℕ} {cells : A → List ℕ} {count_room s t : ℕ} {n m : List ℕ}
    (p : AnsweredAs P status cells count_room s n) (q : AnsweredAs Q status cells count_room t m) → p.outcome ≡ q.outcome
    → (s ≡ t) × (n ≡ m)
answered_unique {status = status} {cells = cells} {count_room = count_room} p q e = (
  p.status_is ∙ (ap (status_of status) e ∙ sym q.status_is),
  p.counts_are ∙ (ap (λ o. counted count_room (cells_of cells o)) e ∙ sym q.counts_are),
)

pub read_as_unique : {bytes : List ℕ} {room count_room s t : ℕ} {w x n m : List ℕ} → ReadAs bytes room count_room s w n
    → ReadAs bytes room count_room t x m → (s ≡ t) × (w ≡ x) × (n ≡ m)
read_as_unique p q =
    let same = file_read_unique p.answer q.answer in
    let told = answered_unique p q same.0 in
    (told.0, same.1, told.1)

pub written_as_unique : {words : List ℕ} {room count_room s t : ℕ} {b c n m : List ℕ} → WrittenAs words room count_room s b n
    → WrittenAs words room count_room t c m → (s ≡ t) × (b ≡ c) × (n ≡ m)
written_as_unique p q =
    let same = file_written_unique p.answer q.answer in
    let told = answered_unique p q same.0 in
    (told.0, same.1, told.1)

pub desk_as_unique : {words : List ℕ} {cost_room rule_room count_room s t : ℕ} {x y u v n m : List ℕ}
    → DeskAs words cost_room rule_room count_room s x u n → DeskAs words cost_room rule_room count_room t y v m
    → (s ≡ t) × (x ≡ y) × (u ≡ v) × (n ≡ m)
desk_as_unique p q =
    let same = desk_unique p.answer q.answer in
    let told = answered_unique p q same.0 in
    (told.0, same.1, same.2, told.1)

pub checked_as_unique : {words : List ℕ} {s t : ℕ} → CheckedAs words s → CheckedAs words t → s ≡ t
checked_as_unique p q =
    p.status_is ∙ (ap (λ (o : Option Refusal). verdict_status o) (verdict_unique p.verdict q.verdict) ∙ sym q.status_is)

pub parsed_as_unique : {words log : List ℕ} {edit_room rule_room count_room s t : ℕ} {x y u v n m : List ℕ}
    → ParsedAs words log edit_room rule_room count_room s x u n → ParsedAs words log edit_room rule_room count_room t y v m
    → (s ≡ t) × (x ≡ y) × (u ≡ v) × (n ≡ m)
parsed_as_unique p q =
    let same = parsed_unique p.answer q.answer in
    let told = answered_unique p q same.0 in
    (told.0, same.1, same.2, told.1)

pub marks_as_unique : {words log : List ℕ} {edit_room rule_room token_room count_room s t : ℕ} {x y u v p q n m : List ℕ}
    → MarksAs words log edit_room rule_room token_room count_room s x u p n → MarksAs words log edit_room rule_room token_room count_room t y v q m
    → (s ≡ t) × (x ≡ y) × (u ≡ v) × (p ≡ q) × (n ≡ m)
marks_as_unique a b =
    let same = marks_unique a.answer b.answer in
    let told = answered_unique a b same.0 in
    (told.0, same.1, same.2, same.3, told.1)

pub paced_as_unique : {words log ticks : List ℕ} {edit_room rule_room count_room mean_room s t : ℕ} {x y u v n m : List ℕ}
    {f g : List Float} → PacedAs words log ticks edit_room rule_room count_room mean_room s x u n f
    → PacedAs words log ticks edit_room rule_room count_room mean_room t y v m g
    → (s ≡ t) × (x ≡ y) × (u ≡ v) × (n ≡ m) × (f ≡ g)
paced_as_unique {mean_room = mean_room} p q =
    let same = reported_unique p.answered.answer q.answered.answer in
    let told = answered_unique p.answered q.answered same.0 in
    let floats = ap (λ o. fitted plus_zero mean_room (cells_of (λ a. pace_float a.0.pace ∷ []) o)) same.0 in
    (told.0, same.1, same.2, told.1, p.mean_is ∙ (floats ∙ sym q.mean_is))
