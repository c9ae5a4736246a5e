-- The desk's contract allows one answer: `desk_unique` says that two answers and two pairs of buffers that `DeskAnswer` allows for one
-- input are equal. That the outcome is one is a theorem about the definitions, `desk_unique` of `Requests`.
use Rattle.std.specs.Prelude.{ℕ, ◌≡◌, List, Result}
use Rattle.grammar.specs.Desk.{DeskAnswer}
use Rattle.grammar.proofs.Theory.Requests as Requests
use Rattle.grammar.specs.Refusals.{outcome_of}
use Rattle.grammar.specs.Theory.Outcomes.{outcome_same}
use Rattle.grammar.specs.declared.Refusal.{Refusal}

pub desk_unique : {words : List ℕ} {cost_room rule_room : ℕ} (r s : Result ℕ Refusal) {x y u v : List ℕ}
    → DeskAnswer words cost_room rule_room (outcome_of r) x u → DeskAnswer words cost_room rule_room (outcome_of s) y v
    → (r ≡ s) × (x ≡ y) × (u ≡ v)
desk_unique r s first second =
    let same = Requests.desk_unique first second in
    (outcome_same r s same.0, same.1, same.2)
