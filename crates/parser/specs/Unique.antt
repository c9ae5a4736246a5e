-- The parser's contract allows one answer: two answers and two pairs of buffers that `Parsed` allows for one input are equal.
use Rattle.std.specs.Prelude.{ℕ, List, Result}
use mathlib.Core.Path.{◌≡◌}
use Rattle.grammar.specs.Run.{Asks, ParsedAsking}
use Rattle.grammar.proofs.Theory.Answered.{parsed_unique}
use Rattle.grammar.specs.Refusals.{outcome_of}
use Rattle.grammar.specs.declared.Counts.{Counts}
use Rattle.grammar.specs.declared.Refusal.{Refusal}
use Rattle.grammar.specs.Theory.Outcomes.{outcome_same}

pub parse_unique : {Asked : Asks} {ws log : List ℕ} {edit_room rule_room : ℕ} (r s : Result Counts Refusal) {x y u v : List ℕ}
    → ParsedAsking Asked ws log edit_room rule_room (outcome_of r) x u → ParsedAsking Asked ws log edit_room rule_room (outcome_of s) y v
    → (r ≡ s) × (x ≡ y) × (u ≡ v)
parse_unique r s first second =
    let same = parsed_unique first second in
    (outcome_same r s same.0, same.1, same.2)
