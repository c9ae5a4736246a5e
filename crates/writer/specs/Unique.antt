-- The writer's contract allows one answer: `writing_unique` says that two answers and two buffers that `FileWritten` allows for one
-- input are equal. That the outcome is one is a theorem about the definitions, `file_written_unique`.
use Rattle.std.specs.Prelude.{ℕ, ◌≡◌, List, Result}
use Rattle.grammar.specs.Refusals.{outcome_of}
use Rattle.grammar.specs.Theory.Outcomes.{outcome_same}
use Rattle.grammar.specs.Writing.{FileWritten}
use Rattle.grammar.specs.declared.Refusal.{Refusal}
use Rattle.grammar.proofs.Theory.Requests.{file_written_unique}

pub writing_unique : {words : List ℕ} {room : ℕ} (r s : Result ℕ Refusal) {buffer buffer' : List ℕ}
    → FileWritten words room (outcome_of r) buffer → FileWritten words room (outcome_of s) buffer' → (r ≡ s) × (buffer ≡ buffer')
writing_unique r s first second =
    let same = file_written_unique first second in
    (outcome_same r s same.0, same.1)
