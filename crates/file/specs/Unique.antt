-- The reader's contract allows one answer: `reading_unique` says that two answers and two buffers that `FileRead` allows for
-- one input are equal. That the outcome is one is a theorem about the definitions, `file_read_unique`.
use Rattle.std.specs.Prelude.{ℕ, ◌≡◌, List, Result}
use Rattle.grammar.specs.File.{FileRead}
use Rattle.grammar.specs.Refusals.{outcome_of}
use Rattle.grammar.specs.Theory.Outcomes.{outcome_same}
use Rattle.grammar.specs.declared.Refusal.{Refusal}
use Rattle.grammar.proofs.Theory.Sentences.{file_read_unique}

pub reading_unique : {bytes : List ℕ} {room : ℕ} (r s : Result ℕ Refusal) {buffer buffer' : List ℕ}
    → FileRead bytes room (outcome_of r) buffer → FileRead bytes room (outcome_of s) buffer' → (r ≡ s) × (buffer ≡ buffer')
reading_unique r s first second =
    let same = file_read_unique first second in
    (outcome_same r s same.0, same.1)
