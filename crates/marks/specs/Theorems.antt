-- Two answers that the contracts allow for the same words, log and lengths of the buffers are equal, and so is every word of the three
-- buffers.
use Rattle.std.specs.Prelude.{ℕ, ◌≡◌, List, Result}
use Rattle.grammar.specs.Marks.{Mark, Marks, MarksAnswer}
use Rattle.grammar.specs.Run.{Asks}
use Rattle.grammar.specs.declared.Counts.{Counts}
use Rattle.grammar.proofs.Theory.MarkAnswers as MarkAnswers
use Rattle.grammar.specs.Refusals.{outcome_of}
use Rattle.grammar.specs.declared.Refusal.{Refusal}
use Rattle.grammar.specs.Theory.Outcomes.{outcome_same}

-- Of `marks_as`, whatever stands for a mark,
pub marks_as_unique : (word_of : Mark → ℕ) (Asked : Asks) {ws log x y u v s t : List ℕ} {edit_room rule_room token_room : ℕ}
    (a b : Result (Counts × ℕ) Refusal) → Marks word_of Asked ws log edit_room rule_room token_room (outcome_of a) x u s
    → Marks word_of Asked ws log edit_room rule_room token_room (outcome_of b) y v t → (a ≡ b) × (x ≡ y) × (u ≡ v) × (s ≡ t)
marks_as_unique word_of Asked a b p q =
    let same = MarkAnswers.marks_unique p q in
    (outcome_same a b same.0, same.1, same.2, same.3)

-- and of `marks`.
pub marks_unique : {ws log x y u v s t : List ℕ} {edit_room rule_room token_room : ℕ} (a b : Result (Counts × ℕ) Refusal)
    → MarksAnswer ws log edit_room rule_room token_room (outcome_of a) x u s
    → MarksAnswer ws log edit_room rule_room token_room (outcome_of b) y v t → (a ≡ b) × (x ≡ y) × (u ≡ v) × (s ≡ t)
marks_unique a b p q =
    let same = MarkAnswers.marks_unique p q in
    (outcome_same a b same.0, same.1, same.2, same.3)
