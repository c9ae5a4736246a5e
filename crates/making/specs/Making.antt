-- From what a text spells to what it comes to.
--     words_made, none_made                       the spelling's answer, and then the writer's, is the text's
--     bytes_made, refusal_made                    what the writer answered
--     file_made_same, made_same                   the same of equal answers
--     file_fits                                   the file stands in the buffer
use Rattle.std.specs.Prelude.{ℕ, ◌-◌, ◌≤◌, ◌<◌, min, ◌≡◌, List, ◌⊎◌, length, take, replicate, Result, Ok, Err}
use Rattle.std.proofs.Common.{arith, sym, ap, subst, subst₂, ◌∙◌, inl, inr, length-append, length-take, take_all, take_at}
use Rattle.base.specs.Choices.{below_or}
use Rattle.grammar.specs.Buffers.{filled, cleared, Fills}
use Rattle.grammar.specs.Refusals.{Condition, Outcome, given, refused, outcome_of}
use Rattle.grammar.specs.Writing.{FileWritten}
use Rattle.grammar.specs.declared.Refusal.TheVariants.{BadCount}
use Rattle.grammar.specs.Theory.Conditions.{applies}
use Rattle.grammar.specs.Theory.Fills.{made_clear}
use Rattle.grammar.proofs.Theory.Requests.{file_written_unique}
use Rattle.grammar.specs.declared.Refusal.{Refusal}
use Rattle.spelling.specs.Answer.{counted, Answered}
use Rattle.spelling.specs.declared.NoNumber.{NoNumber}
use Rattle.making.specs.Answer.{FileMade, Made}
use Rattle.making.specs.declared.Unmade.{Unmade}
use Rattle.making.specs.declared.Unmade.TheVariants.{Refused, NoNumber as NoneAt}

-- ---- Too many words

-- More words than a file holds are refused with 13, whichever they are.
refused_13 : (ws : List ℕ) (room : ℕ) → 2783 < length ws → FileWritten ws room (refused BadCount) (cleared room)
refused_13 ws room l = record { write = Fills.refuse (applies (λ count. omega (arith, count.most))) }

too_many : {ws vs : List ℕ} {room : ℕ} {answer : Outcome ℕ} {bytes : List ℕ} → 2783 < length ws → 2783 < length vs
    → FileWritten ws room answer bytes → FileWritten vs room answer bytes
too_many {ws} {vs} {room} l m is =
    let same = file_written_unique is (refused_13 ws room l) in
    subst₂ (λ (a : Outcome ℕ) (b : List ℕ). FileWritten vs room a b) (sym same.0) (sym same.1) (refused_13 vs room m)

made_too_many : {ws vs : List ℕ} {room : ℕ} {answer : Result ℕ Unmade} {bytes : List ℕ} → 2783 < length ws → 2783 < length vs
    → FileMade ws room answer bytes → FileMade vs room answer bytes
made_too_many l m (FileMade.file is) = FileMade.file (too_many l m is)
made_too_many l m (FileMade.refusal is) = FileMade.refusal (too_many l m is)

-- In a buffer of more words than a file holds no text is cut to one that is written.
made_all : (ns : List ℕ) (words : ℕ) {room : ℕ} {answer : Result ℕ Unmade} {bytes : List ℕ} → 2784 ≤ words
    → FileMade (take words ns) room answer bytes → FileMade ns room answer bytes
made_all ns words {room} {answer} {bytes} l is = decided (below_or words (length ns))
  where
    decided : (words < length ns) ⊎ (length ns ≤ words) → FileMade ns room answer bytes
    decided (inl g) = made_too_many (simp length-take (omega arith)) (omega arith) is
    decided (inr g) = subst (λ (ws : List ℕ). FileMade ws room answer bytes) (take_all words ns g) is

-- ---- What the spelling left in the word buffer

stored_front : (ns : List ℕ) (room : ℕ) → room ≤ 18446744073709551615
    → take (min (counted (length ns)) room) (filled room (take room ns)) ≡ take room ns
unfolding filled
stored_front ns room l = take_at (take room ns) _ (min (counted (length ns)) room) (simp length-take (omega arith))

-- The spelling's answers are told apart.
words_not_none : {answer : Result ℕ NoNumber} {n : ℕ} {k : NoNumber} → answer ≡ Ok n → answer ≡ Err k → ⊥
words_not_none e f = let z : ◌≡◌ {A = ℕ} 0 1 = cc in omega arith

words_same : {answer : Result ℕ NoNumber} {n m : ℕ} → answer ≡ Ok n → answer ≡ Ok m → n ≡ m
words_same e f = cc

-- The front of the buffer that the writer is lent: the numbers that fit.
words_front : (ns left : List ℕ) (words : ℕ) {n : ℕ} → words ≤ 18446744073709551615 → n ≡ counted (length ns) → length left ≡ words
    → left ≡ filled words (take words ns) → take (min n (length left)) left ≡ take words ns
words_front ns left words high count size f =
    ap (λ (k : ℕ). take (min k (length left)) left) count
    ∙ (ap (λ (k : ℕ). take (min (counted (length ns)) k) left) size
    ∙ (ap (λ (l : List ℕ). take (min (counted (length ns)) words) l) f ∙ stored_front ns words high))

pub words_made : {text left : List ℕ} {spelled : Result ℕ NoNumber} {words n room : ℕ} {answer : Result ℕ Unmade} {bytes : List ℕ} → spelled ≡ Ok n
    → 2784 ≤ words → words ≤ 18446744073709551615 → length left ≡ words → Answered text words spelled left
    → FileMade (take (min n (length left)) left) room answer bytes → Made text room answer bytes
words_made {left = left} {words = words} {room = r} {answer = a} {bytes = b} met low high size (Answered.words ns spells e f) is =
    let front = words_front ns left words high (words_same met e) size f in
    Made.of_words ns spells (made_all ns words low (subst (λ (ws : List ℕ). FileMade ws r a b) front is))
words_made met low high size (Answered.no_number ns stops e f) is = absurd (words_not_none met e)

pub none_made : {text left : List ℕ} {spelled : Result ℕ NoNumber} {words : ℕ} {k : NoNumber} (room : ℕ) {bytes : List ℕ} → spelled ≡ Err k
    → Answered text words spelled left → bytes ≡ replicate (room - 0) 0 → Made text room (Err (NoneAt k)) bytes
none_made room met (Answered.words ns spells e f) clear = absurd (words_not_none e met)
none_made room met (Answered.no_number ns stops e f) clear = Made.no_number ns stops (cc) (made_clear room clear)

-- ---- What the writer answered

module _ (ws : List ℕ) {size most room : ℕ} {writing : Result ℕ Refusal} {bytes : List ℕ} (least : size ≡ most) where
  pub bytes_made : {n : ℕ} → writing ≡ Ok n → FileWritten (take size ws) room (outcome_of writing) bytes
      → FileMade (take most ws) room (Ok n) bytes
  bytes_made met is =
      FileMade.file (subst₂ (λ (k : ℕ) (w : Result ℕ Refusal). FileWritten (take k ws) room (outcome_of w) bytes) least met is)

  pub refusal_made : {r : Refusal} → writing ≡ Err r → FileWritten (take size ws) room (outcome_of writing) bytes
      → FileMade (take most ws) room (Err (Refused r)) bytes
  refusal_made met is =
      FileMade.refusal (subst₂ (λ (k : ℕ) (w : Result ℕ Refusal). FileWritten (take k ws) room (outcome_of w) bytes) least met is)

-- ---- The answer, by another name

pub file_made_same : {ws : List ℕ} {room : ℕ} {a b : Result ℕ Unmade} {bytes : List ℕ} → a ≡ b → FileMade ws room a bytes → FileMade ws room b bytes
file_made_same {ws} {room} {a} {b} {bytes} e is = subst (λ (x : Result ℕ Unmade). FileMade ws room x bytes) e is

pub made_same : {text : List ℕ} {room size : ℕ} {a b : Result ℕ Unmade} {bytes : List ℕ} → room ≡ size → a ≡ b → Made text room a bytes
    → Made text size b bytes
made_same {text} {room} {size} {a} {b} {bytes} least e is =
    subst₂ (λ (n : ℕ) (x : Result ℕ Unmade). Made text n x bytes) least e is

-- ---- The file

written_fits : {cs : List Condition} {content : List ℕ} {room n : ℕ} {bytes : List ℕ} → Fills cs room content (given n) bytes → n ≤ length bytes
unfolding filled
written_fits (Fills.fill met) = simp length-append (omega arith)

made_fits : {text : List ℕ} {room n : ℕ} {bytes : List ℕ} → Made text room (Ok n) bytes → n ≤ length bytes
made_fits (Made.of_words ns spells (FileMade.file is)) = written_fits is.write
made_fits (Made.no_number ns stops e f) = let z : ◌≡◌ {A = ℕ} 0 1 = cc in omega arith

pub file_fits : {text : List ℕ} {room n : ℕ} {answer : Result ℕ Unmade} {bytes : List ℕ} → answer ≡ Ok n → Made text room answer bytes
    → n ≤ length bytes
file_fits {text} {room} {n} {answer} {bytes} met made = made_fits (subst (λ (a : Result ℕ Unmade). Made text room a bytes) met made)
