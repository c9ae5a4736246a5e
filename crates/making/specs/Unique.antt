-- A text and a byte buffer allow one answer: `made_unique`.
use Rattle.std.specs.Prelude.{ℕ, ◌+◌, ◌≡◌, refl, List, length, Result, Ok, Err}
use Rattle.std.proofs.Common.{sym, ap, subst, ◌∙◌}
use Rattle.grammar.proofs.Theory.Requests.{file_written_unique}
use Rattle.grammar.specs.Theory.Outcomes.{given_refused, given_same, refused_same}
use Rattle.grammar.specs.declared.Refusal.{Refusal}
use Rattle.spelling.specs.Answer.{counted}
use Rattle.spelling.specs.Unique.{spells_unique, stops_unique, not_both}
use Rattle.making.specs.Answer.{FileMade, Made}
use Rattle.making.specs.declared.Unmade.{Unmade}
use Rattle.making.specs.declared.Unmade.TheVariants.{Refused, NoNumber}

file_made_unique : {ws : List ℕ} {room : ℕ} {a b : Result ℕ Unmade} {x y : List ℕ} → FileMade ws room a x → FileMade ws room b y → (a ≡ b) × (x ≡ y)
file_made_unique (FileMade.file p) (FileMade.file q) =
    let same = file_written_unique p q in (ap (λ (n : ℕ). Ok n) (given_same same.0), same.1)
file_made_unique (FileMade.file p) (FileMade.refusal q) = absurd (given_refused refl (file_written_unique p q).0)
file_made_unique (FileMade.refusal p) (FileMade.file q) = absurd (given_refused refl (file_written_unique q p).0)
file_made_unique (FileMade.refusal p) (FileMade.refusal q) =
    let same = file_written_unique p q in (ap (λ (r : Refusal). Err (Refused r)) (refused_same same.0), same.1)

pub made_unique : {text : List ℕ} {room : ℕ} {a b : Result ℕ Unmade} {x y : List ℕ} → Made text room a x → Made text room b y → (a ≡ b) × (x ≡ y)
made_unique {room = room} {b = b} {y = y} (Made.of_words ns p f) (Made.of_words ms q g) =
    file_made_unique f (subst (λ (l : List ℕ). FileMade l room b y) (sym (spells_unique p q)) g)
made_unique (Made.of_words ns p f) (Made.no_number ms q e g) = absurd (not_both p q)
made_unique (Made.no_number ns p e f) (Made.of_words ms q g) = absurd (not_both q p)
made_unique (Made.no_number ns p e f) (Made.no_number ms q e' g) =
    (e ∙ (ap (λ (l : List ℕ). Err (NoNumber (record { place = counted (length l + 1) }))) (stops_unique p q) ∙ sym e'), f ∙ sym g)
