-- The tokens of a log with END behind it.
use Rattle.std.specs.Prelude.{ℕ, zero, suc, ◌+◌, ◌≤◌, ◌<◌, ◌≡◌, refl, List, [], ◌∷◌, ◌++◌, length, get_or, drop}
use Rattle.std.proofs.Common.{◌∙◌, ⊎_elim, arith, get_or-drop}
use Rattle.grammar.specs.Words.{END}
use Rattle.moves.specs.Tests.{le_or_lt}

-- A place past the log is END's.
pub token_past : (log : List ℕ) (i : ℕ) → length log ≤ i → get_or log i 0 ≡ 0
token_past [] i l = refl
token_past (t ∷ log) zero l = absurd (omega arith)
token_past (t ∷ log) (suc i) l = token_past log i (omega arith)

-- With END behind it, the log has the same token at each place.
pub token_ended : (log : List ℕ) (i : ℕ) → get_or (log ++ (END ∷ [])) i 0 ≡ get_or log i 0
token_ended [] zero = refl
token_ended [] (suc i) = refl
token_ended (t ∷ log) zero = refl
token_ended (t ∷ log) (suc i) = token_ended log i

-- The rest of the log from a place on, END last.
abbrev pub rest_of : List ℕ → ℕ → List ℕ
rest_of log place = drop place (log ++ (END ∷ []))

-- Token j of the rest.
pub rest_token : (log : List ℕ) (place j : ℕ) → get_or (rest_of log place) j 0 ≡ get_or log (place + j) 0
rest_token log place j = get_or-drop place (log ++ (END ∷ [])) j 0 ∙ token_ended log (place + j)

-- Each token of a log is one of the grammar's, END behind it too.
pub token_high : {T : ℕ} (log : List ℕ) → 1 ≤ T → ((i : ℕ) → i < length log → get_or log i 0 < T) → (i : ℕ) → get_or log i 0 < T
token_high log low high i =
    ⊎_elim (λ l. omega (arith, token_past log i l)) (λ l. high i l) (le_or_lt (length log) i)
