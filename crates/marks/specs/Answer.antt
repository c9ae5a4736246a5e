-- What stands for a mark in the token buffer, and whether the result was put there.
use Rattle.std.specs.Prelude.{ℕ, ◌+◌, ◌≤◌, ◌<◌, ◌≡◌, List, length, get_or, Option, Some, None}
use Rattle.base.specs.Written.{written}
use Rattle.grammar.specs.Marks.{Mark}

-- What stands for a mark: for a kept one the word that `kept` has at its place, for an added one its token, raised by `raise`.
unfoldable pub word_by : List ℕ → ℕ → Mark → ℕ
word_by kept raise (Mark.kept p t) = get_or kept p 0
word_by kept raise (Mark.added t) = t + raise

-- What is lent besides the buffers: a word for each place of the log, and a raise that a word has room for.
pub record Named (log kept : List ℕ) (raise : ℕ) : Type 0 where
  pub each : length kept ≡ length log
  pub small : raise ≤ 4096

-- The whole result stands in front of the buffer, and how long it is; or it does not fit.
unfoldable pub PutOf : List ℕ → List ℕ → List ℕ → Option ℕ → Type 0
PutOf result old tokens (Some size) = (size ≡ length result) × (length result ≤ length old) × (tokens ≡ written old 0 result)
PutOf result old tokens None = length old < length result
