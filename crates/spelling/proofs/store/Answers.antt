-- `spelling::store` meets its contract: a place behind the buffer's end is not set.
use mathlib.Core.Path.{sym}
use lib.Seq.{set_out}
use Rattle.spelling.proofs.store.Goals as goal

pub returns-else-place-words : goal.returns-else-place-words
returns-else-place-words c = sym (set_out _ _ _ c.if-place-words.false)
