-- What the answers mean, and what a lent buffer holds that a list was written into.
use Rattle.std.specs.Prelude.{ℕ, ◌≤◌, ◌≡◌, List, [], ◌∷◌, ◌++◌, length, take, drop, Result, Ok, Err}
use Rattle.grammar.specs.Moves.{Edit}
use Rattle.grammar.specs.Refusals.{Outcome, given, refused}
use Rattle.grammar.specs.File.{FileRead}
use Rattle.grammar.specs.Listing.{Counted, blocks_end, file_of, tokens_of, ticks_of}
use Rattle.grammar.specs.declared.Refusal.{Refusal}
use Rattle.grammar.specs.declared.Refusal.TheVariants.{BadSize}
use Rattle.listing.specs.declared.input.Parts.{Parts}

-- Where an input's blocks end, or refusal 1.
pub data InputCounted (input : List ℕ) : Outcome ℕ → Type 0 where
  counted : Counted input → InputCounted input (given (blocks_end input))
  uncounted : (Counted input → ⊥) → InputCounted input (refused BadSize)

-- The list `new` was written into the buffer `old`, as much of it as fits, and `count` is how much that is; what the buffer
-- held behind it stays.
pub record Wrote (old new buffer : List ℕ) (count : ℕ) : Type 0 where
  pub number : count ≡ length (take (length old) new)
  pub holds : buffer ≡ take (length old) new ++ drop count old

-- An input taken apart: how many words, tokens and ticks it has as far as the lent buffers hold them, and these in front of the buffers;
-- or the refusal of its count or its file.
pub data TakenApart (input old_words old_tokens old_ticks : List ℕ) : Result Parts Refusal → List ℕ → List ℕ → List ℕ → Type 0 where
  uncounted : (Counted input → ⊥) → TakenApart input old_words old_tokens old_ticks (Err BadSize) old_words old_tokens old_ticks
  unread : {r : Refusal} {words : List ℕ} → Counted input → FileRead (file_of input) (length old_words) (refused r) words
      → TakenApart input old_words old_tokens old_ticks (Err r) words old_tokens old_ticks
  apart : {n k t : ℕ} {words tokens ticks : List ℕ} → Counted input → FileRead (file_of input) (length old_words) (given n) words
      → Wrote old_tokens (tokens_of input) tokens k → Wrote old_ticks (ticks_of input) ticks t
      → TakenApart input old_words old_tokens old_ticks (Ok (record { words = n; tokens = k; ticks = t })) words tokens ticks

-- The bytes `new` are written behind those that end at `at`: whatever stands there by then, they go on with it.
pub record Appends (before : List ℕ) (at : ℕ) (new after : List ℕ) (next : ℕ) : Type 0 where
  pub within : next ≤ length after
  pub goes : (old front : List ℕ) → Wrote old front before at → Wrote old (front ++ new) after next

-- The edit records that words hold: three words each.
unfoldable pub records_of : List ℕ → List Edit
records_of [] = []
records_of (k ∷ []) = []
records_of (k ∷ p ∷ []) = []
records_of (k ∷ p ∷ x ∷ ws) = record { kind = k; place = p; symbol = x } ∷ records_of ws
