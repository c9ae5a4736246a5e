-- Where the blocks of an input end, and how the answers on the way take it apart.
use Prim.Native.Nat.{ℕ, ◌+◌, ◌-◌, ◌*◌, ◌≤◌}
use native.Mathlib.Omega.{arith}
use mathlib.Core.Path.{◌≡◌, refl, sym, ap, subst, ◌∙◌}
use mathlib.Core.List.{List}
use Rattle.std.specs.Prelude.{Ok, Err}
use lib.ListN.{length, take, drop, length-drop}
use lib.Seq.{take_all}
use Rattle.grammar.specs.File.{FileRead}
use Rattle.grammar.specs.Refusals.{Outcome, given, refused}
use Rattle.grammar.specs.Listing.{Counted, blocks_end, blocks_named, file_of, ticks_from, tokens_from}
use Rattle.grammar.specs.declared.Refusal.{Refusal}
use Rattle.listing.specs.Answer.{InputCounted, TakenApart, Wrote, counted, uncounted}
use Rattle.listing.proofs.Entries.{tokens_behind, ticks_behind}

module _ (input : List ℕ) where
  pub blocks_end_lem : (count : ℕ) → count ≡ blocks_named input → 2 ≤ length input → 1 ≤ count → count ≤ 11
      → 2 + 512 * count ≤ length input → InputCounted input (given (2 + 512 * count))
  blocks_end_lem count e whole low high present =
      subst (λ (n : ℕ). InputCounted input (given (2 + 512 * n))) (sym e)
      (counted (record { whole = whole; low = omega arith; high = omega arith; present = omega arith }))

-- ---- An input taken apart

pub counted_end : {input : List ℕ} {n : ℕ} → InputCounted input (given n) → Counted input × (n ≡ blocks_end input)
counted_end (counted c) = (c, refl)

module _ {input : List ℕ} {end : ℕ} (ends : InputCounted input (given end)) where
  the_file : take (end - 2) (drop 2 input) ≡ file_of input
  unfolding file_of
  the_file =
      let size : end - 2 ≡ 512 * blocks_named input = omega (arith, (counted_end ends).1) in
      ap (λ (n : ℕ). take n (drop 2 input)) size

  read_file : {room : ℕ} {o : Outcome ℕ} {words : List ℕ} → FileRead (take (end - 2) (drop 2 input)) room o words
      → FileRead (file_of input) room o words
  read_file {room} {o} {words} answer = subst (λ (b : List ℕ). FileRead b room o words) the_file answer

  the_entries : take (length input - end) (drop end input) ≡ drop end input
  the_entries = take_all (length input - end) (drop end input) (simp length-drop (omega arith))

  the_tokens : tokens_from (take (length input - end) (drop end input)) 0 ≡ tokens_from input (blocks_end input)
  the_tokens =
      ap (λ (l : List ℕ). tokens_from l 0) the_entries
      ∙ (tokens_behind input end ∙ ap (λ (m : ℕ). tokens_from input m) (counted_end ends).1)

  the_ticks : ticks_from (take (length input - end) (drop end input)) 0 ≡ ticks_from input (blocks_end input)
  the_ticks =
      ap (λ (l : List ℕ). ticks_from l 0) the_entries
      ∙ (ticks_behind input end ∙ ap (λ (m : ℕ). ticks_from input m) (counted_end ends).1)

module _ {input old_words old_tokens old_ticks : List ℕ} where
  -- Its count is refused,
  pub taken_uncounted : {r : Refusal} → InputCounted input (refused r)
      → TakenApart input old_words old_tokens old_ticks (Err r) old_words old_tokens old_ticks
  taken_uncounted (uncounted n) = TakenApart.uncounted n

  -- or its file,
  pub taken_unread : {end : ℕ} {words : List ℕ} {r : Refusal} → InputCounted input (given end)
      → FileRead (take (end - 2) (drop 2 input)) (length old_words) (refused r) words
      → TakenApart input old_words old_tokens old_ticks (Err r) words old_tokens old_ticks
  taken_unread ends answer = TakenApart.unread (counted_end ends).0 (read_file ends answer)

  -- or neither.
  pub taken_apart : {end : ℕ} {words tokens ticks : List ℕ} {n k t : ℕ} → InputCounted input (given end)
      → FileRead (take (end - 2) (drop 2 input)) (length old_words) (given n) words
      → Wrote old_tokens (tokens_from (take (length input - end) (drop end input)) 0) tokens k
      → Wrote old_ticks (ticks_from (take (length input - end) (drop end input)) 0) ticks t
      → TakenApart input old_words old_tokens old_ticks (Ok (record { words = n; tokens = k; ticks = t })) words tokens ticks
  taken_apart {tokens = tokens} {ticks = ticks} {k = k} {t = t} ends answer p q =
      TakenApart.apart (counted_end ends).0 (read_file ends answer)
      (subst (λ (l : List ℕ). Wrote old_tokens l tokens k) (the_tokens ends) p)
      (subst (λ (l : List ℕ). Wrote old_ticks l ticks t) (the_ticks ends) q)
