-- What the word buffer holds while a block's words are copied to it, and while the blocks are.
use Prim.Native.Nat.{ℕ, ◌+◌, ◌*◌, ◌<◌}
use native.Mathlib.Omega.{arith}
use mathlib.Core.Path.{◌≡◌, refl, sym, ap, ◌∙◌}
use mathlib.Core.List.{List, [], ◌∷◌, ◌++◌}
use lib.ListN.{length, set, length-set}
use Rattle.grammar.specs.File.{pair_at, words_used, words_from, words_of_blocks}
use Rattle.base.specs.Written.{written, written_none, written_more, begun, begun_none, begun_more}
use Rattle.grammar.specs.Theory.Files.{block_words, words_length, words_more, words_none, blocks_more, blocks_none, blocks_length}

-- The first i words from byte `start` on stand in the buffer, from the place `at` on.
pub record BlockCopied (bytes old words : List ℕ) (start at i : ℕ) : Type 0 where
  pub same : length words ≡ length old
  pub holds : words ≡ written old at (words_from bytes start i)

pub block_begins : (bytes old : List ℕ) (start at : ℕ) → BlockCopied bytes old old start at 0
block_begins bytes old start at =
    record { same = refl; holds = sym (ap (written old at) (words_none bytes start) ∙ written_none old at) }

pub block_goes : {bytes old words : List ℕ} {start at i v : ℕ} → BlockCopied bytes old words start at i → at + i < length old
    → v ≡ pair_at bytes (start + 2 * i) → BlockCopied bytes old (set words (at + i) v) start at (i + 1)
block_goes {bytes} {old} {words} {start} {at} {i} {v} r l word =
    let front : List ℕ = words_from bytes start i in
    let size : length front ≡ i = words_length bytes start i in
    let below : at + length front < length old = omega arith in
    record {
      same = length-set words (at + i) v ∙ r.same;
      holds =
          ap (λ (ws : List ℕ). set ws (at + i) v) r.holds
          ∙ (ap (λ (n : ℕ). set (written old at front) (at + n) v) (sym size)
          ∙ (written_more old at front v below
          ∙ (ap (λ (w : ℕ). written old at (front ++ (w ∷ []))) word ∙ ap (written old at) (sym (words_more bytes start i)))));
    }

-- The used words of the first k blocks stand in front, and `at` is the place behind them.
pub record BlocksCopied (bytes old words : List ℕ) (at k : ℕ) : Type 0 where
  pub place : at ≡ length (words_of_blocks bytes k)
  pub same : length words ≡ length old
  pub holds : words ≡ begun old (words_of_blocks bytes k)

pub blocks_begin : (bytes old : List ℕ) → BlocksCopied bytes old old 0 0
blocks_begin bytes old =
    record {
      place = sym (ap length (blocks_none bytes));
      same = refl;
      holds = sym (ap (begun old) (blocks_none bytes) ∙ begun_none old);
    }

pub blocks_go : {bytes old words new : List ℕ} {at next k : ℕ} → BlocksCopied bytes old words at k → length new ≡ length words
    → next ≡ at + words_used bytes k → new ≡ written words at (block_words bytes k)
    → BlocksCopied bytes old new next (k + 1)
blocks_go {bytes} {old} {words} {new} {at} {next} {k} r same place holds =
    let front : List ℕ = words_of_blocks bytes k in
    let block : List ℕ = block_words bytes k in
    record {
      place = place ∙ (ap (λ (n : ℕ). n + words_used bytes k) r.place ∙ sym (blocks_length bytes k));
      same = same ∙ r.same;
      holds =
          holds
          ∙ (ap (λ (ws : List ℕ). written ws at block) r.holds
          ∙ (ap (λ (n : ℕ). written (begun old front) n block) r.place
          ∙ (begun_more old front block ∙ ap (begun old) (sym (blocks_more bytes k)))));
    }

pub block_ends : {bytes old words : List ℕ} {start at i n : ℕ} → BlockCopied bytes old words start at i → i ≡ n
    → words ≡ written old at (words_from bytes start n)
block_ends {bytes} {old} {start = start} {at = at} r end = r.holds ∙ ap (λ (n : ℕ). written old at (words_from bytes start n)) end

pub blocks_end_lem : {bytes old words : List ℕ} {at k n : ℕ} → BlocksCopied bytes old words at k → k ≡ n
    → words ≡ begun old (words_of_blocks bytes n)
blocks_end_lem {bytes} {old} r end = r.holds ∙ ap (λ (n : ℕ). begun old (words_of_blocks bytes n)) end
