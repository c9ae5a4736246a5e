-- Lines of an input, shown in a buffer: the listing, or what else an input gets; and what an input that was taken apart leads to.
use Rattle.std.specs.Prelude.{ℕ, ◌+◌, ◌*◌, ◌/◌, ◌≤◌, ◌<◌, ◌≡◌, refl, List, [], ◌++◌, length, take, Result, Ok, Err}
use Rattle.std.proofs.Math.Decide.{dec_lt}
use Rattle.std.proofs.Math.Nat.{min-le_left}
use Rattle.std.proofs.Common.{arith, sym, ap, subst, ◌∙◌, append-nil, length-take, take_at, length-take-le}
use Rattle.std.proofs.Math.Logic.{dite}
use Rattle.grammar.specs.File.{FileRead}
use Rattle.grammar.specs.Refusals.{given, refused, number_of}
use Rattle.grammar.specs.Listing.{Printed, file_of, refused_line, tokens_of, ticks_of}
use Rattle.grammar.specs.declared.Refusal.{Refusal}
use Rattle.listing.specs.declared.input.Parts.{Parts}
use Rattle.listing.specs.Answer.{Wrote, TakenApart}
use Rattle.listing.specs.Sizes.{refused_length, wrote_front, wrote_part}
use Rattle.listing.specs.Enough.{printed_front}
use Rattle.listing.specs.Unique.{printed_unique, wrote_unique}
use Rattle.listing.specs.Leads.{Kept, read_part}

-- The lines of the input, which `Lines` gives, were written into the buffer `old`, whole, and `count` is their length; what the buffer
-- held behind them stays.
pub record ShownBy (Lines : List ℕ → List ℕ → Type 0) (input old out : List ℕ) (count : ℕ) : Type 0 where
  pub text : List ℕ
  pub printed : Lines input text
  pub fits : length text ≤ length old
  pub wrote : Wrote old text out count

-- Lines that fit are shown.
pub shown : {Lines : List ℕ → List ℕ → Type 0} {input old text out : List ℕ} {count : ℕ} → Lines input text → Wrote old text out count
    → length text ≤ length old → ShownBy Lines input old out count
shown {text = text} p w fits = record { text = text; printed = p; fits = fits; wrote = w }

-- So is the line of a refusal.
pub shown_refused : (r : Refusal) {Lines : List ℕ → List ℕ → Type 0} {input old out : List ℕ} {count : ℕ}
    → Lines input (refused_line (number_of r)) → Wrote old (refused_line (number_of r)) out count → 11 ≤ length old
    → ShownBy Lines input old out count
shown_refused r p w room = shown p w (omega (arith, refused_length r))

-- ---- What was read of an input: its first `size` bytes, in a room of 30,216 bytes or more

-- The lines of the whole input are shown, whatever stands behind the bytes kept: where the room is not full, nothing does.
pub record WholeBy (Lines : List ℕ → List ℕ → Type 0) (room : List ℕ) (size : ℕ) (old out : List ℕ) (count : ℕ) : Type 0 where
  pub within : count ≤ length out
  pub counts : count ≡ length (take count out)
  pub whole : (rest : List ℕ) → (size < length room → rest ≡ []) → ShownBy Lines (take size room ++ rest) old out count

module _ (Lines : List ℕ → List ℕ → Type 0) where
  -- The bytes kept decide the lines, where the first 30,216 bytes of an input do.
  pub whole_by : {room old out : List ℕ} {size count : ℕ}
      → ((input output : List ℕ) (kept : ℕ) → 30216 ≤ kept → Lines (take kept input) output → Lines input output)
      → 30216 ≤ length room → size ≤ length room → ShownBy Lines (take size room) old out count → WholeBy Lines room size old out count
  whole_by {room} {old} {out} {size} {count} front enough within s =
      let part = wrote_part s.wrote in
      record {
        within = part.0;
        counts = part.1;
        whole = λ rest none.
            dite (dec_lt size (length room))
            (λ less.
            let all : take size room ++ rest ≡ take size room =
            ap (λ (l : List ℕ). take size room ++ l) (none less) ∙ append-nil (take size room) in
            subst (λ (l : List ℕ). ShownBy Lines l old out count) (sym all) s)
            (λ full.
            let kept : length (take size room) ≡ size = length-take-le size room within in
            let all : take size (take size room ++ rest) ≡ take size room = take_at (take size room) rest size kept in
            shown
            (front (take size room ++ rest) s.text size (omega arith)
            (subst (λ (l : List ℕ). Lines l s.text) (sym all) s.printed))
            s.wrote s.fits);
      }

  -- Where the lines are one, so is every byte of the buffer.
  pub whole_unique : {room old x y : List ℕ} {size n m : ℕ} → ((input a b : List ℕ) → Lines input a → Lines input b → a ≡ b)
      → WholeBy Lines room size old x n → WholeBy Lines room size old y m → (n ≡ m) × (x ≡ y)
  whole_unique {old = old} {x = x} {n = n} unique p q =
      let one = p.whole [] (λ l. refl) in
      let two = q.whole [] (λ l. refl) in
      wrote_unique (subst (λ (t : List ℕ). Wrote old t x n) (unique _ _ _ one.printed two.printed) one.wrote) two.wrote

-- ---- What an input that was taken apart leads to

module _ {input old_words old_tokens old_ticks words tokens ticks : List ℕ} where
  -- The answer is the one told.
  pub apart_told : {a b : Result Parts Refusal} → TakenApart input old_words old_tokens old_ticks a words tokens ticks → a ≡ b
      → TakenApart input old_words old_tokens old_ticks b words tokens ticks
  apart_told p e = subst (λ (a : Result Parts Refusal). TakenApart input old_words old_tokens old_ticks a words tokens ticks) e p

  -- What was written stands in the buffers.
  pub apart_parts : {p : Parts} → TakenApart input old_words old_tokens old_ticks (Ok p) words tokens ticks
      → (p.words ≤ length words) × ((p.tokens ≤ length tokens) × (p.ticks ≤ length ticks))
  apart_parts (TakenApart.apart c f p q) = (read_part f refl, ((wrote_part p).0, (wrote_part q).0))

  -- No more tokens than the buffer has room for.
  pub apart_short : {p : Parts} → TakenApart input old_words old_tokens old_ticks (Ok p) words tokens ticks
      → length (take p.tokens tokens) ≤ length old_tokens
  apart_short (TakenApart.apart c f p q) =
      let most = min-le_left (length old_tokens) (length (tokens_of input)) in
      omega (arith, ap length (wrote_front p), length-take (length old_tokens) (tokens_of input))

  -- In buffers of 2,783 words and 4,097 tokens and ticks it decides.
  pub apart_kept : {p : Parts} → TakenApart input old_words old_tokens old_ticks (Ok p) words tokens ticks → length old_words ≡ 2783
      → length old_tokens ≡ 4097 → length old_ticks ≡ 4097 → Kept input (take p.words words) (take p.tokens tokens) (take p.ticks ticks)
  apart_kept (TakenApart.apart {n = n} c f p q) a b d =
      record {
        counted = c;
        file =
            record {
              buffer = words;
              count = n;
              read = subst (λ (room : ℕ). FileRead (file_of input) room (given n) words) a f;
              front = refl;
            };
        room = 4097;
        enough = omega arith;
        tokens = wrote_front p ∙ ap (λ (m : ℕ). take m (tokens_of input)) b;
        times = wrote_front q ∙ ap (λ (m : ℕ). take m (ticks_of input)) d;
      }

-- ---- The listing

abbrev pub Shown : List ℕ → List ℕ → List ℕ → ℕ → Type 0
Shown = ShownBy Printed

abbrev pub ShownWhole : List ℕ → ℕ → List ℕ → List ℕ → ℕ → Type 0
ShownWhole = WholeBy Printed

pub shown_whole : {room old out : List ℕ} {size count : ℕ} → 30216 ≤ length room → size ≤ length room
    → Shown (take size room) old out count → ShownWhole room size old out count
shown_whole enough within s = whole_by Printed (λ input output kept most p. printed_front kept most p) enough within s

-- The listing is one, and so is every byte of the buffer.
pub shown_unique : {room old x y : List ℕ} {size n m : ℕ} → ShownWhole room size old x n → ShownWhole room size old y m → (n ≡ m) × (x ≡ y)
shown_unique p q = whole_unique Printed (λ input a b x y. printed_unique x y) p q

-- The refusal of an input's count or file is printed.
pub taken_refused : {input old_words old_tokens old_ticks words tokens ticks : List ℕ} {r : Refusal}
    → TakenApart input old_words old_tokens old_ticks (Err r) words tokens ticks → length old_words ≡ 2783
    → Printed input (refused_line (number_of r))
taken_refused (TakenApart.uncounted n) e = Printed.uncounted n
taken_refused {input} {words = words} {r = r} (TakenApart.unread c f) e =
    Printed.unread c (subst (λ (room : ℕ). FileRead (file_of input) room (refused r) words) e f)

-- The listing of records in the front of 24,576 words fits.
pub fits_front : {k n m part size : ℕ} → size ≤ 19 * (part / 3) + 169 → part ≡ k → k ≤ n → n ≡ 24576 → 155817 ≤ m → size ≤ m
fits_front s a b c d = omega arith
