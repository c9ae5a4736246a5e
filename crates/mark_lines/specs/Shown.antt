-- The lines of an input, shown in a buffer.
use Rattle.std.specs.Prelude.{ℕ, ◌≤◌, ◌≡◌, List, length, take, Err}
use Rattle.std.proofs.Common.{subst}
use Rattle.grammar.specs.File.{FileRead}
use Rattle.grammar.specs.Listing.{file_of, refused_line}
use Rattle.grammar.specs.MarkLines.{MarksPrinted}
use Rattle.grammar.specs.Refusals.{number_of, refused}
use Rattle.grammar.specs.declared.Refusal.{Refusal}
use Rattle.listing.specs.Answer.{TakenApart}
use Rattle.listing.specs.Shown.{ShownBy, WholeBy, whole_by, whole_unique}
use Rattle.mark_lines.specs.Enough.{marks_front}
use Rattle.mark_lines.specs.Unique.{marks_printed_unique}

-- The lines of the input were written into the buffer `old`, whole, and `count` is their length; what the buffer held behind them stays.
abbrev pub MarksShown : List ℕ → List ℕ → List ℕ → ℕ → Type 0
MarksShown = ShownBy MarksPrinted

-- The same of an input of which `size` bytes are in the room, whatever stood behind them.
abbrev pub MarksShownWhole : List ℕ → ℕ → List ℕ → List ℕ → ℕ → Type 0
MarksShownWhole = WholeBy MarksPrinted

-- The bytes kept decide the lines.
pub marks_shown_whole : {room old out : List ℕ} {size count : ℕ} → 30216 ≤ length room → size ≤ length room
    → MarksShown (take size room) old out count → MarksShownWhole room size old out count
marks_shown_whole enough within s = whole_by MarksPrinted (λ input output kept most p. marks_front kept most p) enough within s

-- The lines are one, and so is every byte of the buffer.
pub marks_shown_unique : {room old x y : List ℕ} {size n m : ℕ} → MarksShownWhole room size old x n → MarksShownWhole room size old y m
    → (n ≡ m) × (x ≡ y)
marks_shown_unique p q = whole_unique MarksPrinted (λ input a b x y. marks_printed_unique x y) p q

-- The refusal of an input's count or file is printed.
pub taken_refused : {input old_words old_tokens old_ticks words tokens ticks : List ℕ} {r : Refusal}
    → TakenApart input old_words old_tokens old_ticks (Err r) words tokens ticks → length old_words ≡ 2783
    → MarksPrinted input (refused_line (number_of r))
taken_refused (TakenApart.uncounted n) e = MarksPrinted.uncounted n
taken_refused {input} {words = words} {r = r} (TakenApart.unread c f) e =
    MarksPrinted.unread c (subst (λ (room : ℕ). FileRead (file_of input) room (refused r) words) e f)
