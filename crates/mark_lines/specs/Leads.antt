-- How the answer of the repaired log leads to the lines of the input.
use Rattle.std.specs.Prelude.{ℕ, ◌≤◌, ◌<◌, Bool, true, ◌≡◌, List, map, eqb, length, take, get_or}
use Rattle.std.proofs.Common.{arith, sym, ap, ◌∙◌, subst, subst₂, eqb-true, eq-eqb, length-append}
use Rattle.std.proofs.lemmas.List.{length-map}
use Rattle.grammar.specs.Buffers.{filled}
use Rattle.grammar.specs.Moves.{Move}
use Rattle.grammar.specs.Marks.{Mark, Marks, MarksOf, MarksBy}
use Rattle.grammar.specs.MarkLines.{MarksPrinted, mark_listing}
use Rattle.grammar.specs.Run.{Asks, only10, Parses}
use Rattle.grammar.specs.Refusals.{Outcome, given, refused, number_of}
use Rattle.grammar.specs.Listing.{refused_line, tokens_of, ticks_of}
use Rattle.grammar.specs.declared.Counts.{Counts}
use Rattle.grammar.specs.declared.Refusal.{Refusal}
use Rattle.grammar.proofs.Theory.Answered.{parses_asking}
use Rattle.grammar.specs.Theory.Fills.{front_of}
use Rattle.grammar.proofs.Theory.Marking.{marks_kept}
use Rattle.listing.specs.Enough.{parses_front, parsed_held}
use Rattle.listing.specs.Leads.{Kept, all_ticks, fewer_ticks}
use Rattle.marks.specs.Answer.{word_by}
use Rattle.mark_lines.specs.Told.{Placed, all_placed, all_told, marks_in}

-- The answer is the one told.
pub marks_told : {word_of : Mark → ℕ} {Asked : Asks} {ws log es rs ts : List ℕ} {edit_room rule_room token_room : ℕ}
    {a b : Outcome (Counts × ℕ)} → Marks word_of Asked ws log edit_room rule_room token_room a es rs ts → a ≡ b
    → Marks word_of Asked ws log edit_room rule_room token_room b es rs ts
marks_told {word_of} {Asked} {ws} {log} {es} {rs} {ts} {edit_room} {rule_room} {token_room} p e =
    subst (λ o. Marks word_of Asked ws log edit_room rule_room token_room o es rs ts) e p

-- The front of a buffer that marks fill: what stands for them.
front_marks : (word_of : Mark → ℕ) (room : ℕ) (xs : List Mark) → take (length xs) (filled room (map word_of xs)) ≡ map word_of xs
front_marks word_of room xs =
    ap (λ n. take n (filled room (map word_of xs))) (sym (length-map xs word_of)) ∙ front_of room (map word_of xs)

-- As many words as are told stand in the buffer.
pub marks_part : {word_of : Mark → ℕ} {Asked : Asks} {ws log es rs : List ℕ} {edit_room rule_room token_room : ℕ} {ts : List ℕ} {counts : Counts}
    {n : ℕ} → Marks word_of Asked ws log edit_room rule_room token_room (given (counts, n)) es rs ts → n ≤ length ts
unfolding filled
marks_part {word_of} (MarksBy.whole {xs = xs} p m l) = simp length-append (omega (arith, length-map xs word_of))

-- They are no more than the buffer has room for.
pub marks_few : {word_of : Mark → ℕ} {Asked : Asks} {ws log es rs : List ℕ} {edit_room rule_room token_room : ℕ} {ts : List ℕ} {counts : Counts}
    {n : ℕ} → Marks word_of Asked ws log edit_room rule_room token_room (given (counts, n)) es rs ts → n ≤ token_room
marks_few (MarksBy.whole p m l) = l

-- ---- Of what is kept of an input, where as many ticks as tokens are asked for

module _ {input words log ticks : List ℕ} {asked : Bool} (k : Kept input words log ticks)
    (timed : asked ≡ eqb (length ticks) (length log)) where
  -- The parse of what is kept is the parse of all of it.
  whole_parse : {o : Outcome (List Move)} {es rs : List ℕ} → Parses (only10 (asked ≡ true)) words log 24576 16384 o es rs
      → Parses (only10 (length (ticks_of input) ≡ length (tokens_of input))) (take k.file.count k.file.buffer) (tokens_of input)
      24576 16384 o es rs
  whole_parse {o} {es} {rs} p =
      let same =
      parses_asking (λ e. eqb-true (length ticks) (length log) (sym timed ∙ e)) (λ e. timed ∙ eq-eqb (length ticks) (length log) e)
      (λ q l. l) p in
      let ws : List ℕ = take k.file.count k.file.buffer in
      let front : List ℕ = take k.room (tokens_of input) in
      parses_front k.room (ticks_of input) k.enough (fewer_ticks input)
      (subst (λ t. Parses (only10 (length t ≡ length front)) ws front 24576 16384 o es rs) k.times
      (subst (λ l. Parses (only10 (length ticks ≡ length l)) ws l 24576 16384 o es rs) k.tokens
      (subst (λ w. Parses (only10 (length ticks ≡ length log)) w log 24576 16384 o es rs) k.file.front same)))

  whole_marks : {ms : List Move} {xs : List Mark} → MarksOf words ms xs → MarksOf (take k.file.count k.file.buffer) ms xs
  whole_marks {ms} {xs} m = subst (λ w. MarksOf w ms xs) k.file.front m

  -- A refusal, 15 among them, is printed.
  pub marks_refused : {word_of : Mark → ℕ} {es rs ts : List ℕ} {r : Refusal}
      → Marks word_of (only10 (asked ≡ true)) words log 24576 16384 65536 (refused r) es rs ts
      → MarksPrinted input (refused_line (number_of r))
  marks_refused (MarksBy.unparsed p) = MarksPrinted.unparsed k.counted k.file.read (whole_parse p)
  marks_refused (MarksBy.short p m l) = MarksPrinted.beyond k.counted k.file.read (whole_parse p) (whole_marks m) l

  -- Where each place has its own number, the words that are left tell the marks,
  module _ (places : List ℕ) (named : (p : ℕ) → p < length log → get_or places p 0 ≡ p) where
    pub marks_printed : {es rs ts : List ℕ} {counts : Counts} {n : ℕ}
        → Marks (word_by places 4096) (only10 (asked ≡ true)) words log 24576 16384 65536 (given (counts, n)) es rs ts
        → MarksPrinted input (mark_listing ticks (marks_in log (take n ts)))
    marks_printed (MarksBy.whole {xs = xs} p m l) =
        let short = (parsed_held p).0.count in
        let told = ap (marks_in log) (front_marks (word_by places 4096) 65536 xs) ∙ all_told log places short named xs (marks_kept p m) in
        subst₂ (λ ticks xs. MarksPrinted input (mark_listing ticks xs)) (sym (all_ticks k short)) (sym told)
        (MarksPrinted.printed k.counted k.file.read (whole_parse p) (whole_marks m) l)

    -- and each below 4,096 is a place, with its tick.
    pub marks_placed : {es rs ts : List ℕ} {counts : Counts} {n : ℕ}
        → Marks (word_by places 4096) (only10 (asked ≡ true)) words log 24576 16384 65536 (given (counts, n)) es rs ts
        → Placed (take n ts) log ticks
    marks_placed (MarksBy.whole {xs = xs} p m l) =
        subst (λ ws. Placed ws log ticks) (sym (front_marks (word_by places 4096) 65536 xs))
        (record {
          place = all_placed log places (parsed_held p).0.count named xs (marks_kept p m);
          timed = eqb-true (length ticks) (length log) (sym timed ∙ (parsed_held p).1);
        })
