-- An input has one listing: two outputs that `Printed` allows are equal. So are the answers of the functions, with every byte of their
-- buffers.
use Rattle.std.specs.Prelude.{ℕ, ◌≤◌, ◌≡◌, refl, List, ◌++◌, length, take, drop, Result, Err}
use Rattle.std.proofs.Common.{arith, sym, ap, ap₂, ◌∙◌, subst, take-append-drop, take_all, length-take-le}
use Rattle.grammar.specs.File.{FileRead}
use Rattle.grammar.specs.Moves.{Move, edits}
use Rattle.grammar.specs.Run.{Parses}
use Rattle.grammar.specs.Words.{tick_unit}
use Rattle.grammar.specs.Pace.{timed, Reported}
use Rattle.grammar.specs.Refusals.{Outcome, given, refused, number_of, outcome_of}
use Rattle.grammar.specs.Theory.Outcomes.{given_refused, given_same, refused_same, outcome_same}
use Rattle.grammar.specs.Listing.{Printed, refused_line, listing, tokens_of}
use Rattle.grammar.specs.declared.Counts.{Counts}
use Rattle.grammar.specs.declared.Refusal.{Refusal}
use Rattle.grammar.specs.declared.Report.{Report}
use Rattle.listing.specs.declared.input.Parts.{Parts}
use Rattle.listing.specs.Answer.{Appends, InputCounted, TakenApart, Wrote}
use Rattle.grammar.proofs.Theory.Answered.{parses_unique}
use Rattle.grammar.proofs.Theory.Sentences.{file_read_unique, reported_unique}

-- Two readings of one file give the same words.
pub same_words : {bytes x y : List ℕ} {n m : ℕ} → FileRead bytes 2783 (given n) x → FileRead bytes 2783 (given m) y → take n x ≡ take m y
same_words p q = let same = file_read_unique p q in cc (given_same same.0, same.1)

pub read_or_refused : {A : Type 0} {bytes x y : List ℕ} {room n : ℕ} {r : Refusal} → FileRead bytes room (given n) x
    → FileRead bytes room (refused r) y → A
read_or_refused p q = absurd (given_refused refl (file_read_unique p q).0)

-- Two reports on the same words, tokens and ticks.
module _ {ws vs log ticks x y u v : List ℕ} {edit_room rule_room : ℕ} {a b : Outcome (Report × Counts)} (same : ws ≡ vs)
    (p : Reported ws log ticks edit_room rule_room a x u) (q : Reported vs log ticks edit_room rule_room b y v) where
  same_answer : a ≡ b
  same_answer = (reported_unique p (subst (λ ws. Reported ws log ticks edit_room rule_room b y v) (sym same) q)).0

  same_moves : {ms ns : List Move} → p.outcome ≡ given ms → q.outcome ≡ given ns → ms ≡ ns
  same_moves e f =
      let other =
      subst (λ ws. Parses (timed (tick_unit ws) log ticks) ws log edit_room rule_room q.outcome y v) (sym same) q.parses in
      given_same (sym e ∙ ((parses_unique p.parses other).0 ∙ f))

counted_unique : {input : List ℕ} {o q : Outcome ℕ} → InputCounted input o → InputCounted input q → o ≡ q
counted_unique (InputCounted.counted c) (InputCounted.counted d) = refl
counted_unique (InputCounted.counted c) (InputCounted.uncounted n) = absurd (n c)
counted_unique (InputCounted.uncounted n) (InputCounted.counted c) = absurd (n c)
counted_unique (InputCounted.uncounted n) (InputCounted.uncounted m) = refl

pub printed_unique : {input a b : List ℕ} → Printed input a → Printed input b → a ≡ b
printed_unique (Printed.uncounted n) (Printed.uncounted m) = refl
printed_unique (Printed.uncounted n) (Printed.unread c f) = absurd (n c)
printed_unique (Printed.uncounted n) (Printed.unreported c f p) = absurd (n c)
printed_unique (Printed.uncounted n) (Printed.listed c f p e) = absurd (n c)
printed_unique (Printed.unread c f) (Printed.uncounted n) = absurd (n c)
printed_unique (Printed.unread c f) (Printed.unread d g) = ap (λ r. refused_line (number_of r)) (refused_same (file_read_unique f g).0)
printed_unique (Printed.unread c f) (Printed.unreported d g p) = read_or_refused g f
printed_unique (Printed.unread c f) (Printed.listed d g p e) = read_or_refused g f
printed_unique (Printed.unreported c f p) (Printed.uncounted n) = absurd (n c)
printed_unique (Printed.unreported c f p) (Printed.unread d g) = read_or_refused f g
printed_unique (Printed.unreported c f p) (Printed.unreported d g q) =
    ap (λ r. refused_line (number_of r)) (refused_same (same_answer (same_words f g) p q))
printed_unique (Printed.unreported c f p) (Printed.listed d g q e) =
    absurd (given_refused refl (sym (same_answer (same_words f g) p q)))
printed_unique (Printed.listed c f p e) (Printed.uncounted n) = absurd (n c)
printed_unique (Printed.listed c f p e) (Printed.unread d g) = read_or_refused f g
printed_unique (Printed.listed c f p e) (Printed.unreported d g q) =
    absurd (given_refused refl (same_answer (same_words f g) p q))
printed_unique {input} (Printed.listed c f p e) (Printed.listed d g q h) =
    let same = same_words f g in
    ap₂ (λ ms x. listing (length (tokens_of input)) x.1 (edits ms) x.0) (same_moves same p q e h)
    (given_same (same_answer same p q))

-- ---- The functions

-- Where the blocks end.
pub blocks_unique : {input : List ℕ} (a b : Result ℕ Refusal) → InputCounted input (outcome_of a) → InputCounted input (outcome_of b) → a ≡ b
blocks_unique a b p q = outcome_same a b (counted_unique p q)

-- What was written from the front on: tokens, ticks, lines.
pub wrote_unique : {old new x y : List ℕ} {n m : ℕ} → Wrote old new x n → Wrote old new y m → (n ≡ m) × (x ≡ y)
wrote_unique {old} {new} p q =
    let same = p.number ∙ sym q.number in
    (same, p.holds ∙ (ap (λ k. take (length old) new ++ drop k old) same ∙ sym q.holds))

-- An input taken apart: the answer and the three buffers.
pub taken_unique : {input old_words old_tokens old_ticks x y z u v w : List ℕ} {a b : Result Parts Refusal}
    → TakenApart input old_words old_tokens old_ticks a x y z → TakenApart input old_words old_tokens old_ticks b u v w
    → (a ≡ b) × ((x ≡ u) × ((y ≡ v) × (z ≡ w)))
taken_unique (TakenApart.uncounted n) (TakenApart.uncounted m) = (refl, (refl, (refl, refl)))
taken_unique (TakenApart.uncounted n) (TakenApart.unread c f) = absurd (n c)
taken_unique (TakenApart.uncounted n) (TakenApart.apart c f p q) = absurd (n c)
taken_unique (TakenApart.unread c f) (TakenApart.uncounted n) = absurd (n c)
taken_unique (TakenApart.unread c f) (TakenApart.unread d g) =
    let same = file_read_unique f g in
    (ap (λ r. Err r) (refused_same same.0), (same.1, (refl, refl)))
taken_unique (TakenApart.unread c f) (TakenApart.apart d g p q) = read_or_refused g f
taken_unique (TakenApart.apart c f p q) (TakenApart.uncounted n) = absurd (n c)
taken_unique (TakenApart.apart c f p q) (TakenApart.unread d g) = read_or_refused f g
taken_unique (TakenApart.apart c f p q) (TakenApart.apart d g r s) =
    let same = file_read_unique f g in
    let tokens = wrote_unique p r in
    let ticks = wrote_unique q s in
    (cc (given_same same.0, tokens.0, ticks.0), (same.1, (tokens.1, ticks.1)))

-- What was written behind other bytes.
pub appends_unique : {before new x y : List ℕ} {at n m : ℕ} → at ≤ length before → Appends before at new x n
    → Appends before at new y m → (n ≡ m) × (x ≡ y)
appends_unique {before} {at = at} l p q = wrote_unique (p.goes before (take at before) front) (q.goes before (take at before) front)
  where
    small : take (length before) (take at before) ≡ take at before
    small = take_all (length before) (take at before) (omega (arith, length-take-le at before l))

    front : Wrote before (take at before) before at
    front =
        record {
          number = sym (ap length small ∙ length-take-le at before l);
          holds = sym (ap (λ t. t ++ drop at before) small ∙ take-append-drop at before);
        }
