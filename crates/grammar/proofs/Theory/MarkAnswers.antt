-- What the repaired log in marks alone answers (`Marks` of Marks.antt) is one, and demand 1 of it. `Requests` states it first.
use Rattle.std.specs.Prelude.{ℕ, ◌≡◌, List, map, ◌↔◌, length}
use Rattle.std.proofs.Math.Path.{refl, subst}
use Rattle.std.proofs.Common.{sym, ap, ap₂, arith}
use Rattle.std.proofs.Math.Option.{none}
use Rattle.grammar.specs.Buffers.{filled, cleared}
use Rattle.grammar.specs.Moves.{Move}
use Rattle.grammar.specs.Run.{Asks, run_conditions, RunOf, Settled, counts_of, left}
use Rattle.grammar.specs.Marks.{Mark, MarksOf, Marks, MarksBy}
use Rattle.grammar.specs.Refusals.{Lowest, Outcome, given, refused}
use Rattle.grammar.specs.declared.Refusal.{Refusal}
use Rattle.grammar.specs.declared.Counts.{Counts}
use Rattle.grammar.proofs.Theory.Answered.{parses_unique}
use Rattle.grammar.specs.Theory.Due.{lowest_held}
use Rattle.grammar.proofs.Theory.Marking.{marks_one, run_of}
use Rattle.grammar.specs.Theory.Outcomes.{given_refused, given_same, refused_same}
use Rattle.grammar.proofs.Theory.Refused.{given_settled, parses_exactly, parses_zeros, parses_words}
use Rattle.grammar.specs.Theory.MarkAnswers.{MarksRefuse, MarksGive}

module _ {word_of : Mark → ℕ} {Asked : Asks} {ws log : List ℕ} {edit_room rule_room token_room : ℕ} where
  -- The answer and the three buffers are one.
  pub marks_unique : {a b : Outcome (Counts × ℕ)} {x y u v s t : List ℕ} → Marks word_of Asked ws log edit_room rule_room token_room a x u s
      → Marks word_of Asked ws log edit_room rule_room token_room b y v t → (a ≡ b) × (x ≡ y) × (u ≡ v) × (s ≡ t)
  marks_unique (MarksBy.unparsed p) (MarksBy.unparsed q) =
      let same = parses_unique p q in (ap refused (refused_same same.0), same.1, same.2, refl)
  marks_unique (MarksBy.unparsed p) (MarksBy.short q m l) = absurd (given_refused refl (sym (parses_unique p q).0))
  marks_unique (MarksBy.unparsed p) (MarksBy.whole q m l) = absurd (given_refused refl (sym (parses_unique p q).0))
  marks_unique (MarksBy.short p m l) (MarksBy.unparsed q) = absurd (given_refused refl (parses_unique p q).0)
  marks_unique (MarksBy.short p m l) (MarksBy.short q n k) = (refl, refl, refl, refl)
  marks_unique (MarksBy.short {xs = xs} p m l) (MarksBy.whole {xs = ys} q n k) =
      let same = given_same (parses_unique p q).0 in
      let one : xs ≡ ys = marks_one (subst (λ ms. MarksOf ws ms xs) same m) n in
      absurd (omega (arith, ap length one))
  marks_unique (MarksBy.whole p m l) (MarksBy.unparsed q) = absurd (given_refused refl (parses_unique p q).0)
  marks_unique (MarksBy.whole {xs = xs} p m l) (MarksBy.short {xs = ys} q n k) =
      let same = given_same (parses_unique p q).0 in
      let one : xs ≡ ys = marks_one (subst (λ ms. MarksOf ws ms xs) same m) n in
      absurd (omega (arith, ap length one))
  marks_unique (MarksBy.whole {ms = ms} {xs = xs} p m l) (MarksBy.whole {ms = ns} {xs = ys} q n k) =
      let both = parses_unique p q in
      let same = given_same both.0 in
      let one : xs ≡ ys = marks_one (subst (λ ms. MarksOf ws ms xs) same m) n in (
        ap₂ (λ a b. given (counts_of a, length b)) same one,
        both.1,
        both.2,
        ap (λ l. filled token_room (map word_of l)) one,
      )

  refused_as : {a : Outcome (Counts × ℕ)} {x u s : List ℕ} {q : Refusal} → Marks word_of Asked ws log edit_room rule_room token_room a x u s
      → a ≡ refused q → MarksRefuse Asked ws log edit_room rule_room token_room q
  refused_as (MarksBy.unparsed {r = r} p) e = MarksRefuse.parsing ((parses_exactly p _).0 (ap refused (refused_same e)))
  refused_as (MarksBy.short p m l) e =
      MarksRefuse.short (sym (refused_same e)) ((lowest_held (run_conditions ws log Asked)).0 (held_of p.settled)) (run_of p).1 m l
    where
      held_of : {ms : List Move} → Settled (run_conditions ws log Asked) (RunOf ws log edit_room rule_room) (given ms)
          → Lowest (run_conditions ws log Asked) none
      held_of (Settled.whole h r) = h
  refused_as (MarksBy.whole p m l) e = absurd (given_refused refl e)

  as_refused : {q : Refusal} → MarksRefuse Asked ws log edit_room rule_room token_room q
      → (x : List ℕ) × (u : List ℕ) × Marks word_of Asked ws log edit_room rule_room token_room (refused q) x u (cleared token_room)
  unfolding left
  as_refused (MarksRefuse.parsing g) =
      (cleared edit_room, cleared rule_room, MarksBy.unparsed (record { settled = given_settled g; leaves_edits = refl; leaves_rules = refl }))
  as_refused (MarksRefuse.short {ms = ms} e h r m l) = (
    cleared edit_room,
    cleared rule_room,
    subst (λ q. Marks word_of Asked ws log edit_room rule_room token_room (refused q) (cleared edit_room) (cleared rule_room) (cleared token_room))
        (sym e)
        (MarksBy.short
        (record { settled = Settled.whole ((lowest_held (run_conditions ws log Asked)).1 h) r; leaves_edits = refl; leaves_rules = refl }) m l),
  )

  module _ {a : Outcome (Counts × ℕ)} {x u s : List ℕ} (p : Marks word_of Asked ws log edit_room rule_room token_room a x u s) where
    -- A refusal is given exactly where it is due,
    pub marks_exactly : (q : Refusal) → (a ≡ refused q) ↔ MarksRefuse Asked ws log edit_room rule_room token_room q
    marks_exactly q = (λ e. refused_as p e, λ d. (marks_unique p (as_refused d).2).0)

  -- and leaves zeros.
  pub marks_zeros : {a : Outcome (Counts × ℕ)} {x u s : List ℕ} {q : Refusal}
      → Marks word_of Asked ws log edit_room rule_room token_room a x u s
      → a ≡ refused q → (x ≡ cleared edit_room) × (u ≡ cleared rule_room) × (s ≡ cleared token_room)
  marks_zeros (MarksBy.unparsed p) e = let z = parses_zeros p refl in (z.0, z.1, refl)
  marks_zeros (MarksBy.short p m l) e = (refl, refl, refl)
  marks_zeros (MarksBy.whole p m l) e = absurd (given_refused refl e)

  -- Else the buffers hold records, rule numbers and marks.
  pub marks_give : {a : Outcome (Counts × ℕ)} {x u s : List ℕ} {counts : Counts} {n : ℕ}
      → Marks word_of Asked ws log edit_room rule_room token_room a x u s → a ≡ given (counts, n)
      → MarksGive word_of ws log edit_room rule_room token_room x u s counts n
  marks_give (MarksBy.unparsed p) e = absurd (given_refused e refl)
  marks_give (MarksBy.short p m l) e = absurd (given_refused e refl)
  marks_give (MarksBy.whole {ms = ms} {xs = xs} p m l) e =
      let words = parses_words p refl in
      let run = run_of p in
      record {
        moves = ms;
        marks = xs;
        admitted = run.0;
        run = run.1;
        marked = m;
        counted = ap (λ (c : Counts × ℕ). c.0) (sym (given_same e));
        size = ap (λ (c : Counts × ℕ). c.1) (sym (given_same e));
        edit_words_lem = words.0;
        rule_words = words.1;
        mark_words = refl;
      }
