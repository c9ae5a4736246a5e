-- The answer, from what the parse says and what was put into the buffer.
use Rattle.std.specs.Prelude.{Option, Some, None, Result, Ok, Err}
use Prim.Native.Nat.{ℕ, ◌+◌, ◌-◌, ◌*◌, ◌≤◌, ◌<◌}
use mathlib.Core.Path.{◌≡◌, refl, sym, ap, ap₂, subst, subst₂, ◌∙◌}
use mathlib.Core.List.{List, [], ◌∷◌, ◌++◌, map, Memᴰ}
use mathlib.Core.Option.{none}
use native.Mathlib.Omega.{arith}
use lib.ListN.{length, get_or, take, drop, replicate, length-append, length-map}
use lib.Seq.{take_at}
use Rattle.base.specs.Written.{written, written_length}
use Rattle.grammar.specs.Words.{END}
use Rattle.grammar.specs.Buffers.{filled, cleared}
use Rattle.grammar.specs.Moves.{Move, edits, edit_words}
use Rattle.grammar.specs.Marks.{Mark, token_of, MarksOf, Marks, MarksAnswer, MarksBy}
use Rattle.grammar.specs.Run.{Asks, only10, RunOf, Parses, ParsedAsking, counts_of}
use Rattle.grammar.specs.Refusals.{Outcome, given, refused, outcome_of}
use Rattle.grammar.specs.declared.Refusal.{Refusal}
use Rattle.grammar.specs.declared.Refusal.TheVariants.{ShortTokens}
use Rattle.grammar.specs.declared.Counts.{Counts}
use Rattle.grammar.specs.Theory.Answered.{Admitted}
use Rattle.grammar.proofs.Theory.Answered.{log_tokens, parses_asking}
use Rattle.grammar.proofs.Theory.Folds.{edit_words_length}
use Rattle.grammar.proofs.Theory.Marking.{run_of, known_repaired, marks_exist, marks_kept}
use Rattle.grammar.proofs.Theory.Places.{walk_run}
use Rattle.grammar.proofs.Theory.Refused.{answered_given, answered_refused, parses_words}
use Rattle.parser.specs.Parses.{CheapWhere, cheap_where}
use Rattle.marks.specs.Answer.{word_by, Named, PutOf}
use Rattle.marks.specs.Marking.{CanPut, PutAs, Ran}
use Rattle.marks.specs.Restored.{ahead_log}

-- ---- Buffers

-- A buffer cleared from its first word on.
pub cleared_all : (before : List ℕ) {after : List ℕ} {room : ℕ} → length before ≡ room
    → after ≡ take 0 before ++ replicate (length before - 0) 0
    → after ≡ cleared room
unfolding cleared
cleared_all before {after} {room} e f =
    let all : length before - 0 ≡ room = omega arith in
    f ∙ ap (λ (n : ℕ). replicate n 0) all

-- A buffer cleared behind a list in front of it.
filled_front : (old new : List ℕ) {before after : List ℕ} {size : ℕ} → before ≡ written old 0 new → length new ≤ length old
    → size ≡ length new
    → after ≡ take size before ++ replicate (length before - size) 0 → after ≡ filled (length old) new
unfolding filled written
filled_front old new {before} {after} {size} e l s f =
    let same : length before ≡ length old = ap length e ∙ written_length old 0 new (omega arith) in
    let front : take size before ≡ new =
    ap₂ (λ n t. take n t) s e ∙ take_at new (drop (0 + length new) old) (length new) refl in
    let rest : length before - size ≡ length old - length new = omega arith in
    f ∙ ap₂ (λ (a : List ℕ) (n : ℕ). a ++ replicate n 0) front rest

filled_length : (room : ℕ) (ws : List ℕ) → length ws ≤ length (filled room ws)
unfolding filled
filled_length room ws = simp length-append (omega arith)

filled_begins : (room : ℕ) (l : List ℕ) → take (length l) (filled room l) ≡ l
unfolding filled
filled_begins room l = take_at l (replicate (room - length l) 0) (length l) refl

-- ---- Where the parse answers with counts

-- The run, as the edit buffer has it.
record Parse (Asked : Asks) (ws log : List ℕ) (edit_room rule_room : ℕ) (counts : Counts) (es rs : List ℕ) : Type 0 where
  moves : List Move
  parses : Parses Asked ws log edit_room rule_room (given moves) es rs
  counted : counts ≡ counts_of moves

module _ {Asked : Asks} {ws log : List ℕ} {edit_room rule_room : ℕ} {es rs : List ℕ} {a : Result Counts Refusal}
    (p : ParsedAsking Asked ws log edit_room rule_room (outcome_of a) es rs) where
  parse_of : {counts : Counts} → a ≡ Ok counts → Parse Asked ws log edit_room rule_room counts es rs
  parse_of {counts} e =
      let m = answered_given p.outcome (sym (ap outcome_of e) ∙ p.answers) in
      record {
        moves = m.0;
        parses = subst (λ o. Parses Asked ws log edit_room rule_room o es rs) m.1 p.parses;
        counted = m.2;
      }

  -- A refusal of the parse is the answer.
  pub marks_unparsed : {word_of : Mark → ℕ} {r : Refusal} (before : List ℕ) {after : List ℕ} {room : ℕ} → a ≡ Err r
      → length before ≡ room
      → after ≡ take 0 before ++ replicate (length before - 0) 0
      → Marks word_of Asked ws log edit_room rule_room room (outcome_of {A = Counts × ℕ} (Err r)) es rs after
  marks_unparsed {word_of} {r} before {after} {room} e same f =
      let told : outcome_of a ≡ refused r = ap outcome_of e in
      let out = (answered_refused r p.answers).0 told in
      subst (λ t. Marks word_of Asked ws log edit_room rule_room room (refused r) es rs t) (sym (cleared_all before same f))
      (MarksBy.unparsed (subst (λ o. Parses Asked ws log edit_room rule_room o es rs) out p.parses))

  module _ {counts : Counts} (told : a ≡ Ok counts) where
    parse : Parse Asked ws log edit_room rule_room counts es rs
    parse = parse_of told

    abbrev ms : List Move
    ms = parse.moves

    admitted : Admitted ws log
    admitted = (run_of parse.parses).0

    run : RunOf ws log edit_room rule_room ms none
    run = (run_of parse.parses).1

    records : counts.records ≡ length (edits ms)
    records = ap (λ (c : Counts). c.records) parse.counted

    listed : es ≡ filled edit_room (edit_words (edits ms))
    listed = (parses_words parse.parses refl).0

    ran : (kept : List ℕ) → length kept ≡ length log → Ran ws es counts.records (length kept) ms
    ran kept same =
        record {
          ahead = log ++ (END ∷ []);
          tokens = ahead_log (length kept) 0 (log_tokens admitted) (omega arith);
          walk = walk_run log run;
          known = known_repaired admitted run;
          front =
              ap₂ (λ n t. take n t) (ap (λ (n : ℕ). 3 * n) records ∙ sym (edit_words_length (edits ms))) listed
              ∙ filled_begins edit_room (edit_words (edits ms));
        }

    pub marks_can_put : {prices sides kept : List ℕ} {raise : ℕ} → CheapWhere ws prices sides a → Named log kept raise
        → CanPut ws prices sides es counts.records kept raise
    marks_can_put {prices} {sides} {kept} cheap named =
        record {
          accepted = admitted.words;
          cheap = cheap_where ws prices sides cheap told;
          words =
              omega (arith, records, ap length listed, filled_length edit_room (edit_words (edits ms)), edit_words_length (edits ms));
          small = named.small;
          moves = ms;
          ran = ran kept named.each;
        }

    abbrev xs : List Mark
    xs = (marks_exist admitted run).0

    marked : MarksOf ws ms xs
    marked = (marks_exist admitted run).1

    module _ {kept : List ℕ} {raise : ℕ} {old tokens : List ℕ} {r : Option ℕ} (named : Named log kept raise)
        (put : PutAs ws es counts.records kept raise old tokens r) where
      puts : {q : Option ℕ} → r ≡ q → PutOf (map (word_by kept raise) xs) old tokens q
      puts {q} e =
          subst (λ x. PutOf (map (word_by kept raise) xs) old tokens x) e (put.puts ms xs (ran kept named.each) marked)

      size : length (map (word_by kept raise) xs) ≡ length xs
      size = length-map xs (word_by kept raise)

      -- The whole result.
      pub marks_whole : {after : List ℕ} {n : ℕ} → r ≡ Some n → after ≡ take n tokens ++ replicate (length tokens - n) 0
          → Marks (word_by kept raise) Asked ws log edit_room rule_room (length old) (outcome_of (Ok (counts, n))) es rs after
      unfolding PutOf
      marks_whole {after} {n} e f =
          let h = puts e in
          let answer : ◌≡◌ {A = Outcome (Counts × ℕ)} (given (counts_of ms, length xs)) (given (counts, n)) =
          ap₂ (λ c k. given (c, k)) (sym parse.counted) (sym (h.0 ∙ size)) in
          subst₂ (λ o t. Marks (word_by kept raise) Asked ws log edit_room rule_room (length old) o es rs t) answer
          (sym (filled_front old (map (word_by kept raise) xs) h.2 h.1 h.0 f))
          (MarksBy.whole parse.parses marked (omega (arith, size, h.1)))

      -- It does not fit: refusal 15.
      pub marks_short : {edits' rules' tokens' : List ℕ} → r ≡ None → length es ≡ edit_room → length rs ≡ rule_room
          → length tokens ≡ length old → edits' ≡ take 0 es ++ replicate (length es - 0) 0
          → rules' ≡ take 0 rs ++ replicate (length rs - 0) 0 → tokens' ≡ take 0 tokens ++ replicate (length tokens - 0) 0
          → Marks (word_by kept raise) Asked ws log edit_room rule_room (length old) (outcome_of {A = Counts × ℕ} (Err ShortTokens)) edits' rules' tokens'
      unfolding PutOf
      marks_short {edits'} {rules'} {tokens'} e same-edits same-rules same-tokens f g h =
          let over = puts e in
          let more : length old < length xs = omega (arith, size, over) in
          let blank : Marks (word_by kept raise) Asked ws log edit_room rule_room (length old) (refused ShortTokens) (cleared edit_room)
          (cleared rule_room) (cleared (length old)) = MarksBy.short parse.parses marked more in
          subst
          (λ t. Marks (word_by kept raise) Asked ws log edit_room rule_room (length old) (refused ShortTokens) edits' rules' t)
          (sym (cleared_all tokens same-tokens h))
          (subst₂
          (λ x u. Marks (word_by kept raise) Asked ws log edit_room rule_room (length old) (refused ShortTokens) x u (cleared (length old)))
          (sym (cleared_all es same-edits f)) (sym (cleared_all rs same-rules g)) blank)

-- ---- A token stands for its mark

same_words : (log : List ℕ) (xs : List Mark) → ((p t : ℕ) → Memᴰ (Mark.kept p t) xs → get_or log p 0 ≡ t)
    → map (word_by log 0) xs ≡ map token_of xs
unfolding word_by token_of
same_words log [] f = refl
same_words log (Mark.kept p t ∷ xs) f =
    ap₂ (λ x l. x ∷ l) (f p t (Memᴰ.head refl)) (same_words log xs (λ q u m. f q u (Memᴰ.tail m)))
same_words log (Mark.added t ∷ xs) f =
    let same : t + 0 ≡ t = omega arith in
    ap₂ (λ x l. x ∷ l) same (same_words log xs (λ q u m. f q u (Memᴰ.tail m)))

-- So where the log itself stands for its places and nothing is raised, the result is the tokens; and what is asked holds.
pub marks_plain : {P : Type 0} {ws log : List ℕ} {edit_room rule_room token_room : ℕ} {a : Outcome (Counts × ℕ)} {x u s : List ℕ} → P
    → Marks (word_by log 0) (only10 P) ws log edit_room rule_room token_room a x u s → MarksAnswer ws log edit_room rule_room token_room a x u s
marks_plain held (MarksBy.unparsed p) = MarksBy.unparsed (parses_asking (λ q. tt) (λ q. held) (λ q l. l) p)
marks_plain held (MarksBy.short p m l) = MarksBy.short (parses_asking (λ q. tt) (λ q. held) (λ q l. l) p) m l
marks_plain {ws = ws} {log = log} {edit_room = edit_room} {rule_room = rule_room} {token_room = token_room} held
    (MarksBy.whole {ms = ms} {xs = xs} {es = es} {rs = rs} p m l) =
    subst
    (λ t. MarksAnswer ws log edit_room rule_room token_room (given (counts_of ms, length xs)) es rs (filled token_room t))
    (sym (same_words log xs (λ q u k. (marks_kept p m q u k).1)))
    (MarksBy.whole (parses_asking (λ q. tt) (λ q. held) (λ q l. l) p) m l)
