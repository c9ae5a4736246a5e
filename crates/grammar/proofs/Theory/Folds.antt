-- What a list of moves leaves, move list by move list: the repaired log, the tokens passed and the edits of moves one behind
-- another, and of a correction's deletes, drops and inserts.
use Rattle.std.specs.Prelude.{ℕ, zero, suc, ◌+◌, ◌*◌, ◌≤◌, ◌≡◌, refl, List, [], ◌∷◌, ◌++◌, length, take, drop}
use Rattle.std.proofs.Common.{sym, ap, ◌∙◌, append_assoc, append-nil, arith, length-append}
use Rattle.grammar.specs.Moves.{Move, Edit, edits, edit_words, rule_numbers, log_token, repaired, passed, placed}
use Rattle.grammar.specs.Run.{Pop, deletes, pops}
use Rattle.grammar.specs.Theory.Folds.{missing_of}

-- ---- The repaired log

-- Of moves one behind another the repaired logs stand one behind another.
pub repaired_append : (ms ns : List Move) → repaired (ms ++ ns) ≡ repaired ms ++ repaired ns
unfolding repaired
repaired_append [] ns = refl
repaired_append (Move.match p t ∷ ms) ns =
    ap (λ l. log_token t ++ l) (repaired_append ms ns) ∙ sym (append_assoc (log_token t) (repaired ms) (repaired ns))
repaired_append (Move.expand q ∷ ms) ns = repaired_append ms ns
repaired_append (Move.drop X ∷ ms) ns = repaired_append ms ns
repaired_append (Move.delete p t ∷ ms) ns = repaired_append ms ns
repaired_append (Move.insert p X ∷ ms) ns = ap (λ l. X ∷ l) (repaired_append ms ns)

repaired_deletes : (p : ℕ) (ts : List ℕ) → repaired (deletes p ts) ≡ []
unfolding repaired deletes
repaired_deletes p [] = refl
repaired_deletes p (t ∷ ts) = repaired_deletes (p + 1) ts

repaired_pops : (r : ℕ) (ps : List Pop) → repaired (pops r ps) ≡ missing_of ps
unfolding repaired pops missing_of
repaired_pops r [] = refl
repaired_pops r (Pop.dropped X ∷ ps) = repaired_pops r ps
repaired_pops r (Pop.inserted X ∷ ps) = ap (λ l. X ∷ l) (repaired_pops r ps)

-- A correction leaves the symbols that it inserts.
pub repaired_correction : (p r : ℕ) (ts : List ℕ) (ps : List Pop) (ms : List Move)
    → repaired ((deletes p ts ++ pops r ps) ++ ms) ≡ missing_of ps ++ repaired ms
repaired_correction p r ts ps ms =
    let e : repaired (deletes p ts ++ pops r ps) ≡ missing_of ps =
    cc (repaired_append (deletes p ts) (pops r ps), repaired_deletes p ts, repaired_pops r ps) in
    repaired_append (deletes p ts ++ pops r ps) ms ∙ ap (λ l. l ++ repaired ms) e

-- A token of the log leaves itself, END nothing.
pub log_token_lem : (t : ℕ) → 1 ≤ t → log_token t ≡ t ∷ []
unfolding log_token
log_token_lem zero l = absurd (omega arith)
log_token_lem (suc t) l = refl

-- ---- The tokens passed

-- Of moves one behind another the tokens passed stand one behind another.
pub passed_append : (ms ns : List Move) → passed (ms ++ ns) ≡ passed ms ++ passed ns
unfolding passed
passed_append [] ns = refl
passed_append (Move.match p t ∷ ms) ns = ap (λ l. record { place = p; token = t } ∷ l) (passed_append ms ns)
passed_append (Move.expand q ∷ ms) ns = passed_append ms ns
passed_append (Move.drop X ∷ ms) ns = passed_append ms ns
passed_append (Move.delete p t ∷ ms) ns = ap (λ l. record { place = p; token = t } ∷ l) (passed_append ms ns)
passed_append (Move.insert p X ∷ ms) ns = passed_append ms ns

passed_deletes : (p : ℕ) (ts : List ℕ) → passed (deletes p ts) ≡ placed p ts
unfolding passed deletes placed
passed_deletes p [] = refl
passed_deletes p (t ∷ ts) = ap (λ l. record { place = p; token = t } ∷ l) (passed_deletes (p + 1) ts)

passed_pops : (r : ℕ) (ps : List Pop) → passed (pops r ps) ≡ []
unfolding passed pops
passed_pops r [] = refl
passed_pops r (Pop.dropped X ∷ ps) = passed_pops r ps
passed_pops r (Pop.inserted X ∷ ps) = passed_pops r ps

-- A correction passes the tokens that it deletes.
pub passed_correction : (p r : ℕ) (ts : List ℕ) (ps : List Pop) (ms : List Move)
    → passed ((deletes p ts ++ pops r ps) ++ ms) ≡ placed p ts ++ passed ms
passed_correction p r ts ps ms =
    let e : passed (deletes p ts ++ pops r ps) ≡ placed p ts =
    cc (passed_append (deletes p ts) (pops r ps), passed_deletes p ts, passed_pops r ps, append-nil (placed p ts)) in
    passed_append (deletes p ts ++ pops r ps) ms ∙ ap (λ l. l ++ passed ms) e

-- The tokens of a list, with their places, are those of its first j and those behind.
pub placed_split : (p j : ℕ) (ts : List ℕ) → j ≤ length ts → placed p (take j ts) ++ placed (p + j) (drop j ts) ≡ placed p ts
unfolding placed
placed_split p zero ts l = ap (λ q. placed q ts) (omega arith)
placed_split p (suc j) [] l = absurd (omega arith)
placed_split p (suc j) (t ∷ ts) l =
    ap (λ r. record { place = p; token = t } ∷ r)
    (ap (λ q. placed (p + 1) (take j ts) ++ placed q (drop j ts)) (omega arith) ∙ placed_split (p + 1) j ts (omega arith))

-- ---- The edits and the rule numbers

-- Of moves one behind another the edits stand one behind another.
pub edits_append : (ms ns : List Move) → edits (ms ++ ns) ≡ edits ms ++ edits ns
unfolding edits
edits_append [] ns = refl
edits_append (Move.match p t ∷ ms) ns = edits_append ms ns
edits_append (Move.expand q ∷ ms) ns = edits_append ms ns
edits_append (Move.drop X ∷ ms) ns = edits_append ms ns
edits_append (Move.delete p t ∷ ms) ns = ap (λ l. record { kind = 1; place = p; symbol = t } ∷ l) (edits_append ms ns)
edits_append (Move.insert p X ∷ ms) ns = ap (λ l. record { kind = 2; place = p; symbol = X } ∷ l) (edits_append ms ns)

edits_deletes : (p : ℕ) (ts : List ℕ) → length (edits (deletes p ts)) ≡ length ts
unfolding edits deletes
edits_deletes p [] = refl
edits_deletes p (t ∷ ts) = ap suc (edits_deletes (p + 1) ts)

edits_pops : (r : ℕ) (ps : List Pop) → length (edits (pops r ps)) ≡ length (missing_of ps)
unfolding edits pops missing_of
edits_pops r [] = refl
edits_pops r (Pop.dropped X ∷ ps) = edits_pops r ps
edits_pops r (Pop.inserted X ∷ ps) = ap suc (edits_pops r ps)

-- A correction lists a record for each token that it deletes and each symbol that it inserts, none for a symbol that it drops,
pub edits_correction : (p r : ℕ) (ts : List ℕ) (ps : List Pop) (ms : List Move)
    → length (edits ((deletes p ts ++ pops r ps) ++ ms)) ≡ length ts + length (missing_of ps) + length (edits ms)
edits_correction p r ts ps ms =
    omega (
      arith,
      ap length (edits_append (deletes p ts ++ pops r ps) ms),
      length-append (edits (deletes p ts ++ pops r ps)) (edits ms),
      ap length (edits_append (deletes p ts) (pops r ps)),
      length-append (edits (deletes p ts)) (edits (pops r ps)),
      edits_deletes p ts,
      edits_pops r ps,
    )

-- Of moves one behind another the rule numbers stand one behind another.
pub rules_append : (ms ns : List Move) → rule_numbers (ms ++ ns) ≡ rule_numbers ms ++ rule_numbers ns
unfolding rule_numbers
rules_append [] ns = refl
rules_append (Move.match p t ∷ ms) ns = rules_append ms ns
rules_append (Move.expand q ∷ ms) ns = ap (λ l. q ∷ l) (rules_append ms ns)
rules_append (Move.drop X ∷ ms) ns = rules_append ms ns
rules_append (Move.delete p t ∷ ms) ns = rules_append ms ns
rules_append (Move.insert p X ∷ ms) ns = rules_append ms ns

rules_deletes : (p : ℕ) (ts : List ℕ) → rule_numbers (deletes p ts) ≡ []
unfolding rule_numbers deletes
rules_deletes p [] = refl
rules_deletes p (t ∷ ts) = rules_deletes (p + 1) ts

rules_pops : (r : ℕ) (ps : List Pop) → rule_numbers (pops r ps) ≡ []
unfolding rule_numbers pops
rules_pops r [] = refl
rules_pops r (Pop.dropped X ∷ ps) = rules_pops r ps
rules_pops r (Pop.inserted X ∷ ps) = rules_pops r ps

-- and no rule number.
pub rules_correction : (p r : ℕ) (ts : List ℕ) (ps : List Pop) (ms : List Move)
    → rule_numbers ((deletes p ts ++ pops r ps) ++ ms) ≡ rule_numbers ms
rules_correction p r ts ps ms =
    let e : rule_numbers (deletes p ts ++ pops r ps) ≡ [] =
    cc (rules_append (deletes p ts) (pops r ps), rules_deletes p ts, rules_pops r ps) in
    rules_append (deletes p ts ++ pops r ps) ms ∙ ap (λ l. l ++ rule_numbers ms) e

-- A record is three words.
pub edit_words_length : (es : List Edit) → length (edit_words es) ≡ 3 * length es
unfolding edit_words
edit_words_length [] = refl
edit_words_length (e ∷ es) = omega (arith, edit_words_length es)

-- Placing keeps the length.
pub placed_length : (p : ℕ) (ts : List ℕ) → length (placed p ts) ≡ length ts
unfolding placed
placed_length p [] = refl
placed_length p (t ∷ ts) = ap suc (placed_length (p + 1) ts)

-- A record is a move, and so is a rule number listed.
pub edits_few : (ms : List Move) → length (edits ms) ≤ length ms
unfolding edits
edits_few [] = omega arith
edits_few (Move.match a b ∷ ms) = omega (arith, edits_few ms)
edits_few (Move.expand a ∷ ms) = omega (arith, edits_few ms)
edits_few (Move.drop a ∷ ms) = omega (arith, edits_few ms)
edits_few (Move.delete a b ∷ ms) = omega (arith, edits_few ms)
edits_few (Move.insert a b ∷ ms) = omega (arith, edits_few ms)

pub rules_few : (ms : List Move) → length (rule_numbers ms) ≤ length ms
unfolding rule_numbers
rules_few [] = omega arith
rules_few (Move.match a b ∷ ms) = omega (arith, rules_few ms)
rules_few (Move.expand a ∷ ms) = omega (arith, rules_few ms)
rules_few (Move.drop a ∷ ms) = omega (arith, rules_few ms)
rules_few (Move.delete a b ∷ ms) = omega (arith, rules_few ms)
rules_few (Move.insert a b ∷ ms) = omega (arith, rules_few ms)
