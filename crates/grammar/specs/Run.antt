-- Document 01, "Moves" and refusals 10 to 12: the run of a log, and what the parser answers and leaves; with request (ii) of 02.
-- The run is one decision, repeated; a correction is one decision with all its deletes, drops and inserts.
use Rattle.std.specs.Prelude.{ℕ, ◌+◌, ◌*◌, ◌≤◌, ◌<◌, ◌≡◌, cond, length, get_or, take, drop, leb, ltb}
use mathlib.Core.List.{List, [], ◌∷◌, ◌++◌, tail}
use Rattle.std.proofs.Math.Option.{Option, none, some}
use Rattle.grammar.specs.Words.{END, terminal_count}
use Rattle.grammar.specs.Derivation.{Rules, First, CanBeEmpty}
use Rattle.grammar.specs.Cost.{ListCost}
use Rattle.grammar.specs.Grammar.{Grammar, grammar_of, Meaning, meaning_of}
use Rattle.grammar.specs.Buffers.{filled, cleared}
use Rattle.grammar.specs.Moves.{Move, edits, edit_words, rule_numbers}
use Rattle.grammar.specs.Refusals.{Condition, ◌unless◌, Lowest, Outcome, given, refused}
use Rattle.grammar.specs.declared.Refusal.{Refusal}
use Rattle.grammar.specs.declared.Counts.{Counts}
use Rattle.grammar.specs.declared.Refusal.TheVariants.{BadLog, StackFull, NoRoom}

-- ---- The search: places are counted from 0, so i symbols stand above A(i+1), and those are the ones popped.

-- A correction at token t that pops the i topmost symbols is plausible: t is in FIRST of the symbol below them, and
-- their cost is strictly below t's reliability.
pub record Plausible (G : Grammar) (stack : List ℕ) (t i : ℕ) : Type 0 where
  pub within : i < length stack
  pub first : First G.rules (get_or stack i END ∷ []) t
  pub cost : ℕ
  pub costs : ListCost G.rules G.price (take i stack) cost
  pub below : G.reliable cost t

-- "Take the least place r .. for which some i has" a plausible correction; "for that r take the least i". `rest` is the
-- log from the current place on, END last, and r stands j places behind the current one.
pub record Hit (G : Grammar) (stack rest : List ℕ) (j i : ℕ) : Type 0 where
  pub within : j < length rest
  pub plausible : Plausible G stack (get_or rest j END) i
  pub least_r : (h k : ℕ) → h < j → Plausible G stack (get_or rest h END) k → ⊥
  pub least_i : (k : ℕ) → k < i → Plausible G stack (get_or rest j END) k → ⊥

-- ---- What a correction pops

-- 01: "Each of A1..Ai-1, top first, is an insert move, one pop each." Request (ii) of 02 overrules it: "A popped symbol that can be
-- empty becomes a drop move, with no edit record."
pub data Pop : Type 0 where
  dropped : (X : ℕ) → Pop
  inserted : (X : ℕ) → Pop

-- What each of the symbols becomes: "can be empty" is that it derives the empty form.
pub data Popped (R : Rules) : List ℕ → List Pop → Type 0 where
  nothing : Popped R [] []
  empty : {X : ℕ} {Xs : List ℕ} {ps : List Pop} → CanBeEmpty R (X ∷ []) → Popped R Xs ps → Popped R (X ∷ Xs) (Pop.dropped X ∷ ps)
  missing : {X : ℕ} {Xs : List ℕ} {ps : List Pop} → (CanBeEmpty R (X ∷ []) → ⊥) → Popped R Xs ps
      → Popped R (X ∷ Xs) (Pop.inserted X ∷ ps)

-- ---- The choice of move: "one decision over all cases of top and token"

pub data Pick : Type 0 where
  -- match the token
  matching : Pick
  -- expand the top by rule p, to β
  expanding : (p : ℕ) (β : List ℕ) → Pick
  -- drop the top
  dropping : Pick
  -- delete j tokens and pop i symbols, of which each is dropped or inserted
  correcting : (j i : ℕ) (ps : List Pop) → Pick

-- The choice at a stack and the rest of the log, whose first token t is the current one. In the first two t is in FIRST
-- of the whole stack by itself; the third says so; the fourth says that it is not: "t is in error and nothing has moved
-- for it".
pub data Choice (G : Grammar) : List ℕ → List ℕ → Pick → Type 0 where
  -- "Top equal to t: match."
  match : {X t : ℕ} {σ rest : List ℕ} → X ≡ t → Choice G (X ∷ σ) (t ∷ rest) matching
  -- "Top a nonterminal with t in its FIRST: expand by its one rule whose right side has t in FIRST."
  expand : {A t p : ℕ} {β σ rest : List ℕ} → G.rules p A β → First G.rules β t
      → Choice G (A ∷ σ) (t ∷ rest) (expanding p β)
  -- "Any other top can be empty: drop."
  pass : {X t : ℕ} {σ rest : List ℕ} → First G.rules (X ∷ σ) t → (First G.rules (X ∷ []) t → ⊥)
      → Choice G (X ∷ σ) (t ∷ rest) dropping
  -- "Otherwise t is in error": the hit with the least r, then the least i.
  correct : {t j i : ℕ} {σ rest : List ℕ} {ps : List Pop} → (First G.rules σ t → ⊥) → Hit G σ (t ∷ rest) j i
      → Popped G.rules (take i σ) ps → Choice G σ (t ∷ rest) (correcting j i ps)

-- ---- What a choice does

-- A state of the run: the stack from its top, the current place, the tokens from there on with END last, and how many
-- edit records and rule numbers are listed.
pub record State : Type 0 where
  pub stack : List ℕ
  pub place : ℕ
  pub rest : List ℕ
  pub records : ℕ
  pub listed : ℕ

-- "Behind [the log] stands END, at place n."
abbrev pub started : List ℕ → List ℕ → State
started begin log = record { stack = begin; place = 0; rest = log ++ (END ∷ []); records = 0; listed = 0 }

-- "Each token from the current place to r-1 is a delete move", which names its token's place.
unfoldable pub deletes : ℕ → List ℕ → List Move
deletes p [] = []
deletes p (t ∷ ts) = Move.delete p t ∷ deletes (p + 1) ts

-- Each of A1..Ai-1, top first: a drop move names its symbol, an insert move names r too.
unfoldable pub pops : ℕ → List Pop → List Move
pops r [] = []
pops r (Pop.dropped X ∷ ps) = Move.drop X ∷ pops r ps
pops r (Pop.inserted X ∷ ps) = Move.insert r X ∷ pops r ps

-- The moves that a choice makes.
unfoldable pub made : State → Pick → List Move
made s matching = Move.match s.place (get_or s.rest 0 END) ∷ []
made s (expanding p β) = Move.expand p ∷ []
made s dropping = Move.drop (get_or s.stack 0 END) ∷ []
made s (correcting j i ps) = deletes s.place (take j s.rest) ++ pops (s.place + j) ps

-- A state with another stack, place and rest, in which what the moves list is counted.
abbrev pub counting : State → List Move → List ℕ → ℕ → List ℕ → State
counting s ms σ p ρ =
    record { stack = σ; place = p; rest = ρ; records = s.records + length (edits ms); listed = s.listed + length (rule_numbers ms) }

-- The state behind them: "one pop, next token"; "one pop, the right side is pushed"; "one pop"; "one pop each. Token r is then
-- current".
unfoldable pub next : State → Pick → State
next s matching = counting s (made s matching) (tail s.stack) (s.place + 1) (tail s.rest)
next s (expanding p β) = counting s (made s (expanding p β)) (β ++ tail s.stack) s.place s.rest
next s dropping = counting s (made s dropping) (tail s.stack) s.place s.rest
next s (correcting j i ps) = counting s (made s (correcting j i ps)) (drop i s.stack) (s.place + j) (drop j s.rest)

-- What bounds a run: the most symbols on the stack, and the lengths of the edit buffer and the rule buffer in words.
pub record Limits : Type 0 where
  pub height : ℕ
  pub edit_room : ℕ
  pub rule_room : ℕ

-- The refusal that a choice meets. 11: "an expand would leave more than 256 symbols on the stack, END counted"; 12: "the
-- next rule number or edit record does not fit", a record where not all three words fit; "an expand tests 11 first". One of the
-- records of a correction does not fit exactly where the last does not.
unfoldable pub limit : Limits → State → Pick → Option Refusal
limit L s matching = none
limit L s (expanding p β) =
    cond (ltb L.height (length (next s (expanding p β)).stack)) (some StackFull)
    (cond (leb (next s (expanding p β)).listed L.rule_room) none (some NoRoom))
limit L s dropping = none
limit L s (correcting j i ps) = cond (leb (3 * (next s (correcting j i ps)).records) L.edit_room) none (some NoRoom)

-- ---- The run

-- From state s on, the run makes the moves ms and then has ended ("the run ends when END is matched"), or is refused by
-- "the first move that meets" 11 or 12.
pub data Run (G : Grammar) (L : Limits) : State → List Move → Option Refusal → Type 0 where
  ended : {s : State} → s.stack ≡ [] → s.rest ≡ [] → Run G L s [] none
  moved : {s : State} {x : Pick} {ms : List Move} {o : Option Refusal} → Choice G s.stack s.rest x → limit L s x ≡ none
      → Run G L (next s x) ms o → Run G L s (made s x ++ ms) o
  stopped : {s : State} {x : Pick} {r : Refusal} → Choice G s.stack s.rest x → limit L s x ≡ some r → Run G L s [] (some r)

-- ---- The parser's answer

-- "A log is n tokens, 0..4,096, each 1..T-1."
pub record LogBelow (T : ℕ) (log : List ℕ) : Type 0 where
  pub count : length log ≤ 4096
  pub low : (i : ℕ) → i < length log → 1 ≤ get_or log i END
  pub high : (i : ℕ) → i < length log → get_or log i END < T

-- The log fits the words.
abbrev pub LogFits : List ℕ → List ℕ → Type 0
LogFits ws log = LogBelow (terminal_count ws) log

-- What a caller of the run asks besides, before it: under refusal 10, and in conditions that are tested behind that.
pub record Asks : Type 1 where
  pub under_10 : Type 0
  pub behind_10 : List Condition

-- Something under 10 only; the parser asks nothing.
abbrev pub only10 : Type 0 → Asks
only10 P = record { under_10 = P; behind_10 = [] }

abbrev pub no_more : Asks
no_more = only10 (Unit {0})

-- The conditions before a run: refusals 5 to 9, those of the grammar check; then 10, the log; each with what else its caller asks.
abbrev pub conditions_before : Meaning → List ℕ → Asks → List Condition
conditions_before M log Asked = M.conditions ++ ((BadLog unless (LogBelow M.terminals log × Asked.under_10)) ∷ Asked.behind_10)

-- Those of the words.
abbrev pub run_conditions : List ℕ → List ℕ → Asks → List Condition
run_conditions ws log Asked = conditions_before (meaning_of ws) log Asked

-- What a run comes to: its moves; or the lowest refusal that applies before it; or the refusal that it meets.
pub data Settled (cs : List Condition) (Runs : List Move → Option Refusal → Type 0) : Outcome (List Move) → Type 0 where
  whole : {ms : List Move} → Lowest cs none → Runs ms none → Settled cs Runs (given ms)
  before : {r : Refusal} → Lowest cs (some r) → Settled cs Runs (refused r)
  within : {ms : List Move} {r : Refusal} → Lowest cs none → Runs ms (some r) → Settled cs Runs (refused r)

-- The run of a log by the grammar, from its first stack, with at most 256 symbols on the stack and the room of the two lent buffers.
abbrev pub RunBy : Grammar → List ℕ → ℕ → ℕ → List Move → Option Refusal → Type 0
RunBy G log edit_room rule_room =
    Run G (record { height = 256; edit_room = edit_room; rule_room = rule_room }) (started G.begin log)

-- The run by the words' grammar, which begins with START over END.
abbrev pub RunOf : List ℕ → List ℕ → ℕ → ℕ → List Move → Option Refusal → Type 0
RunOf ws = RunBy (grammar_of ws)

-- The counts that the parser returns: moves, edit records and rule numbers listed.
abbrev pub counts_of : List Move → Counts
counts_of ms = record { moves = length ms; records = length (edits ms); listed = length (rule_numbers ms) }

unfoldable pub answered : Outcome (List Move) → Outcome Counts
answered (given ms) = given (counts_of ms)
answered (refused r) = refused r

-- What a lent buffer then holds, of which the moves have these words.
unfoldable pub left : (List Move → List ℕ) → ℕ → Outcome (List Move) → List ℕ
left words_of room (given ms) = filled room (words_of ms)
left words_of room (refused r) = cleared room

-- What a log comes to and leaves in the edit buffer (es) and the rule buffer (rs), for every list of words, every log and all lengths
-- of the buffers.
pub record ParsesBy (Asked : Asks) (M : Meaning) (log : List ℕ) (edit_room rule_room : ℕ) (outcome : Outcome (List Move)) (es rs : List ℕ)
    : Type 0 where
  pub settled : Settled (conditions_before M log Asked) (RunBy M.grammar log edit_room rule_room) outcome
  pub leaves_edits : es ≡ left (λ ms. edit_words (edits ms)) edit_room outcome
  pub leaves_rules : rs ≡ left rule_numbers rule_room outcome

-- What it comes to by the words.
abbrev pub Parses : Asks → List ℕ → List ℕ → ℕ → ℕ → Outcome (List Move) → List ℕ → List ℕ → Type 0
Parses Asked ws = ParsesBy Asked (meaning_of ws)

-- The answer and the two buffers of a parse that asks besides for `Asked`.
pub record ParsedBy (Asked : Asks) (M : Meaning) (log : List ℕ) (edit_room rule_room : ℕ) (answer : Outcome Counts) (es rs : List ℕ)
    : Type 0 where
  pub outcome : Outcome (List Move)
  pub parses : ParsesBy Asked M log edit_room rule_room outcome es rs
  pub answers : answer ≡ answered outcome

-- Those of the words.
abbrev pub ParsedAsking : Asks → List ℕ → List ℕ → ℕ → ℕ → Outcome Counts → List ℕ → List ℕ → Type 0
ParsedAsking Asked ws = ParsedBy Asked (meaning_of ws)

-- The parser's answer and its two buffers: it asks no more.
abbrev pub Parsed : List ℕ → List ℕ → ℕ → ℕ → Outcome Counts → List ℕ → List ℕ → Type 0
Parsed = ParsedAsking no_more
