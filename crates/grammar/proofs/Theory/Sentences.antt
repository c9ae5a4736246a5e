-- What document 01 promises besides the demands, sentence by sentence: of the grammar, of the run, and that "two answers allowed by it
-- are shown equal". Each is proved here by citing.
use Rattle.std.specs.Prelude.{ℕ, ◌+◌, ◌*◌, ◌≤◌, ◌<◌, ◌≡◌, refl, length, get_or, take}
use Rattle.std.proofs.Common.{mul-le-mul_right, arith, subst}
use mathlib.Core.List.{List, [], ◌∷◌, ◌++◌, append-nil, cons≢nil}
use Rattle.std.proofs.Math.Option.{Option, none}
use Rattle.grammar.specs.Words.{END, nonterminal_count, tick_unit, reliability}
use Rattle.grammar.specs.Derivation.{Rules, Step, Derives, First, Follow, CanBeEmpty}
use Rattle.grammar.specs.Cost.{ListCost}
use Rattle.grammar.specs.Grammar.{RuleOf, Reliable, Verdict, grammar_of, start_over_end}
use Rattle.grammar.specs.Moves.{Move}
use Rattle.grammar.specs.Run.{Hit, Pop, Choice, expanding, dropping, correcting, State, Limits, started, LogFits, run_conditions}
use Rattle.grammar.specs.Run.{Asks, RunOf, Parses, Parsed}
use Rattle.grammar.specs.Refusals.{Outcome, refused}
use Rattle.grammar.specs.File.{FileRead}
use Rattle.grammar.specs.Pace.{Reported}
use Rattle.grammar.specs.declared.Refusal.{Refusal}
use Rattle.grammar.specs.declared.Refusal.TheVariants.{NoRoom}
use Rattle.grammar.specs.declared.Report.{Report}
use Rattle.grammar.specs.declared.Counts.{Counts}
use Rattle.grammar.specs.Theory.Good.{accepted, good_words}
use Rattle.grammar.specs.Theory.Paths.{Path}
use Rattle.grammar.proofs.Theory.Exists as Exists
use Rattle.grammar.specs.Theory.Exists.{Ending}
use Rattle.grammar.proofs.Theory.Decided.{dec_first_of, dec_empty_of, dec_reliable_of}
use Rattle.grammar.specs.Theory.Predictive as Predictive
use Rattle.grammar.proofs.Theory.Chosen as Chosen
use Rattle.grammar.proofs.Theory.Token as Token
use Rattle.grammar.proofs.Theory.Answered as AnswersOf
use Rattle.grammar.specs.Theory.Conditions.{lowest_unique}
use Rattle.grammar.specs.Theory.Due.{Due, lowest_held}
use Rattle.grammar.specs.Theory.Fills.{fills_unique}
use Rattle.grammar.specs.Theory.Refused.{Given}
use Rattle.grammar.proofs.Theory.Refused as Refused
use Rattle.grammar.proofs.Theory.Room as Room

-- ======== The grammar

no_step : {R : Rules} {α β : List ℕ} → Step R α β → α ≡ [] → ⊥
no_step (Step.here r) e = cons≢nil e
no_step (Step.later s) e = cons≢nil e

-- "Left recursion has no refusal of its own: a grammar that passes has none, and this is to be shown": no nonterminal derives,
-- in one or more steps, a form that begins with itself.
pub no_left_recursion : (ws : List ℕ) → Verdict ws none → (A : ℕ) (α γ : List ℕ) → Step (RuleOf ws) (A ∷ []) α
    → Derives (RuleOf ws) α (A ∷ γ) → ⊥
no_left_recursion ws v A α γ (Step.here {β = β} r) d =
    Predictive.no_left_recursion (grammar_of ws) (nonterminal_count ws) 8 (good_words ws (accepted v)) r
    (subst (λ l. Derives (RuleOf ws) l (A ∷ γ)) (append-nil β) d)
no_left_recursion ws v A α γ (Step.later s) d = no_step s refl

-- A nonterminal that can be empty has no token in both its FIRST and its FOLLOW.
pub first_or_follow : (ws : List ℕ) → Verdict ws none → (A t : ℕ) → CanBeEmpty (RuleOf ws) (A ∷ []) → First (RuleOf ws) (A ∷ []) t
    → Follow (RuleOf ws) start_over_end A t → ⊥
first_or_follow ws v A t c f w =
    Predictive.first_or_follow (grammar_of ws) (nonterminal_count ws) 8 (good_words ws (accepted v)) c f w

-- ======== The run

-- "Otherwise t is in error and nothing has moved for it": behind an expand or a drop for t no correction follows at t.
pub nothing_moved_in_error : (ws : List ℕ) {X t p j i : ℕ} {β σ ρ : List ℕ} {ps : List Pop}
    → (Choice (grammar_of ws) (X ∷ σ) (t ∷ ρ) (expanding p β) → Choice (grammar_of ws) (β ++ σ) (t ∷ ρ) (correcting j i ps) → ⊥)
    × (Choice (grammar_of ws) (X ∷ σ) (t ∷ ρ) dropping → Choice (grammar_of ws) σ (t ∷ ρ) (correcting j i ps) → ⊥)
nothing_moved_in_error ws = (
  λ expand correct. Token.in_error correct (Token.expanded_fits expand),
  λ drop correct. Token.in_error correct (Token.dropped_fits drop),
)

-- What a correction pops costs strictly less than the reliability of token r, unless that is END.
pub pops_below_reliability : (ws : List ℕ) {σ ρ : List ℕ} {j i : ℕ} {ps : List Pop} → Choice (grammar_of ws) σ ρ (correcting j i ps)
    → (get_or ρ j END ≡ END → ⊥)
    → (c : ℕ) × ListCost (RuleOf ws) (grammar_of ws).price (take i σ) c × (c < reliability ws (get_or ρ j END))
pops_below_reliability ws chosen n =
    let p = (Chosen.correction_hit (grammar_of ws) chosen).plausible in (p.cost, p.costs, strictly n p.below)
  where
    strictly : {c t : ℕ} → (t ≡ END → ⊥) → Reliable ws c t → c < reliability ws t
    strictly n (Reliable.unlimited e) = absurd (n e)
    strictly n (Reliable.limited l) = l

module _ (ws log : List ℕ) (passes : Verdict ws none) (fits : LogFits ws log) where
  -- The run is determined: two runs of one log have equal moves and equal outcome.
  pub run_determined : {edit_room rule_room : ℕ} {ms ns : List Move} {o q : Option Refusal} → RunOf ws log edit_room rule_room ms o
      → RunOf ws log edit_room rule_room ns q → (ms ≡ ns) × (o ≡ q)
  run_determined run other =
      let same = AnswersOf.runs_determined (record { words = accepted passes; fits = fits }) run other in
      (same.moves, same.outcome)

  -- A run exists: it ends, or is refused by 11 or 12.
  pub run_exists : (edit_room rule_room : ℕ) → (ms : List Move) × (o : Option Refusal) × RunOf ws log edit_room rule_room ms o × Ending o
  run_exists edit_room rule_room =
      Exists.run_exists (grammar_of ws) (nonterminal_count ws) 8 (good_words ws (accepted passes))
      (dec_first_of ws (accepted passes)) (dec_empty_of ws (accepted passes)) (dec_reliable_of ws) _
      (AnswersOf.log_tokens (record { words = accepted passes; fits = fits }))

  -- "An r always exists": in every state u that a run comes to before its end there is a hit.
  pub hit_exists : {L : Limits} {ms : List Move} {u : State} → Path (grammar_of ws) L (started start_over_end log) ms u
      → (u.rest ≡ [] → ⊥) → (j i : ℕ) × Hit (grammar_of ws) u.stack u.rest j i
  hit_exists path more =
      Exists.hit_on_path (grammar_of ws) (nonterminal_count ws) 8 (good_words ws (accepted passes))
      (dec_first_of ws (accepted passes)) (dec_empty_of ws (accepted passes)) (dec_reliable_of ws)
      (AnswersOf.log_tokens (record { words = accepted passes; fits = fits })) path more

-- How long buffers need to be, whatever the grammar, so that "the next rule number or edit record" always fits: for a log of n tokens,
-- 3 x (2 + n + 512 x n) words for edits and 64 x n for rules.
room_enough : {Asked : Asks} {ws log : List ℕ} {edit_room rule_room : ℕ} {o : Outcome (List Move)} {x y : List ℕ}
    → (Due Asked.behind_10 NoRoom → ⊥) → Parses Asked ws log edit_room rule_room o x y → 6 + 1539 * length log ≤ edit_room
    → 64 * length log ≤ rule_room
    → o ≡ refused NoRoom → ⊥
room_enough {Asked} {ws} {log} {edit_room} {rule_room} behind p edits_fit rules_fit e = go ((Refused.parses_exactly p NoRoom).0 e)
  where
    go : Given Asked ws log edit_room rule_room NoRoom → ⊥
    go (Given.before d) = Refused.due_not_room ws log Asked behind d
    go (Given.within h run) =
        let a = AnswersOf.admitted ((lowest_held (run_conditions ws log Asked)).1 h) in
        let most : nonterminal_count ws ≤ 64 = a.words.shaped.nonterminals_high in
        let times : nonterminal_count ws * length log ≤ 64 * length log = mul-le-mul_right (length log) most in
        Room.room_enough (grammar_of ws) (nonterminal_count ws) 8 (good_words ws a.words) (AnswersOf.log_tokens a)
        (omega arith) (omega arith) run

-- Parser and report then never give 12.
pub parser_room_enough : {ws log : List ℕ} {edit_room rule_room : ℕ} {a : Outcome Counts} {x y : List ℕ}
    → Parsed ws log edit_room rule_room a x y → 6 + 1539 * length log ≤ edit_room → 64 * length log ≤ rule_room → a ≡ refused NoRoom → ⊥
parser_room_enough p edits_fit rules_fit e =
    room_enough Refused.no_room_behind p.parses edits_fit rules_fit ((Refused.answered_refused NoRoom p.answers).0 e)

pub report_room_enough : {ws log ticks : List ℕ} {edit_room rule_room : ℕ} {a : Outcome (Report × Counts)} {x y : List ℕ}
    → Reported ws log ticks edit_room rule_room a x y → 6 + 1539 * length log ≤ edit_room → 64 * length log ≤ rule_room
    → a ≡ refused NoRoom → ⊥
report_room_enough {ws} p edits_fit rules_fit e =
    room_enough (Refused.no_room_timed (tick_unit ws)) p.parses edits_fit rules_fit ((Refused.reports_refused NoRoom p.reports).0 e)

-- ======== "Two answers allowed by it are shown equal": the verdict, the reader's answer, the parser's and the report's, with every word
-- of their buffers, for all inputs and all refusals

-- The verdict is one.
pub verdict_unique : {ws : List ℕ} {o q : Option Refusal} → Verdict ws o → Verdict ws q → o ≡ q
verdict_unique v w = lowest_unique v w

-- The reader's answer and its buffer are one.
pub file_read_unique : {bytes : List ℕ} {room : ℕ} {a b : Outcome ℕ} {x y : List ℕ} → FileRead bytes room a x
    → FileRead bytes room b y → (a ≡ b) × (x ≡ y)
file_read_unique p q = fills_unique p.read q.read

-- The parser's answer and its two buffers are one.
pub parsed_unique : {ws log : List ℕ} {edit_room rule_room : ℕ} {a b : Outcome Counts} {x y u v : List ℕ}
    → Parsed ws log edit_room rule_room a x u → Parsed ws log edit_room rule_room b y v → (a ≡ b) × (x ≡ y) × (u ≡ v)
parsed_unique p q = AnswersOf.parsed_unique p q

-- The report's answer and its two buffers are one.
pub reported_unique : {ws log ticks : List ℕ} {edit_room rule_room : ℕ} {a b : Outcome (Report × Counts)} {x y u v : List ℕ}
    → Reported ws log ticks edit_room rule_room a x u → Reported ws log ticks edit_room rule_room b y v → (a ≡ b) × (x ≡ y) × (u ≡ v)
reported_unique p q = AnswersOf.reported_unique p q
