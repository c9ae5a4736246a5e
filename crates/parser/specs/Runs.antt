-- The whole run, and the parser's answer.
use Rattle.std.specs.Prelude.{ℕ, ◌*◌, ◌≤◌, ◌<◌, refl, List, [], ◌∷◌, length, take, set, Result, Ok, Err}
use Rattle.std.proofs.Math.Path.{◌≡◌, subst}
use Rattle.std.proofs.Common.{sym, ap₂, ◌∙◌, arith, length-set, get_or-set_same, get_or-set_other}
use Rattle.std.proofs.Math.Option.{none}
use Rattle.grammar.specs.Words.{START, END}
use Rattle.grammar.specs.Grammar.{start_over_end}
use Rattle.grammar.specs.Moves.{Move, edits, edit_words, rule_numbers}
use Rattle.grammar.specs.Run.{counts_of}
use Rattle.grammar.specs.Run as Run
use Rattle.grammar.specs.declared.Refusal.{Refusal}
use Rattle.grammar.specs.declared.Counts.{Counts}
use Rattle.grammar.specs.Theory.Paths.{Path}
use Rattle.grammar.specs.Theory.Tables.{Sized}
use Rattle.moves.specs.Pile.{pile}
use Rattle.moves.specs.States.{started}
use Rattle.moves.specs.Windows.{Shows}
use Rattle.moves.specs.declared.Parser.{Parser}
use Rattle.correction.specs.Records.{words_of}
use Rattle.parser.specs.Reached.{
  Setting,
  Reached,
  RunIn,
  Stopped,
  limits_of,
  same_state,
  moves_low,
  records_fit,
  listed_fit,
  records_count,
  listed_count,
  reached_end,
}
use Rattle.parser.specs.Turns.{CanTurn, TurnOf}

-- What a run needs: its setting, and a stack of 264 cells.
pub record CanRun (S : Sized) (log masks prices sides rows stack : List ℕ) : Type 0 where
  pub setting : Setting S log masks prices sides rows
  pub cells : 264 ≤ length stack

-- The run has ended with these counts, and its records and rule numbers stand in front in the buffers.
pub record Ended (S : Sized) (log : List ℕ) (edit_room rule_room : ℕ) (counts : Counts) (edit_buffer rule_buffer : List ℕ) : Type 0 where
  pub made : List Move
  pub run : RunIn S log edit_room rule_room made none
  pub counted : counts ≡ counts_of made
  pub edits_fit : 3 * counts.records ≤ edit_room
  pub rules_fit : counts.listed ≤ rule_room
  pub edit_front : take (3 * counts.records) edit_buffer ≡ edit_words (edits made)
  pub rule_front : take counts.listed rule_buffer ≡ rule_numbers made

unfoldable pub RanOf : Sized → List ℕ → ℕ → ℕ → List ℕ → List ℕ → Result Counts Refusal → Type 0
RanOf S log edit_room rule_room edit_buffer rule_buffer (Ok counts) =
    Ended S log edit_room rule_room counts edit_buffer rule_buffer
RanOf S log edit_room rule_room edit_buffer rule_buffer (Err r) = Stopped S log edit_room rule_room r

-- ---- The loop

-- The run has come to p, with a window there. The lengths of the buffers are those that were lent.
pub record Runs (S : Sized) (log : List ℕ) (stack₀ edits₀ rules₀ stack edits rules : List ℕ) (p : Parser) : Type 0 where
  pub size : length stack ≡ length stack₀
  pub reached : Reached S log (length edits₀) (length rules₀) stack edits rules p
  pub shows : Shows p.window (pile stack p.height)

-- The first stack, as the code lays it.
abbrev pub laid : List ℕ → List ℕ
laid stack = set (set stack 0 END) 1 START

begin_pile : (stack : List ℕ) → 2 ≤ length stack → pile (laid stack) 2 ≡ start_over_end
unfolding pile
begin_pile stack l =
    ap₂ (λ x y. x ∷ y ∷ [])
    (get_or-set_same (set stack 0 0) 1 64 0 (omega (arith, length-set stack 0 0)))
    (get_or-set_other (set stack 0 0) 1 0 64 0 (λ e. omega arith) ∙ get_or-set_same stack 0 0 0 (omega arith))

pub runs_begin : {S : Sized} {log masks prices sides rows : List ℕ} (stack edits₀ rules₀ : List ℕ) {p : Parser}
    → CanRun S log masks prices sides rows stack → p ≡ started
    → Runs S log (laid stack) edits₀ rules₀ (laid stack) edits₀ rules₀ p
unfolding words_of edits edit_words rule_numbers
runs_begin {S} {log} stack edits₀ rules₀ can e =
    let l = can.cells in
    let first = begin_pile stack (omega arith) ∙ sym can.setting.begins in
    subst (λ q. Runs S log (laid stack) edits₀ rules₀ (laid stack) edits₀ rules₀ q) (sym e)
    (record {
      size = refl;
      reached =
          record {
            done = [];
            path =
                subst (λ s. Path S.grammar (limits_of (length edits₀) (length rules₀)) (Run.started S.grammar.begin log) [] s)
                (same_state (sym first) refl refl refl refl) Path.still;
            moves = refl;
            cells = omega (arith, length-set (set stack 0 END) 1 START, length-set stack 0 END);
            edit_room_lem = refl;
            rule_room_lem = refl;
            edit_front = refl;
            rule_front = refl;
          };
      shows = Shows.nothing refl;
    })

module _ {S : Sized} {log masks prices sides rows : List ℕ} (setting : Setting S log masks prices sides rows)
    {stack₀ edits₀ rules₀ stack edits rules : List ℕ} {p : Parser} (r : Runs S log stack₀ edits₀ rules₀ stack edits rules p) where
  -- What a turn needs.
  pub turn_can : 0 < p.height → CanTurn S log masks prices sides rows stack edits rules p
  turn_can l =
      record {
        setting = setting;
        reached =
            subst (λ n. Reached S log n (length rules) stack edits rules p) (sym r.reached.edit_room_lem)
            (subst (λ n. Reached S log (length edits₀) n stack edits rules p) (sym r.reached.rule_room_lem) r.reached);
        some = l;
        shows = r.shows;
      }

  as_lent : (stack' edits' rules' : List ℕ) (turn : Result Parser Refusal)
      → TurnOf S log (length edits) (length rules) p.moves stack' edits' rules' turn
      → TurnOf S log (length edits₀) (length rules₀) p.moves stack' edits' rules' turn
  as_lent stack' edits' rules' turn t =
      subst (λ n. TurnOf S log n (length rules₀) p.moves stack' edits' rules' turn) r.reached.edit_room_lem
      (subst (λ n. TurnOf S log (length edits) n p.moves stack' edits' rules' turn) r.reached.rule_room_lem t)

  pub runs_on : (stack' edits' rules' : List ℕ) {turn : Result Parser Refusal} {q : Parser}
      → TurnOf S log (length edits) (length rules) p.moves stack' edits' rules' turn → turn ≡ Ok q → length stack' ≡ length stack
      → Runs S log stack₀ edits₀ rules₀ stack' edits' rules' q × (p.moves < q.moves) × (q.moves ≤ 2101250)
  unfolding TurnOf
  runs_on stack' edits' rules' {turn} {q} t e k =
      let h = subst (λ x. TurnOf S log (length edits₀) (length rules₀) p.moves stack' edits' rules' x) e
      (as_lent stack' edits' rules' turn t) in
      (record { size = k ∙ r.size; reached = h.0; shows = h.2 }, h.1, moves_low setting h.0)

  pub runs_refused : (stack' edits' rules' : List ℕ) {turn : Result Parser Refusal} {n : Refusal}
      → TurnOf S log (length edits) (length rules) p.moves stack' edits' rules' turn → turn ≡ Err n
      → RanOf S log (length edits₀) (length rules₀) edits' rules' (Err n)
  unfolding TurnOf RanOf
  runs_refused stack' edits' rules' {turn} t e =
      subst (λ x. TurnOf S log (length edits₀) (length rules₀) p.moves stack' edits' rules' x) e (as_lent stack' edits' rules' turn t)

  pub runs_end : p.height ≤ 0
      → RanOf S log (length edits₀) (length rules₀) edits rules
      (Ok (record { moves = p.moves; records = p.records; listed = p.listed }))
  unfolding RanOf words_of
  runs_end l =
      record {
        made = r.reached.done;
        run = reached_end setting r.reached l;
        counted = same r.reached.moves (records_count setting r.reached) (listed_count setting r.reached);
        edits_fit = records_fit setting r.reached;
        rules_fit = listed_fit setting r.reached;
        edit_front = r.reached.edit_front;
        rule_front = r.reached.rule_front;
      }
    where
      same : {a b c a' b' c' : ℕ} → a ≡ a' → b ≡ b' → c ≡ c'
          → ◌≡◌ {A = Counts} (record { moves = a; records = b; listed = c }) (record { moves = a'; records = b'; listed = c' })
      same x y z = cc
