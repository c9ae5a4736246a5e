-- How far a run has come: the invariant of the parser's loop. By decisions that met no limit it came from the first stack to
-- where the numbers, the stack and the buffers are; what the theory says of every such path holds there.
use Rattle.std.specs.Prelude.{ℕ, suc, ◌+◌, ◌-◌, ◌*◌, ◌≤◌, ◌<◌, ◌≡◌, List, [], ◌∷◌, ◌++◌, length, get_or, take, drop}
use Rattle.std.proofs.Common.{sym, ap, ap₂, ◌∙◌, subst, append-nil, arith, mul-le-mul, length-append, length-drop, drop-cons}
use Rattle.std.proofs.Math.Option.{Option, none, some}
use Rattle.grammar.specs.Words.{END}
use Rattle.grammar.specs.Derivation.{All}
use Rattle.grammar.specs.Grammar.{start_over_end}
use Rattle.grammar.specs.Moves.{Move, edits, rule_numbers}
use Rattle.grammar.specs.Run.{Pick, Choice, State, Limits, Run, started, next, made, limit}
use Rattle.grammar.specs.declared.Refusal.{Refusal}
use Rattle.grammar.specs.Theory.Good.{Good}
use Rattle.grammar.specs.Theory.Forms.{Ended}
use Rattle.grammar.specs.Theory.States.{LogToken, Live}
use Rattle.grammar.proofs.Theory.States.{live_start}
use Rattle.grammar.specs.Theory.Paths.{Path}
use Rattle.grammar.proofs.Theory.Paths.{path_on, path_run, path_live}
use Rattle.grammar.proofs.Theory.Folds.{rules_append, edits_few, rules_few}
use Rattle.grammar.specs.Theory.Counted.{Within}
use Rattle.grammar.proofs.Theory.Counted.{path_counted, path_within}
use Rattle.grammar.proofs.Theory.Bounded.{path_moves_bounded}
use Rattle.grammar.specs.Theory.Tables.{Inner, Sized, SymbolOf, Pushes}
use Rattle.moves.specs.Pile.{pile, pile_length, pile_at}
use Rattle.moves.specs.States.{CanCount}
use Rattle.moves.specs.declared.Parser.{Parser}
use Rattle.correction.specs.Tokens.{rest_of, token_ended}
use Rattle.correction.specs.Symbols.{Known}
use Rattle.correction.specs.Records.{words_of, words_moves}

-- The state of document 01's run that the numbers and the stack stand for.
abbrev pub state_of : List ℕ → List ℕ → Parser → State
state_of log stack p =
    record { stack = pile stack p.height; place = p.place; rest = rest_of log p.place; records = p.records; listed = p.listed }

abbrev pub limits_of : ℕ → ℕ → Limits
limits_of edit_room rule_room = record { height = 256; edit_room = edit_room; rule_room = rule_room }

-- The run of a log from the grammar's first stack.
abbrev pub RunIn : Sized → List ℕ → ℕ → ℕ → List Move → Option Refusal → Type 0
RunIn S log edit_room rule_room = Run S.grammar (limits_of edit_room rule_room) (started S.grammar.begin log)

-- What a run works from: a good grammar, a log of its tokens, and the tables.
pub record Setting (S : Sized) (log masks prices sides rows : List ℕ) : Type 0 where
  pub known : Known S log masks prices
  pub good : Good S.grammar S.nonterminals 8
  pub inner : (X : ℕ) → S.grammar.known X → SymbolOf S X
  pub begins : S.grammar.begin ≡ start_over_end
  pub tokens : All LogToken log
  pub pushes : Pushes S.grammar S.nonterminals S.rules sides rows

-- The run has come to p with the moves `done`, which are counted; their records and rule numbers stand in front in the buffers.
pub record Reached (S : Sized) (log : List ℕ) (edit_room rule_room : ℕ) (stack edits rules : List ℕ) (p : Parser) : Type 0 where
  pub done : List Move
  pub path : Path S.grammar (limits_of edit_room rule_room) (started S.grammar.begin log) done (state_of log stack p)
  pub moves : p.moves ≡ length done
  pub cells : 264 ≤ length stack
  pub edit_room_lem : length edits ≡ edit_room
  pub rule_room_lem : length rules ≡ rule_room
  pub edit_front : take (3 * p.records) edits ≡ words_of done
  pub rule_front : take p.listed rules ≡ rule_numbers done

-- The run is refused.
abbrev pub Stopped : Sized → List ℕ → ℕ → ℕ → Refusal → Type 0
Stopped S log edit_room rule_room r = (ms : List Move) × RunIn S log edit_room rule_room ms (some r)

-- ---- One law for all decisions

pub same_state : {σ σ' ρ ρ' : List ℕ} {p p' k k' l l' : ℕ} → σ ≡ σ' → p ≡ p' → ρ ≡ ρ' → k ≡ k' → l ≡ l'
    → ◌≡◌ {A = State} (record { stack = σ; place = p; rest = ρ; records = k; listed = l })
    (record { stack = σ'; place = p'; rest = ρ'; records = k'; listed = l' })
same_state a b c d e = cc

module _ {S : Sized} {log : List ℕ} {edit_room rule_room : ℕ} {stack edits rules : List ℕ} {p : Parser}
    (r : Reached S log edit_room rule_room stack edits rules p) where
  -- A decision that meets no limit, and the numbers and buffers behind it.
  pub reached_next : (x : Pick) {stack' edits' rules' : List ℕ} {q : Parser}
      → Choice S.grammar (pile stack p.height) (rest_of log p.place) x
      → limit (limits_of edit_room rule_room) (state_of log stack p) x ≡ none
      → next (state_of log stack p) x ≡ state_of log stack' q
      → q.moves ≡ p.moves + length (made (state_of log stack p) x)
      → length stack' ≡ length stack → length edits' ≡ length edits → length rules' ≡ length rules
      → take (3 * q.records) edits' ≡ take (3 * p.records) edits ++ words_of (made (state_of log stack p) x)
      → take q.listed rules' ≡ take p.listed rules ++ rule_numbers (made (state_of log stack p) x)
      → Reached S log edit_room rule_room stack' edits' rules' q
  reached_next x c l s m a b d e f =
      let u = state_of log stack p in
      record {
        done = r.done ++ made u x;
        path =
            subst (λ v. Path S.grammar (limits_of edit_room rule_room) (started S.grammar.begin log) (r.done ++ made u x) v) s
            (path_on S.grammar (limits_of edit_room rule_room) r.path c l);
        moves = omega (arith, m, r.moves, length-append r.done (made u x));
        cells = omega (arith, a, r.cells);
        edit_room_lem = b ∙ r.edit_room_lem;
        rule_room_lem = d ∙ r.rule_room_lem;
        edit_front = e ∙ ap (λ w. w ++ words_of (made u x)) r.edit_front ∙ sym (words_moves r.done (made u x));
        rule_front = f ∙ ap (λ w. w ++ rule_numbers (made u x)) r.rule_front ∙ sym (rules_append r.done (made u x));
      }

  -- The window is not part of how far it has come.
  pub reached_as : {q : Parser} → q.place ≡ p.place → q.height ≡ p.height → q.moves ≡ p.moves → q.records ≡ p.records
      → q.listed ≡ p.listed → Reached S log edit_room rule_room stack edits rules q
  reached_as {q} a b c d e =
      record {
        done = r.done;
        path =
            subst (λ v. Path S.grammar (limits_of edit_room rule_room) (started S.grammar.begin log) r.done v)
            (same_state (ap (λ h. pile stack h) (sym b)) (sym a) (ap (λ k. rest_of log k) (sym a)) (sym d) (sym e))
            r.path;
        moves = c ∙ r.moves;
        cells = r.cells;
        edit_room_lem = r.edit_room_lem;
        rule_room_lem = r.rule_room_lem;
        edit_front = ap (λ k. take (3 * k) edits) d ∙ r.edit_front;
        rule_front = ap (λ k. take k rules) e ∙ r.rule_front;
      }

  -- A decision that meets a limit.
  pub reached_stop : (x : Pick) (n : Refusal) → Choice S.grammar (pile stack p.height) (rest_of log p.place) x
      → limit (limits_of edit_room rule_room) (state_of log stack p) x ≡ some n → Stopped S log edit_room rule_room n
  reached_stop x n c l = (r.done ++ [], path_run S.grammar (limits_of edit_room rule_room) r.path (Run.stopped c l))

-- ---- What the theory says there

ended_some : {P : ℕ → Type 0} {α : List ℕ} → Ended P α → 0 < length α
ended_some (Ended.last e) = omega arith
ended_some (Ended.also h s) = omega arith

-- and END is at its bottom.
ended_bottom : {P : ℕ → Type 0} {α : List ℕ} → Ended P α → get_or α (length α - 1) 0 ≡ END
ended_bottom (Ended.last e) = e
ended_bottom (Ended.also {X = X} {α = α} h s) =
    let e : length (X ∷ α) - 1 ≡ suc (length α - 1) = omega (arith, ended_some s) in
    ap (λ k. get_or (X ∷ α) k 0) e ∙ ended_bottom s

-- Where symbols are left, the run is not over: they are the grammar's, END at the bottom, and there is a token.
pub record Running (S : Sized) (log stack : List ℕ) (p : Parser) : Type 0 where
  pub symbols : All (SymbolOf S) (pile stack p.height)
  pub bottom : get_or stack 0 0 ≡ END
  pub place : p.place ≤ length log

-- The rest of the log, from a place within it or END's.
pub rest_form : (log : List ℕ) (place : ℕ) → place ≤ length log → rest_of log place ≡ get_or log place 0 ∷ rest_of log (place + 1)
rest_form log place l =
    let e : place + 1 ≡ suc place = omega arith in
    drop-cons (log ++ (END ∷ [])) place 0 (omega (arith, length-append log (END ∷ [])))
    ∙ ap₂ ◌∷◌ (token_ended log place) (ap (λ k. drop k (log ++ (END ∷ []))) (sym e))

module _ {S : Sized} {log masks prices sides rows : List ℕ}
    (setting : Setting S log masks prices sides rows)
    {edit_room rule_room : ℕ} {stack edits rules : List ℕ} {p : Parser} (r : Reached S log edit_room rule_room stack edits rules p) where
  live : Live S.grammar (pile stack p.height) (rest_of log p.place)
  live =
      path_live S.grammar S.nonterminals 8 setting.good r.path
      (live_start S.grammar S.nonterminals 8 setting.good setting.tokens)

  -- What ends with END is of the grammar's symbols.
  ended_inner : {α : List ℕ} → Ended S.grammar.known α → All (SymbolOf S) α
  ended_inner (Ended.last {X = X} e) =
      let low : X < S.terminals = omega (arith, e, setting.known.terminals_low) in All.also (Inner.terminal low) All.nothing
  ended_inner (Ended.also {X = X} h s) = All.also (setting.inner X h) (ended_inner s)

  pub running : 0 < p.height → Running S log stack p
  running l = go live
    where
      go : Live S.grammar (pile stack p.height) (rest_of log p.place) → Running S log stack p
      go (Live.over e f) = absurd (omega (arith, ap length e, pile_length stack p.height))
      go (Live.running s q a) =
          let h = pile_length stack p.height in
          let k : p.height - (p.height - 1 + 1) ≡ 0 = omega arith in
          record {
            symbols = ended_inner s;
            bottom =
                ap (λ n. get_or stack n 0) (sym k)
                ∙ sym (pile_at stack p.height (p.height - 1) (omega arith))
                ∙ ap (λ n. get_or (pile stack p.height) (n - 1) 0) (sym h)
                ∙ ended_bottom s;
            place = omega (arith, ended_some q, length-drop p.place (log ++ (END ∷ [])), length-append log (END ∷ []));
          }

  within : Within (limits_of edit_room rule_room) (state_of log stack p)
  within =
      path_within r.path (record { height = omega (arith, ap length setting.begins); records = omega arith; listed = omega arith })

  pub height_low : p.height ≤ 256
  height_low = omega (arith, within.height, pile_length stack p.height)

  pub records_fit : 3 * p.records ≤ edit_room
  records_fit = within.records

  pub listed_fit : p.listed ≤ rule_room
  listed_fit = within.listed

  -- Moves are at most 2 + n + 8 x N x n.
  pub moves_low : p.moves ≤ 2101250
  moves_low =
      let n = length log in
      let bound = path_moves_bounded S.grammar S.nonterminals 8 setting.good setting.tokens r.path in
      let product : 8 * S.nonterminals * n ≤ 512 * 4096 =
      mul-le-mul {n₂ = 512} {m₂ = 4096} (omega (arith, setting.known.nonterminals_high)) setting.known.short in
      omega (arith, r.moves, ap length setting.begins)

  pub records_count : p.records ≡ length (Rattle.grammar.specs.Moves.edits r.done)
  records_count = omega (arith, (path_counted r.path).records)

  pub listed_count : p.listed ≡ length (rule_numbers r.done)
  listed_count = omega (arith, (path_counted r.path).listed)

  pub records_low : p.records ≤ p.moves
  records_low = omega (arith, records_count, edits_few r.done, r.moves)

  listed_low : p.listed ≤ p.moves
  listed_low = omega (arith, listed_count, rules_few r.done, r.moves)

  -- There is room to count one more move.
  pub counts : p.place ≤ length log → CanCount p
  counts l =
      record {
        place = omega (arith, setting.known.short);
        height = omega (arith, height_low);
        moves = omega (arith, moves_low);
        records = omega (arith, records_low, moves_low);
        listed = omega (arith, listed_low, moves_low);
      }

  -- With nothing on the stack the run has ended.
  pub reached_end : p.height ≤ 0 → RunIn S log edit_room rule_room r.done none
  reached_end l =
      subst (λ ms. RunIn S log edit_room rule_room ms none) (append-nil r.done)
      (path_run S.grammar (limits_of edit_room rule_room) r.path (go live))
    where
      go : Live S.grammar (pile stack p.height) (rest_of log p.place)
          → Run S.grammar (limits_of edit_room rule_room) (state_of log stack p) [] none
      go (Live.over e f) = Run.ended e f
      go (Live.running s q a) = absurd (omega (arith, ended_some s, pile_length stack p.height))
