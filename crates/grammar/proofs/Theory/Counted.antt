-- What a state counts is what the moves so far have listed and passed, and no limit is passed: so the records and the rule
-- numbers of a run that ended fit into their buffers, and those keep their lengths.
use Rattle.std.specs.Prelude.{ℕ, ◌+◌, ◌*◌, ◌≤◌, ◌≡◌, refl, Bool, true, false, not, cond, length, take, drop, leb, ltb, T}
use Rattle.std.proofs.Common.{sym, ap, ◌∙◌, arith, length-append, length-drop, length-take-le, drop-drop, leb→le, nltb→le}
use mathlib.Core.List.{List, [], ◌∷◌, ◌++◌, tail, append-nil}
use Rattle.std.proofs.Math.Option.{Option, none, some}
use Rattle.grammar.specs.Grammar.{Grammar}
use Rattle.grammar.specs.Moves.{Move, edits, rule_numbers, passed, placed}
use Rattle.grammar.specs.Run.{Pop, Pick, Choice, matching, expanding, dropping, correcting}
use Rattle.grammar.specs.Run.{State, Limits, next, made, limit, deletes, pops}
use Rattle.grammar.specs.declared.Refusal.{Refusal}
use Rattle.grammar.specs.declared.Refusal.TheVariants.{StackFull, NoRoom}
use Rattle.grammar.proofs.Theory.States.{state}
use Rattle.grammar.proofs.Theory.Folds.{edits_append, rules_append, passed_append, rules_correction, passed_correction, placed_length}
use Rattle.grammar.specs.Theory.Paths.{Path}
use Rattle.grammar.specs.Theory.Conditions.{some_none}
use Rattle.grammar.specs.Theory.Counted.{Within}

-- From s by the moves ms to u: records, rule numbers and tokens are counted, and the rest of the log is what is left of it.
pub record Counted (s u : State) (ms : List Move) : Type 0 where
  pub records : u.records ≡ s.records + length (edits ms)
  pub listed : u.listed ≡ s.listed + length (rule_numbers ms)
  pub place : u.place ≡ s.place + length (passed ms)
  pub rest : u.rest ≡ drop (length (passed ms)) s.rest

-- What a choice lists is counted behind it.
pub next_records : (s : State) (x : Pick) → (next s x).records ≡ s.records + length (edits (made s x))
unfolding next
next_records s matching = refl
next_records s (expanding p β) = refl
next_records s dropping = refl
next_records s (correcting j i ps) = refl

pub next_listed : (s : State) (x : Pick) → (next s x).listed ≡ s.listed + length (rule_numbers (made s x))
unfolding next
next_listed s matching = refl
next_listed s (expanding p β) = refl
next_listed s dropping = refl
next_listed s (correcting j i ps) = refl

-- The tokens that a choice passes are behind it.
pub record Passing (s : State) (x : Pick) : Type 0 where
  pub place : (next s x).place ≡ s.place + length (passed (made s x))
  pub rest : (next s x).rest ≡ drop (length (passed (made s x))) s.rest

passing : {G : Grammar} {σ ρ : List ℕ} {x : Pick} (p k l : ℕ) → Choice G σ ρ x → Passing (state σ p ρ k l) x
unfolding next made passed
passing p k l (Choice.match e) = record { place = refl; rest = refl }
passing p k l (Choice.expand r f) = record { place = omega arith; rest = refl }
passing p k l (Choice.pass f n) = record { place = omega arith; rest = refl }
passing {ρ = ρ} p k l (Choice.correct {j = j} {ps = ps} n x y) =
    let tokens : length (passed (deletes p (take j ρ) ++ pops (p + j) ps)) ≡ j =
    omega (
      arith,
      ap (λ ms. length (passed ms)) (append-nil (deletes p (take j ρ) ++ pops (p + j) ps)),
      ap length (passed_correction p (p + j) (take j ρ) ps []),
      length-append (placed p (take j ρ)) [],
      placed_length p (take j ρ),
      length-take-le j ρ (omega (arith, x.within)),
    ) in
    record { place = omega (arith, tokens); rest = ap (λ n. drop n ρ) (sym tokens) }

counted_step : {G : Grammar} {u : State} {ms : List Move} (s : State) (x : Pick) → Choice G s.stack s.rest x
    → Counted (next s x) u ms → Counted s u (made s x ++ ms)
counted_step {ms = ms} s x choice c =
    let go = passing s.place s.records s.listed choice in
    let all = ap length (passed_append (made s x) ms) ∙ length-append (passed (made s x)) (passed ms) in
    record {
      records =
          omega (
            arith,
            c.records,
            next_records s x,
            ap length (edits_append (made s x) ms),
            length-append (edits (made s x)) (edits ms),
          );
      listed =
          omega (
            arith,
            c.listed,
            next_listed s x,
            ap length (rules_append (made s x) ms),
            length-append (rule_numbers (made s x)) (rule_numbers ms),
          );
      place = omega (arith, c.place, go.place, all);
      rest =
          c.rest
          ∙ ap (drop (length (passed ms))) go.rest
          ∙ drop-drop (length (passed ms)) (length (passed (made s x))) s.rest
          ∙ ap (λ n. drop n s.rest) (sym all);
    }

-- Each path counts so.
pub path_counted : {G : Grammar} {L : Limits} {s u : State} {ms : List Move} → Path G L s ms u → Counted s u ms
unfolding edits rule_numbers passed
path_counted Path.still = record { records = omega arith; listed = omega arith; place = omega arith; rest = refl }
path_counted (Path.onward {s = s} {x = x} c l q) = counted_step s x c (path_counted q)

-- ---- The limits

refuses : (b : Bool) (r : Refusal) (o : Option Refusal) → cond b (some r) o ≡ none → T (not b) × (o ≡ none)
refuses true r o e = absurd (some_none e refl)
refuses false r o e = (tt, e)

allows : (b : Bool) (r : Refusal) → cond b none (some r) ≡ none → T b
allows true r e = tt
allows false r e = absurd (some_none e refl)

within_expand : (L : Limits) (s : State) (p : ℕ) (β : List ℕ) → limit L s (expanding p β) ≡ none → Within L s
    → Within L (next s (expanding p β))
unfolding limit next made edits rule_numbers
within_expand L s p β e w =
    let full = ltb L.height (length (β ++ tail s.stack)) in
    let fits = leb (s.listed + 1) L.rule_room in
    let h = refuses full StackFull (cond fits none (some NoRoom)) e in
    let top = nltb→le L.height (length (β ++ tail s.stack)) h.0 in
    let room = leb→le (s.listed + 1) L.rule_room (allows fits NoRoom h.1) in
    record { height = top; records = omega (arith, w.records); listed = room }

within_correct : (L : Limits) (s : State) (j i : ℕ) (ps : List Pop) → limit L s (correcting j i ps) ≡ none → Within L s
    → Within L (next s (correcting j i ps))
unfolding limit next made rule_numbers
within_correct L s j i ps e w =
    let behind = 3 * (next s (correcting j i ps)).records in
    let none-listed = rules_correction s.place (s.place + j) (take j s.rest) ps [] in
    record {
      height = omega (arith, length-drop i s.stack, w.height);
      records = leb→le behind L.edit_room (allows (leb behind L.edit_room) NoRoom e);
      listed = omega (arith, ap length (ap rule_numbers (sym (append-nil (made s (correcting j i ps)))) ∙ none-listed), w.listed);
    }

tail_length : (σ : List ℕ) → length (tail σ) ≤ length σ
tail_length [] = omega arith
tail_length (X ∷ σ) = omega arith

within_next : (L : Limits) (s : State) (x : Pick) → limit L s x ≡ none → Within L s → Within L (next s x)
unfolding next made edits rule_numbers
within_next L s matching e w =
    record {
      height = omega (arith, tail_length s.stack, w.height);
      records = omega (arith, w.records);
      listed = omega (arith, w.listed);
    }
within_next L s (expanding p β) e w = within_expand L s p β e w
within_next L s dropping e w =
    record {
      height = omega (arith, tail_length s.stack, w.height);
      records = omega (arith, w.records);
      listed = omega (arith, w.listed);
    }
within_next L s (correcting j i ps) e w = within_correct L s j i ps e w

-- No path passes a limit.
pub path_within : {G : Grammar} {L : Limits} {s u : State} {ms : List Move} → Path G L s ms u → Within L s → Within L u
path_within Path.still w = w
path_within {L = L} (Path.onward {s = s} {x = x} c l q) w = path_within q (within_next L s x l w)
