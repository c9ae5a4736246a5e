-- How long buffers need to be: with three words for each move that demand 3 allows, and a word for each of N rules for each token, no
-- run meets refusal 12. A run that meets it would go on in longer buffers, and make more moves than it can.
use Rattle.std.specs.Prelude.{ℕ, ◌+◌, ◌*◌, ◌≤◌, ◌<◌, ◌≡◌, refl, Bool, true, false, cond, List, ◌++◌, ◌⊎◌, length, leb, ltb}
use Rattle.std.proofs.Common.{ap, ◌∙◌, inl, inr, ⊎_elim, arith, leb-true, leb-false, le-leb}
use Rattle.std.proofs.Math.Option.{Option, none, some}
use Rattle.grammar.specs.Derivation.{All}
use Rattle.grammar.specs.Grammar.{Grammar}
use Rattle.grammar.specs.Moves.{Move}
use Rattle.grammar.specs.Run.{Pick, Choice, matching, expanding, dropping, correcting}
use Rattle.grammar.specs.Run.{State, Limits, Run, started, next, made, limit}
use Rattle.grammar.specs.declared.Refusal.{Refusal}
use Rattle.grammar.specs.declared.Refusal.TheVariants.{StackFull, NoRoom}
use Rattle.grammar.specs.Theory.Conditions.{some_none}
use Rattle.grammar.specs.Theory.Good.{Good}
use Rattle.grammar.specs.Theory.States.{LogToken}
use Rattle.grammar.specs.Theory.Paths.{Path}
use Rattle.grammar.proofs.Theory.Paths.{path_on}
use Rattle.grammar.proofs.Theory.Folds.{edits_few}
use Rattle.grammar.proofs.Theory.Counted.{path_counted}
use Rattle.grammar.proofs.Theory.Bounded.{path_moves_bounded}
use Rattle.grammar.proofs.Theory.Listed.{path_listed_bounded}

-- ---- Longer buffers

-- Room besides for all that the state counts.
wider : Limits → State → Limits
wider L u = record { height = L.height; edit_room = L.edit_room + 3 * u.records; rule_room = L.rule_room + u.listed }

fits : (a b : ℕ) → a ≤ b → cond (leb a b) none (some NoRoom) ≡ none
fits a b l = ap (λ (t : Bool). cond t none (some NoRoom)) (le-leb a b l)

fitted : (a b : ℕ) → cond (leb a b) none (some NoRoom) ≡ none → a ≤ b
fitted a b e = go (leb a b) refl e
  where
    go : (t : Bool) → leb a b ≡ t → cond t none (some NoRoom) ≡ none → a ≤ b
    go true h e = leb-true a b h
    go false h e = absurd (some_none e refl)

unfitted : (a b : ℕ) → cond (leb a b) none (some NoRoom) ≡ some NoRoom → b < a
unfitted a b e = go (leb a b) refl e
  where
    go : (t : Bool) → leb a b ≡ t → cond t none (some NoRoom) ≡ some NoRoom → b < a
    go true h e = absurd (some_none refl e)
    go false h e = leb-false a b h

-- An expand that does not leave too many symbols.
low : (t : Bool) (o q : Option Refusal) → (o ≡ none → q ≡ none) → cond t (some StackFull) o ≡ none → cond t (some StackFull) q ≡ none
low true o q f e = absurd (some_none e refl)
low false o q f e = f e

full_or_room : (t : Bool) (o q : Option Refusal) → (o ≡ some NoRoom → q ≡ none) → cond t (some StackFull) o ≡ some NoRoom
    → cond t (some StackFull) q ≡ none
full_or_room true o q f e = absurd (let z : ◌≡◌ {A = ℕ} 0 1 = cc in omega arith)
full_or_room false o q f e = f e

below_full : (t : Bool) (o : Option Refusal) → cond t (some StackFull) o ≡ some NoRoom → o ≡ some NoRoom
below_full true o e = absurd (let z : ◌≡◌ {A = ℕ} 0 1 = cc in omega arith)
below_full false o e = e

-- What fits fits in longer buffers,
limit_wider : (L : Limits) (s u : State) (x : Pick) → limit L s x ≡ none → limit (wider L u) s x ≡ none
unfolding limit wider
limit_wider L s u matching e = refl
limit_wider L s u (expanding p β) e =
    let n = (next s (expanding p β)).listed in
    low (ltb L.height (length (next s (expanding p β)).stack)) (cond (leb n L.rule_room) none (some NoRoom))
    (cond (leb n (L.rule_room + u.listed)) none (some NoRoom))
    (λ h. let l = fitted n L.rule_room h in fits n (L.rule_room + u.listed) (omega arith)) e
limit_wider L s u dropping e = refl
limit_wider L s u (correcting j i ps) e =
    let n = 3 * (next s (correcting j i ps)).records in
    let l = fitted n L.edit_room e in
    fits n (L.edit_room + 3 * u.records) (omega arith)

-- and so does what did not for want of room.
limit_lifted : (L : Limits) (s : State) (x : Pick) → limit L s x ≡ some NoRoom → limit (wider L (next s x)) s x ≡ none
unfolding limit wider
limit_lifted L s matching e = absurd (some_none refl e)
limit_lifted L s (expanding p β) e =
    let n = (next s (expanding p β)).listed in
    full_or_room (ltb L.height (length (next s (expanding p β)).stack)) (cond (leb n L.rule_room) none (some NoRoom))
    (cond (leb n (L.rule_room + n)) none (some NoRoom)) (λ h. fits n (L.rule_room + n) (omega arith)) e
limit_lifted L s dropping e = absurd (some_none refl e)
limit_lifted L s (correcting j i ps) e =
    let n = 3 * (next s (correcting j i ps)).records in
    fits n (L.edit_room + n) (omega arith)

-- Refusal 12 says which buffer is too short.
too_short : (L : Limits) (s : State) (x : Pick) → limit L s x ≡ some NoRoom
    → (L.edit_room < 3 * (next s x).records) ⊎ (L.rule_room < (next s x).listed)
unfolding limit
too_short L s matching e = absurd (some_none refl e)
too_short L s (expanding p β) e =
    let n = (next s (expanding p β)).listed in
    inr (unfitted n L.rule_room
    (below_full (ltb L.height (length (next s (expanding p β)).stack)) (cond (leb n L.rule_room) none (some NoRoom)) e))
too_short L s dropping e = absurd (some_none refl e)
too_short L s (correcting j i ps) e = inl (unfitted (3 * (next s (correcting j i ps)).records) L.edit_room e)

path_wider : {G : Grammar} {L : Limits} {s v : State} {ms : List Move} (u : State) → Path G L s ms v → Path G (wider L u) s ms v
path_wider u Path.still = Path.still
path_wider {L = L} u (Path.onward {s = s} {x = x} c l q) = Path.onward c (limit_wider L s u x l) (path_wider u q)

-- ---- Where a run is refused

-- The path to the move that meets refusal r.
record Stopped (G : Grammar) (L : Limits) (s : State) (ms : List Move) (r : Refusal) : Type 0 where
  state : State
  path : Path G L s ms state
  pick : Pick
  choice : Choice G state.stack state.rest pick
  meets : limit L state pick ≡ some r

stopped_at : {G : Grammar} {L : Limits} {s : State} {ms : List Move} {o : Option Refusal} {r : Refusal} → Run G L s ms o → o ≡ some r
    → Stopped G L s ms r
stopped_at (Run.ended e f) h = absurd (some_none refl h)
stopped_at (Run.moved c l k) h =
    let t = stopped_at k h in
    record { state = t.state; path = Path.onward c l t.path; pick = t.pick; choice = t.choice; meets = t.meets }
stopped_at (Run.stopped {s = s} {x = x} c l) h =
    record { state = s; path = Path.still; pick = x; choice = c; meets = l ∙ h }

-- ---- The theorem

module _ (G : Grammar) (N R : ℕ) (good : Good G N R) {log : List ℕ} (tokens : All LogToken log) where
  pub room_enough : {L : Limits} {ms : List Move} → 3 * (length G.begin + length log + R * N * length log) ≤ L.edit_room
      → N * length log ≤ L.rule_room → Run G L (started G.begin log) ms (some NoRoom) → ⊥
  room_enough {L} {ms} edits_fit rules_fit run =
      let at = stopped_at run refl in
      let s = at.state in
      let x = at.pick in
      let longer = path_wider (next s x) at.path in
      let path = path_on G (wider L (next s x)) longer at.choice (limit_lifted L s x at.meets) in
      let counted = path_counted path in
      ⊎_elim
      (λ short. omega (arith, counted.records, edits_few (ms ++ made s x), path_moves_bounded G N R good tokens path))
      (λ short. omega (arith, counted.listed, path_listed_bounded G N R good tokens path))
      (too_short L s x at.meets)
