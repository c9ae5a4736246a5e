-- Request (ii) of 02: the same cycles are clean as under 01's rule, and the moves are as many.
--     as_earlier            an ended run has a run by 01's rule beside it, of which it keeps what `AsEarlier` says
--     as_every_earlier      in a good grammar every run by 01's rule is so
-- A clean cycle stays clean by 01's records too: where 01 has a record there is one at the same place, or the token before it is
-- deleted (`Near`), and the opening mark of a cycle is kept.
use Rattle.std.specs.Prelude.{ℕ, zero, suc, ◌+◌, ◌≤◌, ◌<◌, ◌≡◌, refl, ◌↔◌, ◌⊎◌, length, take}
use Rattle.std.proofs.Common.{sym, ap, subst, ⊎_elim, arith}
use mathlib.Core.List.Memᴰ
use mathlib.Core.List.{
  List,
  [],
  ◌∷◌,
  ◌++◌,
  Memᴰ,
}
use Rattle.std.proofs.Math.Logic.{dite}
use Rattle.std.proofs.Math.Option.{Option, none}
use Rattle.std.proofs.Math.Decide.{dec_lt}
use Rattle.grammar.specs.Derivation.{Rules, All}
use Rattle.grammar.specs.Grammar.{Grammar}
use Rattle.grammar.specs.Moves.{Move, Edit, edits}
use Rattle.grammar.specs.Run.{Pop, Pick, Choice, State, Limits, Run, started, made, deletes, pops}
use Rattle.grammar.specs.Pace.{Kept, Edited, Span, Cycle, Clean}
use Rattle.grammar.specs.declared.Refusal.{Refusal}
use Rattle.grammar.specs.Theory.Conditions.{some_none}
use Rattle.grammar.specs.Theory.Good.{Good}
use Rattle.grammar.specs.Theory.Folds.{missing_of}
use Rattle.grammar.proofs.Theory.Folds.{edits_append}
use Rattle.grammar.proofs.Theory.Pops.{correction_records}
use Rattle.grammar.specs.Theory.States.{LogToken}
use Rattle.grammar.proofs.Theory.States.{state, live_start}
use Rattle.grammar.specs.Theory.Places.{Walk, Deleted}
use Rattle.grammar.proofs.Theory.Places.{walk_run, kept_apart}
use Rattle.grammar.specs.Theory.Earlier.{inserts, made_earlier, EarlierRun, AsEarlier}
use Rattle.grammar.proofs.Theory.Earlier.{earlier_determined}
use Rattle.grammar.specs.Theory.Earlier.{Beside}
use Rattle.grammar.proofs.Theory.Earlier.{beside_append, beside_many, beside_listed, beside_tokens, beside_records}
use Rattle.grammar.proofs.Theory.Earlier.{beside_made, without_member, kept_there, kept_here}

-- ---- Where 01 has a record

-- An edit has place q, or the token before it is deleted.
data Near (ms : List Move) (q : ℕ) : Type 0 where
  edited : Edited ms q → Near ms q
  behind : {h : ℕ} → q ≡ h + 1 → Deleted ms h → Near ms q

-- The records of moves one behind another.
edit_left : {e : Edit} (ms ns : List Move) → Memᴰ e (edits ms) → Memᴰ e (edits (ms ++ ns))
edit_left {e} ms ns m = subst (λ es. Memᴰ e es) (sym (edits_append ms ns)) (Memᴰ.append_left (edits ns) m)

edit_right : {e : Edit} (ms ns : List Move) → Memᴰ e (edits ns) → Memᴰ e (edits (ms ++ ns))
edit_right {e} ms ns m = subst (λ es. Memᴰ e es) (sym (edits_append ms ns)) (Memᴰ.append_right (edits ms) m)

edit_cases : {e : Edit} (ms ns : List Move) → Memᴰ e (edits (ms ++ ns)) → Memᴰ e (edits ms) ⊎ Memᴰ e (edits ns)
edit_cases {e} ms ns m = Memᴰ.append_cases (edits ms) (subst (λ es. Memᴰ e es) (edits_append ms ns) m)

near_left : {q : ℕ} (ms ns : List Move) → Near ms q → Near (ms ++ ns) q
near_left ms ns (Near.edited d) = Near.edited (d.0, d.1, edit_left ms ns d.2)
near_left ms ns (Near.behind e d) = Near.behind e (d.0, edit_left ms ns d.1)

near_right : {q : ℕ} (ms ns : List Move) → Near ns q → Near (ms ++ ns) q
near_right ms ns (Near.edited d) = Near.edited (d.0, d.1, edit_right ms ns d.2)
near_right ms ns (Near.behind e d) = Near.behind e (d.0, edit_right ms ns d.1)

-- Where each record of ls has one near it in ks, and each of ns in ms, each of both has one in both.
near_append : (ks ls ms ns : List Move) → ((q : ℕ) → Edited ls q → Near ks q) → ((q : ℕ) → Edited ns q → Near ms q) → (q : ℕ)
    → Edited (ls ++ ns) q → Near (ks ++ ms) q
near_append ks ls ms ns f g q (k, X, m) =
    ⊎_elim
    (λ i. near_left ks ms (f q (k, X, i)))
    (λ i. near_right ks ms (g q (k, X, i)))
    (edit_cases ls ns m)

-- The inserts of 01 stand at r,
inserts_place : {r q k X : ℕ} (Xs : List ℕ) → Memᴰ (record { kind = k; place = q; symbol = X }) (edits (inserts r Xs)) → q ≡ r
unfolding edits inserts
inserts_place [] m = absurd (Memᴰ.not-nil m)
inserts_place (Y ∷ Xs) (Memᴰ.head e) = ap (λ (x : Edit). x.place) e
inserts_place (Y ∷ Xs) (Memᴰ.tail m) = inserts_place Xs m

-- and so does one that is left of them, where there is one.
insert_left : (r : ℕ) (ps : List Pop) → 1 ≤ length (missing_of ps) → Edited (pops r ps) r
unfolding edits pops missing_of
insert_left r [] l = absurd (omega arith)
insert_left r (Pop.dropped X ∷ ps) l = insert_left r ps l
insert_left r (Pop.inserted X ∷ ps) l = (2, X, Memᴰ.head refl)

-- The last of the tokens that are deleted stands before r.
last_deleted : (p j : ℕ) (ts : List ℕ) → j < length ts → Deleted (deletes p (take (suc j) ts)) (p + j)
unfolding edits deletes
last_deleted p j [] l = absurd (omega arith)
last_deleted p zero (t ∷ ts) l =
    let e : p + 0 ≡ p = omega arith in
    (t, Memᴰ.head (ap (λ x. record { kind = 1; place = x; symbol = t }) e))
last_deleted p (suc j) (t ∷ ts) l =
    let d = last_deleted (p + 1) j ts (omega arith) in
    let e : p + 1 + j ≡ p + suc j = omega arith in
    subst (λ x. Deleted (deletes p (take (suc (suc j)) (t ∷ ts))) x) e (d.0, Memᴰ.tail d.1)

-- A correction leaves a record at r, or deletes the token before r.
near_r : (p j : ℕ) (ts : List ℕ) (ps : List Pop) → j < length ts → 1 ≤ j + length (missing_of ps)
    → Near (deletes p (take j ts) ++ pops (p + j) ps) (p + j)
near_r p zero ts ps l some =
    near_right (deletes p (take 0 ts)) (pops (p + 0) ps) (Near.edited (insert_left (p + 0) ps (omega arith)))
near_r p (suc j) ts ps l some =
    near_left (deletes p (take (suc j) ts)) (pops (p + suc j) ps)
    (Near.behind {h = p + j} (omega arith) (last_deleted p j ts (omega arith)))

-- Where 01 has a record of a choice, there is one near.
near_made : {G : Grammar} {σ ρ : List ℕ} {x : Pick} (p k l : ℕ) → Choice G σ ρ x → (q : ℕ) → Edited (made_earlier (state σ p ρ k l) x) q
    → Near (made (state σ p ρ k l) x) q
unfolding made made_earlier
near_made p k l (Choice.match e) q d = Near.edited d
near_made p k l (Choice.expand r f) q d = Near.edited d
near_made p k l (Choice.pass f n) q d = Near.edited d
near_made {G} {σ} {ρ} p k l (Choice.correct {j = j} {i = i} {ps = ps} n x a) q (kind, X, m) =
    let ds = deletes p (take j ρ) in
    ⊎_elim
    (λ d. near_left ds (pops (p + j) ps) (Near.edited (kind, X, d)))
    (λ d.
    subst (λ r. Near (ds ++ pops (p + j) ps) r) (sym (inserts_place (take i σ) d))
    (near_r p j ρ ps x.within (correction_records G n x a)))
    (edit_cases ds (inserts (p + j) (take i σ)) m)

-- ---- A run

-- 01's run of a state, beside the moves ms.
record Earlier (G : Grammar) (s : State) (ms : List Move) : Type 0 where
  moves : List Move
  run : EarlierRun G s moves
  beside : Beside G.rules ms moves
  near : (q : ℕ) → Edited moves q → Near ms q

earlier : {G : Grammar} {L : Limits} {s : State} {ms : List Move} {o : Option Refusal} → Run G L s ms o → o ≡ none → Earlier G s ms
unfolding edits
earlier (Run.ended e f) h =
    record {
      moves = [];
      run = EarlierRun.ended e f;
      beside = Beside.nothing;
      near = λ q d. absurd (Memᴰ.not-nil d.2);
    }
earlier (Run.moved {s = s} {x = x} {ms = ms} c l r) h =
    let rest = earlier r h in
    record {
      moves = made_earlier s x ++ rest.moves;
      run = EarlierRun.moved c rest.run;
      beside = beside_append (beside_made s.place s.records s.listed c) rest.beside;
      near =
          near_append (made s x) (made_earlier s x) ms rest.moves (near_made s.place s.records s.listed c) rest.near;
    }
earlier (Run.stopped c l) h = absurd (some_none h refl)

-- ---- Clean cycles

-- Moves that keep the same tokens have the same cycles.
cycle_as : {o c : ℕ} {ms ns : List Move} {s : Span} → ((p t : ℕ) → Kept ms p t → Kept ns p t) → ((p t : ℕ) → Kept ns p t → Kept ms p t)
    → Cycle o c ms s → Cycle o c ns s
cycle_as {o} {c} {s = s} f g y =
    record {
      marked = y.marked;
      ordered = y.ordered;
      opens = f s.opened o y.opens;
      closes = f s.closed c y.closes;
      no_opening = λ p a b k. y.no_opening p a b (g p o k);
      no_closing = λ p a b k. y.no_closing p a b (g p c k);
    }

-- No place of a clean cycle is so, behind its opening mark: the token before it is that mark, which is kept, or has no edit either.
clean_near : {o c m p q : ℕ} {ts : List ℕ} {ms : List Move} {s : Span} → Walk p ts ms → Clean o c m ms s → s.opened < q → q ≤ s.closed
    → Near ms q → ⊥
clean_near {q = q} w y a b (Near.edited d) = y.unedited q a b d
clean_near {ms = ms} {s = s} w y a b (Near.behind {h = h} e (X, d)) =
    dite
    (dec_lt s.opened h)
    (λ l. y.unedited h l (omega arith) (1, X, d))
    (λ l.
    let here : h ≡ s.opened = omega arith in
    kept_apart w y.cycle.opens (subst (λ x. Memᴰ (record { kind = 1; place = x; symbol = X }) (edits ms)) here d))

-- The same cycles are clean.
module _ {R : Rules} {ms ns : List Move} (beside : Beside R ms ns) {p : ℕ} {ts : List ℕ} (walk : Walk p ts ms)
    (near : (q : ℕ) → Edited ns q → Near ms q) where
  clean_as : (o c m : ℕ) (s : Span) → Clean o c m ms s ↔ Clean o c m ns s
  clean_as o c m s = (
    λ y.
        record {
          cycle = cycle_as (λ p t k. kept_there beside k) (λ p t k. kept_here beside k) y.cycle;
          unedited = λ q a b d. clean_near walk y a b (near q d);
          no_restart = λ some q a b k. y.no_restart some q a b (kept_here beside k);
        },
    λ y.
        record {
          cycle = cycle_as (λ p t k. kept_here beside k) (λ p t k. kept_there beside k) y.cycle;
          unedited = λ q a b d. y.unedited q a b (d.0, d.1, without_member (beside_records beside) d.2);
          no_restart = λ some q a b k. y.no_restart some q a b (kept_there beside k);
        },
  )

-- An ended run has 01's run beside it.
pub as_earlier : {G : Grammar} {L : Limits} {begin : List ℕ} (log : List ℕ) {ms : List Move} → Run G L (started begin log) ms none
    → (ns : List Move) × EarlierRun G (started begin log) ns × AsEarlier G ms ns
as_earlier log r =
    let past = earlier r refl in (
      past.moves,
      past.run,
      record {
        as_many = beside_many past.beside;
        rules = beside_listed past.beside;
        tokens = beside_tokens past.beside;
        records = beside_records past.beside;
        clean = clean_as past.beside (walk_run log r) past.near;
      },
    )

-- In a good grammar every run by 01's rule is so.
pub as_every_earlier : (G : Grammar) (N R : ℕ) (good : Good G N R) {L : Limits} {log : List ℕ} {ms ns : List Move} → All LogToken log
    → Run G L (started G.begin log) ms none → EarlierRun G (started G.begin log) ns → AsEarlier G ms ns
as_every_earlier G N R good {log = log} {ms = ms} a r k =
    let past = as_earlier log r in
    subst (λ l. AsEarlier G ms l) (earlier_determined G N R good past.1 k (live_start G N R good a)) past.2
