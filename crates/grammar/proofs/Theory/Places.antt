-- The places that the moves of an ended run name: the moves go through the log's tokens in order, each naming the place where
-- it stands. So the places of the edit records never fall, none is past END's, and a token of the log is kept exactly where
-- no delete record has its place.
--     walk_run                    the moves of an ended run walk through the log and END
--     places_rise, place_high     the places of the records
--     kept_token, kept_apart      a kept token is the log's, and no record deletes it
--     kept_or_deleted             every token of the log is kept or deleted
use Rattle.std.specs.Prelude.{ℕ, zero, suc, ◌+◌, ◌≤◌, ◌<◌, ◌≡◌, refl, ◌⊎◌, length, get_or, take, drop}
use Rattle.std.proofs.Common.{sym, ap, subst, inl, inr, ⊎_elim, arith, length-drop}
use mathlib.Core.List.Memᴰ
use mathlib.Core.List.{
  List,
  [],
  ◌∷◌,
  ◌++◌,
  append_assoc,
  Memᴰ,
}
use Rattle.std.proofs.Math.Option.{Option, none}
use Rattle.grammar.specs.Words.{END}
use Rattle.grammar.specs.Grammar.{Grammar}
use Rattle.grammar.specs.Moves.{Move, Edit, edits}
use Rattle.grammar.specs.Run.{Pop, Pick, Choice, State, Limits, Run, started, next, made, deletes, pops}
use Rattle.grammar.specs.Pace.{Kept}
use Rattle.grammar.specs.declared.Refusal.{Refusal}
use Rattle.grammar.proofs.Theory.States.{state}
use Rattle.grammar.specs.Theory.Conditions.{some_none}
use Rattle.grammar.specs.Theory.Places.{Deleted, Rising, Walk}

-- ---- The walk

walk_pops : {r : ℕ} {ts : List ℕ} {ms : List Move} (ps : List Pop) → 0 < length ts → Walk r ts ms → Walk r ts (pops r ps ++ ms)
unfolding pops
walk_pops [] l w = w
walk_pops (Pop.dropped X ∷ ps) l w = Walk.dropped (walk_pops ps l w)
walk_pops (Pop.inserted X ∷ ps) l w = Walk.inserted l (walk_pops ps l w)

walk_deletes : {ms : List Move} (p j : ℕ) (ts : List ℕ) → j ≤ length ts → Walk (p + j) (drop j ts) ms
    → Walk p ts (deletes p (take j ts) ++ ms)
unfolding deletes
walk_deletes {ms} p zero ts l w = let e : p + 0 ≡ p = omega arith in subst (λ q. Walk q ts ms) e w
walk_deletes p (suc j) [] l w = absurd (omega arith)
walk_deletes {ms} p (suc j) (t ∷ ts) l w =
    let e : p + suc j ≡ p + 1 + j = omega arith in
    Walk.deleted (walk_deletes (p + 1) j ts (omega arith) (subst (λ q. Walk q (drop j ts) ms) e w))

walk_step : {G : Grammar} {σ ρ : List ℕ} {x : Pick} {ms : List Move} (p k l : ℕ) → Choice G σ ρ x
    → Walk (next (state σ p ρ k l) x).place (next (state σ p ρ k l) x).rest ms → Walk p ρ (made (state σ p ρ k l) x ++ ms)
unfolding next made
walk_step p k l (Choice.match e) w = Walk.matched w
walk_step p k l (Choice.expand r f) w = Walk.expanded w
walk_step p k l (Choice.pass f n) w = Walk.dropped w
walk_step {ρ = ρ} {ms = ms} p k l (Choice.correct {j = j} {ps = ps} n x y) w =
    let more : 0 < length (drop j ρ) = omega (arith, length-drop j ρ, x.within) in
    subst (λ ns. Walk p ρ ns) (sym (append_assoc (deletes p (take j ρ)) (pops (p + j) ps) ms))
    (walk_deletes p j ρ (omega (arith, x.within)) (walk_pops ps more w))

walk_from : {G : Grammar} {L : Limits} {s : State} {ms : List Move} {o : Option Refusal} → Run G L s ms o → o ≡ none
    → Walk s.place s.rest ms
walk_from (Run.ended {s = s} e f) h = subst (λ ts. Walk s.place ts []) (sym f) Walk.over
walk_from (Run.moved {s = s} c l r) h = walk_step s.place s.records s.listed c (walk_from r h)
walk_from (Run.stopped c l) h = absurd (some_none h refl)

-- The moves of an ended run walk through the log and END.
pub walk_run : {G : Grammar} {L : Limits} {begin : List ℕ} (log : List ℕ) {ms : List Move} → Run G L (started begin log) ms none
    → Walk 0 (log ++ (END ∷ [])) ms
walk_run log r = walk_from r refl

-- ---- The places of the records

rising_from : {p q : ℕ} {es : List Edit} → q ≤ p → Rising p es → Rising q es
rising_from l Rising.nothing = Rising.nothing
rising_from {q = q} l (Rising.also {e = e} h r) = let low : q ≤ e.place = omega arith in Rising.also low r

-- "Records stand in move order": their places never fall.
pub places_rise : {p : ℕ} {ts : List ℕ} {ms : List Move} → Walk p ts ms → Rising p (edits ms)
unfolding edits
places_rise Walk.over = Rising.nothing
places_rise (Walk.matched w) = rising_from (omega arith) (places_rise w)
places_rise (Walk.expanded w) = places_rise w
places_rise (Walk.dropped w) = places_rise w
places_rise {p = p} (Walk.deleted w) = let here : p ≤ p = omega arith in Rising.also here (rising_from (omega arith) (places_rise w))
places_rise {p = p} (Walk.inserted l w) = let here : p ≤ p = omega arith in Rising.also here (places_rise w)

-- Every record behind has at least the place of the first.
pub rising_member : {p : ℕ} {e : Edit} {es : List Edit} → Rising p es → Memᴰ e es → p ≤ e.place
rising_member Rising.nothing m = absurd (Memᴰ.not-nil m)
rising_member {p} {e} (Rising.also {e = d} h r) m =
    ⊎_elim
    (λ q. subst (λ (x : Edit). p ≤ x.place) (sym q) h)
    (λ k. let l = rising_member r k in omega arith)
    (Memᴰ.cases_cons m)

-- No record has a place past the last token's, which is END's.
pub place_high : {p : ℕ} {ts : List ℕ} {ms : List Move} {e : Edit} → Walk p ts ms → Memᴰ e (edits ms) → e.place < p + length ts
unfolding edits
place_high Walk.over m = absurd (Memᴰ.not-nil m)
place_high (Walk.matched w) m = let l = place_high w m in omega arith
place_high (Walk.expanded w) m = place_high w m
place_high (Walk.dropped w) m = place_high w m
place_high {p = p} {e = e} (Walk.deleted {t = t} {ts = ts} w) m =
    ⊎_elim
    (λ q. let here : e.place ≡ p = ap (λ (x : Edit). x.place) q in omega arith)
    (λ k. let l = place_high w k in omega arith)
    (Memᴰ.cases_cons m)
place_high {p = p} {e = e} (Walk.inserted l w) m =
    ⊎_elim
    (λ q. let here : e.place ≡ p = ap (λ (x : Edit). x.place) q in omega arith)
    (λ k. place_high w k)
    (Memᴰ.cases_cons m)

-- ---- Kept tokens

-- Token t stands i places behind p.
pub record Token (p : ℕ) (ts : List ℕ) (q t : ℕ) : Type 0 where
  pub behind : ℕ
  pub place : q ≡ p + behind
  pub within : behind < length ts
  pub token : t ≡ get_or ts behind END

first_token : {p q t u : ℕ} {ts : List ℕ} → Move.match q u ≡ Move.match p t → Token p (t ∷ ts) q u
first_token {p} {q} {t} {u} e =
    let f : q ≡ p = cc in
    let g : u ≡ t = cc in
    record { behind = 0; place = omega arith; within = omega arith; token = g }

later_token : {p q u : ℕ} (t : ℕ) {ts : List ℕ} → Token (p + 1) ts q u → Token p (t ∷ ts) q u
later_token t h =
    record {
      behind = suc h.behind;
      place = omega (arith, h.place);
      within = omega (arith, h.within);
      token = h.token;
    }

-- A kept token is the one that stands at its place.
pub kept_token : {p q u : ℕ} {ts : List ℕ} {ms : List Move} → Walk p ts ms → Kept ms q u → Token p ts q u
kept_token Walk.over k = absurd (Memᴰ.not-nil k)
kept_token (Walk.matched {t = t} w) k = ⊎_elim first_token (λ i. later_token t (kept_token w i)) (Memᴰ.cases_cons k)
kept_token (Walk.expanded w) k = ⊎_elim (λ e. absurd (let z : ◌≡◌ {A = ℕ} 0 1 = cc in omega arith)) (kept_token w) (Memᴰ.cases_cons k)
kept_token (Walk.dropped w) k = ⊎_elim (λ e. absurd (let z : ◌≡◌ {A = ℕ} 0 1 = cc in omega arith)) (kept_token w) (Memᴰ.cases_cons k)
kept_token (Walk.deleted {t = t} w) k =
    ⊎_elim
    (λ e. absurd (let z : ◌≡◌ {A = ℕ} 0 1 = cc in omega arith))
    (λ i. later_token t (kept_token w i))
    (Memᴰ.cases_cons k)
kept_token (Walk.inserted l w) k = ⊎_elim (λ e. absurd (let z : ◌≡◌ {A = ℕ} 0 1 = cc in omega arith)) (kept_token w)
    (Memᴰ.cases_cons k)

-- A kept token has no delete record.
pub kept_apart : {p q u X : ℕ} {ts : List ℕ} {ms : List Move} → Walk p ts ms → Kept ms q u
    → Memᴰ (record { kind = 1; place = q; symbol = X }) (edits ms) → ⊥
unfolding edits
kept_apart Walk.over k d = Memᴰ.not-nil k
kept_apart {p = p} {q = q} {u = u} (Walk.matched {t = t} w) k d =
    ⊎_elim
    (λ e. let here : q ≡ p = cc in let l = rising_member (places_rise w) d in omega arith)
    (λ i. kept_apart w i d)
    (Memᴰ.cases_cons k)
kept_apart (Walk.expanded w) k d =
    ⊎_elim (λ e. let z : ◌≡◌ {A = ℕ} 0 1 = cc in omega arith) (λ i. kept_apart w i d) (Memᴰ.cases_cons k)
kept_apart (Walk.dropped w) k d =
    ⊎_elim (λ e. let z : ◌≡◌ {A = ℕ} 0 1 = cc in omega arith) (λ i. kept_apart w i d) (Memᴰ.cases_cons k)
kept_apart {p = p} {q = q} (Walk.deleted w) k d =
    ⊎_elim
    (λ e. let z : ◌≡◌ {A = ℕ} 0 1 = cc in omega arith)
    (λ i.
    ⊎_elim
    (λ e.
    let here : q ≡ p = ap (λ (x : Edit). x.place) e in
    let h = kept_token w i in
    omega (arith, h.place))
    (λ j. kept_apart w i j)
    (Memᴰ.cases_cons d))
    (Memᴰ.cases_cons k)
kept_apart (Walk.inserted l w) k d =
    ⊎_elim
    (λ e. let z : ◌≡◌ {A = ℕ} 0 1 = cc in omega arith)
    (λ i.
    ⊎_elim
    (λ e. let z : ◌≡◌ {A = ℕ} 1 2 = ap (λ (x : Edit). x.kind) e in omega arith)
    (λ j. kept_apart w i j)
    (Memᴰ.cases_cons d))
    (Memᴰ.cases_cons k)

-- Every token is kept or deleted.
pub kept_or_deleted : {p : ℕ} {ts : List ℕ} {ms : List Move} → Walk p ts ms → (q i : ℕ) → q ≡ p + i → i < length ts
    → Kept ms q (get_or ts i END) ⊎ Deleted ms q
unfolding edits
kept_or_deleted Walk.over q i e l = absurd (omega arith)
kept_or_deleted {p = p} (Walk.matched {t = t} w) q zero e l =
    let here : q ≡ p = omega arith in
    inl (Memᴰ.head (ap (λ x. Move.match x t) here))
kept_or_deleted (Walk.matched w) q (suc i) e l =
    ⊎_elim (λ k. inl (Memᴰ.tail k)) (λ d. inr d) (kept_or_deleted w q i (omega arith) (omega arith))
kept_or_deleted (Walk.expanded w) q i e l = ⊎_elim (λ k. inl (Memᴰ.tail k)) (λ d. inr d) (kept_or_deleted w q i e l)
kept_or_deleted (Walk.dropped w) q i e l = ⊎_elim (λ k. inl (Memᴰ.tail k)) (λ d. inr d) (kept_or_deleted w q i e l)
kept_or_deleted {p = p} (Walk.deleted {t = t} w) q zero e l =
    let here : q ≡ p = omega arith in
    inr (t, Memᴰ.head (ap (λ x. record { kind = 1; place = x; symbol = t }) here))
kept_or_deleted (Walk.deleted w) q (suc i) e l =
    ⊎_elim
    (λ k. inl (Memᴰ.tail k))
    (λ d. inr (d.0, Memᴰ.tail d.1))
    (kept_or_deleted w q i (omega arith) (omega arith))
kept_or_deleted (Walk.inserted h w) q i e l =
    ⊎_elim (λ k. inl (Memᴰ.tail k)) (λ d. inr (d.0, Memᴰ.tail d.1)) (kept_or_deleted w q i e l)
