-- The repaired log from the log and the edit records alone, as whoever holds the edit buffer makes it; and that it is the
-- repaired log of the moves.
use Rattle.std.specs.Prelude.{ℕ, ◌+◌, ◌<◌, ◌≡◌, refl, Bool, true, false, ◌&&◌, ◌||◌, cond, List, [], ◌∷◌, ◌++◌, length, eqb}
use Rattle.std.proofs.Common.{sym, ap, ◌∙◌, arith, eq-eqb, ne_eqb}
use Rattle.std.proofs.Math.Option.{none}
use Rattle.grammar.specs.Grammar.{Grammar}
use Rattle.grammar.specs.Moves.{Move, Edit, edits, log_token, repaired}
use Rattle.grammar.specs.Run.{Limits, Run, started}
use Rattle.grammar.specs.Theory.Places.{Walk, Rising}
use Rattle.grammar.proofs.Theory.Places.{walk_run, places_rise}
use Rattle.grammar.specs.Theory.Rebuilt.{inserts_at, deletes_at, inserted_at, is_deleted, rebuilt_from, rebuilt}

-- ---- The definition

-- ---- It is the repaired log of the moves

and_false : (b : Bool) → (b && false) ≡ false
and_false true = refl
and_false false = refl

-- A record at another place neither inserts nor deletes here.
inserts_not : (p : ℕ) (e : Edit) → (e.place ≡ p → ⊥) → inserts_at p e ≡ false
unfolding inserts_at
inserts_not p e n = ap (λ b. eqb e.kind 2 && b) (ne_eqb e.place p n) ∙ and_false (eqb e.kind 2)

deletes_not : (p : ℕ) (e : Edit) → (e.place ≡ p → ⊥) → deletes_at p e ≡ false
unfolding deletes_at
deletes_not p e n = ap (λ b. eqb e.kind 1 && b) (ne_eqb e.place p n) ∙ and_false (eqb e.kind 1)

-- So it can be left out here,
inserted_other : (p : ℕ) (e : Edit) (es : List Edit) → (e.place ≡ p → ⊥) → inserted_at p (e ∷ es) ≡ inserted_at p es
unfolding inserted_at
inserted_other p e es n = ap (λ b. cond b (e.symbol ∷ inserted_at p es) (inserted_at p es)) (inserts_not p e n)

deleted_other : (p : ℕ) (e : Edit) (es : List Edit) → (e.place ≡ p → ⊥) → is_deleted p (e ∷ es) ≡ is_deleted p es
unfolding is_deleted
deleted_other p e es n = ap (λ b. b || is_deleted p es) (deletes_not p e n)

-- and a record before place p is of no matter from p on.
rebuilt_behind : (p : ℕ) (ts : List ℕ) (e : Edit) (es : List Edit) → e.place < p → rebuilt_from p ts (e ∷ es) ≡ rebuilt_from p ts es
unfolding rebuilt_from
rebuilt_behind p [] e es l = refl
rebuilt_behind p (t ∷ ts) e es l =
    let n : e.place ≡ p → ⊥ = λ q. omega arith in
    let a = inserted_other p e es n in
    let b = deleted_other p e es n in
    let c = rebuilt_behind (p + 1) ts e es (omega arith) in
    ap (λ l. l ++ (cond (is_deleted p (e ∷ es)) [] (log_token t) ++ rebuilt_from (p + 1) ts (e ∷ es))) a
    ∙ ap (λ x. inserted_at p es ++ (cond x [] (log_token t) ++ rebuilt_from (p + 1) ts (e ∷ es))) b
    ∙ ap (λ l. inserted_at p es ++ (cond (is_deleted p es) [] (log_token t) ++ l)) c

-- Records that all lie behind place p do nothing at p.
none_inserted : (p : ℕ) {q : ℕ} {es : List Edit} → p < q → Rising q es → inserted_at p es ≡ []
unfolding inserted_at
none_inserted p l Rising.nothing = refl
none_inserted p l (Rising.also {e = e} {es = es} h r) =
    inserted_other p e es (λ q. omega arith) ∙ none_inserted p (omega arith) r

none_deleted : (p : ℕ) {q : ℕ} {es : List Edit} → p < q → Rising q es → is_deleted p es ≡ false
unfolding is_deleted
none_deleted p l Rising.nothing = refl
none_deleted p l (Rising.also {e = e} {es = es} h r) =
    deleted_other p e es (λ q. omega arith) ∙ none_deleted p (omega arith) r

-- A record at this place.
inserts_here : (p X : ℕ) (es : List Edit) → inserted_at p (record { kind = 2; place = p; symbol = X } ∷ es) ≡ X ∷ inserted_at p es
unfolding inserted_at inserts_at
inserts_here p X es = ap (λ b. cond b (X ∷ inserted_at p es) (inserted_at p es)) (eq-eqb p p refl)

deletes_here : (p t : ℕ) (es : List Edit) → is_deleted p (record { kind = 1; place = p; symbol = t } ∷ es) ≡ true
unfolding is_deleted deletes_at
deletes_here p t es = ap (λ b. b || is_deleted p es) (eq-eqb p p refl)

-- An insert at p goes in front of what is rebuilt from p on, where a token stands there.
rebuilt_insert : (p X : ℕ) (ts : List ℕ) (es : List Edit) → 0 < length ts
    → rebuilt_from p ts (record { kind = 2; place = p; symbol = X } ∷ es) ≡ X ∷ rebuilt_from p ts es
unfolding rebuilt_from is_deleted deletes_at
rebuilt_insert p X [] es l = absurd (omega arith)
rebuilt_insert p X (t ∷ ts) es l =
    let e : Edit = record { kind = 2; place = p; symbol = X } in
    ap (λ l. l ++ (cond (is_deleted p es) [] (log_token t) ++ rebuilt_from (p + 1) ts (e ∷ es))) (inserts_here p X es)
    ∙ ap (λ l. X ∷ (inserted_at p es ++ (cond (is_deleted p es) [] (log_token t) ++ l))) (rebuilt_behind (p + 1) ts e es (omega arith))

-- A match keeps its token where no record of the rest lies here.
rebuilt_match : (p t : ℕ) (ts : List ℕ) (es : List Edit) → Rising (p + 1) es
    → rebuilt_from p (t ∷ ts) es ≡ log_token t ++ rebuilt_from (p + 1) ts es
unfolding rebuilt_from
rebuilt_match p t ts es r =
    ap (λ l. l ++ (cond (is_deleted p es) [] (log_token t) ++ rebuilt_from (p + 1) ts es)) (none_inserted p (omega arith) r)
    ∙ ap (λ b. cond b [] (log_token t) ++ rebuilt_from (p + 1) ts es) (none_deleted p (omega arith) r)

-- A delete leaves its token out.
rebuilt_delete : (p t : ℕ) (ts : List ℕ) (es : List Edit) → Rising (p + 1) es
    → rebuilt_from p (t ∷ ts) (record { kind = 1; place = p; symbol = t } ∷ es) ≡ rebuilt_from (p + 1) ts es
unfolding rebuilt_from inserted_at inserts_at
rebuilt_delete p t ts es r =
    let e : Edit = record { kind = 1; place = p; symbol = t } in
    ap (λ l. l ++ (cond (is_deleted p (e ∷ es)) [] (log_token t) ++ rebuilt_from (p + 1) ts (e ∷ es))) (none_inserted p (omega arith) r)
    ∙ ap (λ b. cond b [] (log_token t) ++ rebuilt_from (p + 1) ts (e ∷ es)) (deletes_here p t es)
    ∙ rebuilt_behind (p + 1) ts e es (omega arith)

rebuilt_walk : {p : ℕ} {ts : List ℕ} {ms : List Move} → Walk p ts ms → repaired ms ≡ rebuilt_from p ts (edits ms)
unfolding repaired edits rebuilt_from
rebuilt_walk Walk.over = refl
rebuilt_walk (Walk.matched {p = p} {t = t} {ts = ts} {ms = ms} w) =
    ap (λ l. log_token t ++ l) (rebuilt_walk w) ∙ sym (rebuilt_match p t ts (edits ms) (places_rise w))
rebuilt_walk (Walk.expanded w) = rebuilt_walk w
rebuilt_walk (Walk.dropped w) = rebuilt_walk w
rebuilt_walk (Walk.deleted {p = p} {t = t} {ts = ts} {ms = ms} w) =
    rebuilt_walk w ∙ sym (rebuilt_delete p t ts (edits ms) (places_rise w))
rebuilt_walk (Walk.inserted {p = p} {X = X} {ts = ts} {ms = ms} l w) =
    ap (λ l. X ∷ l) (rebuilt_walk w) ∙ sym (rebuilt_insert p X ts (edits ms) l)

-- What is rebuilt from the records of an ended run is its repaired log.
pub rebuilt_repaired : {G : Grammar} {L : Limits} {begin : List ℕ} (log : List ℕ) {ms : List Move} → Run G L (started begin log) ms none
    → repaired ms ≡ rebuilt log (edits ms)
unfolding rebuilt
rebuilt_repaired log r = rebuilt_walk (walk_run log r)
