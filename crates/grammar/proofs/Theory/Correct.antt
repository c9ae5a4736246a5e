-- Demand 2: there are no edits exactly when the log was correct. A log that the stack derives is never in error, and each
-- choice keeps that the stack derives the rest of the log; without edits the repaired log is the log.
use Rattle.std.specs.Prelude.{ℕ, ◌+◌, ◌≡◌}
use Rattle.std.proofs.Math.Path.{refl}
use Rattle.std.proofs.Common.{sym, ap, ◌∙◌, subst}
use mathlib.Core.List.{List, [], ◌∷◌, ◌++◌, cons≢nil, nil≢cons, head-eq_of_cons-eq, tail-eq_of_cons-eq}
use Rattle.std.proofs.Math.Option.{Option, none}
use Rattle.grammar.specs.Words.{END, Terminal}
use Rattle.grammar.specs.Derivation.{Derives, All, First}
use Rattle.grammar.specs.Grammar.{Grammar}
use Rattle.grammar.specs.Moves.{Move, edits, log_token, repaired, Placed, passed, placed}
use Rattle.grammar.specs.Run.{Pick, Choice, State, Limits, Run, started, next, made}
use Rattle.grammar.specs.declared.Refusal.{Refusal}
use Rattle.grammar.specs.Theory.Leftmost.{Der, to_der, of_der, der_append, der_refl}
use Rattle.grammar.specs.Theory.Good.{Good}
use Rattle.grammar.specs.Theory.Forms.{At, not_terminal}
use Rattle.grammar.specs.Theory.Reach.{Reach, Where, reached, der_of_reach, reach_append, reach_where, first_reach, reach_first}
use Rattle.grammar.specs.Theory.Predictive.{one_way}
use Rattle.grammar.specs.Theory.States.{LogToken, Live}
use Rattle.grammar.proofs.Theory.States.{state, choice_some, token_terminal, live_start, live_next}
use Rattle.grammar.proofs.Theory.Folds.{log_token_lem}
use Rattle.grammar.proofs.Theory.Repaired.{repaired_derivable, passed_log}

module _ (G : Grammar) (N R : ℕ) (good : Good G N R) where
  -- A terminal on top is the first token.
  behind_terminal : {X t : ℕ} {σ ρ : List ℕ} → Der G.rules (X ∷ σ) (t ∷ ρ) → Terminal X → Der G.rules σ ρ
  behind_terminal (Der.keep d) l = d
  behind_terminal (Der.down r d) l = absurd (not_terminal G N R good r l)

  -- An expand keeps what the stack derives,
  expand_derives : {p A t : ℕ} {β σ ρ : List ℕ} → At G (A ∷ σ) → G.rules p A β → First G.rules β t → Der G.rules (A ∷ σ) (t ∷ ρ)
      → Der G.rules (β ++ σ) (t ∷ ρ)
  expand_derives {t = t} {σ = σ} {ρ = ρ} a r f d =
      let h = reached G.rules d in
      let own = reach_append G.rules (first_reach G.rules f).2 σ in
      let same = one_way G N R good h.reach (Reach.down r own) f.token a in
      der_of_reach G.rules own (subst (λ l. Der G.rules l ρ) same.behind h.rest)

  -- and so does a drop.
  drop_derives : {X t : ℕ} {σ ρ : List ℕ} → Terminal t → (First G.rules (X ∷ []) t → ⊥) → Der G.rules (X ∷ σ) (t ∷ ρ)
      → Der G.rules σ (t ∷ ρ)
  drop_derives {X = X} {t = t} {σ = σ} {ρ = ρ} l n d =
      let h = reached G.rules d in
      go h.rest (reach_where G.rules h.reach (X ∷ []) σ refl)
    where
      go : {m : ℕ} {δ : List ℕ} → Der G.rules δ ρ → Where G.rules t (X ∷ []) σ m δ → Der G.rules σ (t ∷ ρ)
      go e (Where.within k j) = absurd (n (reach_first G.rules l k))
      go e (Where.behind c k j) = der_of_reach G.rules k e

  -- The token is in FIRST of a stack that derives the rest of the log: it is not in error.
  not_in_error : {t : ℕ} {σ ρ : List ℕ} → Terminal t → Der G.rules σ (t ∷ ρ) → First G.rules σ t
  not_in_error {ρ = ρ} l d = record { token = l; rest = ρ; begins = of_der G.rules d }

  derives_next : {σ ρ : List ℕ} {x : Pick} (p k l : ℕ) → Choice G σ ρ x → Live G σ ρ → Der G.rules σ ρ
      → Der G.rules (next (state σ p ρ k l) x).stack (next (state σ p ρ k l) x).rest
  unfolding next
  derives_next p k l c (Live.over e f) d = absurd (choice_some c f)
  derives_next p k l (Choice.match e) (Live.running s q a) d =
      behind_terminal d (subst (λ x. Terminal x) (sym e) (token_terminal q))
  derives_next p k l (Choice.expand r f) (Live.running s q a) d = expand_derives a r f d
  derives_next p k l (Choice.pass f n) (Live.running s q a) d = drop_derives f.token n d
  derives_next p k l (Choice.correct n x y) (Live.running s q a) d = absurd (n (not_in_error (token_terminal q) d))

  edits_next : {σ ρ : List ℕ} {x : Pick} (ms : List Move) (p k l : ℕ) → Choice G σ ρ x → Live G σ ρ → Der G.rules σ ρ
      → edits ms ≡ [] → edits (made (state σ p ρ k l) x ++ ms) ≡ []
  unfolding made edits
  edits_next ms p k l c (Live.over e f) d h = absurd (choice_some c f)
  edits_next ms p k l (Choice.match e) (Live.running s q a) d h = h
  edits_next ms p k l (Choice.expand r f) (Live.running s q a) d h = h
  edits_next ms p k l (Choice.pass f n) (Live.running s q a) d h = h
  edits_next ms p k l (Choice.correct n x y) (Live.running s q a) d h = absurd (n (not_in_error (token_terminal q) d))

  unedited : {L : Limits} {s : State} {ms : List Move} {o : Option Refusal} → Run G L s ms o → Live G s.stack s.rest
      → Der G.rules s.stack s.rest → edits ms ≡ []
  unfolding edits
  unedited (Run.ended e f) v d = refl
  unedited (Run.moved {s = s} {ms = ms} c l r) v d =
      edits_next ms s.place s.records s.listed c v d
      (unedited r (live_next G N R good s c v) (derives_next s.place s.records s.listed c v d))
  unedited (Run.stopped c l) v d = refl

  -- A correct log has no edits, whatever the outcome of its run.
  pub no_edits_when_correct : {L : Limits} {log : List ℕ} {ms : List Move} {o : Option Refusal} → All LogToken log
      → Run G L (started G.begin log) ms o → Derives G.rules good.opened log → edits ms ≡ []
  no_edits_when_correct {log = log} a r d =
      let both : Der G.rules (good.opened ++ (END ∷ [])) (log ++ (END ∷ [])) =
      der_append G.rules (to_der G.rules d) (der_refl G.rules (END ∷ [])) in
      unedited r (live_start G N R good a) (subst (λ l. Der G.rules l (log ++ (END ∷ []))) (sym good.begins) both)

-- ---- Without edits the repaired log is the log

-- Moves that edit nothing and pass nothing leave nothing.
nothing_left : (ms : List Move) → edits ms ≡ [] → passed ms ≡ [] → repaired ms ≡ []
unfolding edits passed repaired
nothing_left [] e f = refl
nothing_left (Move.match p t ∷ ms) e f = absurd (cons≢nil f)
nothing_left (Move.expand q ∷ ms) e f = nothing_left ms e f
nothing_left (Move.drop X ∷ ms) e f = nothing_left ms e f
nothing_left (Move.delete p t ∷ ms) e f = absurd (cons≢nil e)
nothing_left (Move.insert p X ∷ ms) e f = absurd (cons≢nil e)

log_left : (ms : List Move) (p : ℕ) {log : List ℕ} → All LogToken log → edits ms ≡ [] → passed ms ≡ placed p (log ++ (END ∷ []))
    → repaired ms ≡ log
unfolding edits passed repaired placed log_token
log_left [] p All.nothing e f = absurd (nil≢cons f)
log_left [] p (All.also h a) e f = absurd (nil≢cons f)
log_left (Move.match q t ∷ ms) p All.nothing e f =
    let end : t ≡ END = ap (λ (x : Placed). x.token) (head-eq_of_cons-eq f) in
    ap (λ x. log_token x ++ repaired ms) end ∙ nothing_left ms e (tail-eq_of_cons-eq f)
log_left (Move.match q t ∷ ms) p (All.also {x = x} {l = l} h a) e f =
    let token : t ≡ x = ap (λ (x : Placed). x.token) (head-eq_of_cons-eq f) in
    let rest : repaired ms ≡ l = log_left ms (p + 1) a e (tail-eq_of_cons-eq f) in
    ap (λ x. log_token x ++ repaired ms) token ∙ ap (λ l. l ++ repaired ms) (log_token_lem x h.0) ∙ ap (λ l. x ∷ l) rest
log_left (Move.expand q ∷ ms) p a e f = log_left ms p a e f
log_left (Move.drop X ∷ ms) p a e f = log_left ms p a e f
log_left (Move.delete q t ∷ ms) p a e f = absurd (cons≢nil e)
log_left (Move.insert q X ∷ ms) p a e f = absurd (cons≢nil e)

-- A log without edits was correct.
pub correct_when_no_edits : (G : Grammar) (N R : ℕ) (good : Good G N R) {L : Limits} {log : List ℕ} {ms : List Move} → All LogToken log
    → Run G L (started G.begin log) ms none → edits ms ≡ [] → Derives G.rules good.opened log
correct_when_no_edits G N R good {log = log} {ms = ms} a r e =
    subst (λ l. Derives G.rules good.opened l) (log_left ms 0 a e (passed_log log r)) (repaired_derivable G N R good a r)
