-- Demand 2: a run that ended leaves a repaired log that START derives, and kept and deleted tokens together are the log's
-- tokens, each once, in order. What strings may be put for the inserted symbols is in Filled.antt.
-- Each choice keeps that the stack derives what the moves to come will leave.
use Rattle.std.specs.Prelude.{ℕ, ◌+◌, ◌≡◌, refl, take}
use Rattle.std.proofs.Math.Path.{sym, ap}
use Rattle.std.proofs.Common.{◌∙◌, subst, subst₂, arith, take-append-drop}
use mathlib.Core.List.{List, [], ◌∷◌, ◌++◌, append_assoc, append_cancel_right, cons≢nil}
use Rattle.std.proofs.Math.Option.{Option, none}
use Rattle.grammar.specs.Words.{END}
use Rattle.grammar.specs.Derivation.{Rules, Derives, All}
use Rattle.grammar.specs.Grammar.{Grammar}
use Rattle.grammar.specs.Moves.{Move, log_token, repaired, passed, placed}
use Rattle.grammar.specs.Run.{Pick, Choice, State, Limits, Run, started, next, made, deletes, pops}
use Rattle.grammar.specs.declared.Refusal.{Refusal}
use Rattle.grammar.specs.Theory.Leftmost.{Der, split, to_der, of_der, der_append, der_refl}
use Rattle.grammar.specs.Theory.Good.{Good, known_not_end}
use Rattle.grammar.specs.Theory.Forms.{Ended, ended_nonempty, some_end, der_nil, end_stays, ended_begin}
use Rattle.grammar.proofs.Theory.Chosen.{dropped_empty}
use Rattle.grammar.specs.Theory.States.{LogToken, Live}
use Rattle.grammar.proofs.Theory.States.{state, choice_some, ended_drop, live_start, live_next}
use Rattle.grammar.specs.Theory.Conditions.{some_none}
use Rattle.grammar.proofs.Theory.Pops.{popped_derives}
use Rattle.grammar.specs.Theory.Folds.{missing_of}
use Rattle.grammar.proofs.Theory.Folds.{repaired_correction, log_token_lem, passed_correction, placed_split}

-- The stack derives what the moves leave, with END behind it; or the run is over.
pub data Derived (R : Rules) (σ : List ℕ) (ms : List Move) : Type 0 where
  form : Der R σ (repaired ms ++ (END ∷ [])) → Derived R σ ms
  over : σ ≡ [] → ms ≡ [] → Derived R σ ms

module _ (G : Grammar) (N R : ℕ) (good : Good G N R) where
  formed : {σ : List ℕ} {ms : List Move} → Ended G.known σ → Derived G.rules σ ms → Der G.rules σ (repaired ms ++ (END ∷ []))
  formed s (Derived.form d) = d
  formed s (Derived.over e f) = absurd (ended_nonempty s e)

  derived_end : {X t : ℕ} {ms : List Move} (p : ℕ) → X ≡ END → t ≡ END → Derived G.rules [] ms
      → Derived G.rules (X ∷ []) (Move.match p t ∷ ms)
  unfolding repaired log_token
  derived_end {ms = ms} p e f (Derived.form d) = absurd (some_end (repaired ms) END [] (der_nil d))
  derived_end {X = X} {t = t} {ms = ms} p e f (Derived.over g h) =
      let none : log_token t ≡ [] = ap log_token f in
      let left : repaired ms ≡ [] = ap repaired h in
      let form : X ∷ [] ≡ (log_token t ++ repaired ms) ++ (END ∷ []) = cc in
      Derived.form (subst (λ w. Der G.rules (X ∷ []) w) form (der_refl G.rules (X ∷ [])))

  derived_match : {X t : ℕ} {σ ρ : List ℕ} {ms : List Move} (p : ℕ) → X ≡ t → Ended G.known (X ∷ σ) → Ended LogToken (t ∷ ρ)
      → Derived G.rules σ ms → Derived G.rules (X ∷ σ) (Move.match p t ∷ ms)
  unfolding repaired
  derived_match p e (Ended.last h) (Ended.last k) i = derived_end p h k i
  derived_match p e (Ended.last h) (Ended.also k r) i = absurd (omega (arith, k.0, e, h))
  derived_match p e (Ended.also h s) (Ended.last k) i = absurd (known_not_end good h (e ∙ k))
  derived_match {X = X} {t = t} {σ = σ} {ms = ms} p e (Ended.also h s) (Ended.also k r) i =
      let kept : log_token t ≡ X ∷ [] = log_token_lem t k.0 ∙ ap (λ x. x ∷ []) (sym e) in
      Derived.form
      (subst (λ w. Der G.rules (X ∷ σ) ((w ++ repaired ms) ++ (END ∷ []))) (sym kept) (Der.keep (formed s i)))

  derived_step : {σ ρ : List ℕ} {x : Pick} {ms : List Move} (p k l : ℕ) → Choice G σ ρ x → Live G σ ρ
      → Live G (next (state σ p ρ k l) x).stack (next (state σ p ρ k l) x).rest
      → Derived G.rules (next (state σ p ρ k l) x).stack ms → Derived G.rules σ (made (state σ p ρ k l) x ++ ms)
  unfolding next made repaired
  derived_step p k l c (Live.over e f) w i = absurd (choice_some c f)
  derived_step p k l (Choice.match e) (Live.running s q a) w i = derived_match p e s q i
  derived_step p k l (Choice.expand r f) (Live.running s q a) (Live.running u v b) i = Derived.form (Der.down r (formed u i))
  derived_step p k l (Choice.expand r f) (Live.running s q a) (Live.over u v) i = absurd (cons≢nil v)
  derived_step p k l (Choice.pass f n) (Live.running s q a) (Live.running u v b) i =
      Derived.form (der_append G.rules (to_der G.rules (dropped_empty G f n).0) (formed u i))
  derived_step p k l (Choice.pass f n) (Live.running s q a) (Live.over u v) i = absurd (cons≢nil v)
  derived_step {σ = σ} {ρ = ρ} {ms = ms} p k l (Choice.correct {j = j} {i = h} {ps = ps} n x y) (Live.running s q a) w i =
      let d = der_append G.rules (popped_derives y) (formed (ended_drop h s x.plausible.within) i) in
      let moves = (deletes p (take j ρ) ++ pops (p + j) ps) ++ ms in
      let left : missing_of ps ++ (repaired ms ++ (END ∷ [])) ≡ repaired moves ++ (END ∷ []) =
      sym (append_assoc (missing_of ps) (repaired ms) (END ∷ []))
      ∙ ap (λ w. w ++ (END ∷ [])) (sym (repaired_correction p (p + j) (take j ρ) ps ms)) in
      Derived.form (subst₂ (λ u w. Der G.rules u w) (take-append-drop h σ) left d)

  derived : {L : Limits} {s : State} {ms : List Move} {o : Option Refusal} → Run G L s ms o → o ≡ none
      → Live G s.stack s.rest → Derived G.rules s.stack ms
  derived (Run.ended e f) h v = Derived.over e refl
  derived (Run.moved {s = s} {x = x} c l r) h v =
      let w = live_next G N R good s c v in
      derived_step s.place s.records s.listed c v w (derived r h w)
  derived (Run.stopped c l) h v = absurd (some_none h refl)

  -- What derives a form with END behind it derives the form.
  without_end : {α w : List ℕ} → Der G.rules (α ++ (END ∷ [])) (w ++ (END ∷ [])) → Der G.rules α w
  without_end {α = α} {w = w} d =
      let h = split G.rules d α (END ∷ []) refl in
      let e : w ++ (END ∷ []) ≡ h.left ++ (END ∷ []) =
      h.joined ∙ ap (λ l. h.left ++ l) (end_stays G N R good h.second) in
      subst (λ l. Der G.rules α l) (sym (append_cancel_right w h.left (END ∷ []) e)) h.first

  -- "The repaired log .. must be derivable from START."
  pub repaired_derivable : {L : Limits} {log : List ℕ} {ms : List Move} → All LogToken log → Run G L (started G.begin log) ms none
      → Derives G.rules good.opened (repaired ms)
  repaired_derivable {ms = ms} a r =
      let d = formed (ended_begin G N R good) (derived r refl (live_start G N R good a)) in
      of_der G.rules (without_end (subst (λ l. Der G.rules l (repaired ms ++ (END ∷ []))) good.begins d))

-- ---- Kept and deleted tokens

passed_step : (G : Grammar) {σ ρ : List ℕ} {x : Pick} (ms : List Move) (p k l : ℕ) → Choice G σ ρ x
    → passed ms ≡ placed (next (state σ p ρ k l) x).place (next (state σ p ρ k l) x).rest
    → passed (made (state σ p ρ k l) x ++ ms) ≡ placed p ρ
unfolding next made passed placed
passed_step G ms p k l (Choice.match {t = t} e) i = ap (λ r. record { place = p; token = t } ∷ r) i
passed_step G ms p k l (Choice.expand r f) i = i
passed_step G ms p k l (Choice.pass f n) i = i
passed_step G {ρ = ρ} ms p k l (Choice.correct {j = j} {ps = ps} n x y) i =
    passed_correction p (p + j) (take j ρ) ps ms
    ∙ ap (λ r. placed p (take j ρ) ++ r) i
    ∙ placed_split p j ρ (omega (arith, x.within))

passed_placed : {G : Grammar} {L : Limits} {s : State} {ms : List Move} {o : Option Refusal} → Run G L s ms o → o ≡ none
    → passed ms ≡ placed s.place s.rest
unfolding passed placed
passed_placed {s = s} (Run.ended e f) h = sym (ap (λ r. placed s.place r) f)
passed_placed {G = G} (Run.moved {s = s} {ms = ms} c l r) h = passed_step G ms s.place s.records s.listed c (passed_placed r h)
passed_placed (Run.stopped c l) h = absurd (some_none h refl)

-- "Kept and deleted tokens together are the log's tokens, each once", in order and with their places; END behind them.
pub passed_log : {G : Grammar} {L : Limits} (log : List ℕ) {ms : List Move} → Run G L (started G.begin log) ms none
    → passed ms ≡ placed 0 (log ++ (END ∷ []))
passed_log log r = passed_placed r refl
