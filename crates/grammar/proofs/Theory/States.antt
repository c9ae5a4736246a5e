-- The states of a run: while it runs, the stack and the rest of the log both end with END, and the stack stands in a form
-- that the first stack derives; when it is over, both are empty. Each choice keeps this.
use Rattle.std.specs.Prelude.{ℕ, zero, suc, ◌<◌, ◌≡◌, refl, length, take, drop}
use Rattle.std.proofs.Common.{◌∙◌, sym, subst, arith, take-append-drop}
use mathlib.Core.List.{List, [], ◌∷◌, ◌++◌, cons≢nil, nil≢cons}
use Rattle.grammar.specs.Words.{END, Terminal}
use Rattle.grammar.specs.Derivation.{Derives, All, CanBeEmpty}
use Rattle.grammar.specs.Grammar.{Grammar}
use Rattle.grammar.specs.Run.{Hit, Pick, Choice, State, next}
use Rattle.grammar.specs.Theory.Leftmost.{to_der}
use Rattle.grammar.specs.Theory.Good.{Good, known_not_end}
use Rattle.grammar.specs.Theory.Forms.{
  Ended,
  At,
  ended_append,
  ended_of,
  not_terminal,
  end_stays,
  ended_begin,
  at_begin,
  at_rest,
  at_down,
}
use Rattle.grammar.proofs.Theory.Chosen.{choice_determined, dropped_empty}
use Rattle.grammar.specs.Theory.States.{Live, LogToken}

-- A state, by its parts.
abbrev pub state : List ℕ → ℕ → List ℕ → ℕ → ℕ → State
state σ p ρ k l = record { stack = σ; place = p; rest = ρ; records = k; listed = l }

-- A choice has a token.
pub choice_some : {G : Grammar} {σ ρ : List ℕ} {x : Pick} → Choice G σ ρ x → ρ ≡ [] → ⊥
choice_some (Choice.match h) e = cons≢nil e
choice_some (Choice.expand r f) e = cons≢nil e
choice_some (Choice.pass f n) e = cons≢nil e
choice_some (Choice.correct n x y) e = cons≢nil e

-- What is left of such a list without its first members is such a list,
pub ended_drop : {P : ℕ → Type 0} {α : List ℕ} (i : ℕ) → Ended P α → i < length α → Ended P (drop i α)
ended_drop zero e l = e
ended_drop (suc i) (Ended.last h) l = absurd (omega arith)
ended_drop (suc i) (Ended.also h a) l = ended_drop i a (omega arith)

-- and those members have the property.
pub ended_take : {P : ℕ → Type 0} {α : List ℕ} (i : ℕ) → Ended P α → i < length α → All P (take i α)
ended_take zero e l = All.nothing
ended_take (suc i) (Ended.last h) l = absurd (omega arith)
ended_take (suc i) (Ended.also h a) l = All.also h (ended_take i a (omega arith))

-- The current token is a terminal.
pub token_terminal : {t : ℕ} {ρ : List ℕ} → Ended LogToken (t ∷ ρ) → Terminal t
token_terminal (Ended.last e) = omega (arith, e)
token_terminal (Ended.also h a) = h.1

module _ (G : Grammar) (N R : ℕ) (good : Good G N R) where
  -- A log of terminals begins such a run.
  pub live_start : {log : List ℕ} → All LogToken log → Live G G.begin (log ++ (END ∷ []))
  live_start a = Live.running (ended_begin G N R good) (ended_of a) (at_begin G N R good)

  live_match : {X t : ℕ} {σ ρ : List ℕ} → X ≡ t → Ended G.known (X ∷ σ) → Ended LogToken (t ∷ ρ) → At G (X ∷ σ) → Live G σ ρ
  live_match e (Ended.last h) (Ended.last k) a = Live.over refl refl
  live_match e (Ended.last h) (Ended.also k r) a = absurd (omega (arith, k.0, e, h))
  live_match e (Ended.also h s) (Ended.last k) a = absurd (known_not_end good h (e ∙ k))
  live_match {X = X} e (Ended.also h s) (Ended.also k r) a = Live.running s r (at_rest G N R good (X ∷ []) a)

  live_expand : {p A : ℕ} {β σ ρ : List ℕ} → G.rules p A β → Ended G.known (A ∷ σ) → Ended LogToken ρ → At G (A ∷ σ)
      → Live G (β ++ σ) ρ
  live_expand r (Ended.last h) e a = absurd (not_terminal G N R good r (omega (arith, h)))
  live_expand {p = p} {A = A} {β = β} r (Ended.also h s) e a =
      Live.running (ended_append (good.symbols p A β r) s) e (at_down G N R good a r)

  live_drop : {X : ℕ} {σ ρ : List ℕ} → CanBeEmpty G.rules (X ∷ []) → Ended G.known (X ∷ σ) → Ended LogToken ρ → At G (X ∷ σ)
      → Live G σ ρ
  live_drop c (Ended.last h) e a =
      absurd (nil≢cons (end_stays G N R good (to_der G.rules (subst (λ x. Derives G.rules (x ∷ []) []) h c))))
  live_drop {X = X} c (Ended.also h s) e a = Live.running s e (at_rest G N R good (X ∷ []) a)

  live_correct : {j i : ℕ} {σ ρ : List ℕ} → Hit G σ ρ j i → Ended G.known σ → Ended LogToken ρ → At G σ
      → Live G (drop i σ) (drop j ρ)
  live_correct {j = j} {i = i} {σ = σ} x s e a =
      Live.running
      (ended_drop i s x.plausible.within)
      (ended_drop j e x.within)
      (at_rest G N R good (take i σ) (subst (λ l. At G l) (sym (take-append-drop i σ)) a))

  running_next : {σ ρ : List ℕ} {x : Pick} (p k l : ℕ) → Choice G σ ρ x → Ended G.known σ → Ended LogToken ρ → At G σ
      → Live G (next (state σ p ρ k l) x).stack (next (state σ p ρ k l) x).rest
  unfolding next
  running_next p k l (Choice.match h) s e a = live_match h s e a
  running_next p k l (Choice.expand r f) s e a = live_expand r s e a
  running_next p k l (Choice.pass f n) s e a = live_drop (dropped_empty G f n).0 s e a
  running_next p k l (Choice.correct n x y) s e a = live_correct x s e a

  live_after : {σ ρ : List ℕ} {x : Pick} (p k l : ℕ) → Choice G σ ρ x → Live G σ ρ
      → Live G (next (state σ p ρ k l) x).stack (next (state σ p ρ k l) x).rest
  live_after p k l c (Live.running s e a) = running_next p k l c s e a
  live_after p k l c (Live.over h e) = absurd (choice_some c e)

  -- Each choice keeps what a run keeps.
  pub live_next : (s : State) {x : Pick} → Choice G s.stack s.rest x → Live G s.stack s.rest
      → Live G (next s x).stack (next s x).rest
  live_next s c v = live_after s.place s.records s.listed c v

  -- In a state of a run the choice is one.
  pub one_choice : {σ ρ : List ℕ} {x y : Pick} → Live G σ ρ → Choice G σ ρ x → Choice G σ ρ y → x ≡ y
  one_choice (Live.over h e) c d = absurd (choice_some c e)
  one_choice (Live.running s (Ended.last e) a) c d = choice_determined G N R good c d (omega (arith, e))
  one_choice (Live.running s (Ended.also h e) a) c d = choice_determined G N R good c d h.1
