-- The choice of move is determined, and what it comes to: the hit is the one with the least r, then the least i; each
-- correction deletes the fewest tokens that a plausible correction can; an r always exists, since END fits at the bottom.
-- A plausible correction at token r is `Plausible` of Run.antt: r is in FIRST of the symbol below the popped ones, and
-- their cost is strictly below r's reliability.
use Rattle.std.specs.Prelude.{ℕ, zero, suc, ◌+◌, ◌≤◌, ◌≡◌, refl, List, [], ◌∷◌, length, get_or, take}
use Rattle.std.proofs.Common.{sym, subst, arith, length-append, take_at}
use Rattle.std.proofs.Math.Logic.{dite}
use Rattle.std.proofs.Math.Decide.{dec_lt}
use Rattle.std.proofs.lemmas.List.{get_or_at}
use Rattle.grammar.specs.Words.{RuleSymbol, END, Terminal}
use Rattle.grammar.specs.Derivation.{Derives, All, First, CanBeEmpty, Predict}
use Rattle.grammar.specs.Cost.{SymbolCost, ListCost}
use Rattle.grammar.specs.Grammar.{Grammar}
use Rattle.grammar.specs.Run.{Plausible, Hit, Pop, Popped, Pick, Choice, expanding, correcting}
use Rattle.grammar.specs.Theory.Good.{Good}
use Rattle.grammar.specs.Theory.Forms.{Ended, not_terminal, ended_front}
use Rattle.grammar.specs.Theory.Reach.{first_append, first_down, first_past}
use Rattle.grammar.proofs.Theory.Pops.{popped_unique}

-- ---- The hit, of any grammar

module _ (G : Grammar) {σ rest : List ℕ} where
  -- Each correction deletes the fewest: no plausible correction stands at an earlier token,
  pub fewest_deletes : {j i h k : ℕ} → Hit G σ rest j i → Plausible G σ (get_or rest h END) k → j ≤ h
  fewest_deletes {j = j} {h = h} {k = k} x p = dite (dec_lt h j) (λ l. absurd (x.least_r h k l p)) (λ l. omega arith)

  -- and at that token none pops fewer.
  pub fewest_pops : {j i k : ℕ} → Hit G σ rest j i → Plausible G σ (get_or rest j END) k → i ≤ k
  fewest_pops {i = i} {k = k} x p = dite (dec_lt k i) (λ l. absurd (x.least_i k l p)) (λ l. omega arith)

  -- The hit is one.
  pub hit_unique : {j i k h : ℕ} → Hit G σ rest j i → Hit G σ rest k h → (j ≡ k) × (i ≡ h)
  hit_unique {j = j} {i = i} {k = k} {h = h} x y =
      let e : j ≡ k = omega (arith, fewest_deletes x y.plausible, fewest_deletes y x.plausible) in (
        e,
        omega (
          arith,
          fewest_pops x (subst (λ n. Plausible G σ (get_or rest n END) h) (sym e) y.plausible),
          fewest_pops y (subst (λ n. Plausible G σ (get_or rest n END) i) e x.plausible),
        ),
      )

-- A correction is chosen by its hit.
pub correction_hit : (G : Grammar) {σ ρ : List ℕ} {j i : ℕ} {ps : List Pop} → Choice G σ ρ (correcting j i ps) → Hit G σ ρ j i
correction_hit G (Choice.correct n x y) = x

-- A correction that makes no move would mean that the token was not in error.
top_fits : (G : Grammar) {t : ℕ} {rest : List ℕ} (σ : List ℕ) (j i : ℕ) → Hit G σ (t ∷ rest) j i → j + i ≡ 0 → First G.rules σ t
top_fits G [] j i x e = absurd (omega (arith, x.plausible.within))
top_fits G (X ∷ σ) zero zero x e = first_append G.rules x.plausible.first σ
top_fits G (X ∷ σ) zero (suc i) x e = absurd (omega arith)
top_fits G (X ∷ σ) (suc j) i x e = absurd (omega arith)

-- A correction makes at least one move.
pub correction_moves : (G : Grammar) {t j i : ℕ} {σ rest : List ℕ} → (First G.rules σ t → ⊥) → Hit G σ (t ∷ rest) j i → 1 ≤ j + i
correction_moves G {j = j} {i = i} {σ = σ} n x =
    dite (dec_lt 0 (j + i)) (λ l. l) (λ l. absurd (n (top_fits G σ j i x (omega arith))))

-- "Any other top can be empty", and the token is in FIRST of the stack below it.
pub dropped_empty : (G : Grammar) {X t : ℕ} {σ : List ℕ} → First G.rules (X ∷ σ) t → (First G.rules (X ∷ []) t → ⊥)
    → CanBeEmpty G.rules (X ∷ []) × First G.rules σ t
dropped_empty G f n = first_past G.rules f n

module _ (G : Grammar) (N R : ℕ) (good : Good G N R) where
  first_self : {X t : ℕ} (σ : List ℕ) → Terminal t → X ≡ t → First G.rules (X ∷ σ) t
  first_self {X = X} σ l e = record { token = l; rest = σ; begins = subst (λ x. Derives G.rules (X ∷ σ) (x ∷ σ)) e Derives.done }

  first_top : {p A t : ℕ} {β : List ℕ} (σ : List ℕ) → G.rules p A β → First G.rules β t → First G.rules (A ∷ σ) t
  first_top σ r f = first_append G.rules (first_down G.rules r f) σ

  top_not_token : {p A t : ℕ} {β : List ℕ} → G.rules p A β → Terminal t → A ≡ t → ⊥
  top_not_token r l e = not_terminal G N R good r (omega (arith, e))

  -- "Its one rule whose right side has t in FIRST."
  pub expand_unique : {p q A t : ℕ} {β γ : List ℕ} → G.rules p A β → First G.rules β t → G.rules q A γ
      → First G.rules γ t → expanding p β ≡ expanding q γ
  expand_unique {p = p} {q = q} {A = A} {t = t} {β = β} {γ = γ} r f s g =
      let e : p ≡ q = good.none_shared_lem p q A t β γ r s (Predict.by_first f) (Predict.by_first g) in
      let h : β ≡ γ = good.functional q A A β γ (subst (λ x. G.rules x A β) e r) s in
      cc

  -- A correction is one: its hit, and what the symbols that it pops become.
  correction_determined : {σ ρ : List ℕ} {j i k h : ℕ} {ps qs : List Pop} → Hit G σ ρ j i → Hit G σ ρ k h
      → Popped G.rules (take i σ) ps → Popped G.rules (take h σ) qs → correcting j i ps ≡ correcting k h qs
  correction_determined {σ = σ} {ps = ps} {qs = qs} x y a b =
      let both = hit_unique G x y in
      let same : ps ≡ qs = popped_unique a (subst (λ n. Popped G.rules (take n σ) qs) (sym both.1) b) in
      cc (both.0, both.1, same)

  -- "The choice of move is one decision": two choices at a stack and a token are one.
  pub choice_determined : {t : ℕ} {σ rest : List ℕ} {x y : Pick} → Choice G σ (t ∷ rest) x → Choice G σ (t ∷ rest) y → Terminal t
      → x ≡ y
  choice_determined (Choice.match e) (Choice.match f) l = refl
  choice_determined (Choice.match e) (Choice.expand s g) l = absurd (top_not_token s l e)
  choice_determined (Choice.match e) (Choice.pass g n) l = absurd (n (first_self [] l e))
  choice_determined (Choice.match {σ = σ} e) (Choice.correct n y z) l = absurd (n (first_self σ l e))
  choice_determined (Choice.expand r f) (Choice.match e) l = absurd (top_not_token r l e)
  choice_determined (Choice.expand r f) (Choice.expand s g) l = expand_unique r f s g
  choice_determined (Choice.expand r f) (Choice.pass g n) l = absurd (n (first_down G.rules r f))
  choice_determined (Choice.expand {σ = σ} r f) (Choice.correct n y z) l = absurd (n (first_top σ r f))
  choice_determined (Choice.pass f n) (Choice.match e) l = absurd (n (first_self [] l e))
  choice_determined (Choice.pass f n) (Choice.expand s g) l = absurd (n (first_down G.rules s g))
  choice_determined (Choice.pass f n) (Choice.pass g m) l = refl
  choice_determined (Choice.pass f n) (Choice.correct m y z) l = absurd (m f)
  choice_determined (Choice.correct n x a) (Choice.match {σ = σ} e) l = absurd (n (first_self σ l e))
  choice_determined (Choice.correct n x a) (Choice.expand {σ = σ} s g) l = absurd (n (first_top σ s g))
  choice_determined (Choice.correct n x a) (Choice.pass g m) l = absurd (n g)
  choice_determined (Choice.correct n x a) (Choice.correct m y b) l = correction_determined x y a b

  -- ---- "An r always exists, since END fits at the bottom."

  symbol_cost : {X : ℕ} → G.known X → (c : ℕ) × SymbolCost G.rules G.price X c
  symbol_cost {X} k = go (good.ranged X k)
    where
      go : RuleSymbol 64 N X → (c : ℕ) × SymbolCost G.rules G.price X c
      go (RuleSymbol.terminal a b) = (G.price X, SymbolCost.terminal b refl)
      go (RuleSymbol.nonterminal a b) = let h = good.costs X a k in (h.0, SymbolCost.nonterminal a h.1)

  -- What may stand in a rule has a cost.
  pub list_cost : {φ : List ℕ} → All G.known φ → (c : ℕ) × ListCost G.rules G.price φ c
  list_cost All.nothing = (0, ListCost.nothing)
  list_cost (All.also h a) =
      let one = symbol_cost h in let rest = list_cost a in (one.0 + rest.0, ListCost.also one.1 rest.1 refl)

  -- At END, to insert all that stands above the bottom is plausible.
  pub end_fits : {σ : List ℕ} → Ended G.known σ → (i : ℕ) × Plausible G σ END i
  end_fits e =
      let parts = ended_front e in
      let φ = parts.0 in
      let cost = list_cost parts.1 in
      subst (λ l. (i : ℕ) × Plausible G l END i) (sym parts.2) (
        length φ,
        record {
          within = omega (arith, length-append φ (END ∷ []));
          first =
              subst (λ x. First G.rules (x ∷ []) END) (sym (get_or_at φ END [] END (length φ) refl))
              (record { token = omega arith; rest = []; begins = Derives.done });
          cost = cost.0;
          costs = subst (λ l. ListCost G.rules G.price l cost.0) (sym (take_at φ (END ∷ []) (length φ) refl)) cost.1;
          below = good.unlimited cost.0;
        },
      )
