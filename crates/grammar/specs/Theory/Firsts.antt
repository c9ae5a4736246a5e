-- Which lists can be empty, and FIRST of a list, by its members; over any rules.
--     all_empty, empty_all          a list can be empty exactly where each member can
--     begins_first, first_begins    t is in FIRST of a list exactly where it is in FIRST of a member behind such ones
--     empty_rule, first_rule        what a right side gives its left side
use Rattle.std.specs.Prelude.{ℕ, ◌≤◌, ◌<◌, ◌≡◌, refl, List, [], ◌∷◌, ◌++◌}
use Rattle.std.proofs.Common.{arith}
use Rattle.grammar.specs.Words.{Terminal}
use Rattle.grammar.specs.Derivation.{Rules, All, Derives, CanBeEmpty, First}
use Rattle.grammar.specs.Theory.Leftmost.{Der, der_refl, der_append, to_der, of_der}
use Rattle.grammar.specs.Theory.Rewriting.{rewritten}
use Rattle.grammar.specs.Theory.Closed.{ClosedUp, ClosedFirst, closed_up, closed_first, Begins}

-- X can be empty.
abbrev pub Fades : Rules → ℕ → Type 0
Fades R X = CanBeEmpty R (X ∷ [])

-- Token t is in FIRST of X.
abbrev pub Starts : Rules → ℕ → ℕ → Type 0
Starts R t X = First R (X ∷ []) t

module _ (R : Rules) where
  pub all_empty : {α : List ℕ} → All (Fades R) α → CanBeEmpty R α
  all_empty All.nothing = Derives.done
  all_empty (All.also h a) = of_der R (der_append R (to_der R h) (to_der R (all_empty a)))

  empty_rule : {p A : ℕ} {β : List ℕ} → R p A β → CanBeEmpty R β → CanBeEmpty R (A ∷ [])
  empty_rule r d = of_der R (rewritten R r (to_der R d))

  pub empty_closed : ClosedUp R (Fades R)
  empty_closed p A β r a = empty_rule r (all_empty a)

  pub empty_all : {α : List ℕ} → CanBeEmpty R α → All (Fades R) α
  empty_all d = closed_up R (Fades R) empty_closed (to_der R d) All.nothing

  pub begins_first : {t : ℕ} → Terminal t → {α : List ℕ} → Begins (Fades R) (Starts R t) α → First R α t
  begins_first l (Begins.here {α = α} h) =
      record { token = l; rest = h.rest ++ α; begins = of_der R (der_append R (to_der R h.begins) (der_refl R α)) }
  begins_first l (Begins.past n b) =
      let k = begins_first l b in
      record { token = l; rest = k.rest; begins = of_der R (der_append R (to_der R n) (to_der R k.begins)) }

  pub first_rule : {p A t : ℕ} {β : List ℕ} → R p A β → First R β t → First R (A ∷ []) t
  first_rule r f = record { token = f.token; rest = f.rest; begins = of_der R (rewritten R r (to_der R f.begins)) }

  pub first_closed : (t : ℕ) → Terminal t → ClosedFirst R (Fades R) (Starts R t)
  first_closed t l p A β r b = first_rule r (begins_first l b)

  -- A token begins itself.
  pub first_self : (t : ℕ) → Terminal t → Starts R t t
  first_self t l = record { token = l; rest = []; begins = Derives.done }

  pub first_begins : (t : ℕ) {α : List ℕ} → First R α t → Begins (Fades R) (Starts R t) α
  first_begins t f =
      closed_first R (Fades R) (Starts R t) empty_closed (first_closed t f.token) (to_der R f.begins)
      (Begins.here (first_self t f.token))

  -- Where no rule has a terminal on its left, a terminal begins with itself only, and is never empty.
  module _ (left : (p A : ℕ) (β : List ℕ) → R p A β → 64 ≤ A) where
    stays : {X t : ℕ} {γ : List ℕ} → Der R (X ∷ []) (t ∷ γ) → X < 64 → X ≡ t
    stays (Der.keep d) h = refl
    stays (Der.down {p = p} {A = A} {β = β} r d) h = absurd (let l = left p A β r in omega arith)

    pub terminal_first : (X t : ℕ) → X < 64 → Starts R t X → X ≡ t
    terminal_first X t h f = stays (to_der R f.begins) h

    remains : {X : ℕ} → Der R (X ∷ []) [] → X < 64 → ⊥
    remains (Der.down {p = p} {A = A} {β = β} r d) h = let l = left p A β r in omega arith

    pub terminal_stays : (X : ℕ) → X < 64 → Fades R X → ⊥
    terminal_stays X h d = remains (to_der R d) h
