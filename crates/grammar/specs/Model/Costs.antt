-- The costs of a list of rules: rounds in which each nonterminal takes its cheapest right side. Where a round's table passes
-- the test `is_settled`, each entry is exactly the cost by derivations.
use Prim.Native.Nat.{ℕ, zero, suc, ◌+◌, ◌-◌}
use Rattle.std.specs.Prelude.{◌≡◌, Bool, ◌⊎◌, get_or, leb}
use Rattle.std.proofs.Math.Path.{refl, subst}
use Rattle.std.proofs.Common.{sym, inl, inr, arith, eqb→eq, ltb→lt}
use Rattle.std.proofs.Math.Bool.{true, false, cond}
use Rattle.std.proofs.Math.Option.{Option, none, some}
use mathlib.Core.List.{List, [], ◌∷◌, map}
use Rattle.std.proofs.Math.Logic.{⊎_elim}
use Rattle.std.proofs.Math.Dec.{T, eqb, ltb}
use Rattle.grammar.specs.Theory.Rewriting.{Affords, affords_nothing, affords_terminal, affords_append, affords_rule}
use Rattle.grammar.specs.Theory.Pigeonhole.{range}
use borrow.Author.Tests.{ltb-false}
use Rattle.grammar.specs.Model.Tests.{none_some, some_same}
use Rattle.grammar.specs.Model.Ruled.{Rule, RuleAt}

-- The sum of two costs, where both are known; the lower of two, where one is.
unfoldable pub plus : Option ℕ → Option ℕ → Option ℕ
plus none b = none
plus (some a) none = none
plus (some a) (some b) = some (a + b)

unfoldable pub lower : Option ℕ → Option ℕ → Option ℕ
lower none b = b
lower (some a) none = some a
lower (some a) (some b) = cond (leb a b) (some a) (some b)

-- What a symbol costs by a table of the nonterminals' costs.
unfoldable pub cost_by : (ℕ → ℕ) → List (Option ℕ) → ℕ → Option ℕ
cost_by price table X = cond (ltb X 64) (some (price X)) (get_or table (X - 64) none)

unfoldable pub sum_by : (ℕ → ℕ) → List (Option ℕ) → List ℕ → Option ℕ
unfolding plus cost_by
sum_by price table [] = some 0
sum_by price table (X ∷ α) = plus (cost_by price table X) (sum_by price table α)

-- The cheapest right side of A.
unfoldable pub best : (ℕ → ℕ) → List (Option ℕ) → ℕ → List Rule → Option ℕ
unfolding lower sum_by
best price table A [] = none
best price table A (r ∷ rs) = lower (cond (eqb A r.left) (sum_by price table r.right) none) (best price table A rs)

-- The table after n rounds.
unfoldable pub rounds : (ℕ → ℕ) → List Rule → ℕ → ℕ → List (Option ℕ)
unfolding range best
rounds price rs N zero = map (λ A. none) (range 64 N)
rounds price rs N (suc n) = let table = rounds price rs N n in map (λ A. best price table A rs) (range 64 N)

-- ---- Each entry is the cost of a terminal string

pub plus_some : (a b : Option ℕ) (c : ℕ) → plus a b ≡ some c → (x y : ℕ) × (a ≡ some x) × (b ≡ some y) × (c ≡ x + y)
unfolding plus
plus_some none b c e = absurd (none_some e)
plus_some (some a) none c e = absurd (none_some e)
plus_some (some a) (some b) c e = (a, b, refl, refl, cc)

lower_some : (a b : Option ℕ) (c : ℕ) → lower a b ≡ some c → (a ≡ some c) ⊎ (b ≡ some c)
unfolding lower
lower_some none b c e = inr e
lower_some (some a) none c e = inl e
lower_some (some a) (some b) c e = go (leb a b) e
  where
    go : (t : Bool) → cond t (some a) (some b) ≡ some c → (some a ≡ some c) ⊎ (some b ≡ some c)
    go true e = inl e
    go false e = inr e

module _ (rs : List Rule) (price : ℕ → ℕ) where
  -- Every entry of the table is the cost of a string.
  abbrev pub Sound : List (Option ℕ) → Type 0
  Sound table = (X c : ℕ) → cost_by price table X ≡ some c → Affords (RuleAt rs) price (X ∷ []) c

  sum_sound : (table : List (Option ℕ)) → Sound table → (α : List ℕ) (c : ℕ) → sum_by price table α ≡ some c → Affords (RuleAt rs) price α c
  unfolding sum_by
  sum_sound table s [] c e = subst (Affords (RuleAt rs) price []) (some_same e) (affords_nothing (RuleAt rs) price)
  sum_sound table s (X ∷ α) c e =
      let h = plus_some (cost_by price table X) (sum_by price table α) c e in
      subst (λ n. Affords (RuleAt rs) price (X ∷ α) n) (sym h.4)
      (affords_append (RuleAt rs) price (s X h.0 h.2) (sum_sound table s α h.1 h.3))

  -- The rule that a cheapest right side comes from.
  best_rule : (table : List (Option ℕ)) (A c : ℕ) (us : List Rule) → best price table A us ≡ some c
      → (p : ℕ) × (β : List ℕ) × RuleAt us p A β × (sum_by price table β ≡ some c)
  unfolding best
  best_rule table A c [] e = absurd (none_some e)
  best_rule table A c (r ∷ us) e =
      ⊎_elim
      (λ k. here (eqb A r.left) refl k)
      (λ k. let h = best_rule table A c us k in (suc h.0, h.1, RuleAt.there h.2, h.3))
      (lower_some (cond (eqb A r.left) (sum_by price table r.right) none) (best price table A us) c e)
    where
      here : (b : Bool) → eqb A r.left ≡ b → cond b (sum_by price table r.right) none ≡ some c
          → (p : ℕ) × (β : List ℕ) × RuleAt (r ∷ us) p A β × (sum_by price table β ≡ some c)
      here true q k = (0, r.right, RuleAt.here (eqb→eq A r.left (subst T (sym q) tt)) refl, k)
      here false q k = absurd (none_some k)

-- An entry of a table made over a range.
range_entry : (f : ℕ → Option ℕ) (a n i c : ℕ) → get_or (map f (range a n)) i none ≡ some c → f (a + i) ≡ some c
unfolding range
range_entry f a zero i c e = absurd (none_some e)
range_entry f a (suc n) zero c e = subst (λ k. f k ≡ some c) (omega arith) e
range_entry f a (suc n) (suc i) c e = subst (λ k. f k ≡ some c) (omega arith) (range_entry f (suc a) n i c e)

module _ (rs : List Rule) (price : ℕ → ℕ) (N : ℕ) where
  -- A table over the nonterminals is sound where each entry is.
  table_sound : (f : ℕ → Option ℕ) → ((A c : ℕ) → f A ≡ some c → Affords (RuleAt rs) price (A ∷ []) c)
      → Sound rs price (map f (range 64 N))
  unfolding cost_by
  table_sound f s X c e = go (ltb X 64) refl e
    where
      go : (b : Bool) → ltb X 64 ≡ b → cond b (some (price X)) (get_or (map f (range 64 N)) (X - 64) none) ≡ some c
          → Affords (RuleAt rs) price (X ∷ []) c
      go true q k = affords_terminal (RuleAt rs) price (ltb→lt X 64 (subst T (sym q) tt)) (some_same k)
      go false q k =
          subst (λ Y. Affords (RuleAt rs) price (Y ∷ []) c) (omega (arith, ltb-false X 64 q))
          (s (64 + (X - 64)) c (range_entry f 64 N (X - 64) c k))

  pub rounds_sound : (n : ℕ) → Sound rs price (rounds price rs N n)
  unfolding rounds
  rounds_sound zero = table_sound (λ A. none) (λ A c e. absurd (none_some e))
  rounds_sound (suc n) =
      let table = rounds price rs N n in
      table_sound (λ A. best price table A rs)
      (λ A c e.
      let h = best_rule rs price table A c rs e in
      affords_rule (RuleAt rs) price h.2 (sum_sound rs price table (rounds_sound n) h.1 c h.3))
