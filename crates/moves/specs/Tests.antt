-- What the code tests of a symbol, and the move that it then picks.
use Rattle.std.specs.Prelude.{ℕ, ◌-◌, ◌≤◌, ◌<◌, ◌≡◌, refl, ◌⊎◌, Bool, true, false, cond, List, get_or, leb, ltb, eqb}
use Rattle.std.proofs.Common.{sym, ◌∙◌, subst, inl, inr, lt-ltb, le-ltb, ltb-true, ltb-false, leb-true, leb-false}
use Rattle.sets.specs.Bits.{member}
use Rattle.moves.specs.declared.Pick.{Pick}
use Rattle.moves.specs.declared.Pick.TheVariants.{Match, Expand, Drop, Error}

-- Token t is in FIRST of the symbol: a terminal's is itself, a nonterminal's stands in the table.
unfoldable pub begins_by : List ℕ → ℕ → ℕ → Bool
begins_by masks x t = cond (ltb x 64) (eqb x t) (member (get_or masks (x - 64) 0) t)

-- The symbol can be empty: no terminal can.
unfoldable pub empty_by : List ℕ → ℕ → Bool
empty_by masks x = cond (ltb x 64) false (member (get_or masks 64 0) (x - 64))

-- "Top equal to t": match. "Top a nonterminal with t in its FIRST": expand. "Any other top can be empty": drop. "Otherwise t is in
-- error".
unfoldable pub pick_by : ℕ → Bool → Bool → Pick
pick_by x begins empty = cond (ltb x 64) (cond begins Match Error) (cond begins Expand (cond empty Drop Error))

-- ---- What is picked where, and what a pick tells

module _ (x : ℕ) (begins empty : Bool) where
  pub picks_match : x < 64 → begins ≡ true → Match ≡ pick_by x begins empty
  unfolding pick_by
  picks_match l b = rw (lt-ltb x 64 l, b)

  pub picks_none : x < 64 → begins ≡ false → Error ≡ pick_by x begins empty
  unfolding pick_by
  picks_none l b = rw (lt-ltb x 64 l, b)

  pub picks_expand : 64 ≤ x → begins ≡ true → Expand ≡ pick_by x begins empty
  unfolding pick_by
  picks_expand l b = rw (le-ltb x 64 l, b)

  pub picks_drop : 64 ≤ x → begins ≡ false → empty ≡ true → Drop ≡ pick_by x begins empty
  unfolding pick_by
  picks_drop l b e = rw (le-ltb x 64 l, b, e)

  pub picks_error : 64 ≤ x → begins ≡ false → empty ≡ false → Error ≡ pick_by x begins empty
  unfolding pick_by
  picks_error l b e = rw (le-ltb x 64 l, b, e)

-- The pick tells the tests.
unfoldable pub Told : ℕ → Bool → Bool → Pick → Type 0
Told x begins empty Match = (begins ≡ true) × (x < 64)
Told x begins empty Expand = (begins ≡ true) × (64 ≤ x)
Told x begins empty Drop = (begins ≡ false) × (empty ≡ true)
Told x begins empty Error = (begins ≡ false) × ((empty ≡ false) ⊎ (x < 64))

pub told : (x : ℕ) (begins empty : Bool) → Told x begins empty (pick_by x begins empty)
unfolding Told pick_by
told x begins empty = go (ltb x 64) refl begins refl empty refl
  where
    go : (l : Bool) → ltb x 64 ≡ l → (b : Bool) → begins ≡ b → (e : Bool) → empty ≡ e
        → Told x begins empty (cond l (cond b Match Error) (cond b Expand (cond e Drop Error)))
    go true q true r e s = (r, ltb-true x 64 q)
    go true q false r e s = (r, inr (ltb-true x 64 q))
    go false q true r e s = (r, ltb-false x 64 q)
    go false q false r true s = (r, s)
    go false q false r false s = (r, inl s)

pub terminal_not_empty : (masks : List ℕ) (x : ℕ) → x < 64 → empty_by masks x ≡ false
unfolding empty_by
terminal_not_empty masks x l = rw (lt-ltb x 64 l)

pub le_or_lt : (m n : ℕ) → (m ≤ n) ⊎ (n < m)
le_or_lt m n = go (leb m n) refl
  where
    go : (b : Bool) → leb m n ≡ b → (m ≤ n) ⊎ (n < m)
    go true e = inl (leb-true m n e)
    go false e = inr (leb-false m n e)

-- What is picked tells the tests.
pub told_of : (x : ℕ) (begins empty : Bool) {r p : Pick} → r ≡ pick_by x begins empty → r ≡ p → Told x begins empty p
told_of x begins empty e q = subst (λ y. Told x begins empty y) (sym e ∙ q) (told x begins empty)
