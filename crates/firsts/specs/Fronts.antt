-- The walk over a right side from its front to the first symbol that cannot be empty, which gathers what begins it.
use Rattle.std.specs.Prelude.{ℕ, ◌+◌, ◌-◌, ◌≤◌, ◌<◌, ◌≡◌, true, false, List, [], ◌∷◌, ◌⊎◌, length, get_or, drop}
use Rattle.std.proofs.Common.{sym, ◌∙◌, subst, true≢false, inl, inr, ⊎_elim, arith}
use Rattle.firsts.specs.Walk.{drop_at, drop_over}
use Rattle.sets.specs.Bits.{member}
use Rattle.sets.specs.Operations.{with, union}
use Rattle.sets.specs.Laws.{empty_none, with_same, with_keeps, with_cases, union_left, union_right, union_cases}
use Rattle.firsts.specs.Opens.{Opens, FirstWith, opens_nil}

-- The walk over α has come to the rest β: a token begins α exactly if it was gathered or begins β.
pub record Fronted (null : ℕ) (firsts : List ℕ) (base : ℕ) (α β : List ℕ) (set : ℕ) : Type 0 where
  pub from : (t : ℕ) → Opens null firsts base t α → (member set t ≡ true) ⊎ Opens null firsts base t β
  pub got : (t : ℕ) → member set t ≡ true → Opens null firsts base t α
  pub rest : (t : ℕ) → Opens null firsts base t β → Opens null firsts base t α

module _ {null : ℕ} {firsts : List ℕ} {base : ℕ} where
  pub front_begins : (α : List ℕ) → Fronted null firsts base α (drop 0 α) 0
  front_begins α = record { from = λ t o. inr o; got = λ t m. absurd (empty_none t m); rest = λ t o. o }

  -- The rest from symbol i on begins with it,
  pub front_at : (xs : List ℕ) {α : List ℕ} {i set : ℕ} → i < length xs
      → Fronted null firsts base α (drop i xs) set → Fronted null firsts base α (get_or xs i 0 ∷ drop (i + 1) xs) set
  front_at xs {α} {set = set} below = subst (λ β. Fronted null firsts base α β set) (drop_at xs below)

  -- and behind the last one it has nothing, so that what is behind begins it too.
  pub front_ends : (xs : List ℕ) {α : List ℕ} {i set r : ℕ} → length xs ≤ i
      → Fronted null firsts base α (drop i xs) set → r ≡ union set base → FirstWith null firsts base α r
  front_ends xs {α} {set = set} {r} over o is = record { exact = λ t. (there t, back t) }
    where
      f : Fronted null firsts base α [] set
      f = subst (λ β. Fronted null firsts base α β set) (drop_over xs over) o

      there : (t : ℕ) → member r t ≡ true → Opens null firsts base t α
      there t m =
          ⊎_elim (f.got t) (λ h. f.rest t (Opens.behind h)) (union_cases set base t (subst (λ n. member n t ≡ true) is m))

      back : (t : ℕ) → Opens null firsts base t α → member r t ≡ true
      back t h =
          subst (λ n. member n t ≡ true) (sym is)
          (⊎_elim (union_left set base t) (λ e. union_right set base t (opens_nil null firsts e)) (f.from t h))

  -- At a token the walk ends.
  pub front_token : {α β : List ℕ} {x set r : ℕ} → Fronted null firsts base α (x ∷ β) set → x < 64 → r ≡ with set x
      → FirstWith null firsts base α r
  front_token {α} {β} {x} {set} {r} f low is = record { exact = λ t. (there t, back t) }
    where
      there : (t : ℕ) → member r t ≡ true → Opens null firsts base t α
      there t m =
          ⊎_elim (λ e. f.rest t (Opens.token low e)) (f.got t) (with_cases set x t (subst (λ n. member n t ≡ true) is m))

      only : (t : ℕ) → Opens null firsts base t (x ∷ β) → member (with set x) t ≡ true
      only t (Opens.token h e) = subst (λ k. member (with set x) k ≡ true) e (with_same set x)
      only t (Opens.first h m) = absurd (omega arith)
      only t (Opens.past h n o) = absurd (omega arith)

      back : (t : ℕ) → Opens null firsts base t α → member r t ≡ true
      back t h = subst (λ n. member n t ≡ true) (sym is) (⊎_elim (with_keeps set x t) (only t) (f.from t h))

  -- FIRST of a nonterminal is gathered: behind one that can be empty the walk goes on,
  pub front_past : {α β : List ℕ} {x set more : ℕ} → Fronted null firsts base α (x ∷ β) set → 64 ≤ x
      → more ≡ union set (get_or firsts (x - 64) 0) → member null (x - 64) ≡ true → Fronted null firsts base α β more
  front_past {α} {β} {x} {set} {more} f high is n =
      record { from = λ t h. ⊎_elim (λ m. inl (there t (union_left set own t m))) (next t) (f.from t h); got = got; rest = rest }
    where
      own : ℕ
      own = get_or firsts (x - 64) 0

      there : (t : ℕ) → member (union set own) t ≡ true → member more t ≡ true
      there t m = subst (λ n. member n t ≡ true) (sym is) m

      next : (t : ℕ) → Opens null firsts base t (x ∷ β) → (member more t ≡ true) ⊎ Opens null firsts base t β
      next t (Opens.token h e) = absurd (omega arith)
      next t (Opens.first h m) = inl (there t (union_right set own t m))
      next t (Opens.past h m o) = inr o

      got : (t : ℕ) → member more t ≡ true → Opens null firsts base t α
      got t m =
          ⊎_elim (f.got t) (λ h. f.rest t (Opens.first high h)) (union_cases set own t (subst (λ n. member n t ≡ true) is m))

      rest : (t : ℕ) → Opens null firsts base t β → Opens null firsts base t α
      rest t o = f.rest t (Opens.past high n o)

  -- and at any other it ends.
  pub front_stop : {α β : List ℕ} {x set more : ℕ} → Fronted null firsts base α (x ∷ β) set → 64 ≤ x
      → more ≡ union set (get_or firsts (x - 64) 0) → member null (x - 64) ≡ false → FirstWith null firsts base α more
  front_stop {α} {β} {x} {set} {more} f high is n = record { exact = λ t. (there t, back t) }
    where
      own : ℕ
      own = get_or firsts (x - 64) 0

      there : (t : ℕ) → member more t ≡ true → Opens null firsts base t α
      there t m =
          ⊎_elim (f.got t) (λ h. f.rest t (Opens.first high h)) (union_cases set own t (subst (λ n. member n t ≡ true) is m))

      only : (t : ℕ) → Opens null firsts base t (x ∷ β) → member own t ≡ true
      only t (Opens.token h e) = absurd (omega arith)
      only t (Opens.first h m) = m
      only t (Opens.past h m o) = absurd (true≢false (sym m ∙ n))

      back : (t : ℕ) → Opens null firsts base t α → member more t ≡ true
      back t h =
          subst (λ n. member n t ≡ true) (sym is) (⊎_elim (union_left set own t) (λ o. union_right set own t (only t o)) (f.from t h))
