-- What a walk over a list finds, by a mask of nonterminals that can be empty and a table of FIRST masks.
use Rattle.std.specs.Prelude.{ℕ, ◌-◌, ◌^◌, ◌≤◌, ◌<◌, ◌≡◌, true, false, List, [], ◌∷◌, ◌⊎◌, ◌↔◌, get_or}
use Rattle.std.proofs.Common.{sym, ◌∙◌, subst, true≢false, inl, inr, ⊎_elim, arith}
use Rattle.grammar.specs.Derivation.{All}
use Rattle.grammar.specs.Theory.Closed.{Begins}
use Rattle.sets.specs.Bits.{member}
use Rattle.sets.specs.Operations.{with, union}
use Rattle.sets.specs.Laws.{empty_none, with_same, with_cases, union_left, union_right, union_cases, same_members}

-- Token t begins the list, by the masks; or the list can be empty, and t is in `base`, which stands for what is behind.
pub data Opens (null : ℕ) (firsts : List ℕ) (base t : ℕ) : List ℕ → Type 0 where
  behind : member base t ≡ true → Opens null firsts base t []
  token : {X : ℕ} {α : List ℕ} → X < 64 → X ≡ t → Opens null firsts base t (X ∷ α)
  first : {X : ℕ} {α : List ℕ} → 64 ≤ X → member (get_or firsts (X - 64) 0) t ≡ true → Opens null firsts base t (X ∷ α)
  past : {X : ℕ} {α : List ℕ} → 64 ≤ X → member null (X - 64) ≡ true → Opens null firsts base t α → Opens null firsts base t (X ∷ α)

-- The bits of r are the tokens that begin the list, or what is behind it where the list can be empty.
pub record FirstWith (null : ℕ) (firsts : List ℕ) (base : ℕ) (α : List ℕ) (r : ℕ) : Type 0 where
  pub exact : (t : ℕ) → (member r t ≡ true) ↔ Opens null firsts base t α

-- A number of 64 bits with these members is one.
pub first_with_unique : {null base r s : ℕ} {firsts α : List ℕ} → FirstWith null firsts base α r → FirstWith null firsts base α s
    → r < 2 ^ 64 → s < 2 ^ 64 → r ≡ s
first_with_unique {r = r} {s = s} p q l m =
    same_members 64 r s l m (λ t h. (q.exact t).1 ((p.exact t).0 h)) (λ t h. (p.exact t).1 ((q.exact t).0 h))

module _ (null : ℕ) (firsts : List ℕ) where
  pub opens_nil : {base t : ℕ} → Opens null firsts base t [] → member base t ≡ true
  opens_nil (Opens.behind h) = h

  -- The empty list gives what is behind it,
  pub with_none : (base : ℕ) → FirstWith null firsts base [] base
  with_none base = record { exact = λ t. (Opens.behind, opens_nil) }

  graft : {base b t X : ℕ} {α : List ℕ} → Opens null firsts b t (X ∷ []) → (member b t ≡ true → Opens null firsts base t α)
      → Opens null firsts base t (X ∷ α)
  graft (Opens.token l e) f = Opens.token l e
  graft (Opens.first l m) f = Opens.first l m
  graft (Opens.past l n o) f = Opens.past l n (f (opens_nil o))

  prune : {base b t X : ℕ} {α : List ℕ} → Opens null firsts base t (X ∷ α) → (Opens null firsts base t α → member b t ≡ true)
      → Opens null firsts b t (X ∷ [])
  prune (Opens.token l e) f = Opens.token l e
  prune (Opens.first l m) f = Opens.first l m
  prune (Opens.past l n o) f = Opens.past l n (Opens.behind (f o))

  -- and a symbol in front takes what the rest gave as what is behind it.
  pub with_more : {base b r X : ℕ} {α : List ℕ} → FirstWith null firsts base α b → FirstWith null firsts b (X ∷ []) r
      → FirstWith null firsts base (X ∷ α) r
  with_more f g =
      record { exact = λ t. (λ m. graft ((g.exact t).0 m) (f.exact t).0, λ o. (g.exact t).1 (prune o (f.exact t).1)) }

  -- ---- One symbol

  pub with_token : (X b : ℕ) → X < 64 → FirstWith null firsts b (X ∷ []) (with 0 X)
  with_token X b l =
      record { exact = λ t. (λ m. ⊎_elim (λ e. Opens.token l e) (λ h. absurd (empty_none t h)) (with_cases 0 X t m), back) }
    where
      back : {t : ℕ} → Opens null firsts b t (X ∷ []) → member (with 0 X) t ≡ true
      back (Opens.token h e) = subst (λ k. member (with 0 X) k ≡ true) e (with_same 0 X)
      back (Opens.first h m) = absurd (omega arith)
      back (Opens.past h n o) = absurd (omega arith)

  pub with_past : (X b : ℕ) → 64 ≤ X → member null (X - 64) ≡ true → FirstWith null firsts b (X ∷ []) (union (get_or firsts (X - 64) 0) b)
  with_past X b l n = record { exact = λ t. (λ m. forth t (union_cases (get_or firsts (X - 64) 0) b t m), back) }
    where
      forth : (t : ℕ) → (member (get_or firsts (X - 64) 0) t ≡ true) ⊎ (member b t ≡ true) → Opens null firsts b t (X ∷ [])
      forth t (inl h) = Opens.first l h
      forth t (inr h) = Opens.past l n (Opens.behind h)

      back : {t : ℕ} → Opens null firsts b t (X ∷ []) → member (union (get_or firsts (X - 64) 0) b) t ≡ true
      back (Opens.token h e) = absurd (omega arith)
      back {t} (Opens.first h m) = union_left (get_or firsts (X - 64) 0) b t m
      back {t} (Opens.past h m o) = union_right (get_or firsts (X - 64) 0) b t (opens_nil o)

  pub with_stop : (X b : ℕ) → 64 ≤ X → member null (X - 64) ≡ false → FirstWith null firsts b (X ∷ []) (get_or firsts (X - 64) 0)
  with_stop X b l n = record { exact = λ t. (λ m. Opens.first l m, back) }
    where
      back : {t : ℕ} → Opens null firsts b t (X ∷ []) → member (get_or firsts (X - 64) 0) t ≡ true
      back (Opens.token h e) = absurd (omega arith)
      back (Opens.first h m) = m
      back (Opens.past h m o) = absurd (true≢false (sym m ∙ n))

  -- ---- What it says, where the masks say nothing false and miss nothing

  module _ (t : ℕ) (Null Begin : ℕ → Type 0) where
    -- What the masks say of X is so.
    pub record Says (X : ℕ) : Type 0 where
      pub token : X < 64 → X ≡ t → Begin X
      pub first : 64 ≤ X → member (get_or firsts (X - 64) 0) t ≡ true → Begin X
      pub fades : 64 ≤ X → member null (X - 64) ≡ true → Null X

    -- What is so of X, the masks say.
    pub record Hears (X : ℕ) : Type 0 where
      pub begin : Begin X → ((X < 64) × (X ≡ t)) ⊎ ((64 ≤ X) × (member (get_or firsts (X - 64) 0) t ≡ true))
      pub fades : Null X → (64 ≤ X) × (member null (X - 64) ≡ true)

    pub opens_say : {base : ℕ} {α : List ℕ} → All Says α → Opens null firsts base t α
        → Begins Null Begin α ⊎ (All Null α × (member base t ≡ true))
    opens_say a (Opens.behind h) = inr (All.nothing, h)
    opens_say (All.also s a) (Opens.token l e) = inl (Begins.here (s.token l e))
    opens_say (All.also s a) (Opens.first l m) = inl (Begins.here (s.first l m))
    opens_say (All.also s a) (Opens.past l n o) =
        ⊎_elim (λ b. inl (Begins.past (s.fades l n) b)) (λ k. inr (All.also (s.fades l n) k.0, k.1)) (opens_say a o)

    pub begins_open : {base : ℕ} {α : List ℕ} → All Hears α → Begins Null Begin α → Opens null firsts base t α
    begins_open (All.also s a) (Begins.here h) = ⊎_elim (λ k. Opens.token k.0 k.1) (λ k. Opens.first k.0 k.1) (s.begin h)
    begins_open (All.also s a) (Begins.past n b) = let k = s.fades n in Opens.past k.0 k.1 (begins_open a b)
    begins_open All.nothing x3 = elim x3 [ ]

    pub behind_open : {base : ℕ} {α : List ℕ} → All Hears α → All Null α → member base t ≡ true → Opens null firsts base t α
    behind_open a All.nothing m = Opens.behind m
    behind_open (All.also s a) (All.also n b) m = let k = s.fades n in Opens.past k.0 k.1 (behind_open a b m)
