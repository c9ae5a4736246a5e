-- Demand 1: when a refusal is due. Its condition fails, and every condition that is tested before it holds; where conditions stand in the
-- order of their numbers, that is "the lowest applicable number".
use Rattle.std.specs.Prelude.{ℕ, ◌≤◌, ◌<◌, ◌≡◌, refl, List, [], ◌∷◌, ◌++◌, ◌↔◌, ◌⊎◌}
use Rattle.std.proofs.Common.{sym, ap, inl, inr, arith}
use Rattle.std.proofs.Math.Option.{none, some}
use Rattle.grammar.specs.Refusals.{number_of, Condition, FirstFailing, Lowest}
use Rattle.grammar.specs.declared.Refusal.{Refusal}
use Rattle.grammar.specs.Theory.Conditions.{Held, held, some_none}

-- Refusal r is due, of conditions in the order in which they are tested: its own fails, and all before it hold.
unfoldable pub Due : List Condition → Refusal → Type 0
Due [] r = ⊥
Due (c ∷ cs) r = ((c.refusal ≡ r) × (c.holds → ⊥)) ⊎ (c.holds × Due cs r)

-- ---- The refusal that is given is the one that is due

some_same : {r q : Refusal} → ◌≡◌ (some r) (some q) → r ≡ q
some_same e = cc

first_due : (cs : List Condition) (r : Refusal) → FirstFailing cs (some r) → Due cs r
unfolding FirstFailing Due
first_due [] r e = absurd (some_none e refl)
first_due (c ∷ cs) r (inl f) = inl (sym (some_same f.1), f.0)
first_due (c ∷ cs) r (inr f) = inr (f.0, first_due cs r f.1)

due_first : (cs : List Condition) (r : Refusal) → Due cs r → FirstFailing cs (some r)
unfolding FirstFailing Due
due_first [] r d = absurd d
due_first (c ∷ cs) r (inl f) = inl (f.1, ap some (sym f.0))
due_first (c ∷ cs) r (inr f) = inr (f.0, due_first cs r f.1)

pub lowest_due : (cs : List Condition) (r : Refusal) → Lowest cs (some r) ↔ Due cs r
lowest_due cs r = (λ l. first_due cs r l.is, λ d. record { is = due_first cs r d })

-- None of these has refusal r.
unfoldable pub Without : List Condition → Refusal → Type 0
Without [] r = Unit {0}
Without (c ∷ cs) r = (c.refusal ≡ r → ⊥) × Without cs r

-- A refusal that no condition of the first list has is due in the second, where all of the first hold.
pub due_behind : (cs ds : List Condition) (r : Refusal) → Without cs r → Due (cs ++ ds) r → Held cs × Due ds r
unfolding Without Due Held
due_behind [] ds r w d = (tt, d)
due_behind (c ∷ cs) ds r w (inl f) = absurd (w.0 f.0)
due_behind (c ∷ cs) ds r w (inr f) = let rest = due_behind cs ds r w.1 f.1 in ((f.0, rest.0), rest.1)

-- ---- By numbers

-- The condition of refusal r is among these and fails.
unfoldable pub Fails : List Condition → Refusal → Type 0
Fails [] r = ⊥
Fails (c ∷ cs) r = ((c.refusal ≡ r) × (c.holds → ⊥)) ⊎ Fails cs r

-- Every condition among these with a number below n holds.
unfoldable pub HeldBelow : List Condition → ℕ → Type 0
HeldBelow [] n = Unit {0}
HeldBelow (c ∷ cs) n = (number_of c.refusal < n → c.holds) × HeldBelow cs n

-- "The lowest applicable number": the condition of r fails, and all of lower numbers hold.
pub record LowestNumber (cs : List Condition) (r : Refusal) : Type 0 where
  pub fails : Fails cs r
  pub lower : HeldBelow cs (number_of r)

-- The numbers of the conditions ascend, and are above n.
unfoldable pub Above : ℕ → List Condition → Type 0
Above n [] = Unit {0}
Above n (c ∷ cs) = (n < number_of c.refusal) × Above (number_of c.refusal) cs

-- The conditions stand in the order of their numbers.
abbrev pub InOrder : List Condition → Type 0
InOrder cs = Above 0 cs

fails_above : (n : ℕ) (cs : List Condition) (r : Refusal) → Above n cs → Fails cs r → n < number_of r
unfolding Above Fails
fails_above n [] r a f = absurd f
fails_above n (c ∷ cs) r a (inl f) = let e = ap number_of f.0 in omega (arith, a.0)
fails_above n (c ∷ cs) r a (inr f) = omega (arith, a.0, fails_above (number_of c.refusal) cs r a.1 f)

none_below : (n m : ℕ) (cs : List Condition) → Above n cs → m ≤ n → HeldBelow cs m
unfolding Above HeldBelow
none_below n m [] a l = tt
none_below n m (c ∷ cs) a l =
    let up = a.0 in
    (λ h. absurd (omega arith), none_below (number_of c.refusal) m cs a.1 (omega arith))

due_lowest : (n : ℕ) (cs : List Condition) (r : Refusal) → Above n cs → Due cs r → Fails cs r × HeldBelow cs (number_of r)
unfolding Above Fails HeldBelow Due
due_lowest n [] r a d = absurd d
due_lowest n (c ∷ cs) r a (inl f) =
    let k : number_of r ≡ number_of c.refusal = ap number_of (sym f.0) in
    (inl f, (λ h. absurd (omega arith), none_below (number_of c.refusal) (number_of r) cs a.1 (omega arith)))
due_lowest n (c ∷ cs) r a (inr f) =
    let rest = due_lowest (number_of c.refusal) cs r a.1 f.1 in
    (inr rest.0, (λ h. f.0, rest.1))

lowest_is_due : (n : ℕ) (cs : List Condition) (r : Refusal) → Above n cs → Fails cs r → HeldBelow cs (number_of r) → Due cs r
unfolding Above Fails HeldBelow Due
lowest_is_due n [] r a f l = absurd f
lowest_is_due n (c ∷ cs) r a (inl f) l = inl f
lowest_is_due n (c ∷ cs) r a (inr f) l =
    inr (l.0 (fails_above (number_of c.refusal) cs r a.1 f), lowest_is_due (number_of c.refusal) cs r a.1 f l.1)

-- Of conditions in the order of their numbers, the one that is due has the lowest that applies.
pub lowest_number : {cs : List Condition} → InOrder cs → (r : Refusal) → Due cs r ↔ LowestNumber cs r
lowest_number {cs} a r = (
  λ d. let l = due_lowest 0 cs r a d in record { fails = l.0; lower = l.1 },
  λ l. lowest_is_due 0 cs r a l.fails l.lower,
)

-- ---- No refusal is due exactly where all conditions hold

held_first : (cs : List Condition) → Held cs → FirstFailing cs none
unfolding Held FirstFailing
held_first [] h = refl
held_first (c ∷ cs) h = inr (h.0, held_first cs h.1)

pub lowest_held : (cs : List Condition) → Lowest cs none ↔ Held cs
lowest_held cs = (λ l. held l, λ h. record { is = held_first cs h })
