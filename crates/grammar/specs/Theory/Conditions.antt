-- Conditions in their order: what the lowest refusal that applies is, and that it is one.
use Rattle.std.specs.Prelude.{ℕ, ◌≡◌, refl, List, [], ◌∷◌, ◌++◌}
use Rattle.std.proofs.Common.{sym, ◌∙◌, inl, inr, arith}
use Rattle.std.proofs.Math.Option.{Option, none, some}
use Rattle.grammar.specs.Refusals.{Condition, ◌unless◌, FirstFailing, Lowest}
use Rattle.grammar.specs.declared.Refusal.{Refusal}

-- Something is not nothing.
pub some_none : {A : Type 0} {o : Option A} {a : A} → o ≡ none → o ≡ some a → ⊥
some_none e f = let z : ◌≡◌ {A = ℕ} 0 1 = cc in omega arith

-- All conditions hold.
unfoldable pub Held : List Condition → Type 0
Held [] = Unit {0}
Held (c ∷ cs) = c.holds × Held cs

pub all_met : Lowest [] none
unfolding FirstFailing
all_met = record { is = refl }

-- The first condition fails,
pub applies : {c : Condition} {cs : List Condition} → (c.holds → ⊥) → Lowest (c ∷ cs) (some c.refusal)
unfolding FirstFailing
applies n = record { is = inl (n, refl) }

-- or it holds, and the rest decides.
pub passes : {c : Condition} {cs : List Condition} {o : Option Refusal} → c.holds → Lowest cs o → Lowest (c ∷ cs) o
unfolding FirstFailing
passes h l = record { is = inr (h, l.is) }

first_unique : (cs : List Condition) {o q : Option Refusal} → FirstFailing cs o → FirstFailing cs q → o ≡ q
unfolding FirstFailing
first_unique [] e f = e ∙ sym f
first_unique (c ∷ cs) (inl a) (inl b) = a.1 ∙ sym b.1
first_unique (c ∷ cs) (inl a) (inr b) = absurd (a.0 b.0)
first_unique (c ∷ cs) (inr a) (inl b) = absurd (b.0 a.0)
first_unique (c ∷ cs) (inr a) (inr b) = first_unique cs a.1 b.1

-- The lowest refusal that applies is one.
pub lowest_unique : {cs : List Condition} {o q : Option Refusal} → Lowest cs o → Lowest cs q → o ≡ q
lowest_unique {cs} l k = first_unique cs l.is k.is

-- Where none applies all hold.
first_held : (cs : List Condition) → FirstFailing cs none → Held cs
unfolding FirstFailing Held
first_held [] e = tt
first_held (c ∷ cs) (inl a) = absurd (some_none refl a.1)
first_held (c ∷ cs) (inr a) = (a.0, first_held cs a.1)

pub held : {cs : List Condition} → Lowest cs none → Held cs
held {cs} l = first_held cs l.is

-- Conditions behind others: a refusal of the first is one of all,
front_first : (cs ds : List Condition) (r : Refusal) → FirstFailing cs (some r) → FirstFailing (cs ++ ds) (some r)
unfolding FirstFailing
front_first [] ds r e = absurd (some_none e refl)
front_first (c ∷ cs) ds r (inl a) = inl a
front_first (c ∷ cs) ds r (inr a) = inr (a.0, front_first cs ds r a.1)

pub refused_front : {cs : List Condition} (ds : List Condition) {r : Refusal} → Lowest cs (some r) → Lowest (cs ++ ds) (some r)
refused_front {cs} ds {r} l = record { is = front_first cs ds r l.is }

-- and where the first hold the rest decides,
behind_first : (cs ds : List Condition) (o : Option Refusal) → FirstFailing cs none → FirstFailing ds o → FirstFailing (cs ++ ds) o
unfolding FirstFailing
behind_first [] ds o e l = l
behind_first (c ∷ cs) ds o (inl a) l = absurd (some_none refl a.1)
behind_first (c ∷ cs) ds o (inr a) l = inr (a.0, behind_first cs ds o a.1 l)

pub held_front : {cs ds : List Condition} {o : Option Refusal} → Lowest cs none → Lowest ds o → Lowest (cs ++ ds) o
held_front {cs} {ds} {o} l k = record { is = behind_first cs ds o l.is k.is }

-- and the other way round.
split_first : (cs ds : List Condition) → FirstFailing (cs ++ ds) none → FirstFailing cs none × FirstFailing ds none
unfolding FirstFailing
split_first [] ds l = (refl, l)
split_first (c ∷ cs) ds (inl a) = absurd (some_none refl a.1)
split_first (c ∷ cs) ds (inr a) = let k = split_first cs ds a.1 in (inr (a.0, k.0), k.1)

pub held_both : (cs ds : List Condition) → Lowest (cs ++ ds) none → Lowest cs none × Lowest ds none
held_both cs ds l = let k = split_first cs ds l.is in (record { is = k.0 }, record { is = k.1 })

-- A condition that says the same, behind which the rest comes to the same.
from_first : (cs : List Condition) (r : Refusal) (P Q : Type 0) (ds es : List Condition) (o : Option Refusal) → (P → Q) → (Q → P)
    → (P → FirstFailing ds o → FirstFailing es o)
    → FirstFailing (cs ++ ((r unless P) ∷ ds)) o → FirstFailing (cs ++ ((r unless Q) ∷ es)) o
unfolding FirstFailing
from_first [] r P Q ds es o f g k (inl a) = inl (λ q. a.0 (g q), a.1)
from_first [] r P Q ds es o f g k (inr a) = inr (f a.0, k a.0 a.1)
from_first (c ∷ cs) r P Q ds es o f g k (inl a) = inl a
from_first (c ∷ cs) r P Q ds es o f g k (inr a) = inr (a.0, from_first cs r P Q ds es o f g k a.1)

pub lowest_from : (cs : List Condition) (r : Refusal) {P Q : Type 0} (ds es : List Condition) {o : Option Refusal} → (P → Q) → (Q → P)
    → (P → Lowest ds o → Lowest es o) → Lowest (cs ++ ((r unless P) ∷ ds)) o → Lowest (cs ++ ((r unless Q) ∷ es)) o
lowest_from cs r {P} {Q} ds es {o} f g k l =
    record { is = from_first cs r P Q ds es o f g (λ p h. (k p (record { is = h })).is) l.is }

-- A condition alone that holds: none fails,
pub holds_alone : {r : Refusal} {P : Type 0} → P → Lowest ((r unless P) ∷ []) none
holds_alone h = passes h all_met

-- and it is as if it were not there.
pub none_fails : {c : Condition} {o : Option Refusal} → c.holds → Lowest (c ∷ []) o → Lowest [] o
unfolding FirstFailing
none_fails {c} {o} h l = record { is = go l.is }
  where
    go : FirstFailing (c ∷ []) o → FirstFailing [] o
    go (inl a) = absurd (a.0 h)
    go (inr a) = a.1
