-- The marks that the words of a token buffer tell: below 4,096 a place of the log, which has at most so many tokens; from there on an
-- added token.
use Prim.Native.Nat.{ℕ, zero, suc, ◌+◌, ◌-◌, ◌≤◌, ◌<◌}
use native.Mathlib.Omega.{arith}
use Rattle.std.specs.Prelude.{cond, ◌≡◌, refl, ltb, length, take, get_or}
use Rattle.std.proofs.Math.Path.{ap}
use Rattle.std.proofs.Common.{ap₂, ◌∙◌, lt-ltb, le-ltb, get_or-take}
use mathlib.Core.List.{List, [], ◌∷◌, map, Memᴰ}
use Rattle.grammar.specs.Marks.{Mark}
use Rattle.marks.specs.Answer.{word_by}

-- The mark that a word tells.
unfoldable pub mark_of : List ℕ → ℕ → Mark
mark_of log v = cond (ltb v 4096) (Mark.kept v (get_or log v 0)) (Mark.added (v - 4096))

abbrev pub marks_in : List ℕ → List ℕ → List Mark
marks_in log ws = map (mark_of log) ws

pub mark_kept : (log : List ℕ) (v : ℕ) → v < 4096 → mark_of log v ≡ Mark.kept v (get_or log v 0)
unfolding mark_of
mark_kept log v l = simp (lt-ltb v 4096 l)

pub mark_added : (log : List ℕ) (v : ℕ) → 4096 ≤ v → mark_of log v ≡ Mark.added (v - 4096)
unfolding mark_of
mark_added log v l = simp (le-ltb v 4096 l)

-- A word below 4,096 is a place of the log, and each place has its tick.
pub record Placed (words log ticks : List ℕ) : Type 0 where
  pub place : (i : ℕ) → i < length words → get_or words i 0 < 4096 → get_or words i 0 < length log
  pub timed : length ticks ≡ length log

-- Each kept mark is the token at its place of the log.
abbrev pub KeptFrom : List ℕ → List Mark → Type 0
KeptFrom log xs = (p t : ℕ) → Memᴰ (Mark.kept p t) xs → (p < length log) × (get_or log p 0 ≡ t)

-- The places of a log have their own numbers where all do.
pub named_front : (places log : List ℕ) {room : ℕ} → ((p : ℕ) → p < length places → get_or places p 0 ≡ p) → length places ≡ room
    → length log ≤ room → (p : ℕ) → p < length log → get_or (take (length log) places) p 0 ≡ p
named_front places log all e l p h = get_or-take (length log) places p 0 h ∙ all p (omega arith)

-- Where each place has its own number, and 4,096 is no place, the words that stand for marks tell them.
module _ (log places : List ℕ) (short : length log ≤ 4096) (named : (p : ℕ) → p < length log → get_or places p 0 ≡ p) where
  one_told : (x : Mark) → KeptFrom log (x ∷ []) → mark_of log (word_by places 4096 x) ≡ x
  unfolding word_by
  one_told (Mark.kept p t) from =
      let here = from p t (Memᴰ.head refl) in
      let number = named p here.0 in
      ap (mark_of log) number ∙ (mark_kept log p (omega (arith, here.0)) ∙ ap (Mark.kept p) here.1)
  one_told (Mark.added t) from =
      let token : t + 4096 - 4096 ≡ t = omega arith in
      mark_added log (t + 4096) (omega arith) ∙ ap Mark.added token

  front_from : (x : Mark) (xs : List Mark) → KeptFrom log (x ∷ xs) → KeptFrom log (x ∷ [])
  front_from x xs from p t (Memᴰ.head e) = from p t (Memᴰ.head e)
  front_from x xs from p t (mathlib.Core.List.Memᴰ.tail x5) = elim x5 [ ]

  pub all_told : (xs : List Mark) → KeptFrom log xs → marks_in log (map (word_by places 4096) xs) ≡ xs
  all_told [] from = refl
  all_told (x ∷ xs) from = ap₂ ◌∷◌ (one_told x (front_from x xs from)) (all_told xs (λ p t m. from p t (Memᴰ.tail m)))

  -- None of them is below 4,096 and no place.
  pub all_placed : (xs : List Mark) → KeptFrom log xs → (i : ℕ) → i < length (map (word_by places 4096) xs)
      → get_or (map (word_by places 4096) xs) i 0 < 4096 → get_or (map (word_by places 4096) xs) i 0 < length log
  unfolding word_by
  all_placed [] from i l small = absurd (omega arith)
  all_placed (Mark.kept p t ∷ xs) from zero l small =
      let here = from p t (Memᴰ.head refl) in
      omega (arith, here.0, named p here.0)
  all_placed (Mark.added t ∷ xs) from zero l small = absurd (omega arith)
  all_placed (x ∷ xs) from (suc i) l small = all_placed xs (λ p t m. from p t (Memᴰ.tail m)) i (omega arith) small
