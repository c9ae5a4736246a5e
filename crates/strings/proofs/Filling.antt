-- The loops over a right side and over tables: what holds before each turn.
use Prim.Native.Nat.{ℕ, ◌+◌, ◌/◌, ◌%◌, ◌≤◌, ◌<◌}
use mathlib.Core.Path.{◌≡◌, refl, sym, ap, ◌∙◌, subst}
use mathlib.Core.Bool.{Bool, true, false, true≢false}
use mathlib.Core.List.{List, ◌∷◌}
use mathlib.Core.Logic.{dite}
use native.Mathlib.Decide.{dec_lt}
use native.Mathlib.Omega.{arith}
use lib.ListN.{length, get_or, set, length-set}
use lib.Seq.{get_or-set_same, get_or-set_other, set-get_or}
use Rattle.grammar.specs.Derivation.{All}
use Rattle.grammar.specs.Theory.Closed.{total}
use Rattle.strings.specs.Laws.{members_none, members_more}
use Rattle.strings.specs.Gathering.{Gathered}
use Rattle.strings.specs.Lengths.{CanSum, Rounded, Renewed}
use Rattle.strings.specs.Spelling.{members, length_in}

-- ---- The sum over a right side

-- The sum so far, and what is left of the right side.
pub record Summed (lengths : List ℕ) (right left sum : ℕ) : Type 0 where
  pub adds : sum + total (λ X. length_in lengths X) (members left) ≡ total (λ X. length_in lengths X) (members right)
  pub inside : All (λ X. X < 128) (members left)

pub sum_begins : {lengths : List ℕ} {right : ℕ} → CanSum lengths right → Summed lengths right right 0
sum_begins can = record { adds = omega arith; inside = can.inside }

module _ {lengths : List ℕ} {right left sum : ℕ} (s : Summed lengths right left sum) where
  module _ (some : 0 < left) where
    parted : total (λ X. length_in lengths X) (members left)
        ≡ length_in lengths (left % 256) + total (λ X. length_in lengths X) (members (left / 256))
    unfolding total
    parted = ap (total (λ X. length_in lengths X)) (members_more left some)

    mine : All (λ X. X < 128) (left % 256 ∷ members (left / 256))
    mine = subst (λ l. All (λ X. X < 128) l) (members_more left some) s.inside

    head_of : {P : ℕ → Type 0} {x : ℕ} {l : List ℕ} → All P (x ∷ l) → P x
    head_of (All.also h a) = h

    tail_of : {P : ℕ → Type 0} {x : ℕ} {l : List ℕ} → All P (x ∷ l) → All P l
    tail_of (All.also h a) = a

    pub sum_inside : left % 256 < 128
    sum_inside = head_of mine

    pub sum_small : CanSum lengths right → sum + length_in lengths (left % 256) ≤ 60000
    sum_small can = omega (arith, s.adds, parted, can.limit)

    pub sum_goes : {r : ℕ} → r ≡ length_in lengths (left % 256) → Summed lengths right (left / 256) (sum + r)
    sum_goes e = record { adds = omega (arith, s.adds, parted, e); inside = tail_of mine }

  pub sum_ends : left ≡ 0 → sum ≡ total (λ X. length_in lengths X) (members right)
  unfolding total
  sum_ends e =
      let none : total (λ X. length_in lengths X) (members left) ≡ 0 =
      ap (λ n. total (λ X. length_in lengths X) (members n)) e ∙ ap (total (λ X. length_in lengths X)) members_none in
      omega (arith, s.adds, none)

-- ---- Tables, entry by entry

-- An entry is set: what was said of the entries before it and of those behind stays.
set_before : (table : List ℕ) (k v : ℕ) {x : ℕ} (i : ℕ) → i < k → get_or table i 0 ≡ x → get_or (set table k v) i 0 ≡ x
set_before table k v i l e = get_or-set_other table k i v 0 (λ f. omega arith) ∙ e

set_behind : (table : List ℕ) (k v : ℕ) {x : ℕ} (i : ℕ) → k + 1 ≤ i → get_or table i 0 ≡ x → get_or (set table k v) i 0 ≡ x
set_behind table k v i l e = get_or-set_other table k i v 0 (λ f. omega arith) ∙ e

pub gather_begins : {prices sides old : List ℕ} → Gathered 0 prices sides old old
gather_begins = record { size = refl; right = λ i l. absurd (omega arith); others = λ i l. refl }

pub gather_goes : {prices sides old table : List ℕ} {k v : ℕ} → k < length table → Gathered k prices sides old table
    → v ≡ get_or sides (256 + get_or prices (128 + k) 0) 0 → Gathered (k + 1) prices sides old (set table k v)
gather_goes {prices} {sides} {old} {table} {k} {v} low g e =
    record {
      size = length-set table k v ∙ g.size;
      right = λ i l.
          dite (dec_lt i k)
          (λ h. set_before table k v i h (g.right i h))
          (λ h.
          let same : k ≡ i = omega arith in
          subst (λ n. get_or (set table k v) n 0 ≡ get_or sides (256 + get_or prices (128 + n) 0) 0) same
          (get_or-set_same table k v 0 low ∙ e));
      others = λ i l. set_behind table k v i l (g.others i (omega arith));
    }

pub round_begins : {table lengths old : List ℕ} → Rounded table 0 lengths old old
round_begins = record { size = refl; sums = λ i l. absurd (omega arith); others = λ i l. refl }

pub round_goes : {table lengths old next : List ℕ} {k v : ℕ} → k < length next → Rounded table k lengths old next
    → v ≡ total (λ X. length_in lengths X) (members (get_or table k 0)) → Rounded table (k + 1) lengths old (set next k v)
round_goes {table} {lengths} {old} {next} {k} {v} low r e =
    record {
      size = length-set next k v ∙ r.size;
      sums = λ i l.
          dite (dec_lt i k)
          (λ h. set_before next k v i h (r.sums i h))
          (λ h.
          let same : k ≡ i = omega arith in
          subst (λ n. get_or (set next k v) n 0 ≡ total (λ X. length_in lengths X) (members (get_or table n 0))) same
          (get_or-set_same next k v 0 low ∙ e));
      others = λ i l. set_behind next k v i l (r.others i (omega arith));
    }

pub renew_begins : {next old : List ℕ} → Renewed 0 next old old false
renew_begins = record { size = refl; taken = λ i l. absurd (omega arith); others = λ i l. refl; same = λ e i. refl }

-- An entry is taken over; where it was the same already, nothing changes.
pub renew_goes : {next old lengths : List ℕ} {k v : ℕ} {changed changed' : Bool} → k < length lengths → Renewed k next old lengths changed
    → v ≡ get_or next k 0 → (changed' ≡ false → (changed ≡ false) × (get_or lengths k 0 ≡ v))
    → Renewed (k + 1) next old (set lengths k v) changed'
renew_goes {next} {old} {lengths} {k} {v} low r e f =
    record {
      size = length-set lengths k v ∙ r.size;
      taken = λ i l.
          dite (dec_lt i k)
          (λ h. set_before lengths k v i h (r.taken i h))
          (λ h.
          let same : k ≡ i = omega arith in
          subst (λ n. get_or (set lengths k v) n 0 ≡ get_or next n 0) same (get_or-set_same lengths k v 0 low ∙ e));
      others = λ i l. set_behind lengths k v i l (r.others i (omega arith));
      same = λ g i.
          let h = f g in
          ap (λ (l : List ℕ). get_or l i 0) (ap (λ (x : ℕ). set lengths k x) (sym h.1) ∙ set-get_or lengths k 0) ∙ r.same h.0 i;
    }

-- The two ways through the test: the entry differs, or nothing is noted.
pub differs : {changed : Bool} {A : Type 0} → changed ≡ true → changed ≡ false → A
differs e f = absurd (true≢false (sym e ∙ f))

-- Where the last turn is over, all entries are passed.
pub gather_ends : {prices sides old table : List ℕ} {k n : ℕ} → k ≡ n → Gathered k prices sides old table
    → Gathered n prices sides old table
gather_ends {prices} {sides} {old} {table} e g = subst (λ m. Gathered m prices sides old table) e g

pub round_ends : {table lengths old next : List ℕ} {k n : ℕ} → k ≡ n → Rounded table k lengths old next → Rounded table n lengths old next
round_ends {table} {lengths} {old} {next} e r = subst (λ m. Rounded table m lengths old next) e r

pub renew_ends : {next old lengths : List ℕ} {k n : ℕ} {changed : Bool} → k ≡ n → Renewed k next old lengths changed
    → Renewed n next old lengths changed
renew_ends {next} {old} {lengths} {changed = changed} e r = subst (λ m. Renewed m next old lengths changed) e r
