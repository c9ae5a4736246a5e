-- The loop that decides whether the result fits: what holds before each turn.
use Prim.Native.Nat.{ℕ, ◌+◌, ◌-◌, ◌≤◌, ◌<◌}
use mathlib.Core.Path.{◌≡◌, sym, ap, subst, ◌∙◌}
use mathlib.Core.Bool.{Bool, false}
use mathlib.Core.List.{List, ◌++◌}
use mathlib.Core.Logic.{dite}
use native.Mathlib.Decide.{dec_lt, ℕ_discrete}
use native.Mathlib.Omega.{arith}
use lib.ListN.{length, get_or}
use Rattle.base.specs.Telling.{Tells, denied}
use Rattle.strings.specs.Laws.{length_token, length_other}
use Rattle.marks.specs.Marking.{CanSize}
use Rattle.marks.specs.Restoring.{
  added_by,
  behind_by,
  needed,
  Names,
  Listed,
  added_delete,
  added_insert,
  needed_also,
  needed_over,
  listed_first,
  record_first,
}

-- What is left of the room, and what the records passed so far take of it; `ws` are the words of those to come.
pub record Sizing (records lengths : List ℕ) (n room left place : ℕ) (ws : List ℕ) : Type 0 where
  pub listed : Listed n place ws
  pub spent : ℕ
  pub rest : left + spent ≡ room
  pub sum : spent + needed lengths n place ws ≡ needed lengths n 0 records

pub size_begins : {records lengths : List ℕ} {n room : ℕ} → CanSize records lengths n → Sizing records lengths n room room 0 records
size_begins can = record { listed = can.listed; spent = 0; rest = omega arith; sum = omega arith }

-- The words of a record.
abbrev pub kind_of : List ℕ → ℕ
kind_of x = get_or x 0 0

abbrev pub place_of : List ℕ → ℕ
place_of x = get_or x 1 0

abbrev pub symbol_of : List ℕ → ℕ
symbol_of x = get_or x 2 0

-- What the next record x says, and what is listed behind it.
pub record Next (n place : ℕ) (x ws : List ℕ) : Type 0 where
  pub rises : place ≤ place_of x
  pub within : place_of x ≤ n
  pub names : Names (kind_of x) (symbol_of x)
  pub listed : Listed n (behind_by (kind_of x) (place_of x)) ws

pub next_of : {n place : ℕ} {ws rest : List ℕ} (x : List ℕ) → ws ≡ x ++ rest → length x ≡ 3 → Listed n place ws → Next n place x rest
next_of {n} {place} x e three listed =
    let h = listed_first (subst (λ l. Listed n place l) (record_first x e three) listed) in
    record { rises = h.0; within = h.1; names = h.2; listed = h.3 }

-- No record adds more than 60,000 tokens.
pub added_small : {records lengths : List ℕ} {n k X : ℕ} → CanSize records lengths n → Names k X
    → added_by lengths k X ≤ 60000
added_small {lengths = lengths} {k = k} {X = X} can names =
    dite (ℕ_discrete k 1) (λ e. omega (arith, added_delete lengths X e))
    (λ n.
    dite (dec_lt X 64)
    (λ low. omega (arith, added_insert lengths X n, length_token lengths X low))
    (λ high. omega (arith, added_insert lengths X n, length_other lengths X (omega arith), can.limit (X - 64) (omega (arith, (names n).1)))))

module _ {records lengths : List ℕ} {n room left place : ℕ} {ws : List ℕ} (s : Sizing records lengths n room left place ws) where
  module _ (x rest : List ℕ) (e : ws ≡ x ++ rest) (three : length x ≡ 3) where
    pub size_next : Next n place x rest
    size_next = next_of x e three s.listed

    parted : needed lengths n place ws
        ≡ place_of x - place
        + (added_by lengths (kind_of x) (symbol_of x) + needed lengths n (behind_by (kind_of x) (place_of x)) rest)
    parted =
        ap (λ l. needed lengths n place l) (record_first x e three)
        ∙ needed_also lengths n place (kind_of x) (place_of x) (symbol_of x) rest

    -- A record that takes more than is left,
    pub size_over : {size : ℕ} → size ≡ place_of x - place + added_by lengths (kind_of x) (symbol_of x) → left < size
        → Tells (needed lengths n 0 records ≤ room) false
    size_over f h = denied (λ g. omega (arith, parted, s.sum, s.rest, f))

    -- and one that takes no more.
    pub size_goes : {size next : ℕ} → size ≡ place_of x - place + added_by lengths (kind_of x) (symbol_of x) → size ≤ left
        → next ≡ behind_by (kind_of x) (place_of x) → Sizing records lengths n room (left - size) next rest
    size_goes {size} {next} f h g =
        record {
          listed = subst (λ p. Listed n p rest) (sym g) size_next.listed;
          spent = s.spent + size;
          rest = omega (arith, s.rest);
          sum = ap (λ p. s.spent + size + needed lengths n p rest) g ∙ omega (arith, parted, s.sum, f);
        }

  -- Behind the last record.
  pub size_ends : length ws < 3 → (b : Bool) → Tells (n - place ≤ left) b → Tells (needed lengths n 0 records ≤ room) b
  size_ends l b t =
      let last = needed_over lengths n place ws l in
      record {
        yes = λ e. let h = t.yes e in omega (arith, last, s.sum, s.rest);
        no = λ e f. t.no e (omega (arith, last, s.sum, s.rest));
      }
