-- How a token goes down the stack: what can be empty and does not begin with it is dropped.
use Rattle.std.specs.Prelude.{ℕ, ◌+◌, ◌-◌, ◌≤◌, ◌<◌, ◌^◌, ◌≡◌, refl, Bool, List, ◌⊎◌, length, get_or}
use Rattle.std.proofs.Common.{sym, ap, ◌∙◌, arith}
use Rattle.std.proofs.Math.Path.{subst}
use Rattle.std.proofs.Math.Bool.{true, false}
use Rattle.std.proofs.Math.Logic.{inl, inr, ⊎_elim}
use Rattle.moves.specs.Pile.{pile}
use Rattle.moves.specs.States.{CanCount, dropped_by}
use Rattle.moves.specs.Windows.{Shows, CanSee, seen_below}
use Rattle.moves.specs.Tests.{begins_by, empty_by, Told, terminal_not_empty, le_or_lt}
use Rattle.moves.specs.declared.Pick.TheVariants.{Match, Expand, Drop, Error}
use Rattle.moves.specs.declared.Parser.{Parser}
use Rattle.moves.specs.declared.Way.{Way}
use Rattle.moves.specs.declared.Way.TheVariants.{Fits, Grows, Stuck}

-- What going down needs: a token, symbols, and room to count.
pub record CanDescend (masks stack : List ℕ) (p : Parser) (t : ℕ) : Type 0 where
  pub token : t < 64
  pub table : 65 ≤ length masks
  pub height : p.height ≤ length stack
  pub symbols : (i : ℕ) → i < p.height → get_or stack i 0 < 128
  pub room : p.moves + p.height < 2 ^ 64
  pub count : CanCount p
  pub shows : Shows p.window (pile stack p.height)

-- The cells from e up to h can be empty, and the token is in FIRST of none.
pub record Passed (masks stack : List ℕ) (t h e : ℕ) : Type 0 where
  pub within : e ≤ h
  pub outside : (i : ℕ) → e ≤ i → i < h → begins_by masks (get_or stack i 0) t ≡ false
  pub empty : (i : ℕ) → e ≤ i → i < h → empty_by masks (get_or stack i 0) ≡ true

-- From p to d there are drops only.
pub record Dropped (p d : Parser) : Type 0 where
  pub place : d.place ≡ p.place
  pub moves : d.moves + d.height ≡ p.moves + p.height
  pub records : d.records ≡ p.records
  pub listed : d.listed ≡ p.listed

-- The token is in FIRST of the top of d.
pub record Fitting (masks stack : List ℕ) (t : ℕ) (p d : Parser) : Type 0 where
  pub passed : Passed masks stack t p.height d.height
  pub dropped : Dropped p d
  pub some : 0 < d.height
  pub begins : begins_by masks (get_or stack (d.height - 1) 0) t ≡ true

-- The token is in FIRST of nothing that it can come to.
pub record Sticking (masks stack : List ℕ) (t : ℕ) (p : Parser) : Type 0 where
  pub height : ℕ
  pub passed : Passed masks stack t p.height height
  pub stops : (height ≡ 0)
      ⊎ ((begins_by masks (get_or stack (height - 1) 0) t ≡ false) × (empty_by masks (get_or stack (height - 1) 0) ≡ false))

-- With the state behind the drops comes the top that grows.
unfoldable pub WayOf : List ℕ → List ℕ → ℕ → Parser → Way → Type 0
WayOf masks stack t p (Fits d) =
    Fitting masks stack t p d × (get_or stack (d.height - 1) 0 < 64) × Shows d.window (pile stack d.height)
WayOf masks stack t p (Grows d top) =
    Fitting masks stack t p d × (64 ≤ get_or stack (d.height - 1) 0) × (top ≡ get_or stack (d.height - 1) 0)
WayOf masks stack t p Stuck = Sticking masks stack t p

-- ---- Going down, cell by cell

module _ (masks stack : List ℕ) (t : ℕ) where
  pub passed_none : (h : ℕ) → Passed masks stack t h h
  passed_none h =
      record { within = omega arith; outside = λ i l k. absurd (omega arith); empty = λ i l k. absurd (omega arith) }

  pub passed_more : (h e : ℕ) → 0 < e → begins_by masks (get_or stack (e - 1) 0) t ≡ false → empty_by masks (get_or stack (e - 1) 0) ≡ true
      → Passed masks stack t h e → Passed masks stack t h (e - 1)
  passed_more h e l b n p =
      record {
        within = omega (arith, p.within);
        outside = λ i k m. at (λ x. begins_by masks x t ≡ false) i k b (λ j. p.outside i j m);
        empty = λ i k m. at (λ x. empty_by masks x ≡ true) i k n (λ j. p.empty i j m);
      }
    where
      at : (P : ℕ → Type 0) (i : ℕ) → e - 1 ≤ i → P (get_or stack (e - 1) 0) → (e ≤ i → P (get_or stack i 0)) → P (get_or stack i 0)
      at P i k here above =
          ⊎_elim (λ j. above j) (λ j. let q : e - 1 ≡ i = omega arith in subst (λ m. P (get_or stack m 0)) q here) (le_or_lt e i)

pub dropped_none : (p : Parser) → Dropped p p
dropped_none p = record { place = refl; moves = refl; records = refl; listed = refl }

pub dropped_more : (p d : Parser) → 0 < d.height → Dropped p d → Dropped p (dropped_by d)
dropped_more p d l h = record { place = h.place; moves = omega (arith, h.moves); records = h.records; listed = h.listed }

-- The invariant of going down.
pub record Going (masks stack : List ℕ) (t : ℕ) (p d : Parser) : Type 0 where
  pub passed : Passed masks stack t p.height d.height
  pub dropped : Dropped p d
  pub shows : Shows d.window (pile stack d.height)

pub going_sees : {masks stack : List ℕ} {t : ℕ} {p d : Parser} → p.height ≤ length stack → 0 < d.height
    → Going masks stack t p d → CanSee stack d.height d.window
going_sees l k inv = record { some = k; cells = omega (arith, inv.passed.within); shows = inv.shows }

-- There is room to count the next drop.
pub going_counts : {masks stack : List ℕ} {t : ℕ} {p d : Parser} → CanDescend masks stack p t → 0 < d.height
    → Going masks stack t p d → CanCount d × (1 ≤ d.height)
going_counts can l inv =
    let n = can.count in
    let w = inv.dropped in (
      record {
        place = omega (arith, n.place, w.place);
        height = omega (arith, n.height, inv.passed.within);
        moves = omega (arith, can.room, w.moves);
        records = omega (arith, n.records, w.records);
        listed = omega (arith, n.listed, w.listed);
      },
      omega arith,
    )

module _ (masks stack : List ℕ) (t : ℕ) (p : Parser) where
  pub going_none : Shows p.window (pile stack p.height) → Going masks stack t p p
  going_none s = record { passed = passed_none masks stack t p.height; dropped = dropped_none p; shows = s }

  -- What was tested of the top was tested of the cell.
  module _ (d : Parser) (inv : Going masks stack t p d) (x : ℕ) (top : x ≡ get_or stack (d.height - 1) 0) (b e : Bool)
      (begins : b ≡ begins_by masks x t) where
    cell_begins : (c : Bool) → b ≡ c → begins_by masks (get_or stack (d.height - 1) 0) t ≡ c
    cell_begins c f = ap (λ y. begins_by masks y t) (sym top) ∙ sym begins ∙ f

    cell_empty : e ≡ empty_by masks x → (c : Bool) → e ≡ c → empty_by masks (get_or stack (d.height - 1) 0) ≡ c
    cell_empty g c f = ap (λ y. empty_by masks y) (sym top) ∙ sym g ∙ f

    pub going_more : (q : Parser) → q ≡ dropped_by d → 0 < d.height → e ≡ empty_by masks x → Told x b e Drop → Going masks stack t p q
    unfolding Told
    going_more q r l g told =
        subst (λ y. Going masks stack t p y) (sym r)
        (record {
          passed = passed_more masks stack t p.height d.height l (cell_begins false told.0) (cell_empty g true told.1)
              inv.passed;
          dropped = dropped_more p d l inv.dropped;
          shows = seen_below stack d.height d.window l inv.shows;
        })

    fitting : 0 < d.height → b ≡ true → Fitting masks stack t p d
    fitting l f = record { passed = inv.passed; dropped = inv.dropped; some = l; begins = cell_begins true f }

    pub ends_fits : 0 < d.height → Told x b e Match → WayOf masks stack t p (Fits d)
    unfolding Told WayOf
    ends_fits l told = (fitting l told.0, subst (λ y. y < 64) top told.1, inv.shows)

    pub ends_grows : 0 < d.height → Told x b e Expand → WayOf masks stack t p (Grows d x)
    unfolding Told WayOf
    ends_grows l told = (fitting l told.0, subst (λ y. 64 ≤ y) top told.1, top)

    pub ends_stuck : e ≡ empty_by masks x → Told x b e Error → WayOf masks stack t p Stuck
    unfolding Told WayOf
    ends_stuck g told =
        record {
          height = d.height;
          passed = inv.passed;
          stops = inr (
            cell_begins false told.0,
            ⊎_elim
                (λ n. cell_empty g false n)
                (λ l. terminal_not_empty masks (get_or stack (d.height - 1) 0) (subst (λ y. y < 64) top l)) told.1,
          );
        }

  pub ends_bottom : (d : Parser) → d.height ≤ 0 → Going masks stack t p d → WayOf masks stack t p Stuck
  unfolding WayOf
  ends_bottom d l inv = record { height = d.height; passed = inv.passed; stops = inl (omega arith) }
