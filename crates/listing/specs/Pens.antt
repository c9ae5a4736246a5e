-- What a pen leaves that a list was written with.
use Rattle.std.specs.Prelude.{ℕ, ◌≡◌, refl, List, [], ◌++◌}
use Rattle.std.proofs.Common.{sym, ◌∙◌}
use Rattle.listing.specs.Answer.{Appends}
use Rattle.listing.specs.Unique.{appends_unique}
use Rattle.listing.specs.Writing.{put_none, put_then, put_as}
use Rattle.listing.specs.declared.lines.Pen.{Pen}

-- The pen keeps its buffer, and the bytes `new` are written there behind those before them.
pub record Penned (before : Pen) (new : List ℕ) (after : Pen) : Type 0 where
  pub same : after.out.ghost_name ≡ before.out.ghost_name
  pub appends : Appends before.out.now before.at new after.out.now after.at

pub pen_none : (a : Pen) → Penned a [] a
pen_none a = record { same = refl; appends = put_none a.out.now a.at a.within }

pub pen_then : {a b c : Pen} {x y : List ℕ} → Penned a x b → Penned b y c → Penned a (x ++ y) c
pen_then p q = record { same = q.same ∙ p.same; appends = put_then p.appends q.appends }

pub pen_as : {a b : Pen} {x y : List ℕ} → Penned a x b → x ≡ y → Penned a y b
pen_as p e = record { same = p.same; appends = put_as p.appends e }

-- What a pen wrote, told of the buffer that it was made of.
pub pen_written : {a b : Pen} {x old new : List ℕ} {at next : ℕ} → Penned a x b → a.out.now ≡ old → a.at ≡ at → new ≡ b.out.now → next ≡ b.at
    → Appends old at x new next
pen_written {a} {b} {x} {old} {new} {at} {next} p holds begins stays count =
    let first : Appends old at x b.out.now b.at = rw (sym holds) (rw (sym begins) p.appends) in rw stays (rw count first)

-- Nothing else is left by a pen that wrote so much.
pub penned_unique : {before a b : Pen} {new : List ℕ} → Penned before new a → Penned before new b → (a.at ≡ b.at) × (a.out.now ≡ b.out.now)
penned_unique {before = before} p q = appends_unique before.within p.appends q.appends
