-- What was taken of an input, one read behind the other.
--     front_grows     the buffer's front behind one more read
--     passed_more     what is passed over, behind one more part
--     passed_kept     and behind a read that took nothing
use Rattle.std.specs.Prelude.{ℕ, ◌+◌, ◌≡◌, ◌≤◌, List, ◌++◌, length, take, Option}
use Rattle.std.specs.Io.KnownBytes.{Consumes, Keeps}
use Rattle.std.proofs.Common.{arith, ap, ap₂, ◌∙◌, le_refl, drop_at, length-append, length-take, length-take-le}
use Rattle.std.proofs.KnownBytes.{Consumes-trans, Consumes-kept}
use Rattle.std.proofs.lemmas.Slice.{take-put_mid_below}
use borrow.Rule.Slice.PartMut.{put_mid, post_of}
use lib.Seq.{take-add, take-append-le}
use Rattle.test_buffers.specs.Input.{Passed}

pub front_grows : (a k n : ℕ) (xs ys : List ℕ) → a ≤ length xs → n ≤ length ys → take (a + n) (put_mid a k xs ys) ≡ take a xs ++ take n ys
front_grows a k n xs ys within fits =
    let after = post_of a k xs in
    take-add a n (put_mid a k xs ys)
    ∙ ap₂ (λ f g. f ++ g) (take-put_mid_below _ _ _ _ _ (le_refl _) within)
    (ap (take n) (drop_at (take a xs) (ys ++ after) a (length-take-le a xs within)) ∙ take-append-le n ys after fits)

pub passed_more : (old mid new : Option (List ℕ)) (most n total : ℕ) (buffer : List ℕ) → Passed old mid most → Consumes mid new (take n buffer)
    → most + n ≤ total → Passed old new total
passed_more old mid new most n total buffer passed taken fits =
    let before = passed.long in
    record {
      bytes = passed.bytes ++ take n buffer;
      long = simp (length-append, length-take) (omega (arith, before));
      taken = Consumes-trans old mid new passed.bytes (take n buffer) passed.taken taken;
    }

pub passed_kept : (old mid new : Option (List ℕ)) {most total : ℕ} → Passed old mid most → Keeps mid new → most ≤ total → Passed old new total
passed_kept old mid new passed kept fits =
    let before = passed.long in
    record { bytes = passed.bytes; long = omega (arith, before, fits); taken = Consumes-kept old mid new passed.bytes passed.taken kept }
