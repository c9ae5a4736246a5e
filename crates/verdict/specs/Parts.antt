-- Tables of which a part was lent, or an entry was written: what stands there is what came back, and the rest is as it was.
use Rattle.std.specs.Prelude.{ℕ, ◌+◌, ◌≤◌, ◌<◌, ◌≡◌, refl, Bool, true, false, List, ◌++◌, length, get_or, set, take, drop, eqb}
use Rattle.std.proofs.Common.{sym, ap, ◌∙◌, subst, arith, length-drop, get_or-take, get_or-drop, get_or-append-add, get_or-set_same, get_or-set_other, length-take-le, eqb-true}
use Rattle.std.proofs.Math.ListN.{get_or-append}
use Rattle.std.proofs.lemmas.Bool.{eqb-false}
use borrow.Rule.Slice.PartMut.{put_mid, same_len_mid}

-- An entry of a part is an entry of the table.
pub part_at : (a k : ℕ) (xs : List ℕ) (i j : ℕ) → j ≡ a + i → i < k → get_or (take k (drop a xs)) i 0 ≡ get_or xs j 0
part_at a k xs i j e h = get_or-take k (drop a xs) i 0 h ∙ (get_or-drop a xs i 0 ∙ ap (λ n. get_or xs n 0) (sym e))

-- The k entries from a on came back as ys.
module _ (a k : ℕ) (xs ys : List ℕ) (fits : a + k ≤ length xs) (size : length ys ≡ k) where
  front : length (take a xs) ≡ a
  front = length-take-le a xs (omega arith)

  pub part_length : length (put_mid a k xs ys) ≡ length xs
  part_length = same_len_mid a k xs ys (size ∙ sym (length-take-le k (drop a xs) (omega (arith, length-drop a xs))))

  pub inside_part : (i j : ℕ) → j ≡ a + i → i < k → get_or (put_mid a k xs ys) j 0 ≡ get_or ys i 0
  inside_part i j e h =
      let at : j ≡ length (take a xs) + i = omega (arith, front) in
      let back = drop k (drop a xs) in
      ap (λ n. get_or (put_mid a k xs ys) n 0) at
      ∙ (get_or-append-add (take a xs) (ys ++ back) i 0 ∙ get_or-append ys back 0 i (omega arith))

  pub before_part : (j : ℕ) → j < a → get_or (put_mid a k xs ys) j 0 ≡ get_or xs j 0
  before_part j h =
      get_or-append (take a xs) (ys ++ drop k (drop a xs)) 0 j (omega (arith, front)) ∙ get_or-take a xs j 0 h

-- What the written entry has, and each other had, all have.
pub each_entry : (P : ℕ → ℕ → Type 0) (l : List ℕ) (i v : ℕ) → i < length l → P i v → ((j : ℕ) → (j ≡ i → ⊥) → P j (get_or l j 0))
    → (j : ℕ) → P j (get_or (set l i v) j 0)
each_entry P l i v h here others j = at (eqb j i) refl
  where
    at : (e : Bool) → eqb j i ≡ e → P j (get_or (set l i v) j 0)
    at true e =
        let same : i ≡ j = omega (arith, eqb-true j i e) in
        subst (λ n. P n (get_or (set l i v) n 0)) same (subst (P i) (sym (get_or-set_same l i v 0 h)) here)
    at false e = let n = eqb-false j i e in subst (P j) (sym (get_or-set_other l i j v 0 n)) (others j n)
