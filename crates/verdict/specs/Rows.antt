-- A rule's row, symbol by symbol, with its right side in one word.
--     row_begins, row_goes, row_room, row_ends a row is written from its last symbol to its first
use Rattle.std.specs.Prelude.{ℕ, suc, ◌+◌, ◌-◌, ◌*◌, ◌^◌, ◌≤◌, ◌<◌, ◌≡◌, List, ◌∷◌, length, get_or, set, drop}
use Rattle.std.proofs.Common.{sym, ap, ◌∙◌, subst, arith, length-set, drop_of_length-le, get_or-set_same, get_or-set_other, drop-cons, pow-add, pow_mono}
use Rattle.grammar.specs.Theory.Tables.{packed}
use Rattle.verdict.specs.Parts.{each_entry}

-- The row of a right side β with its link, where the last i symbols are written, and packed in `right`.
pub record RowTo (β : List ℕ) (link i : ℕ) (row : List ℕ) (right : ℕ) : Type 0 where
  pub within : i ≤ length β
  pub sized : length row ≡ 16
  pub symbols : (j : ℕ) → j < i → get_or row j 0 ≡ get_or β (length β - (j + 1)) 0
  pub size : get_or row 8 0 ≡ length β
  pub last : get_or row 9 0 ≡ link
  pub is : right ≡ packed (drop (length β - i) β)
  pub small : right < 2 ^ (8 * i)

pub row_begins : {β : List ℕ} {n link : ℕ} (row : List ℕ) → length row ≡ 16 → n ≡ length β
    → RowTo β link 0 (set (set row 8 n) 9 link) 0
unfolding packed
row_begins {β} {n} {link} row e size =
    let mid = length-set row 8 n in
    record {
      within = omega arith;
      sized = length-set (set row 8 n) 9 link ∙ (mid ∙ e);
      symbols = λ j h. absurd (omega arith);
      size = get_or-set_other (set row 8 n) 9 8 link 0 (λ q. omega arith) ∙ (get_or-set_same row 8 n 0 (omega arith) ∙ size);
      last = get_or-set_same (set row 8 n) 9 link 0 (omega arith);
      is = sym (ap packed (drop_of_length-le β {i = length β - 0} (omega arith)));
      small = omega arith;
    }

-- There is room for one more symbol while fewer than 8 are packed.
pub row_room : {β row : List ℕ} {link i right : ℕ} → RowTo β link i row right → i < 8 → right < 2 ^ 56
row_room {i = i} r h = let wide : 2 ^ (8 * i) ≤ 2 ^ 56 = pow_mono {i = 8 * i} {j = 56} (omega arith) in omega (arith, r.small)

pub row_goes : {β row : List ℕ} {link i n right x : ℕ} → RowTo β link i row right → n ≡ length β → n ≤ 8 → i < n
    → x ≡ get_or β (n - 1 - i) 0 → x < 128 → RowTo β link (i + 1) (set row i x) (right * 256 + x)
unfolding packed
row_goes {β} {row} {link} {i} {n} {right} {x} r size few b e low =
    record {
      within = omega arith;
      sized = length-set row i x ∙ r.sized;
      symbols = each_entry (λ j v. j < i + 1 → v ≡ get_or β (length β - (j + 1)) 0) row i x (omega (arith, r.sized))
          (λ _. here) (λ j n h. r.symbols j (omega arith));
      size = get_or-set_other row i 8 x 0 (λ q. omega arith) ∙ r.size;
      last = get_or-set_other row i 9 x 0 (λ q. omega arith) ∙ r.last;
      is = omega (arith, r.is, ap packed more);
      small = omega (arith, r.small, ap (λ k. 2 ^ k) eight, pow-add 2 (8 * i) 8);
    }
  where
    place : n - 1 - i ≡ length β - (i + 1)
    place = omega arith

    here : x ≡ get_or β (length β - (i + 1)) 0
    here = e ∙ ap (λ k. get_or β k 0) place

    next : suc (length β - (i + 1)) ≡ length β - i
    next = omega arith

    more : drop (length β - (i + 1)) β ≡ x ∷ drop (length β - i) β
    more =
        drop-cons β (length β - (i + 1)) 0 (omega arith)
        ∙ (ap (λ y. y ∷ drop (suc (length β - (i + 1))) β) (sym here) ∙ ap (λ k. x ∷ drop k β) next)

    eight : 8 * (i + 1) ≡ 8 * i + 8
    eight = omega arith

pub row_ends : {β row : List ℕ} {link i right : ℕ} → RowTo β link i row right → length β ≤ i → RowTo β link (length β) row right
row_ends {β} {row} {link} {right = right} r h = subst (λ n. RowTo β link n row right) (omega (arith, r.within)) r

pub row_packed : {β row : List ℕ} {link right : ℕ} → RowTo β link (length β) row right → right ≡ packed β
row_packed {β} r = let none : length β - length β ≡ 0 = omega arith in r.is ∙ ap (λ k. packed (drop k β)) none
