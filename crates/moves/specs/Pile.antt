-- A stack in a buffer: its top is the last cell in use. `pile b h` is the list of the first h cells, the last one first.
use Rattle.std.specs.Prelude.{ℕ, zero, suc, ◌+◌, ◌-◌, ◌≤◌, ◌<◌, ◌≡◌, refl, List, [], ◌∷◌, ◌++◌, length, get_or, drop}
use Rattle.std.proofs.Common.{sym, ap, ap₂, ◌∙◌, arith, drop-cons}
use Rattle.std.proofs.Math.Seq.{drop-length}

unfoldable pub pile : List ℕ → ℕ → List ℕ
pile b zero = []
pile b (suc h) = get_or b h 0 ∷ pile b h

pub pile_length : (b : List ℕ) (h : ℕ) → length (pile b h) ≡ h
unfolding pile
pile_length b zero = refl
pile_length b (suc h) = ap suc (pile_length b h)

-- The top, and what is below it.
pub pile_top : (b : List ℕ) (h : ℕ) → 0 < h → pile b h ≡ get_or b (h - 1) 0 ∷ pile b (h - 1)
unfolding pile
pile_top b zero l = absurd (omega arith)
pile_top b (suc h) l = let e : suc h - 1 ≡ h = omega arith in rw e

-- Symbol i from the top.
pub pile_at : (b : List ℕ) (h i : ℕ) → i < h → get_or (pile b h) i 0 ≡ get_or b (h - (i + 1)) 0
unfolding pile
pile_at b zero i l = absurd (omega arith)
pile_at b (suc h) zero l = ap (λ k. get_or b k 0) (omega arith)
pile_at b (suc h) (suc i) l = pile_at b h i (omega arith) ∙ ap (λ k. get_or b k 0) (omega arith)

-- The stack without its i topmost symbols.
pub pile_drop : (b : List ℕ) (h i : ℕ) → i ≤ h → drop i (pile b h) ≡ pile b (h - i)
unfolding pile
pile_drop b h zero l = let e : h ≡ h - 0 = omega arith in ap (λ k. pile b k) e
pile_drop b zero (suc i) l = absurd (omega arith)
pile_drop b (suc h) (suc i) l =
    let e : h - i ≡ suc h - suc i = omega arith in
    pile_drop b h i (omega arith) ∙ ap (λ k. pile b k) e

-- Only the first h cells count.
pub pile_same : (a b : List ℕ) (h : ℕ) → ((i : ℕ) → i < h → get_or a i 0 ≡ get_or b i 0) → pile a h ≡ pile b h
unfolding pile
pile_same a b zero f = refl
pile_same a b (suc h) f = ap₂ ◌∷◌ (f h (omega arith)) (pile_same a b h (λ i l. f i (omega arith)))

-- A list stands in the cells from `at` on, its last member first: it lies on the stack of height `at`.
pub pile_on : (b : List ℕ) (at : ℕ) (β : List ℕ) → ((i : ℕ) → i < length β → get_or b (at + i) 0 ≡ get_or β (length β - (i + 1)) 0)
    → (j : ℕ) → j ≤ length β → pile b (at + j) ≡ drop (length β - j) β ++ pile b at
unfolding pile
pile_on b at β f zero l =
    let e : length β - 0 ≡ length β = omega arith in
    let z : at + 0 ≡ at = omega arith in
    rw (z, e, drop-length)
pile_on b at β f (suc j) l =
    let e : at + suc j ≡ suc (at + j) = omega arith in
    let k : suc (length β - suc j) ≡ length β - j = omega arith in
    let m : length β - (j + 1) ≡ length β - suc j = omega arith in
    let n : length β - suc j < length β = omega arith in
    let under : pile b (at + j) ≡ drop (suc (length β - suc j)) β ++ pile b at =
    pile_on b at β f j (omega arith) ∙ ap (λ i. drop i β ++ pile b at) (sym k) in
    let top : get_or b (at + j) 0 ≡ get_or β (length β - suc j) 0 = f j (omega arith) ∙ ap (λ i. get_or β i 0) m in
    ap (λ i. pile b i) e
    ∙ ap₂ ◌∷◌ top under
    ∙ ap (λ l. l ++ pile b at) (sym (drop-cons β (length β - suc j) 0 n))

pub pile_push : (b : List ℕ) (at : ℕ) (β : List ℕ) → ((i : ℕ) → i < length β → get_or b (at + i) 0 ≡ get_or β (length β - (i + 1)) 0)
    → pile b (at + length β) ≡ β ++ pile b at
pile_push b at β f =
    let e : length β - length β ≡ 0 = omega arith in
    pile_on b at β f (length β) (omega arith) ∙ ap (λ k. drop k β ++ pile b at) e
