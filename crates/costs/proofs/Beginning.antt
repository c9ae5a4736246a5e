-- The first table: no cost for any nonterminal, so that nothing is claimed of any.
--     terminals_begin, terminals_go, terminals_end           the costs of the terminals in a table of zeros
--     fresh_filled                                           and none of the nonterminals
use Prim.Native.Nat.{ℕ, zero, suc, ◌+◌, ◌-◌, ◌≤◌, ◌<◌}
use mathlib.Core.Path.{◌≡◌, sym, ap, ◌∙◌, subst}
use mathlib.Core.List.{List, ◌++◌}
use mathlib.Core.Logic.{◌⊎◌, inl, inr, ⊎_elim}
use native.Mathlib.Omega.{arith}
use borrow.Rule.Slice.PartMut.{put_mid, same_len_mid}
use lib.ListN.{length, get_or, set, take, drop, length-set, replicate}
use Rattle.std.proofs.lemmas.List.{length-replicate, get_or-replicate}
use Rattle.std.proofs.Common.{get_or-append-add}
use Rattle.std.proofs.Math.ListN.{get_or-append}
use Rattle.std.proofs.lemmas.List.{length-take-le, length-drop}
use lib.Seq.{get_or-set_same, get_or-set_other, get_or-take, get_or-drop}
use Rattle.base.specs.Choices.{below_or, below_or_at}
use Rattle.grammar.specs.Words.{terminal_count, nonterminal_count, insert_cost, Shaped}
use Rattle.base.specs.Blank.{Blank}
use Rattle.costs.specs.Held.{Begun, Fresh, entry}

-- ---- The terminals

-- The first t of them have their costs.
pub record Filled (ws : List ℕ) (t : ℕ) (l : List ℕ) : Type 0 where
  pub size : length l ≡ 192
  pub terminal : (x : ℕ) → x < t → entry l x ≡ insert_cost ws x
  pub beyond : (X : ℕ) → t ≤ X → entry l X ≡ 0

pub terminals_begin : (ws : List ℕ) {l : List ℕ} → Blank 192 l → Filled ws 0 l
terminals_begin ws c = record { size = c.size; terminal = λ x h. absurd (omega arith); beyond = λ X h. c.zeros X }

pub terminals_go : {ws l : List ℕ} {t c : ℕ} → Filled ws t l → t < 192 → c ≡ insert_cost ws t → Filled ws (t + 1) (set l t c)
terminals_go {ws} {l} {t} {c} f small e =
    record {
      size = length-set l t c ∙ f.size;
      terminal = λ x h.
          ⊎_elim (λ low. get_or-set_other l t x c 0 (λ q. omega arith) ∙ f.terminal x low)
          (λ at. ap (entry (set l t c)) at ∙ (get_or-set_same l t c 0 (omega (arith, f.size)) ∙ (e ∙ ap (insert_cost ws) (sym at))))
          (below_or_at x t h);
      beyond = λ X h. get_or-set_other l t X c 0 (λ q. omega arith) ∙ f.beyond X (omega arith);
    }

pub terminals_end : {ws l : List ℕ} {t : ℕ} → Filled ws t l → t ≡ terminal_count ws → Begun ws l
terminals_end f e =
    record { size = f.size; terminal = λ x h. f.terminal x (omega arith); beyond = λ X h. f.beyond X (omega arith) }

-- ---- The nonterminals

insert_small : (ws : List ℕ) → Shaped ws → (t : ℕ) → t < terminal_count ws → insert_cost ws t ≤ 1000
insert_small ws s zero h = omega (arith, s.end_cost)
insert_small ws s (suc t) h = (s.terminals (suc t) (omega arith) h).cost_high

nonterminals_end : {ws l new : List ℕ} {n : ℕ} → Shaped ws → Begun ws l → n ≡ nonterminal_count ws → length new ≡ 192
    → ((X : ℕ) → X < 64 → entry new X ≡ entry l X) → ((j : ℕ) → j < n → entry new (64 + j) ≡ 1000000)
    → ((X : ℕ) → 64 + n ≤ X → entry new X ≡ entry l X) → Fresh ws new
nonterminals_end {ws} {l} {new} {n} s b e size before unknown behind =
    record {
      held = record {
        size = size;
        terminal = λ t h. before t (omega (arith, s.terminals_high)) ∙ b.terminal t h;
        sound = λ j h small. absurd (omega (arith, unknown j (omega arith)));
        some = λ j h small. absurd (omega (arith, unknown j (omega arith)));
        ruled = λ j h small. absurd (omega (arith, unknown j (omega arith)));
        no_rule = λ j h over. none (128 + j) (omega (arith, s.nonterminals_high));
        limit = λ X. ⊎_elim (λ h. inl (low X h)) (high X) (below_or X 64);
        blank = λ t above h. before t h ∙ b.beyond t above;
        beyond = λ X h _. none X (omega arith);
        no_name = λ X h. none X (omega arith);
      };
      unknown = λ j h. unknown j (omega arith);
    }
  where
    none : (X : ℕ) → 64 + n ≤ X → entry new X ≡ 0
    none X h = behind X h ∙ b.beyond X (omega (arith, s.terminals_high))

    low : (X : ℕ) → X < 64 → entry new X ≤ 60001
    low X h =
        ⊎_elim (λ t. omega (arith, before X h, b.terminal X t, insert_small ws s X t)) (λ t. omega (arith, before X h, b.beyond X t))
        (below_or X (terminal_count ws))

    high : (X : ℕ) → 64 ≤ X → (entry new X ≤ 60001) ⊎ ((64 ≤ X) × (X < 128) × (entry new X ≡ 1000000))
    high X h =
        ⊎_elim
        (λ m.
        let at : 64 + (X - 64) ≡ X = omega arith in
        inr (h, omega (arith, s.nonterminals_high), subst (λ Y. entry new Y ≡ 1000000) at (unknown (X - 64) (omega arith))))
        (λ m. inl (omega (arith, none X m)))
        (below_or X (64 + n))

-- None was written for each.
pub fresh_filled : {ws l part : List ℕ} (n : ℕ) → Shaped ws → Begun ws l → n ≡ nonterminal_count ws
    → part ≡ replicate (length (take n (drop 64 l))) 1000000 → Fresh ws (put_mid 64 n l part)
fresh_filled {ws} {l} {part} n s b e is =
    nonterminals_end s b e
    (same_len_mid 64 n l part (long ∙ sym size) ∙ b.size) before named behind
  where
    size : length (take n (drop 64 l)) ≡ n
    size = length-take-le n (drop 64 l) (omega (arith, length-drop 64 l, b.size, s.nonterminals_high))

    front : length (take 64 l) ≡ 64
    front = length-take-le 64 l (omega (arith, b.size))

    before : (X : ℕ) → X < 64 → entry (put_mid 64 n l part) X ≡ entry l X
    before X h = get_or-append (take 64 l) (part ++ drop n (drop 64 l)) 0 X (omega (arith, front)) ∙ get_or-take 64 l X 0 h

    long : length part ≡ n
    long = ap length is ∙ (length-replicate (length (take n (drop 64 l))) 1000000 ∙ size)

    behind : (X : ℕ) → 64 + n ≤ X → entry (put_mid 64 n l part) X ≡ entry l X
    behind X h =
        let back = drop n (drop 64 l) in
        let m = X - (64 + n) in
        let at : X ≡ length (take 64 l) + (length part + m) = omega (arith, front, long) in
        let place : 64 + (n + m) ≡ X = omega arith in
        ap (entry (put_mid 64 n l part)) at
        ∙ (get_or-append-add (take 64 l) (part ++ back) (length part + m) 0
        ∙ (get_or-append-add part back m 0 ∙ (get_or-drop n (drop 64 l) m 0 ∙ (get_or-drop 64 l (n + m) 0 ∙ ap (entry l) place))))

    named : (j : ℕ) → j < n → entry (put_mid 64 n l part) (64 + j) ≡ 1000000
    named j h =
        let back = drop n (drop 64 l) in
        let at : entry (put_mid 64 n l part) (64 + j) ≡ get_or part j 0 =
        ap (λ i. entry (put_mid 64 n l part) (i + j)) (sym front)
        ∙ (get_or-append-add (take 64 l) (part ++ back) j 0 ∙ get_or-append part back 0 j (omega (arith, long))) in
        at ∙ (ap (λ p. get_or p j 0) is ∙ get_or-replicate (length (take n (drop 64 l))) j 1000000 0 (omega (arith, size)))
