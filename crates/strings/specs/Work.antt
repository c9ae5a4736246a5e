-- What is left to be spelled: the symbols in hand, `left`, and below them the h words of a stack, the topmost last. The symbols of word i
-- may go D - i right sides deep.
use Rattle.std.specs.Prelude.{ℕ, zero, suc, ◌+◌, ◌-◌, ◌/◌, ◌%◌, ◌≤◌, ◌<◌, ◌≡◌, refl, List, [], ◌∷◌, ◌++◌, length, get_or, set}
use Rattle.std.proofs.Common.{sym, ap, ap₂, ◌∙◌, append_assoc, arith, get_or-set_same, get_or-set_other}
use Rattle.base.specs.Written.{written}
use Rattle.grammar.specs.Derivation.{All}
use Rattle.grammar.specs.Theory.Closed.{total}
use Rattle.strings.specs.Laws.{members_none, members_more, spelt_right, steps_right}
use Rattle.strings.specs.Lengths.{Measured}
use Rattle.strings.specs.Spelled.{Spells}
use Rattle.strings.specs.Spelling.{members, right_of, joined, spelt, Deep, steps, raised}

-- What the words below spell, the topmost first, and the steps that it takes: one more for each word.
unfoldable pub below : List ℕ → ℕ → List ℕ → ℕ → List ℕ
below table D stack zero = []
below table D stack (suc i) = joined (λ X. spelt table (D - i) X) (members (get_or stack i 0)) ++ below table D stack i

unfoldable pub steps_below : List ℕ → ℕ → List ℕ → ℕ → ℕ
steps_below table D stack zero = 0
steps_below table D stack (suc i) = suc (total (λ X. steps table (D - i) X) (members (get_or stack i 0))) + steps_below table D stack i

-- With the symbols in hand.
unfoldable pub to_spell : List ℕ → ℕ → List ℕ → ℕ → ℕ → List ℕ
to_spell table D stack h left = joined (λ X. spelt table (D - h) X) (members left) ++ below table D stack h

unfoldable pub steps_left : List ℕ → ℕ → List ℕ → ℕ → ℕ → ℕ
steps_left table D stack h left = total (λ X. steps table (D - h) X) (members left) + steps_below table D stack h

-- What spelling a symbol asks: tables, a symbol that is deep enough, and room for its string.
pub record CanSpell (table : List ℕ) (depth : ℕ) (lengths : List ℕ) (symbol raise : ℕ) (tokens : List ℕ) (at : ℕ) : Type 0 where
  pub spells : Spells table depth
  pub measured : Measured table depth lengths
  pub deep : Deep table depth symbol
  pub low : 1 ≤ symbol
  pub high : symbol < 128
  pub small : raise ≤ 4096
  pub room : at + length (spelt table depth symbol) ≤ length tokens

-- The string of the symbol stands in the buffer from `at` on, each token raised, and ends where the answer says.
pub record Spelt (table : List ℕ) (depth symbol raise : ℕ) (old : List ℕ) (at : ℕ) (tokens : List ℕ) (end : ℕ) : Type 0 where
  pub wrote : tokens ≡ written old at (raised raise (spelt table depth symbol))
  pub ends : end ≡ at + length (spelt table depth symbol)

-- The state of spelling: `done` stands in the buffer, and together with what is left it is the whole string.
pub record Spelling (table : List ℕ) (D symbol raise : ℕ) (old : List ℕ) (at : ℕ) (stack : List ℕ) (h left : ℕ)
    (tokens : List ℕ) (end : ℕ) : Type 0 where
  pub low : h ≤ D
  pub cells : length stack ≡ 64
  pub done : List ℕ
  pub wrote : tokens ≡ written old at (raised raise done)
  pub ended : end ≡ at + length done
  pub still : done ++ to_spell table D stack h left ≡ spelt table D symbol
  pub deep : All (λ X. Deep table (D - h) X) (members left)
  pub deeper : (i : ℕ) → i < h → All (λ X. Deep table (D - i) X) (members (get_or stack i 0))

-- ---- A word laid on the stack leaves those below it

below_set : (table : List ℕ) (D : ℕ) (stack : List ℕ) (h v i : ℕ) → i ≤ h → below table D (set stack h v) i ≡ below table D stack i
unfolding below
below_set table D stack h v zero l = refl
below_set table D stack h v (suc i) l =
    ap₂ (λ w t. joined (λ X. spelt table (D - i) X) (members w) ++ t)
    (get_or-set_other stack h i v 0 (λ e. omega arith)) (below_set table D stack h v i (omega arith))

steps_set : (table : List ℕ) (D : ℕ) (stack : List ℕ) (h v i : ℕ) → i ≤ h
    → steps_below table D (set stack h v) i ≡ steps_below table D stack i
unfolding steps_below
steps_set table D stack h v zero l = refl
steps_set table D stack h v (suc i) l =
    ap₂ (λ w t. suc (total (λ X. steps table (D - i) X) (members w)) + t)
    (get_or-set_other stack h i v 0 (λ e. omega arith)) (steps_set table D stack h v i (omega arith))

-- ---- The symbols in hand, one by one

pub head_of : {P : ℕ → Type 0} {x : ℕ} {l : List ℕ} → All P (x ∷ l) → P x
head_of (All.also h a) = h

pub tail_of : {P : ℕ → Type 0} {x : ℕ} {l : List ℕ} → All P (x ∷ l) → All P l
tail_of (All.also h a) = a

-- Nothing in hand, and nothing below: all is spelled.
pub to_spell_none : (table : List ℕ) (D : ℕ) (stack : List ℕ) → to_spell table D stack 0 0 ≡ []
unfolding to_spell below joined
to_spell_none table D stack = ap (λ l. joined (λ X. spelt table (D - 0) X) l ++ []) members_none

-- Nothing in hand: the topmost word is taken up.
pub to_spell_up : (table : List ℕ) (D : ℕ) (stack : List ℕ) (h : ℕ)
    → to_spell table D stack (suc h) 0 ≡ to_spell table D stack h (get_or stack h 0)
unfolding to_spell below joined
to_spell_up table D stack h = ap (λ l. joined (λ X. spelt table (D - suc h) X) l ++ below table D stack (suc h)) members_none

pub steps_up : (table : List ℕ) (D : ℕ) (stack : List ℕ) (h : ℕ)
    → steps_left table D stack (suc h) 0 ≡ suc (steps_left table D stack h (get_or stack h 0))
unfolding steps_left steps_below total
steps_up table D stack h =
    ap (λ l. total (λ X. steps table (D - suc h) X) l + steps_below table D stack (suc h)) members_none ∙ omega arith

-- Something in hand.
pub to_spell_more : (table : List ℕ) (D : ℕ) (stack : List ℕ) (h left : ℕ) → 0 < left
    → to_spell table D stack h left ≡ spelt table (D - h) (left % 256) ++ to_spell table D stack h (left / 256)
unfolding to_spell joined
to_spell_more table D stack h left l =
    ap (λ t. joined (λ X. spelt table (D - h) X) t ++ below table D stack h) (members_more left l)
    ∙ append_assoc (spelt table (D - h) (left % 256)) (joined (λ X. spelt table (D - h) X) (members (left / 256))) (below table D stack h)

pub steps_more : (table : List ℕ) (D : ℕ) (stack : List ℕ) (h left : ℕ) → 0 < left
    → steps_left table D stack h left ≡ steps table (D - h) (left % 256) + steps_left table D stack h (left / 256)
unfolding steps_left total
steps_more table D stack h left l =
    ap (λ t. total (λ X. steps table (D - h) X) t + steps_below table D stack h) (members_more left l) ∙ omega arith

-- A nonterminal in hand is begun: what is behind it goes to the stack.
pub to_spell_down : (table : List ℕ) (D : ℕ) (stack : List ℕ) (h rest X d : ℕ) → D - h ≡ suc d → D - suc h ≡ d → h < length stack → 64 ≤ X
    → to_spell table D (set stack h rest) (suc h) (get_or table (X - 64) 0) ≡ spelt table (D - h) X ++ to_spell table D stack h rest
unfolding to_spell below right_of
to_spell_down table D stack h rest X d e f l high =
    ap₂ (λ a b. a ++ b)
    (ap (λ n. joined (λ Y. spelt table n Y) (members (get_or table (X - 64) 0))) f
    ∙ (sym (spelt_right table d X high) ∙ ap (λ n. spelt table n X) (sym e)))
    (ap₂ (λ w t. joined (λ Y. spelt table (D - h) Y) (members w) ++ t) (get_or-set_same stack h rest 0 l)
    (below_set table D stack h rest h (omega arith)))

pub steps_down : (table : List ℕ) (D : ℕ) (stack : List ℕ) (h rest X d : ℕ) → D - h ≡ suc d → D - suc h ≡ d → h < length stack → 64 ≤ X
    → suc (steps_left table D (set stack h rest) (suc h) (get_or table (X - 64) 0)) ≡ steps table (D - h) X + steps_left table D stack h rest
unfolding steps_left steps_below right_of
steps_down table D stack h rest X d e f l high =
    let top : total (λ Y. steps table (D - suc h) Y) (members (get_or table (X - 64) 0)) ≡ total (λ Y. steps table d Y) (right_of table X) =
    ap (λ n. total (λ Y. steps table n Y) (members (get_or table (X - 64) 0))) f in
    let own : steps table (D - h) X ≡ 2 + total (λ Y. steps table d Y) (right_of table X) =
    ap (λ n. steps table n X) e ∙ steps_right table d X high in
    let laid : total (λ Y. steps table (D - h) Y) (members (get_or (set stack h rest) h 0)) ≡ total (λ Y. steps table (D - h) Y) (members rest) =
    ap (λ w. total (λ Y. steps table (D - h) Y) (members w)) (get_or-set_same stack h rest 0 l) in
    omega (arith, top, own, laid, steps_set table D stack h rest h (omega arith))
