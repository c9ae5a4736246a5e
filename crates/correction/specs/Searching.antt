-- One walk down the stack decides a token: whether a correction can use it, and by popping how many symbols.
use Rattle.std.specs.Prelude.{ℕ, zero, suc, ◌+◌, ◌-◌, ◌*◌, ◌≤◌, ◌<◌, ◌≡◌, refl, Bool, true, false, List, [], ◌∷◌, length, get_or, take, Option, Some, None}
use Rattle.std.proofs.Common.{sym, ap, ◌∙◌, subst, true≢false, arith}
use Rattle.std.proofs.Math.Logic.{⊎_elim}
use Rattle.grammar.specs.Derivation.{All}
use Rattle.grammar.specs.Cost.{SymbolCost}
use Rattle.grammar.specs.Run.{Plausible}
use Rattle.grammar.specs.Theory.Closed.{total}
use Rattle.grammar.specs.Theory.Costing.{list_cost_unique, list_cost_sum}
use Rattle.grammar.specs.Theory.Members.{all_get, all_map}
use Rattle.grammar.specs.Theory.Tables.{Sized, SymbolOf, limit_by}
use Rattle.moves.specs.Tests.{begins_by, le_or_lt}
use Rattle.moves.specs.Pile.{pile, pile_length, pile_at}
use Rattle.correction.specs.Tokens.{token_high}
use Rattle.correction.specs.Symbols.{Known, begins_first, first_begins, symbol_small, pile_cell}

-- ---- The contract

-- What a search needs: what it works from, and a stack of the grammar's symbols, at most 256.
pub record CanSearch (S : Sized) (log masks prices stack : List ℕ) (height : ℕ) : Type 0 where
  pub known : Known S log masks prices
  pub symbols : All (SymbolOf S) (pile stack height)
  pub cells : height ≤ length stack
  pub low : height ≤ 256

-- Token t can be used where the i topmost symbols are popped, and not with fewer.
pub record Used (S : Sized) (σ : List ℕ) (t i : ℕ) : Type 0 where
  pub plausible : Plausible S.grammar σ t i
  pub least : (k : ℕ) → k < i → Plausible S.grammar σ t k → ⊥

-- The answer for token t: how many symbols are popped, or nothing.
unfoldable pub SearchOf : Sized → List ℕ → ℕ → Option ℕ → Type 0
SearchOf S σ t (Some i) = Used S σ t i
SearchOf S σ t None = (k : ℕ) → Plausible S.grammar σ t k → ⊥

-- ---- Costs of what stands above

-- The cost that the table has.
abbrev pub cost_by : List ℕ → ℕ → ℕ
cost_by prices X = get_or prices X 0

-- The cost of the i topmost symbols.
unfoldable pub paid : List ℕ → List ℕ → ℕ → ℕ
paid prices σ i = total (cost_by prices) (take i σ)

pub paid_none : (prices σ : List ℕ) → paid prices σ 0 ≡ 0
unfolding paid total
paid_none prices σ = refl

pub paid_more : (prices σ : List ℕ) (i : ℕ) → i < length σ → paid prices σ (i + 1) ≡ paid prices σ i + get_or prices (get_or σ i 0) 0
unfolding paid total
paid_more prices σ i l = let e : i + 1 ≡ suc i = omega arith in ap (paid prices σ) e ∙ go σ i l
  where
    go : (σ : List ℕ) (i : ℕ) → i < length σ → paid prices σ (suc i) ≡ paid prices σ i + get_or prices (get_or σ i 0) 0
    go [] i l = absurd (omega arith)
    go (X ∷ σ) zero l = omega arith
    go (X ∷ σ) (suc i) l = omega (arith, go σ i (omega arith))

paid_rest : (prices σ : List ℕ) (i k : ℕ) → i ≤ k → paid prices σ i ≤ paid prices σ k
unfolding paid total
paid_rest prices σ zero k l = omega arith
paid_rest prices σ (suc i) zero l = absurd (omega arith)
paid_rest prices [] (suc i) (suc k) l = omega arith
paid_rest prices (X ∷ σ) (suc i) (suc k) l = omega (arith, paid_rest prices σ i k (omega arith))

pub paid_bound : (prices σ : List ℕ) → All (λ X. get_or prices X 0 ≤ 60000) σ → (i : ℕ) → paid prices σ i ≤ 60000 * length σ
unfolding paid total
paid_bound prices σ a zero = omega arith
paid_bound prices [] a (suc i) = omega arith
paid_bound prices (X ∷ σ) (All.also h a) (suc i) = omega (arith, h, paid_bound prices σ a i)

pub all_take : {P : ℕ → Type 0} (i : ℕ) {α : List ℕ} → All P α → All P (take i α)
all_take zero a = All.nothing
all_take (suc i) All.nothing = All.nothing
all_take (suc i) (All.also h a) = All.also h (all_take i a)

-- The walk: i symbols are passed, at this cost, and none of them suits.
pub record Walked (S : Sized) (prices σ : List ℕ) (t i cost : ℕ) : Type 0 where
  pub within : i ≤ length σ
  pub pays : cost ≡ paid prices σ i
  pub none : (k : ℕ) → k < i → Plausible S.grammar σ t k → ⊥

-- ---- What is plausible, by the tests

module _ {S : Sized} {log masks prices : List ℕ} (known : Known S log masks prices) (σ : List ℕ) (inner : All (SymbolOf S) σ)
    (low : length σ ≤ 256)
    (t : ℕ) (token : t < S.terminals) where
  costed : (i : ℕ) → All (λ X. SymbolCost S.grammar.rules S.grammar.price X (cost_by prices X)) (take i σ)
  costed i = all_take i (all_map known.shared.cost inner)

  pub bounded : (i : ℕ) → paid prices σ i ≤ 60000 * length σ
  bounded i = paid_bound prices σ (all_map known.shared.cost_limit inner) i

  small : (i : ℕ) → paid prices σ i < 4294967295
  small i = omega (arith, bounded i)

  -- A symbol that begins with t, at a cost below its reliability: a correction can use t.
  pub usable : (i : ℕ) → i < length σ → begins_by masks (get_or σ i 0) t ≡ true → paid prices σ i < limit_by prices t
      → Plausible S.grammar σ t i
  unfolding paid
  usable i l b m =
      record {
        within = l;
        first = begins_first known (get_or σ i 0) t (all_get inner i l) (omega (arith, token, known.terminals_high)) b;
        cost = total (cost_by prices) (take i σ);
        costs = list_cost_sum S.grammar.rules S.grammar.price (cost_by prices) (costed i);
        below = (known.shared.limit t token (paid prices σ i) (small i)).0 m;
      }

  -- No symbol suits that does not begin with t,
  pub not_begun : (i : ℕ) → begins_by masks (get_or σ i 0) t ≡ false → Plausible S.grammar σ t i → ⊥
  not_begun i b p = true≢false (sym (first_begins known (get_or σ i 0) t (all_get inner i p.within) p.first) ∙ b)

  -- and none below a cost that is too high.
  pub too_dear : (i k : ℕ) → limit_by prices t ≤ paid prices σ i → i ≤ k → Plausible S.grammar σ t k → ⊥
  unfolding paid
  too_dear i k m l p =
      let sum = list_cost_sum S.grammar.rules S.grammar.price (cost_by prices) (costed k) in
      let e = list_cost_unique S.grammar.rules S.grammar.price p.costs sum in
      let h = (known.shared.limit t token (paid prices σ k) (small k)).1 (subst (λ c. S.grammar.reliable c t) e p.below) in
      omega (arith, paid_rest prices σ i k l)

  -- ---- The walk, symbol by symbol

  pub walked_none : Walked S prices σ t 0 0
  walked_none = record { within = omega arith; pays = sym (paid_none prices σ); none = λ k l p. omega arith }

  pub walked_more : (i cost : ℕ) → i < length σ → begins_by masks (get_or σ i 0) t ≡ false → Walked S prices σ t i cost
      → Walked S prices σ t (i + 1) (cost + get_or prices (get_or σ i 0) 0)
  walked_more i cost l b w =
      record {
        within = omega arith;
        pays = omega (arith, paid_more prices σ i l, w.pays);
        none = λ k m p.
            ⊎_elim
            (λ h. let e : k ≡ i = omega arith in not_begun i b (subst (λ j. Plausible S.grammar σ t j) e p))
            (λ h. w.none k h p)
            (le_or_lt i k);
      }

  pub walked_dear : (i cost : ℕ) → limit_by prices t ≤ cost → Walked S prices σ t i cost → SearchOf S σ t None
  unfolding SearchOf
  walked_dear i cost m w =
      λ k p. ⊎_elim (λ l. too_dear i k (omega (arith, w.pays)) l p) (λ l. w.none k l p) (le_or_lt i k)

  pub walked_all : (i cost : ℕ) → length σ ≤ i → Walked S prices σ t i cost → SearchOf S σ t None
  unfolding SearchOf
  walked_all i cost l w = λ k p. w.none k (omega (arith, p.within)) p

-- ---- The same, at the cells of the buffer, for the token at place r

module _ {S : Sized} {log masks prices stack : List ℕ} {height : ℕ} (can : CanSearch S log masks prices stack height) (r t : ℕ)
    (at-r : t ≡ get_or log r 0) where
  pub short : length (pile stack height) ≤ 256
  short = omega (arith, pile_length stack height, can.low)

  pub token_low : t < S.terminals
  token_low = omega (arith, at-r, token_high log can.known.terminals_low can.known.tokens r)

  pub token_below : t < 64
  token_below = omega (arith, token_low, can.known.terminals_high)

  pub cell : (i : ℕ) → i < height → get_or (pile stack height) i 0 ≡ get_or stack (height - 1 - i) 0
  cell i l = pile_at stack height i l ∙ ap (λ k. get_or stack k 0) (omega arith)

  symbol_of_lem : (i : ℕ) → i < height → SymbolOf S (get_or stack (height - 1 - i) 0)
  symbol_of_lem i l = pile_cell stack height can.symbols (height - 1 - i) (omega arith)

  pub symbol_low : (i : ℕ) → i < height → get_or stack (height - 1 - i) 0 < 128
  symbol_low i l = symbol_small can.known (symbol_of_lem i l)

  pub seek_none : Walked S prices (pile stack height) t 0 0
  seek_none = walked_none can.known (pile stack height) can.symbols short t token_low

  pub seek_more : (i cost x : ℕ) {b : Bool} → i < height → b ≡ begins_by masks (get_or stack (height - 1 - i) 0) t → b ≡ false
      → x ≡ get_or stack (height - 1 - i) 0 → Walked S prices (pile stack height) t i cost
      → Walked S prices (pile stack height) t (i + 1) (cost + get_or prices x 0)
  seek_more i cost x l e n q w =
      subst (λ y. Walked S prices (pile stack height) t (i + 1) (cost + get_or prices y 0)) (cell i l ∙ sym q)
      (walked_more can.known (pile stack height) can.symbols short t token_low i cost
      (omega (arith, pile_length stack height))
      (ap (λ y. begins_by masks y t) (cell i l) ∙ sym e ∙ n)
      w)

  pub seek_fits : (i cost x : ℕ) → i < height → x ≡ get_or stack (height - 1 - i) 0 → Walked S prices (pile stack height) t i cost
      → cost + get_or prices x 0 < 4294967296
  seek_fits i cost x l q w =
      let own = known_limit (get_or stack (height - 1 - i) 0) (symbol_of_lem i l) in
      omega (
        arith,
        w.pays,
        bounded can.known (pile stack height) can.symbols short t token_low i,
        pile_length stack height,
        can.low,
        ap (λ y. get_or prices y 0) q,
        own,
      )
    where
      known_limit : (X : ℕ) → SymbolOf S X → get_or prices X 0 ≤ 60000
      known_limit = can.known.shared.cost_limit

  pub here : (s : Option ℕ) → SearchOf S (pile stack height) t s → SearchOf S (pile stack height) (get_or log r 0) s
  here s h = subst (λ u. SearchOf S (pile stack height) u s) at-r h

  pub seek_dear : (i cost l : ℕ) → l ≡ limit_by prices t → l ≤ cost → Walked S prices (pile stack height) t i cost
      → SearchOf S (pile stack height) (get_or log r 0) None
  seek_dear i cost l q k w =
      here None (walked_dear can.known (pile stack height) can.symbols short t token_low i cost (omega (arith, q, k)) w)

  pub seek_all : (i cost : ℕ) → height ≤ i → Walked S prices (pile stack height) t i cost
      → SearchOf S (pile stack height) (get_or log r 0) None
  seek_all i cost l w =
      here None
      (walked_all can.known (pile stack height) can.symbols short t token_low i cost (omega (arith, pile_length stack height)) w)
