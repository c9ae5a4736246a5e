-- What the tables say of a symbol is so by derivations.
use Rattle.std.specs.Prelude.{ℕ, zero, suc, ◌+◌, ◌-◌, ◌≤◌, ◌<◌, ◌≡◌, true, length, get_or}
use Rattle.std.proofs.Common.{sym, ⊎_elim}
use Rattle.std.proofs.Math.Path.{subst}
use Rattle.std.proofs.lemmas.Bool.{false≢true}
use mathlib.Core.List.{List, [], ◌∷◌}
use native.Mathlib.Omega.{arith}
use borrow.Author.Tests.{lt-ltb, le-ltb, eqb-true, eq-eqb}
use Rattle.grammar.specs.Words.{Terminal}
use Rattle.grammar.specs.Derivation.{Derives, CanBeEmpty, First, All}
use Rattle.grammar.specs.Theory.Leftmost.{Der, to_der}
use Rattle.grammar.specs.Theory.Masks.{FirstMask}
use Rattle.grammar.specs.Theory.Sides.{first_by_rule}
use Rattle.grammar.specs.Theory.Tables.{Inner, Sized, SymbolOf, Shared}
use Rattle.moves.specs.Tests.{begins_by, empty_by, le_or_lt}
use Rattle.moves.specs.Pile.{pile}

-- What a search works from: the sizes, a log of the grammar's tokens, and the tables that any right sides share.
pub record Known (S : Sized) (log masks prices : List ℕ) : Type 0 where
  pub terminals_low : 1 ≤ S.terminals
  pub terminals_high : S.terminals ≤ 64
  pub nonterminals_high : S.nonterminals ≤ 64
  pub left : (p A : ℕ) (β : List ℕ) → S.grammar.rules p A β → 64 ≤ A
  pub short : length log ≤ 4096
  pub tokens : (i : ℕ) → i < length log → get_or log i 0 < S.terminals
  pub shared : Shared S.grammar S.terminals S.nonterminals masks prices

module _ {S : Sized} {log masks prices : List ℕ} (known : Known S log masks prices) where
  -- ---- FIRST

  first_at : (x : ℕ) → 64 ≤ x → x < 64 + S.nonterminals → FirstMask S.grammar.rules (x ∷ []) (get_or masks (x - 64) 0)
  first_at x l h =
      let e : 64 + (x - 64) ≡ x = omega arith in
      subst (λ y. FirstMask S.grammar.rules (y ∷ []) (get_or masks (x - 64) 0)) e (known.shared.first (x - 64) (omega arith))

  pub begins_first : (x t : ℕ) → SymbolOf S x → Terminal t → begins_by masks x t ≡ true → First S.grammar.rules (x ∷ []) t
  unfolding begins_by
  begins_first x t (Inner.terminal l) m b =
      let e : x ≡ t = eqb-true x t (rw (lt-ltb x 64 (omega (arith, known.terminals_high))) at b) in
      record { token = m; rest = []; begins = subst (λ y. Derives S.grammar.rules (x ∷ []) (y ∷ [])) e Derives.done }
  begins_first x t (Inner.nonterminal l h) m b = (first_at x l h t m).0 (rw (le-ltb x 64 l) at b)

  pub first_begins : (x t : ℕ) → SymbolOf S x → First S.grammar.rules (x ∷ []) t → begins_by masks x t ≡ true
  unfolding begins_by
  first_begins x t (Inner.terminal l) f =
      let low : x < 64 = omega (arith, known.terminals_high) in
      rw (lt-ltb x 64 low)
      (⊎_elim
      (λ e. eq-eqb x t e)
      (λ r. absurd (omega (arith, known.left _ _ _ r.2)))
      (first_by_rule S.grammar.rules f))
  first_begins x t (Inner.nonterminal l h) f = rw (le-ltb x 64 l) ((first_at x l h t f.token).1 f)

  -- ---- What can be empty

  pub empty_null : (x : ℕ) → SymbolOf S x → empty_by masks x ≡ true → CanBeEmpty S.grammar.rules (x ∷ [])
  unfolding empty_by
  empty_null x (Inner.terminal l) b = absurd (false≢true (rw (lt-ltb x 64 (omega (arith, known.terminals_high))) at b))
  empty_null x (Inner.nonterminal l h) b =
      let e : 64 + (x - 64) ≡ x = omega arith in
      subst (λ y. CanBeEmpty S.grammar.rules (y ∷ [])) e
      ((known.shared.nulls (x - 64) (omega arith)).0 (rw (le-ltb x 64 l) at b))

  pub null_empty : (x : ℕ) → SymbolOf S x → CanBeEmpty S.grammar.rules (x ∷ []) → empty_by masks x ≡ true
  unfolding empty_by
  null_empty x (Inner.terminal l) c = absurd (no_way (omega (arith, known.terminals_high)) (to_der S.grammar.rules c))
    where
      no_way : {y : ℕ} → y < 64 → Der S.grammar.rules (y ∷ []) [] → ⊥
      no_way l (Der.down r d) = omega (arith, known.left _ _ _ r)
  null_empty x (Inner.nonterminal l h) c =
      let e : 64 + (x - 64) ≡ x = omega arith in
      rw (le-ltb x 64 l)
      ((known.shared.nulls (x - 64) (omega arith)).1 (subst (λ y. CanBeEmpty S.grammar.rules (y ∷ [])) (sym e) c))

  pub symbol_small : {x : ℕ} → SymbolOf S x → x < 128
  symbol_small (Inner.terminal l) = omega (arith, known.terminals_high)
  symbol_small (Inner.nonterminal l h) = omega (arith, known.nonterminals_high)

-- A cell in use holds what every symbol of the stack has.
pub pile_cell : {P : ℕ → Type 0} (b : List ℕ) (h : ℕ) → All P (pile b h) → (i : ℕ) → i < h → P (get_or b i 0)
unfolding pile
pile_cell b zero a i l = absurd (omega arith)
pile_cell {P} b (suc h) (All.also x a) i l =
    ⊎_elim (λ k. let e : h ≡ i = omega arith in subst (λ j. P (get_or b j 0)) e x) (λ k. pile_cell b h a i k) (le_or_lt h i)
