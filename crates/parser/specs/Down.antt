-- The way down the stack, as decisions of the run: what was passed is dropped, where the token is in FIRST of what it comes to;
-- and a token that is stuck is in error.
use Prim.Native.Nat.{ℕ, zero, suc, ◌+◌, ◌-◌, ◌≤◌, ◌<◌}
use Rattle.std.specs.Prelude.{◌≡◌, true, List, [], ◌∷◌, get_or}
use Rattle.std.proofs.Math.Path.{refl, subst}
use Rattle.std.proofs.Common.{sym, ◌∙◌, true≢false}
use Rattle.std.proofs.Math.Bool.{false}
use Rattle.std.proofs.Math.Logic.{⊎_elim}
use native.Mathlib.Omega.{arith}
use Rattle.grammar.specs.Words.{Terminal}
use Rattle.grammar.specs.Derivation.{Rules, All, First}
use Rattle.grammar.specs.Grammar.{Grammar}
use Rattle.grammar.specs.Run.{Pick, Choice}
use Rattle.grammar.specs.Theory.Leftmost.{Der, to_der}
use Rattle.grammar.specs.Theory.Reach.{first_past}
use Rattle.grammar.specs.Theory.Sides.{first_behind}
use Rattle.grammar.specs.Theory.Tables.{Sized, SymbolOf}
use Rattle.moves.specs.Tests.{begins_by, empty_by}
use Rattle.moves.specs.Pile.{pile}
use Rattle.moves.specs.Ways.{Passed, Fitting, Sticking}
use Rattle.moves.specs.declared.Parser.{Parser}
use Rattle.correction.specs.Symbols.{Known, begins_first, first_begins, empty_null, null_empty, pile_cell}

-- A choice at a stack and a rest that are these.
pub choice_at : {G : Grammar} {σ σ' ρ ρ' : List ℕ} {x : Pick} → σ ≡ σ' → ρ ≡ ρ' → Choice G σ' ρ' x → Choice G σ ρ x
choice_at {G} {σ} {σ'} {ρ} {ρ'} {x} e f c = subst (λ l. Choice G l ρ x) (sym e) (subst (λ l. Choice G σ' l x) (sym f) c)

nothing_first : {R : Rules} {t : ℕ} → First R [] t → ⊥
nothing_first {R} f = go (to_der R f.begins)
  where
    go : {u : ℕ} {γ : List ℕ} → Der R [] (u ∷ γ) → ⊥
    go d = elim d [ ]

-- ---- FIRST of the stack, by the tests

module _ {S : Sized} {log masks prices : List ℕ} (known : Known S log masks prices) (stack : List ℕ) {t : ℕ} (h : ℕ)
    (symbols : All (SymbolOf S) (pile stack h)) (token : Terminal t) where
  both : {b : _} → b ≡ true → b ≡ false → ⊥
  both e f = true≢false (sym e ∙ f)

  cell : (i : ℕ) → i < h → SymbolOf S (get_or stack i 0)
  cell i l = pile_cell stack h symbols i l

  -- The token is in FIRST of no symbol that was passed.
  pub passed_not : {e : ℕ} → Passed masks stack t h e → (i : ℕ) → e ≤ i → i < h → First S.grammar.rules (get_or stack i 0 ∷ []) t → ⊥
  passed_not p i l k f = both (first_begins known (get_or stack i 0) t (cell i k) f) (p.outside i l k)

  -- Where it is in FIRST of the stack at height e, it is so at each height above that was passed.
  pub passed_first : {e : ℕ} → Passed masks stack t h e → First S.grammar.rules (pile stack e) t → (n : ℕ) → e + n ≤ h
      → First S.grammar.rules (pile stack (e + n)) t
  unfolding pile
  passed_first {e} p f zero l = let k : e ≡ e + 0 = omega arith in subst (λ j. First S.grammar.rules (pile stack j) t) k f
  passed_first {e} p f (suc n) l =
      let k : suc (e + n) ≡ e + suc n = omega arith in
      subst (λ j. First S.grammar.rules (pile stack j) t) k
      (first_behind S.grammar.rules
      (empty_null known (get_or stack (e + n) 0) (cell (e + n) (omega arith)) (p.empty (e + n) (omega arith) (omega arith)))
      (passed_first p f n (omega arith)))

  -- From FIRST of the stack down to what was not passed.
  passed_down : {e : ℕ} → Passed masks stack t h e → (n : ℕ) → e + n ≤ h → First S.grammar.rules (pile stack (e + n)) t
      → First S.grammar.rules (pile stack e) t
  unfolding pile
  passed_down {e} p zero l f = let k : e + 0 ≡ e = omega arith in subst (λ j. First S.grammar.rules (pile stack j) t) k f
  passed_down {e} p (suc n) l f =
      let k : e + suc n ≡ suc (e + n) = omega arith in
      passed_down p n (omega arith)
      (first_past S.grammar.rules (subst (λ j. First S.grammar.rules (pile stack j) t) k f)
      (passed_not p (e + n) (omega arith) (omega arith))).1

  -- The token begins the top of what is left.
  pub fitting_first : {p d : Parser} → p.height ≡ h → Fitting masks stack t p d
      → First S.grammar.rules (get_or stack (d.height - 1) 0 ∷ []) t
  fitting_first {p} {d} e w =
      begins_first known (get_or stack (d.height - 1) 0) t (cell (d.height - 1) (omega (arith, w.passed.within, w.some)))
      token w.begins

  -- A token that is stuck is in FIRST of the stack nowhere: it is in error.
  pub stuck_error : {p : Parser} → p.height ≡ h → Sticking masks stack t p → First S.grammar.rules (pile stack h) t → ⊥
  unfolding pile
  stuck_error {p} q w f =
      let passed : Passed masks stack t h w.height = subst (λ k. Passed masks stack t k w.height) q w.passed in
      let e : h ≡ w.height + (h - w.height) = omega (arith, passed.within) in
      let g = passed_down passed (h - w.height) (omega (arith, passed.within))
      (subst (λ k. First S.grammar.rules (pile stack k) t) e f) in
      ⊎_elim
      (λ z. nothing_first (subst (λ k. First S.grammar.rules (pile stack k) t) z g))
      (λ z. inside passed.within z.0 z.1 g)
      w.stops
    where
      inside : w.height ≤ h → begins_by masks (get_or stack (w.height - 1) 0) t ≡ false
          → empty_by masks (get_or stack (w.height - 1) 0) ≡ false
          → First S.grammar.rules (pile stack w.height) t → ⊥
      inside l b n g = below w.height refl g
        where
          below : (k : ℕ) → k ≡ w.height → First S.grammar.rules (pile stack k) t → ⊥
          below zero z g = nothing_first g
          below (suc k) z g =
              let i : w.height - 1 ≡ k = omega arith in
              let inner = cell k (omega arith) in
              let past = first_past S.grammar.rules g
              (λ f. both (first_begins known (get_or stack k 0) t inner f) (subst (λ j. begins_by masks (get_or stack j 0) t ≡ false) i b)) in
              both (null_empty known (get_or stack k 0) inner past.0) (subst (λ j. empty_by masks (get_or stack j 0) ≡ false) i n)
