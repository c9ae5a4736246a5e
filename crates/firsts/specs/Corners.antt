-- The symbols that can stand first in a right side, by the mask of nonterminals that can be empty: a list begins as they do.
use Rattle.std.specs.Prelude.{ℕ, ◌-◌, ◌≤◌, ◌≡◌, refl, true, List, [], ◌∷◌}
use Rattle.std.proofs.Common.{subst}
use Rattle.grammar.specs.Theory.Masks.{NullMask}
use Rattle.grammar.specs.Words.{terminal_count, nonterminal_count, RuleSymbol, Shaped}
use Rattle.grammar.specs.Derivation.{All}
use Rattle.grammar.specs.Grammar.{RuleOf}
use Rattle.grammar.specs.Theory.Closed.{Begins}
use Rattle.grammar.specs.Theory.Firsts.{Fades}
use Rattle.sets.specs.Bits.{member}
use Rattle.firsts.specs.Masks.{null_says, null_hears}

-- X can stand first in the list: in front of it stand only nonterminals that can be empty.
pub data Corner (null X : ℕ) : List ℕ → Type 0 where
  here : {Y : ℕ} {α : List ℕ} → X ≡ Y → Corner null X (Y ∷ α)
  past : {Y : ℕ} {α : List ℕ} → 64 ≤ Y → member null (Y - 64) ≡ true → Corner null X α → Corner null X (Y ∷ α)

-- In the empty list nothing can.
pub corner_none : {null X : ℕ} → Corner null X [] → ⊥
corner_none o = elim o [ ]

module _ (ws : List ℕ) (s : Shaped ws) (null : ℕ) (nulls : NullMask (RuleOf ws) (nonterminal_count ws) null) (P : ℕ → Type 0) where
  pub corner_begins : {X : ℕ} {α : List ℕ} → All (RuleSymbol (terminal_count ws) (nonterminal_count ws)) α → Corner null X α → P X
      → Begins (Fades (RuleOf ws)) P α
  corner_begins a (Corner.here e) h = Begins.here (subst P e h)
  corner_begins (All.also {x = Y} c a) (Corner.past l n o) h = Begins.past (null_says ws s null nulls Y c l n) (corner_begins a o h)

  pub begins_corner : (Q : Type 0) {α : List ℕ} → All (RuleSymbol (terminal_count ws) (nonterminal_count ws)) α
      → Begins (Fades (RuleOf ws)) P α → ((X : ℕ) → Corner null X α → P X → Q) → Q
  begins_corner Q (All.also {x = Y} c a) (Begins.here h) f = f Y (Corner.here refl) h
  begins_corner Q (All.also {x = Y} c a) (Begins.past n b) f =
      let k = null_hears ws s null nulls Y c n in
      begins_corner Q a b (λ X o. f X (Corner.past k.0 k.1 o))
  begins_corner Q All.nothing x5 f = elim x5 [ ]
