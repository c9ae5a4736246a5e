-- FIRST by sets that hold nothing else and are closed under the rules: sound, complete, therefore exact.
use Rattle.std.specs.Prelude.{ℕ, ◌+◌, ◌-◌, ◌≤◌, ◌<◌, ◌≡◌, refl, true, List, [], ◌∷◌, ◌⊎◌, length, get_or}
use Rattle.std.proofs.Common.{subst, inl, inr, ⊎_elim, arith}
use Rattle.grammar.specs.Theory.Masks.{FirstMask, NullMask}
use Rattle.grammar.specs.Words.{Terminal, nonterminal_count, rule_count, left_side, right_side, Shaped}
use Rattle.grammar.specs.Derivation.{First}
use Rattle.grammar.specs.Grammar.{RuleOf}
use Rattle.grammar.specs.Theory.Leftmost.{to_der}
use Rattle.grammar.specs.Theory.Closed.{ClosedFirst, closed_first, Begins}
use Rattle.grammar.specs.Theory.RightSides.{right_symbols, rule_at, rule_left}
use Rattle.shape.specs.Accessors.{LeftOf}
use Rattle.sets.specs.Bits.{member}
use Rattle.sets.specs.Laws.{empty_none}
use Rattle.grammar.specs.Theory.Firsts.{Fades, Starts, empty_closed, begins_first, first_rule}
use Rattle.firsts.specs.Opens.{FirstWith}
use Rattle.firsts.specs.Masks.{FirstsOf, opens_exact}
use Rattle.firsts.specs.Corners.{Corner, corner_begins, begins_corner}

-- What holds of the table before and after each rule: it has 64 sets, and every token in a set is in FIRST of its nonterminal.
pub record SoundFirsts (ws l : List ℕ) : Type 0 where
  pub size : length l ≡ 64
  pub sound : (k t : ℕ) → Terminal t → member (get_or l k 0) t ≡ true → First (RuleOf ws) ((64 + k) ∷ []) t

-- Token t begins X, by the table.
abbrev pub Held : List ℕ → ℕ → ℕ → Type 0
Held l t X = ((X < 64) × (X ≡ t)) ⊎ ((64 ≤ X) × (member (get_or l (X - 64) 0) t ≡ true))

-- The left side of rule p has every token that begins a symbol which can stand first in its right side.
abbrev pub ClosedFirsts : List ℕ → ℕ → ℕ → List ℕ → Type 0
ClosedFirsts ws null p l =
    (k t X : ℕ) → left_side ws p ≡ 64 + k → Corner null X (right_side ws p) → Held l t X → member (get_or l k 0) t ≡ true

module _ (ws : List ℕ) (s : Shaped ws) (null : ℕ) (nulls : NullMask (RuleOf ws) (nonterminal_count ws) null) where
  -- ---- Sound

  -- What is in FIRST of a symbol that can stand first in a right side is in FIRST of the left side.
  pub corner_first : {p k X t : ℕ} → p < rule_count ws → LeftOf ws p k → Terminal t → Corner null X (right_side ws p)
      → First (RuleOf ws) (X ∷ []) t → First (RuleOf ws) ((64 + k) ∷ []) t
  corner_first {p} {t = t} h left token o f =
      subst (Starts (RuleOf ws) t) left.names
      (first_rule (RuleOf ws) (rule_at ws p h)
      (begins_first (RuleOf ws) token (corner_begins ws s null nulls (Starts (RuleOf ws) t) (right_symbols ws s p h) o f)))

  -- ---- Complete

  module _ (l : List ℕ) (closed : (p : ℕ) → p < rule_count ws → ClosedFirsts ws null p l) where
    held_closed : (t : ℕ) → ClosedFirst (RuleOf ws) (Fades (RuleOf ws)) (Held l t)
    held_closed t p A β r b =
        let low = rule_left ws p A β r in
        inr (
          low,
          begins_corner ws s null nulls (Held l t) (member (get_or l (A - 64) 0) t ≡ true) (right_symbols ws s p r.counted)
              (subst (Begins (Fades (RuleOf ws)) (Held l t)) r.right b)
              (λ X o. closed p r.counted (A - 64) t X (omega (arith, r.left)) o),
        )

    held_at : (k t : ℕ) → Begins (Fades (RuleOf ws)) (Held l t) ((64 + k) ∷ []) → member (get_or l k 0) t ≡ true
    held_at k t (Begins.here (inl h)) = absurd (let i = h.0 in omega arith)
    held_at k t (Begins.here (inr h)) =
        let e : 64 + k - 64 ≡ k = omega arith in subst (λ n. member (get_or l n 0) t ≡ true) e h.1
    held_at k t (Begins.past _ x6) = elim x6 [ ]

    complete : (k t : ℕ) → First (RuleOf ws) ((64 + k) ∷ []) t → member (get_or l k 0) t ≡ true
    complete k t f =
        held_at k t
        (closed_first (RuleOf ws) (Fades (RuleOf ws)) (Held l t) (empty_closed (RuleOf ws)) (held_closed t)
        (to_der (RuleOf ws) f.begins)
        (Begins.here (inl (f.token, refl))))

    -- ---- Exact

    pub firsts_exact : SoundFirsts ws l → FirstsOf ws l
    firsts_exact f = record { first = λ k h t i. (f.sound k t i, complete k t) }

  -- FIRST of a right side, from the table of FIRST.
  pub right_first : {firsts : List ℕ} → FirstsOf ws firsts → (p : ℕ) → p < rule_count ws → {mask : ℕ}
      → FirstWith null firsts 0 (right_side ws p) mask → FirstMask (RuleOf ws) (right_side ws p) mask
  right_first {firsts} f p h w t i =
      let e = opens_exact ws s null nulls firsts f t i {base = 0} (right_symbols ws s p h) in (
        λ m. ⊎_elim (λ g. g) (λ k. absurd (empty_none t k.1)) (e.0 ((w.exact t).0 m)),
        λ g. (w.exact t).1 (e.1 (inl g)),
      )
