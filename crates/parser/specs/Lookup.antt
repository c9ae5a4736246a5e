-- The rule that an expand uses, found along the links of its left side.
use Rattle.std.specs.Prelude.{ℕ, ◌+◌, ◌-◌, ◌*◌, ◌≤◌, ◌<◌, ◌≡◌, Bool, true, false, List, [], ◌∷◌, get_or}
use Rattle.std.proofs.Common.{sym, ◌∙◌, subst, true≢false, ⊎_elim, arith}
use Rattle.grammar.specs.Derivation.{First}
use Rattle.grammar.specs.Theory.Sides.{first_by_rule}
use Rattle.grammar.specs.Theory.Tables.{Sized, Pushes}
use Rattle.sets.specs.Bits.{member}
use Rattle.moves.specs.Tests.{le_or_lt}

-- What a lookup needs: a nonterminal with the token in its FIRST.
pub record CanLookUp (S : Sized) (sides rows : List ℕ) (top t : ℕ) : Type 0 where
  pub pushes : Pushes S.grammar S.nonterminals S.rules sides rows
  pub low : 64 ≤ top
  pub high : top < 64 + S.nonterminals
  pub small : top < 128
  pub token : t < 64
  pub first : First S.grammar.rules (top ∷ []) t

-- Rule r is one of `top`, and its right side has the token in FIRST.
pub record RuleFor (S : Sized) (top t r : ℕ) : Type 0 where
  pub right : List ℕ
  pub rule : S.grammar.rules r top right
  pub first : First S.grammar.rules right t

-- Along the links: `link` names a rule of `top` or none, and no rule from there on has the token in FIRST.
pub record Linking (S : Sized) (top t link : ℕ) : Type 0 where
  pub within : link ≤ S.rules
  pub named : 0 < link → (β : List ℕ) × S.grammar.rules (link - 1) top β
  pub none : (q : ℕ) (β : List ℕ) → link ≤ q → S.grammar.rules q top β → First S.grammar.rules β t → ⊥

module _ {S : Sized} {sides rows : List ℕ} {top t : ℕ} (can : CanLookUp S sides rows top t) where
  pub linking_head : (link : ℕ) → link ≡ get_or rows top 0 → Linking S top t link
  linking_head link f =
      let h = can.pushes.head top can.low can.high in
      subst (λ l. Linking S top t l) (sym f)
      (record {
        within = h.within;
        named = λ l. let n = h.named l in (n.0, n.2.0);
        none = λ q β l r x. h.others q β l (can.pushes.counted q top β r) r t x;
      })

  pub link_found : (link : ℕ) {b : Bool} → 0 < link → Linking S top t link → b ≡ member (get_or sides (link - 1) 0) t → b ≡ true
      → RuleFor S top t (link - 1)
  link_found link l w e f =
      let n = w.named l in
      record {
        right = n.0;
        rule = n.1;
        first = (can.pushes.first (link - 1) top n.0 n.1 t can.token).0 (sym e ∙ f);
      }

  pub linking_more : (link next : ℕ) {b : Bool} → 0 < link → Linking S top t link → b ≡ member (get_or sides (link - 1) 0) t → b ≡ false
      → next ≡ get_or rows (128 + 16 * (link - 1) + 9) 0 → Linking S top t next × (next < link)
  linking_more link next l w e f g =
      let n = w.named l in
      let h = (can.pushes.row (link - 1) top n.0 n.1).link in (
        subst (λ x. Linking S top t x) (sym g)
            (record {
              within = omega (arith, h.within, w.within);
              named = λ k. let m = h.named k in (m.0, m.2.0);
              none = λ q β m r x.
                  ⊎_elim
                  (λ j. w.none q β j r x)
                  (λ j.
                  ⊎_elim
                  (λ i.
                  let z : q ≡ link - 1 = omega arith in
                  not_in β (subst (λ y. S.grammar.rules y top β) z r) x)
                  (λ i. h.others q β m i r t x)
                  (le_or_lt (link - 1) q))
                  (le_or_lt link q);
            }),
        omega (arith, g, h.within),
      )
    where
      not_in : (β : List ℕ) → S.grammar.rules (link - 1) top β → First S.grammar.rules β t → ⊥
      not_in β r x = true≢false (sym ((can.pushes.first (link - 1) top β r t can.token).1 x) ∙ sym e ∙ f)

  -- A nonterminal with the token in its FIRST has such a rule.
  pub link_some : (link : ℕ) → link ≤ 0 → Linking S top t link → ⊥
  link_some link l w =
      ⊎_elim
      (λ e. omega (arith, can.low, can.token, e))
      (λ r. w.none r.0 r.1 (omega arith) r.2 r.3)
      (first_by_rule S.grammar.rules can.first)
