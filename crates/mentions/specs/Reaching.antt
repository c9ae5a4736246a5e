-- The nonterminals that are reachable from START are those that it comes to by what rules mention.
--     reach_exact   sound and closed, therefore exact
--     spent_blank   what it stepped along is empty then
use Rattle.std.specs.Prelude.{ℕ, ◌+◌, ◌-◌, ◌^◌, ◌≤◌, ◌<◌, ◌≡◌, refl, Bool, true, false, ◌⊎◌, ◌↔◌, get_or}
use Rattle.std.proofs.Common.{sym, ap, ◌∙◌, subst, true≢false, inl, inr, ⊎_elim, arith}
use mathlib.Core.List.{List, [], ◌∷◌, ◌++◌, Memᴰ}
use Rattle.base.specs.Choices.{below_or}
use Rattle.grammar.specs.Words.{START, nonterminal_count, rule_count, left_side, right_side, Shaped}
use Rattle.grammar.specs.Derivation.{All, Derives, Reachable}
use Rattle.grammar.specs.Grammar.{RuleOf}
use Rattle.grammar.specs.Theory.Leftmost.{to_der, of_der}
use Rattle.grammar.specs.Theory.Closed.{ClosedDown, closed_down, all_rest}
use Rattle.grammar.specs.Theory.Members.{all_by}
use Rattle.grammar.specs.Theory.Rewriting.{opened}
use Rattle.grammar.specs.Theory.RightSides.{rule_at, rule_left}
use Rattle.base.specs.Blank.{Blank}
use Rattle.sets.specs.Bits.{member}
use Rattle.sets.specs.Laws.{empty_none, same_members}
use Rattle.shape.specs.Inside.{left_ranged}
use Rattle.growth.specs.Along.{Along, Reached, Spent}
use Rattle.mentions.specs.Mentions.{UsesOf}

-- ---- Sound

-- What stands before and behind a member.
record Parts (X : ℕ) (β : List ℕ) : Type 0 where
  before : List ℕ
  behind : List ℕ
  is : β ≡ before ++ (X ∷ behind)

parts_of : {X : ℕ} (β : List ℕ) → Memᴰ X β → Parts X β
parts_of (Y ∷ γ) (Memᴰ.head e) = record { before = []; behind = γ; is = ap (λ Z. Z ∷ γ) (sym e) }
parts_of (Y ∷ γ) (Memᴰ.tail m) =
    let rest = parts_of γ m in
    record { before = Y ∷ rest.before; behind = rest.behind; is = ap (λ δ. Y ∷ δ) rest.is }
parts_of [] x' = elim x' [ ]

mentioned : (ws : List ℕ) (p : ℕ) → p < rule_count ws → Reachable (RuleOf ws) (START ∷ []) (left_side ws p) → {X : ℕ}
    → Memᴰ X (right_side ws p) → Reachable (RuleOf ws) (START ∷ []) X
mentioned ws p h reached {X} m =
    let cut = parts_of (right_side ws p) m in
    record {
      front = reached.front ++ cut.before;
      rest = cut.behind ++ reached.rest;
      stands = of_der (RuleOf ws)
          (opened (RuleOf ws) (START ∷ []) reached.front reached.rest cut.before cut.behind X
          (to_der (RuleOf ws) reached.stands) (rule_at ws p h) cut.is);
    }

module _ {ws uses : List ℕ} (u : UsesOf ws uses) where
  sound : {k : ℕ} → Along uses k → Reachable (RuleOf ws) (START ∷ []) (64 + k)
  sound Along.start = record { front = []; rest = []; stands = Derives.done }
  sound (Along.step {j = j} {k = k} a m) =
      let way = (u.exact j k).0 m in
      mentioned ws way.rule way.before (subst (Reachable (RuleOf ws) (START ∷ [])) (sym way.left) (sound a)) way.mentions

  -- ---- Complete

  -- A terminal, or a nonterminal that START comes to.
  abbrev There : ℕ → Type 0
  There X = (X < 64) ⊎ Along uses (X - 64)

  downs : ClosedDown (RuleOf ws) There
  downs p A β r there =
      let high = rule_left ws p A β r in
      all_by β
      (λ X m.
      ⊎_elim inl
      (λ above.
      let e : 64 + (X - 64) ≡ X = omega arith in
      let own : left_side ws p ≡ 64 + (A - 64) = omega (arith, r.left) in
      inr
      (Along.step (⊎_elim (λ low. absurd (omega arith)) (λ a. a) there)
      ((u.exact (A - 64) (X - 64)).1
      (record {
        rule = p;
        before = r.counted;
        left = own;
        mentions = subst (λ Y. Memᴰ Y (right_side ws p)) (sym e) (subst (Memᴰ X) r.right m);
      }))))
      (below_or X 64))

  first_of : {P : ℕ → Type 0} {X : ℕ} {α : List ℕ} → All P (X ∷ α) → P X
  first_of (All.also h a) = h

  complete : (k : ℕ) → Reachable (RuleOf ws) (START ∷ []) (64 + k) → Along uses k
  complete k reached =
      let e : 64 + k - 64 ≡ k = omega arith in
      ⊎_elim (λ low. absurd (omega arith)) (λ a. subst (Along uses) e a)
      (first_of
      (all_rest reached.front
      (closed_down (RuleOf ws) There downs (to_der (RuleOf ws) reached.stands) (All.also (inr Along.start) All.nothing))))

  pub reach_exact : {set : ℕ} → Reached uses set → (k : ℕ) → (member set k ≡ true) ↔ Reachable (RuleOf ws) (START ∷ []) (64 + k)
  reach_exact r k = (λ m. sound ((r.exact k).0 m), λ d. (r.exact k).1 (complete k d))

  -- Where all are reached, the table that was stepped along holds nothing in the end: of others there is no rule.
  pub spent_blank : {new : List ℕ} (set : ℕ) → Shaped ws → ((k : ℕ) → k < nonterminal_count ws → member set k ≡ true) → Spent uses set new
      → ((k : ℕ) → get_or uses k 0 < 2 ^ 64)
      → Blank 64 new
  spent_blank {new} set shaped all s fits = record { size = s.same ∙ u.size; zeros = λ k. at k (member set k) refl }
    where
      no_rule : (k j : ℕ) → nonterminal_count ws ≤ k → member (get_or uses k 0) j ≡ true → ⊥
      no_rule k j above m =
          let way = (u.exact k j).0 m in omega (arith, way.left, (left_ranged ws shaped way.rule way.before).1)

      at : (k : ℕ) (t : Bool) → member set k ≡ t → get_or new k 0 ≡ 0
      at k true e = s.gone k e
      at k false e =
          s.kept k (λ m. true≢false (sym m ∙ e))
          ∙ same_members 64 (get_or uses k 0) 0 (fits k) (omega arith)
          (λ j m.
          absurd
          (⊎_elim (λ low. true≢false (sym (all k low) ∙ e)) (λ above. no_rule k j above m) (below_or k (nonterminal_count ws))))
          (λ j m. absurd (empty_none j m))
