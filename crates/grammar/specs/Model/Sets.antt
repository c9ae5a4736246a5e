-- The sets of a list of rules, by rounds, each proved to be exactly the set by derivations: can be empty, derives a
-- terminal string, reachable, FIRST.
use Rattle.std.specs.Prelude.{ℕ, ◌+◌, ◌≤◌, ◌<◌, ◌≡◌, refl, Bool, false, ◌&&◌, ◌||◌}
use Rattle.std.proofs.Common.{sym, ap, arith}
use Rattle.std.proofs.Math.Path.{subst}
use mathlib.Core.List.Memᴰ
use mathlib.Core.List.{List, [], ◌∷◌, ◌++◌, Memᴰ}
use Rattle.std.proofs.Math.Logic.{⊎_elim}
use lib.Dec.{T, eqb, eqb→eq, ltb, ltb→lt, lt→ltb}
use Rattle.grammar.specs.Words.{START, RuleSymbol}
use Rattle.grammar.specs.Derivation.{All, Derives, Reachable, Yields, Productive}
use Rattle.grammar.specs.Theory.Leftmost.{Der, der_refl, der_append, to_der, of_der}
use Rattle.grammar.specs.Theory.Closed.{ClosedUp, ClosedDown, closed_up, closed_down, all_rest, all_append}
use Rattle.grammar.specs.Theory.Members.{all_at, all_map, all_by}
use Rattle.grammar.specs.Theory.Rewriting.{rewritten, opened}
use Rattle.grammar.specs.Theory.Pigeonhole.{Distinct, range, range_length, range_member}
use Rattle.grammar.specs.Model.Tests.{
  holds,
  holds_member,
  member_holds,
  both,
  left_of,
  right_of_lem,
  one_of,
  or_left,
  or_right,
  every,
  every_all,
  all_every,
  equal_passes,
  not_below,
}
use Rattle.grammar.specs.Model.Saturate.{saturate, saturate_sound, saturate_closed}
use Rattle.grammar.specs.Model.Ruled.{Rule, RuleAt, Ranged, some_rule, passing, some_rule_lem}

-- The nonterminals, from no member on, after as many rounds as there are.
unfoldable pub grown : (List ℕ → ℕ → Bool) → ℕ → List ℕ
unfolding saturate range
grown fires N = saturate fires (range 64 N) N []

-- What fires at the grown set is in it.
pub grown_closed : (fires : List ℕ → ℕ → Bool) (N A : ℕ) → 64 ≤ A → A < 64 + N → T (fires (grown fires N) A) → T (holds (grown fires N) A)
unfolding grown
grown_closed fires N A l h =
    saturate_closed fires (range 64 N) N [] Distinct.nothing (λ x m. absurd (Memᴰ.not-nil m)) (omega (arith, range_length 64 N))
    A (range_member 64 N A l h)

pub grown_sound : (fires : List ℕ → ℕ → Bool) (P : ℕ → Type 0)
    → ((s : List ℕ) (x : ℕ) → All P s → T (fires s x) → P x) → (N : ℕ) → All P (grown fires N)
unfolding grown
grown_sound fires P j N = saturate_sound fires (range 64 N) P (λ s x a m. j s x a) N [] All.nothing

-- ---- What a left side has where all of a right side have it: can be empty (from nothing on), derives a terminal string
-- (from the terminals on)

-- X is in the base or in the set.
unfoldable pub has : (ℕ → Bool) → List ℕ → ℕ → Bool
unfolding holds
has base s X = base X || holds s X

unfoldable up_fires : (ℕ → Bool) → List Rule → List ℕ → ℕ → Bool
unfolding some_rule every has
up_fires base rs s A = some_rule (λ B β. eqb A B && every (has base s) β) rs

unfoldable pub ups : (ℕ → Bool) → List Rule → ℕ → List ℕ
unfolding grown up_fires
ups base rs N = grown (up_fires base rs) N

module _ (base : ℕ → Bool) (rs : List Rule) (N : ℕ) where
  pub up_sound : (P : ℕ → Type 0) → ClosedUp (RuleAt rs) P → ((X : ℕ) → T (base X) → P X)
      → (X : ℕ) → T (has base (ups base rs N) X) → P X
  unfolding ups up_fires has
  up_sound P c b X h =
      ⊎_elim (b X) (λ k. all_at (grown_sound (up_fires base rs) P j N) (holds_member _ X k)) (one_of (base X) (holds (ups base rs N) X) h)
    where
      j : (s : List ℕ) (x : ℕ) → All P s → T (up_fires base rs s x) → P x
      j s x a h =
          let i = passing (λ B β. eqb x B && every (has base s) β) rs h in
          let e = eqb→eq x i.left (left_of (eqb x i.left) (every (has base s) i.right) i.passes) in
          let g : All (λ Y. T (has base s Y)) i.right =
          every_all (has base s) i.right (right_of_lem (eqb x i.left) (every (has base s) i.right) i.passes) in
          subst P (sym e)
          (c i.number i.left i.right i.rule
          (all_map (λ Y k. ⊎_elim (b Y) (λ m. all_at a (holds_member s Y m)) (one_of (base Y) (holds s Y) k)) g))

  pub up_closed : (T : ℕ) → Ranged rs T N → ClosedUp (RuleAt rs) (λ X. lib.Dec.T (has base (ups base rs N) X))
  unfolding ups up_fires has
  up_closed t r p A β i a =
      or_right (base A) (holds (ups base rs N) A)
      (grown_closed (up_fires base rs) N A (r.low p A β i) (r.high p A β i)
      (some_rule_lem (λ B γ. eqb A B && every (has base (ups base rs N)) γ) i
      (both (eqb A A) (every (has base (ups base rs N)) β) (equal_passes A A refl) (all_every (has base (ups base rs N)) a))))

-- ---- Can be empty

-- Nothing is empty from the start.
unfoldable none_yet : ℕ → Bool
none_yet X = false

unfoldable pub nulls : List Rule → ℕ → List ℕ
unfolding ups none_yet
nulls rs N = ups none_yet rs N

-- A list of which each member can be empty can be.
pub each_empty : {rs : List Rule} {α : List ℕ} → All (λ X. Der (RuleAt rs) (X ∷ []) []) α → Der (RuleAt rs) α []
each_empty All.nothing = Der.done
each_empty (All.also h a) = der_append _ h (each_empty a)

module _ (rs : List Rule) (N : ℕ) where
  pub null_sound : (X : ℕ) → T (holds (nulls rs N) X) → Der (RuleAt rs) (X ∷ []) []
  unfolding nulls none_yet has
  null_sound X h =
      up_sound none_yet rs N (λ Y. Der (RuleAt rs) (Y ∷ []) []) (λ p A β r a. rewritten _ r (each_empty a)) (λ Y k. absurd k) X h

  pub null_closed : (t : ℕ) → Ranged rs t N → ClosedUp (RuleAt rs) (λ X. T (holds (nulls rs N) X))
  unfolding nulls none_yet has
  null_closed t r = up_closed none_yet rs N t r

  pub nulls_complete : (t : ℕ) → Ranged rs t N → {α : List ℕ} → Der (RuleAt rs) α [] → All (λ X. T (holds (nulls rs N) X)) α
  nulls_complete t r d = closed_up (RuleAt rs) (λ X. T (holds (nulls rs N) X)) (null_closed t r) d All.nothing

-- ---- Derives a terminal string

unfoldable is_terminal : ℕ → Bool
is_terminal X = ltb X 64

unfoldable pub is_productive : List Rule → ℕ → ℕ → Bool
unfolding has is_terminal ups
is_productive rs N X = has is_terminal (ups is_terminal rs N) X

-- A list of which each member derives a terminal string does.
each_yields : {rs : List Rule} {α : List ℕ} → All (λ X. (w : List ℕ) × Yields (RuleAt rs) (X ∷ []) w) α
    → (w : List ℕ) × Yields (RuleAt rs) α w
each_yields All.nothing = ([], record { terminals = All.nothing; derives = of_der _ Der.done })
each_yields (All.also h a) =
    let k = each_yields a in (
      h.0 ++ k.0,
      record {
        terminals = all_append h.1.terminals k.1.terminals;
        derives = of_der _ (der_append _ (to_der _ h.1.derives) (to_der _ k.1.derives));
      },
    )

module _ (rs : List Rule) (N : ℕ) where
  pub productive_sound : (X : ℕ) → T (is_productive rs N X) → Productive (RuleAt rs) X
  unfolding is_productive is_terminal
  productive_sound X h =
      let k = up_sound is_terminal rs N (λ Y. (w : List ℕ) × Yields (RuleAt rs) (Y ∷ []) w) closed base X h in
      record { string = k.0; yields = k.1 }
    where
      closed : ClosedUp (RuleAt rs) (λ Y. (w : List ℕ) × Yields (RuleAt rs) (Y ∷ []) w)
      closed p A β r a =
          let k = each_yields a in
          (k.0, record { terminals = k.1.terminals; derives = of_der _ (rewritten _ r (to_der _ k.1.derives)) })

      base : (Y : ℕ) → T (ltb Y 64) → (w : List ℕ) × Yields (RuleAt rs) (Y ∷ []) w
      base Y h = (Y ∷ [], record { terminals = All.also (ltb→lt Y 64 h) All.nothing; derives = of_der _ (der_refl _ (Y ∷ [])) })

  pub productive_complete : (t : ℕ) → Ranged rs t N → (X : ℕ) → Productive (RuleAt rs) X → T (is_productive rs N X)
  unfolding is_productive is_terminal has
  productive_complete t r X p =
      all_at
      (closed_up (RuleAt rs) (λ Y. T (has is_terminal (ups is_terminal rs N) Y)) (up_closed is_terminal rs N t r)
      (to_der _ p.yields.derives)
      (all_map (λ Y l. or_left (ltb Y 64) (holds (ups is_terminal rs N) Y) (lt→ltb Y 64 l)) p.yields.terminals))
      (Memᴰ.head refl)

-- ---- Reachable from START

unfoldable reach_fires : List Rule → List ℕ → ℕ → Bool
unfolding some_rule holds
reach_fires rs s B = eqb B START || some_rule (λ A β. holds s A && holds β B) rs

unfoldable pub is_reachable : List Rule → ℕ → ℕ → Bool
unfolding holds grown reach_fires
is_reachable rs N B = holds (grown (reach_fires rs) N) B

-- A list with a member in it, split there.
pub record Around (X : ℕ) (l : List ℕ) : Type 0 where
  pub front : List ℕ
  pub rest : List ℕ
  pub joined : l ≡ front ++ (X ∷ rest)

pub around : {X : ℕ} {l : List ℕ} → Memᴰ X l → Around X l
around {X} (Memᴰ.head {xs = l} e) = record { front = []; rest = l; joined = ap (λ Y. Y ∷ l) (sym e) }
around (Memᴰ.tail {x = Y} m) =
    let h = around m in record { front = Y ∷ h.front; rest = h.rest; joined = ap (λ l. Y ∷ l) h.joined }

module _ (rs : List Rule) (N : ℕ) where
  pub reachable_sound : (B : ℕ) → T (is_reachable rs N B) → Reachable (RuleAt rs) (START ∷ []) B
  unfolding is_reachable reach_fires
  reachable_sound B h = all_at (grown_sound (reach_fires rs) (Reachable (RuleAt rs) (START ∷ [])) j N) (holds_member _ B h)
    where
      j : (s : List ℕ) (x : ℕ) → All (Reachable (RuleAt rs) (START ∷ [])) s → T (reach_fires rs s x) → Reachable (RuleAt rs) (START ∷ []) x
      j s x a h =
          ⊎_elim
          (λ e. record {
            front = [];
            rest = [];
            stands = subst (λ Y. Derives (RuleAt rs) (START ∷ []) (Y ∷ [])) (sym
                (eqb→eq x START e)) Derives.done;
          })
          (λ k.
          let i = passing (λ A β. holds s A && holds β x) rs k in
          let m = all_at a (holds_member s i.left (left_of (holds s i.left) (holds i.right x) i.passes)) in
          let b = around (holds_member i.right x (right_of_lem (holds s i.left) (holds i.right x) i.passes)) in
          record {
            front = m.front ++ b.front;
            rest = b.rest ++ m.rest;
            stands = of_der _ (opened (RuleAt rs) (START ∷ []) m.front m.rest b.front b.rest x (to_der _ m.stands)
                i.rule b.joined);
          })
          (one_of (eqb x START) (some_rule (λ A β. holds s A && holds β x) rs) h)

  -- A terminal, or reachable by the test.
  unfoldable known : ℕ → Bool
  unfolding is_reachable
  known X = ltb X 64 || is_reachable rs N X

  pub reachable_complete : (t : ℕ) → Ranged rs t N → 1 ≤ N → (B : ℕ) → 64 ≤ B → Reachable (RuleAt rs) (START ∷ []) B
      → T (is_reachable rs N B)
  unfolding known is_reachable reach_fires
  reachable_complete t r n B l h =
      let a = closed_down (RuleAt rs) (λ X. T (known X)) down (to_der _ h.stands) (All.also start All.nothing) in
      ⊎_elim (λ k. absurd (not_below B 64 k l)) (λ k. k)
      (one_of (ltb B 64) (is_reachable rs N B) (all_at (all_rest h.front a) (Memᴰ.head refl)))
    where
      start : T (known START)
      start = grown_closed (reach_fires rs) N 64 (omega arith) (omega arith) tt

      held : (p A X : ℕ) (β : List ℕ) → RuleAt rs p A β → T (is_reachable rs N A) → Memᴰ X β → 64 ≤ X → X < 64 + N
          → T (is_reachable rs N X)
      held p A X β i k m l h =
          grown_closed (reach_fires rs) N X l h
          (or_right (eqb X START) (some_rule (λ C γ. holds (grown (reach_fires rs) N) C && holds γ X) rs)
          (some_rule_lem (λ C γ. holds (grown (reach_fires rs) N) C && holds γ X) i
          (both (holds (grown (reach_fires rs) N) A) (holds β X) k (member_holds m))))

      symbol : (X : ℕ) → RuleSymbol t N X → (64 ≤ X → X < 64 + N → T (is_reachable rs N X)) → T (known X)
      symbol X (RuleSymbol.terminal a b) f = or_left (ltb X 64) (is_reachable rs N X) (lt→ltb X 64 (omega (arith, r.terminals)))
      symbol X (RuleSymbol.nonterminal a b) f = or_right (ltb X 64) (is_reachable rs N X) (f a b)

      down : ClosedDown (RuleAt rs) (λ X. T (known X))
      down p A β i k =
          let e = ⊎_elim (λ b. absurd (not_below A 64 b (r.low p A β i))) (λ b. b) (one_of (ltb A 64) (is_reachable rs N A) k) in
          all_by β (λ X m. symbol X (all_at (r.symbols p A β i) m) (held p A X β i e m))
