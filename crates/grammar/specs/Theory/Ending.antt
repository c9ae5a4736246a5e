-- Document 02, request (iii): "In an accepted grammar, following cheapest rules from any nonterminal comes to an end". What stands in the
-- right side of a cheapest rule costs no more than the left side. Where it costs as much, all beside it cost nothing and can be empty, so
-- that it can stand first. So no nonterminal comes back below itself: it would be left recursive.
use Rattle.std.specs.Prelude.{ℕ, zero, suc, ◌+◌, ◌-◌, ◌≤◌, ◌<◌, ◌≡◌, length}
use Rattle.std.proofs.Math.Path.{refl}
use Rattle.std.proofs.Common.{sym, subst, ◌∙◌, ⊎_elim, arith}
use mathlib.Core.List.Memᴰ
use mathlib.Core.List.{List, [], ◌∷◌, ◌++◌, Memᴰ}
use Rattle.std.proofs.Math.Logic.{dite}
use Rattle.std.proofs.Math.Decide.{dec_lt}
use Rattle.grammar.specs.Words.{Terminal}
use Rattle.grammar.specs.Derivation.{All}
use Rattle.grammar.specs.Cost.{string_cost, SymbolCost, ListCost, CheapestRule, Ends}
use Rattle.grammar.specs.Grammar.{Grammar}
use Rattle.grammar.specs.Theory.Leftmost.{Der, to_der, of_der, der_refl, der_append, der_trans}
use Rattle.grammar.specs.Theory.Closed.{closed_down}
use Rattle.grammar.specs.Theory.Costing.{symbol_cost_unique}
use Rattle.grammar.specs.Theory.Good.{Good, good_below}
use Rattle.grammar.specs.Theory.Members.{all_at}
use Rattle.grammar.specs.Theory.Pigeonhole.{Distinct, distinct_bounded}
use Rattle.grammar.specs.Theory.Predictive.{no_left_recursion}

-- What is asked besides a good grammar: no token is free, and each nonterminal has its cost and its cheapest rule.
pub record Priced (G : Grammar) (cost : ℕ → ℕ) : Type 0 where
  pub paid : (t : ℕ) → Terminal t → G.known t → 1 ≤ G.price t
  pub cheap : (A : ℕ) → 64 ≤ A → G.known A → (p : ℕ) × CheapestRule G.rules G.price A (cost A) p

module _ (G : Grammar) (N R : ℕ) (good : Good G N R) (cost : ℕ → ℕ) (priced : Priced G cost) where
  -- ---- What costs nothing can be empty

  no_tokens : (w : List ℕ) → All Terminal w → All G.known w → string_cost G.price w ≡ 0 → w ≡ []
  unfolding string_cost
  no_tokens [] a b e = refl
  no_tokens (t ∷ w) (All.also h a) (All.also k b) e = absurd (omega (arith, priced.paid t h k))

  free_empty : {X : ℕ} → G.known X → SymbolCost G.rules G.price X 0 → Der G.rules (X ∷ []) []
  free_empty {X} k (SymbolCost.terminal h e) = absurd (omega (arith, priced.paid X h k))
  free_empty {X} k (SymbolCost.nonterminal h c) =
      let d = to_der G.rules c.yields.derives in
      let inner = closed_down G.rules G.known (λ p A β r _. good.symbols p A β r) d (All.also k All.nothing) in
      subst (λ w. Der G.rules (X ∷ []) w) (no_tokens c.string c.yields.terminals inner c.costs) d

  -- ---- One step: B stands in a list of cost c

  -- It costs no more, and where it costs as much it can stand first.
  record Part (α : List ℕ) (c B : ℕ) : Type 0 where
    no_dearer : cost B ≤ c
    first : cost B ≡ c → (δ : List ℕ) × Der G.rules α (B ∷ δ)

  own_cost : {X B b : ℕ} → 64 ≤ B → G.known B → B ≡ X → SymbolCost G.rules G.price X b → cost B ≡ b
  own_cost {B = B} l k e x =
      symbol_cost_unique G.rules G.price
      (subst (λ Y. SymbolCost G.rules G.price Y (cost B)) e (SymbolCost.nonterminal l (priced.cheap B l k).1.cheapest)) x

  part : {α : List ℕ} {c B : ℕ} → ListCost G.rules G.price α c → All G.known α → Memᴰ B α → 64 ≤ B → G.known B
      → Part α c B
  part (ListCost.also {X = X} {α = α} x xs e) (All.also h a) (Memᴰ.head q) l k =
      let same = own_cost l k q x in
      record {
        no_dearer = omega arith;
        first = λ _. (α, subst (λ Y. Der G.rules (X ∷ α) (Y ∷ α)) (sym q) (der_refl G.rules (X ∷ α)));
      }
  part {B = B} (ListCost.also {X = X} {b = b} {α = α} x xs e) (All.also h a) (Memᴰ.tail m) l k =
      let rest = part xs a m l k in
      record {
        no_dearer = omega (arith, rest.no_dearer);
        first = λ f.
            let free : b ≡ 0 = omega (arith, rest.no_dearer) in
            let behind = rest.first (omega (arith, rest.no_dearer)) in
            (behind.0, der_append G.rules (free_empty h (subst (SymbolCost G.rules G.price X) free x)) behind.1);
      }
  part ListCost.nothing a m l k = elim m [ ]

  -- ---- Any number of steps: A stands below B

  data Below (B A : ℕ) : Type 0 where
    cheaper : cost A < cost B → Below B A
    first : {p : ℕ} {β δ : List ℕ} → cost A ≡ cost B → G.rules p B β → Der G.rules β (A ∷ δ) → Below B A

  below_step : {A p C : ℕ} (β : List ℕ) → G.rules p A β → ListCost G.rules G.price β (cost A) → Memᴰ C β → 64 ≤ C
      → G.known C → Below A C
  below_step {A} {p} {C} β r costs m l k =
      let here = part costs (good.symbols p A β r) m l k in
      dite (dec_lt (cost C) (cost A)) (λ h. Below.cheaper h)
      (λ h.
      let same : cost C ≡ cost A = omega (arith, here.no_dearer) in
      Below.first same r (here.first same).1)

  below_trans : {A B C : ℕ} → Below A B → Below B C → Below A C
  below_trans (Below.cheaper h) (Below.cheaper k) = Below.cheaper (omega arith)
  below_trans (Below.cheaper h) (Below.first e r d) = Below.cheaper (omega arith)
  below_trans (Below.first e r d) (Below.cheaper k) = Below.cheaper (omega arith)
  below_trans (Below.first {δ = δ} e r d) (Below.first f s g) =
      Below.first (f ∙ e) r (der_trans G.rules d (Der.down s (der_append G.rules g (der_refl G.rules δ))))

  not_below : {A : ℕ} → Below A A → ⊥
  not_below (Below.cheaper h) = omega arith
  not_below (Below.first e r d) = no_left_recursion G N R good r (of_der G.rules d)

  -- ---- The tree

  -- A's cheapest rule, behind which at most d more are followed one below the other.
  record Node (d A : ℕ) : Type 0 where
    number : ℕ
    cheap : CheapestRule G.rules G.price A (cost A) number
    string : List ℕ
    ends : Ends G.rules G.price d cheap.right string

  list_ends : (h : ℕ) (β : List ℕ) → ((C : ℕ) → Memᴰ C β → 64 ≤ C → (d : ℕ) × (suc d ≡ h) × Node d C)
      → (w : List ℕ) × Ends G.rules G.price h β w
  list_ends h [] f = ([], Ends.nothing)
  list_ends h (X ∷ β) f =
      let rest = list_ends h β (λ C m l. f C (Memᴰ.tail m) l) in
      dite (dec_lt X 64) (λ l. (X ∷ rest.0, Ends.terminal l rest.1))
      (λ l.
      let node = f X (Memᴰ.head refl) (omega arith) in
      let again = subst (λ k. Ends G.rules G.price k β rest.0) (sym node.1) rest.1 in (
        node.2.string ++ rest.0,
        subst (λ k. Ends G.rules G.price k (X ∷ β) (node.2.string ++ rest.0)) node.1
            (Ends.nonterminal node.2.cheap node.2.cheap.rule node.2.ends again refl),
      ))

  -- A and those above it: distinct nonterminals, each above A.
  record Above (A : ℕ) (As : List ℕ) : Type 0 where
    distinct : Distinct (A ∷ As)
    named : (B : ℕ) → Memᴰ B (A ∷ As) → (64 ≤ B) × (B < 64 + N)
    above : (B : ℕ) → Memᴰ B As → Below B A

  above_also : {A C : ℕ} {As : List ℕ} → Above A As → Below A C → 64 ≤ C → G.known C → Above C (A ∷ As)
  above_also {A} {C} {As} a b l k =
      record {
        distinct = Distinct.also (λ m. not_below (higher C m)) a.distinct;
        named = λ B m.
            ⊎_elim (λ e. subst (λ x. (64 ≤ x) × (x < 64 + N)) (sym e) (l, good_below good l k)) (λ i. a.named B i)
            (Memᴰ.cases_cons m);
        above = higher;
      }
    where
      higher : (B : ℕ) → Memᴰ B (A ∷ As) → Below B C
      higher B m =
          ⊎_elim (λ e. subst (λ x. Below x C) (sym e) b) (λ i. below_trans (a.above B i) b) (Memᴰ.cases_cons m)

  make : (h A : ℕ) → 64 ≤ A → G.known A → ((C : ℕ) → 64 ≤ C → G.known C → Below A C → (d : ℕ) × (suc d ≡ h) × Node d C) → Node h A
  make h A l k lower =
      let x = (priced.cheap A l k).1 in
      let known = good.symbols _ A x.right x.rule in
      let tree =
      list_ends h x.right
      (λ C m c. let inner = all_at known m in lower C c inner (below_step x.right x.rule x.reaches m c inner)) in
      record { number = (priced.cheap A l k).0; cheap = x; string = tree.0; ends = tree.1 }

  node : (h A : ℕ) (As : List ℕ) → 64 ≤ A → G.known A → Above A As → h + length (A ∷ As) ≡ N → Node h A
  node zero A As l k a e =
      make 0 A l k
      (λ C c inner b.
      let more = above_also a b c inner in
      absurd (omega (arith, distinct_bounded 64 N more.distinct more.named)))
  node (suc h) A As l k a e =
      make (suc h) A l k (λ C c inner b. (h, refl, node h C (A ∷ As) c inner (above_also a b c inner) (omega arith)))

  -- From any nonterminal it ends, and at most N rules are followed one below the other.
  pub cheapest_ends : (A : ℕ) → 64 ≤ A → G.known A → (w : List ℕ) × Ends G.rules G.price N (A ∷ []) w
  cheapest_ends A l k =
      let low = good_below good l k in
      let tree = node (N - 1) A [] l k alone (omega arith) in
      list_ends N (A ∷ [])
      (λ C m c.
      let is : A ≡ C = ⊎_elim (λ e. sym e) (λ i. absurd (Memᴰ.not-nil i)) (Memᴰ.cases_cons m) in
      (N - 1, omega arith, subst (λ B. Node (N - 1) B) is tree))
    where
      alone : Above A []
      alone =
          record {
            distinct = Distinct.also (λ m. Memᴰ.not-nil m) Distinct.nothing;
            named = λ B m.
                ⊎_elim (λ e. subst (λ x. (64 ≤ x) × (x < 64 + N)) (sym e) (l, good_below good l k)) (λ i. absurd (Memᴰ.not-nil i))
                (Memᴰ.cases_cons m);
            above = λ B m. absurd (Memᴰ.not-nil m);
          }
