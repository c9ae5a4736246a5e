-- What the setup desk answers (`DeskAnswer` of Desk.antt) is one, and demand 1 of it. `Requests` states it first.
use Rattle.std.specs.Prelude.{ℕ, ◌<◌, ◌≡◌, refl, List, ◌↔◌, get_or}
use Rattle.std.proofs.Common.{sym, ap, subst, ◌∙◌, arith, ext_get_or}
use Rattle.grammar.specs.Grammar.{Grammar}
use Rattle.grammar.specs.Buffers.{filled, cleared}
use Rattle.grammar.specs.Desk.{CostsAndRules, desk_conditions, DeskAnswer, DeskBy}
use Rattle.grammar.specs.Refusals.{Outcome, given, refused}
use Rattle.grammar.specs.declared.Refusal.{Refusal}
use Rattle.grammar.specs.Theory.Conditions.{some_none, lowest_unique}
use Rattle.grammar.specs.Theory.Costing.{cheapest_rule_unique}
use Rattle.grammar.specs.Theory.Due.{Above, Due, InOrder, lowest_due}
use Rattle.grammar.specs.Theory.Outcomes.{given_refused, given_same, refused_same}
use Rattle.grammar.specs.Theory.Desk.{DeskGives}

pub desk_in_order : (ws : List ℕ) (cost_room rule_room : ℕ) → InOrder (desk_conditions ws cost_room rule_room)
unfolding Above
desk_in_order ws cost_room rule_room = (omega arith, (omega arith, (omega arith, (omega arith, (omega arith, (omega arith, tt))))))

-- The costs and the rules are one list each.
pub costs_and_rules_unique : {N : ℕ} {G : Grammar} {cs ds ps qs : List ℕ} → CostsAndRules N G cs ps → CostsAndRules N G ds qs
    → (cs ≡ ds) × (ps ≡ qs)
costs_and_rules_unique {N} {G} {cs} {ds} {ps} {qs} x y = (
  ext_get_or 0 cs ds (x.costs_count ∙ sym y.costs_count) (λ k h. (same k (omega (arith, x.costs_count))).0),
  ext_get_or 0 ps qs (x.rules_count ∙ sym y.rules_count) (λ k h. (same k (omega (arith, x.rules_count))).1),
)
  where
    same : (k : ℕ) → k < N → (get_or cs k 0 ≡ get_or ds k 0) × (get_or ps k 0 ≡ get_or qs k 0)
    same k h = cheapest_rule_unique G.rules G.price (x.each k h) (y.each k h)

module _ {ws : List ℕ} {cost_room rule_room : ℕ} where
  -- The answer and both buffers are one.
  pub desk_unique : {a b : Outcome ℕ} {x y u v : List ℕ} → DeskAnswer ws cost_room rule_room a x u → DeskAnswer ws cost_room rule_room b y v
      → (a ≡ b) × (x ≡ y) × (u ≡ v)
  desk_unique (DeskBy.give l c) (DeskBy.give k d) =
      let same = costs_and_rules_unique c d in (refl, ap (filled cost_room) same.0, ap (filled rule_room) same.1)
  desk_unique (DeskBy.give l c) (DeskBy.refuse k) = absurd (some_none refl (lowest_unique l k))
  desk_unique (DeskBy.refuse l) (DeskBy.give k d) = absurd (some_none refl (lowest_unique k l))
  desk_unique (DeskBy.refuse l) (DeskBy.refuse k) = let e = lowest_unique l k in (cc, refl, refl)

  refused_due : {a : Outcome ℕ} {x u : List ℕ} {r : Refusal} → DeskAnswer ws cost_room rule_room a x u → a ≡ refused r
      → Due (desk_conditions ws cost_room rule_room) r
  refused_due (DeskBy.give l c) e = absurd (given_refused refl e)
  refused_due (DeskBy.refuse {r = q} l) e =
      subst (λ r. Due (desk_conditions ws cost_room rule_room) r) (refused_same e)
      ((lowest_due (desk_conditions ws cost_room rule_room) q).0 l)

  -- A refusal is given exactly where it is due,
  pub desk_exactly : {a : Outcome ℕ} {x u : List ℕ} → DeskAnswer ws cost_room rule_room a x u → (r : Refusal)
      → (a ≡ refused r) ↔ Due (desk_conditions ws cost_room rule_room) r
  desk_exactly p r = (
    λ e. refused_due p e,
    λ d. (desk_unique p
        (DeskBy.refuse ((lowest_due (desk_conditions ws cost_room rule_room) r).1 d))).0,
  )

  -- and leaves zeros.
  pub desk_zeros : {a : Outcome ℕ} {x u : List ℕ} {r : Refusal} → DeskAnswer ws cost_room rule_room a x u → a ≡ refused r
      → (x ≡ cleared cost_room) × (u ≡ cleared rule_room)
  desk_zeros (DeskBy.give l c) e = absurd (given_refused refl e)
  desk_zeros (DeskBy.refuse l) e = (refl, refl)

  -- Else no refusal applies, and the buffers hold costs and rules.
  pub desk_gives : {a : Outcome ℕ} {x u : List ℕ} {n : ℕ} → DeskAnswer ws cost_room rule_room a x u → a ≡ given n
      → DeskGives ws cost_room rule_room n x u
  desk_gives (DeskBy.give {cs = cs} {ps = ps} l c) e =
      record {
        met = l;
        count = sym (given_same e);
        costs_of = cs;
        rules_of_lem = ps;
        right = c;
        costs_hold = refl;
        rules_hold = refl;
      }
  desk_gives (DeskBy.refuse l) e = absurd (given_refused e refl)
