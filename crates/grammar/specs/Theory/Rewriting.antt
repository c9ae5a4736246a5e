-- A right side in the place of its left side, and the terminal strings that a list affords; for any rules.
use Rattle.std.specs.Prelude.{ℕ, ◌+◌, ◌≡◌, List, [], ◌∷◌, ◌++◌}
use Rattle.std.proofs.Common.{sym, ap, ◌∙◌, subst, append-nil, append_assoc}
use native.Mathlib.Omega.{arith}
use Rattle.grammar.specs.Words.{Terminal}
use Rattle.grammar.specs.Derivation.{Rules, All, Yields}
use Rattle.grammar.specs.Cost.{string_cost}
use Rattle.grammar.specs.Theory.Leftmost.{Der, der_refl, der_append, der_trans, to_der, of_der}
use Rattle.grammar.specs.Theory.Closed.{all_append}

-- What a right side derives its left side derives.
pub rewritten : (R : Rules) {p A : ℕ} {β w : List ℕ} → R p A β → Der R β w → Der R (A ∷ []) w
rewritten R {β = β} {w = w} r d = Der.down r (subst (λ l. Der R l w) (sym (append-nil β)) d)

-- A form in which A stands, with A rewritten to b, X and c.
pub opened : (R : Rules) (begin φ ψ b c : List ℕ) (X : ℕ) {p A : ℕ} {β : List ℕ} → Der R begin (φ ++ (A ∷ ψ)) → R p A β
    → β ≡ b ++ (X ∷ c) → Der R begin ((φ ++ b) ++ (X ∷ (c ++ ψ)))
opened R begin φ ψ b c X {β = β} d r e =
    subst (λ w. Der R begin w) (ap (λ l. φ ++ (l ++ ψ)) e ∙ regroup)
    (der_trans R d (der_append R (der_refl R φ) (Der.down r (der_refl R (β ++ ψ)))))
  where
    regroup : φ ++ ((b ++ (X ∷ c)) ++ ψ) ≡ (φ ++ b) ++ (X ∷ (c ++ ψ))
    regroup = simp append_assoc

-- ---- Terminal strings and their costs

pub string_append : (price : ℕ → ℕ) (v w : List ℕ) → string_cost price (v ++ w) ≡ string_cost price v + string_cost price w
unfolding string_cost
string_append price [] w = omega arith
string_append price (t ∷ v) w = omega (arith, string_append price v w)

-- The list derives a terminal string of cost c.
pub record Affords (R : Rules) (price : ℕ → ℕ) (α : List ℕ) (c : ℕ) : Type 0 where
  pub string : List ℕ
  pub yields : Yields R α string
  pub costs : string_cost price string ≡ c

module _ (R : Rules) (price : ℕ → ℕ) where
  pub affords_nothing : Affords R price [] 0
  unfolding string_cost
  affords_nothing =
      record { string = []; yields = record { terminals = All.nothing; derives = of_der R Der.done }; costs = omega arith }

  pub affords_terminal : {t c : ℕ} → Terminal t → price t ≡ c → Affords R price (t ∷ []) c
  unfolding string_cost
  affords_terminal {t} h e =
      record {
        string = t ∷ [];
        yields = record { terminals = All.also h All.nothing; derives = of_der R (der_refl R (t ∷ [])) };
        costs = omega arith;
      }

  -- Two lists side by side afford what both afford together,
  pub affords_append : {α β : List ℕ} {c d : ℕ} → Affords R price α c → Affords R price β d → Affords R price (α ++ β) (c + d)
  affords_append a b =
      record {
        string = a.string ++ b.string;
        yields = record {
          terminals = all_append a.yields.terminals b.yields.terminals;
          derives = of_der R (der_append R (to_der R a.yields.derives) (to_der R b.yields.derives));
        };
        costs = omega (arith, string_append price a.string b.string, a.costs, b.costs);
      }

  -- and a left side what its right side affords.
  pub affords_rule : {p A c : ℕ} {β : List ℕ} → R p A β → Affords R price β c → Affords R price (A ∷ []) c
  affords_rule r a =
      record {
        string = a.string;
        yields = record { terminals = a.yields.terminals; derives = of_der R (rewritten R r (to_der R a.yields.derives)) };
        costs = a.costs;
      }
