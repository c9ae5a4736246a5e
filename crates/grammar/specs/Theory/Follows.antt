-- What stands behind a symbol of a right side, where its left side stands in a form; over any rules.
use Rattle.std.specs.Prelude.{ℕ, ◌≡◌, List, [], ◌∷◌, ◌++◌}
use Rattle.std.proofs.Common.{subst, append_assoc}
use Rattle.grammar.specs.Words.{START, END}
use Rattle.grammar.specs.Grammar.{start_over_end}
use Rattle.grammar.specs.Derivation.{Rules, CanBeEmpty, First, Follow, Reachable}
use Rattle.grammar.specs.Theory.Leftmost.{Der, der_refl, der_append, der_trans, to_der, of_der}
use Rattle.grammar.specs.Theory.Rewriting.{opened}

module _ (R : Rules) (σ : List ℕ) where
  -- What begins the rest of a right side follows the symbol in front of it, where the left side is reachable.
  pub follow_inside : {p A t : ℕ} {β : List ℕ} → R p A β → Reachable R σ A → (b c : List ℕ) (X : ℕ) → β ≡ b ++ (X ∷ c) → First R c t
      → Follow R σ X t
  follow_inside r m b c X e f =
      record {
        token = f.token;
        front = m.front ++ b;
        rest = f.rest ++ m.rest;
        stands = of_der R
            (der_trans R
            (opened R σ m.front m.rest b c X (to_der R m.stands) r e)
            (der_append R (der_refl R (m.front ++ b)) (Der.keep (der_append R (to_der R f.begins) (der_refl R m.rest)))));
      }

  -- What follows the left side follows a symbol of the right side behind which nothing need stand.
  pub follow_last : {p A t : ℕ} {β : List ℕ} → R p A β → Follow R σ A t → (b c : List ℕ) (X : ℕ) → β ≡ b ++ (X ∷ c) → CanBeEmpty R c
      → Follow R σ X t
  follow_last {t = t} r f b c X e d =
      record {
        token = f.token;
        front = f.front ++ b;
        rest = f.rest;
        stands = of_der R
            (der_trans R
            (opened R σ f.front (t ∷ f.rest) b c X (to_der R f.stands) r e)
            (der_append R (der_refl R (f.front ++ b)) (Der.keep (der_append R (to_der R d) (der_refl R (t ∷ f.rest))))));
      }

-- What is reachable from START is reachable from START END.
pub with_end : (R : Rules) {A : ℕ} → Reachable R (START ∷ []) A → Reachable R start_over_end A
with_end R {A} r =
    record {
      front = r.front;
      rest = r.rest ++ (END ∷ []);
      stands = of_der R
          (subst (λ w. Der R start_over_end w) (append_assoc r.front (A ∷ r.rest) (END ∷ []))
          (der_append R (to_der R r.stands) (der_refl R (END ∷ []))));
    }
