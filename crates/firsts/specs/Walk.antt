-- A walk over a right side from its end: what begins the rest behind each symbol.
use Rattle.std.specs.Prelude.{ℕ, ◌+◌, ◌-◌, ◌≤◌, ◌<◌, ◌≡◌, refl, List, [], ◌∷◌, length, get_or, drop, reverse}
use Rattle.std.proofs.Common.{sym, ap, ◌∙◌, subst, arith, add-one, drop-cons, drop_of_length-le}
use Rattle.std.proofs.lemmas.List.{length-reverse, get_or-reverse}
use Rattle.std.proofs.lemmas.Grind.{get_or_default_zero}
use Rattle.grammar.specs.Words.{right_side}
use Rattle.firsts.specs.Opens.{FirstWith, with_none, with_more}

-- A list from item i on has that one and what is behind it,
pub drop_at : (xs : List ℕ) {i : ℕ} → i < length xs → drop i xs ≡ get_or xs i 0 ∷ drop (i + 1) xs
drop_at xs {i} below = rw (add-one, drop-cons xs i 0) refl

-- and behind its end nothing.
pub drop_over : (xs : List ℕ) {i : ℕ} → length xs ≤ i → drop i xs ≡ []
drop_over xs {i} over = drop_of_length-le xs {i = i} over

-- Item j of a list is x.
pub record At (xs : List ℕ) (j x : ℕ) : Type 0 where
  pub below : j < length xs
  pub is : x ≡ get_or xs j 0

-- From it on the list has it and what is behind it.
pub at_front : {xs : List ℕ} {j x : ℕ} → At xs j x → drop j xs ≡ x ∷ drop (j + 1) xs
at_front {xs} {j} {x} at = rw at.is (drop_at xs at.below)

-- The walk from the end: behind n items comes the one that stands in front of the last n.
pub at_back : (xs : List ℕ) (n m x : ℕ) → m ≡ n + 1 → (n < length (reverse xs)) × (x ≡ get_or (reverse xs) n x) → At xs (length xs - m) x
at_back xs n m x next t =
    let more : n < length xs = omega (arith, length-reverse xs, t.0) in
    let place : length xs - 1 - n ≡ length xs - m = omega arith in
    record {
      below = omega arith;
      is = t.1
          ∙ get_or-reverse xs n x more
          ∙ ap (λ k. get_or xs k x) place
          ∙ get_or_default_zero xs (length xs - m) x (omega arith);
    }

-- What was found from symbol i on.
pub record Walked (ws : List ℕ) (null : ℕ) (firsts : List ℕ) (p base i set : ℕ) : Type 0 where
  pub inside : i ≤ length (right_side ws p)
  pub found : FirstWith null firsts base (drop i (right_side ws p)) set

pub walk_begins : {ws : List ℕ} {p i : ℕ} (null : ℕ) (firsts : List ℕ) (base : ℕ) → i ≡ length (right_side ws p)
    → Walked ws null firsts p base i base
walk_begins {ws} {p} {i} null firsts base e =
    record {
      inside = omega arith;
      found = subst (λ α. FirstWith null firsts base α base) (sym (drop_over (right_side ws p) (omega arith))) (with_none null firsts base);
    }

pub walk_goes : {ws : List ℕ} {null : ℕ} {firsts : List ℕ} {p base j set x r : ℕ} → Walked ws null firsts p base (j + 1) set
    → At (right_side ws p) j x → FirstWith null firsts set (x ∷ []) r → Walked ws null firsts p base j r
walk_goes {null = null} {firsts = firsts} {base = base} {r = r} w at f =
    record {
      inside = omega (arith, at.below);
      found = subst (λ α. FirstWith null firsts base α r) (sym (at_front at)) (with_more null firsts w.found f);
    }
