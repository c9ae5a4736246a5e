-- What putting a rule into rows does to the table, symbol by symbol.
use Rattle.std.specs.Prelude.{ℕ, ◌+◌, ◌-◌, ◌*◌, ◌/◌, ◌%◌, ◌≤◌, ◌<◌, ◌≡◌, refl, Bool, true, ◌⊎◌, length}
use Rattle.std.proofs.Common.{sym, ◌∙◌, subst, inl, inr, ⊎_elim, arith}
use mathlib.Core.List.Memᴰ
use mathlib.Core.List.{List, [], ◌∷◌, ◌++◌, Memᴰ}
use Rattle.sets.specs.Bits.{member}
use Rattle.sets.specs.Operations.{with}
use Rattle.sets.specs.Laws.{empty_none, with_same, with_keeps, with_cases}
use Rattle.growth.specs.Added.{Added}
use Rattle.mentions.specs.Mentions.{InRow}

-- The table has the words of rule p in all rows.
abbrev pub HasWord : ℕ → List ℕ → Type 0
HasWord p table = 65 * (p / 64) + 64 < length table

-- Rule p was put into row r, and nothing else.
pub record Put (r p : ℕ) (old new : List ℕ) : Type 0 where
  pub size : length new ≡ length old
  pub keeps : (s q : ℕ) → InRow old s q → InRow new s q
  pub here : InRow new r p
  pub source : (s q : ℕ) → s < 65 → InRow new s q → InRow old s q ⊎ ((s ≡ r) × (q ≡ p))

pub put_added : {r p mask : ℕ} {old new : List ℕ} {b : Bool} → r < 65 → mask ≡ with 0 (p % 64)
    → Added old (65 * (p / 64) + r) mask new b → Put r p old new
put_added {r} {p} {mask} small is a =
    record {
      size = a.same;
      keeps = λ s q m. a.keeps (65 * (q / 64) + s) (q % 64) m;
      here = a.holds (p % 64) (subst (λ m. member m (p % 64) ≡ true) (sym is) (with_same 0 (p % 64)));
      source = λ s q below m.
          ⊎_elim inl
          (λ h.
          let at = h.0 in
          let bit : p % 64 ≡ q % 64 =
          ⊎_elim (λ e. e) (λ n. absurd (empty_none (q % 64) n))
          (with_cases 0 (p % 64) (q % 64) (subst (λ n. member n (q % 64) ≡ true) is h.1)) in
          inr (omega arith, omega arith))
          (a.source (65 * (q / 64) + s) (q % 64) m);
    }

-- Rule p was put into the row of symbol x where that is a nonterminal, which was added to those that it mentions.
pub record Named (x p named : ℕ) (old new : List ℕ) (more : ℕ) : Type 0 where
  pub size : length new ≡ length old
  pub keeps : (s q : ℕ) → InRow old s q → InRow new s q
  pub here : (k : ℕ) → x ≡ 64 + k → InRow new k p × (member more k ≡ true)
  pub holds : (k : ℕ) → member named k ≡ true → member more k ≡ true
  pub source : (s q : ℕ) → s < 65 → InRow new s q → InRow old s q ⊎ ((x ≡ 64 + s) × (q ≡ p))
  pub origin : (k : ℕ) → member more k ≡ true → (member named k ≡ true) ⊎ (x ≡ 64 + k)

pub named_none : {x p named : ℕ} {old : List ℕ} → x < 64 → Named x p named old old named
named_none low =
    record {
      size = refl;
      keeps = λ s q m. m;
      here = λ k e. absurd (omega arith);
      holds = λ k m. m;
      source = λ s q b m. inl m;
      origin = λ k m. inl m;
    }

pub named_one : {x p named more : ℕ} {old new : List ℕ} → 64 ≤ x → Put (x - 64) p old new → more ≡ with named (x - 64)
    → Named x p named old new more
named_one {x} {p} {named} {more} {old} {new} high put is =
    record {
      size = put.size;
      keeps = put.keeps;
      here = λ k e.
          let at : x - 64 ≡ k = omega arith in (
            subst (λ i. InRow new i p) at put.here,
            subst (λ s. member s k ≡ true) (sym is) (subst (λ i. member (with named (x - 64)) i ≡ true) at (with_same named (x - 64))),
          );
      holds = λ k m. subst (λ s. member s k ≡ true) (sym is) (with_keeps named (x - 64) k m);
      source = λ s q b m. ⊎_elim inl (λ h. let e = h.0 in inr (omega arith, h.1)) (put.source s q b m);
      origin = λ k m.
          ⊎_elim (λ e. inr (omega arith)) inl (with_cases named (x - 64) k (subst (λ s. member s k ≡ true) is m));
    }

-- Rule p was put into the last row where it mentions no nonterminal.
pub record Plain (p named : ℕ) (old new : List ℕ) : Type 0 where
  pub size : length new ≡ length old
  pub keeps : (s q : ℕ) → InRow old s q → InRow new s q
  pub here : named ≡ 0 → InRow new 64 p
  pub source : (s q : ℕ) → s < 65 → InRow new s q → InRow old s q ⊎ ((s ≡ 64) × (q ≡ p) × (named ≡ 0))

pub plain_none : {p named : ℕ} {old : List ℕ} → (named ≡ 0 → ⊥) → Plain p named old old
plain_none some =
    record { size = refl; keeps = λ s q m. m; here = λ e. absurd (some e); source = λ s q b m. inl m }

pub plain_one : {p named : ℕ} {old new : List ℕ} → Put 64 p old new → named ≡ 0 → Plain p named old new
plain_one put none =
    record {
      size = put.size;
      keeps = put.keeps;
      here = λ _. put.here;
      source = λ s q b m. ⊎_elim inl (λ h. inr (h.0, h.1, none)) (put.source s q b m);
    }

-- Rule p was put into the rows of the nonterminals that stand among these symbols, and `named` has those.
pub record Mentioned (α : List ℕ) (p : ℕ) (old new : List ℕ) (named : ℕ) : Type 0 where
  pub size : length new ≡ length old
  pub keeps : (s q : ℕ) → InRow old s q → InRow new s q
  pub puts : (k : ℕ) → Memᴰ (64 + k) α → InRow new k p × (member named k ≡ true)
  pub source : (s q : ℕ) → s < 65 → InRow new s q → InRow old s q ⊎ (Memᴰ (64 + s) α × (q ≡ p))
  pub origin : (k : ℕ) → member named k ≡ true → Memᴰ (64 + k) α

pub mention_begins : {p : ℕ} {old : List ℕ} → Mentioned [] p old old 0
mention_begins =
    record {
      size = refl;
      keeps = λ s q m. m;
      puts = λ k m. absurd (Memᴰ.not-nil m);
      source = λ s q b m. inl m;
      origin = λ k m. absurd (empty_none k m);
    }

-- A member of a list with one more symbol behind it.
front : {X : ℕ} {α : List ℕ} (x : ℕ) → Memᴰ X α → Memᴰ X (α ++ (x ∷ []))
front x (Memᴰ.head e) = Memᴰ.head e
front x (Memᴰ.tail m) = Memᴰ.tail (front x m)

last : {X x : ℕ} (α : List ℕ) → X ≡ x → Memᴰ X (α ++ (x ∷ []))
last [] e = Memᴰ.head e
last (y ∷ α) e = Memᴰ.tail (last α e)

either : {X x : ℕ} (α : List ℕ) → Memᴰ X (α ++ (x ∷ [])) → Memᴰ X α ⊎ (X ≡ x)
either [] (Memᴰ.head e) = inr e
either [] (Memᴰ.tail m) = absurd (Memᴰ.not-nil m)
either (y ∷ α) (Memᴰ.head e) = inl (Memᴰ.head e)
either (y ∷ α) (Memᴰ.tail m) = ⊎_elim (λ h. inl (Memᴰ.tail h)) inr (either α m)

pub mention_goes : {p x named more : ℕ} (α : List ℕ) {old mid new : List ℕ} → Mentioned α p old mid named → Named x p named mid new more
    → Mentioned (α ++ (x ∷ [])) p old new more
mention_goes α w n =
    record {
      size = n.size ∙ w.size;
      keeps = λ s q m. n.keeps s q (w.keeps s q m);
      puts = λ k m.
          ⊎_elim (λ h. let was = w.puts k h in (n.keeps k _ was.0, n.holds k was.1)) (λ e. n.here k (sym e)) (either α m);
      source = λ s q b m.
          ⊎_elim
          (λ h. ⊎_elim inl (λ g. inr (front _ g.0, g.1)) (w.source s q b h)) (λ h. inr (last α (sym h.0), h.1))
          (n.source s q b m);
      origin = λ k m. ⊎_elim (λ h. front _ (w.origin k h)) (λ e. last α (sym e)) (n.origin k m);
    }
