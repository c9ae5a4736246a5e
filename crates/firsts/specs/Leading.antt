-- The walk over a right side from its front to the first symbol that cannot be empty, which gives what can stand first to the left side.
use Rattle.std.specs.Prelude.{ℕ, ◌+◌, ◌-◌, ◌≤◌, ◌<◌, ◌≡◌, refl, Bool, true, false, List, [], ◌∷◌, ◌⊎◌, length, get_or, drop}
use Rattle.std.proofs.Common.{sym, ap, ◌∙◌, subst, true≢false, inl, inr, ⊎_elim, arith}
use Rattle.grammar.specs.Words.{Terminal, rule_count, right_side}
use Rattle.grammar.specs.Derivation.{First}
use Rattle.grammar.specs.Grammar.{RuleOf}
use Rattle.grammar.specs.Theory.Firsts.{first_self}
use Rattle.shape.specs.Accessors.{LeftOf}
use Rattle.firsts.specs.Walk.{drop_at, drop_over}
use Rattle.sets.specs.Bits.{member}
use Rattle.sets.specs.Operations.{with}
use Rattle.sets.specs.Laws.{empty_none, with_same, with_keeps, with_cases}
use Rattle.growth.specs.Added.{Added, Kept}
use Rattle.growth.specs.Closing.{Listed}
use Rattle.firsts.specs.Asked.{Asked}
use Rattle.firsts.specs.Masks.{number_symbol}
use Rattle.firsts.specs.Corners.{Corner, corner_none}
use Rattle.firsts.specs.Firsts.{SoundFirsts, corner_first}
use Rattle.firsts.specs.Begun.{Begun, Given, Led, given_kept}

-- The walk has come to the rest α: what can stand first in the right side is given to k, or can stand first in α.
pub record Leading (ws : List ℕ) (null p k : ℕ) (α feeds₀ sets₀ feeds sets : List ℕ) (list : ℕ) : Type 0 where
  pub begun : Begun ws feeds sets list
  pub fed : Kept feeds₀ feeds
  pub kept : Kept sets₀ sets
  pub inside : (X : ℕ) → Corner null X α → Corner null X (right_side ws p)
  pub given : (X : ℕ) → Corner null X (right_side ws p) → Given k feeds sets X ⊎ Corner null X α

pub lead_begins : {ws : List ℕ} {null p k : ℕ} {feeds sets : List ℕ} {list : ℕ} → Begun ws feeds sets list
    → Leading ws null p k (drop 0 (right_side ws p)) feeds sets feeds sets list
lead_begins b = record { begun = b; fed = λ j t m. m; kept = λ j t m. m; inside = λ X o. o; given = λ X o. inr o }

-- The rest from symbol i on begins with it,
pub lead_at : (xs : List ℕ) {ws : List ℕ} {null p k i list : ℕ} {feeds₀ sets₀ feeds sets : List ℕ} → i < length xs
    → Leading ws null p k (drop i xs) feeds₀ sets₀ feeds sets list
    → Leading ws null p k (get_or xs i 0 ∷ drop (i + 1) xs) feeds₀ sets₀ feeds sets list
lead_at xs {ws} {null} {p} {k} {list = list} {feeds₀} {sets₀} {feeds} {sets} below l =
    subst (λ α. Leading ws null p k α feeds₀ sets₀ feeds sets list) (drop_at xs below) l

-- and behind the last one it has nothing.
pub lead_none : (xs : List ℕ) {ws : List ℕ} {null p k i list : ℕ} {feeds₀ sets₀ feeds sets : List ℕ} → length xs ≤ i
    → Leading ws null p k (drop i xs) feeds₀ sets₀ feeds sets list → Leading ws null p k [] feeds₀ sets₀ feeds sets list
lead_none xs {ws} {null} {p} {k} {list = list} {feeds₀} {sets₀} {feeds} {sets} over l =
    subst (λ α. Leading ws null p k α feeds₀ sets₀ feeds sets list) (drop_over xs over) l

module _
    {ws table : List ℕ}
    {null : ℕ}
    (asked : Asked ws null table)
    {p k : ℕ}
    (counted : p < rule_count ws)
    (left : LeftOf ws p k)
    {feeds₀ sets₀ : List ℕ} where
  -- Symbol x was given, and the walk goes on with β, which is what stands behind x where x can be empty.
  lead_step : {x list more : ℕ} {α β feeds feeds' sets sets' : List ℕ} → Leading ws null p k (x ∷ α) feeds₀ sets₀ feeds sets list
      → Begun ws feeds' sets' more → Kept feeds feeds' → Kept sets sets' → Given k feeds' sets' x
      → ((X : ℕ) → Corner null X β → Corner null X (x ∷ α))
      → ((X : ℕ) → 64 ≤ x → member null (x - 64) ≡ true → Corner null X α → Corner null X β)
      → Leading ws null p k β feeds₀ sets₀ feeds' sets' more
  lead_step {x} {α = α} {β = β} {feeds' = feeds'} {sets' = sets'} l b f s g back on =
      record {
        begun = b;
        fed = λ j t m. f j t (l.fed j t m);
        kept = λ j t m. s j t (l.kept j t m);
        inside = λ X o. l.inside X (back X o);
        given = λ X o. ⊎_elim (λ h. inl (given_kept f s h)) (next X) (l.given X o);
      }
    where
      next : (X : ℕ) → Corner null X (x ∷ α) → Given k feeds' sets' X ⊎ Corner null X β
      next X (Corner.here e) = inl (subst (Given k feeds' sets') (sym e) g)
      next X (Corner.past high n o) = inr (on X high n o)

  -- A token: nothing behind it can stand first.
  pub lead_token : {x list mask : ℕ} {α feeds sets sets' : List ℕ} {b : Bool}
      → Leading ws null p k (x ∷ α) feeds₀ sets₀ feeds sets list → x < 64 → mask ≡ with 0 x → Added sets k mask sets' b
      → Leading ws null p k [] feeds₀ sets₀ feeds sets' list
  lead_token {x} {mask = mask} {sets = sets} {sets' = sets'} l low is a =
      lead_step l
      (record { size = l.begun.size; sound = sound; passes = l.begun.passes; listed = l.begun.listed })
      (λ j t m. m) a.keeps
      (record {
        token = λ i. a.holds x (subst (λ n. member n x ≡ true) (sym is) (with_same 0 x));
        name = λ high. absurd (omega arith);
      })
      (λ X o. absurd (corner_none o)) (λ X high. absurd (omega arith))
    where
      sound : SoundFirsts ws sets'
      sound =
          record {
            size = a.same ∙ l.begun.sound.size;
            sound = λ j t token m.
                ⊎_elim (l.begun.sound.sound j t token)
                (λ c.
                let e : x ≡ t =
                ⊎_elim (λ i. i) (λ i. absurd (empty_none t i)) (with_cases 0 x t (subst (λ n. member n t ≡ true) is c.1)) in
                subst (λ n. First (RuleOf ws) ((64 + n) ∷ []) t) (sym c.0)
                (corner_first ws asked.shaped null asked.nulls counted left token (l.inside x (Corner.here refl))
                (subst (λ X. First (RuleOf ws) (X ∷ []) t) (sym e) (first_self (RuleOf ws) t token))))
                (a.source j t m);
          }

  -- A nonterminal feeds the left side.
  lead_name : {x list mask more : ℕ} {α β feeds feeds' sets : List ℕ} {b : Bool}
      → Leading ws null p k (x ∷ α) feeds₀ sets₀ feeds sets list → 64 ≤ x → mask ≡ with 0 k → Added feeds (x - 64) mask feeds' b
      → more ≡ with list (x - 64)
      → ((X : ℕ) → Corner null X β → Corner null X (x ∷ α))
      → ((X : ℕ) → 64 ≤ x → member null (x - 64) ≡ true → Corner null X α → Corner null X β)
      → Leading ws null p k β feeds₀ sets₀ feeds' sets more
  lead_name {x} {list} {mask} {more} {feeds = feeds} {feeds' = feeds'} l high is a also back on =
      lead_step l
      (record { size = a.same ∙ l.begun.size; sound = l.begun.sound; passes = passes; listed = listed })
      a.keeps (λ j t m. m)
      (record {
        token = λ low. absurd (omega arith);
        name = λ i. a.holds k (subst (λ n. member n k ≡ true) (sym is) (with_same 0 k));
      })
      back on
    where
      only : (m : ℕ) → member mask m ≡ true → k ≡ m
      only m h = ⊎_elim (λ i. i) (λ i. absurd (empty_none m i)) (with_cases 0 k m (subst (λ n. member n m ≡ true) is h))

      passes : (j m t : ℕ) → Terminal t → member (get_or feeds' j 0) m ≡ true → First (RuleOf ws) ((64 + j) ∷ []) t
          → First (RuleOf ws) ((64 + m) ∷ []) t
      passes j m t token h f =
          ⊎_elim (λ i. l.begun.passes j m t token i f)
          (λ c.
          let at : 64 + j ≡ x = ap (λ n. 64 + n) c.0 ∙ number_symbol x high in
          subst (λ n. First (RuleOf ws) ((64 + n) ∷ []) t) (only m c.1)
          (corner_first ws asked.shaped null asked.nulls counted left token (l.inside x (Corner.here refl))
          (subst (λ X. First (RuleOf ws) (X ∷ []) t) at f)))
          (a.source j m h)

      listed : Listed feeds' more
      listed j m h =
          subst (λ s. member s j ≡ true) (sym also)
          (⊎_elim (λ i. with_keeps list (x - 64) j (l.begun.listed j m i))
          (λ c. subst (λ n. member (with list (x - 64)) n ≡ true) (sym c.0) (with_same list (x - 64)))
          (a.source j m h))

  -- Behind one that can be empty the walk goes on,
  pub lead_past : {x list mask more : ℕ} {α feeds feeds' sets : List ℕ} {b : Bool}
      → Leading ws null p k (x ∷ α) feeds₀ sets₀ feeds sets list → 64 ≤ x → mask ≡ with 0 k → Added feeds (x - 64) mask feeds' b
      → more ≡ with list (x - 64) → member null (x - 64) ≡ true → Leading ws null p k α feeds₀ sets₀ feeds' sets more
  lead_past l high is a also n = lead_name l high is a also (λ X o. Corner.past high n o) (λ X i m o. o)

  -- and at any other it ends.
  pub lead_stop : {x list mask more : ℕ} {α feeds feeds' sets : List ℕ} {b : Bool}
      → Leading ws null p k (x ∷ α) feeds₀ sets₀ feeds sets list → 64 ≤ x → mask ≡ with 0 k → Added feeds (x - 64) mask feeds' b
      → more ≡ with list (x - 64) → member null (x - 64) ≡ false → Leading ws null p k [] feeds₀ sets₀ feeds' sets more
  lead_stop l high is a also n =
      lead_name l high is a also (λ X o. absurd (corner_none o)) (λ X i m. absurd (true≢false (sym m ∙ n)))

  -- Nothing is left.
  pub lead_ends : {list : ℕ} {feeds sets : List ℕ} → Leading ws null p k [] feeds₀ sets₀ feeds sets list
      → Led ws null p feeds₀ sets₀ feeds sets list
  lead_ends {feeds = feeds} {sets = sets} l =
      record {
        begun = l.begun;
        fed = l.fed;
        kept = l.kept;
        given = λ j X e o.
            let same : k ≡ j = omega (arith, left.names) in
            subst (λ n. Given n feeds sets X) same (⊎_elim (λ g. g) (λ r. absurd (corner_none r)) (l.given X o));
      }
