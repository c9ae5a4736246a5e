-- Sets that are passed on along a list until nothing changes. `feeds` has for each set the numbers of the sets that are to hold it too;
-- the list has the numbers of the sets that may have to be passed on, as the bits of a word: each stands there at most once.
--     feed_none, feed_begins, feed_goes, feed_ends   one set is passed on to those that it feeds
--     close_begins, close_goes, close_ends           the list: what is not on it is passed on already
--     close_less                                     it ends: a set that goes on it has grown
--     closing_has                                    what is so of all that is there at first and is passed on is so of all that comes
--     closing_one, noted_one                         the answer is one
use Rattle.std.specs.Prelude.{ℕ, ◌+◌, ◌-◌, ◌*◌, ◌^◌, ◌≤◌, ◌<◌, ◌≡◌, refl, Bool, true, false, List, ◌⊎◌, ◌↔◌, length, get_or, sum}
use Rattle.std.proofs.Common.{sym, ap, ◌∙◌, subst, inl, inr, ⊎_elim, arith, ext_get_or}
use Rattle.base.specs.Choices.{same_or, below_or}
use Rattle.sets.specs.Bits.{member}
use Rattle.sets.specs.Operations.{with, union, without, Least}
use Rattle.sets.specs.Laws.{empty_none, with_same, with_keeps, union_left, union_right, union_none, same_members}
use Rattle.sets.specs.Taking.{without_keeps, without_was, without_less}
use Rattle.growth.specs.Sums.{first_less, second_less}
use Rattle.growth.specs.Added.{Added}

-- Token t comes to set k: it is there at first, or it comes to a set that feeds k.
pub data Comes (feeds begun : List ℕ) (t : ℕ) : ℕ → Type 0 where
  here : {k : ℕ} → member (get_or begun k 0) t ≡ true → Comes feeds begun t k
  onward : {j k : ℕ} → Comes feeds begun t j → member (get_or feeds j 0) k ≡ true → Comes feeds begun t k

-- The sets hold exactly what comes to them.
pub record Closing (feeds begun sets : List ℕ) : Type 0 where
  pub size : length sets ≡ 64
  pub exact : (k t : ℕ) → (member (get_or sets k 0) t ≡ true) ↔ Comes feeds begun t k

-- What is so of all that is there at first and is passed on is so of all that comes.
pub closing_has : {feeds begun sets : List ℕ} (P : ℕ → ℕ → Type 0) → Closing feeds begun sets
    → ((k t : ℕ) → member (get_or begun k 0) t ≡ true → P k t)
    → ((j k t : ℕ) → member (get_or feeds j 0) k ≡ true → P j t → P k t)
    → (k t : ℕ) → member (get_or sets k 0) t ≡ true → P k t
closing_has {feeds} {begun} P closing first next k t m = all t k ((closing.exact k t).0 m)
  where
    all : (t k : ℕ) → Comes feeds begun t k → P k t
    all t k (Comes.here h) = first k t h
    all t k (Comes.onward {j = j} c h) = next j k t h (all t j c)

-- Every set that feeds one is on the list.
abbrev pub Listed : List ℕ → ℕ → Type 0
Listed feeds list = (k j : ℕ) → member (get_or feeds k 0) j ≡ true → member list k ≡ true

-- i is added to the set where the answer is yes.
pub record Noted (s i : ℕ) (yes : Bool) (r : ℕ) : Type 0 where
  pub noted : yes ≡ true → r ≡ with s i
  pub same : yes ≡ false → r ≡ s

pub noted_one : {s i r q : ℕ} (yes : Bool) → Noted s i yes r → Noted s i yes q → r ≡ q
noted_one true a b = a.noted refl ∙ sym (b.noted refl)
noted_one false a b = a.same refl ∙ sym (b.same refl)

-- Whoever takes a number of a set that has some takes one of the set's.
pub record TakesOne (may : ℕ → Type 0) (gives : ℕ → ℕ → Type 0) : Type 0 where
  pub asks : (s : ℕ) → 0 < s → s < 2 ^ 64 → may s
  pub below : (s i : ℕ) → 0 < s → s < 2 ^ 64 → gives s i → i < 64
  pub held : (s i : ℕ) → 0 < s → s < 2 ^ 64 → gives s i → member s i ≡ true

-- ---- One set is passed on

-- Sets that are not in `grown` hold nothing new, and those in it do.
pub record Grew (old new : List ℕ) (grown : ℕ) : Type 0 where
  pub noted : (j : ℕ) → (member grown j ≡ true → ⊥) → (t : ℕ) → member (get_or new j 0) t ≡ true → member (get_or old j 0) t ≡ true
  pub level : grown ≡ 0 → new ≡ old
  pub raised : 0 < grown → sum old < sum new

-- The members of `mask` were added to the sets in `fed` but those in `rest`, and nothing else; `grown` has those that they were new to.
pub record Feeding (fed mask rest : ℕ) (old new : List ℕ) (grown : ℕ) : Type 0 where
  pub same : length new ≡ length old
  pub within : (j : ℕ) → member rest j ≡ true → member fed j ≡ true
  pub keeps : (j t : ℕ) → member (get_or old j 0) t ≡ true → member (get_or new j 0) t ≡ true
  pub holds : (j : ℕ) → member fed j ≡ true → (member rest j ≡ true → ⊥) → (t : ℕ) → member mask t ≡ true → member (get_or new j 0) t ≡ true
  pub source : (j t : ℕ) → member (get_or new j 0) t ≡ true
      → (member (get_or old j 0) t ≡ true) ⊎ ((member fed j ≡ true) × (member mask t ≡ true))
  pub grew : Grew old new grown

-- All of them.
abbrev pub Fed : ℕ → ℕ → List ℕ → List ℕ → ℕ → Type 0
Fed fed mask old new grown = Feeding fed mask 0 old new grown

pub feed_begins : (fed mask : ℕ) (old : List ℕ) → Feeding fed mask fed old old 0
feed_begins fed mask old =
    record {
      same = refl;
      within = λ j m. m;
      keeps = λ j t m. m;
      holds = λ j m n. absurd (n m);
      source = λ j t m. inl m;
      grew = record { noted = λ j n t m. m; level = λ e. refl; raised = λ l. absurd (omega arith) };
    }

-- A set without members adds nothing.
pub feed_none : (fed : ℕ) {mask : ℕ} (old : List ℕ) → mask ≡ 0 → Fed fed mask old old 0
feed_none fed {mask} old e =
    record {
      same = refl;
      within = λ j m. absurd (empty_none j m);
      keeps = λ j t m. m;
      holds = λ j m n t k. absurd (empty_none t (subst (λ s. member s t ≡ true) e k));
      source = λ j t m. inl m;
      grew = record { noted = λ j n t m. m; level = λ e. refl; raised = λ l. absurd (omega arith) };
    }

-- A set with a member is not 0.
with_some : (s i : ℕ) → 0 < with s i
with_some s i =
    ⊎_elim (λ none. absurd (empty_none i (subst (λ n. member n i ≡ true) (omega arith) (with_same s i)))) (λ some. some)
    (below_or (with s i) 1)

pub feed_goes : {fed mask rest j grown more : ℕ} {old mid new : List ℕ} {b : Bool} → Feeding fed mask rest old mid grown → Least rest j
    → Added mid j mask new b → Noted grown j b more → Feeding fed mask (without rest j) old new more
feed_goes {fed} {mask} {rest} {j} {grown} {more} {old} {mid} {new} {b} f at add note =
    record {
      same = add.same ∙ f.same;
      within = λ i m. f.within i (⊎_elim (λ e. subst (λ n. member rest n ≡ true) e at.held) (λ n. without_was rest j i at.held n m)
          (same_or j i));
      keeps = λ i t m. add.keeps i t (f.keeps i t m);
      holds = λ i m n t k.
          ⊎_elim (λ e. subst (λ a. member (get_or new a 0) t ≡ true) e (add.holds t k))
          (λ other. add.keeps i t (f.holds i m (λ r. n (without_keeps rest j i at.held other r)) t k))
          (same_or j i);
      source = λ i t m.
          ⊎_elim (f.source i t)
          (λ h. inr (subst (λ a. member fed a ≡ true) (sym h.0) (f.within j at.held), h.1))
          (add.source i t m);
      grew = step b refl;
    }
  where
    none : b ≡ false → Grew old new more
    none e =
        let is = note.same e in
        let kept = add.kept e in
        record {
          noted = λ i n t m.
              f.grew.noted i (λ h. n (subst (λ s. member s i ≡ true) (sym is) h)) t
              (subst (λ l. member (get_or l i 0) t ≡ true) kept m);
          level = λ z. kept ∙ f.grew.level (sym is ∙ z);
          raised = λ l. subst (λ l. sum old < sum l) (sym kept) (f.grew.raised (omega arith));
        }

    some : b ≡ true → Grew old new more
    some e =
        let is = note.noted e in
        let up = add.raised e in
        let here = subst (λ s. member s j ≡ true) (sym is) (with_same grown j) in
        record {
          noted = λ i n t m.
              ⊎_elim (f.grew.noted i (λ h. n (subst (λ s. member s i ≡ true) (sym is) (with_keeps grown j i h))) t)
              (λ h. absurd (n (subst (λ a. member more a ≡ true) (sym h.0) here)))
              (add.source i t m);
          level = λ z. absurd (omega (arith, with_some grown j));
          raised = λ l.
              ⊎_elim (λ none. let z : grown ≡ 0 = omega arith in omega (arith, ap sum (f.grew.level z)))
              (λ some. omega (arith, f.grew.raised some)) (below_or grown 1);
        }

    step : (a : Bool) → b ≡ a → Grew old new more
    step false e = none e
    step true e = some e

pub feed_ends : {fed mask rest grown : ℕ} {old new : List ℕ} → Feeding fed mask rest old new grown → rest ≡ 0 → Fed fed mask old new grown
feed_ends {fed} {mask} {grown = grown} {old = old} {new = new} f e = subst (λ r. Feeding fed mask r old new grown) e f

-- ---- The list

-- On the way: what is in a set comes to it, and every set that is not on the list is passed on.
pub record Opened (feeds begun sets : List ℕ) (list : ℕ) : Type 0 where
  pub size : length sets ≡ 64
  pub sound : (k t : ℕ) → member (get_or sets k 0) t ≡ true → Comes feeds begun t k
  pub keeps : (k t : ℕ) → member (get_or begun k 0) t ≡ true → member (get_or sets k 0) t ≡ true
  pub passed : (k : ℕ) → (member list k ≡ true → ⊥) → (j : ℕ) → member (get_or feeds k 0) j ≡ true
      → (t : ℕ) → member (get_or sets k 0) t ≡ true → member (get_or sets j 0) t ≡ true

pub close_begins : (feeds begun : List ℕ) (list : ℕ) → length begun ≡ 64 → Listed feeds list → Opened feeds begun begun list
close_begins feeds begun list size listed =
    record {
      size = size;
      sound = λ k t m. Comes.here m;
      keeps = λ k t m. m;
      passed = λ k n j m. absurd (n (listed k j m));
    }

pub close_goes : (k : ℕ) {feeds begun old new : List ℕ} {list fed mask grown : ℕ} → Opened feeds begun old list
    → member list k ≡ true → fed ≡ get_or feeds k 0 → mask ≡ get_or old k 0 → Fed fed mask old new grown → Opened feeds begun new (union (without list k) grown)
close_goes k {feeds} {begun} {old} {new} {list} {fed} {mask} {grown} o held is_fed is_mask f =
    record {
      size = f.same ∙ o.size;
      sound = λ i t m.
          ⊎_elim (o.sound i t)
          (λ h.
          Comes.onward {j = k} (o.sound k t (subst (λ s. member s t ≡ true) is_mask h.1)) (subst (λ s. member s i ≡ true) is_fed h.0))
          (f.source i t m);
      keeps = λ i t m. f.keeps i t (o.keeps i t m);
      passed = λ i n j m t h.
          let was = f.grew.noted i (λ g. n (union_right (without list k) grown i g)) t h in
          ⊎_elim
          (λ e.
          f.holds j (subst (λ s. member s j ≡ true) (sym is_fed) (subst (λ a. member (get_or feeds a 0) j ≡ true) (sym e) m)) (empty_none j) t
          (subst (λ s. member s t ≡ true) (sym is_mask) (subst (λ a. member (get_or old a 0) t ≡ true) (sym e) was)))
          (λ other.
          f.keeps j t (o.passed i (λ g. n (union_left (without list k) grown i (without_keeps list k i held other g))) j m t was))
          (same_or k i);
    }

-- Behind the list there is nothing to pass on, so that a set holds what comes to it.
pub close_ends : {feeds begun sets : List ℕ} {list : ℕ} → Opened feeds begun sets list → list ≡ 0 → Closing feeds begun sets
close_ends {feeds} {begun} {sets} {list} o e =
    record { size = o.size; exact = λ k t. (o.sound k t, all t k) }
  where
    nothing : (k : ℕ) → member list k ≡ true → ⊥
    nothing k m = empty_none k (subst (λ s. member s k ≡ true) e m)

    all : (t k : ℕ) → Comes feeds begun t k → member (get_or sets k 0) t ≡ true
    all t k (Comes.here m) = o.keeps k t m
    all t k (Comes.onward {j = j} c m) = o.passed j (nothing j) k m t (all t j c)

-- What is left to be done falls: a set has grown, or the list has lost one.
abbrev pub left : List ℕ → ℕ → ℕ
left sets list = (64 * 2 ^ 64 - sum sets) * 2 ^ 64 + list

pub close_less : (list k : ℕ) {fed mask grown : ℕ} {old new : List ℕ} → member list k ≡ true → Fed fed mask old new grown → sum new ≤ 64 * 2 ^ 64
    → union (without list k) grown < 2 ^ 64 → left new (union (without list k) grown) < left old list
close_less list k {grown = grown} {old} {new} held f limit small =
    ⊎_elim
    (λ none.
    let z : grown ≡ 0 = omega arith in
    let rest = ap (λ g. union (without list k) g) z ∙ union_none (without list k) in
    let less = without_less list k held in
    second_less (2 ^ 64) (64 * 2 ^ 64 - sum old) (64 * 2 ^ 64 - sum new) list (union (without list k) grown)
    (ap (λ l. 64 * 2 ^ 64 - sum l) (f.grew.level z)) (subst (λ n. n < list) (sym rest) less))
    (λ some.
    let up = f.grew.raised some in
    first_less (2 ^ 64) (64 * 2 ^ 64 - sum old) (64 * 2 ^ 64 - sum new) list (union (without list k) grown) (omega arith) small)
    (below_or grown 1)

-- ---- Only one answer

pub closing_one : {feeds begun one two : List ℕ} → Closing feeds begun one → Closing feeds begun two
    → ((j : ℕ) → get_or one j 0 < 2 ^ 64) → ((j : ℕ) → get_or two j 0 < 2 ^ 64) → one ≡ two
closing_one {one = one} {two = two} p q l m =
    ext_get_or 0 one two (p.size ∙ sym q.size)
    (λ k h.
    same_members 64 (get_or one k 0) (get_or two k 0) (l k) (m k)
    (λ t i. (q.exact k t).1 ((p.exact k t).0 i)) (λ t i. (p.exact k t).1 ((q.exact k t).0 i)))
