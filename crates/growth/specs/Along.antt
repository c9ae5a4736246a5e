-- The numbers that 0 comes to, step by step. A number that is reached and not done yet is on the list.
--     along_begins, along_goes, along_ends   the list: what is done has been stepped on from
--     spent_begins, spent_goes, spent_ends   and is emptied
--     along_less                             it ends: more is done
--     along_one, spent_one                   the answer is one
use Rattle.std.specs.Prelude.{ℕ, ◌-◌, ◌^◌, ◌≤◌, ◌<◌, ◌≡◌, refl, Bool, true, false, List, ◌↔◌, length, get_or, set}
use Rattle.std.proofs.Common.{sym, ◌∙◌, subst, true≢false, ⊎_elim, arith, length-set, ext_get_or, get_or-set_same, get_or-set_other}
use Rattle.base.specs.Choices.{same_or}
use Rattle.sets.specs.Bits.{member}
use Rattle.sets.specs.Operations.{with, union, Beyond, Least}
use Rattle.sets.specs.Laws.{empty_none, with_same, with_keeps, with_cases, with_grows, with_unchanged, union_left, union_right, union_cases, same_members}

-- 0 comes to k: it is k, or it comes to one from which there is a step to k.
pub data Along (feeds : List ℕ) : ℕ → Type 0 where
  start : Along feeds 0
  step : {j k : ℕ} → Along feeds j → member (get_or feeds j 0) k ≡ true → Along feeds k

-- The set has exactly the numbers that 0 comes to.
pub record Reached (feeds : List ℕ) (set : ℕ) : Type 0 where
  pub exact : (k : ℕ) → (member set k ≡ true) ↔ Along feeds k

-- The sets whose numbers are in `done` are emptied, the others are as they were.
pub record Spent (old : List ℕ) (done : ℕ) (new : List ℕ) : Type 0 where
  pub same : length new ≡ length old
  pub gone : (k : ℕ) → member done k ≡ true → get_or new k 0 ≡ 0
  pub kept : (k : ℕ) → (member done k ≡ true → ⊥) → get_or new k 0 ≡ get_or old k 0

-- On the way.
pub record Reaching (feeds : List ℕ) (reached done : ℕ) : Type 0 where
  pub sound : (k : ℕ) → member reached k ≡ true → Along feeds k
  pub start : member reached 0 ≡ true
  pub within : (k : ℕ) → member done k ≡ true → member reached k ≡ true
  pub passed : (k : ℕ) → member done k ≡ true → (j : ℕ) → member (get_or feeds k 0) j ≡ true → member reached j ≡ true

pub along_begins : (feeds : List ℕ) → Reaching feeds (with 0 0) 0
along_begins feeds =
    record {
      sound = λ k m. ⊎_elim (λ e. subst (Along feeds) e Along.start) (λ none. absurd (empty_none k none)) (with_cases 0 0 k m);
      start = with_same 0 0;
      within = λ k m. absurd (empty_none k m);
      passed = λ k m. absurd (empty_none k m);
    }

pub along_goes : {feeds : List ℕ} {reached done rest k more : ℕ} → Reaching feeds reached done → Beyond reached done rest → Least rest k
    → more ≡ get_or feeds k 0 → Reaching feeds (union reached more) (with done k)
along_goes {feeds} {reached} {done} {rest} {k} {more} f b at is =
    record {
      sound = λ j m.
          ⊎_elim (f.sound j)
          (λ h. Along.step (f.sound k ((b.exact k).0 at.held).0) (subst (λ s. member s j ≡ true) is h))
          (union_cases reached more j m);
      start = union_left reached more 0 f.start;
      within = λ j m.
          union_left reached more j
          (⊎_elim (λ e. subst (λ n. member reached n ≡ true) e ((b.exact k).0 at.held).0) (f.within j) (with_cases done k j m));
      passed = λ i m j h.
          ⊎_elim
          (λ e.
          union_right reached more j
          (subst (λ s. member s j ≡ true) (sym is) (subst (λ n. member (get_or feeds n 0) j ≡ true) (sym e) h)))
          (λ was. union_left reached more j (f.passed i was j h))
          (with_cases done k i m);
    }

-- At the end all that is reached is done.
module _ {reached done rest : ℕ} (b : Beyond reached done rest) (e : rest ≡ 0) where
  all_done : (k : ℕ) → member reached k ≡ true → member done k ≡ true
  all_done k m = at (member done k) refl
    where
      at : (a : Bool) → member done k ≡ a → member done k ≡ true
      at true q = q
      at false q =
          absurd
          (empty_none k
          (subst (λ s. member s k ≡ true) e ((b.exact k).1 (m, λ h. true≢false (sym h ∙ q)))))

  pub along_ends : {feeds : List ℕ} → Reaching feeds reached done → Reached feeds reached
  along_ends {feeds} f = record { exact = λ k. (f.sound k, all) }
    where
      all : {k : ℕ} → Along feeds k → member reached k ≡ true
      all Along.start = f.start
      all (Along.step {j = j} {k = k} a m) = f.passed j (all_done j (all a)) k m

  pub spent_ends : {feeds old new : List ℕ} → Reaching feeds reached done → Spent old done new → Spent old reached new
  spent_ends f s =
      record { same = s.same; gone = λ k m. s.gone k (all_done k m); kept = λ k n. s.kept k (λ h. n (f.within k h)) }

pub spent_begins : (old : List ℕ) → Spent old 0 old
spent_begins old = record { same = refl; gone = λ k m. absurd (empty_none k m); kept = λ k n. refl }

pub spent_goes : {old mid : List ℕ} {done k : ℕ} → Spent old done mid → k < length mid → Spent old (with done k) (set mid k 0)
spent_goes {old} {mid} {done} {k} s inside =
    record {
      same = length-set mid k 0 ∙ s.same;
      gone = λ j m.
          ⊎_elim (λ e. subst (λ n. get_or (set mid k 0) n 0 ≡ 0) e (get_or-set_same mid k 0 0 inside))
          (λ was.
          ⊎_elim (λ e. subst (λ n. get_or (set mid k 0) n 0 ≡ 0) e (get_or-set_same mid k 0 0 inside))
          (λ n. get_or-set_other mid k j 0 0 (λ q. n (sym q)) ∙ s.gone j was) (same_or k j))
          (with_cases done k j m);
      kept = λ j n.
          get_or-set_other mid k j 0 0 (λ q. n (subst (λ i. member (with done k) i ≡ true) (sym q) (with_same done k)))
          ∙ s.kept j (λ was. n (with_keeps done k j was));
    }

-- A set that has not been stepped on from is as it was.
pub spent_unstepped : {old mid : List ℕ} {reached done rest k : ℕ} → Spent old done mid → Beyond reached done rest → Least rest k
    → get_or mid k 0 ≡ get_or old k 0
spent_unstepped {k = k} s b at = s.kept k ((b.exact k).0 at.held).1

pub along_less : {reached done rest k : ℕ} → Beyond reached done rest → Least rest k → with done k ≤ 2 ^ 64
    → 2 ^ 64 - with done k < 2 ^ 64 - done
along_less {reached} {done} {rest} {k} b at small =
    let more = with_grows done k in
    let other : with done k ≡ done → ⊥ = λ e. ((b.exact k).0 at.held).1 (with_unchanged done k e) in
    omega (arith, other)

pub along_one : {feeds : List ℕ} {a b : ℕ} → Reached feeds a → Reached feeds b → a < 2 ^ 64 → b < 2 ^ 64 → a ≡ b
along_one {a = a} {b} p q l m =
    same_members 64 a b l m (λ k h. (q.exact k).1 ((p.exact k).0 h)) (λ k h. (p.exact k).1 ((q.exact k).0 h))

pub spent_one : {old a b : List ℕ} {done : ℕ} → Spent old done a → Spent old done b → a ≡ b
spent_one {old} {a} {b} {done} p q = ext_get_or 0 a b (p.same ∙ sym q.same) (λ k h. at k (member done k) refl)
  where
    at : (k : ℕ) (t : Bool) → member done k ≡ t → get_or a k 0 ≡ get_or b k 0
    at k true e = p.gone k e ∙ sym (q.gone k e)
    at k false e =
        let out : member done k ≡ true → ⊥ = λ m. true≢false (sym m ∙ e) in p.kept k out ∙ sym (q.kept k out)
