-- The table of lengths, round by round: behind d rounds it holds the length of what is spelt at depth d. A round that changes nothing is
-- the last.
use Rattle.std.specs.Prelude.{ℕ, zero, suc, ◌+◌, ◌-◌, ◌≤◌, ◌<◌, ◌≡◌, Bool, false, List, length, get_or}
use Rattle.std.proofs.Math.Path.{refl, ap}
use Rattle.std.proofs.Common.{sym, ◌∙◌, subst}
use Rattle.std.proofs.Math.Logic.{dite}
use Rattle.std.proofs.Math.Decide.{dec_lt}
use native.Mathlib.Omega.{arith}
use Rattle.grammar.specs.Derivation.{All}
use Rattle.grammar.specs.Theory.Closed.{total}
use Rattle.grammar.specs.Theory.Members.{all_map}
use Rattle.strings.specs.Laws.{
  spelt_token,
  spelt_none,
  spelt_right,
  joined_length,
  spelt_grows,
  length_token,
  length_other,
  deep_zero,
  deep_below,
}
use Rattle.strings.specs.Spelled.{Spells, blank_spelt}
use Rattle.strings.specs.Spelling.{members, right_of, spelt, Deep, length_in}

-- The table holds the length of what each nonterminal spells at depth d.
pub record Measured (table : List ℕ) (d : ℕ) (lengths : List ℕ) : Type 0 where
  pub size : length lengths ≡ 64
  pub exact : (k : ℕ) → k < 64 → get_or lengths k 0 ≡ length (spelt table d (64 + k))

-- What is asked of the tables: all lengths are 0 at first.
pub record CanMeasure (table : List ℕ) (depth : ℕ) (lengths : List ℕ) : Type 0 where
  pub spells : Spells table depth
  pub size : length lengths ≡ 64
  pub zeros : (k : ℕ) → get_or lengths k 0 ≡ 0

-- A sum that fits: of symbols that have their places.
pub record CanSum (lengths : List ℕ) (right : ℕ) : Type 0 where
  pub size : length lengths ≡ 64
  pub inside : All (λ X. X < 128) (members right)
  pub limit : total (λ X. length_in lengths X) (members right) ≤ 60000

-- A round over the first `count` entries of the table.
pub record CanRound (table : List ℕ) (count : ℕ) (lengths next : List ℕ) : Type 0 where
  pub few : count ≤ 64
  pub table_size : length table ≡ 64
  pub next_size : length next ≡ 64
  pub sums : (k : ℕ) → k < 64 → CanSum lengths (get_or table k 0)

-- It leaves in `next` the lengths of the next depth.
pub record Rounded (table : List ℕ) (count : ℕ) (lengths old next : List ℕ) : Type 0 where
  pub size : length next ≡ length old
  pub sums : (k : ℕ) → k < count → get_or next k 0 ≡ total (λ X. length_in lengths X) (members (get_or table k 0))
  pub others : (k : ℕ) → count ≤ k → get_or next k 0 ≡ get_or old k 0

-- The first `count` lengths become the next ones; where the answer is no, none changed.
pub record Renewed (count : ℕ) (next old lengths : List ℕ) (changed : Bool) : Type 0 where
  pub size : length lengths ≡ length old
  pub taken : (k : ℕ) → k < count → get_or lengths k 0 ≡ get_or next k 0
  pub others : (k : ℕ) → count ≤ k → get_or lengths k 0 ≡ get_or old k 0
  pub same : changed ≡ false → (k : ℕ) → get_or lengths k 0 ≡ get_or old k 0

-- ---- What is known at each depth

module _ (table : List ℕ) (depth : ℕ) (s : Spells table depth) where
  inner : (d X : ℕ) → Deep table d X → X < 128
  inner zero X h = omega (arith, deep_zero table X h)
  inner (suc d) X h = dite (dec_lt X 64) (λ l. omega arith) (λ l. (deep_below table d X h (omega arith)).0)

  right_at : (k : ℕ) → right_of table (64 + k) ≡ members (get_or table k 0)
  unfolding right_of
  right_at k = let same : 64 + k - 64 ≡ k = omega arith in ap (λ n. members (get_or table n 0)) same

  -- Each right side has symbols that have their places.
  members_inside : (k : ℕ) → k < 64 → All (λ X. X < 128) (right_of table (64 + k))
  members_inside k l = go depth s.some (s.deep k l)
    where
      go : (d : ℕ) → 1 ≤ d → Deep table d (64 + k) → All (λ X. X < 128) (right_of table (64 + k))
      go zero one h = absurd (omega arith)
      go (suc d) one h = all_map (λ X x. inner d X x) (deep_below table d (64 + k) h (omega arith)).1

  module _ {lengths : List ℕ} {d : ℕ} (m : Measured table d lengths) where
    length_in_lem : (X : ℕ) → X < 128 → length_in lengths X ≡ length (spelt table d X)
    length_in_lem X l =
        dite (dec_lt X 64)
        (λ low. length_token lengths X low ∙ sym (ap length (spelt_token table d X low)))
        (λ high.
        let e : 64 + (X - 64) ≡ X = omega arith in
        length_other lengths X (omega arith) ∙ (m.exact (X - 64) (omega arith) ∙ ap (λ Y. length (spelt table d Y)) e))

    sum_in : {l : List ℕ} → All (λ X. X < 128) l → total (λ X. length_in lengths X) l ≡ total (λ X. length (spelt table d X)) l
    unfolding total
    sum_in All.nothing = refl
    sum_in (All.also {x = x} h a) = omega (arith, length_in_lem x h, sum_in a)

    -- The sum over a right side is the length at the next depth,
    sum_right : (k : ℕ) → k < 64 → total (λ X. length_in lengths X) (members (get_or table k 0)) ≡ length (spelt table (suc d) (64 + k))
    sum_right k l =
        sym (ap (total (λ X. length_in lengths X)) (right_at k))
        ∙ (sum_in (members_inside k l)
        ∙ (sym (joined_length (λ X. spelt table d X) (right_of table (64 + k)))
        ∙ sym (ap length (spelt_right table d (64 + k) (omega arith)))))

    -- which is small.
    pub can_sum : suc d ≤ depth → (k : ℕ) → k < 64 → CanSum lengths (get_or table k 0)
    can_sum l k h =
        record {
          size = m.size;
          inside = subst_all k h;
          limit = omega (arith, sum_right k h, spelt_grows table (suc d) depth l (64 + k), s.limit k h);
        }
      where
        subst_all : (k : ℕ) → k < 64 → All (λ X. X < 128) (members (get_or table k 0))
        subst_all k h = subst (λ l. All (λ X. X < 128) l) (right_at k) (members_inside k h)

    -- The next lengths, taken over.
    pub measured_next : {next old new : List ℕ} {changed : Bool} → Rounded table depth lengths old next
        → Renewed depth next lengths new changed → Measured table (suc d) new
    measured_next {next} {old} {new} r w =
        record {
          size = w.size ∙ m.size;
          exact = λ k l.
              dite (dec_lt k depth)
              (λ h. w.taken k h ∙ (r.sums k h ∙ sum_right k l))
              (λ h.
              let none = s.blank k (omega arith) in
              w.others k (omega arith)
              ∙ (m.exact k l ∙ (ap length (blank_spelt table d k none) ∙ sym (ap length (blank_spelt table (suc d) k none)))));
        }

  pub measured_first : {lengths : List ℕ} → length lengths ≡ 64 → ((k : ℕ) → get_or lengths k 0 ≡ 0) → Measured table 0 lengths
  measured_first size zeros =
      record { size = size; exact = λ k l. zeros k ∙ sym (ap length (spelt_none table (64 + k) (omega arith))) }

  -- Lengths that hold at two depths, one behind the other, hold at all further ones.
  pub measured_last : {lengths : List ℕ} {d : ℕ} → Measured table d lengths → Measured table (suc d) lengths → (e : ℕ)
      → Measured table (d + e) lengths
  measured_last {lengths} {d} m n zero = let same : d + 0 ≡ d = omega arith in subst (λ x. Measured table x lengths) (sym same) m
  measured_last {lengths} {d} m n (suc e) =
      let before = measured_last m n e in
      let same : d + suc e ≡ suc (d + e) = omega arith in
      subst (λ x. Measured table x lengths) (sym same)
      (record {
        size = m.size;
        exact = λ k l. n.exact k l ∙ (sym (sum_right m k l) ∙ sum_right before k l);
      })

  -- A round that changes something,
  pub measured_goes : {lengths next old new : List ℕ} {changed : Bool} (d : ℕ) → Measured table d lengths
      → Rounded table depth lengths old next → Renewed depth next lengths new changed → Measured table (d + 1) new
  measured_goes {new = new} d m r w =
      let next : suc d ≡ d + 1 = omega arith in
      subst (λ n. Measured table n new) next (measured_next m r w)

  -- and the last one, which changes nothing.
  pub measured_stays : {lengths next old new : List ℕ} {changed : Bool} (d : ℕ) → Measured table d lengths
      → Rounded table depth lengths old next → Renewed depth next lengths new changed → changed ≡ false → d < depth
      → Measured table depth new
  measured_stays {new = new} d m r w e l =
      let before : Measured table d new = record { size = w.size ∙ m.size; exact = λ k h. w.same e k ∙ m.exact k h } in
      let all : d + (depth - d) ≡ depth = omega arith in
      subst (λ n. Measured table n new) all (measured_last before (measured_next m r w) (depth - d))

  pub can_round : {lengths next : List ℕ} (d : ℕ) → Measured table d lengths → d < depth → length next ≡ 64
      → CanRound table depth lengths next
  can_round d m l size =
      record { few = s.few; table_size = s.size; next_size = size; sums = λ k h. can_sum m (omega arith) k h }

  pub measured_all : {lengths : List ℕ} {d : ℕ} → Measured table d lengths → d ≡ depth → Measured table depth lengths
  measured_all {lengths} m e = subst (λ n. Measured table n lengths) e m
