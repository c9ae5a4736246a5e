-- What visits do to the table: to any rules (`Revised`), and to one.
--     revised_none, revised_then, revised_for   nothing done yet; one visit behind another; fewer rules
--     word_begins, word_goes, word_ends         the rules of a word
--     row_begins, row_goes, row_ends            the words of a row
use Rattle.std.specs.Prelude.{ℕ, ◌+◌, ◌*◌, ◌/◌, ◌%◌, ◌≤◌, ◌<◌, ◌≡◌, refl, Bool, true, false, List, ◌⊎◌, length, get_or}
use Rattle.std.proofs.Common.{sym, ap, ◌∙◌, subst, inl, inr, ⊎_elim, arith}
use Rattle.base.specs.Choices.{below_or, same_or}
use Rattle.grammar.specs.Words.{rule_count}
use Rattle.sets.specs.Bits.{member}
use Rattle.sets.specs.Operations.{with, union, without, Least}
use Rattle.sets.specs.Laws.{empty_none, union_left, union_right, union_none, union_grows, union_grows_right}
use Rattle.sets.specs.Taking.{without_keeps, without_was}
use Rattle.mentions.specs.Mentions.{Mentions, InRow, MentionsOf}
use Rattle.costs.specs.Held.{Held, SettledAt, cost_sum}

-- ---- Any rules

-- Rule q mentions a nonterminal of the list.
pub record Waits (ws : List ℕ) (list q : ℕ) : Type 0 where
  pub number : ℕ
  pub listed : member list number ≡ true
  pub mentions : Mentions ws q number

-- The rules in Done were visited, and the nonterminals in `fallen` cost less than before. Rules that were settled are settled, and those
-- visited are, but for those that mention one of these.
pub record Revised (ws : List ℕ) (Done : ℕ → Type 0) (old new : List ℕ) (fallen : ℕ) : Type 0 where
  pub held : Held ws new
  pub settles : (q : ℕ) → q < rule_count ws → Done q ⊎ SettledAt ws q old → Waits ws fallen q ⊎ SettledAt ws q new
  pub lower : 0 < fallen → cost_sum new < cost_sum old
  pub level : fallen ≡ 0 → cost_sum new ≡ cost_sum old

module _ {ws : List ℕ} where
  pub revised_none : {D : ℕ → Type 0} {l : List ℕ} → Held ws l → ((q : ℕ) → D q → ⊥) → Revised ws D l l 0
  revised_none h none =
      record {
        held = h;
        settles = λ q b. ⊎_elim (λ d. absurd (none q d)) inr;
        lower = λ some. absurd (omega arith);
        level = λ e. refl;
      }

  pub waits_left : {a q : ℕ} (b : ℕ) → Waits ws a q → Waits ws (union a b) q
  waits_left {a} b w = record { number = w.number; listed = union_left a b w.number w.listed; mentions = w.mentions }

  pub waits_right : {b q : ℕ} (a : ℕ) → Waits ws b q → Waits ws (union a b) q
  waits_right {b} a w = record { number = w.number; listed = union_right a b w.number w.listed; mentions = w.mentions }

  pub revised_then : {C D E : ℕ → Type 0} {old mid new : List ℕ} {a b : ℕ} → Revised ws C old mid a → Revised ws D mid new b
      → ((q : ℕ) → q < rule_count ws → E q → C q ⊎ D q) → Revised ws E old new (union a b)
  revised_then {C} {D} {old = old} {mid} {new} {a} {b} f g each =
      record {
        held = g.held;
        settles = λ q h.
            ⊎_elim (λ e. ⊎_elim (λ c. first q h (inl c)) (λ d. ⊎_elim (λ w. inl (waits_right a w)) inr (g.settles q h (inl d))) (each q h e))
            (λ s. first q h (inr s));
        lower = λ some. omega (arith, falls some);
        level = λ e. let z = apart e in g.level z.1 ∙ f.level z.0;
      }
    where
      first : (q : ℕ) → q < rule_count ws → C q ⊎ SettledAt ws q old → Waits ws (union a b) q ⊎ SettledAt ws q new
      first q h x =
          ⊎_elim (λ w. inl (waits_left b w)) (λ s. ⊎_elim (λ w. inl (waits_right a w)) inr (g.settles q h (inr s))) (f.settles q h x)

      apart : union a b ≡ 0 → (a ≡ 0) × (b ≡ 0)
      apart e = let up = union_grows a b in let also = union_grows_right a b in (omega arith, omega arith)

      falls : 0 < union a b → cost_sum new < cost_sum old
      falls some =
          ⊎_elim
          (λ zero.
          let none : a ≡ 0 = omega arith in
          let other : 0 < b = ⊎_elim (λ n. let z : b ≡ 0 = omega arith in absurd (omega (arith, ap (λ n. union n b) none, ap (λ n. union 0 n) z, union_none 0))) (λ n. n) (below_or b 1) in
          omega (arith, f.level none, g.lower other))
          (λ less.
          ⊎_elim (λ zero. let none : b ≡ 0 = omega arith in omega (arith, f.lower less, g.level none))
          (λ also. omega (arith, f.lower less, g.lower also)) (below_or b 1))
          (below_or a 1)

  pub revised_for : {D E : ℕ → Type 0} {old new : List ℕ} {a : ℕ} → Revised ws D old new a → ((q : ℕ) → q < rule_count ws → E q → D q)
      → Revised ws E old new a
  revised_for f each =
      record {
        held = f.held;
        settles = λ q h x. f.settles q h (⊎_elim (λ e. inl (each q h e)) inr x);
        lower = f.lower;
        level = f.level;
      }

-- ---- The rules of a word

-- Rule q is in word w of a row.
abbrev pub InWord : ℕ → ℕ → ℕ → Type 0
InWord rules w q = (q / 64 ≡ w) × (member rules (q % 64) ≡ true)

-- The bits of the word are numbers of rules.
abbrev pub RulesOf : List ℕ → ℕ → ℕ → Type 0
RulesOf ws rules w = (i : ℕ) → i < 64 → member rules i ≡ true → 64 * w + i < rule_count ws

-- The rules of the word but those in `rest` were visited.
pub record Wording (ws : List ℕ) (rules w rest : ℕ) (old new : List ℕ) (fallen : ℕ) : Type 0 where
  pub within : (i : ℕ) → member rest i ≡ true → member rules i ≡ true
  pub revised : Revised ws (λ q. (q / 64 ≡ w) × (member rules (q % 64) ≡ true) × (member rest (q % 64) ≡ true → ⊥)) old new fallen

pub word_begins : {ws : List ℕ} {rules w : ℕ} {old : List ℕ} → Held ws old → Wording ws rules w rules old old 0
word_begins h = record { within = λ i m. m; revised = revised_none h (λ q d. d.2 d.1) }

pub word_goes : {ws : List ℕ} {rules w rest i a b : ℕ} {old mid new : List ℕ} → Wording ws rules w rest old mid a → Least rest i
    → Revised ws (λ q. q ≡ 64 * w + i) mid new b → Wording ws rules w (without rest i) old new (union a b)
word_goes {ws} {rules} {w} {rest} {i} f at v =
    record {
      within = λ j m.
          f.within j (⊎_elim (λ e. subst (λ n. member rest n ≡ true) e at.held) (λ n. without_was rest i j at.held n m) (same_or i j));
      revised = revised_then f.revised v
          (λ q h d.
          ⊎_elim (λ e. let word = d.0 in inr (omega arith))
          (λ n. inl (d.0, d.1, λ m. d.2 (without_keeps rest i (q % 64) at.held n m)))
          (same_or i (q % 64)));
    }

pub word_ends : {ws : List ℕ} {rules w rest a : ℕ} {old new : List ℕ} → Wording ws rules w rest old new a → rest ≡ 0
    → Revised ws (InWord rules w) old new a
word_ends f e =
    revised_for f.revised (λ q h d. (d.0, d.1, λ m. empty_none (q % 64) (subst (λ r. member r (q % 64) ≡ true) e m)))

-- ---- The words of a row

-- So many words of a row have all rules, and the table has them.
pub record Spans (ws mentions : List ℕ) (size : ℕ) : Type 0 where
  pub few : 65 * size ≤ length mentions
  pub all : rule_count ws ≤ 64 * size

-- The rules of the first w words of the row were visited.
abbrev pub Rowing : List ℕ → List ℕ → ℕ → ℕ → List ℕ → List ℕ → ℕ → Type 0
Rowing ws mentions row w old new a = Revised ws (λ q. (q / 64 < w) × InRow mentions row q) old new a

pub row_begins : {ws : List ℕ} (mentions : List ℕ) (row : ℕ) {old : List ℕ} → Held ws old → Rowing ws mentions row 0 old old 0
row_begins mentions row h = revised_none h (λ q d. omega (arith, d.0))

pub row_goes : {ws : List ℕ} (mentions : List ℕ) (row : ℕ) {w rules a b : ℕ} {old mid new : List ℕ} → Rowing ws mentions row w old mid a
    → rules ≡ get_or mentions (65 * w + row) 0 → Revised ws (InWord rules w) mid new b → Rowing ws mentions row (w + 1) old new (union a b)
row_goes mentions row {w} f is v =
    revised_then f v
    (λ q h d.
    ⊎_elim
    (λ before. inl (before, d.1))
    (λ here.
    let at : q / 64 ≡ w = omega (arith, d.0) in
    inr (
      at,
      subst (λ s. member s (q % 64) ≡ true) (sym is) (subst (λ n. member (get_or mentions (65 * n + row) 0) (q % 64) ≡ true) at d.1),
    ))
    (below_or (q / 64) w))

pub row_ends : {ws : List ℕ} (mentions : List ℕ) (row : ℕ) {w size a : ℕ} {old new : List ℕ} → Spans ws mentions size → Rowing ws mentions row w old new a
    → size ≤ w → Revised ws (InRow mentions row) old new a
row_ends mentions row s f all = revised_for f (λ q h d. (omega (arith, s.all), d))

-- What stands in a row are numbers of rules.
pub row_rules : {ws mentions : List ℕ} {row : ℕ} (w : ℕ) → MentionsOf ws mentions → row < 65 → RulesOf ws (get_or mentions (65 * w + row) 0) w
row_rules {ws} {mentions} {row} w m r i low here =
    ⊎_elim
    (λ named. ((m.named row (64 * w + i) named).0 there).0)
    (λ plain.
    let last : row ≡ 64 = omega arith in
    ((m.plain (64 * w + i)).0 (subst (λ n. InRow mentions n (64 * w + i)) last there)).0)
    (below_or row 64)
  where
    word : (64 * w + i) / 64 ≡ w
    word = omega arith

    bit : (64 * w + i) % 64 ≡ i
    bit = omega arith

    there : InRow mentions row (64 * w + i)
    there =
        subst (λ n. member (get_or mentions (65 * n + row) 0) ((64 * w + i) % 64) ≡ true) (sym word)
        (subst (λ n. member (get_or mentions (65 * w + row) 0) n ≡ true) (sym bit) here)

-- ---- One rule

-- A sum as the table holds it.
pub record Capped (sum r : ℕ) : Type 0 where
  pub below : r ≤ sum
  pub exact : r ≤ 60000 → r ≡ sum
  pub low : sum ≤ 60000 → r ≡ sum
  pub some : sum < 1000000 → r ≤ 60001
  pub none : 1000000 ≤ sum → r ≡ 1000000

-- A rule whose right side costs the sum changes nothing, or the cost or the rule.
pub record Chosen (cost rule sum p : ℕ) (stays : Bool) : Type 0 where
  pub yes : stays ≡ true → (cost ≤ sum) × (cost ≡ sum → sum ≤ 60000 → rule ≤ p)
  pub no : stays ≡ false → (sum ≤ cost) × (sum ≡ cost → (sum ≤ 60000) × (p < rule))

-- The rule of a known cost; one above has none.
pub record Known (sum p r : ℕ) : Type 0 where
  pub known : sum ≤ 60000 → r ≡ p
  pub over : 60000 < sum → r ≡ 0

-- Nonterminal k where its cost falls.
pub record Fell (cost sum k r : ℕ) : Type 0 where
  pub falls : sum < cost → r ≡ with 0 k
  pub stays : cost ≤ sum → r ≡ 0
