-- The tables, rule by rule.
--     gather_begins, gather_goes               which rules mention a nonterminal
--     use_begins, use_goes                      which nonterminals the rules of one mention
--     mentions_one, uses_one                    both tables are one
use Rattle.std.specs.Prelude.{ℕ, ◌+◌, ◌*◌, ◌/◌, ◌%◌, ◌^◌, ◌≤◌, ◌<◌, ◌≡◌, Bool, true, ◌⊎◌, length, get_or}
use Rattle.std.proofs.Common.{sym, ◌∙◌, subst, inl, inr, ⊎_elim, arith, ext_get_or}
use mathlib.Core.List.{List}
use Rattle.base.specs.Choices.{below_or, below_or_at}
use Rattle.grammar.specs.Words.{rule_count, left_side, right_side, RuleSymbol, Shaped}
use Rattle.grammar.specs.Theory.Members.{all_at}
use Rattle.grammar.specs.Theory.RightSides.{right_symbols}
use Rattle.shape.specs.Accessors.{LeftOf}
use Rattle.sets.specs.Bits.{member}
use Rattle.sets.specs.Laws.{empty_none, some_member, same_members}
use Rattle.sets.specs.Taking.{member_below}
use Rattle.base.specs.Blank.{Blank}
use Rattle.growth.specs.Added.{Added}
use Rattle.mentions.specs.Mentions.{Clear, Mentions, InRow, Gathered, Uses, Used, Wide}
use Rattle.mentions.specs.Putting.{Mentioned, Plain}

pub gather_begins : {ws table : List ℕ} → Clear table → Wide ws table → Gathered ws 0 table
gather_begins {table = table} zeros wide =
    record {
      wide = wide;
      named = λ k q h. (λ m. absurd (none k q m), λ g. absurd (omega (arith, g.0)));
      plain = λ q. (λ m. absurd (none 64 q m), λ g. absurd (omega (arith, g.0)));
    }
  where
    none : (r q : ℕ) → InRow table r q → ⊥
    none r q m = empty_none (q % 64) (subst (λ s. member s (q % 64) ≡ true) (zeros (65 * (q / 64) + r)) m)

-- A set without members is 0.
no_members : (s : ℕ) → s < 2 ^ 64 → ((k : ℕ) → member s k ≡ true → ⊥) → s ≡ 0
no_members s small none =
    ⊎_elim (λ zero. omega arith) (λ some. let at = some_member 64 s small some in absurd (none at.number at.held))
    (below_or s 1)

-- No symbol is 128.
no_symbol : {t n : ℕ} → RuleSymbol t n (64 + 64) → n ≤ 64 → t ≤ 64 → ⊥
no_symbol (RuleSymbol.terminal low high) few some = omega arith
no_symbol (RuleSymbol.nonterminal low high) few some = omega arith

pub gather_goes : {ws : List ℕ} {p named : ℕ} {old mid new : List ℕ} → Shaped ws → Gathered ws p old → p < rule_count ws → named < 2 ^ 64
    → Mentioned (right_side ws p) p old mid named → Plain p named mid new → Gathered ws (p + 1) new
gather_goes {ws} {p} {named} {old} {mid} {new} shaped g counted fits m l =
    record {
      wide = omega (arith, l.size, m.size, g.wide);
      named = λ k q h. (forth k q h, λ u. back k q h u.1 (below_or_at q p u.0));
      plain = λ q. (forth_plain q, λ u. back_plain q u.1 (below_or_at q p u.0));
    }
  where
    forth : (k q : ℕ) → k < 64 → InRow new k q → (q < p + 1) × Mentions ws q k
    forth k q h r =
        ⊎_elim
        (λ a.
        ⊎_elim (λ b. let u = (g.named k q h).0 b in (omega (arith, u.0), u.1))
        (λ b. let e = b.1 in (omega arith, subst (λ n. Mentions ws n k) (sym e) b.0))
        (m.source k q (omega arith) a))
        (λ a. absurd (omega (arith, a.0)))
        (l.source k q (omega arith) r)

    back : (k q : ℕ) → k < 64 → Mentions ws q k → (q < p) ⊎ (q ≡ p) → InRow new k q
    back k q h u (inl before) = l.keeps k q (m.keeps k q ((g.named k q h).1 (before, u)))
    back k q h u (inr e) =
        subst (λ n. InRow new k n) (sym e) (l.keeps k p (m.puts k (subst (λ n. Mentions ws n k) e u)).0)

    unnamed : Mentions ws p 64 → ⊥
    unnamed u = no_symbol (all_at (right_symbols ws shaped p counted) u) shaped.nonterminals_high shaped.terminals_high

    forth_plain : (q : ℕ) → InRow new 64 q → (q < p + 1) × ((k : ℕ) → Mentions ws q k → ⊥)
    forth_plain q r =
        ⊎_elim
        (λ a.
        ⊎_elim (λ b. let u = (g.plain q).0 b in (omega (arith, u.0), u.1)) (λ b. absurd (unnamed b.0))
        (m.source 64 q (omega arith) a))
        (λ a.
        let e = a.1 in (
          omega arith,
          λ k u. empty_none k (subst (λ s. member s k ≡ true) a.2 (m.puts k (subst (λ n. Mentions ws n k) e u)).1),
        ))
        (l.source 64 q (omega arith) r)

    back_plain : (q : ℕ) → ((k : ℕ) → Mentions ws q k → ⊥) → (q < p) ⊎ (q ≡ p) → InRow new 64 q
    back_plain q u (inl before) = l.keeps 64 q (m.keeps 64 q ((g.plain q).1 (before, u)))
    back_plain q u (inr e) =
        subst (λ n. InRow new 64 n) (sym e)
        (l.here (no_members named fits (λ k h. u k (subst (λ n. Mentions ws n k) (sym e) (m.origin k h)))))

pub use_begins : {ws uses : List ℕ} → Blank 64 uses → Used ws 0 uses
use_begins b =
    record {
      size = b.size;
      exact = λ k j. (
        λ m. absurd (empty_none j (subst (λ s. member s j ≡ true) (b.zeros k) m)),
        λ u. absurd (omega (arith, u.before)),
      );
    }

pub use_goes : {ws : List ℕ} {p l named : ℕ} {old new table next : List ℕ} {b : Bool} → Used ws p old → LeftOf ws p l
    → Mentioned (right_side ws p) p table next named → Added old l named new b → Used ws (p + 1) new
use_goes {ws} {p} {l} {named} {old} {new} u left m a =
    record { size = a.same ∙ u.size; exact = λ k j. (forth k j, back k j) }
  where
    forth : (k j : ℕ) → member (get_or new k 0) j ≡ true → Uses ws (p + 1) k j
    forth k j h =
        ⊎_elim
        (λ g.
        let was = (u.exact k j).0 g in
        record { rule = was.rule; before = omega (arith, was.before); left = was.left; mentions = was.mentions })
        (λ g.
        let e = g.0 in
        record { rule = p; before = omega arith; left = omega (arith, left.names); mentions = m.origin j g.1 })
        (a.source k j h)

    back : (k j : ℕ) → Uses ws (p + 1) k j → member (get_or new k 0) j ≡ true
    back k j v =
        ⊎_elim
        (λ before.
        a.keeps k j
        ((u.exact k j).1 (record { rule = v.rule; before = before; left = v.left; mentions = v.mentions })))
        (λ e.
        let here = subst (λ n. Mentions ws n j) e v.mentions in
        let named = subst (λ n. left_side ws n ≡ 64 + k) e v.left in
        let same : l ≡ k = omega (arith, left.names) in
        subst (λ n. member (get_or new n 0) j ≡ true) same (a.holds j (m.puts j here).1))
        (below_or_at v.rule p v.before)

-- ---- Only one answer

module _ {ws one two : List ℕ} {p : ℕ} (f : Gathered ws p one) (g : Gathered ws p two) where
  -- What stands in a row of one table stands there in the other.
  also_in : (r q : ℕ) → r < 65 → InRow one r q → InRow two r q
  also_in r q h m =
      ⊎_elim (λ named. (g.named r q named).1 ((f.named r q named).0 m))
      (λ plain.
      let last : r ≡ 64 = omega arith in
      subst (λ n. InRow two n q) (sym last) ((g.plain q).1 ((f.plain q).0 (subst (λ n. InRow one n q) last m))))
      (below_or r 64)

  -- Bit b of word i is that of rule 64 * (i / 65) + b in row i % 65.
  also_member : (i b : ℕ) → b < 64 → member (get_or one i 0) b ≡ true → member (get_or two i 0) b ≡ true
  also_member i b low m =
      let q = 64 * (i / 65) + b in
      let word : 65 * (q / 64) + i % 65 ≡ i = omega arith in
      let bit : q % 64 ≡ b = omega arith in
      let there = also_in (i % 65) q (omega arith)
      (subst (λ n. member (get_or one n 0) (q % 64) ≡ true) (sym word) (subst (λ n. member (get_or one i 0) n ≡ true) (sym bit) m)) in
      subst (λ n. member (get_or two i 0) n ≡ true) bit (subst (λ n. member (get_or two n 0) (q % 64) ≡ true) word there)

pub mentions_one : {ws one two : List ℕ} {p : ℕ} → Gathered ws p one → Gathered ws p two → length one ≡ length two
    → ((i : ℕ) → get_or one i 0 < 2 ^ 64) → ((i : ℕ) → get_or two i 0 < 2 ^ 64) → one ≡ two
mentions_one {one = one} {two} f g same l m =
    ext_get_or 0 one two same
    (λ i h.
    same_members 64 (get_or one i 0) (get_or two i 0) (l i) (m i)
    (λ b x. also_member f g i b (member_below (get_or one i 0) b (l i) x) x)
    (λ b x. also_member g f i b (member_below (get_or two i 0) b (m i) x) x))

pub uses_one : {ws one two : List ℕ} {p : ℕ} → Used ws p one → Used ws p two → ((i : ℕ) → get_or one i 0 < 2 ^ 64)
    → ((i : ℕ) → get_or two i 0 < 2 ^ 64) → one ≡ two
uses_one {one = one} {two} f g l m =
    ext_get_or 0 one two (f.size ∙ sym g.size)
    (λ k h.
    same_members 64 (get_or one k 0) (get_or two k 0) (l k) (m k)
    (λ j x. (g.exact k j).1 ((f.exact k j).0 x)) (λ j x. (f.exact k j).1 ((g.exact k j).0 x)))
