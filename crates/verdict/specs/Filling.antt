-- The tables that pushing needs, rule by rule: links, rows, and right sides in one word.
--     before_none, before_stays, before_goes                    a link
--     filling_begins, filling_stays, filling_goes, filling_ends both tables
use Rattle.std.specs.Prelude.{ℕ, ◌+◌, ◌-◌, ◌*◌, ◌^◌, ◌≤◌, ◌<◌, ◌≡◌, refl, true, List, length, get_or, set, replicate}
use Rattle.std.proofs.Common.{sym, ap, ◌∙◌, subst, arith, length-set, get_or-set_same, get_or-set_other, below_more}
use Rattle.std.proofs.lemmas.List.{length-replicate}
use borrow.Rule.Slice.PartMut.{put_mid}
use Rattle.grammar.specs.Words.{nonterminal_count, rule_count, left_side, right_side, Shaped}
use Rattle.grammar.specs.Derivation.{First}
use Rattle.grammar.specs.Grammar.{Grammar, RuleOf, grammar_of}
use Rattle.grammar.specs.Theory.Masks.{FirstMask}
use Rattle.grammar.specs.Theory.Tables.{packed, LastBefore, Row, Pushes}
use Rattle.sets.specs.Bits.{member}
use Rattle.sets.specs.Laws.{Some, empty_none, some_member}
use Rattle.shape.specs.Accessors.{LeftOf}
use Rattle.firsts.specs.Asked.{RuleFirstsOf}
use Rattle.base.specs.Blank.{all_zero}
use Rattle.verdict.specs.Parts.{part_length, inside_part, before_part, each_entry}
use Rattle.verdict.specs.Rows.{RowTo, row_packed}
use Rattle.shape.specs.Inside.{right_small}

-- ---- A link

module _ {G : Grammar} {A : ℕ} where
  -- There is no rule before the first.
  pub before_none : LastBefore G A 0 0
  before_none = record { within = omega arith; named = λ h. absurd (omega arith); others = λ q β a b. absurd (omega arith) }

  -- Rule p is not linked: its left side is another, or its FIRST is empty.
  pub before_stays : {p link : ℕ} → LastBefore G A p link
      → ((β : List ℕ) → G.rules p A β → (t : ℕ) → First G.rules β t → ⊥) → LastBefore G A (p + 1) link
  before_stays {p} {link} o none =
      record {
        within = omega (arith, o.within);
        named = o.named;
        others = λ q β a b. below_more (λ q. (β : List ℕ) → link ≤ q → G.rules q A β → (t : ℕ) → First G.rules β t → ⊥)
            p (λ q b β a. o.others q β a b) (λ β a. none β) q b β a;
      }

  -- Rule p is the last one now.
  pub before_goes : {β : List ℕ} {t : ℕ} (p : ℕ) → G.rules p A β → First G.rules β t → LastBefore G A (p + 1) (p + 1)
  before_goes {β} {t} p r f =
      let e : p ≡ p + 1 - 1 = omega arith in
      record {
        within = omega arith;
        named = λ h. (β, t, (subst (λ q. G.rules q A β) e r, f));
        others = λ q β a b. absurd (omega arith);
      }

-- ---- All rules

-- FIRST of each right side is there, and of the rules before rule p the links, rows and packed right sides.
pub record Filling (ws : List ℕ) (p : ℕ) (sides rows : List ℕ) : Type 0 where
  pub inside : p ≤ rule_count ws
  pub sides_size : length sides ≡ 512
  pub rows_size : length rows ≡ 4224
  pub first : (q : ℕ) → q < rule_count ws → FirstMask (RuleOf ws) (right_side ws q) (get_or sides q 0)
  pub right : (q : ℕ) → q < p → get_or sides (256 + q) 0 ≡ packed (right_side ws q)
  pub head : (A : ℕ) → A < 128 → LastBefore (grammar_of ws) A p (get_or rows A 0)
  pub row : (q : ℕ) → q < p → Row (grammar_of ws) rows q (left_side ws q) (right_side ws q)

-- FIRST of each right side came back, and no link is there yet.
pub filling_begins : {ws masks heads : List ℕ} (sides rows : List ℕ) → Shaped ws → length sides ≡ 512 → length rows ≡ 4224
    → length masks ≡ 256 → RuleFirstsOf ws masks → heads ≡ replicate 128 0
    → Filling ws 0 (put_mid 0 256 sides masks) (put_mid 0 128 rows heads)
filling_begins {ws} {masks} {heads} sides rows s wide long size f zeros =
    record {
      inside = omega arith;
      sides_size = part_length 0 256 sides masks (omega arith) size ∙ wide;
      rows_size = part_length 0 128 rows heads (omega arith) heads_size ∙ long;
      first = λ q h.
          let same = inside_part 0 256 sides masks (omega arith) size q q (omega arith) (omega (arith, s.rules_high)) in
          subst (FirstMask (RuleOf ws) (right_side ws q)) (sym same) (f.first q h);
      right = λ q h. absurd (omega arith);
      head = λ A h.
          let same = inside_part 0 128 rows heads (omega arith) heads_size A A (omega arith) h in
          subst (LastBefore (grammar_of ws) A 0) (sym (same ∙ (ap (λ l. get_or l A 0) zeros ∙ all_zero 128 A))) before_none;
      row = λ q h. absurd (omega arith);
    }
  where
    heads_size : length heads ≡ 128
    heads_size = ap length zeros ∙ length-replicate {A = ℕ} 128 0

-- The table of rows, where the part of rule p came back as `row`.
abbrev pub with_row : ℕ → List ℕ → List ℕ → List ℕ
with_row p rows row = put_mid (128 + 16 * p) (128 + 16 * p + 16 - (128 + 16 * p)) rows row

module _ {ws : List ℕ} (s : Shaped ws) {p k r : ℕ} {sides rows new : List ℕ} (f : Filling ws p sides rows) (h : p < rule_count ws)
    (left : LeftOf ws p k) (w : RowTo (right_side ws p) (get_or rows (64 + k) 0) (length (right_side ws p)) new r) where
  fits : 128 + 16 * p + (128 + 16 * p + 16 - (128 + 16 * p)) ≤ length rows
  fits = omega (arith, s.rules_high, f.rows_size)

  size : length new ≡ 128 + 16 * p + 16 - (128 + 16 * p)
  size = omega (arith, w.sized)

  before : (j : ℕ) → j < 128 + 16 * p → get_or (with_row p rows new) j 0 ≡ get_or rows j 0
  before = before_part (128 + 16 * p) _ rows new fits size

  with_size : length (with_row p rows new) ≡ 4224
  with_size = part_length (128 + 16 * p) _ rows new fits size ∙ f.rows_size

  -- The rule's row and right side are there, whatever the heads became.
  goes : {after : List ℕ} → length after ≡ 4224 → ((j : ℕ) → 128 ≤ j → get_or after j 0 ≡ get_or (with_row p rows new) j 0)
      → ((A : ℕ) → A < 128 → LastBefore (grammar_of ws) A (p + 1) (get_or after A 0)) → Filling ws (p + 1) (set sides (256 + p) r) after
  goes {after} long same head =
      record {
        inside = omega arith;
        sides_size = length-set sides (256 + p) r ∙ f.sides_size;
        rows_size = long;
        first = λ q b.
            let same = get_or-set_other sides (256 + p) q r 0 (λ i. omega (arith, s.rules_high)) in
            subst (FirstMask (RuleOf ws) (right_side ws q)) (sym same) (f.first q b);
        right = below_more (λ q. get_or (set sides (256 + p) r) (256 + q) 0 ≡ packed (right_side ws q)) p
            (λ q b. get_or-set_other sides (256 + p) (256 + q) r 0 (λ i. omega arith) ∙ f.right q b)
            (get_or-set_same sides (256 + p) r 0 (omega (arith, s.rules_high, f.sides_size)) ∙ row_packed w);
        head = head;
        row = below_more (λ q. Row (grammar_of ws) after q (left_side ws q) (right_side ws q)) p earlier own;
      }
    where
      earlier : (q : ℕ) → q < p → Row (grammar_of ws) after q (left_side ws q) (right_side ws q)
      earlier q b =
          let o = f.row q b in
          let few = right_small ws s q (omega arith) in
          let kept : (i : ℕ) → i < 16 → get_or after (128 + 16 * q + i) 0 ≡ get_or rows (128 + 16 * q + i) 0 =
          λ i l. same (128 + 16 * q + i) (omega arith) ∙ before (128 + 16 * q + i) (omega arith) in
          record {
            symbols = λ i d. kept i (omega arith) ∙ o.symbols i d;
            size = kept 8 (omega arith) ∙ o.size;
            link = subst (LastBefore (grammar_of ws) (left_side ws q) q) (sym (kept 9 (omega arith))) o.link;
          }

      at : (i : ℕ) → i < 16 → get_or after (128 + 16 * p + i) 0 ≡ get_or new i 0
      at i l = same (128 + 16 * p + i) (omega arith) ∙ inside_part (128 + 16 * p) _ rows new fits size i _ refl (omega arith)

      own : Row (grammar_of ws) after p (left_side ws p) (right_side ws p)
      own =
          let few = right_small ws s p h in
          record {
            symbols = λ i d. at i (omega arith) ∙ w.symbols i d;
            size = at 8 (omega arith) ∙ w.size;
            link = subst (λ A. LastBefore (grammar_of ws) A p (get_or after (128 + 16 * p + 9) 0)) (sym left.names)
                (subst (LastBefore (grammar_of ws) (64 + k) p) (sym (at 9 (omega arith) ∙ w.last))
                (f.head (64 + k) (omega (arith, left.small))));
          }

  -- A left side of which rule p is no link has the link that it had.
  stays : (A : ℕ) → A < 128 → ((β : List ℕ) → RuleOf ws p A β → (t : ℕ) → First (RuleOf ws) β t → ⊥)
      → LastBefore (grammar_of ws) A (p + 1) (get_or (with_row p rows new) A 0)
  stays A a none = subst (LastBefore (grammar_of ws) A (p + 1)) (sym (before A (omega arith))) (before_stays (f.head A a) none)

  -- A rule whose FIRST is empty leaves every link as it was.
  pub filling_stays : {after : List ℕ} → get_or sides p 0 ≤ 0 → after ≡ with_row p rows new
      → Filling ws (p + 1) (set sides (256 + p) r) after
  filling_stays {after} z same =
      subst (Filling ws (p + 1) (set sides (256 + p) r)) (sym same)
      (goes with_size (λ j l. refl) (λ A a. stays A a none))
    where
      none : {A : ℕ} (β : List ℕ) → RuleOf ws p A β → (t : ℕ) → First (RuleOf ws) β t → ⊥
      none β rule t begins =
          let m : get_or sides p 0 ≡ 0 = omega arith in
          let own = subst (λ α. First (RuleOf ws) α t) rule.right begins in
          empty_none t (subst (λ m. member m t ≡ true) m ((f.first p h t begins.token).1 own))

  -- Any other becomes the last of its left side, and no other left side's last one is another.
  pub filling_goes : {after : List ℕ} → 0 < get_or sides p 0 → get_or sides p 0 < 2 ^ 64
      → after ≡ set (with_row p rows new) (64 + k) (p + 1) → Filling ws (p + 1) (set sides (256 + p) r) after
  filling_goes {after} pos small same =
      subst (Filling ws (p + 1) (set sides (256 + p) r)) (sym same)
      (goes (length-set (with_row p rows new) (64 + k) (p + 1) ∙ with_size)
      (λ j l. get_or-set_other (with_row p rows new) (64 + k) j (p + 1) 0 (λ i. omega (arith, left.small)))
      (each_entry (λ A m. A < 128 → LastBefore (grammar_of ws) A (p + 1) m) (with_row p rows new) (64 + k) (p + 1)
      (omega (arith, with_size, left.small)) (λ _. before_goes p own begins)
      (λ A n a. stays A a (λ β rule t begins. n (rule.left ∙ left.names)))))
    where
      own : RuleOf ws p (64 + k) (right_side ws p)
      own = record { counted = h; left = sym left.names; right = refl }

      some : Some 64 (get_or sides p 0)
      some = some_member 64 (get_or sides p 0) small pos

      begins : First (RuleOf ws) (right_side ws p) some.number
      begins = (f.first p h some.number some.below).0 some.held

-- Behind the last rule both tables are full.
pub filling_ends : {ws sides rows : List ℕ} {n : ℕ} → Shaped ws → Filling ws n sides rows → rule_count ws ≤ n
    → Pushes (grammar_of ws) (nonterminal_count ws) (rule_count ws) sides rows
filling_ends {ws} {sides} {rows} {n} s f h =
    record {
      few = s.rules_high;
      counted = λ p A β r. r.counted;
      sides_size = f.sides_size;
      first = λ p A β r. subst (λ α. FirstMask (RuleOf ws) α (get_or sides p 0)) (sym r.right) (f.first p r.counted);
      right = λ p A β r. f.right p (omega (arith, r.counted)) ∙ ap packed (sym r.right);
      rows_size = f.rows_size;
      head = λ A a b.
          let all : n ≡ rule_count ws = omega (arith, f.inside) in
          subst (λ q. LastBefore (grammar_of ws) A q (get_or rows A 0)) all (f.head A (omega (arith, s.nonterminals_high)));
      row = λ p A β r.
          subst (λ B. Row (grammar_of ws) rows p B β) (sym r.left)
          (subst (λ α. Row (grammar_of ws) rows p (left_side ws p) α) (sym r.right) (f.row p (omega (arith, r.counted))));
    }
