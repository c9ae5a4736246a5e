-- A header says its numbers, and everything else stands behind it. So two headers that say the same in front of the same words mean the
-- same but for the unit, whatever their lengths. Request (vi): a seven-word header with restart mark 0 says what the six-word one says;
-- request (viii): so does one with the other unit.
--     SameHeader, headers_alike                 two such lists
--     seven_words, six_form, form_alike           a seven-word grammar with restart mark 0, and its six-word form
--     units_alike                               two lists that differ in the unit only
use Prim.Native.Nat.{ℕ, zero, suc, ◌+◌, ◌*◌, ◌≤◌, ◌<◌}
use Rattle.std.specs.Prelude.{◌≡◌, Bool, true, false, cond, List, [], ◌∷◌, ◌↔◌, length, ltb}
use Rattle.std.proofs.Math.Path.{refl, ap, ap₂, subst, subst₂, subst₃, fun_ext}
use Rattle.std.proofs.Common.{sym, ◌∙◌, length-drop, drop_of_length-le, get_or-drop}
use native.Mathlib.Omega.{arith}
use Rattle.std.proofs.Math.ListN.{take, drop}
use Rattle.grammar.specs.Words.{END, word, RuleSymbol, Marks, Restart, Shaped, TerminalWords, RuleWords}
use Rattle.grammar.specs.Words.{is_long, header_size, terminal_count, nonterminal_count, rule_count, opening, closing, tick_unit, restart_mark}
use Rattle.grammar.specs.Words.{insert_cost, reliability, rule_place, left_side, right_size, right_side}
use Rattle.grammar.specs.Grammar.{RuleOf, Reliable, grammar_of, conditions_of, meaning_of}
use Rattle.grammar.proofs.Theory.Headers.{long_terminals, long_size, long_restart, short_terminals, short_size, short_restart}
use Rattle.grammar.proofs.Theory.Meanings.{SameConditions, Alike}
use Rattle.grammar.proofs.Theory.Meanings.{same_conditions}
use Rattle.grammar.proofs.Theory.SameGrammars.{SameGrammar, other_way}
use Rattle.grammar.specs.Theory.Behind.{behind, SameHeader, place_in, seven_words, six_form}

same_header_sym : {ws vs : List ℕ} → SameHeader ws vs → SameHeader vs ws
same_header_sym s =
    record {
      terminals = sym s.terminals;
      nonterminals = sym s.nonterminals;
      rules = sym s.rules;
      opening = sym s.opening;
      closing = sym s.closing;
      unit = other_way s.unit;
      restart = sym s.restart;
      rest = sym s.rest;
    }

-- ---- Places behind the header

drop_more : (h k : ℕ) (l : List ℕ) → drop (h + k) l ≡ drop k (drop h l)
drop_more zero k l = let e : 0 + k ≡ k = omega arith in ap (λ n. drop n l) e
drop_more (suc h) k [] = drop_of_length-le [] {i = suc h + k} (omega arith) ∙ sym (drop_of_length-le [] {i = k} (omega arith))
drop_more (suc h) k (x ∷ l) =
    let e : suc h + k ≡ suc (h + k) = omega arith in
    ap (λ n. drop n (x ∷ l)) e ∙ drop_more h k l

module _ (ws : List ℕ) where
  word_behind : (k : ℕ) → word ws (header_size ws + k) ≡ word (behind ws) k
  word_behind k = sym (get_or-drop (header_size ws) ws k 0)

  place_behind : (p : ℕ) → rule_place ws p ≡ header_size ws + place_in (terminal_count ws) (behind ws) p
  unfolding rule_place place_in
  place_behind zero = refl
  place_behind (suc p) =
      let q = place_in (terminal_count ws) (behind ws) p in
      let e : rule_place ws p + 1 ≡ header_size ws + (q + 1) = omega (arith, place_behind p) in
      let w : word ws (rule_place ws p + 1) ≡ word (behind ws) (q + 1) = ap (word ws) e ∙ word_behind (q + 1) in
      omega (arith, place_behind p)

module _ (ws vs : List ℕ) (same : SameHeader ws vs) where
  word_same : (k : ℕ) → word ws (header_size ws + k) ≡ word vs (header_size vs + k)
  word_same k = word_behind ws k ∙ (ap (λ l. word l k) same.rest ∙ sym (word_behind vs k))

  place_same : (p : ℕ) → place_in (terminal_count ws) (behind ws) p ≡ place_in (terminal_count vs) (behind vs) p
  place_same p = ap₂ (λ T l. place_in T l p) same.terminals same.rest

  -- Word j of rule p.
  rule_word_same : (p j : ℕ) → word ws (rule_place ws p + j) ≡ word vs (rule_place vs p + j)
  rule_word_same p j =
      let q = place_in (terminal_count ws) (behind ws) p in
      let a : rule_place ws p + j ≡ header_size ws + (q + j) = omega (arith, place_behind ws p) in
      let b : header_size vs + (q + j) ≡ rule_place vs p + j = omega (arith, place_behind vs p, place_same p) in
      ap (word ws) a ∙ (word_same (q + j) ∙ ap (word vs) b)

  left_same : (p : ℕ) → word ws (rule_place ws p) ≡ word vs (rule_place vs p)
  left_same p =
      let a : rule_place ws p ≡ rule_place ws p + 0 = omega arith in
      let b : rule_place vs p + 0 ≡ rule_place vs p = omega arith in
      ap (word ws) a ∙ (rule_word_same p 0 ∙ ap (word vs) b)

  right_same : (p : ℕ) → right_side ws p ≡ right_side vs p
  unfolding right_side right_size
  right_same p =
      let q = place_in (terminal_count ws) (behind ws) p in
      let a : rule_place ws p + 2 ≡ header_size ws + (q + 2) = omega (arith, place_behind ws p) in
      let b : header_size vs + (q + 2) ≡ rule_place vs p + 2 = omega (arith, place_behind vs p, place_same p) in
      let tail : drop (rule_place ws p + 2) ws ≡ drop (rule_place vs p + 2) vs =
      ap (λ n. drop n ws) a
      ∙ (drop_more (header_size ws) (q + 2) ws
      ∙ (ap (drop (q + 2)) same.rest
      ∙ (sym (drop_more (header_size vs) (q + 2) vs) ∙ ap (λ n. drop n vs) b))) in
      ap₂ take (rule_word_same p 1) tail

  cost_same : (t : ℕ) → insert_cost ws t ≡ insert_cost vs t
  unfolding insert_cost
  cost_same t = word_same (2 * t)

  reliability_same : (t : ℕ) → reliability ws t ≡ reliability vs t
  unfolding reliability
  reliability_same t =
      let a : header_size ws + 2 * t + 1 ≡ header_size ws + (2 * t + 1) = omega arith in
      let b : header_size vs + (2 * t + 1) ≡ header_size vs + 2 * t + 1 = omega arith in
      ap (word ws) a ∙ (word_same (2 * t + 1) ∙ ap (word vs) b)

  rule_same : (p A : ℕ) (β : List ℕ) → RuleOf ws p A β → RuleOf vs p A β
  unfolding left_side
  rule_same p A β r =
      record {
        counted = subst (λ n. p < n) same.rules r.counted;
        left = r.left ∙ ap (λ k. 64 + k) (left_same p);
        right = r.right ∙ right_same p;
      }

  reliable_same : {c t : ℕ} → Reliable ws c t → Reliable vs c t
  reliable_same (Reliable.unlimited e) = Reliable.unlimited e
  reliable_same {c} {t} (Reliable.limited l) = Reliable.limited (subst (λ n. c < n) (reliability_same t) l)

  -- ---- The shape

  terminal_same : {t : ℕ} → TerminalWords ws t → TerminalWords vs t
  terminal_same {t} w =
      record {
        cost_low = subst (λ n. 1 ≤ n) (cost_same t) w.cost_low;
        cost_high = subst (λ n. n ≤ 1000) (cost_same t) w.cost_high;
        reliability_high = subst (λ n. n ≤ 60000) (reliability_same t) w.reliability_high;
      }

  rule_words_same : {p : ℕ} → RuleWords ws p → RuleWords vs p
  unfolding right_size
  rule_words_same {p} w =
      record {
        left = subst₂ (λ k n. k < n) (left_same p) same.nonterminals w.left;
        size = subst (λ n. n ≤ 8) (rule_word_same p 1) w.size;
        symbols = λ i l.
            let a : rule_place ws p + 2 + i ≡ rule_place ws p + (2 + i) = omega arith in
            let b : rule_place vs p + (2 + i) ≡ rule_place vs p + 2 + i = omega arith in
            let x : word ws (rule_place ws p + 2 + i) ≡ word vs (rule_place vs p + 2 + i) =
            ap (word ws) a ∙ (rule_word_same p (2 + i) ∙ ap (word vs) b) in
            subst₃ RuleSymbol same.terminals same.nonterminals x
            (w.symbols i (subst (λ n. i < n) (sym (rule_word_same p 1)) l));
      }

  some : (p : ℕ) → 1 ≤ p → 1 ≤ place_in (terminal_count ws) (behind ws) p
  unfolding place_in
  some zero l = absurd (omega arith)
  some (suc p) l = omega arith

  -- The words end with the last rule.
  whole_same : Shaped ws → rule_place vs (rule_count vs) ≡ length vs
  whole_same s =
      let P = rule_count ws in
      let q = place_in (terminal_count ws) (behind ws) P in
      let n = length-drop (header_size ws) ws in
      let m = length-drop (header_size vs) vs in
      let k = ap length same.rest in
      let last : rule_place vs (rule_count vs) ≡ rule_place vs P = ap (rule_place vs) (sym same.rules) in
      last ∙ omega (arith, place_behind ws P, place_behind vs P, place_same P, s.whole, some P s.rules_low, n, m, k)

  shaped_same : Shaped ws → Shaped vs
  shaped_same s =
      record {
        terminals_low = subst (λ n. 1 ≤ n) same.terminals s.terminals_low;
        terminals_high = subst (λ n. n ≤ 64) same.terminals s.terminals_high;
        nonterminals_low = subst (λ n. 1 ≤ n) same.nonterminals s.nonterminals_low;
        nonterminals_high = subst (λ n. n ≤ 64) same.nonterminals s.nonterminals_high;
        rules_low = subst (λ n. 1 ≤ n) same.rules s.rules_low;
        rules_high = subst (λ n. n ≤ 256) same.rules s.rules_high;
        marks = subst₃ Marks same.terminals same.opening same.closing s.marks;
        unit = same.unit.0 s.unit;
        restart = subst (λ m. Restart (terminal_count vs) (opening vs) (closing vs) m) same.restart
            (subst₃ (λ T o c. Restart T o c (restart_mark ws)) same.terminals same.opening same.closing s.restart);
        end_cost = sym (cost_same END) ∙ s.end_cost;
        end_reliability = sym (reliability_same END) ∙ s.end_reliability;
        terminals = λ t a b. terminal_same (s.terminals t a (subst (λ n. t < n) (sym same.terminals) b));
        rules = λ p l. rule_words_same (s.rules p (subst (λ n. p < n) (sym same.rules) l));
        whole = whole_same s;
      }

-- ---- So they mean the same

module _ (ws vs : List ℕ) (same : SameHeader ws vs) where
  other : SameHeader vs ws
  other = same_header_sym same

  grammar_same : SameGrammar (grammar_of ws) (grammar_of vs)
  grammar_same =
      record {
        rules = λ p A β. (rule_same ws vs same p A β, rule_same vs ws other p A β);
        begin = refl;
        price = fun_ext (cost_same ws vs same);
        reliable = λ c t. (reliable_same ws vs same, reliable_same vs ws other);
      }

  pub headers_alike : Alike (meaning_of ws) (meaning_of vs)
  headers_alike =
      record {
        conditions =
            subst (λ N. SameConditions (meaning_of ws).conditions (conditions_of (Shaped vs) N (grammar_of vs)))
            same.nonterminals
            (same_conditions (Shaped ws) (Shaped vs) (nonterminal_count ws) (grammar_of ws) (grammar_of vs)
            (shaped_same ws vs same, shaped_same vs ws other) grammar_same);
        terminals = same.terminals;
        nonterminals = same.nonterminals;
        grammar = grammar_same;
        opening = same.opening;
        closing = same.closing;
        restart = same.restart;
      }

-- ---- A seven-word grammar with restart mark 0, and its six-word form

pub form_alike : (T N P o c u : ℕ) (rest : List ℕ) → 1 ≤ T → T ≤ 64
    → Alike (meaning_of (seven_words T N P o c u rest)) (meaning_of (six_form T N P o c u rest))
unfolding nonterminal_count rule_count opening closing tick_unit
form_alike T N P o c u rest some few =
    headers_alike seven six
    (record {
      terminals = omega (arith, long_terminals seven long, short_terminals six short);
      nonterminals = refl;
      rules = refl;
      opening = refl;
      closing = refl;
      unit = (λ h. h, λ h. h);
      restart = long_restart seven long ∙ sym (short_restart six short);
      rest = ap (λ h. drop h seven) (long_size seven long) ∙ sym (ap (λ h. drop h six) (short_size six short));
    })
  where
    seven : List ℕ
    seven = seven_words T N P o c u rest

    six : List ℕ
    six = six_form T N P o c u rest

    long : 256 < T + 256
    long = omega arith

    short : T ≤ 256
    short = omega arith

pub form_unit : (T N P o c u : ℕ) (rest : List ℕ) → tick_unit (seven_words T N P o c u rest) ≡ tick_unit (six_form T N P o c u rest)
unfolding tick_unit
form_unit T N P o c u rest = refl

-- ---- Two lists that differ in the unit only

-- What stands behind the header does not hold the unit.
behind_units : (b : Bool) (w N P o c u v : ℕ) (rest : List ℕ)
    → drop (cond b 7 6) (w ∷ N ∷ P ∷ o ∷ c ∷ u ∷ rest) ≡ drop (cond b 7 6) (w ∷ N ∷ P ∷ o ∷ c ∷ v ∷ rest)
behind_units true w N P o c u v [] = refl
behind_units true w N P o c u v (m ∷ rest) = refl
behind_units false w N P o c u v rest = refl

restart_units : (b : Bool) (w N P o c u v : ℕ) (rest : List ℕ)
    → cond b (word (w ∷ N ∷ P ∷ o ∷ c ∷ u ∷ rest) 6) 0 ≡ cond b (word (w ∷ N ∷ P ∷ o ∷ c ∷ v ∷ rest) 6) 0
restart_units true w N P o c u v rest = refl
restart_units false w N P o c u v rest = refl

pub units_alike : (w N P o c u v : ℕ) (rest : List ℕ) → (u ≤ 1) ↔ (v ≤ 1)
    → Alike (meaning_of (w ∷ N ∷ P ∷ o ∷ c ∷ u ∷ rest)) (meaning_of (w ∷ N ∷ P ∷ o ∷ c ∷ v ∷ rest))
unfolding is_long header_size terminal_count nonterminal_count rule_count opening closing tick_unit restart_mark
units_alike w N P o c u v rest either =
    headers_alike (w ∷ N ∷ P ∷ o ∷ c ∷ u ∷ rest) (w ∷ N ∷ P ∷ o ∷ c ∷ v ∷ rest)
    (record {
      terminals = refl;
      nonterminals = refl;
      rules = refl;
      opening = refl;
      closing = refl;
      unit = either;
      restart = restart_units (ltb 256 w) w N P o c u v rest;
      rest = behind_units (ltb 256 w) w N P o c u v rest;
    })
