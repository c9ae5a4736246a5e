-- The pass over the rules: what holds in front of rule p, which stands at the place `at`.
--     begun, more, over    where the pass begins, at a rule that is right, and behind the last rule
--     refused              a rule that is not right
use Prim.Native.Nat.{ℕ, ◌+◌, ◌-◌, ◌*◌, ◌≤◌, ◌<◌}
use mathlib.Core.Bool.{Bool, false, false≢true}
use mathlib.Core.Path.{◌≡◌, sym, ap, ◌∙◌, subst}
use mathlib.Core.List.{List}
use native.Mathlib.Omega.{arith}
use native.Mathlib.Numerals.{add-one}
use borrow.Author.Count.{below_more}
use Rattle.std.proofs.Common.{length-take, length-drop, get_or-take, get_or-drop}
use borrow.Author.Tests.{eqb-true, eqb-false}
use lib.Dec.{eqb}
use lib.ListN.{length, get_or, set, take, drop, length-set}
use lib.Seq.{get_or-set_same, get_or-set_other}
use Rattle.grammar.specs.Words.{word, header_size, terminal_count, rule_count, right_size, rule_place, RuleSymbol, Shaped}
use Rattle.base.specs.Telling.{Tells, tells_as}
use Rattle.shape.specs.Parts.{AllSymbols, Decides, HeaderRight, RuleRight, RuleThere, RulesRight, SymbolsRight, rule_of_lem}
use Rattle.shape.specs.Inside.{place_first, place_next, places_small}

-- A rule, by its symbols: the last test of `rule_right`.
pub rule_tells : (ws : List ℕ) (at T N size : ℕ) {r : Bool} → size ≡ word ws (at + 1) → word ws at < N → size ≤ 8
    → at + 2 + size ≤ length ws → Tells (SymbolsRight ws (at + 2) size T N) r → Tells (RuleRight ws at T N) r
rule_tells ws at T N size e left small inside t =
    record {
      yes = λ y.
          record {
            left = left;
            size = omega arith;
            symbols = subst (λ k. SymbolsRight ws (at + 2) k T N) e (t.yes y);
            inside = omega arith;
          };
      no = λ n r. t.no n (subst (λ k. SymbolsRight ws (at + 2) k T N) (sym e) r.symbols);
    }

-- The symbols of a part of the words are those that stand there.
pub symbols_there : (ws : List ℕ) (a n : ℕ) {T N : ℕ} {r : Bool} → a + n ≤ length ws
    → Tells (AllSymbols (take (a + n - a) (drop a ws)) T N) r
    → Tells (SymbolsRight ws a n T N) r
symbols_there ws a n {T} {N} inside =
    let size : length (take (a + n - a) (drop a ws)) ≡ n = omega (arith, length-take (a + n - a) (drop a ws), length-drop a ws) in
    let here = λ (i : ℕ) (l : i < n). get_or-take (a + n - a) (drop a ws) i 0 (omega arith) ∙ get_or-drop a ws i 0 in
    tells_as
    (λ all i l. subst (RuleSymbol T N) (here i l) (all i (omega (arith, size))))
    (λ all i l. subst (RuleSymbol T N) (sym (here i (omega (arith, size)))) (all i (omega (arith, size))))

-- An answer of no.
pub shut_out : {P Q : Type 0} → (Q → ⊥) → Decides P Q false
shut_out wrong = record { yes = λ e. absurd (false≢true e); no = λ _ q. wrong q }

pub record Passed (ws places : List ℕ) (at p : ℕ) : Type 0 where
  pub counted : p ≤ word ws 2
  pub stands : at ≡ rule_place ws p
  pub inside : at ≤ length ws
  pub room : 256 ≤ length places
  pub rules : (q : ℕ) → q < p → RuleThere ws (rule_place ws q)
  pub exact : (q : ℕ) → q < p → get_or places q 0 ≡ rule_place ws q

module _ (ws : List ℕ) (header : HeaderRight ws) where
  pub begun : (places : List ℕ) (h w : ℕ) → h ≡ header_size ws → w ≡ terminal_count ws → 256 ≤ length places
      → Passed ws places (h + 2 * w) 0
  begun places h w e f room =
      record {
        counted = omega arith;
        stands = omega (arith, place_first ws);
        inside = omega (arith, header.end.inside);
        room = room;
        rules = λ q h. absurd (omega arith);
        exact = λ q h. absurd (omega arith);
      }

  module _ (places : List ℕ) (at p : ℕ) (passed : Passed ws places at p) where
    -- The place fits a word.
    pub fits_word : p < word ws 2 → at < 65536
    unfolding right_size
    fits_word h =
        omega
        (arith, places_small ws header.terminals.to p (λ q l. (passed.rules q l).size), header.rules.to, passed.stands)

    pub more : {T : ℕ} (w : ℕ) → w ≡ word ws (at + 1) → p < word ws 2 → T ≡ terminal_count ws → RuleRight ws at T (word ws 1)
        → Passed ws (set places p at) (at + 2 + w) (p + 1)
    unfolding right_size
    more w e h f right =
        let r : RuleThere ws at = subst (λ t. RuleRight ws at t (word ws 1)) f right in
        let size : word ws (at + 1) ≡ word ws (rule_place ws p + 1) = ap (λ k. word ws (k + 1)) passed.stands in
        record {
          counted = omega arith;
          stands = omega (arith, place_next ws p, passed.stands) ∙ ap (rule_place ws) (sym (add-one p));
          inside = omega (arith, r.inside);
          room = omega (arith, length-set places p at, passed.room);
          rules = below_more (λ q. RuleThere ws (rule_place ws q)) p passed.rules (subst (RuleThere ws) passed.stands r);
          exact = below_more (λ q. get_or (set places p at) q 0 ≡ rule_place ws q) p
              (λ q l. get_or-set_other places p q at 0 (λ same. omega arith) ∙ passed.exact q l)
              (get_or-set_same places p at 0 (omega (arith, passed.room, header.rules.to)) ∙ passed.stands);
        }

    pub refused : {P : Type 0} {T : ℕ} → p < word ws 2 → T ≡ terminal_count ws → (RuleRight ws at T (word ws 1) → ⊥)
        → Decides P (Shaped ws) false
    refused h f wrong =
        shut_out
        (λ s.
        wrong
        (subst (λ t. RuleRight ws at t (word ws 1)) (sym f) (subst (RuleThere ws) (sym passed.stands) (rule_of_lem ws s p h))))

    pub over : word ws 2 ≤ p → Decides (RulesRight ws places) (Shaped ws) (eqb at (length ws))
    unfolding rule_count
    over h =
        let all : p ≡ word ws 2 = omega (arith, passed.counted) in
        record {
          yes = λ e.
              record {
                rules = λ q l. passed.rules q (omega arith);
                whole = ap (rule_place ws) (sym all) ∙ sym passed.stands ∙ eqb-true at (length ws) e;
                long = omega (arith, header.rules.to, passed.room);
                exact = λ q l. passed.exact q (omega arith);
              };
          no = λ e s. eqb-false at (length ws) e (passed.stands ∙ ap (rule_place ws) all ∙ s.whole);
        }
