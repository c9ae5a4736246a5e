-- What the parts of the shape say where a test has gone one way: marks, the restart mark, symbols, END's words.
use Prim.Native.Nat.{ℕ, suc, ◌+◌, ◌-◌, ◌*◌, ◌≤◌, ◌<◌}
use mathlib.Core.Path.{◌≡◌, sym, ap, ◌∙◌, subst, subst₂}
use mathlib.Core.Bool.{Bool}
use mathlib.Core.List.{List}
use native.Mathlib.Omega.{arith}
use lib.Dec.{ltb, eqb}
use lib.ListN.{length}
use Rattle.base.specs.Telling.{Tells, tells_le, tells_eq, tells_as}
use Rattle.grammar.specs.Words.{word, header_size, terminal_count, restart_mark, Marks, Restart, RuleSymbol}
use Rattle.grammar.proofs.Theory.Headers.{size_least, size_most}
use Rattle.shape.specs.Parts.{Between, EndAsked, EndRight, HeaderRight, TerminalRight}

-- Without an opening mark there is no closing mark,
pub mark_both : {T o c : ℕ} → o ≡ 0 → Marks T o c → c ≡ 0
mark_both e (Marks.marked a b d f) = absurd (omega arith)
mark_both e (Marks.unmarked a b) = b

-- with one there is,
pub mark_closing : {T o c : ℕ} → Marks T o c → (o ≡ 0 → ⊥) → c ≡ 0 → ⊥
mark_closing (Marks.marked a b d f) some none = omega arith
mark_closing (Marks.unmarked a b) some none = some a

-- and both are below T.
pub mark_opening : {T o c : ℕ} → Marks T o c → (o ≡ 0 → ⊥) → (o < T) × (c < T)
mark_opening (Marks.marked a b d f) some = (b, f)
mark_opening (Marks.unmarked a b) some = absurd (some a)

-- END never stands in a rule.
pub symbol_some : {T N x : ℕ} → RuleSymbol T N x → 0 < x
symbol_some (RuleSymbol.terminal a b) = a
symbol_some (RuleSymbol.nonterminal a b) = omega arith

-- What is no terminal below T is a nonterminal,
pub symbol_high : {T N x : ℕ} → RuleSymbol T N x → T ≤ x → 64 ≤ x
symbol_high (RuleSymbol.terminal a b) h = absurd (omega arith)
symbol_high (RuleSymbol.nonterminal a b) h = a

-- one of the N.
symbol_low : {T N x : ℕ} → RuleSymbol T N x → T ≤ x → x < 64 + N
symbol_low (RuleSymbol.terminal a b) h = absurd (omega arith)
symbol_low (RuleSymbol.nonterminal a b) h = b

pub symbol_tells : (T N x : ℕ) → T ≤ x → 64 ≤ x → Tells (RuleSymbol T N x) (ltb (x - 64) N)
symbol_tells T N x h l =
    tells_le (suc (x - 64)) N (λ k. RuleSymbol.nonterminal l (omega arith)) (λ r. omega (arith, symbol_low r h))

-- A restart mark is no opening mark,
pub restart_opening : {T o c m : ℕ} → Restart T o c m → (m ≡ 0 → ⊥) → m ≡ o → ⊥
restart_opening (Restart.restarts a b d e) some = d
restart_opening (Restart.none e) some = absurd (some e)

-- no closing mark,
pub restart_closing : {T o c m : ℕ} → Restart T o c m → (m ≡ 0 → ⊥) → m ≡ c → ⊥
restart_closing (Restart.restarts a b d e) some = e
restart_closing (Restart.none e) some = absurd (some e)

-- and below T.
pub restart_below : {T o c m : ℕ} → Restart T o c m → (m ≡ 0 → ⊥) → m < T
restart_below (Restart.restarts a b d e) some = b
restart_below (Restart.none e) some = absurd (some e)

-- ---- END's words, by T and the header's size as they were read

pub size_small : (ws : List ℕ) {h : ℕ} → h ≡ header_size ws → h ≤ 7
size_small ws e = omega (arith, size_most ws)

module _ {ws : List ℕ} {h : ℕ} where
  pub end_short : {T w : ℕ} → EndAsked ws T → h ≡ header_size ws → w ≡ T → length ws < h + 2 * w → EndRight ws → ⊥
  end_short asked e f short r = omega (arith, asked.read, r.inside)

  pub end_cost : h ≡ header_size ws → (word ws h ≡ 0 → ⊥) → EndRight ws → ⊥
  end_cost e some r = some (ap (word ws) e ∙ r.cost)

  pub end_tells : {T w : ℕ} → EndAsked ws T → h ≡ header_size ws → w ≡ T → h + 2 * w ≤ length ws → word ws h ≡ 0
      → Tells (EndRight ws) (eqb (word ws (h + 1)) 0)
  end_tells asked e f inside none =
      tells_eq (word ws (h + 1)) 0
      (λ z.
      record {
        inside = omega (arith, asked.read);
        cost = ap (word ws) (sym e) ∙ none;
        reliability = ap (λ k. word ws (k + 1)) (sym e) ∙ z;
      })
      (λ r. ap (λ k. word ws (k + 1)) e ∙ r.reliability)

-- ---- The header, by T as it was read

module _ (ws : List ℕ) {T : ℕ} (e : T ≡ terminal_count ws) where
  pub terminals_as : HeaderRight ws → Between 1 64 T
  terminals_as h = subst (Between 1 64) (sym e) h.terminals

  pub marks_as : HeaderRight ws → Marks T (word ws 3) (word ws 4)
  marks_as h = subst (λ t. Marks t (word ws 3) (word ws 4)) (sym e) h.marks

  pub restart_as : {m : ℕ} → m ≡ restart_mark ws → HeaderRight ws → Restart T (word ws 3) (word ws 4) m
  restart_as f h = subst₂ (λ t k. Restart t (word ws 3) (word ws 4) k) (sym e) (sym f) h.restart

  -- All but END's words are right.
  pub header_tells : {m : ℕ} {r : Bool} → m ≡ restart_mark ws → Between 1 64 T → Between 1 64 (word ws 1) → Between 1 256 (word ws 2)
      → Marks T (word ws 3) (word ws 4) → Between 0 1 (word ws 5) → Restart T (word ws 3) (word ws 4) m → Tells (EndRight ws) r
      → Tells (HeaderRight ws) r
  header_tells f terminals nonterminals rules marks unit restart =
      tells_as
      (λ end.
      record {
        terminals = subst (Between 1 64) e terminals;
        nonterminals = nonterminals;
        rules = rules;
        marks = subst (λ t. Marks t (word ws 3) (word ws 4)) e marks;
        unit = unit;
        restart = subst₂ (λ t k. Restart t (word ws 3) (word ws 4) k) e f restart;
        end = end;
      })
      (λ h. h.end)

-- ---- The terminals' words, by the header's size as it was read

pub header_some : (ws : List ℕ) → HeaderRight ws → 8 ≤ length ws
header_some ws h = omega (arith, h.end.inside, h.terminals.from, size_least ws)

module _ (ws : List ℕ) {from : ℕ} (e : from ≡ header_size ws) where
  pub cost_as : (t : ℕ) → TerminalRight ws t → Between 1 1000 (word ws (from + 2 * t))
  cost_as t r = subst (λ h. Between 1 1000 (word ws (h + 2 * t))) (sym e) r.cost

  pub reliability_as : (t : ℕ) → TerminalRight ws t → Between 0 60000 (word ws (from + 2 * t + 1))
  reliability_as t r = subst (λ h. Between 0 60000 (word ws (h + 2 * t + 1))) (sym e) r.reliability

  pub terminal_right : (t : ℕ) → Between 1 1000 (word ws (from + 2 * t)) → Between 0 60000 (word ws (from + 2 * t + 1)) → TerminalRight ws t
  terminal_right t cost reliability =
      record {
        cost = subst (λ h. Between 1 1000 (word ws (h + 2 * t))) e cost;
        reliability = subst (λ h. Between 0 60000 (word ws (h + 2 * t + 1))) e reliability;
      }
