-- The shape of the words, by a test.
use Rattle.std.specs.Prelude.{ℕ, ◌+◌, ◌-◌, ◌≤◌, ◌<◌, ◌≡◌, Bool, ◌&&◌, ◌||◌, not, List, ◌⊎◌, length, T, leb, ltb, eqb}
use Rattle.std.proofs.Common.{inl, inr, arith}
use Rattle.grammar.specs.Words.{
  word,
  terminal_count,
  nonterminal_count,
  rule_count,
  opening,
  closing,
  tick_unit,
  restart_mark,
  insert_cost,
  reliability,
  rule_place,
  right_size,
  RuleSymbol,
  Marks,
  Restart,
  TerminalWords,
  RuleWords,
  Shaped,
  header_size,
  is_long,
}
use Rattle.grammar.specs.Theory.Pigeonhole.{range}
use Rattle.grammar.specs.Model.Tests.{every}
use Rattle.grammar.specs.Model.Reflects.{Reflects, le_test, lt_test, eq_test, and_test, or_test, not_test, each_test, iff_test}

unfoldable pub is_symbol : ℕ → ℕ → ℕ → Bool
is_symbol T N x = (leb 1 x && ltb x T) || (leb 64 x && ltb x (64 + N))

pub symbol_test : (T N x : ℕ) → Reflects (is_symbol T N x) (RuleSymbol T N x)
unfolding is_symbol
symbol_test T N x = iff_test (or_test (and_test (le_test 1 x) (lt_test x T)) (and_test (le_test 64 x) (lt_test x (64 + N)))) to from
  where
    to : ((1 ≤ x) × (x < T)) ⊎ ((64 ≤ x) × (x < 64 + N)) → RuleSymbol T N x
    to (inl h) = RuleSymbol.terminal h.0 h.1
    to (inr h) = RuleSymbol.nonterminal h.0 h.1

    from : RuleSymbol T N x → ((1 ≤ x) × (x < T)) ⊎ ((64 ≤ x) × (x < 64 + N))
    from (RuleSymbol.terminal a b) = inl (a, b)
    from (RuleSymbol.nonterminal a b) = inr (a, b)

unfoldable pub are_marks : ℕ → ℕ → ℕ → Bool
are_marks T o c = ((leb 1 o && ltb o T) && (leb 1 c && ltb c T)) || (eqb o 0 && eqb c 0)

marks_test : (T o c : ℕ) → Reflects (are_marks T o c) (Marks T o c)
unfolding are_marks
marks_test T o c =
    iff_test
    (or_test (and_test (and_test (le_test 1 o) (lt_test o T)) (and_test (le_test 1 c) (lt_test c T))) (and_test (eq_test o 0)
    (eq_test c 0)))
    to from
  where
    to : (((1 ≤ o) × (o < T)) × ((1 ≤ c) × (c < T))) ⊎ ((o ≡ 0) × (c ≡ 0)) → Marks T o c
    to (inl h) = Marks.marked h.0.0 h.0.1 h.1.0 h.1.1
    to (inr h) = Marks.unmarked h.0 h.1

    from : Marks T o c → (((1 ≤ o) × (o < T)) × ((1 ≤ c) × (c < T))) ⊎ ((o ≡ 0) × (c ≡ 0))
    from (Marks.marked a b d e) = inl ((a, b), (d, e))
    from (Marks.unmarked a b) = inr (a, b)

-- A restart mark, or none.
unfoldable pub is_restart : ℕ → ℕ → ℕ → ℕ → Bool
is_restart T o c m = ((leb 1 m && ltb m T) && (not (eqb m o) && not (eqb m c))) || eqb m 0

restart_test : (T o c m : ℕ) → Reflects (is_restart T o c m) (Restart T o c m)
unfolding is_restart
restart_test T o c m =
    iff_test
    (or_test (and_test (and_test (le_test 1 m) (lt_test m T)) (and_test (not_test (eq_test m o)) (not_test (eq_test m c)))) (eq_test m 0))
    to from
  where
    to : (((1 ≤ m) × (m < T)) × ((m ≡ o → ⊥) × (m ≡ c → ⊥))) ⊎ (m ≡ 0) → Restart T o c m
    to (inl h) = Restart.restarts h.0.0 h.0.1 h.1.0 h.1.1
    to (inr h) = Restart.none h

    from : Restart T o c m → (((1 ≤ m) × (m < T)) × ((m ≡ o → ⊥) × (m ≡ c → ⊥))) ⊎ (m ≡ 0)
    from (Restart.restarts a b d e) = inl ((a, b), (d, e))
    from (Restart.none e) = inr e

unfoldable pub is_terminal_words : List ℕ → ℕ → Bool
unfolding insert_cost reliability header_size is_long
is_terminal_words ws t = (leb 1 (insert_cost ws t) && leb (insert_cost ws t) 1000) && leb (reliability ws t) 60000

terminal_test : (ws : List ℕ) (t : ℕ) → Reflects (is_terminal_words ws t) (TerminalWords ws t)
unfolding is_terminal_words
terminal_test ws t =
    iff_test
    (and_test (and_test (le_test 1 (insert_cost ws t)) (le_test (insert_cost ws t) 1000)) (le_test (reliability ws t) 60000))
    (λ h. record { cost_low = h.0.0; cost_high = h.0.1; reliability_high = h.1 })
    (λ r. ((r.cost_low, r.cost_high), r.reliability_high))

unfoldable pub is_rule_words : List ℕ → ℕ → Bool
unfolding rule_place every is_symbol range header_size is_long terminal_count nonterminal_count right_size
is_rule_words ws p =
    (ltb (word ws (rule_place ws p)) (nonterminal_count ws) && leb (right_size ws p) 8)
    && every (λ i. is_symbol (terminal_count ws) (nonterminal_count ws) (word ws (rule_place ws p + 2 + i))) (range 0 (right_size ws p))

rule_test : (ws : List ℕ) (p : ℕ) → Reflects (is_rule_words ws p) (RuleWords ws p)
unfolding is_rule_words
rule_test ws p =
    iff_test
    (and_test (and_test (lt_test (word ws (rule_place ws p)) (nonterminal_count ws)) (le_test (right_size ws p) 8))
    (each_test 0 (right_size ws p) (λ i. symbol_test (terminal_count ws) (nonterminal_count ws) (word ws (rule_place ws p + 2 + i)))))
    (λ h. record { left = h.0.0; size = h.0.1; symbols = λ i l. h.1 i (omega arith) (omega arith) })
    (λ r. ((r.left, r.size), λ i a b. r.symbols i (omega arith)))

-- The header's ranges, then END's words, the other terminals', the rules, and the end.
unfoldable pub is_header : List ℕ → Bool
unfolding are_marks is_restart is_long terminal_count nonterminal_count rule_count opening closing tick_unit restart_mark
is_header ws =
    ((leb 1 (terminal_count ws) && leb (terminal_count ws) 64) && (leb 1 (nonterminal_count ws) && leb (nonterminal_count ws) 64))
    && ((leb 1 (rule_count ws) && leb (rule_count ws) 256) && (are_marks (terminal_count ws) (opening ws) (closing ws) && (leb (tick_unit ws) 1
    && is_restart (terminal_count ws) (opening ws) (closing ws) (restart_mark ws))))

unfoldable pub is_shaped : List ℕ → Bool
unfolding is_header every is_terminal_words range is_rule_words rule_place insert_cost reliability header_size is_long terminal_count rule_count right_size
is_shaped ws =
    (is_header ws && (eqb (insert_cost ws 0) 0 && eqb (reliability ws 0) 0))
    && ((every (is_terminal_words ws) (range 1 (terminal_count ws - 1)) && every (is_rule_words ws) (range 0 (rule_count ws)))
    && eqb (rule_place ws (rule_count ws)) (length ws))

pub shape_test : (ws : List ℕ) → Reflects (is_shaped ws) (Shaped ws)
unfolding is_shaped is_header
shape_test ws =
    iff_test
    (and_test
    (and_test
    (and_test
    (and_test (and_test (le_test 1 (terminal_count ws)) (le_test (terminal_count ws) 64))
    (and_test (le_test 1 (nonterminal_count ws)) (le_test (nonterminal_count ws) 64)))
    (and_test (and_test (le_test 1 (rule_count ws)) (le_test (rule_count ws) 256))
    (and_test (marks_test (terminal_count ws) (opening ws) (closing ws)) (and_test (le_test (tick_unit ws) 1)
    (restart_test (terminal_count ws) (opening ws) (closing ws) (restart_mark ws))))))
    (and_test (eq_test (insert_cost ws 0) 0) (eq_test (reliability ws 0) 0)))
    (and_test
    (and_test (each_test 1 (terminal_count ws - 1) (terminal_test ws)) (each_test 0 (rule_count ws) (rule_test ws)))
    (eq_test (rule_place ws (rule_count ws)) (length ws))))
    (λ h.
    record {
      terminals_low = h.0.0.0.0.0;
      terminals_high = h.0.0.0.0.1;
      nonterminals_low = h.0.0.0.1.0;
      nonterminals_high = h.0.0.0.1.1;
      rules_low = h.0.0.1.0.0;
      rules_high = h.0.0.1.0.1;
      marks = h.0.0.1.1.0;
      unit = h.0.0.1.1.1.0;
      restart = h.0.0.1.1.1.1;
      end_cost = h.0.1.0;
      end_reliability = h.0.1.1;
      terminals = λ t a b. h.1.0.0 t a (omega arith);
      rules = λ p b. h.1.0.1 p (omega arith) (omega arith);
      whole = h.1.1;
    })
    (λ s. (
      (
        (
          ((s.terminals_low, s.terminals_high), (s.nonterminals_low, s.nonterminals_high)),
          ((s.rules_low, s.rules_high), (s.marks, (s.unit, s.restart))),
        ),
        (s.end_cost, s.end_reliability),
      ),
      (((λ t a b. s.terminals t a (omega (arith, s.terminals_low))), (λ p a b. s.rules p (omega arith))), s.whole),
    ))
