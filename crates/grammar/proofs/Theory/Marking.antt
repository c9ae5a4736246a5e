-- The marks that moves come to (`Marked` of Marks.antt), request (iv). `Requests` states first what is shown of them.
--     marks_one          they are one list
--     marks_exist        a run that ended has them
--     marks_fill         they are the repaired log, filled by the strings of cheapest rules
--     marks_cost         the tokens added cost what the symbols inserted cost
--     marks_kept         a kept mark is the log's
use Prim.Native.Nat.{ℕ, zero, suc, ◌+◌, ◌-◌, ◌≤◌, ◌<◌}
use Rattle.std.proofs.Math.Path.{◌≡◌, sym, subst}
use Rattle.std.specs.Prelude.{refl, length, get_or}
use Rattle.std.proofs.Common.{ap, ap₂, ◌∙◌, arith, length-append}
use Rattle.std.proofs.Math.Logic.{dite, ⊎_elim}
use mathlib.Core.List.Memᴰ
use mathlib.Core.List.{List, [], ◌∷◌, ◌++◌, map, Memᴰ}
use Rattle.std.proofs.Math.Option.{none}
use Rattle.std.proofs.Math.Decide.{dec_lt}
use Rattle.std.proofs.Math.ListN.{get_or-append}
use Rattle.grammar.specs.Words.{END, Terminal, insert_cost, nonterminal_count}
use Rattle.grammar.specs.Derivation.{Rules, All}
use Rattle.grammar.specs.Cost.{string_cost, SymbolCost, ListCost, Ends}
use Rattle.grammar.specs.Grammar.{RuleOf, grammar_of}
use Rattle.grammar.specs.Moves.{Move, log_token, repaired}
use Rattle.grammar.specs.Run.{Asks, Parses, RunOf, Settled, run_conditions}
use Rattle.grammar.specs.Marks.{Mark, token_of, kept_mark, added_marks, Marked, MarksOf}
use Rattle.grammar.specs.Pace.{Kept}
use Rattle.grammar.specs.Refusals.{given}
use Rattle.grammar.specs.Theory.Answered.{Admitted}
use Rattle.grammar.proofs.Theory.Answered.{admitted, log_tokens}
use Rattle.grammar.proofs.Theory.CheapestRules as CheapestRules
use Rattle.grammar.specs.Theory.Closed.{all_rest, closed_down}
use Rattle.grammar.specs.Theory.Filled.{Filled}
use Rattle.grammar.specs.Theory.Good.{Accepted, Good, good_words, good_below}
use Rattle.grammar.specs.Theory.Leftmost.{to_der}
use Rattle.grammar.proofs.Theory.Places.{walk_run, kept_token}
use Rattle.grammar.proofs.Theory.Repaired.{repaired_derivable}
use Rattle.grammar.specs.Theory.Rewriting.{string_append}
use Rattle.grammar.specs.Theory.Strings.{Plain, plain_words, ends_one, ends_terminals, ends_yields, ends_cost}
use Rattle.grammar.specs.Theory.Marking.{inserted_symbols, added_tokens}

-- ---- What the words' string of a symbol is

-- ---- The parts of the list

pub tokens_kept : (p t : ℕ) (xs : List Mark) → map token_of (kept_mark p t ++ xs) ≡ log_token t ++ map token_of xs
unfolding kept_mark log_token token_of
tokens_kept p zero xs = refl
tokens_kept p (suc t) xs = refl

pub tokens_added : (w : List ℕ) (xs : List Mark) → map token_of (added_marks w ++ xs) ≡ w ++ map token_of xs
unfolding added_marks token_of
tokens_added [] xs = refl
tokens_added (t ∷ w) xs = ap (λ l. t ∷ l) (tokens_added w xs)

added_kept : (p t : ℕ) (xs : List Mark) → added_tokens (kept_mark p t ++ xs) ≡ added_tokens xs
unfolding kept_mark added_tokens
added_kept p zero xs = refl
added_kept p (suc t) xs = refl

added_added : (w : List ℕ) (xs : List Mark) → added_tokens (added_marks w ++ xs) ≡ w ++ added_tokens xs
unfolding added_marks added_tokens
added_added [] xs = refl
added_added (t ∷ w) xs = ap (λ l. t ∷ l) (added_added w xs)

-- ---- For any rules

module _ (R : Rules) (price : ℕ → ℕ) (plain : Plain R) where
  marked_one : {ms : List Move} {xs ys : List Mark} → Marked R price ms xs → Marked R price ms ys → xs ≡ ys
  marked_one Marked.nothing Marked.nothing = refl
  marked_one (Marked.matched {p = p} {t = t} a) (Marked.matched b) = ap (λ l. kept_mark p t ++ l) (marked_one a b)
  marked_one (Marked.expanded a) (Marked.expanded b) = marked_one a b
  marked_one (Marked.dropped a) (Marked.dropped b) = marked_one a b
  marked_one (Marked.deleted a) (Marked.deleted b) = marked_one a b
  marked_one (Marked.replaced x a) (Marked.replaced y b) =
      ap₂ (λ w l. added_marks w ++ l) (ends_one R price plain x y) (marked_one a b)

  marked_fill : {ms : List Move} {xs : List Mark} → Marked R price ms xs → Filled R ms (map token_of xs)
  marked_fill Marked.nothing = Filled.nothing
  marked_fill (Marked.matched {p = p} {t = t} {ms = ms} {xs = xs} a) =
      subst (λ l. Filled R (Move.match p t ∷ ms) l) (sym (tokens_kept p t xs)) (Filled.kept (marked_fill a))
  marked_fill (Marked.expanded a) = Filled.expanded (marked_fill a)
  marked_fill (Marked.dropped a) = Filled.dropped (marked_fill a)
  marked_fill (Marked.deleted a) = Filled.deleted (marked_fill a)
  marked_fill (Marked.replaced {p = p} {X = X} {w = w} {ms = ms} {xs = xs} x a) =
      subst (λ l. Filled R (Move.insert p X ∷ ms) l) (sym (tokens_added w xs))
      (Filled.replaced (ends_yields R price plain x) (marked_fill a))

  one_cost : {X c : ℕ} → ListCost R price (X ∷ []) c → SymbolCost R price X c
  one_cost {X} {c} (ListCost.also {b = b} x ListCost.nothing e) =
      let same : b ≡ c = omega (arith, e) in
      subst (λ n. SymbolCost R price X n) same x

  marked_cost : {ms : List Move} {xs : List Mark} → Marked R price ms xs
      → ListCost R price (inserted_symbols ms) (string_cost price (added_tokens xs))
  unfolding inserted_symbols added_tokens string_cost
  marked_cost Marked.nothing = ListCost.nothing
  marked_cost (Marked.matched {p = p} {t = t} {ms = ms} {xs = xs} a) =
      subst (λ l. ListCost R price (inserted_symbols ms) (string_cost price l)) (sym (added_kept p t xs)) (marked_cost a)
  marked_cost (Marked.expanded a) = marked_cost a
  marked_cost (Marked.dropped a) = marked_cost a
  marked_cost (Marked.deleted a) = marked_cost a
  marked_cost (Marked.replaced {X = X} {w = w} {xs = xs} x a) =
      let all : string_cost price w + string_cost price (added_tokens xs) ≡ string_cost price (added_tokens (added_marks w ++ xs)) =
      sym (ap (string_cost price) (added_added w xs) ∙ string_append price w (added_tokens xs)) in
      ListCost.also (one_cost (ends_cost R price plain x)) (marked_cost a) all

  kept_member : (p t : ℕ) {q u : ℕ} → Memᴰ (Mark.kept q u) (kept_mark p t) → (Move.match q u ≡ Move.match p t) × (1 ≤ u)
  unfolding kept_mark
  kept_member p zero m = absurd (Memᴰ.not-nil m)
  kept_member p (suc t) {q} {u} m =
      ⊎_elim
      (λ e. let a : q ≡ p = cc in let b : u ≡ suc t = cc in (cc, omega arith))
      (λ k. absurd (Memᴰ.not-nil k))
      (Memᴰ.cases_cons m)

  no_kept : (w : List ℕ) {q u : ℕ} → Memᴰ (Mark.kept q u) (added_marks w) → ⊥
  unfolding added_marks
  no_kept [] m = Memᴰ.not-nil m
  no_kept (t ∷ w) m = ⊎_elim (λ e. let z : ◌≡◌ {A = ℕ} 0 1 = cc in omega arith) (λ k. no_kept w k) (Memᴰ.cases_cons m)

  -- A kept mark was matched, and is not END.
  marked_kept : {ms : List Move} {xs : List Mark} {q u : ℕ} → Marked R price ms xs → Memᴰ (Mark.kept q u) xs → Kept ms q u × (1 ≤ u)
  marked_kept Marked.nothing m = absurd (Memᴰ.not-nil m)
  marked_kept (Marked.matched {p = p} {t = t} a) m =
      ⊎_elim
      (λ k. let h = kept_member p t k in (Memᴰ.head h.0, h.1))
      (λ k. let h = marked_kept a k in (Memᴰ.tail h.0, h.1))
      (Memᴰ.append_cases (kept_mark p t) m)
  marked_kept (Marked.expanded a) m = let h = marked_kept a m in (Memᴰ.tail h.0, h.1)
  marked_kept (Marked.dropped a) m = let h = marked_kept a m in (Memᴰ.tail h.0, h.1)
  marked_kept (Marked.deleted a) m = let h = marked_kept a m in (Memᴰ.tail h.0, h.1)
  marked_kept (Marked.replaced {w = w} x a) m =
      ⊎_elim
      (λ k. absurd (no_kept w k))
      (λ k. let h = marked_kept a k in (Memᴰ.tail h.0, h.1))
      (Memᴰ.append_cases (added_marks w) m)

  no_added : (p t : ℕ) {u : ℕ} → Memᴰ (Mark.added u) (kept_mark p t) → ⊥
  unfolding kept_mark
  no_added p zero m = Memᴰ.not-nil m
  no_added p (suc t) m =
      ⊎_elim (λ e. let z : ◌≡◌ {A = ℕ} 0 1 = cc in omega arith) (λ k. Memᴰ.not-nil k) (Memᴰ.cases_cons m)

  added_member : {w : List ℕ} {u : ℕ} → All Terminal w → Memᴰ (Mark.added u) (added_marks w) → Terminal u
  unfolding added_marks
  added_member All.nothing m = absurd (Memᴰ.not-nil m)
  added_member {u = u} (All.also {x = t} h a) m =
      ⊎_elim (λ e. let same : u ≡ t = cc in omega arith) (λ k. added_member a k) (Memᴰ.cases_cons m)

  marked_added : {ms : List Move} {xs : List Mark} {u : ℕ} → Marked R price ms xs → Memᴰ (Mark.added u) xs → Terminal u
  marked_added Marked.nothing m = absurd (Memᴰ.not-nil m)
  marked_added (Marked.matched {p = p} {t = t} a) m =
      ⊎_elim (λ k. absurd (no_added p t k)) (λ k. marked_added a k) (Memᴰ.append_cases (kept_mark p t) m)
  marked_added (Marked.expanded a) m = marked_added a m
  marked_added (Marked.dropped a) m = marked_added a m
  marked_added (Marked.deleted a) m = marked_added a m
  marked_added (Marked.replaced {w = w} x a) m =
      ⊎_elim (λ k. added_member (ends_terminals R price plain x) k) (λ k. marked_added a k) (Memᴰ.append_cases (added_marks w) m)

-- ---- For the words

pub marks_one : {ws : List ℕ} {ms : List Move} {xs ys : List Mark} → MarksOf ws ms xs → MarksOf ws ms ys → xs ≡ ys
marks_one {ws} a b = marked_one (RuleOf ws) (insert_cost ws) (plain_words ws) a b

pub marks_fill : {ws : List ℕ} {ms : List Move} {xs : List Mark} → MarksOf ws ms xs → Filled (RuleOf ws) ms (map token_of xs)
marks_fill {ws} a = marked_fill (RuleOf ws) (insert_cost ws) (plain_words ws) a

pub marks_cost : {ws : List ℕ} {ms : List Move} {xs : List Mark} → MarksOf ws ms xs
    → ListCost (RuleOf ws) (insert_cost ws) (inserted_symbols ms) (string_cost (insert_cost ws) (added_tokens xs))
marks_cost {ws} a = marked_cost (RuleOf ws) (insert_cost ws) (plain_words ws) a

pub marks_added : {ws : List ℕ} {ms : List Move} {xs : List Mark} → MarksOf ws ms xs → (t : ℕ) → Memᴰ (Mark.added t) xs → t < 64
marks_added {ws} a t m = marked_added (RuleOf ws) (insert_cost ws) (plain_words ws) a m

-- The run of a parse that answers with moves.
pub run_of : {Asked : Asks} {ws log es rs : List ℕ} {edit_room rule_room : ℕ} {ms : List Move}
    → Parses Asked ws log edit_room rule_room (given ms) es rs → Admitted ws log × RunOf ws log edit_room rule_room ms none
run_of {Asked} {ws} {log} {edit_room = edit_room} {rule_room = rule_room} {ms = ms} p = go p.settled
  where
    go : Settled (run_conditions ws log Asked) (RunOf ws log edit_room rule_room) (given ms)
        → Admitted ws log × RunOf ws log edit_room rule_room ms none
    go (Settled.whole l r) = (admitted l, r)

-- A kept mark is the token that the log has at its place.
pub marks_kept : {Asked : Asks} {ws log es rs : List ℕ} {edit_room rule_room : ℕ} {ms : List Move} {xs : List Mark}
    → Parses Asked ws log edit_room rule_room (given ms) es rs → MarksOf ws ms xs → (p t : ℕ) → Memᴰ (Mark.kept p t) xs
    → (p < length log) × (get_or log p 0 ≡ t)
marks_kept {ws = ws} {log = log} q a p t m =
    let k = marked_kept (RuleOf ws) (insert_cost ws) (plain_words ws) a m in
    let h = kept_token (walk_run log (run_of q).1) k.0 in
    at h.behind (omega (arith, h.place)) h.within h.token k.1
  where
    at : (i : ℕ) → p ≡ i → i < length (log ++ (END ∷ [])) → t ≡ get_or (log ++ (END ∷ [])) i END → 1 ≤ t
        → (p < length log) × (get_or log p 0 ≡ t)
    at i e l f one =
        dite (dec_lt i (length log))
        (λ low. (omega arith, ap (λ (n : ℕ). get_or log n 0) e ∙ (sym (get_or-append log (END ∷ []) 0 i low) ∙ sym f)))
        (λ high.
        let last : i ≡ length log = omega (arith, length-append log (END ∷ [])) in
        absurd (omega (arith, f, behind i last)))
      where
        last_of : (l : List ℕ) → get_or (l ++ (END ∷ [])) (length l) END ≡ END
        last_of [] = refl
        last_of (x ∷ l) = last_of l

        behind : (i : ℕ) → i ≡ length log → get_or (log ++ (END ∷ [])) i END ≡ END
        behind i e = ap (λ (n : ℕ). get_or (log ++ (END ∷ [])) n END) e ∙ last_of log

-- ---- A run that ended has its marks

module _ (ws : List ℕ) (a : Accepted ws) where
  good : Good (grammar_of ws) (nonterminal_count ws) 8
  good = good_words ws a

  -- Following cheapest rules from what is known ends.
  pub known_ends : (X : ℕ) → (grammar_of ws).known X → (w : List ℕ) × Ends (RuleOf ws) (insert_cost ws) (nonterminal_count ws) (X ∷ []) w
  known_ends X k =
      dite (dec_lt X 64) (λ low. (X ∷ [], Ends.terminal low Ends.nothing))
      (λ high.
      let below = good_below good (omega arith) k in
      let e : 64 + (X - 64) ≡ X = omega arith in
      subst (λ Y. (w : List ℕ) × Ends (RuleOf ws) (insert_cost ws) (nonterminal_count ws) (Y ∷ []) w) e
      (CheapestRules.cheapest_ends ws a (X - 64) (omega arith)))

  -- So moves whose repaired log is known have marks.
  marks_from : (ms : List Move) → All (grammar_of ws).known (repaired ms) → (xs : List Mark) × MarksOf ws ms xs
  unfolding repaired
  marks_from [] k = ([], Marked.nothing)
  marks_from (Move.match p t ∷ ms) k =
      let rest = marks_from ms (all_rest (log_token t) k) in (kept_mark p t ++ rest.0, Marked.matched rest.1)
  marks_from (Move.expand q ∷ ms) k = let rest = marks_from ms k in (rest.0, Marked.expanded rest.1)
  marks_from (Move.drop X ∷ ms) k = let rest = marks_from ms k in (rest.0, Marked.dropped rest.1)
  marks_from (Move.delete p t ∷ ms) k = let rest = marks_from ms k in (rest.0, Marked.deleted rest.1)
  marks_from (Move.insert p X ∷ ms) (All.also h k) =
      let string = known_ends X h in
      let rest = marks_from ms k in
      (added_marks string.0 ++ rest.0, Marked.replaced string.1 rest.1)

pub known_repaired : {ws log : List ℕ} {edit_room rule_room : ℕ} {ms : List Move} → Admitted ws log → RunOf ws log edit_room rule_room ms none
    → All (grammar_of ws).known (repaired ms)
known_repaired {ws} a r =
    let good = good_words ws a.words in
    closed_down (RuleOf ws) (grammar_of ws).known (λ p A β s _. good.symbols p A β s)
    (to_der (RuleOf ws) (repaired_derivable (grammar_of ws) (nonterminal_count ws) 8 good (log_tokens a) r)) good.inner

pub marks_exist : {ws log : List ℕ} {edit_room rule_room : ℕ} {ms : List Move} → Admitted ws log → RunOf ws log edit_room rule_room ms none
    → (xs : List Mark) × MarksOf ws ms xs
marks_exist {ws} {ms = ms} a r = marks_from ws a.words ms (known_repaired a r)
