-- The walk over the records of a run makes the marks of its moves, each as its word.
use Prim.Native.Nat.{ℕ, zero, suc, ◌+◌, ◌-◌, ◌≤◌, ◌<◌}
use Rattle.std.specs.Prelude.{◌≡◌}
use Rattle.std.proofs.Math.Path.{refl, sym, ap}
use Rattle.std.proofs.Common.{ap₂, subst, ◌∙◌, drop-cons}
use mathlib.Core.List.{List, [], ◌∷◌, ◌++◌, map, cons≢nil}
use native.Mathlib.Omega.{arith}
use Rattle.std.proofs.Math.ListN.{length, get_or, take, drop}
use Rattle.grammar.specs.Words.{END, RuleSymbol, nonterminal_count, insert_cost}
use Rattle.grammar.specs.Derivation.{All}
use Rattle.grammar.specs.Grammar.{RuleOf, grammar_of}
use Rattle.grammar.specs.Moves.{Move, Edit, edits, edit_words, log_token, repaired}
use Rattle.grammar.specs.Marks.{Mark, kept_mark, added_marks, Marked, MarksOf}
use Rattle.grammar.specs.Theory.Closed.{all_rest}
use Rattle.grammar.specs.Theory.Good.{Accepted}
use Rattle.grammar.specs.Theory.Places.{Walk, Rising}
use Rattle.grammar.proofs.Theory.Places.{places_rise}
use Rattle.grammar.specs.Theory.States.{LogToken}
use Rattle.grammar.specs.Theory.Strings.{plain_words, ends_one}
use Rattle.strings.specs.Spelled.{Rights, known_spelt}
use Rattle.strings.specs.Spelling.{spelt, raised}
use Rattle.marks.specs.Answer.{word_by}
use Rattle.marks.specs.Restoring.{
  behind_by,
  added_words,
  restored,
  Listed,
  behind_delete,
  behind_insert,
  words_delete,
  words_insert,
  restored_also,
  restored_none,
}

-- The tokens from place p on, of a log of n: none of them is END, which stands at place n.
pub data Ahead (n : ℕ) : ℕ → List ℕ → Type 0 where
  over : {p : ℕ} → p ≡ n + 1 → Ahead n p []
  last : {p : ℕ} → p ≡ n → Ahead n p (END ∷ [])
  more : {p t : ℕ} {ts : List ℕ} → p < n → Ahead n (p + 1) ts → Ahead n p (suc t ∷ ts)

pub ahead_log : (n p : ℕ) {log : List ℕ} → All LogToken log → p + length log ≡ n → Ahead n p (log ++ (END ∷ []))
ahead_log n p All.nothing e = let here : p ≡ n = omega arith in Ahead.last here
ahead_log n p (All.also {x = zero} h a) e = absurd (omega (arith, h.0))
ahead_log n p (All.also {x = suc t} h a) e = let low : p < n = omega arith in Ahead.more low (ahead_log n (p + 1) a (omega arith))

ahead_place : {n p : ℕ} {ts : List ℕ} → Ahead n p ts → p + length ts ≡ n + 1
ahead_place (Ahead.over e) = omega arith
ahead_place (Ahead.last e) = omega arith
ahead_place (Ahead.more l a) = omega (arith, ahead_place a)

ahead_tail : {n p t : ℕ} {ts : List ℕ} → Ahead n p (t ∷ ts) → Ahead n (p + 1) ts
ahead_tail {n} {p} (Ahead.last e) = let behind : p + 1 ≡ n + 1 = omega arith in Ahead.over behind
ahead_tail (Ahead.more l a) = a

-- Nothing is left behind the end.
drop_past : (n : ℕ) (l : List ℕ) → length l ≤ n → drop n l ≡ []
drop_past zero [] h = refl
drop_past zero (x ∷ l) h = absurd (omega arith)
drop_past (suc n) [] h = refl
drop_past (suc n) (x ∷ l) h = drop_past n l (omega arith)

-- Behind END nothing is edited.
walk_over : {p : ℕ} {ms : List Move} {ts : List ℕ} → Walk p ts ms → ts ≡ [] → edits ms ≡ []
unfolding edits
walk_over Walk.over e = refl
walk_over (Walk.matched w) e = absurd (cons≢nil e)
walk_over (Walk.expanded w) e = walk_over w e
walk_over (Walk.dropped w) e = walk_over w e
walk_over (Walk.deleted w) e = absurd (cons≢nil e)
walk_over (Walk.inserted l w) e = absurd (omega (arith, ap length e))

-- ---- The words of a run's records

kind_two : {k : ℕ} → k ≡ 2 → k ≡ 1 → ⊥
kind_two e f = omega arith

listed_from : {n p q : ℕ} {ws : List ℕ} → q ≤ p → Listed n p ws → Listed n q ws
listed_from {n} {p} {q} l (Listed.over h) = let low : q ≤ n + 1 = omega arith in Listed.over low
listed_from {q = q} l (Listed.also {q = r} a b c d) = let low : q ≤ r = omega arith in Listed.also low b c d

module _ (ws : List ℕ) (a : Accepted ws) where
  symbol_range : {X : ℕ} → (grammar_of ws).known X → (1 ≤ X) × (X < 128)
  symbol_range (RuleSymbol.terminal l h) = (l, omega (arith, a.shaped.terminals_high))
  symbol_range (RuleSymbol.nonterminal l h) = (omega arith, omega (arith, a.shaped.nonterminals_high))

  -- They are listed as the walk wants them.
  pub listed_walk : {n p : ℕ} {ts : List ℕ} {ms : List Move} → Walk p ts ms → Ahead n p ts → All (grammar_of ws).known (repaired ms)
      → Listed n p (edit_words (edits ms))
  unfolding edits edit_words repaired
  listed_walk {n} {p} Walk.over h k = let low : p ≤ n + 1 = omega (arith, ahead_place h) in Listed.over low
  listed_walk (Walk.matched {t = t} w) h k = listed_from (omega arith) (listed_walk w (ahead_tail h) (all_rest (log_token t) k))
  listed_walk (Walk.expanded w) h k = listed_walk w h k
  listed_walk (Walk.dropped w) h k = listed_walk w h k
  listed_walk {n} (Walk.deleted {p = p} {ts = ts} {ms = ms} w) h k =
      let here : p ≤ p = omega arith in
      let within : p ≤ n = omega (arith, ahead_place h) in
      Listed.also here within (λ f. absurd (f refl))
      (subst (λ q. Listed n q (edit_words (edits ms))) (sym (behind_delete p refl)) (listed_walk w (ahead_tail h) k))
  listed_walk {n} (Walk.inserted {p = p} {ms = ms} l w) h (All.also x k) =
      let here : p ≤ p = omega arith in
      let within : p ≤ n = omega (arith, ahead_place h) in
      Listed.also here within (λ f. symbol_range x)
      (subst (λ q. Listed n q (edit_words (edits ms))) (sym (behind_insert p (kind_two refl))) (listed_walk w h k))

-- ---- The words of the marks

words_kept : (kept : List ℕ) (raise p t : ℕ) (xs : List Mark)
    → map (word_by kept raise) (kept_mark p (suc t) ++ xs) ≡ get_or kept p 0 ∷ map (word_by kept raise) xs
unfolding kept_mark word_by
words_kept kept raise p t xs = refl

words_end : (kept : List ℕ) (raise p : ℕ) (xs : List Mark) → map (word_by kept raise) (kept_mark p 0 ++ xs) ≡ map (word_by kept raise) xs
unfolding kept_mark
words_end kept raise p xs = refl

words_added : (kept : List ℕ) (raise : ℕ) (w : List ℕ) (xs : List Mark)
    → map (word_by kept raise) (added_marks w ++ xs) ≡ raised raise w ++ map (word_by kept raise) xs
unfolding added_marks raised word_by
words_added kept raise [] xs = refl
words_added kept raise (t ∷ w) xs = ap (λ l. (t + raise) ∷ l) (words_added kept raise w xs)

module _ (table : List ℕ) (depth raise : ℕ) (kept : List ℕ) where
  -- Nothing is passed between a place and itself.
  none_passed : (p : ℕ) → take (p - p) (drop p kept) ≡ []
  none_passed p = let e : p - p ≡ 0 = omega arith in ap (λ n. take n (drop p kept)) e

  restored_here : (p k X : ℕ) (ws : List ℕ)
      → restored table depth raise kept p (k ∷ p ∷ X ∷ ws)
      ≡ added_words table depth raise k X ++ restored table depth raise kept (behind_by k p) ws
  restored_here p k X ws =
      restored_also table depth raise kept p k p X ws
      ∙ ap (λ l. l ++ (added_words table depth raise k X ++ restored table depth raise kept (behind_by k p) ws)) (none_passed p)

  -- A kept token, where no record of the rest lies at its place.
  restored_kept : (p : ℕ) {es : List Edit} → p < length kept → Rising (p + 1) es
      → restored table depth raise kept p (edit_words es) ≡ get_or kept p 0 ∷ restored table depth raise kept (p + 1) (edit_words es)
  unfolding edit_words
  restored_kept p l Rising.nothing =
      let next : suc p ≡ p + 1 = omega arith in
      restored_none table depth raise kept p
      ∙ (drop-cons kept p 0 l
      ∙ ap (λ t. get_or kept p 0 ∷ t) (ap (λ n. drop n kept) next ∙ sym (restored_none table depth raise kept (p + 1))))
  restored_kept p l (Rising.also {e = e} {es = es} h r) =
      let q : ℕ = e.place in
      let next : suc p ≡ p + 1 = omega arith in
      let more : q - p ≡ suc (q - (p + 1)) = omega arith in
      let behind : List ℕ =
      added_words table depth raise e.kind e.symbol ++ restored table depth raise kept (behind_by e.kind q) (edit_words es) in
      restored_also table depth raise kept p e.kind q e.symbol (edit_words es)
      ∙ (ap₂ (λ n t. take n t ++ behind) more (drop-cons kept p 0 l ∙ ap (λ n. get_or kept p 0 ∷ drop n kept) next)
      ∙ ap (λ t. get_or kept p 0 ∷ t) (sym (restored_also table depth raise kept (p + 1) e.kind q e.symbol (edit_words es))))

-- The result of the walk is the marks of the moves.
module _ (ws table : List ℕ) (a : Accepted ws) (rights : Rights ws table) (raise : ℕ) (kept : List ℕ) where
  abbrev result : ℕ → List ℕ → List ℕ
  result p es = restored table (nonterminal_count ws) raise kept p es

  ended : {p : ℕ} {ms : List Move} → Walk (p + 1) [] ms → p ≡ length kept
      → result (p + 1) (edit_words (edits ms)) ≡ result p (edit_words (edits ms))
  unfolding edit_words
  ended {p} {ms} w e =
      let none = walk_over w refl in
      let N : ℕ = nonterminal_count ws in
      ap (λ es. result (p + 1) (edit_words es)) none
      ∙ (restored_none table N raise kept (p + 1)
      ∙ (drop_past (p + 1) kept (omega arith)
      ∙ (sym (drop_past p kept (omega arith)) ∙ (sym (restored_none table N raise kept p) ∙ sym (ap (λ es. result p (edit_words es)) none)))))

  pub marks_restored : {p : ℕ} {ts : List ℕ} {ms : List Move} {xs : List Mark} → Walk p ts ms → Ahead (length kept) p ts
      → All (grammar_of ws).known (repaired ms) → MarksOf ws ms xs
      → map (word_by kept raise) xs ≡ result p (edit_words (edits ms))
  unfolding edits edit_words repaired
  marks_restored {p} Walk.over h k Marked.nothing =
      sym (restored_none table (nonterminal_count ws) raise kept p ∙ drop_past p kept (omega (arith, ahead_place h)))
  marks_restored (Walk.matched {p = p} {ms = ms} w) (Ahead.last e) k (Marked.matched {xs = xs} m) =
      let behind : p + 1 ≡ length kept + 1 = omega arith in
      words_end kept raise p xs ∙ (marks_restored w (Ahead.over behind) (all_rest (log_token 0) k) m ∙ ended w e)
  marks_restored (Walk.matched {p = p} {ms = ms} w) (Ahead.more {t = t} l h) k (Marked.matched {xs = xs} m) =
      words_kept kept raise p t xs
      ∙ (ap (λ r. get_or kept p 0 ∷ r) (marks_restored w h (all_rest (log_token (suc t)) k) m)
      ∙ sym (restored_kept table (nonterminal_count ws) raise kept p l (places_rise w)))
  marks_restored (Walk.expanded w) h k (Marked.expanded m) = marks_restored w h k m
  marks_restored (Walk.dropped w) h k (Marked.dropped m) = marks_restored w h k m
  marks_restored (Walk.deleted {p = p} {t = t} {ms = ms} w) h k (Marked.deleted m) =
      let N : ℕ = nonterminal_count ws in
      marks_restored w (ahead_tail h) k m
      ∙ sym (restored_here table N raise kept p 1 t (edit_words (edits ms))
      ∙ (ap (λ l. l ++ result (behind_by 1 p) (edit_words (edits ms))) (words_delete table N raise t refl)
      ∙ ap (λ q. result q (edit_words (edits ms))) (behind_delete p refl)))
  marks_restored (Walk.inserted {p = p} {X = X} {ms = ms} l w) h (All.also x k) (Marked.replaced {w = v} {xs = xs} y m) =
      let N : ℕ = nonterminal_count ws in
      let string : v ≡ spelt table N X = ends_one (RuleOf ws) (insert_cost ws) (plain_words ws) y (known_spelt ws table a rights X x) in
      words_added kept raise v xs
      ∙ (ap₂ (λ u r. raised raise u ++ r) string (marks_restored w h k m)
      ∙ sym (restored_here table N raise kept p 2 X (edit_words (edits ms))
      ∙ (ap (λ l. l ++ result (behind_by 2 p) (edit_words (edits ms))) (words_insert table N raise X (kind_two refl))
      ∙ ap (λ q. raised raise (spelt table N X) ++ result q (edit_words (edits ms))) (behind_insert p (kind_two refl)))))

-- ---- A log without edits is its own result

no_edit : (es : List Edit) → edit_words es ≡ [] → es ≡ []
unfolding edit_words
no_edit [] e = refl
no_edit (x ∷ es) e = absurd (cons≢nil e)

unedited : (kept : List ℕ) (raise : ℕ) {ws : List ℕ} {p : ℕ} {ts : List ℕ} {ms : List Move} {xs : List Mark} → Walk p ts ms
    → Ahead (length kept) p ts → edits ms ≡ [] → MarksOf ws ms xs → map (word_by kept raise) xs ≡ drop p kept
unfolding edits
unedited kept raise {p = p} Walk.over h e Marked.nothing = sym (drop_past p kept (omega (arith, ahead_place h)))
unedited kept raise (Walk.matched {p = p} w) (Ahead.last f) e (Marked.matched {xs = xs} m) =
    let behind : p + 1 ≡ length kept + 1 = omega arith in
    words_end kept raise p xs
    ∙ (unedited kept raise w (Ahead.over behind) e m
    ∙ (drop_past (p + 1) kept (omega arith) ∙ sym (drop_past p kept (omega arith))))
unedited kept raise (Walk.matched {p = p} w) (Ahead.more {t = t} l h) e (Marked.matched {xs = xs} m) =
    let next : p + 1 ≡ suc p = omega arith in
    words_kept kept raise p t xs
    ∙ (ap (λ r. get_or kept p 0 ∷ r) (unedited kept raise w h e m ∙ ap (λ n. drop n kept) next) ∙ sym (drop-cons kept p 0 l))
unedited kept raise (Walk.expanded w) h e (Marked.expanded m) = unedited kept raise w h e m
unedited kept raise (Walk.dropped w) h e (Marked.dropped m) = unedited kept raise w h e m
unedited kept raise (Walk.deleted w) h e (Marked.deleted m) = absurd (cons≢nil e)
unedited kept raise (Walk.inserted l w) h e (Marked.replaced x m) = absurd (cons≢nil e)

pub marks_unedited : (kept : List ℕ) (raise : ℕ) {ws ts : List ℕ} {ms : List Move} {xs : List Mark} → Walk 0 ts ms
    → Ahead (length kept) 0 ts → edit_words (edits ms) ≡ [] → MarksOf ws ms xs → map (word_by kept raise) xs ≡ kept
marks_unedited kept raise {ms = ms} w h e m = unedited kept raise w h (no_edit (edits ms) e) m
