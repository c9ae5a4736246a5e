-- The clean cycles of a list of moves, by trying each pair of kept places. Where they come out in order, they are exactly
-- document 01's.
use Rattle.std.specs.Prelude.{ℕ, ◌<◌, ◌≡◌, refl, Bool, true, false, ◌&&◌, ◌||◌, not, cond, ◌⊎◌, T, leb, ltb, eqb}
use Rattle.std.proofs.Common.{sym, ap, ◌∙◌, subst, inl, inr, ⊎_elim, arith, ltb→lt, eqb→eq, T_not}
use mathlib.Core.List.Memᴰ
use mathlib.Core.List.{
  List,
  [],
  ◌∷◌,
  ◌++◌,
  Memᴰ,
}
use Rattle.std.proofs.Math.Dec.{not_T}
use Rattle.grammar.specs.Moves.{Move, Edit, edits}
use Rattle.grammar.specs.Pace.{Kept, Span, Cycle, Clean, Ascending, CleanCycles}
use Rattle.grammar.specs.Model.Tests.{both, left_of, right_of_lem, one_of, or_left, or_right, equal_passes, every, every_all, all_every}
use Rattle.grammar.specs.Theory.Members.{all_at, all_by}
use Rattle.grammar.specs.Model.Reflects.{Reflects, le_test, lt_test, and_test, iff_test}

-- ---- Kept tokens and edits

-- The places of the kept tokens.
unfoldable pub kept_places : List Move → List ℕ
kept_places [] = []
kept_places (Move.match p t ∷ ms) = p ∷ kept_places ms
kept_places (Move.expand q ∷ ms) = kept_places ms
kept_places (Move.drop X ∷ ms) = kept_places ms
kept_places (Move.delete p t ∷ ms) = kept_places ms
kept_places (Move.insert p X ∷ ms) = kept_places ms

unfoldable pub is_kept : List Move → ℕ → ℕ → Bool
is_kept [] p t = false
is_kept (Move.match q u ∷ ms) p t = (eqb p q && eqb t u) || is_kept ms p t
is_kept (Move.expand q ∷ ms) p t = is_kept ms p t
is_kept (Move.drop X ∷ ms) p t = is_kept ms p t
is_kept (Move.delete q u ∷ ms) p t = is_kept ms p t
is_kept (Move.insert q X ∷ ms) p t = is_kept ms p t

kept_says : (ms : List Move) (p t : ℕ) → T (is_kept ms p t) → Kept ms p t
unfolding is_kept
kept_says (Move.match q u ∷ ms) p t h =
    ⊎_elim
    (λ k.
    let e = eqb→eq p q (left_of (eqb p q) (eqb t u) k) in
    let d = eqb→eq t u (right_of_lem (eqb p q) (eqb t u) k) in
    Memᴰ.head (ap (λ x. Move.match x t) e ∙ ap (Move.match q) d))
    (λ k. Memᴰ.tail (kept_says ms p t k))
    (one_of (eqb p q && eqb t u) (is_kept ms p t) h)
kept_says (Move.expand q ∷ ms) p t h = Memᴰ.tail (kept_says ms p t h)
kept_says (Move.drop X ∷ ms) p t h = Memᴰ.tail (kept_says ms p t h)
kept_says (Move.delete q u ∷ ms) p t h = Memᴰ.tail (kept_says ms p t h)
kept_says (Move.insert q X ∷ ms) p t h = Memᴰ.tail (kept_says ms p t h)
kept_says [] p t h = elim h [ ]

-- A match in front or behind.
other : {A : Type 0} {p t : ℕ} {x : Move} {ms : List Move} → (Move.match p t ≡ x → ⊥) → (Kept ms p t → A) → Kept (x ∷ ms) p t → A
other n f k = ⊎_elim (λ e. absurd (n e)) f (Memᴰ.cases_cons k)

says_kept : (ms : List Move) (p t : ℕ) → Kept ms p t → T (is_kept ms p t)
unfolding is_kept
says_kept [] p t k = absurd (Memᴰ.not-nil k)
says_kept (Move.match q u ∷ ms) p t k =
    ⊎_elim
    (λ e.
    let a : p ≡ q = cc in
    let b : t ≡ u = cc in
    or_left (eqb p q && eqb t u) (is_kept ms p t) (both (eqb p q) (eqb t u) (equal_passes p q a) (equal_passes t u b)))
    (λ i. or_right (eqb p q && eqb t u) (is_kept ms p t) (says_kept ms p t i))
    (Memᴰ.cases_cons k)
says_kept (Move.expand q ∷ ms) p t k = other (λ e. let z : ◌≡◌ {A = ℕ} 0 1 = cc in omega arith) (says_kept ms p t) k
says_kept (Move.drop X ∷ ms) p t k = other (λ e. let z : ◌≡◌ {A = ℕ} 0 1 = cc in omega arith) (says_kept ms p t) k
says_kept (Move.delete q u ∷ ms) p t k = other (λ e. let z : ◌≡◌ {A = ℕ} 0 1 = cc in omega arith) (says_kept ms p t) k
says_kept (Move.insert q X ∷ ms) p t k = other (λ e. let z : ◌≡◌ {A = ℕ} 0 1 = cc in omega arith) (says_kept ms p t) k

pub kept_test : (ms : List Move) (p t : ℕ) → Reflects (is_kept ms p t) (Kept ms p t)
kept_test ms p t = record { says = kept_says ms p t; said = says_kept ms p t }

kept_place : (ms : List Move) (p t : ℕ) → Kept ms p t → Memᴰ p (kept_places ms)
unfolding kept_places
kept_place [] p t k = absurd (Memᴰ.not-nil k)
kept_place (Move.match q u ∷ ms) p t k =
    ⊎_elim (λ e. Memᴰ.head cc) (λ i. Memᴰ.tail (kept_place ms p t i)) (Memᴰ.cases_cons k)
kept_place (Move.expand q ∷ ms) p t k = other (λ e. let z : ◌≡◌ {A = ℕ} 0 1 = cc in omega arith) (kept_place ms p t) k
kept_place (Move.drop X ∷ ms) p t k = other (λ e. let z : ◌≡◌ {A = ℕ} 0 1 = cc in omega arith) (kept_place ms p t) k
kept_place (Move.delete q u ∷ ms) p t k = other (λ e. let z : ◌≡◌ {A = ℕ} 0 1 = cc in omega arith) (kept_place ms p t) k
kept_place (Move.insert q X ∷ ms) p t k = other (λ e. let z : ◌≡◌ {A = ℕ} 0 1 = cc in omega arith) (kept_place ms p t) k

-- The places of the edits.
unfoldable pub edit_places : List Edit → List ℕ
edit_places [] = []
edit_places (e ∷ es) = e.place ∷ edit_places es

edit_place : {k p X : ℕ} (es : List Edit) → Memᴰ (record { kind = k; place = p; symbol = X }) es → Memᴰ p (edit_places es)
unfolding edit_places
edit_place [] m = absurd (Memᴰ.not-nil m)
edit_place (e ∷ es) m =
    ⊎_elim (λ q. Memᴰ.head (ap (λ d. d.place) q)) (λ i. Memᴰ.tail (edit_place es i)) (Memᴰ.cases_cons m)

place_edit : (es : List Edit) (p : ℕ) → Memᴰ p (edit_places es) → (k X : ℕ) × Memᴰ (record { kind = k; place = p; symbol = X }) es
unfolding edit_places
place_edit [] p m = absurd (Memᴰ.not-nil m)
place_edit (e ∷ es) p m =
    ⊎_elim
    (λ q. (e.kind, e.symbol, Memᴰ.head (ap (λ x. record { kind = e.kind; place = x; symbol = e.symbol }) q)))
    (λ i. let h = place_edit es p i in (h.0, h.1, Memᴰ.tail h.2))
    (Memᴰ.cases_cons m)

-- ---- Clean cycles

-- No member of the list passes f.
unfoldable pub none_of : (ℕ → Bool) → List ℕ → Bool
unfolding every
none_of f l = every (λ p. not (f p)) l

none_test : {f : ℕ → Bool} {P : ℕ → Type 0} (l : List ℕ) → ((p : ℕ) → Reflects (f p) (P p))
    → Reflects (none_of f l) ((p : ℕ) → Memᴰ p l → P p → ⊥)
unfolding none_of
none_test {f} l r =
    record {
      says = λ h p m k. T_not (f p) (all_at (every_all (λ q. not (f q)) l h) m) ((r p).said k);
      said = λ h. all_every (λ q. not (f q)) (all_by l (λ p m. not_T (f p) (λ k. h p m ((r p).says k))));
    }

-- Mark t is kept strictly between a and b.
unfoldable pub is_between : List Move → ℕ → ℕ → ℕ → ℕ → Bool
unfolding is_kept
is_between ms t a b p = (ltb a p && ltb p b) && is_kept ms p t

unfoldable pub is_cycle : ℕ → ℕ → List Move → ℕ → ℕ → Bool
unfolding is_kept none_of is_between kept_places
is_cycle o c ms a b =
    ((leb 1 o && ltb a b) && (is_kept ms a o && is_kept ms b c))
    && (none_of (is_between ms o a b) (kept_places ms) && none_of (is_between ms c a b) (kept_places ms))

unfoldable pub is_clean : ℕ → ℕ → ℕ → List Move → ℕ → ℕ → Bool
unfolding is_cycle is_between none_of edit_places kept_places edits
is_clean o c m ms a b =
    (is_cycle o c ms a b && none_of (λ p. ltb a p && leb p b) (edit_places (edits ms)))
    && none_of (λ p. leb 1 m && is_between ms m a b p) (kept_places ms)

between_test : (ms : List Move) (t a b p : ℕ) → Reflects (is_between ms t a b p) (((a < p) × (p < b)) × Kept ms p t)
unfolding is_between
between_test ms t a b p = and_test (and_test (lt_test a p) (lt_test p b)) (kept_test ms p t)

pub cycle_test : (o c : ℕ) (ms : List Move) (s : Span) → Reflects (is_cycle o c ms s.opened s.closed) (Cycle o c ms s)
unfolding is_cycle
cycle_test o c ms s =
    let a = s.opened in
    let b = s.closed in
    iff_test
    (and_test (and_test (and_test (le_test 1 o) (lt_test a b)) (and_test (kept_test ms a o) (kept_test ms b c)))
    (and_test (none_test (kept_places ms) (between_test ms o a b)) (none_test (kept_places ms) (between_test ms c a b))))
    (λ h.
    record {
      marked = h.0.0.0;
      ordered = h.0.0.1;
      opens = h.0.1.0;
      closes = h.0.1.1;
      no_opening = λ p l m k. h.1.0 p (kept_place ms p o k) ((l, m), k);
      no_closing = λ p l m k. h.1.1 p (kept_place ms p c k) ((l, m), k);
    })
    (λ y. (
      ((y.marked, y.ordered), (y.opens, y.closes)),
      ((λ p m k. y.no_opening p k.0.0 k.0.1 k.1), (λ p m k. y.no_closing p k.0.0 k.0.1 k.1)),
    ))

pub clean_test : (o c m : ℕ) (ms : List Move) (s : Span) → Reflects (is_clean o c m ms s.opened s.closed) (Clean o c m ms s)
unfolding is_clean
clean_test o c m ms s =
    let a = s.opened in
    let b = s.closed in
    iff_test
    (and_test
    (and_test (cycle_test o c ms s) (none_test (edit_places (edits ms)) (λ p. and_test (lt_test a p) (le_test p b))))
    (none_test (kept_places ms) (λ p. and_test (le_test 1 m) (between_test ms m a b p))))
    (λ h.
    record {
      cycle = h.0.0;
      unedited = λ p l n k. h.0.1 p (edit_place (edits ms) k.2) (l, n);
      no_restart = λ some p l n k. h.1 p (kept_place ms p m k) (some, ((l, n), k));
    })
    (λ y. (
      (y.cycle, λ p i k. y.unedited p k.0 k.1 (place_edit (edits ms) p i)),
      λ p i k. y.no_restart k.0 p k.1.0.0 k.1.0.1 k.1.1,
    ))

-- The pairs of places, those that close first coming first.
unfoldable pub pairs_to : List ℕ → ℕ → List Span
pairs_to [] b = []
pairs_to (a ∷ ps) b = record { opened = a; closed = b } ∷ pairs_to ps b

unfoldable pub pairs : List ℕ → List ℕ → List Span
unfolding pairs_to
pairs ps [] = []
pairs ps (b ∷ qs) = pairs_to ps b ++ pairs ps qs

pair_to : {a : ℕ} {ps : List ℕ} (b : ℕ) → Memᴰ a ps → Memᴰ (record { opened = a; closed = b }) (pairs_to ps b)
unfolding pairs_to
pair_to b (Memᴰ.head e) = Memᴰ.head (ap (λ x. record { opened = x; closed = b }) e)
pair_to b (Memᴰ.tail m) = Memᴰ.tail (pair_to b m)

pair : (ps : List ℕ) {a b : ℕ} {qs : List ℕ} → Memᴰ a ps → Memᴰ b qs → Memᴰ (record { opened = a; closed = b }) (pairs ps qs)
unfolding pairs
pair ps {a = a} m (Memᴰ.head {x = b} {xs = qs} e) =
    Memᴰ.append_left (pairs ps qs) (Memᴰ.cast (ap (λ x. record { opened = a; closed = x }) e) (pair_to b m))
pair ps m (Memᴰ.tail {x = b} n) = Memᴰ.append_right (pairs_to ps b) (pair ps m n)

-- The pairs that pass.
unfoldable pub sift : (Span → Bool) → List Span → List Span
sift f [] = []
sift f (s ∷ ss) = cond (f s) (s ∷ sift f ss) (sift f ss)

sift_in : (f : Span → Bool) (ss : List Span) (s : Span) → Memᴰ s ss → T (f s) → Memᴰ s (sift f ss)
unfolding sift
sift_in f [] s m h = absurd (Memᴰ.not-nil m)
sift_in f (u ∷ ss) s m h = go (f u) refl (⊎_elim inl (λ i. inr (sift_in f ss s i h)) (Memᴰ.cases_cons m))
  where
    go : (b : Bool) → f u ≡ b → (s ≡ u) ⊎ Memᴰ s (sift f ss) → Memᴰ s (cond b (u ∷ sift f ss) (sift f ss))
    go true q (inl e) = Memᴰ.head e
    go true q (inr i) = Memᴰ.tail i
    go false q (inl e) = absurd (subst T (ap f e ∙ q) h)
    go false q (inr i) = i

sift_out : (f : Span → Bool) (ss : List Span) (s : Span) → Memᴰ s (sift f ss) → T (f s)
unfolding sift
sift_out f [] s m = absurd (Memᴰ.not-nil m)
sift_out f (u ∷ ss) s m = go (f u) refl m (sift_out f ss s)
  where
    go : (b : Bool) → f u ≡ b → Memᴰ s (cond b (u ∷ sift f ss) (sift f ss)) → (Memᴰ s (sift f ss) → T (f s)) → T (f s)
    go true q m k = ⊎_elim (λ e. subst T (sym (ap f e ∙ q)) tt) k (Memᴰ.cases_cons m)
    go false q m k = k m

unfoldable pub cycles_of : ℕ → ℕ → ℕ → List Move → List Span
unfolding sift is_clean pairs kept_places
cycles_of o c m ms = sift (λ s. is_clean o c m ms s.opened s.closed) (pairs (kept_places ms) (kept_places ms))

unfoldable pub is_ascending : List Span → Bool
is_ascending [] = true
is_ascending (s ∷ []) = true
is_ascending (s ∷ u ∷ ss) = ltb s.closed u.closed && is_ascending (u ∷ ss)

ascending : (ss : List Span) → T (is_ascending ss) → Ascending ss
unfolding is_ascending
ascending [] h = Ascending.nothing
ascending (s ∷ []) h = Ascending.only
ascending (s ∷ u ∷ ss) h =
    Ascending.also (ltb→lt s.closed u.closed (left_of (ltb s.closed u.closed) (is_ascending (u ∷ ss)) h))
    (ascending (u ∷ ss) (right_of_lem (ltb s.closed u.closed) (is_ascending (u ∷ ss)) h))

-- Where they come out in order, they are the clean cycles.
pub clean_cycles : (o c m : ℕ) (ms : List Move) → T (is_ascending (cycles_of o c m ms)) → CleanCycles o c m ms (cycles_of o c m ms)
unfolding cycles_of
clean_cycles o c m ms h =
    record {
      ascending = ascending (cycles_of o c m ms) h;
      every = λ s y.
          sift_in (λ u. is_clean o c m ms u.opened u.closed) (pairs (kept_places ms) (kept_places ms)) s
          (pair (kept_places ms) (kept_place ms s.opened o y.cycle.opens) (kept_place ms s.closed c y.cycle.closes))
          ((clean_test o c m ms s).said y);
      only = λ s i. (clean_test o c m ms s).says (sift_out (λ u. is_clean o c m ms u.opened u.closed) (pairs (kept_places ms)
          (kept_places ms)) s i);
    }
