-- The clean cycles of a list of moves are one list: spans in ascending order with the same members are the same list.
use Rattle.std.specs.Prelude.{ℕ, ◌<◌, ◌≡◌, refl}
use Rattle.std.proofs.Common.{sym, ap, ◌∙◌, subst, ⊎_elim, arith}
use mathlib.Core.List.Memᴰ
use mathlib.Core.List.{List, [], ◌∷◌, Memᴰ}
use Rattle.grammar.specs.Moves.{Move}
use Rattle.grammar.specs.Pace.{Span, Ascending, CleanCycles}

-- Each member behind the first closes later,
later : {s u : Span} {ss : List Span} → Ascending (s ∷ ss) → Memᴰ u ss → s.closed < u.closed
later Ascending.only m = absurd (Memᴰ.not-nil m)
later {s = s} {u = u} (Ascending.also {u = v} l a) m =
    ⊎_elim
    (λ e. subst (λ x. s.closed < x.closed) (sym e) l)
    (λ k. let h = later a k in omega arith)
    (Memᴰ.cases_cons m)

-- and they too are ascending.
behind : {s : Span} {ss : List Span} → Ascending (s ∷ ss) → Ascending ss
behind Ascending.only = Ascending.nothing
behind (Ascending.also l a) = a

-- A member that is not the first stands behind it.
not_first : {s u : Span} {ss : List Span} → Memᴰ u (s ∷ ss) → (u ≡ s → ⊥) → Memᴰ u ss
not_first m n = ⊎_elim (λ e. absurd (n e)) (λ k. k) (Memᴰ.cases_cons m)

one_first : {s u : Span} {ss us : List Span} → Ascending (s ∷ ss) → Ascending (u ∷ us) → Memᴰ s (u ∷ us)
    → Memᴰ u (s ∷ ss) → s ≡ u
one_first a b m k =
    ⊎_elim
    (λ e. e)
    (λ i. ⊎_elim (λ e. sym e) (λ j. let f = later b i in let g = later a j in absurd (omega arith)) (Memᴰ.cases_cons k))
    (Memᴰ.cases_cons m)

ascending_unique : (ss us : List Span) → Ascending ss → Ascending us → ((s : Span) → Memᴰ s ss → Memᴰ s us)
    → ((s : Span) → Memᴰ s us → Memᴰ s ss) → ss ≡ us
ascending_unique [] [] a b f g = refl
ascending_unique [] (u ∷ us) a b f g = absurd (Memᴰ.not-nil (g u (Memᴰ.head refl)))
ascending_unique (s ∷ ss) [] a b f g = absurd (Memᴰ.not-nil (f s (Memᴰ.head refl)))
ascending_unique (s ∷ ss) (u ∷ us) a b f g =
    let e : s ≡ u = one_first a b (f s (Memᴰ.head refl)) (g u (Memᴰ.head refl)) in
    let rest : ss ≡ us =
    ascending_unique ss us (behind a) (behind b)
    (λ x m. not_first (f x (Memᴰ.tail m)) (λ h. absurd (apart (later a m) (h ∙ sym e))))
    (λ x m. not_first (g x (Memᴰ.tail m)) (λ h. absurd (apart (later b m) (h ∙ e)))) in
    cc
  where
    apart : {x y : Span} → y.closed < x.closed → x ≡ y → ⊥
    apart {x} {y} l h = omega (arith, ap (λ (z : Span). z.closed) h)

-- The clean cycles are one list.
pub clean_cycles_unique : {o c m : ℕ} {ms : List Move} {cs ds : List Span} → CleanCycles o c m ms cs → CleanCycles o c m ms ds → cs ≡ ds
clean_cycles_unique {cs = cs} {ds = ds} x y =
    ascending_unique cs ds x.ascending y.ascending
    (λ s i. y.every s (x.only s i))
    (λ s i. x.every s (y.only s i))
