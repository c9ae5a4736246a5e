-- The clean cycles found before a place, and those that one place more gives: none, or the one that closes there.
use Rattle.std.specs.Prelude.{◌≡◌, ℕ, ◌+◌, ◌<◌, ◌⊎◌, List, [], ◌∷◌, ◌++◌, length, ◌≢◌, refl}
use Rattle.std.proofs.Common.{sym, ap, subst, inl, inr, ⊎_elim, arith, length-append}
use mathlib.Core.List.Memᴰ
use mathlib.Core.List.{Memᴰ}
use Rattle.grammar.specs.Moves.{Move}
use Rattle.grammar.specs.Pace.{Span, Clean, Ascending, cycle_ms, total_ms}
use Rattle.pace.specs.Order.{below_or_not}

-- The clean cycles that close before b, their number and the sum of their times.
pub record Found (o c m : ℕ) (ticks : List ℕ) (ms : List Move) (b count sum : ℕ) : Type 0 where
  pub cycles : List Span
  pub ascending : Ascending cycles
  pub every : (s : Span) → Clean o c m ms s → s.closed < b → Memᴰ s cycles
  pub only : (s : Span) → Memᴰ s cycles → Clean o c m ms s
  pub before : (s : Span) → Memᴰ s cycles → s.closed < b
  pub counts : count ≡ length cycles
  pub sums : sum ≡ total_ms ticks cycles

-- ---- One span more

ascending_more : (ss : List Span) (u : Span) → Ascending ss → ((s : Span) → Memᴰ s ss → s.closed < u.closed)
    → Ascending (ss ++ (u ∷ []))
ascending_more [] u a l = Ascending.only
ascending_more (s ∷ []) u a l = Ascending.also (l s (Memᴰ.head refl)) Ascending.only
ascending_more (s ∷ v ∷ ss) u (Ascending.also h a) l =
    Ascending.also h (ascending_more (v ∷ ss) u a (λ z m. l z (Memᴰ.tail m)))

total_more : (ticks : List ℕ) (ss : List Span) (u : Span)
    → total_ms ticks (ss ++ (u ∷ [])) ≡ total_ms ticks ss + cycle_ms ticks u
unfolding total_ms
total_more ticks [] u = omega arith
total_more ticks (s ∷ ss) u = omega (arith, total_more ticks ss u)

last_member : {s u : Span} (ss : List Span) → Memᴰ s (ss ++ (u ∷ [])) → Memᴰ s ss ⊎ (s ≡ u)
last_member ss m =
    ⊎_elim
    inl
    (λ k. ⊎_elim inr (λ n. absurd (Memᴰ.not-nil n)) (Memᴰ.cases_cons k))
    (Memᴰ.append_cases ss m)

-- ---- One place more

module _ (o c m : ℕ) (ticks : List ℕ) (ms : List Move) where
  -- Before the first place there is none.
  pub found_start : Found o c m ticks ms 0 0 0
  unfolding total_ms
  found_start =
      record {
        cycles = [];
        ascending = Ascending.nothing;
        every = λ s k l. absurd (omega arith);
        only = λ s m. absurd (Memᴰ.not-nil m);
        before = λ s m. absurd (Memᴰ.not-nil m);
        counts = refl;
        sums = refl;
      }

  -- Where no clean cycle closes at b, none more is found.
  pub found_none : (b : ℕ) {count sum : ℕ} → ((s : Span) → Clean o c m ms s → s.closed ≢ b) → Found o c m ticks ms b count sum
      → Found o c m ticks ms (b + 1) count sum
  found_none b n f =
      record {
        cycles = f.cycles;
        ascending = f.ascending;
        every = λ s k l.
            ⊎_elim
            (λ h. f.every s k h)
            (λ h. let e : s.closed ≡ b = omega arith in absurd (n s k e))
            (below_or_not s.closed b);
        only = f.only;
        before = λ s m. let l = f.before s m in omega arith;
        counts = f.counts;
        sums = f.sums;
      }

  -- The clean cycle that closes at b is found.
  pub found_one : (b : ℕ) {count sum : ℕ} (u : Span) → u.closed ≡ b → Clean o c m ms u
      → ((s : Span) → Clean o c m ms s → s.closed ≡ b → s ≡ u) → Found o c m ticks ms b count sum
      → Found o c m ticks ms (b + 1) (count + 1) (sum + cycle_ms ticks u)
  found_one b u e k one f =
      record {
        cycles = f.cycles ++ (u ∷ []);
        ascending = ascending_more f.cycles u f.ascending (λ s m. let l = f.before s m in omega arith);
        every = λ s y l.
            ⊎_elim
            (λ h. Memᴰ.append_left (u ∷ []) (f.every s y h))
            (λ h. let d : s.closed ≡ b = omega arith in Memᴰ.append_right f.cycles (Memᴰ.head (one s y d)))
            (below_or_not s.closed b);
        only = λ s h.
            ⊎_elim
            (λ i. f.only s i)
            (λ d. subst (λ (z : Span). Clean o c m ms z) (sym d) k)
            (last_member f.cycles h);
        before = λ s m.
            ⊎_elim
            (λ i. let l = f.before s i in omega arith)
            (λ d. let h : s.closed ≡ u.closed = ap (λ (z : Span). z.closed) d in omega arith)
            (last_member f.cycles m);
        counts = omega (arith, f.counts, length-append f.cycles (u ∷ []));
        sums = omega (arith, f.sums, total_more ticks f.cycles u);
      }
