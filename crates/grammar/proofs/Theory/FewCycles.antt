-- How many clean cycles a report can tell of, and how long they can take: request (ix) of 02 leans on it.
use Rattle.std.specs.Prelude.{ℕ, ◌+◌, ◌-◌, ◌*◌, ◌≤◌, ◌<◌, ◌≡◌, refl, length, get_or}
use Rattle.std.proofs.Math.Logic.{dite}
use Rattle.std.proofs.Common.{ap, ◌∙◌, arith, length-append}
use mathlib.Core.List.{List, [], ◌∷◌, ◌++◌, Memᴰ}
use Rattle.std.proofs.Math.Option.{none}
use Rattle.std.proofs.Math.Decide.{dec_lt}
use Rattle.std.proofs.Math.Seq.{get_or-append_seam}
use Rattle.grammar.specs.Words.{END, Marks, opening, closing, restart_mark}
use Rattle.grammar.specs.Moves.{Move}
use Rattle.grammar.specs.Run.{RunOf}
use Rattle.grammar.specs.Pace.{Span, Clean, Ascending, wrapped, cycle_ms, total_ms}
use Rattle.grammar.specs.declared.Report.{Report}
use Rattle.grammar.specs.Theory.Answered.{Admitted}
use Rattle.grammar.proofs.Theory.Places.{walk_run, kept_token}
use Rattle.grammar.specs.Theory.Told.{Told}
use Rattle.grammar.proofs.Theory.Told.{told_count, told_sum}

-- ---- How many

-- A closing mark is there where an opening mark is.
closing_marked : {T o c : ℕ} → Marks T o c → 1 ≤ o → 1 ≤ c
closing_marked (Marks.marked a b d e) l = d
closing_marked (Marks.unmarked a b) l = absurd (omega arith)

-- END is no mark, so no cycle closes there.
pub closes_within : {ws log : List ℕ} {edit_room rule_room : ℕ} {ms : List Move} → Admitted ws log → RunOf ws log edit_room rule_room ms none
    → (s : Span) → Clean (opening ws) (closing ws) (restart_mark ws) ms s → s.closed < length log
closes_within {ws} {log} admitted run s y =
    let mark = closing_marked admitted.words.shaped.marks y.cycle.marked in
    let h = kept_token (walk_run log run) y.cycle.closes in
    dite (dec_lt s.closed (length log))
    (λ l. l)
    (λ l.
    let last : h.behind ≡ length log = omega (arith, h.place, h.within, length-append log (END ∷ [])) in
    let none : closing ws ≡ END =
    h.token ∙ (ap (λ (i : ℕ). get_or (log ++ (END ∷ [])) i END) last ∙ get_or-append_seam log END [] END) in
    absurd (omega arith))

ascending_few : (n : ℕ) (s : Span) (ss : List Span) → Ascending (s ∷ ss) → ((u : Span) → Memᴰ u (s ∷ ss) → u.closed < n)
    → length (s ∷ ss) + s.closed ≤ n
ascending_few n s [] a l = let h = l s (Memᴰ.head refl) in omega arith
ascending_few n s (u ∷ ss) (Ascending.also h a) l =
    let rest = ascending_few n u ss a (λ v m. l v (Memᴰ.tail m)) in
    omega arith

-- Spans that close one behind another, between the first place and the n-th, are fewer than n.
spans_few : (n : ℕ) (ss : List Span) → Ascending ss → ((u : Span) → Memᴰ u ss → u.closed < n)
    → ((u : Span) → Memᴰ u ss → u.opened < u.closed) → length ss ≤ n - 1
spans_few n [] a l k = omega arith
spans_few n (s ∷ ss) a l k =
    let first = k s (Memᴰ.head refl) in
    let all = ascending_few n s ss a l in
    omega arith

-- ---- How long

-- A time is below 2^32 ms.
pub time_most : (a b : ℕ) → wrapped a b ≤ 4294967295
unfolding wrapped
time_most a b = omega arith

total_most : (ticks : List ℕ) (ss : List Span) → total_ms ticks ss ≤ 4294967295 * length ss
unfolding total_ms cycle_ms
total_most ticks [] = omega arith
total_most ticks (s ∷ ss) =
    omega (arith, total_most ticks ss, time_most (get_or ticks s.opened 0) (get_or ticks s.closed 0))

-- ---- Of a report

module _ {ws log ticks : List ℕ} {edit_room rule_room : ℕ} {report : Report} (t : Told ws log ticks edit_room rule_room report) where
  pub told_few : report.count ≤ length log - 1
  told_few =
      let few =
      spans_few (length log) t.cycles t.clean.ascending
      (λ s m. closes_within t.admits t.run s (t.clean.only s m))
      (λ s m. (t.clean.only s m).cycle.ordered) in
      omega (arith, told_count t)

  -- A log has at most 4,096 tokens.
  pub told_4095 : report.count ≤ 4095
  told_4095 = omega (arith, told_few, t.admits.fits.count)

  pub told_most : report.sum ≤ 4294967295 * report.count
  told_most = omega (arith, told_count t, told_sum t, total_most ticks t.cycles)
