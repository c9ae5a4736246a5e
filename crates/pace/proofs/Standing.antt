-- That each place keeps what a watch knows: what spoils there, then its closing mark, then its opening mark.
use Rattle.std.specs.Prelude.{◌≡◌, ℕ, ◌+◌, ◌<◌, ◌≤◌, Bool, true, false, cond, List, slice_index, Option, Some, None}
use Rattle.std.proofs.Math.Path.{refl, ap, subst}
use Rattle.std.proofs.Common.{sym, ◌∙◌, arith}
use Rattle.std.proofs.Math.Logic.{⊎_elim}
use Rattle.base.specs.Telling.{Tells}
use Rattle.grammar.specs.Moves.{Move}
use Rattle.grammar.specs.Pace.{Kept, Span, Clean, wrapped, cycle_ms}
use Rattle.pace.specs.Found.{Found, found_start, found_none, found_one}
use Rattle.pace.specs.Order.{below_or_not, below_next}
use Rattle.pace.specs.Few.{none_some}
use Rattle.pace.specs.Watch.{spoiled_by, counted, closed_by, opened_by, step_by}
use Rattle.pace.specs.declared.Watch.{Watch}
use Rattle.pace.specs.Standing.{Spoils, OpenAt, Standing}

-- ---- The stages

module _ (o c m : ℕ) (ticks : List ℕ) (ms : List Move) (apart : 1 ≤ m → (p : ℕ) → Kept ms p c → Kept ms p m → ⊥) where
  -- Nothing is found before the first place.
  pub standing_start : Standing o c m ticks ms 0 0 0 0 (record { since = None; count = 0; sum = 0 })
  standing_start =
      record {
        found = found_start o c m ticks ms;
        begun = λ t e. absurd (none_some e);
        idle = λ e a h. omega (arith, h.earlier);
      }

  module _ (b : ℕ) where
    -- First what spoils the open cycle at b.
    stage_spoils : (spoils : Bool) (w : Watch) → Tells (Spoils m ms b) spoils → Standing o c m ticks ms b b b b w
        → Standing o c m ticks ms b b b (b + 1) (cond spoils (spoiled_by w) w)
    unfolding spoiled_by
    stage_spoils true w t s =
        record {
          found = s.found;
          begun = λ t e. absurd (none_some e);
          idle = λ e a h. h.unspoiled b h.earlier (omega arith) (t.yes refl);
        }
    stage_spoils false w t s =
        record {
          found = s.found;
          begun = λ u e.
              let h = s.begun u e in
              let k = h.1 in (
                h.0,
                record {
                  marked = k.marked;
                  earlier = k.earlier;
                  opens = k.opens;
                  no_opening = k.no_opening;
                  no_closing = k.no_closing;
                  unspoiled = λ p l i. below_next (λ q. Spoils m ms q → ⊥) p b i (λ n. k.unspoiled p l n) (t.no refl);
                },
                h.2,
              );
          idle = λ e a k.
              s.idle e a
              (record {
                marked = k.marked;
                earlier = k.earlier;
                opens = k.opens;
                no_opening = k.no_opening;
                no_closing = k.no_closing;
                unspoiled = λ p l i. k.unspoiled p l (omega arith);
              });
        }

    -- What is open before b, with no edit up to b, and a closing mark kept at b are a clean cycle; and so the other way.
    open_clean : (a : ℕ) → OpenAt o c m ms b b (b + 1) a → Kept ms b c → Clean o c m ms (record { opened = a; closed = b })
    open_clean a h k =
        record {
          cycle =
              record {
                marked = h.marked;
                ordered = h.earlier;
                opens = h.opens;
                closes = k;
                no_opening = h.no_opening;
                no_closing = h.no_closing;
              };
          unedited = λ p l i d. h.unspoiled p l (omega arith) (Spoils.edited d);
          no_restart = λ some p l i k. h.unspoiled p l (omega arith) (Spoils.restarted some k);
        }

    -- (The restart mark is not the closing mark, so that none stands at b.)
    clean_open : (s : Span) → Clean o c m ms s → s.closed ≡ b → OpenAt o c m ms b b (b + 1) s.opened
    clean_open s y e =
        record {
          marked = y.cycle.marked;
          earlier = omega (arith, y.cycle.ordered);
          opens = y.cycle.opens;
          no_opening = λ p l m. y.cycle.no_opening p l (omega arith);
          no_closing = λ p l m. y.cycle.no_closing p l (omega arith);
          unspoiled = λ p l i. clean_unspoiled p l (omega arith);
        }
      where
        clean_unspoiled : (p : ℕ) → s.opened < p → p ≤ s.closed → Spoils m ms p → ⊥
        clean_unspoiled p l i (Spoils.edited d) = y.unedited p l i d
        clean_unspoiled p l i (Spoils.restarted some k) =
            ⊎_elim
            (λ below. y.no_restart some p l below k)
            (λ over.
            let here : p ≡ s.closed = omega arith in
            apart some s.closed y.cycle.closes (subst (λ q. Kept ms q m) here k))
            (below_or_not p s.closed)

    -- One place only is open.
    open_one : (a d : ℕ) → OpenAt o c m ms b b (b + 1) a → OpenAt o c m ms b b (b + 1) d → a ≡ d
    open_one a d h k =
        ⊎_elim
        (λ l. absurd (h.no_opening d l k.earlier k.opens))
        (λ l.
        ⊎_elim
        (λ m. absurd (k.no_opening a m h.earlier h.opens))
        (λ m. omega arith)
        (below_or_not d a))
        (below_or_not a d)

    -- Then the closing mark: it counts the open cycle, and ends it.
    close_begun : (tick since : ℕ) (w : Watch) → tick ≡ slice_index ticks b → Kept ms b c → w.since ≡ Some since
        → Standing o c m ticks ms b b b (b + 1) w
        → Found o c m ticks ms (b + 1) (w.count + 1) (w.sum + wrapped since tick)
    unfolding cycle_ms
    close_begun tick since w t k e s =
        let h = s.begun since e in
        let u : Span = record { opened = h.0; closed = b } in
        let from = h.2 in
        let time : wrapped (slice_index ticks h.0) (slice_index ticks b) ≡ wrapped since tick = cc in
        subst (λ (z : ℕ). Found o c m ticks ms (b + 1) (w.count + 1) (w.sum + z)) time
        (found_one o c m ticks ms b u refl (open_clean h.0 h.1 k)
        (λ v y d.
        let same : v.opened ≡ h.0 = open_one v.opened h.0 (clean_open v y d) h.1 in
        ap (λ (z : ℕ). record { opened = z; closed = v.closed }) same ∙ ap (λ (z : ℕ). record { opened = h.0; closed = z }) d)
        s.found)

    -- Nothing is open at b once a closing mark is kept there.
    ended : Kept ms b c → (a : ℕ) → OpenAt o c m ms b (b + 1) (b + 1) a → ⊥
    ended k a h = h.no_closing b h.earlier (omega arith) k

    stage_close : (tick : ℕ) (w : Watch) → tick ≡ slice_index ticks b → Kept ms b c → Standing o c m ticks ms b b b (b + 1) w
        → Standing o c m ticks ms (b + 1) b (b + 1) (b + 1) (closed_by tick w)
    unfolding closed_by
    stage_close tick w t k s = go w.since refl
      where
        go : (q : Option ℕ) → w.since ≡ q → Standing o c m ticks ms (b + 1) b (b + 1) (b + 1) (counted q tick w)
        go (Some since) e =
            record {
              found = close_begun tick since w t k e s;
              begun = λ t f. absurd (none_some f);
              idle = λ f. ended k;
            }
        go None e =
            record {
              found = found_none o c m ticks ms b (λ v y d. s.idle e v.opened (clean_open v y d)) s.found;
              begun = λ t f. absurd (none_some (sym e ∙ f));
              idle = λ f. ended k;
            }

    stage_closing : (closes : Bool) (tick : ℕ) (w : Watch) → tick ≡ slice_index ticks b → Tells (Kept ms b c) closes
        → Standing o c m ticks ms b b b (b + 1) w
        → Standing o c m ticks ms (b + 1) b (b + 1) (b + 1) (cond closes (closed_by tick w) w)
    stage_closing true tick w t k s = stage_close tick w t (k.yes refl) s
    stage_closing false tick w t n s =
        record {
          found = found_none o c m ticks ms b (λ v y d. n.no refl (subst (λ q. Kept ms q c) d y.cycle.closes)) s.found;
          begun = λ t e.
              let h = s.begun t e in
              let k = h.1 in (
                h.0,
                record {
                  marked = k.marked;
                  earlier = k.earlier;
                  opens = k.opens;
                  no_opening = k.no_opening;
                  no_closing = λ p l m. below_next (λ q. Kept ms q c → ⊥) p b m (λ i. k.no_closing p l i) (n.no refl);
                  unspoiled = k.unspoiled;
                },
                h.2,
              );
          idle = λ e a k.
              s.idle e a
              (record {
                marked = k.marked;
                earlier = k.earlier;
                opens = k.opens;
                no_opening = k.no_opening;
                no_closing = λ p l m. k.no_closing p l (omega arith);
                unspoiled = k.unspoiled;
              });
        }

    -- Last the opening mark: a cycle is open from b on. An edit at b was before it.
    opened_here : 1 ≤ o → Kept ms b o → OpenAt o c m ms (b + 1) (b + 1) (b + 1) b
    opened_here l k =
        record {
          marked = l;
          earlier = omega arith;
          opens = k;
          no_opening = λ p h m. absurd (omega arith);
          no_closing = λ p h m. absurd (omega arith);
          unspoiled = λ p h i. absurd (omega arith);
        }

    -- Without one, what was open stays open.
    open_still : (a : ℕ) → (Kept ms b o → ⊥) → OpenAt o c m ms b (b + 1) (b + 1) a → OpenAt o c m ms (b + 1) (b + 1) (b + 1) a
    open_still a n k =
        record {
          marked = k.marked;
          earlier = omega (arith, k.earlier);
          opens = k.opens;
          no_opening = λ p l m. below_next (λ q. Kept ms q o → ⊥) p b m (λ i. k.no_opening p l i) n;
          no_closing = k.no_closing;
          unspoiled = k.unspoiled;
        }

    open_before : (a : ℕ) → a < b → OpenAt o c m ms (b + 1) (b + 1) (b + 1) a → OpenAt o c m ms b (b + 1) (b + 1) a
    open_before a l k =
        record {
          marked = k.marked;
          earlier = l;
          opens = k.opens;
          no_opening = λ p h m. k.no_opening p h (omega arith);
          no_closing = k.no_closing;
          unspoiled = k.unspoiled;
        }

    stage_opening : (opens : Bool) (tick : ℕ) (w : Watch) → tick ≡ slice_index ticks b → (opens ≡ true → 1 ≤ o) → Tells (Kept ms b o) opens
        → Standing o c m ticks ms (b + 1) b (b + 1) (b + 1) w
        → Standing o c m ticks ms (b + 1) (b + 1) (b + 1) (b + 1) (cond opens (opened_by tick w) w)
    unfolding opened_by
    stage_opening true tick w t l k s =
        record {
          found = s.found;
          begun = λ u e. let same : tick ≡ u = cc in (b, opened_here (l refl) (k.yes refl), sym same ∙ t);
          idle = λ e. absurd (none_some (sym e));
        }
    stage_opening false tick w t l n s =
        record {
          found = s.found;
          begun = λ u e. let h = s.begun u e in (h.0, open_still h.0 (n.no refl) h.1, h.2);
          idle = λ e a k.
              ⊎_elim
              (λ m. s.idle e a (open_before a m k))
              (λ m.
              let d : a ≡ b = omega (arith, k.earlier) in
              n.no refl (subst (λ q. Kept ms q o) d k.opens))
              (below_or_not a b);
        }

    -- A place is passed.
    pub standing_next : (spoils closes opens : Bool) (tick : ℕ) (w : Watch) → tick ≡ slice_index ticks b → (opens ≡ true → 1 ≤ o)
        → Tells (Spoils m ms b) spoils → Tells (Kept ms b c) closes → Tells (Kept ms b o) opens → Standing o c m ticks ms b b b b w
        → Standing o c m ticks ms (b + 1) (b + 1) (b + 1) (b + 1) (step_by spoils closes opens tick w)
    unfolding step_by
    standing_next spoils closes opens tick w t l x y z s =
        let spoiled = cond spoils (spoiled_by w) w in
        let closed = cond closes (closed_by tick spoiled) spoiled in
        stage_opening opens tick closed t l z (stage_closing closes tick spoiled t y (stage_spoils spoils w x s))
