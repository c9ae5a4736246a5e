-- What the pass over the places keeps: the cursor stands before the records of the place, the cycles are few, and the watch
-- stands at the place, whichever run it was that left these edits.
use Rattle.std.proofs.Common.{◌≡◌, ℕ, ◌+◌, ◌<◌, ◌≤◌, Bool, true, false, not, ◌&&◌, ◌||◌, eqb, List, length, get_or, sym, refl, ap, ◌∙◌, subst, arith, eqb-true, None}
use mathlib.Core.Bool.{false≢true}
use Rattle.grammar.specs.Words.{opening, closing, restart_mark}
use Rattle.grammar.specs.Moves.{Move}
use Rattle.grammar.specs.Run.{counts_of}
use Rattle.grammar.specs.Pace.{Reports, pace_of}
use Rattle.grammar.specs.Refusals.{given}
use Rattle.grammar.specs.declared.Pace.{Pace}
use Rattle.pace.specs.Watch.{Cursor, Stands, Few, Small, Lent, Ran, Finds, marks_of, passed_by}
use Rattle.pace.specs.Standing.{Standing}
use Rattle.pace.proofs.Standing.{standing_start, standing_next}
use Rattle.pace.specs.Ended.{kept_tells, spoils_tells, marks_apart, found_report}
use Rattle.pace.specs.Few.{few_start, few_next, few_small}
use Rattle.pace.specs.declared.Marks.{Marks}
use Rattle.pace.specs.declared.Here.{Here}
use Rattle.pace.specs.declared.Watch.{Watch}

-- The watch stands at place b.
abbrev StandsAt : (ws ticks : List ℕ) → List Move → ℕ → Watch → Type 0
StandsAt ws ticks ms b w = Standing (opening ws) (closing ws) (restart_mark ws) ticks ms b b b b w

pub record Watching (ws log ticks words : List ℕ) (records : ℕ) (watch : Watch) (at place : ℕ) : Type 0 where
  pub lent : Lent ws log ticks words records
  pub passed : place ≤ length log
  pub cursor : Cursor words records at place
  pub few : Few place watch
  pub standing : (ms : List Move) → Ran ws log words records ms → StandsAt ws ticks ms place watch

-- A mark that opens is none of both marks 0.
opens_marked : (t o : ℕ) (d : Bool) → 1 ≤ t → (not d && eqb t o) ≡ true → 1 ≤ o
opens_marked t o true l e = absurd (false≢true e)
opens_marked t o false l e = omega (arith, eqb-true t o e)

pub watching_start : {ws log ticks words : List ℕ} {records : ℕ} → Lent ws log ticks words records
    → Watching ws log ticks words records (record { since = None; count = 0; sum = 0 }) 0 0
watching_start {ws} {log} {ticks} {words} {records} lent =
    record {
      lent = lent;
      passed = omega arith;
      cursor =
          record {
            rising = lent.rising;
            within = omega arith;
            before = λ i l. absurd (omega arith);
            onward = λ i l h. omega arith;
          };
      few = few_start;
      standing = λ ms ran.
          standing_start (opening ws) (closing ws) (restart_mark ws) ticks ms (marks_apart ws log words records ms ran);
    }

module _ {ws log ticks words : List ℕ} {records : ℕ} {watch : Watch} {at place : ℕ}
    (watching : Watching ws log ticks words records watch at place) where
  pub watching_small : Small watch
  watching_small = few_small (omega (arith, watching.passed, watching.lent.tokens)) watching.few

  -- Nothing is lost when the sum becomes an f64.
  pub watching_exact : watch.sum ≤ 9007199254740992
  watching_exact = let s = watching_small in omega (arith, s.count, s.sum)

  -- A place is passed.
  pub watching_next : {here : Here} {after : Watch} {marks : Marks} → marks ≡ marks_of ws → place < length log
      → Stands words records place here → after ≡ passed_by marks here (get_or log place 0) (get_or ticks place 0) watch
      → Watching ws log ticks words records after here.behind (place + 1)
  unfolding passed_by
  watching_next {here} {after} m l stands f =
      let e = f ∙ ap (λ n. passed_by n here (get_or log place 0) (get_or ticks place 0) watch) m in
      let token = get_or log place 0 in
      let spoils = here.edited || eqb token (restart_mark ws) in
      let closes = not here.deleted && eqb token (closing ws) in
      let opens = not here.deleted && eqb token (opening ws) in
      record {
        lent = watching.lent;
        passed = omega arith;
        cursor = stands.cursor;
        few =
            subst (λ w. Few (place + 1) w) (sym e)
            (few_next spoils closes opens (get_or ticks place 0) watch watching.few);
        standing = λ ms ran.
            subst (λ w. StandsAt ws ticks ms (place + 1) w) (sym e)
            (standing_next (opening ws) (closing ws) (restart_mark ws) ticks ms (marks_apart ws log words records ms ran) place
            spoils closes opens (get_or ticks place 0) watch refl
            (opens_marked token (opening ws) here.deleted (ran.admitted.fits.low place l))
            (spoils_tells ws log words records ms ran place here.edited here.deleted l (ran.admitted.fits.low place l)
            stands.edited stands.deleted)
            (kept_tells ws log words records ms ran place (closing ws) here.deleted l stands.deleted)
            (kept_tells ws log words records ms ran place (opening ws) here.deleted l stands.deleted)
            (watching.standing ms ran));
      }

  -- All places are passed.
  pub watching_end : {pace : Pace} → length log ≤ place → pace ≡ pace_of watch.count watch.sum
      → Finds ws log ticks words records (record { count = watch.count; sum = watch.sum; pace = pace })
  watching_end l e =
      let all : place ≡ length log = omega (arith, watching.passed) in
      record {
        of_run = λ ms ran.
            let stood = subst (λ b. StandsAt ws ticks ms b watch) all (watching.standing ms ran) in
            subst
            (λ p. Reports ws ticks (given ms) (given (record { count = watch.count; sum = watch.sum; pace = p }, counts_of ms)))
            (sym e)
            (found_report ws log words records ms ran stood.found);
      }

-- Equal marks are equal records.
pub marks_same : {a b c d e f : ℕ} → a ≡ d → b ≡ e → c ≡ f
    → ◌≡◌ {A = Marks} (record { opening = a; closing = b; restart = c }) (record { opening = d; closing = e; restart = f })
marks_same x y z = cc
