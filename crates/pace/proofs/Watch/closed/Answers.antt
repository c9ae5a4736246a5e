-- `pace::Watch::closed` meets its contract: an open cycle counts, and without one nothing does.
use Rattle.std.proofs.Common.{◌≡◌, ℕ, ◌+◌, Bool, true, false, cond, refl, sym, ap, ◌∙◌, Option, None, Some}
use Rattle.std.proofs.Common.{true≢false}
use Rattle.std.specs.Option.{is_some}
use Rattle.pace.specs.Watch.{counted, closed_by}
use Rattle.pace.specs.declared.Watch.{Watch}
use Rattle.pace.proofs.Watch.closed.Goals as goal
use Rattle.pace.proofs.Watch.closed.Goals.{else-is_some-via-then-is_some+else-closes, else-is_some-via-else-is_some}

closed_idle : (closes : Bool) (tick : ℕ) (w : Watch) (o : Option ℕ) → w.since ≡ o → is_some o ≡ false → w ≡ cond closes (closed_by tick w) w
unfolding closed_by
closed_idle true tick w None e none = sym (ap (λ s. counted s tick w) e)
closed_idle false tick w None e none = refl
closed_idle closes tick w (Some since) e none = absurd (true≢false none)

pub returns-then-closes : goal.returns-then-closes
unfolding closed_by
returns-then-closes c =
    rw c.if-closes.true
    (rw c.unwrap.ensures
    (ap (λ (x : ℕ). record { since = None; count = c.args.self.count + 1; sum = c.args.self.sum + x }) (c.from.ensures ∙ c.time.ensures)))

pub returns-else-is_some : goal.returns-else-is_some
returns-else-is_some c =
    elim c.else-is_some.branch [
      | else-is_some-via-then-is_some+else-closes w ↦ rw w.if-closes.false refl
      | else-is_some-via-else-is_some w ↦
          closed_idle c.args.closes c.args.tick c.args.self c.args.self.since refl (sym c.is_some.ensures ∙ w.if-is_some.false)
    ]
