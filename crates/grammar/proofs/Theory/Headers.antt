-- Request (vi): what word 0 alone tells of the header; and request (viii): which words have unit 1. Code and theorems cite these laws and
-- not the definitions' text.
--     long_terminals, long_size, long_restart       beyond 256 it is the seven-word header
--     short_terminals, short_size, short_restart    up to 256 it is the six-word one
--     size_least, size_most                         no other size there is
--     unit_one                                      fewer than six words have no unit
use Rattle.std.specs.Prelude.{ℕ, ◌-◌, ◌≤◌, ◌<◌, ◌≡◌, Bool, true, false, List, ◌↔◌, length}
use Rattle.std.proofs.Math.Path.{ap}
use Rattle.std.proofs.Math.Bool.{cond}
use Rattle.std.proofs.Math.Logic.{dite}
use Rattle.std.proofs.Common.{lt-ltb, le-ltb, arith}
use Rattle.std.proofs.Math.Decide.{dec_lt}
use Rattle.std.proofs.Math.ListN.{get_or-eq_default}
use Rattle.grammar.specs.Words.{word, is_long, header_size, terminal_count, tick_unit, UnitOne, restart_mark}

module _ (ws : List ℕ) where
  module _ (long : 256 < word ws 0) where
    pub long_terminals : terminal_count ws ≡ word ws 0 - 256
    unfolding terminal_count is_long
    long_terminals = ap (λ b. cond b (word ws 0 - 256) (word ws 0)) (lt-ltb 256 (word ws 0) long)

    pub long_size : header_size ws ≡ 7
    unfolding header_size is_long
    long_size = ap (λ b. cond b 7 6) (lt-ltb 256 (word ws 0) long)

    pub long_restart : restart_mark ws ≡ word ws 6
    unfolding restart_mark is_long
    long_restart = ap (λ b. cond b (word ws 6) 0) (lt-ltb 256 (word ws 0) long)

  module _ (short : word ws 0 ≤ 256) where
    pub short_terminals : terminal_count ws ≡ word ws 0
    unfolding terminal_count is_long
    short_terminals = ap (λ b. cond b (word ws 0 - 256) (word ws 0)) (le-ltb 256 (word ws 0) short)

    pub short_size : header_size ws ≡ 6
    unfolding header_size is_long
    short_size = ap (λ b. cond b 7 6) (le-ltb 256 (word ws 0) short)

    pub short_restart : restart_mark ws ≡ 0
    unfolding restart_mark is_long
    short_restart = ap (λ b. cond b (word ws 6) 0) (le-ltb 256 (word ws 0) short)

  sized : (b : Bool) → (6 ≤ cond b 7 6) × (cond b 7 6 ≤ 7)
  sized true = (omega arith, omega arith)
  sized false = (omega arith, omega arith)

  pub size_least : 6 ≤ header_size ws
  unfolding header_size
  size_least = (sized (is_long ws)).0

  pub size_most : header_size ws ≤ 7
  unfolding header_size
  size_most = (sized (is_long ws)).1

  -- A word past the end counts as 0, so word 5 is 1 only where it is there.
  pub unit_one : UnitOne ws ↔ (tick_unit ws ≡ 1)
  unfolding tick_unit
  unit_one = (
    λ u. u.one,
    λ e.
        record {
          six =
              dite (dec_lt (length ws) 6)
              (λ few. absurd (omega (arith, e, get_or-eq_default ws 0 {n = 5} (omega arith))))
              (λ more. omega arith);
          one = e;
        },
  )
