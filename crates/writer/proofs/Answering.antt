-- Which answer is right once the tests have told: the three refusals in their order, then the file.
use Prim.Native.Nat.{ℕ, ◌*◌, ◌≤◌, ◌<◌}
use native.Mathlib.Omega.{arith}
use mathlib.Core.Path.{◌≡◌, sym, ap, subst, subst₂, ◌∙◌}
use mathlib.Core.List.{List}
use mathlib.Core.Option.{some}
use lib.ListN.{length}
use Rattle.grammar.specs.Words.{UnitOne}
use Rattle.grammar.specs.Buffers.{filled, cleared, Fills}
use Rattle.grammar.specs.Refusals.{Lowest, given, refused}
use Rattle.grammar.specs.Writing.{blocks_for, blocks_of, WordCount, write_conditions, FileWritten}
use Rattle.grammar.specs.declared.Refusal.{Refusal}
use Rattle.grammar.specs.declared.Refusal.TheVariants.{BadCount, Hundredths, ShortBytes}
use Rattle.grammar.specs.Theory.Blocks.{file_size}
use Rattle.grammar.specs.Theory.Conditions.{all_met, applies, passes}

module _ (ws : List ℕ) (room : ℕ) where
  -- A refusal leaves a cleared buffer.
  refuses : {r : Refusal} {buffer : List ℕ} → Lowest (write_conditions ws room) (some r) → buffer ≡ cleared room
      → FileWritten ws room (refused r) buffer
  refuses {r} lowest clear = subst (FileWritten ws room (refused r)) (sym clear) (record { write = Fills.refuse lowest })

  pub refuses_count : {buffer : List ℕ} → (WordCount (length ws) → ⊥) → buffer ≡ cleared room
      → FileWritten ws room (refused BadCount) buffer
  refuses_count wrong = refuses (applies wrong)

  pub refuses_unit : {buffer : List ℕ} → WordCount (length ws) → UnitOne ws → buffer ≡ cleared room
      → FileWritten ws room (refused Hundredths) buffer
  refuses_unit count one = refuses (passes count (applies (λ other. other one)))

  pub refuses_room : {buffer : List ℕ} → WordCount (length ws) → (UnitOne ws → ⊥) → room < 512 * blocks_for (length ws)
      → buffer ≡ cleared room → FileWritten ws room (refused ShortBytes) buffer
  refuses_room count other short = refuses (passes count (passes other (applies (λ fits. omega arith))))

  pub writes : {n lent : ℕ} {buffer : List ℕ} → WordCount (length ws) → (UnitOne ws → ⊥) → n ≡ 512 * blocks_for (length ws) → n ≤ room
      → lent ≡ room → buffer ≡ filled lent (blocks_of ws) → FileWritten ws room (given n) buffer
  writes count other size fits same holds =
      subst₂ (λ (m : ℕ) (b : List ℕ). FileWritten ws room (given m) b) (file_size ws ∙ sym size)
      (sym (holds ∙ ap (λ (m : ℕ). filled m (blocks_of ws)) same))
      (record { write = Fills.fill (passes count (passes other (passes (omega arith) all_met))) })
