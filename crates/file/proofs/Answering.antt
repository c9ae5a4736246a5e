-- Which answer is right once the tests have told: the four refusals in their order, then the words.
use Prim.Native.Nat.{ℕ, ◌≤◌, ◌<◌}
use native.Mathlib.Omega.{arith}
use mathlib.Core.Path.{◌≡◌, sym, ap, subst, subst₂, ◌∙◌}
use mathlib.Core.List.{List, [], ◌∷◌}
use mathlib.Core.Option.{Option, some}
use lib.ListN.{length, length-replicate}
use Rattle.grammar.specs.Buffers.{cleared, Fills}
use Rattle.grammar.specs.Refusals.{◌unless◌, Lowest, given, refused}
use Rattle.grammar.specs.File.{FileSize, EachBlock, BlockFields, file_conditions, file_words, FileRead}
use Rattle.grammar.specs.declared.Refusal.{Refusal}
use Rattle.grammar.specs.declared.Refusal.TheVariants.{BadSize, BadCheck, BadBlock, ShortWords}
use Rattle.grammar.specs.Theory.Conditions.{all_met, applies, passes}
use Rattle.base.specs.Written.{begun}
use Rattle.grammar.specs.Theory.Files.{CheckRight, FileRight}
use Rattle.file.proofs.Filling.{begun_filled}

module _ (bytes : List ℕ) (room : ℕ) where
  room_of : {buffer : List ℕ} → buffer ≡ cleared room → length buffer ≡ room
  unfolding cleared
  room_of clear = ap length clear ∙ length-replicate room 0

  -- A refusal leaves a cleared buffer.
  refuses : {r : Refusal} {buffer : List ℕ} → Lowest (file_conditions bytes room) (some r) → buffer ≡ cleared room
      → FileRead bytes room (refused r) buffer
  refuses {r} lowest clear = subst (FileRead bytes room (refused r)) (sym clear) (record { read = Fills.refuse lowest })

  pub refuses_size : {buffer : List ℕ} → (FileSize (length bytes) → ⊥) → buffer ≡ cleared room
      → FileRead bytes room (refused BadSize) buffer
  refuses_size wrong = refuses (applies wrong)

  pub refuses_check : {buffer : List ℕ} → FileSize (length bytes) → (EachBlock bytes (CheckRight bytes) → ⊥) → buffer ≡ cleared room
      → FileRead bytes room (refused BadCheck) buffer
  refuses_check size wrong = refuses (passes size (applies wrong))

  pub refuses_block : {buffer : List ℕ} → FileSize (length bytes) → EachBlock bytes (CheckRight bytes)
      → (EachBlock bytes (BlockFields bytes) → ⊥) → buffer ≡ cleared room → FileRead bytes room (refused BadBlock) buffer
  refuses_block size checks wrong = refuses (passes size (passes checks (applies wrong)))

  -- Where the file is right its room decides.
  right_passes : {o : Option Refusal} → FileRight bytes → Lowest ((ShortWords unless (length (file_words bytes) ≤ room)) ∷ []) o
      → Lowest (file_conditions bytes room) o
  right_passes right rest = passes right.size (passes right.checks (passes right.blocks rest))

  pub refuses_room : {buffer : List ℕ} → FileRight bytes → length buffer < length (file_words bytes) → buffer ≡ cleared room
      → FileRead bytes room (refused ShortWords) buffer
  refuses_room right short clear = refuses (right_passes right (applies (λ fits. omega (arith, room_of clear)))) clear

  -- Words that are begun over a cleared buffer fill it.
  pub reads_words : {n : ℕ} {old buffer : List ℕ} → FileRight bytes → n ≡ length (file_words bytes) → n ≤ length old
      → old ≡ cleared room → buffer ≡ begun old (file_words bytes) → FileRead bytes room (given n) buffer
  reads_words {n} right count fits clear copied =
      let words : List ℕ = file_words bytes in
      let enough : length words ≤ room = omega (arith, room_of clear) in
      let holds = copied ∙ (ap (λ (old : List ℕ). begun old words) clear ∙ begun_filled room words) in
      subst₂ (λ (m : ℕ) (b : List ℕ). FileRead bytes room (given m) b) (sym count) (sym holds)
      (record { read = Fills.fill (right_passes right (passes enough all_met)) })
