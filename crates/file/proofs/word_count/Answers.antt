-- `file::word_count` meets its contract: by `file_length`, since every block but the last is full.
use Prim.Native.Nat.{ℕ, ◌-◌, ◌/◌}
use native.Mathlib.Omega.{arith}
use mathlib.Core.List.{List}
use lib.ListN.{length}
use Rattle.grammar.specs.Theory.Files.{file_length, use_most}
use Rattle.file.proofs.word_count.Goals as goal

pub overflow_add-result : goal.overflow_add-result
overflow_add-result c =
    let bytes : List ℕ = c.args.bytes.now in
    let last : ℕ = length bytes / 512 - 1 in
    omega (arith, use_most (c.requires.each_block last (omega arith)).use_count, c.number.ensures)

pub returns : goal.returns
returns c =
    let bytes : List ℕ = c.args.bytes.now in
    let last : ℕ = length bytes / 512 - 1 in
    omega (arith, file_length bytes c.requires.each_block last (omega arith), c.number.ensures)
