-- `shape::terminal_words` meets its contract: the terminals' words lie inside the list.
use Rattle.std.proofs.Common.{arith}
use Rattle.shape.specs.Inside.{words_small}
use Rattle.shape.proofs.Reading.{terminals_end, terminals_there}
use Rattle.shape.proofs.terminal_words.Goals as goal

pub overflow_add-result : goal.overflow_add-result
overflow_add-result c =
    omega (
      arith,
      words_small _ c.requires,
      terminals_end _ c.requires c.terminals_at-at.ensures c.terminal_count-count.ensures,
    )

pub offset_bounds-words-at : goal.offset_bounds-words-at
offset_bounds-words-at c =
    omega (
      arith,
      words_small _ c.requires,
      terminals_end _ c.requires c.terminals_at-at.ensures c.terminal_count-count.ensures,
    )

pub slice_bounds-result-end : goal.slice_bounds-result-end
slice_bounds-result-end c = terminals_end _ c.requires c.terminals_at-at.ensures c.terminal_count-count.ensures

pub returns : goal.returns
returns c =
    (terminals_there c.args.words.now c.requires c.terminals_at-at.ensures c.terminal_count-count.ensures)
