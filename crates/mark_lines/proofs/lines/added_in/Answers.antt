-- `mark_lines::lines::added_in` meets its contract: the words that pass the test are the added tokens (`count_added`).
use Rattle.std.proofs.Common.{rules, ◌≡◌, ◌∙◌}
use Rattle.std.proofs.Math.Dec.{leb}
use Rattle.std.specs.List.{count_by}
use Rattle.mark_lines.proofs.Counting.{count_added}
use Rattle.mark_lines.proofs.lines.added_in.Goals as goal

pub returns : goal.returns
returns c = λ log.
    let counted : c.count.result ≡ count_by (λ x. leb 4096 x) c.args.words.now = search rules in
    counted ∙ count_added log c.args.words.now
