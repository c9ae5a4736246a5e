-- The added tokens among words are the words that are not lower than 4,096.
use Rattle.std.proofs.Common.{ℕ, suc, ◌+◌, ◌≤◌, ◌≡◌, refl, Bool, cond, List, [], ◌∷◌, ap, arith}
use Rattle.std.proofs.Math.Dec.{leb}
use Rattle.std.proofs.Math.Decide.{dec_lt}
use Rattle.std.proofs.Math.Logic.{dite}
use Rattle.std.proofs.lemmas.Bool.{le-leb, lt-leb}
use Rattle.std.specs.List.{count_by}
use Rattle.std.proofs.lemmas.List.Sums.{sum_by-cons}
use Rattle.grammar.specs.Marks.{Mark}
use Rattle.grammar.specs.MarkLines.{added_count}
use Rattle.mark_lines.specs.Told.{mark_added, mark_kept, mark_of, marks_in}

pub count_added : (log words : List ℕ) → count_by (λ x. leb 4096 x) words ≡ added_count (marks_in log words)
unfolding added_count
count_added log [] = refl
count_added log (w ∷ ws) =
    let rest : List Mark = marks_in log ws in
    let first : count_by (λ x. leb 4096 x) (w ∷ ws) ≡ cond {A = ℕ} (leb 4096 w) 1 0 + count_by (λ x. leb 4096 x) ws =
    sum_by-cons (λ x. cond {A = ℕ} (leb 4096 x) 1 0) w ws in
    dite (dec_lt w 4096)
    (λ less.
    let test : cond {A = ℕ} (leb 4096 w) 1 0 ≡ 0 = ap (λ (b : Bool). cond {A = ℕ} b 1 0) (lt-leb 4096 w less) in
    let one : added_count (mark_of log w ∷ rest) ≡ added_count rest = ap (λ (x : Mark). added_count (x ∷ rest)) (mark_kept log w less) in
    omega (arith, first, test, one, count_added log ws))
    (λ more.
    let most : 4096 ≤ w = omega arith in
    let test : cond {A = ℕ} (leb 4096 w) 1 0 ≡ 1 = ap (λ (b : Bool). cond {A = ℕ} b 1 0) (le-leb 4096 w most) in
    let one : added_count (mark_of log w ∷ rest) ≡ suc (added_count rest) =
    ap (λ (x : Mark). added_count (x ∷ rest)) (mark_added log w most) in
    omega (arith, first, test, one, count_added log ws))
