-- What the model answers is compared with what the table says: edits, rules, pace.
use Rattle.std.specs.Prelude.{ℕ, ◌≡◌, refl, Bool, true, false, ◌&&◌, List, [], ◌∷◌, length, T, eqb}
use Rattle.std.proofs.Common.{ap, ◌∙◌, eqb→eq}
use Rattle.std.proofs.Math.Option.{Option, none, some}
use Rattle.grammar.specs.Buffers.{filled}
use Rattle.grammar.specs.Moves.{Move, Edit, edits, edit_words, rule_numbers}
use Rattle.grammar.specs.Pace.{Span, report_of, total_ms, pace_of}
use Rattle.grammar.specs.Model.Tests.{left_of, right_of_lem}
use Rattle.grammar.specs.Cases.Case.{ToldPace, idle, cycles, EditsTold, RulesTold, PaceTold, rule_room}

unfoldable pub same_list : List ℕ → List ℕ → Bool
same_list [] [] = true
same_list [] (y ∷ ys) = false
same_list (x ∷ xs) [] = false
same_list (x ∷ xs) (y ∷ ys) = eqb x y && same_list xs ys

same_list_lem : (xs ys : List ℕ) → T (same_list xs ys) → xs ≡ ys
unfolding same_list
same_list_lem [] [] h = refl
same_list_lem (x ∷ xs) (y ∷ ys) h =
    ap (λ z. z ∷ xs) (eqb→eq x y (left_of (eqb x y) (same_list xs ys) h))
    ∙ ap (λ l. y ∷ l) (same_list_lem xs ys (right_of_lem (eqb x y) (same_list xs ys) h))
same_list_lem [] (y ∷ ys) h = elim h [ ]
same_list_lem (x ∷ xs) [] h = elim h [ ]

unfoldable pub edits_agree : Option (List Edit) → List Move → Bool
unfolding same_list edits edit_words
edits_agree none ms = true
edits_agree (some es) ms = eqb (length (edits ms)) (length es) && same_list (edit_words (edits ms)) (edit_words es)

unfoldable pub rules_agree : Option (List ℕ) → List Move → Bool
unfolding same_list rule_numbers
rules_agree none ms = true
rules_agree (some ps) ms = same_list (rule_numbers ms) ps

unfoldable pub pace_agrees : Option ToldPace → ℕ → ℕ → Bool
pace_agrees none n s = true
pace_agrees (some idle) n s = eqb n 0
pace_agrees (some (cycles m u)) n s = eqb n m && eqb s u

pub edits_agree_lem : (lent : ℕ) (o : Option (List Edit)) (ms : List Move) → T (edits_agree o ms)
    → EditsTold lent o (length (edits ms)) (filled lent (edit_words (edits ms)))
unfolding edits_agree
edits_agree_lem lent none ms h = tt
edits_agree_lem lent (some es) ms h = (
  eqb→eq (length (edits ms)) (length es)
      (left_of (eqb (length (edits ms)) (length es)) (same_list (edit_words (edits ms)) (edit_words es)) h),
  ap (filled lent)
      (same_list_lem (edit_words (edits ms)) (edit_words es)
      (right_of_lem (eqb (length (edits ms)) (length es)) (same_list (edit_words (edits ms)) (edit_words es)) h)),
)

pub rules_agree_lem : (o : Option (List ℕ)) (ms : List Move) → T (rules_agree o ms)
    → RulesTold o (length (rule_numbers ms)) (filled rule_room (rule_numbers ms))
unfolding rules_agree
rules_agree_lem none ms h = tt
rules_agree_lem (some ps) ms h =
    let e = same_list_lem (rule_numbers ms) ps h in (ap length e, ap (filled rule_room) e)

pub pace_agrees_lem : (o : Option ToldPace) (ticks : List ℕ) (cs : List Span) → T (pace_agrees o (length cs) (total_ms ticks cs))
    → PaceTold o (report_of ticks cs)
unfolding pace_agrees report_of pace_of
pace_agrees_lem none ticks cs h = tt
pace_agrees_lem (some idle) ticks cs h =
    let e = eqb→eq (length cs) 0 h in (e, ap (λ n. pace_of n (total_ms ticks cs)) e)
pace_agrees_lem (some (cycles m u)) ticks cs h =
    let e = eqb→eq (length cs) m (left_of (eqb (length cs) m) (eqb (total_ms ticks cs) u) h) in
    let d = eqb→eq (total_ms ticks cs) u (right_of_lem (eqb (length cs) m) (eqb (total_ms ticks cs) u) h) in
    (e, d, ap (λ n. pace_of n (total_ms ticks cs)) e ∙ ap (pace_of m) d)
