-- Case 12 is "the bound itself": no run of an accepted grammar makes more moves than demand 3 allows, and this one makes as many.
use Rattle.std.specs.Prelude.{ℕ, zero, suc, ◌+◌, ◌*◌, ◌≤◌, ◌<◌, ◌≡◌, List, ◌∷◌, length}
use Rattle.std.proofs.Common.{arith, sym, ap, ◌∙◌}
use Rattle.std.proofs.Math.Option.{none}
use Rattle.grammar.specs.Words.{nonterminal_count, rule_count, right_size, rule_place, header_size, is_long, terminal_count}
use Rattle.grammar.specs.Moves.{Move}
use Rattle.grammar.specs.Run.{RunOf}
use Rattle.grammar.specs.declared.Counts.{Counts}
use Rattle.grammar.specs.Theory.Good.{accepted}
use Rattle.grammar.proofs.Theory.Answered.{runs_determined}
use Rattle.grammar.proofs.Theory.Kept.{parsed_made}
use Rattle.grammar.specs.Cases.Case.{Case, Gives, GivesAll, edit_room, rule_room}
use Rattle.grammar.specs.Cases.Cases.{case12}
use Rattle.grammar.proofs.Cases.Twelve.{twelve}

others : {c : Case} {cs : List Case} → GivesAll (c ∷ cs) → GivesAll cs
others (GivesAll.also g gs) = gs

first : {c : Case} {cs : List Case} → GivesAll (c ∷ cs) → Gives c
first (GivesAll.also g gs) = g

twelfth : Gives case12
twelfth = first (others (others (others (others (others (others (others (others (others (others (others twelve)))))))))))

-- Its only right side is empty, so that R is 0,
pub case12_right_sides : (p : ℕ) → p < rule_count case12.words → right_size case12.words p ≤ 0
unfolding rule_count right_size rule_place header_size is_long terminal_count
case12_right_sides zero l = omega arith
case12_right_sides (suc p) l = absurd (omega arith)

-- and its run makes 2 + n + R x N x n moves.
pub case12_moves : {ms : List Move} → RunOf case12.words case12.log edit_room rule_room ms none
    → length ms ≡ 2 + length case12.log + 0 * nonterminal_count case12.words * length case12.log
unfolding nonterminal_count
case12_moves run =
    let made = parsed_made twelfth.parsed in
    let same = (runs_determined (record { words = accepted made.verdict; fits = made.fits }) run made.run).moves in
    let count : length made.moves ≡ 3 = sym (ap (λ (c : Counts). c.moves) made.counted) ∙ twelfth.moves in
    ap length same ∙ count
