-- `verdict::judge_in` meets its contract: each test tells its condition, in the order of document 01.
use native.Mathlib.Omega.{arith}
use mathlib.Core.Path.{◌≡◌, ◌∙◌, subst}
use mathlib.Core.List.{List}
use Rattle.grammar.specs.Grammar.{RuleOf}
use Rattle.grammar.specs.Words.{nonterminal_count}
use Rattle.grammar.specs.Theory.Masks.{NullMask}
use Prim.Native.Nat.{ℕ}
use Rattle.std.proofs.lemmas.List.{length-replicate}
use Rattle.base.specs.Blank.{blank_made, blank_part}
use Rattle.verdict.specs.Answer.{accepting, refusing}
use Rattle.verdict.specs.Judge.{refused_6, refused_9, refused_dear, productive_limited, accepted}
use Rattle.verdict.specs.Prices.{afford_all}
use Rattle.verdict.specs.Sets.{sets_filled}
use Rattle.verdict.proofs.judge_in.Goals as goal

-- The mask is that of the rules, whose words it was made from.
exact_nulls : {ws vs : List ℕ} (null : ℕ) → vs ≡ ws → NullMask (RuleOf vs) (nonterminal_count vs) null
    → NullMask (RuleOf ws) (nonterminal_count ws) null
exact_nulls null same = subst (λ ws. NullMask (RuleOf ws) (nonterminal_count ws) null) same

pub reachable-requires : goal.reachable-requires
reachable-requires g c = record {
  shaped = c.requires.shaped;
  clear = (blank_made _).zeros;
  wide = rw (length-replicate {A = ℕ} g.row.ROOM 0) c.requires.wide;
  blank = blank_made 64;
}

pub returns-then-not-reachable : goal.returns-then-not-reachable
returns-then-not-reachable g c = refusing (refused_6 _ c.requires.shaped (c.reachable.ensures.tells.no c.if-not-reachable.true))

pub returns-then-not-within : goal.returns-then-not-within
returns-then-not-within g c =
    refusing
    (refused_dear c.requires.shaped (c.reachable.ensures.tells.yes c.if-not-reachable.false) c.costs.ensures
    (c.within.ensures.no c.if-not-within.true) c.unaffordable.ensures)

pub predictable-requires : goal.predictable-requires
predictable-requires g c = record {
  asked = record { shaped = c.requires.shaped; nulls = exact_nulls _ c.words.ensures.value c.empties-null.ensures; size = c.predictable-arg-1.given.2 };
  blank = c.reachable.ensures.blank c.if-not-reachable.false;
  blank_2 = blank_part 0 64 c.requires.blank_2 (omega arith);
  reached = c.reachable.ensures.tells.yes c.if-not-reachable.false;
}

pub returns-then-not-predictable : goal.returns-then-not-predictable
returns-then-not-predictable g c =
    let limited = c.within.ensures.yes c.if-not-within.false in
    refusing
    (refused_9 _ c.requires.shaped (c.reachable.ensures.tells.yes c.if-not-reachable.false)
    (productive_limited c.costs.ensures limited) (afford_all c.costs.ensures limited) (c.predictable.ensures.tells.no c.if-not-predictable.true))

pub bounds-sets-64 : goal.bounds-sets-64
bounds-sets-64 g c = omega (arith, c.sets-1.given.1, c.requires.blank_2.size)

pub returns : goal.returns
returns g c =
    let limited = c.within.ensures.yes c.if-not-within.false in
    let size = c.predictable.auto.firsts ∙ c.predictable-arg-1.given.2 in
    accepting
    (accepted _ c.requires.shaped (c.reachable.ensures.tells.yes c.if-not-reachable.false) (productive_limited c.costs.ensures limited)
    (afford_all c.costs.ensures limited) (c.predictable.ensures.tells.yes c.if-not-predictable.false))
    (record {
      shaped = c.requires.shaped;
      costed = c.costs.ensures;
      limited = limited;
      exact = sets_filled c.args.sets.now _ _ c.requires.shaped
          c.requires.blank_2.size size c.predictable.ensures.exact
          (exact_nulls _ c.words.ensures.value c.empties-null.ensures);
    })
