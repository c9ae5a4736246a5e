-- The sets of the nonterminals in one table: FIRST of each, and behind them the mask of those that can be empty.
use Rattle.std.specs.Prelude.{ℕ, ◌+◌, ◌<◌, ◌≡◌, List, [], ◌∷◌, length, get_or, set, take, drop}
use Rattle.std.proofs.Common.{sym, ◌∙◌, subst, arith, length-set, get_or-set_same, get_or-set_other, length-take-le}
use borrow.Rule.Slice.PartMut.{put_mid}
use Rattle.grammar.specs.Words.{Shaped, nonterminal_count}
use Rattle.grammar.specs.Grammar.{RuleOf}
use Rattle.grammar.specs.Theory.Masks.{FirstMask, NullMask}
use Rattle.firsts.specs.Asked.{Asked}
use Rattle.firsts.specs.Masks.{FirstsOf}
use Rattle.verdict.specs.Parts.{part_at, part_length, inside_part}

-- The table is exact.
pub record SetsOf (ws sets : List ℕ) : Type 0 where
  pub size : length sets ≡ 65
  pub first : (k : ℕ) → k < nonterminal_count ws → FirstMask (RuleOf ws) ((64 + k) ∷ []) (get_or sets k 0)
  pub nulls : NullMask (RuleOf ws) (nonterminal_count ws) (get_or sets 64 0)

-- FIRST came back in front, and the mask was written behind it.
pub sets_filled : {ws : List ℕ} (sets firsts : List ℕ) (null : ℕ) → Shaped ws → length sets ≡ 65 → length firsts ≡ 64
    → FirstsOf ws firsts → NullMask (RuleOf ws) (nonterminal_count ws) null → SetsOf ws (set (put_mid 0 64 sets firsts) 64 null)
sets_filled {ws} sets firsts null s size sizes f nulls =
    record {
      size = length-set (put_mid 0 64 sets firsts) 64 null ∙ long;
      first = λ k h. subst (FirstMask (RuleOf ws) ((64 + k) ∷ [])) (sym (at k (omega (arith, s.nonterminals_high)))) (f.first k h);
      nulls = subst (NullMask (RuleOf ws) (nonterminal_count ws))
          (sym (get_or-set_same (put_mid 0 64 sets firsts) 64 null 0 (omega (arith, long)))) nulls;
    }
  where
    long : length (put_mid 0 64 sets firsts) ≡ 65
    long = part_length 0 64 sets firsts (omega arith) sizes ∙ size

    at : (k : ℕ) → k < 64 → get_or (set (put_mid 0 64 sets firsts) 64 null) k 0 ≡ get_or firsts k 0
    at k h =
        get_or-set_other (put_mid 0 64 sets firsts) 64 k null 0 (λ e. omega arith)
        ∙ inside_part 0 64 sets firsts (omega arith) sizes k k (omega arith) h

-- The part of it that is lent for FIRST.
module _ {ws sets : List ℕ} (shaped : Shaped ws) (e : SetsOf ws sets) where
  pub sets_asked : Asked ws (get_or sets 64 0) (take 64 (drop 0 sets))
  sets_asked = record { shaped = shaped; nulls = e.nulls; size = length-take-le 64 sets (omega (arith, e.size)) }

  pub sets_firsts : FirstsOf ws (take 64 (drop 0 sets))
  sets_firsts =
      record {
        first = λ k h.
            let same = part_at 0 64 sets k k (omega arith) (omega (arith, shaped.nonterminals_high)) in
            subst (FirstMask (RuleOf ws) ((64 + k) ∷ [])) (sym same) (e.first k h);
      }
