-- Masks of nonterminals that can be empty and of FIRST, and that by exact masks a walk over a list is exact.
use Rattle.std.specs.Prelude.{ℕ, ◌+◌, ◌-◌, ◌≤◌, ◌<◌, ◌≡◌, true, List, [], ◌∷◌, ◌⊎◌, ◌↔◌, get_or}
use Rattle.std.proofs.Common.{sym, subst, inl, inr, ⊎_elim, arith}
use Rattle.grammar.specs.Theory.Masks.{FirstMask, NullMask}
use Rattle.grammar.specs.Words.{Terminal, terminal_count, nonterminal_count, RuleSymbol, Shaped}
use Rattle.grammar.specs.Derivation.{All, CanBeEmpty, First}
use Rattle.grammar.specs.Grammar.{RuleOf}
use Rattle.grammar.specs.Theory.Members.{all_map}
use Rattle.grammar.specs.Theory.RightSides.{rule_left}
use Rattle.sets.specs.Bits.{member}
use Rattle.grammar.specs.Theory.Firsts.{
  Fades,
  Starts,
  all_empty,
  empty_all,
  begins_first,
  first_begins,
  first_self,
  terminal_first,
  terminal_stays,
}
use Rattle.firsts.specs.Opens.{Opens, Says, Hears, opens_say, begins_open, behind_open}

-- The table holds FIRST of each nonterminal.
pub record FirstsOf (ws firsts : List ℕ) : Type 0 where
  pub first : (k : ℕ) → k < nonterminal_count ws → FirstMask (RuleOf ws) ((64 + k) ∷ []) (get_or firsts k 0)

pub number_symbol : (X : ℕ) → 64 ≤ X → 64 + (X - 64) ≡ X
number_symbol X l = omega arith

module _ (ws : List ℕ) (s : Shaped ws) (null : ℕ) (nulls : NullMask (RuleOf ws) (nonterminal_count ws) null) where
  pub null_says : (X : ℕ) → RuleSymbol (terminal_count ws) (nonterminal_count ws) X → 64 ≤ X
      → member null (X - 64) ≡ true → Fades (RuleOf ws) X
  null_says X (RuleSymbol.terminal a b) l m = absurd (omega (arith, s.terminals_high))
  null_says X (RuleSymbol.nonterminal a b) l m = subst (Fades (RuleOf ws)) (number_symbol X l) ((nulls (X - 64) (omega arith)).0 m)

  pub null_hears : (X : ℕ) → RuleSymbol (terminal_count ws) (nonterminal_count ws) X → Fades (RuleOf ws) X
      → (64 ≤ X) × (member null (X - 64) ≡ true)
  null_hears X (RuleSymbol.terminal a b) d =
      absurd (terminal_stays (RuleOf ws) (rule_left ws) X (omega (arith, s.terminals_high)) d)
  null_hears X (RuleSymbol.nonterminal a b) d =
      (a, (nulls (X - 64) (omega arith)).1 (subst (Fades (RuleOf ws)) (sym (number_symbol X a)) d))

  module _ (firsts : List ℕ) (f : FirstsOf ws firsts) (t : ℕ) (l : Terminal t) where
    says : (X : ℕ) → RuleSymbol (terminal_count ws) (nonterminal_count ws) X
        → Says null firsts t (Fades (RuleOf ws)) (Starts (RuleOf ws) t) X
    says X c =
        record {
          token = λ h e. subst (Starts (RuleOf ws) t) (sym e) (first_self (RuleOf ws) t l);
          first = λ h m. first X c h m;
          fades = null_says X c;
        }
      where
        first : (X : ℕ) → RuleSymbol (terminal_count ws) (nonterminal_count ws) X → 64 ≤ X → member (get_or firsts (X - 64) 0) t ≡ true
            → Starts (RuleOf ws) t X
        first X (RuleSymbol.terminal a b) h m = absurd (omega (arith, s.terminals_high))
        first X (RuleSymbol.nonterminal a b) h m =
            subst (Starts (RuleOf ws) t) (number_symbol X h) ((f.first (X - 64) (omega arith) t l).0 m)

    hears : (X : ℕ) → RuleSymbol (terminal_count ws) (nonterminal_count ws) X
        → Hears null firsts t (Fades (RuleOf ws)) (Starts (RuleOf ws) t) X
    hears X c = record { begin = begin X c; fades = null_hears X c }
      where
        begin : (X : ℕ) → RuleSymbol (terminal_count ws) (nonterminal_count ws) X → Starts (RuleOf ws) t X
            → ((X < 64) × (X ≡ t)) ⊎ ((64 ≤ X) × (member (get_or firsts (X - 64) 0) t ≡ true))
        begin X (RuleSymbol.terminal a b) d =
            let h : X < 64 = omega (arith, s.terminals_high) in inl (h, terminal_first (RuleOf ws) (rule_left ws) X t h d)
        begin X (RuleSymbol.nonterminal a b) d =
            inr (a, (f.first (X - 64) (omega arith) t l).1 (subst (Starts (RuleOf ws) t) (sym (number_symbol X a)) d))

    -- By exact masks, a walk finds exactly FIRST of the list, and what is behind it where the list can be empty.
    pub opens_exact : {base : ℕ} {α : List ℕ} → All (RuleSymbol (terminal_count ws) (nonterminal_count ws)) α
        → Opens null firsts base t α ↔ (First (RuleOf ws) α t ⊎ (CanBeEmpty (RuleOf ws) α × (member base t ≡ true)))
    opens_exact {base} {α} a = (to, from)
      where
        to : Opens null firsts base t α → First (RuleOf ws) α t ⊎ (CanBeEmpty (RuleOf ws) α × (member base t ≡ true))
        to o =
            ⊎_elim (λ b. inl (begins_first (RuleOf ws) l b)) (λ k. inr (all_empty (RuleOf ws) k.0, k.1))
            (opens_say null firsts t (Fades (RuleOf ws)) (Starts (RuleOf ws) t) (all_map says a) o)

        from : First (RuleOf ws) α t ⊎ (CanBeEmpty (RuleOf ws) α × (member base t ≡ true)) → Opens null firsts base t α
        from (inl g) =
            begins_open null firsts t (Fades (RuleOf ws)) (Starts (RuleOf ws) t) (all_map hears a) (first_begins (RuleOf ws) t g)
        from (inr g) =
            behind_open null firsts t (Fades (RuleOf ws)) (Starts (RuleOf ws) t) (all_map hears a) (empty_all (RuleOf ws) g.0) g.1
