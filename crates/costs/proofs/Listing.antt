-- The list of the nonterminals whose cost fell: a rule that mentions none of them is settled.
--     list_begins   at first only the rules that mention no nonterminal are to be visited
--     list_goes     the rules that mention the one taken off are visited
--     list_ends     behind the list all rules are settled
--     list_less     it ends: a nonterminal that goes on it costs less
use Prim.Native.Nat.{ℕ, ◌+◌, ◌-◌, ◌*◌, ◌/◌, ◌^◌, ◌≤◌, ◌<◌}
use mathlib.Core.Path.{◌≡◌, sym, ap, ◌∙◌, subst}
use mathlib.Core.Bool.{true}
use mathlib.Core.List.Memᴰ
use mathlib.Core.List.{List, [], ◌∷◌, Memᴰ}
use mathlib.Core.Logic.{◌⊎◌, inl, inr, ⊎_elim}
use native.Mathlib.Omega.{arith}
use lib.ListN.{length}
use Rattle.base.specs.Choices.{below_or, same_or}
use Rattle.grammar.specs.Words.{terminal_count, nonterminal_count, rule_count, left_side, right_side, RuleSymbol, Shaped}
use Rattle.grammar.specs.Theory.Closed.{total}
use Rattle.grammar.specs.Theory.Members.{all_at}
use Rattle.grammar.specs.Theory.RightSides.{right_symbols}
use Rattle.sets.specs.Bits.{member}
use Rattle.sets.specs.Operations.{union, without, Greatest}
use Rattle.sets.specs.Laws.{empty_none, union_left, union_none}
use Rattle.sets.specs.Taking.{without_keeps, without_less}
use Rattle.growth.specs.Sums.{first_less, second_less}
use Rattle.mentions.specs.Mentions.{Mentions, InRow, MentionsOf}
use Rattle.costs.specs.Held.{Held, Fresh, SettledAt, Stands, cost_sum, entry}
use Rattle.costs.specs.Visiting.{Waits, Revised, Spans, waits_right}

pub record Listing (ws l : List ℕ) (list : ℕ) : Type 0 where
  pub held : Held ws l
  pub waits : (q : ℕ) → q < rule_count ws → Waits ws list q ⊎ SettledAt ws q l

-- The words that the rules take.
pub spans : {ws mentions : List ℕ} {count : ℕ} → MentionsOf ws mentions → count ≡ rule_count ws → Spans ws mentions ((count + 63) / 64)
spans {ws} {mentions} m e =
    record { few = subst (λ n. 65 * ((n + 63) / 64) ≤ length mentions) (sym e) m.wide; all = omega arith }

-- ---- The beginning

-- A nonterminal stands in a list, or none does.
some_or_none : (α : List ℕ) → ((k : ℕ) × Memᴰ (64 + k) α) ⊎ ((k : ℕ) → Memᴰ (64 + k) α → ⊥)
some_or_none [] = inr (λ k m. Memᴰ.not-nil m)
some_or_none (X ∷ α) =
    ⊎_elim
    (λ low. ⊎_elim (λ s. inl (s.0, Memᴰ.tail s.1)) (λ none. inr (λ k. only k low (none k))) (some_or_none α))
    (λ high. let e : 64 + (X - 64) ≡ X = omega arith in inl (X - 64, Memᴰ.head e))
    (below_or X 64)
  where
    only : (k : ℕ) → X < 64 → (Memᴰ (64 + k) α → ⊥) → Memᴰ (64 + k) (X ∷ α) → ⊥
    only k low none (Memᴰ.head e) = omega arith
    only k low none (Memᴰ.tail m) = none m

-- A member costs no more than all.
part_of : (f : ℕ → ℕ) {X : ℕ} {α : List ℕ} → Memᴰ X α → f X ≤ total f α
unfolding total
part_of f (Memᴰ.head e) = omega (arith, ap f e)
part_of f (Memᴰ.tail m) = omega (arith, part_of f m)

module _ {ws l : List ℕ} (s : Shaped ws) (fresh : Fresh ws l) where
  named : {k : ℕ} → RuleSymbol (terminal_count ws) (nonterminal_count ws) (64 + k) → k < nonterminal_count ws
  named (RuleSymbol.terminal low high) = absurd (omega (arith, s.terminals_high))
  named (RuleSymbol.nonterminal low high) = omega arith

  own : (q : ℕ) → q < rule_count ws → entry l (left_side ws q) ≡ 1000000
  unfolding left_side
  own q h = fresh.unknown _ (s.rules q h).left

  unvisited : (q k : ℕ) → q < rule_count ws → Mentions ws q k → SettledAt ws q l
  unvisited q k h m =
      let left = own q h in
      let one = fresh.unknown k (named (all_at (right_symbols ws s q h) m)) in
      let all = part_of (entry l) m in
      record {
        below = omega arith;
        known = λ few. absurd (omega arith);
        lowest = λ e few. absurd (omega arith);
      }

  pub list_begins : {mentions new : List ℕ} {list : ℕ} → MentionsOf ws mentions → Revised ws (InRow mentions 64) l new list
      → Listing ws new list
  list_begins {mentions} m v =
      record {
        held = v.held;
        waits = λ q h.
            v.settles q h
            (⊎_elim (λ some. inr (unvisited q some.0 h some.1))
            (λ none. inl ((m.plain q).1 (h, none)))
            (some_or_none (right_side ws q)));
      }

-- ---- The list

pub list_goes : {ws mentions old new : List ℕ} {list k fallen : ℕ} → MentionsOf ws mentions → Listing ws old list → Greatest list k
    → Revised ws (InRow mentions k) old new fallen → Listing ws new (union (without list k) fallen)
list_goes {ws} {mentions} {old} {new} {list} {k} {fallen} m f at v =
    record { held = v.held; waits = λ q h. ⊎_elim (waiting q h) (λ settled. visited q h (inr settled)) (f.waits q h) }
  where
    visited : (q : ℕ) → q < rule_count ws → InRow mentions k q ⊎ SettledAt ws q old
        → Waits ws (union (without list k) fallen) q ⊎ SettledAt ws q new
    visited q h x = ⊎_elim (λ w. inl (waits_right (without list k) w)) inr (v.settles q h x)

    waiting : (q : ℕ) → q < rule_count ws → Waits ws list q → Waits ws (union (without list k) fallen) q ⊎ SettledAt ws q new
    waiting q h w =
        ⊎_elim
        (λ e.
        visited q h
        (inl
        ((m.named k q at.below).1 (h, subst (λ n. Mentions ws q n) (sym e) w.mentions))))
        (λ n.
        inl
        (record {
          number = w.number;
          listed = union_left (without list k) fallen w.number (without_keeps list k w.number at.held n w.listed);
          mentions = w.mentions;
        }))
        (same_or k w.number)

pub list_ends : {ws l : List ℕ} {list : ℕ} → Listing ws l list → list ≡ 0 → Stands ws l
list_ends f e =
    record {
      held = f.held;
      settles = λ q h.
          ⊎_elim (λ w. absurd (empty_none w.number (subst (λ s. member s w.number ≡ true) e w.listed))) (λ settled. settled)
          (f.waits q h);
    }

-- What is left to be done.
abbrev pub left : List ℕ → ℕ → ℕ
left l list = cost_sum l * 2 ^ 64 + list

pub list_less : {ws old new : List ℕ} {Done : ℕ → Type 0} {list k fallen : ℕ} → Greatest list k → Revised ws Done old new fallen
    → union (without list k) fallen < 2 ^ 64 → left new (union (without list k) fallen) < left old list
list_less {old = old} {new} {list = list} {k} {fallen} at v small =
    ⊎_elim
    (λ zero.
    let none : fallen ≡ 0 = omega arith in
    let rest = ap (λ n. union (without list k) n) none ∙ union_none (without list k) in
    second_less (2 ^ 64) (cost_sum old) (cost_sum new) list (union (without list k) fallen) (v.level none)
    (subst (λ n. n < list) (sym rest) (without_less list k at.held)))
    (λ some. first_less (2 ^ 64) (cost_sum old) (cost_sum new) list (union (without list k) fallen) (v.lower some) small)
    (below_or fallen 1)
