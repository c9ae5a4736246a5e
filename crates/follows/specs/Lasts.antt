-- The nonterminals that can stand last in a right side, by the mask of nonterminals that can be empty: what follows the left side follows
-- them. The walk from the end notes each nonterminal behind which all can be empty.
use Rattle.std.specs.Prelude.{ℕ, ◌+◌, ◌-◌, ◌≤◌, ◌<◌, ◌≡◌, refl, Bool, true, false, List, [], ◌∷◌, ◌++◌, ◌↔◌, length, drop}
use Rattle.std.proofs.Common.{sym, ap, ◌∙◌, subst, ⊎_elim, arith}
use Rattle.grammar.specs.Theory.Masks.{NullMask}
use Rattle.grammar.specs.Words.{terminal_count, nonterminal_count, rule_count, right_side, RuleSymbol, Shaped}
use Rattle.grammar.specs.Derivation.{All, Follow}
use Rattle.grammar.specs.Grammar.{RuleOf, start_over_end}
use Rattle.grammar.specs.Theory.Closed.{all_rest}
use Rattle.grammar.specs.Theory.Firsts.{Fades, all_empty}
use Rattle.grammar.specs.Theory.Follows.{follow_last}
use Rattle.grammar.specs.Theory.RightSides.{right_symbols, rule_at}
use Rattle.shape.specs.Accessors.{LeftOf}
use Rattle.base.specs.Telling.{Tells, told, tells_unique}
use Rattle.sets.specs.Bits.{member}
use Rattle.sets.specs.Operations.{with}
use Rattle.sets.specs.Laws.{empty_none, with_same, with_keeps, with_cases}
use Rattle.growth.specs.Closing.{Noted}
use Rattle.firsts.specs.Masks.{number_symbol, null_says}
use Rattle.firsts.specs.Walk.{At, at_front, drop_over}

-- X can be empty, by the mask.
abbrev pub NullBy : ℕ → ℕ → Type 0
NullBy null X = (64 ≤ X) × (member null (X - 64) ≡ true)

-- X can stand last in the list: behind it stand only nonterminals that can be empty.
pub data Last (null X : ℕ) : List ℕ → Type 0 where
  here : {Y : ℕ} {α : List ℕ} → X ≡ Y → All (NullBy null) α → Last null X (Y ∷ α)
  later : {Y : ℕ} {α : List ℕ} → Last null X α → Last null X (Y ∷ α)

-- The bits of r are the nonterminals that can stand last in the list.
pub record LastsOf (null : ℕ) (α : List ℕ) (r : ℕ) : Type 0 where
  pub exact : (j : ℕ) → (member r j ≡ true) ↔ Last null (64 + j) α

-- ---- What follows the left side follows them

-- The list in parts: what is in front of X, X, and what can be empty.
last_parts : {null X : ℕ} {α : List ℕ} → Last null X α → (Q : Type 0)
    → ((b c : List ℕ) → α ≡ b ++ (X ∷ c) → All (NullBy null) c → Q) → Q
last_parts (Last.here {α = α} e a) Q f = f [] α (ap (λ Y. Y ∷ α) (sym e)) a
last_parts (Last.later {Y = Y} l) Q f = last_parts l Q (λ b c e a. f (Y ∷ b) c (ap (λ w. Y ∷ w) e) a)

module _ (ws : List ℕ) (s : Shaped ws) (null : ℕ) (nulls : NullMask (RuleOf ws) (nonterminal_count ws) null) where
  fades : {α : List ℕ} → All (RuleSymbol (terminal_count ws) (nonterminal_count ws)) α → All (NullBy null) α → All (Fades (RuleOf ws)) α
  fades All.nothing All.nothing = All.nothing
  fades (All.also {x = X} c a) (All.also n b) = All.also (null_says ws s null nulls X c n.0 n.1) (fades a b)

  pub last_follow : {p k X t : ℕ} → p < rule_count ws → LeftOf ws p k → Last null X (right_side ws p)
      → Follow (RuleOf ws) start_over_end (64 + k) t → Follow (RuleOf ws) start_over_end X t
  last_follow {p} {X = X} {t = t} h left l f =
      last_parts l (Follow (RuleOf ws) start_over_end X t)
      (λ b c e a.
      let behind : All (RuleSymbol (terminal_count ws) (nonterminal_count ws)) (X ∷ c) =
      all_rest b (subst (All (RuleSymbol (terminal_count ws) (nonterminal_count ws))) e (right_symbols ws s p h)) in
      follow_last (RuleOf ws) start_over_end (rule_at ws p h)
      (subst (λ Y. Follow (RuleOf ws) start_over_end Y t) (sym left.names) f) b c X e
      (all_empty (RuleOf ws) (fades (all_rest (X ∷ []) behind) a)))

-- ---- The walk

lasts_none : (null : ℕ) → LastsOf null [] 0
lasts_none null = record { exact = λ j. (λ m. absurd (empty_none j m), λ l. elim l [ ]) }

-- A terminal in front is no nonterminal,
lasts_token : {null x r : ℕ} {α : List ℕ} → x < 64 → LastsOf null α r → LastsOf null (x ∷ α) r
lasts_token {null} {x} {r} {α} low f = record { exact = λ j. (λ m. Last.later ((f.exact j).0 m), back j) }
  where
    back : (j : ℕ) → Last null (64 + j) (x ∷ α) → member r j ≡ true
    back j (Last.here e a) = absurd (omega arith)
    back j (Last.later l) = (f.exact j).1 l

-- and a nonterminal in front of what can be empty is another one.
lasts_name : {null x r : ℕ} {α : List ℕ} → 64 ≤ x → All (NullBy null) α → LastsOf null α r → LastsOf null (x ∷ α) (with r (x - 64))
lasts_name {null} {x} {r} {α} high a f = record { exact = λ j. (forth j, back j) }
  where
    forth : (j : ℕ) → member (with r (x - 64)) j ≡ true → Last null (64 + j) (x ∷ α)
    forth j m =
        ⊎_elim (λ e. Last.here (ap (λ n. 64 + n) (sym e) ∙ number_symbol x high) a) (λ h. Last.later ((f.exact j).0 h))
        (with_cases r (x - 64) j m)

    back : (j : ℕ) → Last null (64 + j) (x ∷ α) → member (with r (x - 64)) j ≡ true
    back j (Last.here e b) =
        let at : x - 64 ≡ j = omega arith in subst (λ n. member (with r (x - 64)) n ≡ true) at (with_same r (x - 64))
    back j (Last.later l) = with_keeps r (x - 64) j ((f.exact j).1 l)

-- In front of what cannot be empty nothing more can stand last.
lasts_behind : {null x r : ℕ} {α : List ℕ} → (All (NullBy null) α → ⊥) → LastsOf null α r → LastsOf null (x ∷ α) r
lasts_behind {null} {x} {r} {α} stays f = record { exact = λ j. (λ m. Last.later ((f.exact j).0 m), back j) }
  where
    back : (j : ℕ) → Last null (64 + j) (x ∷ α) → member r j ≡ true
    back j (Last.here e a) = absurd (stays a)
    back j (Last.later l) = (f.exact j).1 l

-- The walk has come to the rest α: `set` has what can stand last there, and `ends` tells whether all of it can be empty.
pub record Lasting (null : ℕ) (α : List ℕ) (set : ℕ) (ends : Bool) : Type 0 where
  pub lasts : LastsOf null α set
  pub empties : Tells (All (NullBy null) α) ends

-- Symbol x was noted as one that can stand last, where it is a nonterminal and `ends` tells so.
pub data NotedLast (old x : ℕ) (ends : Bool) (new : ℕ) : Type 0 where
  terminal : x < 64 → new ≡ old → NotedLast old x ends new
  nonterminal : 64 ≤ x → Noted old (x - 64) ends new → NotedLast old x ends new

pub lasting_begins : (α : List ℕ) {null i : ℕ} → i ≡ length α → Lasting null (drop i α) 0 true
lasting_begins α {null} e =
    subst (λ β. Lasting null β 0 true) (sym (drop_over α (omega arith))) (record { lasts = lasts_none null; empties = told All.nothing })

lasting_more : {null x set more : ℕ} {ends next : Bool} {α : List ℕ} → Lasting null α set ends → NotedLast set x ends more
    → Tells (NullBy null x × (ends ≡ true)) next → Lasting null (x ∷ α) more next
lasting_more {null} {x} {set} {more} {ends} {next} {α} w noted tells =
    record {
      lasts = lasts noted;
      empties = record { yes = λ e. let q = tells.yes e in All.also q.0 (w.empties.yes q.1); no = λ e a. tells.no e (both a) };
    }
  where
    both : All (NullBy null) (x ∷ α) → NullBy null x × (ends ≡ true)
    both (All.also n a) = (n, sym (tells_unique true ends (told a) w.empties))

    name : (yes : Bool) → ends ≡ yes → 64 ≤ x → Noted set (x - 64) ends more → LastsOf null (x ∷ α) more
    name true e high n = subst (LastsOf null (x ∷ α)) (sym (n.noted e)) (lasts_name high (w.empties.yes e) w.lasts)
    name false e high n = subst (LastsOf null (x ∷ α)) (sym (n.same e)) (lasts_behind (w.empties.no e) w.lasts)

    lasts : NotedLast set x ends more → LastsOf null (x ∷ α) more
    lasts (NotedLast.terminal low e) = subst (LastsOf null (x ∷ α)) (sym e) (lasts_token low w.lasts)
    lasts (NotedLast.nonterminal high n) = name ends refl high n

pub lasting_goes : {α : List ℕ} {null j x set more : ℕ} {ends next : Bool} → Lasting null (drop (j + 1) α) set ends → At α j x
    → NotedLast set x ends more → Tells (NullBy null x × (ends ≡ true)) next → Lasting null (drop j α) more next
lasting_goes {null = null} {more = more} {next = next} w at noted tells =
    subst (λ β. Lasting null β more next) (sym (at_front at)) (lasting_more w noted tells)

pub lasting_ends : (α : List ℕ) {null i set : ℕ} {ends : Bool} → Lasting null (drop i α) set ends → i ≡ 0 → LastsOf null α set
lasting_ends α {null} {set = set} w e = subst (λ n. LastsOf null (drop n α) set) e w.lasts
