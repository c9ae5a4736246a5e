-- FOLLOW over START END, where every nonterminal is reachable, by sets that hold nothing else and are closed under the rules: sound,
-- complete, therefore exact.
use Rattle.std.specs.Prelude.{ℕ, ◌+◌, ◌-◌, ◌≤◌, ◌<◌, ◌≡◌, true, List, [], ◌∷◌, ◌⊎◌, ◌↔◌, length, get_or}
use Rattle.std.proofs.Common.{sym, subst, inl, inr, ⊎_elim, arith}
use Rattle.grammar.specs.Theory.Masks.{NullMask}
use Rattle.grammar.specs.Words.{START, END, Terminal, terminal_count, nonterminal_count, rule_count, left_side, right_side, RuleSymbol, Shaped}
use Rattle.grammar.specs.Derivation.{All, Follow, Reachable}
use Rattle.grammar.specs.Grammar.{RuleOf, start_over_end}
use Rattle.grammar.specs.Theory.Leftmost.{to_der}
use Rattle.grammar.specs.Theory.Closed.{ClosedFollow, closed_follow, Followed, followed_at, Begins}
use Rattle.grammar.specs.Theory.RightSides.{right_symbols, rule_left}
use Rattle.sets.specs.Bits.{member}
use Rattle.grammar.specs.Theory.Firsts.{Fades, Starts, all_empty, begins_first, empty_closed, first_closed, first_self, terminal_first}
use Rattle.firsts.specs.Opens.{Opens}
use Rattle.firsts.specs.Masks.{FirstsOf, opens_exact}

-- The table holds FOLLOW of each nonterminal.
pub record FollowsOf (ws follows : List ℕ) : Type 0 where
  pub follow : (k t : ℕ) → k < nonterminal_count ws → Terminal t
      → (member (get_or follows k 0) t ≡ true) ↔ Follow (RuleOf ws) start_over_end (64 + k) t

-- Every nonterminal is reachable from START.
abbrev pub Reached : List ℕ → Type 0
Reached ws = (k : ℕ) → k < nonterminal_count ws → Reachable (RuleOf ws) (START ∷ []) (64 + k)

-- What holds of the table before and after each rule: it has 64 sets, every token in a set is in FOLLOW of its nonterminal,
-- and END is in that of START.
pub record SoundFollows (ws l : List ℕ) : Type 0 where
  pub size : length l ≡ 64
  pub sound : (k t : ℕ) → Terminal t → member (get_or l k 0) t ≡ true → Follow (RuleOf ws) start_over_end (64 + k) t
  pub start : member (get_or l 0 0) END ≡ true

-- Each nonterminal of the list has t in its set, where t begins what stands behind it, `base` behind the list.
pub data Fed (null : ℕ) (firsts : List ℕ) (base t : ℕ) (l : List ℕ) : List ℕ → Type 0 where
  nothing : Fed null firsts base t l []
  also : {X : ℕ} {α : List ℕ} → (64 ≤ X → Opens null firsts base t α → member (get_or l (X - 64) 0) t ≡ true) → Fed null firsts base t l α
      → Fed null firsts base t l (X ∷ α)

-- The right side of rule p is fed, with what follows its left side behind it.
abbrev pub ClosedFollows : List ℕ → ℕ → List ℕ → ℕ → List ℕ → Type 0
ClosedFollows ws null firsts p l = (k t : ℕ) → left_side ws p ≡ 64 + k → Fed null firsts (get_or l k 0) t l (right_side ws p)

-- ---- Complete

module _
    (ws : List ℕ)
    (s : Shaped ws)
    (null : ℕ)
    (nulls : NullMask (RuleOf ws) (nonterminal_count ws) null)
    (firsts : List ℕ)
    (exact : FirstsOf ws firsts)
    (l : List ℕ) where
  -- X is a terminal, or has t in its set.
  abbrev Behind : ℕ → ℕ → Type 0
  Behind t X = (X < 64) ⊎ (member (get_or l (X - 64) 0) t ≡ true)

  behind : (t X : ℕ) → RuleSymbol (terminal_count ws) (nonterminal_count ws) X → (64 ≤ X → member (get_or l (X - 64) 0) t ≡ true) → Behind t X
  behind t X (RuleSymbol.terminal a b) f = inl (omega (arith, s.terminals_high))
  behind t X (RuleSymbol.nonterminal a b) f = inr (f a)

  feeds : (t : ℕ) → Terminal t → (base : ℕ) (E : Type 0) → (E → member base t ≡ true) → {α : List ℕ}
      → All (RuleSymbol (terminal_count ws) (nonterminal_count ws)) α → Fed null firsts base t l α
      → Followed (Fades (RuleOf ws)) (Starts (RuleOf ws) t) (Behind t) E α
  feeds t i base E g a Fed.nothing = Followed.nothing
  feeds t i base E g (All.also {x = X} c a) (Fed.also {α = α} f rest) =
      let opens = (opens_exact ws s null nulls firsts exact t i {base = base} a).1 in
      Followed.also
      (λ b. behind t X c (λ h. f h (opens (inl (begins_first (RuleOf ws) i b)))))
      (λ n e. behind t X c (λ h. f h (opens (inr (all_empty (RuleOf ws) n, g e)))))
      (feeds t i base E g a rest)

  module _ (closed : (p : ℕ) → p < rule_count ws → ClosedFollows ws null firsts p l) (sound : SoundFollows ws l) where
    rules_closed : (t : ℕ) → Terminal t → ClosedFollow (RuleOf ws) (Fades (RuleOf ws)) (Starts (RuleOf ws) t) (Behind t)
    rules_closed t i p A β r =
        let low = rule_left ws p A β r in
        subst (Followed (Fades (RuleOf ws)) (Starts (RuleOf ws) t) (Behind t) (Behind t A)) (sym r.right)
        (feeds t i (get_or l (A - 64) 0) (Behind t A) (⊎_elim (λ h. absurd (omega arith)) (λ m. m)) (right_symbols ws s p r.counted)
        (closed p r.counted (A - 64) t (omega (arith, r.left))))

    end_first : (t : ℕ) → Begins (Fades (RuleOf ws)) (Starts (RuleOf ws) t) (END ∷ []) → END ≡ t
    end_first t (Begins.here h) = terminal_first (RuleOf ws) (rule_left ws) END t (omega arith) h
    end_first t (Begins.past _ x6) = elim x6 [ ]

    begins : (t : ℕ) → Followed (Fades (RuleOf ws)) (Starts (RuleOf ws) t) (Behind t) ⊥ start_over_end
    begins t =
        let low : END < 64 = omega arith in
        Followed.also (λ b. inr (subst (λ n. member (get_or l 0 0) n ≡ true) (end_first t b) sound.start)) (λ a e. absurd e)
        (Followed.also {X = END} (λ b. inl low) (λ a e. absurd e) Followed.nothing)

    complete : (k t : ℕ) → Follow (RuleOf ws) start_over_end (64 + k) t → member (get_or l k 0) t ≡ true
    complete k t f =
        let e : 64 + k - 64 ≡ k = omega arith in
        let i = f.token in
        ⊎_elim (λ h. absurd (omega arith)) (λ m. subst (λ n. member (get_or l n 0) t ≡ true) e m)
        (followed_at f.front
        (closed_follow (RuleOf ws) (Fades (RuleOf ws)) (Starts (RuleOf ws) t) (Behind t) (empty_closed (RuleOf ws))
        (first_closed (RuleOf ws) t i) (rules_closed t i) ⊥ (to_der (RuleOf ws) f.stands) (begins t))
        (Begins.here (first_self (RuleOf ws) t i)))

    -- ---- Exact

    pub follows_exact : FollowsOf ws l
    follows_exact = record { follow = λ k t h i. (sound.sound k t i, complete k t) }
