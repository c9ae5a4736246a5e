-- A walk over a right side from its end that adds to each nonterminal what begins the rest behind it.
use Rattle.std.specs.Prelude.{ℕ, ◌+◌, ◌-◌, ◌≤◌, ◌<◌, ◌≡◌, Bool, true, List, [], ◌∷◌, ◌++◌, length, get_or, take, drop}
use Rattle.std.proofs.Common.{sym, ap, ◌∙◌, subst, ⊎_elim, arith, take-append-drop}
use Rattle.grammar.specs.Words.{START, END, Terminal, terminal_count, nonterminal_count, rule_count, left_side, right_side, RuleSymbol}
use Rattle.grammar.specs.Words.{word, rule_place}
use Rattle.grammar.specs.Derivation.{All, Derives, Follow, Reachable}
use Rattle.grammar.specs.Grammar.{RuleOf, start_over_end}
use Rattle.grammar.specs.Theory.Closed.{all_rest}
use Rattle.grammar.specs.Theory.RightSides.{right_symbols, rule_at}
use Rattle.sets.specs.Bits.{member}
use Rattle.sets.specs.Operations.{with}
use Rattle.sets.specs.Laws.{empty_none, with_same, with_cases}
use Rattle.base.specs.Blank.{Blank}
use Rattle.growth.specs.Added.{Added, Kept, blank_none}
use Rattle.firsts.specs.Opens.{Opens, FirstWith}
use Rattle.firsts.specs.Asked.{Asked}
use Rattle.firsts.specs.Masks.{FirstsOf, opens_exact}
use Rattle.firsts.specs.Walk.{At, Walked, at_front, drop_over, walk_begins, walk_goes}
use Rattle.grammar.specs.Theory.Follows.{follow_inside, with_end}
use Rattle.follows.specs.Follows.{Reached, SoundFollows, Fed}

-- The members of `mask` were added to the set of symbol x, where x is a nonterminal; a terminal has none.
pub data AddedBehind (old : List ℕ) (x mask : ℕ) (new : List ℕ) : Type 0 where
  terminal : x < 64 → new ≡ old → AddedBehind old x mask new
  nonterminal : {changed : Bool} → 64 ≤ x → Added old (x - 64) mask new changed → AddedBehind old x mask new

behind_kept : {old new : List ℕ} {x mask : ℕ} → AddedBehind old x mask new → Kept old new
behind_kept (AddedBehind.terminal low e) j t m = subst (λ l. member (get_or l j 0) t ≡ true) (sym e) m
behind_kept (AddedBehind.nonterminal high a) j t m = a.keeps j t m

behind_holds : {old new : List ℕ} {x mask : ℕ} → AddedBehind old x mask new → 64 ≤ x → (t : ℕ) → member mask t ≡ true
    → member (get_or new (x - 64) 0) t ≡ true
behind_holds (AddedBehind.terminal low e) high t m = absurd (omega arith)
behind_holds (AddedBehind.nonterminal high a) i t m = a.holds t m

-- Where each token of the mask follows x, the table stays sound.
behind_follows : {ws old new : List ℕ} {x mask : ℕ} → AddedBehind old x mask new → SoundFollows ws old
    → ((t : ℕ) → Terminal t → member mask t ≡ true → Follow (RuleOf ws) start_over_end x t) → SoundFollows ws new
behind_follows {ws} (AddedBehind.terminal low e) s f = subst (SoundFollows ws) (sym e) s
behind_follows {ws} {x = x} (AddedBehind.nonterminal high a) s f =
    record {
      size = a.same ∙ s.size;
      sound = λ j t token m.
          ⊎_elim (s.sound j t token)
          (λ d.
          let named : x ≡ 64 + j = omega (arith, d.0) in
          subst (λ X. Follow (RuleOf ws) start_over_end X t) named (f t token d.1))
          (a.source j t m);
      start = a.keeps 0 END s.start;
    }

pub fed_kept : {null : ℕ} {firsts : List ℕ} {base t : ℕ} {old new α : List ℕ} → Kept old new → Fed null firsts base t old α
    → Fed null firsts base t new α
fed_kept k Fed.nothing = Fed.nothing
fed_kept {t = t} k (Fed.also {X = X} f rest) = Fed.also (λ high o. k (X - 64) t (f high o)) (fed_kept k rest)

-- Each nonterminal of rule p has what begins the rest behind it.
abbrev pub Tails : List ℕ → ℕ → List ℕ → ℕ → List ℕ → Type 0
Tails ws null firsts p l = (t : ℕ) → Fed null firsts 0 t l (right_side ws p)

-- What a rule does.
pub record Tailed (ws : List ℕ) (null : ℕ) (firsts : List ℕ) (p : ℕ) (old new : List ℕ) : Type 0 where
  pub sound : SoundFollows ws new
  pub kept : Kept old new
  pub tails : Tails ws null firsts p new

-- The walk has come to symbol i: `set` begins the rest from there on, and every nonterminal of the rest is fed.
pub record Feeding (ws : List ℕ) (null : ℕ) (firsts : List ℕ) (p i set : ℕ) (old new : List ℕ) : Type 0 where
  pub walked : Walked ws null firsts p 0 i set
  pub sound : SoundFollows ws new
  pub kept : Kept old new
  pub fed : (t : ℕ) → Fed null firsts 0 t new (drop i (right_side ws p))

pub feeding_begins : {ws : List ℕ} {null : ℕ} {firsts : List ℕ} {p i : ℕ} {old : List ℕ} → i ≡ length (right_side ws p)
    → SoundFollows ws old → Feeding ws null firsts p i 0 old old
feeding_begins {ws} {null} {firsts} {p} {old = old} e s =
    record {
      walked = walk_begins null firsts 0 e;
      sound = s;
      kept = λ j t m. m;
      fed = λ t. subst (Fed null firsts 0 t old) (sym (drop_over (right_side ws p) (omega arith))) Fed.nothing;
    }

module _
    {ws : List ℕ}
    {null : ℕ}
    {firsts : List ℕ}
    (asked : Asked ws null firsts)
    (exact : FirstsOf ws firsts)
    (reached : Reached ws)
    {p : ℕ}
    (h : p < rule_count ws) where
  -- The left side is reachable.
  left_reached : Reachable (RuleOf ws) start_over_end (left_side ws p)
  unfolding left_side
  left_reached = with_end (RuleOf ws) (reached (word ws (rule_place ws p)) (asked.shaped.rules p h).left)

  -- What the walk finds behind a symbol does follow it.
  behind_sound : {j x t : ℕ} → At (right_side ws p) j x → Terminal t → Opens null firsts 0 t (drop (j + 1) (right_side ws p))
      → Follow (RuleOf ws) start_over_end x t
  behind_sound {j} {x} {t} at token o =
      ⊎_elim
      (λ g. follow_inside (RuleOf ws) start_over_end (rule_at ws p h) left_reached (take j β) (drop (j + 1) β) x parts g)
      (λ g. absurd (empty_none t g.1))
      ((opens_exact ws asked.shaped null asked.nulls firsts exact t token symbols).0 o)
    where
      β : List ℕ
      β = right_side ws p

      parts : β ≡ take j β ++ (x ∷ drop (j + 1) β)
      parts = sym (take-append-drop j β) ∙ ap (λ w. take j β ++ w) (at_front at)

      symbols : All (RuleSymbol (terminal_count ws) (nonterminal_count ws)) (drop (j + 1) β)
      symbols =
          all_rest (take (j + 1) β)
          (subst (All (RuleSymbol (terminal_count ws) (nonterminal_count ws))) (sym (take-append-drop (j + 1) β))
          (right_symbols ws asked.shaped p h))

  pub feeding_goes : {j set x r : ℕ} {old mid new : List ℕ} → Feeding ws null firsts p (j + 1) set old mid → At (right_side ws p) j x
      → AddedBehind mid x set new → FirstWith null firsts set (x ∷ []) r → Feeding ws null firsts p j r old new
  feeding_goes {j} {set} {x} {new = new} w at add f =
      record {
        walked = walk_goes w.walked at f;
        sound = behind_follows add w.sound (λ t token m. behind_sound at token ((w.walked.found.exact t).0 m));
        kept = λ j t m. behind_kept add j t (w.kept j t m);
        fed = λ t.
            subst (Fed null firsts 0 t new) (sym (at_front at))
            (Fed.also (λ high o. behind_holds add high t ((w.walked.found.exact t).1 o)) (fed_kept (behind_kept add) (w.fed t)));
      }

-- The whole right side is fed.
pub feeding_ends : {ws : List ℕ} {null : ℕ} {firsts : List ℕ} {p i set : ℕ} {old new : List ℕ} → Feeding ws null firsts p i set old new
    → i ≡ 0 → Tailed ws null firsts p old new
feeding_ends {ws} {null} {firsts} {p} {new = new} w e =
    record {
      sound = w.sound;
      kept = w.kept;
      tails = λ t. subst (λ n. Fed null firsts 0 t new (drop n (right_side ws p))) e (w.fed t);
    }

-- The first table: END follows START.
pub follows_begin : {ws old new : List ℕ} {mask : ℕ} {changed : Bool} → Blank 64 old → mask ≡ with 0 END → Added old 0 mask new changed
    → SoundFollows ws new
follows_begin {ws} blank single a =
    record {
      size = a.same ∙ blank.size;
      sound = λ k t token m.
          ⊎_elim (λ h. absurd (blank_none blank k t h))
          (λ c.
          ⊎_elim (λ i. begins k t token c.0 i) (λ h. absurd (empty_none t h))
          (with_cases 0 END t (subst (λ z. member z t ≡ true) single c.1)))
          (a.source k t m);
      start = a.holds END (subst (λ z. member z END ≡ true) (sym single) (with_same 0 END));
    }
  where
    begins : (k t : ℕ) → Terminal t → k ≡ 0 → END ≡ t → Follow (RuleOf ws) start_over_end (64 + k) t
    begins k t token e i =
        let symbol : START ≡ 64 + k = omega arith in
        record {
          token = token;
          front = [];
          rest = [];
          stands = subst (λ X. Derives (RuleOf ws) start_over_end (X ∷ t ∷ [])) symbol
              (subst (λ u. Derives (RuleOf ws) start_over_end (START ∷ u ∷ [])) i Derives.done);
        }
