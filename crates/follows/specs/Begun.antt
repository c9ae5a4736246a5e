-- One pass over the rules for FOLLOW: each nonterminal of a right side gets what begins the rest behind it, and the left side feeds those
-- that can stand last.
--     begin_begins, begin_none, begin_goes, begin_ends   the rules
--     begun_closed                                       what comes of it along the list is FOLLOW
use Rattle.std.specs.Prelude.{ℕ, ◌+◌, ◌-◌, ◌≤◌, ◌<◌, ◌≡◌, refl, Bool, true, false, List, ◌⊎◌, length, get_or}
use Rattle.std.proofs.Common.{sym, ◌∙◌, subst, inl, inr, ⊎_elim, arith, below_more}
use Rattle.grammar.specs.Words.{END, Terminal, rule_count, left_side, right_side}
use Rattle.grammar.specs.Derivation.{All, Follow}
use Rattle.grammar.specs.Grammar.{RuleOf, start_over_end}
use Rattle.shape.specs.Accessors.{LeftOf}
use Rattle.sets.specs.Bits.{member}
use Rattle.sets.specs.Operations.{with}
use Rattle.sets.specs.Laws.{with_same, with_keeps}
use Rattle.base.specs.Blank.{Blank}
use Rattle.growth.specs.Added.{Added, blank_none}
use Rattle.growth.specs.Closing.{Closing, Comes, Listed, Noted, closing_has}
use Rattle.firsts.specs.Opens.{Opens}
use Rattle.firsts.specs.Asked.{Asked}
use Rattle.firsts.specs.Masks.{FirstsOf, number_symbol}
use Rattle.follows.specs.Follows.{FollowsOf, SoundFollows, Fed, ClosedFollows, follows_exact}
use Rattle.follows.specs.Feeding.{Tails, Tailed, fed_kept}
use Rattle.follows.specs.Lasts.{NullBy, Last, LastsOf, last_follow}

-- What holds before and after each rule: every token in a set is in FOLLOW of its nonterminal, a nonterminal feeds only those that are
-- followed by all that follows it, and the list has those that feed one.
pub record Begun (ws feeds sets : List ℕ) (list : ℕ) : Type 0 where
  pub size : length feeds ≡ 64
  pub sound : SoundFollows ws sets
  pub passes : (k j t : ℕ) → member (get_or feeds k 0) j ≡ true → Follow (RuleOf ws) start_over_end (64 + k) t
      → Follow (RuleOf ws) start_over_end (64 + j) t
  pub listed : Listed feeds list

-- The left side of rule p feeds each nonterminal that can stand last in its right side.
abbrev pub FeedsLasts : List ℕ → ℕ → ℕ → List ℕ → Type 0
FeedsLasts ws null p feeds =
    (k j : ℕ) → left_side ws p ≡ 64 + k → Last null (64 + j) (right_side ws p) → member (get_or feeds k 0) j ≡ true

-- What a rule does: its nonterminals have what begins the rest behind them, and r has those that can stand last.
pub record RuleFed (ws : List ℕ) (null : ℕ) (firsts : List ℕ) (p : ℕ) (old new : List ℕ) (r : ℕ) : Type 0 where
  pub tailed : Tailed ws null firsts p old new
  pub lasts : LastsOf null (right_side ws p) r

-- What the rules in front of p do.
pub record RulesFed (ws : List ℕ) (null : ℕ) (firsts : List ℕ) (p : ℕ) (feeds sets : List ℕ) (list : ℕ) : Type 0 where
  pub begun : Begun ws feeds sets list
  pub tails : (q : ℕ) → q < p → Tails ws null firsts q sets
  pub lasts : (q : ℕ) → q < p → FeedsLasts ws null q feeds

-- What all of them do.
abbrev pub AllFed : List ℕ → ℕ → List ℕ → List ℕ → List ℕ → ℕ → Type 0
AllFed ws null firsts = RulesFed ws null firsts (rule_count ws)

-- ---- The rules

-- Nothing feeds another at first.
pub begin_begins : {ws feeds sets : List ℕ} → Blank 64 feeds → SoundFollows ws sets → Begun ws feeds sets 0
begin_begins f s =
    record {
      size = f.size;
      sound = s;
      passes = λ k j t m. absurd (blank_none f k j m);
      listed = λ k j m. absurd (blank_none f k j m);
    }

pub begin_none : {ws : List ℕ} {null : ℕ} {firsts : List ℕ} {list : ℕ} {feeds sets : List ℕ} → Begun ws feeds sets list
    → RulesFed ws null firsts 0 feeds sets list
begin_none b = record { begun = b; tails = λ q h. absurd (omega arith); lasts = λ q h. absurd (omega arith) }

pub begin_goes : {ws : List ℕ} {null : ℕ} {firsts : List ℕ} {p k mask list more : ℕ} {feeds feeds' sets sets' : List ℕ}
    {b : Bool} → Asked ws null firsts → RulesFed ws null firsts p feeds sets list → p < rule_count ws
    → RuleFed ws null firsts p sets sets' mask → LeftOf ws p k → Added feeds k mask feeds' b → Noted list k b more
    → RulesFed ws null firsts (p + 1) feeds' sets' more
begin_goes {ws} {null = null} {firsts} {p} {k} {mask} {list} {more} {feeds} {feeds'} {sets' = sets'} {b} asked o h rule left a note =
    record {
      begun = record { size = a.same ∙ o.begun.size; sound = rule.tailed.sound; passes = passes; listed = listed b refl };
      tails = below_more (λ q. Tails ws null firsts q sets') p (λ q i t. fed_kept rule.tailed.kept (o.tails q i t)) rule.tailed.tails;
      lasts = below_more (λ q. FeedsLasts ws null q feeds') p (λ q i n j e l. a.keeps n j (o.lasts q i n j e l)) here;
    }
  where
    passes : (n j t : ℕ) → member (get_or feeds' n 0) j ≡ true → Follow (RuleOf ws) start_over_end (64 + n) t
        → Follow (RuleOf ws) start_over_end (64 + j) t
    passes n j t m f =
        ⊎_elim (λ i. o.begun.passes n j t i f)
        (λ c.
        last_follow ws asked.shaped null asked.nulls h left ((rule.lasts.exact j).0 c.1)
        (subst (λ i. Follow (RuleOf ws) start_over_end (64 + i) t) c.0 f))
        (a.source n j m)

    listed : (yes : Bool) → b ≡ yes → Listed feeds' more
    listed false e n j m =
        subst (λ s. member s n ≡ true) (sym (note.same e))
        (o.begun.listed n j (subst (λ l. member (get_or l n 0) j ≡ true) (a.kept e) m))
    listed true e n j m =
        subst (λ s. member s n ≡ true) (sym (note.noted e))
        (⊎_elim (λ i. with_keeps list k n (o.begun.listed n j i))
        (λ c. subst (λ i. member (with list k) i ≡ true) (sym c.0) (with_same list k))
        (a.source n j m))

    here : FeedsLasts ws null p feeds'
    here n j e l =
        let same : k ≡ n = omega (arith, left.names) in
        subst (λ i. member (get_or feeds' i 0) j ≡ true) same (a.holds j ((rule.lasts.exact j).1 l))

pub begin_ends : {ws : List ℕ} {null : ℕ} {firsts : List ℕ} {p n list : ℕ} {feeds sets : List ℕ} → RulesFed ws null firsts p feeds sets list
    → n ≤ p → RulesFed ws null firsts n feeds sets list
begin_ends o l = record { begun = o.begun; tails = λ q h. o.tails q (omega arith); lasts = λ q h. o.lasts q (omega arith) }

-- ---- The end

-- What begins a list with `base` behind it begins the list, or is in `base` where all of the list can be empty.
opens_split : {null : ℕ} {firsts : List ℕ} {base t : ℕ} {α : List ℕ} → Opens null firsts base t α
    → Opens null firsts 0 t α ⊎ (All (NullBy null) α × (member base t ≡ true))
opens_split (Opens.behind m) = inr (All.nothing, m)
opens_split (Opens.token l e) = inl (Opens.token l e)
opens_split (Opens.first l m) = inl (Opens.first l m)
opens_split (Opens.past l n o) =
    ⊎_elim (λ q. inl (Opens.past l n q)) (λ q. inr (All.also (l, n) q.0, q.1)) (opens_split o)

-- What begins the rests and what follows those that can stand last is all that a list is fed.
fed_with : {null : ℕ} {firsts : List ℕ} {t base : ℕ} {l α : List ℕ} → Fed null firsts 0 t l α
    → ((j : ℕ) → Last null (64 + j) α → member base t ≡ true → member (get_or l j 0) t ≡ true) → Fed null firsts base t l α
fed_with Fed.nothing f = Fed.nothing
fed_with (Fed.also {X = X} g rest) f =
    Fed.also
    (λ high o. ⊎_elim (g high) (λ q. f (X - 64) (Last.here (number_symbol X high) q.0) q.1) (opens_split o))
    (fed_with rest (λ j l. f j (Last.later l)))

-- What comes to the sets is FOLLOW.
pub begun_closed : {ws feeds begun sets : List ℕ} {null : ℕ} {firsts : List ℕ} {list : ℕ}
    → Asked ws null firsts → FirstsOf ws firsts → AllFed ws null firsts feeds begun list → Closing feeds begun sets
    → FollowsOf ws sets
begun_closed {ws} {feeds = feeds} {begun = begun} {sets = sets} {null = null} {firsts = firsts} asked exact o c =
    follows_exact ws asked.shaped null asked.nulls firsts exact sets closed
    (record {
      size = c.size;
      sound = λ k t token m.
          closing_has (λ k t. Terminal t → Follow (RuleOf ws) start_over_end (64 + k) t) c
          (λ k t m token. o.begun.sound.sound k t token m) (λ j k t m f token. o.begun.passes j k t m (f token)) k t m token;
      start = (c.exact 0 END).1 (Comes.here o.begun.sound.start);
    })
  where
    closed : (p : ℕ) → p < rule_count ws → ClosedFollows ws null firsts p sets
    closed p h k t e =
        fed_with (fed_kept (λ j n m. (c.exact j n).1 (Comes.here m)) (o.tails p h t))
        (λ j l m. (c.exact j t).1 (Comes.onward ((c.exact k t).0 m) (o.lasts p h k j e l)))
