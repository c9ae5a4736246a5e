-- One pass over the rules for FIRST: each token that can stand first in a right side goes to the left side's set, and each nonterminal that
-- can stand first there feeds the left side.
--     begin_begins, begin_none, begin_goes, begin_ends   the rules
--     begun_closed                                       what comes of it along the list is FIRST
use Rattle.std.specs.Prelude.{ℕ, ◌+◌, ◌-◌, ◌≤◌, ◌<◌, ◌≡◌, true, List, [], ◌∷◌, length, get_or}
use Rattle.std.proofs.Common.{subst, inl, inr, arith, below_more}
use Rattle.grammar.specs.Words.{Terminal, rule_count, left_side, right_side}
use Rattle.grammar.specs.Derivation.{First}
use Rattle.grammar.specs.Grammar.{RuleOf}
use Rattle.sets.specs.Bits.{member}
use Rattle.base.specs.Blank.{Blank}
use Rattle.growth.specs.Added.{Kept, blank_none}
use Rattle.growth.specs.Closing.{Closing, Comes, Listed, closing_has}
use Rattle.firsts.specs.Asked.{Asked}
use Rattle.firsts.specs.Masks.{FirstsOf}
use Rattle.firsts.specs.Corners.{Corner}
use Rattle.firsts.specs.Firsts.{SoundFirsts, ClosedFirsts, firsts_exact}

-- What holds before and after each symbol: every token in a set is in FIRST of its nonterminal, a nonterminal feeds only those that begin
-- with all that it begins with, and the list has those that feed one.
pub record Begun (ws feeds sets : List ℕ) (list : ℕ) : Type 0 where
  pub size : length feeds ≡ 64
  pub sound : SoundFirsts ws sets
  pub passes : (j k t : ℕ) → Terminal t → member (get_or feeds j 0) k ≡ true → First (RuleOf ws) ((64 + j) ∷ []) t
      → First (RuleOf ws) ((64 + k) ∷ []) t
  pub listed : Listed feeds list

-- X is given to nonterminal k: a token is in its set, a nonterminal feeds it.
pub record Given (k : ℕ) (feeds sets : List ℕ) (X : ℕ) : Type 0 where
  pub token : X < 64 → member (get_or sets k 0) X ≡ true
  pub name : 64 ≤ X → member (get_or feeds (X - 64) 0) k ≡ true

pub given_kept : {k X : ℕ} {feeds feeds' sets sets' : List ℕ} → Kept feeds feeds' → Kept sets sets' → Given k feeds sets X
    → Given k feeds' sets' X
given_kept {k} {X} f s g = record { token = λ l. s k X (g.token l); name = λ l. f (X - 64) k (g.name l) }

-- What can stand first in rule p is given to its left side.
abbrev pub GivenBy : List ℕ → ℕ → ℕ → List ℕ → List ℕ → Type 0
GivenBy ws null p feeds sets = (k X : ℕ) → left_side ws p ≡ 64 + k → Corner null X (right_side ws p) → Given k feeds sets X

-- What a rule does.
pub record Led (ws : List ℕ) (null p : ℕ) (feeds₀ sets₀ feeds sets : List ℕ) (list : ℕ) : Type 0 where
  pub begun : Begun ws feeds sets list
  pub fed : Kept feeds₀ feeds
  pub kept : Kept sets₀ sets
  pub given : GivenBy ws null p feeds sets

-- What the rules in front of p do.
pub record RulesLed (ws : List ℕ) (null p : ℕ) (feeds sets : List ℕ) (list : ℕ) : Type 0 where
  pub begun : Begun ws feeds sets list
  pub given : (q : ℕ) → q < p → GivenBy ws null q feeds sets

-- What all of them do.
abbrev pub AllLed : List ℕ → ℕ → List ℕ → List ℕ → ℕ → Type 0
AllLed ws null = RulesLed ws null (rule_count ws)

-- ---- The rules

-- Nothing is in empty tables.
pub begin_begins : {ws feeds sets : List ℕ} → Blank 64 feeds → Blank 64 sets → Begun ws feeds sets 0
begin_begins f s =
    record {
      size = f.size;
      sound = record { size = s.size; sound = λ k t h m. absurd (blank_none s k t m) };
      passes = λ j k t token m. absurd (blank_none f j k m);
      listed = λ j k m. absurd (blank_none f j k m);
    }

pub begin_none : {ws : List ℕ} {null list : ℕ} {feeds sets : List ℕ} → Begun ws feeds sets list → RulesLed ws null 0 feeds sets list
begin_none b = record { begun = b; given = λ q h. absurd (omega arith) }

pub begin_goes : {ws : List ℕ} {null p list more : ℕ} {feeds feeds' sets sets' : List ℕ} → RulesLed ws null p feeds sets list
    → Led ws null p feeds sets feeds' sets' more → RulesLed ws null (p + 1) feeds' sets' more
begin_goes {ws} {null} {p} {feeds' = feeds'} {sets' = sets'} o l =
    record {
      begun = l.begun;
      given = below_more (λ q. GivenBy ws null q feeds' sets') p
          (λ q h k X e c. given_kept l.fed l.kept (o.given q h k X e c)) l.given;
    }

pub begin_ends : {ws : List ℕ} {null p n list : ℕ} {feeds sets : List ℕ} → RulesLed ws null p feeds sets list → n ≤ p
    → RulesLed ws null n feeds sets list
begin_ends o l = record { begun = o.begun; given = λ q h. o.given q (omega arith) }

-- ---- The end

-- What comes to the sets is FIRST.
pub begun_closed : {ws table feeds begun sets : List ℕ} {null list : ℕ} → Asked ws null table
    → AllLed ws null feeds begun list → Closing feeds begun sets → FirstsOf ws sets
begun_closed {ws} {feeds = feeds} {begun = begun} {sets = sets} {null = null} asked o c =
    firsts_exact ws asked.shaped null asked.nulls sets closed
    (record {
      size = c.size;
      sound = λ k t token m.
          closing_has (λ k t. Terminal t → First (RuleOf ws) ((64 + k) ∷ []) t) c
          (λ k t m token. o.begun.sound.sound k t token m)
          (λ j k t m f token. o.begun.passes j k t token m (f token)) k t m token;
    })
  where
    closed : (p : ℕ) → p < rule_count ws → ClosedFirsts ws null p sets
    closed p h k t X e corner (inl a) =
        (c.exact k t).1 (Comes.here (subst (λ n. member (get_or begun k 0) n ≡ true) a.1 ((o.given p h k X e corner).token a.0)))
    closed p h k t X e corner (inr a) =
        (c.exact k t).1 (Comes.onward ((c.exact (X - 64) t).0 a.1) ((o.given p h k X e corner).name a.0))
