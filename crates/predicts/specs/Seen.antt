-- The predict test: the union of the predict sets of each nonterminal's rules so far.
use Rattle.std.specs.Prelude.{ℕ, ◌+◌, ◌≤◌, ◌<◌, ◌≡◌, refl, Bool, true, List, ◌⊎◌, get_or}
use Rattle.std.proofs.Common.{sym, ap, ◌∙◌, subst, inl, inr, ⊎_elim, arith}
use Rattle.base.specs.Choices.{below_or_at}
use Rattle.grammar.specs.Words.{Terminal, rule_count, left_side, right_side}
use Rattle.grammar.specs.Derivation.{Predict, NoneShared}
use Rattle.grammar.specs.Grammar.{RuleOf, start_over_end}
use Rattle.grammar.specs.Theory.RightSides.{rule_at}
use Rattle.shape.specs.Accessors.{LeftOf}
use Rattle.sets.specs.Bits.{member}
use Rattle.sets.specs.Operations.{Shared}
use Rattle.base.specs.Blank.{Blank}
use Rattle.growth.specs.Added.{Added, blank_none}
use Rattle.predicts.specs.Predicts.{PredictRule, PredictMask}

-- A rule before rule p of nonterminal k that predicts t.
pub record Owner (ws : List ℕ) (p k t : ℕ) : Type 0 where
  pub rule : ℕ
  pub before : rule < p
  pub left : left_side ws rule ≡ 64 + k
  pub predicts : PredictRule ws rule t

-- The rules before rule p share no predict token, and set k holds those of nonterminal k.
pub record Seen (ws : List ℕ) (p : ℕ) (seen : List ℕ) : Type 0 where
  pub inside : p ≤ rule_count ws
  pub said : (k t : ℕ) → Terminal t → member (get_or seen k 0) t ≡ true → Owner ws p k t
  pub held : (q k t : ℕ) → q < p → left_side ws q ≡ 64 + k → PredictRule ws q t → member (get_or seen k 0) t ≡ true
  pub apart : (q r t : ℕ) → q < p → r < p → left_side ws q ≡ left_side ws r → PredictRule ws q t → PredictRule ws r t → q ≡ r

pub seen_begins : {ws old : List ℕ} → Blank 64 old → Seen ws 0 old
seen_begins b =
    record {
      inside = omega arith;
      said = λ k t l m. absurd (blank_none b k t m);
      held = λ q k t h. absurd (omega arith);
      apart = λ q r t h. absurd (omega arith);
    }

-- A predict token is a token.
predict_token : {ws : List ℕ} (p t : ℕ) → PredictRule ws p t → Terminal t
predict_token p t (Predict.by_first f) = f.token
predict_token p t (Predict.by_follow e f) = f.token

module _
    {ws : List ℕ}
    {p k mask : ℕ}
    {old : List ℕ}
    (s : Seen ws p old)
    (h : p < rule_count ws)
    (left : LeftOf ws p k)
    (m : PredictMask ws p mask) where
  -- A rule that shares nothing with those before it.
  pub seen_goes : {new : List ℕ} {changed : Bool} → (Shared (get_or old k 0) mask → ⊥) → Added old k mask new changed → Seen ws (p + 1) new
  seen_goes {new} none a = record { inside = omega arith; said = said; held = held; apart = apart }
    where
      later : {j t : ℕ} → Owner ws p j t → Owner ws (p + 1) j t
      later o = record { rule = o.rule; before = omega (arith, o.before); left = o.left; predicts = o.predicts }

      said : (j t : ℕ) → Terminal t → member (get_or new j 0) t ≡ true → Owner ws (p + 1) j t
      said j t l q =
          ⊎_elim (λ o. later (s.said j t l o))
          (λ d.
          record {
            rule = p;
            before = omega arith;
            left = left.names ∙ ap (λ n. 64 + n) (sym d.0);
            predicts = (m.exact t l).0 d.1;
          })
          (a.source j t q)

      held : (q j t : ℕ) → q < p + 1 → left_side ws q ≡ 64 + j → PredictRule ws q t → member (get_or new j 0) t ≡ true
      held q j t b e d =
          ⊎_elim (λ i. a.keeps j t (s.held q j t i e d))
          (λ i.
          let same : k ≡ j = omega (arith, left.names, ap (left_side ws) i) in
          subst (λ n. member (get_or new n 0) t ≡ true) same
          (a.holds t ((m.exact t (predict_token q t d)).1 (subst (λ n. PredictRule ws n t) i d))))
          (below_or_at q p b)

      clash : (q t : ℕ) → q < p → left_side ws q ≡ left_side ws p → PredictRule ws q t → PredictRule ws p t → ⊥
      clash q t b e d g =
          none
          (record {
            number = t;
            below = predict_token q t d;
            left = s.held q k t b (e ∙ left.names) d;
            right = (m.exact t (predict_token q t d)).1 g;
          })

      apart : (q r t : ℕ) → q < p + 1 → r < p + 1 → left_side ws q ≡ left_side ws r → PredictRule ws q t → PredictRule ws r t → q ≡ r
      apart q r t b c e d g = both (below_or_at q p b) (below_or_at r p c)
        where
          both : (q < p) ⊎ (q ≡ p) → (r < p) ⊎ (r ≡ p) → q ≡ r
          both (inl i) (inl j) = s.apart q r t i j e d g
          both (inl i) (inr j) = absurd (clash q t i (e ∙ ap (left_side ws) j) d (subst (λ n. PredictRule ws n t) j g))
          both (inr i) (inl j) = absurd (clash r t j (sym e ∙ ap (left_side ws) i) g (subst (λ n. PredictRule ws n t) i d))
          both (inr i) (inr j) = i ∙ sym j

  -- A rule that shares a token with one before it: refusal 9.
  pub seen_fails : Shared (get_or old k 0) mask → NoneShared (RuleOf ws) start_over_end → ⊥
  seen_fails c n =
      let t = c.number in
      let o = s.said k t c.below c.left in
      let first = rule_at ws p h in
      let second : RuleOf ws o.rule (left_side ws p) (right_side ws o.rule) =
      record { counted = omega (arith, o.before); left = left.names ∙ sym o.left; right = refl } in
      let other : Predict (RuleOf ws) start_over_end (left_side ws p) (right_side ws o.rule) t =
      subst (λ A. Predict (RuleOf ws) start_over_end A (right_side ws o.rule) t) (o.left ∙ sym left.names) o.predicts in
      let same : p ≡ o.rule =
      n p o.rule (left_side ws p) t (right_side ws p) (right_side ws o.rule) first second ((m.exact t c.below).0 c.right) other in
      omega (arith, o.before)

-- All rules are seen.
pub seen_ends : {ws : List ℕ} {p : ℕ} {seen : List ℕ} → Seen ws p seen → rule_count ws ≤ p → NoneShared (RuleOf ws) start_over_end
seen_ends {ws} {p} s e q r A t β γ a b d g =
    s.apart q r t (omega (arith, a.counted)) (omega (arith, b.counted)) (sym a.left ∙ b.left) (at q β a d) (at r γ b g)
  where
    at : (q : ℕ) (β : List ℕ) → RuleOf ws q A β → Predict (RuleOf ws) start_over_end A β t → PredictRule ws q t
    at q β a d =
        subst (λ B. Predict (RuleOf ws) start_over_end B (right_side ws q) t) a.left
        (subst (λ δ. Predict (RuleOf ws) start_over_end A δ t) a.right d)
