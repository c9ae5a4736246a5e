-- Of every function that fills one buffer: its answer is one, each refusal is given exactly where it is due and leaves zeros, and any other
-- answer comes with the whole content.
use Rattle.std.specs.Prelude.{ℕ, ◌-◌, ◌≡◌, refl, List, ◌↔◌, length, take, replicate}
use Rattle.std.proofs.Common.{sym, ap, subst, ◌∙◌}
use Rattle.std.proofs.Math.Option.{none}
use Rattle.std.proofs.Math.Seq.{take-append_seam}
use Rattle.base.specs.Clearing.{clear_whole}
use Rattle.grammar.specs.Buffers.{filled, cleared, Fills}
use Rattle.grammar.specs.Refusals.{Condition, Lowest, Outcome, given, refused}
use Rattle.grammar.specs.declared.Refusal.{Refusal}
use Rattle.grammar.specs.Theory.Conditions.{some_none, lowest_unique}
use Rattle.grammar.specs.Theory.Due.{Due, lowest_due}
use Rattle.grammar.specs.Theory.Outcomes.{given_refused, given_same, refused_same}

-- No refusal applies: the n words of the content, zeros behind them.
pub record Holds (cs : List Condition) (room : ℕ) (content : List ℕ) (n : ℕ) (x : List ℕ) : Type 0 where
  pub met : Lowest cs none
  pub count : n ≡ length content
  pub holds : x ≡ filled room content

module _ {cs : List Condition} {room : ℕ} {content : List ℕ} where
  -- The answer and its buffer are one.
  pub fills_unique : {a b : Outcome ℕ} {x y : List ℕ} → Fills cs room content a x → Fills cs room content b y → (a ≡ b) × (x ≡ y)
  fills_unique (Fills.fill l) (Fills.fill k) = (refl, refl)
  fills_unique (Fills.fill l) (Fills.refuse k) = absurd (some_none refl (lowest_unique l k))
  fills_unique (Fills.refuse l) (Fills.fill k) = absurd (some_none refl (lowest_unique k l))
  fills_unique (Fills.refuse l) (Fills.refuse k) = let e = lowest_unique l k in (cc, refl)

  refused_due : {a : Outcome ℕ} {x : List ℕ} {r : Refusal} → Fills cs room content a x → a ≡ refused r → Due cs r
  refused_due (Fills.fill l) e = absurd (given_refused refl e)
  refused_due (Fills.refuse {r = q} l) e = subst (λ r. Due cs r) (refused_same e) ((lowest_due cs q).0 l)

  -- A refusal is given exactly where it is due,
  pub fills_exactly : {a : Outcome ℕ} {x : List ℕ} → Fills cs room content a x → (r : Refusal) → (a ≡ refused r) ↔ Due cs r
  fills_exactly p r = (λ e. refused_due p e, λ d. (fills_unique p (Fills.refuse ((lowest_due cs r).1 d))).0)

  -- and leaves zeros.
  pub fills_zeros : {a : Outcome ℕ} {x : List ℕ} {r : Refusal} → Fills cs room content a x → a ≡ refused r → x ≡ cleared room
  fills_zeros (Fills.fill l) e = absurd (given_refused refl e)
  fills_zeros (Fills.refuse l) e = refl

  -- Else no refusal applies, and the content stands in the buffer.
  pub fills_content : {a : Outcome ℕ} {x : List ℕ} {n : ℕ} → Fills cs room content a x → a ≡ given n → Holds cs room content n x
  fills_content (Fills.fill l) e = record { met = l; count = sym (given_same e); holds = refl }
  fills_content (Fills.refuse l) e = absurd (given_refused e refl)

-- The content is the front of the buffer that it fills.
pub front_of : (room : ℕ) (content : List ℕ) → take (length content) (filled room content) ≡ content
unfolding filled
front_of room content = take-append_seam content _

-- A buffer that was cleared from its first word on.
pub made_clear : (room : ℕ) {buffer : List ℕ} → buffer ≡ replicate (room - 0) 0 → buffer ≡ cleared room
unfolding cleared
made_clear room e = clear_whole 0 room e

-- A cleared buffer is one of its own length.
pub lent_clear : {room : ℕ} {buffer : List ℕ} → length buffer ≡ room → buffer ≡ cleared room → buffer ≡ cleared (length buffer)
lent_clear same clear = clear ∙ ap cleared (sym same)
