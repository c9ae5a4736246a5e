-- Request (ii) of 02 beside the rule of 01 that it overrules: the run by 01's rule, and what the moves keep of those that it makes. Move
-- by move they are the same, but for a drop where 01 inserts a symbol that can be empty. SameCycles.antt has the theorems.
--     EarlierRun, AsEarlier             the run by 01's rule, and what is kept of it
--     earlier_determined                in a good grammar that run is one
--     Beside, beside_made               move by move
--     leaves_record, drops_empty, inserts_missing       what a correction makes
use Rattle.std.specs.Prelude.{ℕ, suc, ◌+◌, ◌≤◌, ◌<◌, take}
use Rattle.std.proofs.Math.Path.{◌≡◌, refl, ap, subst}
use Rattle.std.proofs.Common.{sym}
use mathlib.Core.List.{
  List,
  [],
  ◌∷◌,
  ◌++◌,
  append-nil,
  Memᴰ,
}
use native.Mathlib.Omega.{arith}
use Rattle.std.proofs.Math.ListN.{length, length-take}
use Rattle.grammar.specs.Derivation.{Rules, CanBeEmpty}
use Rattle.grammar.specs.Grammar.{Grammar}
use Rattle.grammar.specs.Moves.{Move, Edit, edits, rule_numbers, passed}
use Rattle.grammar.specs.Run.{Pop, Popped, Pick, correcting, Choice}
use Rattle.grammar.specs.Run.{State, next, made, deletes, pops}
use Rattle.grammar.specs.Pace.{Kept}
use Rattle.grammar.specs.Theory.Good.{Good}
use Rattle.grammar.specs.Theory.Folds.{missing_of}
use Rattle.grammar.proofs.Theory.Folds.{edits_correction, rules_append, passed_append}
use Rattle.grammar.proofs.Theory.Pops.{correction_records}
use Rattle.grammar.specs.Theory.States.{Live}
use Rattle.grammar.proofs.Theory.States.{state, choice_some, live_next, one_choice}
use Rattle.grammar.specs.Theory.Earlier.{inserts, made_earlier, EarlierRun, Without, Stays, Beside}

-- ---- 01's rule

-- ---- What is kept of it

module _ (G : Grammar) (N R : ℕ) (good : Good G N R) where
  -- Two runs by 01's rule of one state are one.
  pub earlier_determined : {s : State} {ms ns : List Move} → EarlierRun G s ms → EarlierRun G s ns → Live G s.stack s.rest → ms ≡ ns
  earlier_determined (EarlierRun.ended e f) (EarlierRun.ended g h) v = refl
  earlier_determined (EarlierRun.ended e f) (EarlierRun.moved d k) v = absurd (choice_some d f)
  earlier_determined (EarlierRun.moved c r) (EarlierRun.ended g h) v = absurd (choice_some c h)
  earlier_determined {s = s} (EarlierRun.moved {x = x} {ms = ms} c r) (EarlierRun.moved {x = y} {ms = ns} d k) v =
      let e : x ≡ y = one_choice G N R good v c d in
      let rest : ms ≡ ns = earlier_determined r (subst (λ z. EarlierRun G (next s z) ns) (sym e) k) (live_next G N R good s c v) in
      cc

-- ---- Move by move: the same move, or a drop for an insert

module _ {R : Rules} where
  -- Moves one behind another stand beside moves one behind another,
  pub beside_append : {ks ls ms ns : List Move} → Beside R ks ls → Beside R ms ns → Beside R (ks ++ ms) (ls ++ ns)
  beside_append Beside.nothing b = b
  beside_append (Beside.same h a) b = Beside.same h (beside_append a b)
  beside_append (Beside.empty c a) b = Beside.empty c (beside_append a b)

  -- a correction's deletes beside themselves, and its drops and inserts beside 01's inserts.
  beside_deletes : (p : ℕ) (ts : List ℕ) → Beside R (deletes p ts) (deletes p ts)
  unfolding deletes Stays
  beside_deletes p [] = Beside.nothing
  beside_deletes p (t ∷ ts) = Beside.same tt (beside_deletes (p + 1) ts)

  beside_pops : (r : ℕ) {Xs : List ℕ} {ps : List Pop} → Popped R Xs ps → Beside R (pops r ps) (inserts r Xs)
  unfolding pops inserts Stays
  beside_pops r Popped.nothing = Beside.nothing
  beside_pops r (Popped.empty c a) = Beside.empty c (beside_pops r a)
  beside_pops r (Popped.missing n a) = Beside.same n (beside_pops r a)

  -- There are as many moves,
  pub beside_many : {ms ns : List Move} → Beside R ms ns → length ms ≡ length ns
  beside_many Beside.nothing = refl
  beside_many (Beside.same h b) = ap suc (beside_many b)
  beside_many (Beside.empty c b) = ap suc (beside_many b)

  -- the rule numbers listed are the same,
  pub beside_listed : {ms ns : List Move} → Beside R ms ns → rule_numbers ms ≡ rule_numbers ns
  unfolding rule_numbers
  beside_listed Beside.nothing = refl
  beside_listed (Beside.same {m = m} {ms = ms} {ns = ns} h b) =
      cc (rules_append (m ∷ []) ms, rules_append (m ∷ []) ns, beside_listed b)
  beside_listed (Beside.empty c b) = beside_listed b

  -- and so are the tokens passed.
  pub beside_tokens : {ms ns : List Move} → Beside R ms ns → passed ms ≡ passed ns
  unfolding passed
  beside_tokens Beside.nothing = refl
  beside_tokens (Beside.same {m = m} {ms = ms} {ns = ns} h b) =
      cc (passed_append (m ∷ []) ms, passed_append (m ∷ []) ns, beside_tokens b)
  beside_tokens (Beside.empty c b) = beside_tokens b

  without_same : (m : Move) (ms ns : List Move) → Stays R m → Without R (edits ns) (edits ms)
      → Without R (edits (m ∷ ns)) (edits (m ∷ ms))
  unfolding edits Stays
  without_same (Move.match p t) ms ns h w = w
  without_same (Move.expand q) ms ns h w = w
  without_same (Move.drop X) ms ns h w = w
  without_same (Move.delete p t) ms ns h w = Without.kept (λ (e : ◌≡◌ {A = ℕ} 1 2). absurd (omega arith)) w
  without_same (Move.insert p X) ms ns h w = Without.kept (λ e. h) w

  -- The records are 01's without those of inserted symbols that can be empty.
  pub beside_records : {ms ns : List Move} → Beside R ms ns → Without R (edits ns) (edits ms)
  unfolding edits
  beside_records Beside.nothing = Without.nothing
  beside_records (Beside.same {m = m} {ms = ms} {ns = ns} h b) = without_same m ms ns h (beside_records b)
  beside_records (Beside.empty c b) = Without.left_out c (beside_records b)

  -- So a record that is left is one of 01's,
  pub without_member : {es fs : List Edit} {e : Edit} → Without R es fs → Memᴰ e fs → Memᴰ e es
  without_member Without.nothing m = m
  without_member (Without.kept n w) (Memᴰ.head e) = Memᴰ.head e
  without_member (Without.kept n w) (Memᴰ.tail m) = Memᴰ.tail (without_member w m)
  without_member (Without.left_out c w) m = Memᴰ.tail (without_member w m)

  -- and a token is kept exactly where 01's moves keep it.
  pub kept_there : {ms ns : List Move} {p t : ℕ} → Beside R ms ns → Kept ms p t → Kept ns p t
  kept_there (Beside.same h b) (Memᴰ.head e) = Memᴰ.head e
  kept_there (Beside.same h b) (Memᴰ.tail k) = Memᴰ.tail (kept_there b k)
  kept_there (Beside.empty c b) (Memᴰ.head e) = absurd (let z : ◌≡◌ {A = ℕ} 0 1 = cc in omega arith)
  kept_there (Beside.empty c b) (Memᴰ.tail k) = Memᴰ.tail (kept_there b k)
  kept_there Beside.nothing k = elim k [ ]

  pub kept_here : {ms ns : List Move} {p t : ℕ} → Beside R ms ns → Kept ns p t → Kept ms p t
  kept_here (Beside.same h b) (Memᴰ.head e) = Memᴰ.head e
  kept_here (Beside.same h b) (Memᴰ.tail k) = Memᴰ.tail (kept_here b k)
  kept_here (Beside.empty c b) (Memᴰ.head e) = absurd (let z : ◌≡◌ {A = ℕ} 0 1 = cc in omega arith)
  kept_here (Beside.empty c b) (Memᴰ.tail k) = Memᴰ.tail (kept_here b k)
  kept_here Beside.nothing k = elim k [ ]

-- The moves of a choice stand beside those that 01's rule makes.
pub beside_made : {G : Grammar} {σ ρ : List ℕ} {x : Pick} (p k l : ℕ) → Choice G σ ρ x
    → Beside G.rules (made (state σ p ρ k l) x) (made_earlier (state σ p ρ k l) x)
unfolding made made_earlier Stays
beside_made p k l (Choice.match e) = Beside.same tt Beside.nothing
beside_made p k l (Choice.expand r f) = Beside.same tt Beside.nothing
beside_made p k l (Choice.pass f n) = Beside.same tt Beside.nothing
beside_made {ρ = ρ} p k l (Choice.correct {j = j} n x a) =
    beside_append (beside_deletes p (take j ρ)) (beside_pops (p + j) a)

-- ---- What a correction makes by request (ii)

-- What it makes but deletes are its pops.
popped_move : {m : Move} {ns : List Move} (p : ℕ) (ts : List ℕ) → ((q t : ℕ) → m ≡ Move.delete q t → ⊥) → Memᴰ m (deletes p ts ++ ns)
    → Memᴰ m ns
unfolding deletes
popped_move p [] n m = m
popped_move p (t ∷ ts) n (Memᴰ.head e) = absurd (n p t e)
popped_move p (t ∷ ts) n (Memᴰ.tail m) = popped_move (p + 1) ts n m

module _ {R : Rules} (r : ℕ) where
  pops_drop : {X : ℕ} {Xs : List ℕ} {ps : List Pop} → Popped R Xs ps → Memᴰ (Move.drop X) (pops r ps) → CanBeEmpty R (X ∷ [])
  unfolding pops
  pops_drop {X = X} (Popped.empty {X = Y} c a) (Memᴰ.head e) =
      let same : Y ≡ X = cc in
      subst (λ x. CanBeEmpty R (x ∷ [])) same c
  pops_drop (Popped.empty c a) (Memᴰ.tail m) = pops_drop a m
  pops_drop (Popped.missing n a) (Memᴰ.head e) = absurd (let z : ◌≡◌ {A = ℕ} 0 1 = cc in omega arith)
  pops_drop (Popped.missing n a) (Memᴰ.tail m) = pops_drop a m
  pops_drop Popped.nothing m = elim m [ ]

  pops_insert : {q X : ℕ} {Xs : List ℕ} {ps : List Pop} → Popped R Xs ps → Memᴰ (Move.insert q X) (pops r ps)
      → CanBeEmpty R (X ∷ []) → ⊥
  unfolding pops
  pops_insert (Popped.empty c a) (Memᴰ.head e) d = let z : ◌≡◌ {A = ℕ} 0 1 = cc in omega arith
  pops_insert (Popped.empty c a) (Memᴰ.tail m) d = pops_insert a m d
  pops_insert {X = X} (Popped.missing {X = Y} n a) (Memᴰ.head e) d =
      let same : X ≡ Y = cc in
      n (subst (λ x. CanBeEmpty R (x ∷ [])) same d)
  pops_insert (Popped.missing n a) (Memᴰ.tail m) d = pops_insert a m d
  pops_insert Popped.nothing m d = elim m [ ]

-- Its r is in the log, what its symbols become is told, and it leaves a record.
correction_by : {G : Grammar} {σ ρ : List ℕ} {j i : ℕ} {ps : List Pop} → Choice G σ ρ (correcting j i ps)
    → (j < length ρ) × Popped G.rules (take i σ) ps × (1 ≤ j + length (missing_of ps))
correction_by {G} (Choice.correct n x a) = (x.within, a, correction_records G n x a)

module _ (G : Grammar) (s : State) {j i : ℕ} {ps : List Pop} (chosen : Choice G s.stack s.rest (correcting j i ps)) where
  -- A correction leaves at least one record.
  pub leaves_record : 1 ≤ length (edits (made s (correcting j i ps)))
  unfolding made edits
  leaves_record =
      let by = correction_by chosen in
      let ds = deletes s.place (take j s.rest) in
      omega (
        arith,
        by.0,
        by.2,
        length-take j s.rest,
        edits_correction s.place (s.place + j) (take j s.rest) ps [],
        ap (λ ms. length (edits ms)) (append-nil (ds ++ pops (s.place + j) ps)),
      )

  -- What it drops can be empty,
  pub drops_empty : {X : ℕ} → Memᴰ (Move.drop X) (made s (correcting j i ps)) → CanBeEmpty G.rules (X ∷ [])
  unfolding made
  drops_empty m =
      pops_drop (s.place + j) (correction_by chosen).1
      (popped_move s.place (take j s.rest) (λ q t e. let z : ◌≡◌ {A = ℕ} 0 1 = cc in omega arith) m)

  -- and what it inserts cannot.
  pub inserts_missing : {r X : ℕ} → Memᴰ (Move.insert r X) (made s (correcting j i ps)) → CanBeEmpty G.rules (X ∷ []) → ⊥
  unfolding made
  inserts_missing m =
      pops_insert (s.place + j) (correction_by chosen).1
      (popped_move s.place (take j s.rest) (λ q t e. let z : ◌≡◌ {A = ℕ} 0 1 = cc in omega arith) m)
