-- A run exists for every log of a good grammar: it ends, or is refused by 11 or 12. FIRST, what can be empty and the reliability test
-- are taken as decided here; for words, the grammar check's tables decide them. Each decision makes a move and moves are bounded.
use Rattle.std.specs.Prelude.{ℕ, zero, suc, ◌+◌, ◌*◌, ◌≤◌, ◌<◌, ◌≡◌, refl, Bool, true, false, cond, List, [], ◌∷◌, ◌++◌, ◌⊎◌, length, get_or, take, leb, ltb}
use Rattle.std.proofs.Common.{sym, subst, append-nil, inl, inr, ⊎_elim, arith, length-append}
use Rattle.std.proofs.Math.Logic.{dite}
use Rattle.std.proofs.Math.Option.{Option, none, some}
use Rattle.std.proofs.Math.Decide.{dec_lt}
use Rattle.grammar.specs.Words.{END, Terminal}
use Rattle.grammar.specs.Derivation.{Derives, All, First, CanBeEmpty}
use Rattle.grammar.specs.Grammar.{Grammar}
use Rattle.grammar.specs.Moves.{Move}
use Rattle.grammar.specs.Run.{Plausible, Hit, Pick, Choice, matching, expanding, dropping, correcting}
use Rattle.grammar.specs.Run.{State, Limits, Run, started, next, made, limit}
use Rattle.grammar.specs.declared.Refusal.{Refusal}
use Rattle.grammar.specs.declared.Refusal.TheVariants.{StackFull, NoRoom}
use Rattle.grammar.specs.Theory.Leftmost.{Der, of_der}
use Rattle.grammar.specs.Theory.Good.{Good}
use Rattle.grammar.specs.Theory.Forms.{Ended, At}
use Rattle.grammar.specs.Theory.Reach.{Reach, Where, reach_where, reach_first, first_reach, der_of_empties}
use Rattle.grammar.specs.Theory.Predictive.{first_or_behind}
use Rattle.grammar.proofs.Theory.Chosen.{list_cost, end_fits, correction_moves}
use Rattle.grammar.specs.Theory.Costing.{list_cost_unique}
use Rattle.grammar.specs.Theory.States.{LogToken, Live}
use Rattle.grammar.proofs.Theory.States.{state, ended_take, live_start}
use Rattle.grammar.specs.Theory.Paths.{Path}
use Rattle.grammar.proofs.Theory.Paths.{path_on, path_live}
use Rattle.grammar.proofs.Theory.Pops.{popped_exists}
use Rattle.grammar.proofs.Theory.Bounded.{popped_count, correction_length, path_moves_bounded}
use Rattle.grammar.specs.Theory.Exists.{Ending, Least}

-- ---- The outcomes of a run, of any grammar

ending_stack : (b : Bool) {o q : Option Refusal} → Ending o → cond b (some StackFull) o ≡ q → Ending q
ending_stack true e h = subst (λ x. Ending x) h Ending.stack_full
ending_stack false e h = subst (λ x. Ending x) h e

ending_room : (b : Bool) {q : Option Refusal} → cond b none (some NoRoom) ≡ q → Ending q
ending_room true h = subst (λ x. Ending x) h Ending.ends
ending_room false h = subst (λ x. Ending x) h Ending.no_room

limit_ending : (L : Limits) (s : State) (x : Pick) → Ending (limit L s x)
unfolding limit
limit_ending L s matching = Ending.ends
limit_ending L s (expanding p β) = ending_stack (ltb L.height _) (ending_room (leb _ L.rule_room) refl) refl
limit_ending L s dropping = Ending.ends
limit_ending L s (correcting j i ps) = ending_room (leb _ L.edit_room) refl

-- It ends, or is refused by 11 or 12.
pub run_ending : {G : Grammar} {L : Limits} {s : State} {ms : List Move} {o : Option Refusal} → Run G L s ms o → Ending o
run_ending (Run.ended e f) = Ending.ends
run_ending (Run.moved c l r) = run_ending r
run_ending {L = L} (Run.stopped {s = s} {x = x} c l) = subst (λ o. Ending o) l (limit_ending L s x)

-- ---- The least of what is decided

-- The least below b, or none.
pub least_below : (P : ℕ → Type 0) → ((n : ℕ) → Dec (P n)) → (b : ℕ) → Least P b ⊎ ((k : ℕ) → k < b → P k → ⊥)
least_below P d zero = inr (λ k l p. omega arith)
least_below P d (suc b) =
    ⊎_elim
    (λ h. inl (record { value = h.value; small = omega (arith, h.small); holds = h.holds; least = h.least }))
    (λ n.
    dite
    (d b)
    (λ p. inl (record { value = b; small = omega arith; holds = p; least = n }))
    (λ m. inr (λ k l p. dite (dec_lt k b) (λ i. n k i p) (λ i. m (subst P (omega arith) p)))))
    (least_below P d b)

-- Where the property holds of some number below b, it has a least one.
pub least_of : (P : ℕ → Type 0) → ((n : ℕ) → Dec (P n)) → (b n : ℕ) → n < b → P n → Least P b
least_of P d b n l p = ⊎_elim (λ h. h) (λ h. absurd (h n l p)) (least_below P d b)

-- The last of the rest of the log is END.
ended_last : {P : ℕ → Type 0} {ρ : List ℕ} → Ended P ρ → (j : ℕ) × (j < length ρ) × (get_or ρ j END ≡ END)
ended_last (Ended.last e) = (0, omega arith, e)
ended_last (Ended.also h a) = let k = ended_last a in (suc k.0, omega (arith, k.1), k.2)

-- A choice makes at least one move.
pub made_some : {G : Grammar} {σ ρ : List ℕ} {x : Pick} (p k l : ℕ) → Choice G σ ρ x → 1 ≤ length (made (state σ p ρ k l) x)
unfolding made
made_some p k l (Choice.match e) = omega arith
made_some p k l (Choice.expand r f) = omega arith
made_some p k l (Choice.pass f n) = omega arith
made_some {G = G} p k l (Choice.correct {t = t} {j = j} {i = i} {σ = σ} {rest = ρ} {ps = ps} n x y) =
    let popped = popped_count i σ y x.plausible.within in
    omega (arith, correction_moves G n x, correction_length p j i (t ∷ ρ) ps popped x.within)

module _ (G : Grammar) (N R : ℕ) (good : Good G N R) where
  -- A token in FIRST of the stack has its choice.
  pub fitting_choice : {t n : ℕ} {σ δ : List ℕ} → Reach G.rules t σ n δ → Terminal t → At G σ → (ρ : List ℕ)
      → (x : Pick) × Choice G σ (t ∷ ρ) x
  fitting_choice (Reach.here e) l a ρ = (matching, Choice.match e)
  fitting_choice {t = t} (Reach.down {p = p} {A = A} {n = n} {β = β} {α = σ} {δ = δ} r h) l a ρ =
      go (reach_where G.rules h β σ refl)
    where
      go : Where G.rules t β σ n δ → (x : Pick) × Choice G (A ∷ σ) (t ∷ ρ) x
      go (Where.within k e) = (expanding p β, Choice.expand r (reach_first G.rules l k))
      go (Where.behind c k e) =
          let empty : Derives G.rules (A ∷ []) [] =
          of_der G.rules (Der.down r (subst (λ w. Der G.rules w []) (sym (append-nil β)) (der_of_empties G.rules c))) in (
            dropping,
            Choice.pass
                (reach_first G.rules l (Reach.down r h))
                (λ f. first_or_behind G N R good (A ∷ []) σ a f empty (reach_first G.rules l k)),
          )

module _
    (G : Grammar)
    (N R : ℕ)
    (good : Good G N R)
    (dec_first : (α : List ℕ) (t : ℕ) → Dec (First G.rules α t))
    (dec_empty : (X : ℕ) → Dec (CanBeEmpty G.rules (X ∷ [])))
    (dec_reliable : (c t : ℕ) → Dec (G.reliable c t)) where
  dec_plausible : {σ : List ℕ} → Ended G.known σ → (t i : ℕ) → Dec (Plausible G σ t i)
  dec_plausible {σ = σ} e t i =
      dite
      (dec_lt i (length σ))
      (λ l.
      let cost = list_cost G N R good (ended_take i e l) in
      dite
      (dec_first (get_or σ i END ∷ []) t)
      (λ f.
      dite
      (dec_reliable cost.0 t)
      (λ b. yes (record { within = l; first = f; cost = cost.0; costs = cost.1; below = b }))
      (λ n. no (λ p. n (subst (λ c. G.reliable c t) (list_cost_unique G.rules G.price p.costs cost.1) p.below))))
      (λ n. no (λ p. n p.first)))
      (λ n. no (λ p. n p.within))

  dec_some : {σ : List ℕ} → Ended G.known σ → (t : ℕ) → Dec ((i : ℕ) × Plausible G σ t i)
  dec_some {σ = σ} e t =
      ⊎_elim
      (λ h. yes (h.value, h.holds))
      (λ n. no (λ p. n p.0 p.1.within p.1))
      (least_below (λ i. Plausible G σ t i) (dec_plausible e t) (length σ))

  -- "An r always exists."
  pub hit_exists : {σ ρ : List ℕ} → Ended G.known σ → Ended LogToken ρ → (j i : ℕ) × Hit G σ ρ j i
  hit_exists {σ = σ} {ρ = ρ} s q =
      let bottom = end_fits G N R good s in
      let end = ended_last q in
      let r : Least (λ j. (i : ℕ) × Plausible G σ (get_or ρ j END) i) (length ρ) =
      least_of (λ j. (i : ℕ) × Plausible G σ (get_or ρ j END) i) (λ j. dec_some s (get_or ρ j END)) (length ρ) end.0 end.1
      (subst (λ t. (i : ℕ) × Plausible G σ t i) (sym end.2) bottom) in
      let i : Least (λ i. Plausible G σ (get_or ρ r.value END) i) (length σ) =
      least_of (λ i. Plausible G σ (get_or ρ r.value END) i) (λ i. dec_plausible s (get_or ρ r.value END) i) (length σ)
      r.holds.0 r.holds.1.within r.holds.1 in (
        r.value,
        i.value,
        record {
          within = r.small;
          plausible = i.holds;
          least_r = λ h k l p. r.least h l (k, p);
          least_i = i.least;
        },
      )

  hit_live : {σ ρ : List ℕ} → Live G σ ρ → (ρ ≡ [] → ⊥) → (j i : ℕ) × Hit G σ ρ j i
  hit_live (Live.running s q a) n = hit_exists s q
  hit_live (Live.over e f) n = absurd (n f)

  -- So it does in every state that a run comes to before its end.
  pub hit_on_path : {L : Limits} {log : List ℕ} {ms : List Move} {u : State} → All LogToken log
      → Path G L (started G.begin log) ms u → (u.rest ≡ [] → ⊥) → (j i : ℕ) × Hit G u.stack u.rest j i
  hit_on_path a q n = hit_live (path_live G N R good q (live_start G N R good a)) n

  choice_at : {σ : List ℕ} (t : ℕ) (ρ : List ℕ) → Ended G.known σ → Ended LogToken (t ∷ ρ) → At G σ → (x : Pick) × Choice G σ (t ∷ ρ) x
  choice_at {σ = σ} t ρ s q a =
      dite
      (dec_first σ t)
      (λ f. fitting_choice G N R good (first_reach G.rules f).2 f.token a ρ)
      (λ n.
      let h = hit_exists s q in
      let p = popped_exists dec_empty (take h.1 σ) in
      (correcting h.0 h.1 p.0, Choice.correct n h.2 p.1))

  -- While a run runs there is a choice.
  pub choice_exists : {σ ρ : List ℕ} → Ended G.known σ → Ended LogToken ρ → At G σ → (x : Pick) × Choice G σ ρ x
  choice_exists s (Ended.last {X = t} e) a = choice_at t [] s (Ended.last e) a
  choice_exists s (Ended.also {X = t} {α = ρ} h q) a = choice_at t ρ s (Ended.also h q) a

  -- ---- The run, by fuel: each decision makes a move, and moves are bounded.

  run_decided : {L : Limits} {u : State} {x : Pick} → Choice G u.stack u.rest x → (o : Option Refusal) → limit L u x ≡ o
      → (limit L u x ≡ none → (ns : List Move) × (o : Option Refusal) × Run G L (next u x) ns o)
      → (ns : List Move) × (o : Option Refusal) × Run G L u ns o
  run_decided {u = u} {x = x} c none e f = let r = f e in (made u x ++ r.0, r.1, Run.moved c e r.2)
  run_decided c (some w) e f = ([], some w, Run.stopped c e)

  run_live : {L : Limits} {u : State} → Live G u.stack u.rest
      → ((x : Pick) → Choice G u.stack u.rest x → limit L u x ≡ none
      → (ns : List Move) × (o : Option Refusal) × Run G L (next u x) ns o)
      → (ns : List Move) × (o : Option Refusal) × Run G L u ns o
  run_live (Live.over e f) g = ([], none, Run.ended e f)
  run_live {L = L} {u = u} (Live.running s q a) g =
      let c = choice_exists s q a in run_decided c.1 (limit L u c.0) refl (λ e. g c.0 c.1 e)

  run_on : {L : Limits} {log : List ℕ} → All LogToken log → (fuel : ℕ) {ms : List Move} {u : State}
      → Path G L (started G.begin log) ms u → length G.begin + length log + R * N * length log < fuel + length ms
      → (ns : List Move) × (o : Option Refusal) × Run G L u ns o
  run_on a zero q l = absurd (omega (arith, path_moves_bounded G N R good a q))
  run_on {L = L} a (suc fuel) {ms = ms} {u = u} q l =
      run_live (path_live G N R good q (live_start G N R good a))
      (λ x c e.
      run_on a fuel (path_on G L q c e)
      (omega (arith, length-append ms (made u x), made_some u.place u.records u.listed c)))

  -- A run exists for every log: it ends, or is refused by 11 or 12.
  pub run_exists : (L : Limits) {log : List ℕ} → All LogToken log
      → (ms : List Move) × (o : Option Refusal) × Run G L (started G.begin log) ms o × Ending o
  run_exists L {log = log} a =
      let r =
      run_on {L = L} a (suc (length G.begin + length log + R * N * length log)) Path.still (omega arith) in
      (r.0, r.1, r.2, run_ending r.2)
