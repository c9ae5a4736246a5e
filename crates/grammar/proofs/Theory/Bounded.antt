-- Demand 3: a run makes at most 2 + n + R x N x n moves, of any grammar whose right sides have at most R symbols; also a run
-- that is refused midway, and every path of decisions. Each match, drop and insert pops one symbol, each delete passes one
-- token, and an expand pushes at most R; a token of the log takes at most N expands, and END none. The argument is over a measure
-- (`Measure`), so that it bounds the rule numbers too (Listed.antt).
use Rattle.std.specs.Prelude.{ℕ, zero, suc, ◌+◌, ◌*◌, ◌≤◌, ◌<◌, ◌≡◌, get_or, take, drop}
use Rattle.std.proofs.Math.Path.{refl, ap, subst}
use Rattle.std.proofs.Common.{sym, ◌∙◌, length-take-le}
use mathlib.Core.List.{List, [], ◌∷◌, ◌++◌}
use Rattle.std.proofs.Math.Option.{Option}
use native.Mathlib.Omega.{arith}
use Rattle.std.proofs.Math.ListN.{length, length-append, length-drop}
use Rattle.grammar.specs.Words.{END, Terminal}
use Rattle.grammar.specs.Derivation.{Rules, All, First}
use Rattle.grammar.specs.Grammar.{Grammar}
use Rattle.grammar.specs.Moves.{Move}
use Rattle.grammar.specs.Run.{Pop, Popped, Pick, Choice, State, Limits, Run, started, next, made, deletes, pops}
use Rattle.grammar.specs.declared.Refusal.{Refusal}
use Rattle.grammar.specs.Theory.Leftmost.{to_der}
use Rattle.grammar.specs.Theory.Closed.{closed_down}
use Rattle.grammar.specs.Theory.Good.{Good, known_not_end}
use Rattle.grammar.specs.Theory.Forms.{Ended, At, ended_nonempty, at_down}
use Rattle.grammar.specs.Theory.Reach.{first_append}
use Rattle.grammar.specs.Theory.Leads.{Budget, budget_full, budget_some, budget_expand, budget_drop}
use Rattle.grammar.proofs.Theory.Chosen.{dropped_empty}
use Rattle.grammar.proofs.Theory.Pops.{length_pops, popped_length}
use Rattle.grammar.specs.Theory.States.{LogToken, Live}
use Rattle.grammar.proofs.Theory.States.{state, choice_some, live_start, live_next}
use Rattle.grammar.specs.Theory.Paths.{Path}
use Rattle.grammar.proofs.Theory.Paths.{run_path}

-- How many tokens stand before END.
unfoldable pub tokens_left : List ℕ → ℕ
tokens_left [] = 0
tokens_left (t ∷ ρ) = length ρ

-- The expands that are left where the current token may take k more, of d tokens before END.
unfoldable pub expands_left : ℕ → ℕ → ℕ → ℕ
expands_left N k zero = 0
expands_left N k (suc d) = k + N * d

pub expands_fresh : (N d : ℕ) → expands_left N N d ≡ N * d
unfolding expands_left
expands_fresh N zero = omega arith
expands_fresh N (suc d) = omega arith

-- The moves that are left.
unfoldable moves_left : ℕ → ℕ → ℕ → List ℕ → List ℕ → ℕ
moves_left N R k σ ρ = length σ + tokens_left ρ + R * expands_left N k (tokens_left ρ)

-- The current token may take k more expands: nothing has moved for it, or it is in FIRST of the stack and k are left.
pub data Credit (G : Grammar) (N : ℕ) (σ ρ : List ℕ) (k : ℕ) : Type 0 where
  fresh : k ≡ N → Credit G N σ ρ k
  begun : First G.rules σ (get_or ρ 0 END) → Budget G.rules (get_or ρ 0 END) σ k → Credit G N σ ρ k

length_deletes : (p : ℕ) (ts : List ℕ) → length (deletes p ts) ≡ length ts
unfolding deletes
length_deletes p [] = refl
length_deletes p (t ∷ ts) = ap suc (length_deletes (p + 1) ts)

-- As many are popped as stood above.
pub popped_count : {R : Rules} {ps : List Pop} (i : ℕ) (σ : List ℕ) → Popped R (take i σ) ps → i < length σ → length ps ≡ i
popped_count i σ y l = omega (arith, popped_length y, length-take-le i σ (omega arith))

-- A correction makes j deletes and i pops, whatever these become.
pub correction_length : (p j i : ℕ) (ρ : List ℕ) (ps : List Pop) → length ps ≡ i → j < length ρ
    → length (deletes p (take j ρ) ++ pops (p + j) ps) ≡ j + i
correction_length p j i ρ ps l h =
    omega (
      arith,
      length-append (deletes p (take j ρ)) (pops (p + j) ps),
      length_deletes p (take j ρ),
      length_pops (p + j) ps,
      length-take-le j ρ (omega arith),
    )

pub tokens_drop : (j : ℕ) (ρ : List ℕ) → j < length ρ → tokens_left (drop j ρ) + j ≡ tokens_left ρ
unfolding tokens_left
tokens_drop zero ρ l = omega arith
tokens_drop (suc j) [] l = absurd (omega arith)
tokens_drop (suc j) (t ∷ []) l = absurd (omega arith)
tokens_drop (suc j) (t ∷ u ∷ ρ) l = omega (arith, tokens_drop j (u ∷ ρ) (omega arith))

module _ (G : Grammar) (N R : ℕ) (good : Good G N R) where
  -- END is in FIRST of no right side.
  end_not_inside : {p A : ℕ} {β : List ℕ} → G.rules p A β → First G.rules β END → ⊥
  end_not_inside {p = p} {A = A} {β = β} r f =
      outside
      (closed_down G.rules G.known (λ q B γ s h. good.symbols q B γ s) (to_der G.rules f.begins) (good.symbols p A β r))
    where
      outside : {γ : List ℕ} → All G.known (END ∷ γ) → ⊥
      outside (All.also k c) = known_not_end good k refl

  -- Where the token may take k more expands, leads down the stack have at most k.
  credit_budget : {t k : ℕ} {σ ρ : List ℕ} → Terminal t → Credit G N σ (t ∷ ρ) k → Budget G.rules t σ k
  credit_budget {t = t} {σ = σ} l (Credit.fresh e) = subst (λ n. Budget G.rules t σ n) (sym e) (budget_full G N R good σ l)
  credit_budget l (Credit.begun f b) = b

  -- A token in error is one for which nothing has moved.
  credit_fresh : {t k : ℕ} {σ ρ : List ℕ} → (First G.rules σ t → ⊥) → Credit G N σ (t ∷ ρ) k → k ≡ N
  credit_fresh n (Credit.fresh e) = e
  credit_fresh n (Credit.begun f b) = absurd (n f)

  -- What is counted of the moves, and a bound on what is left of it, of which the current token may take k expands: each of the four
  -- kinds of decision counts no more than it takes off. ms come behind.
  pub record Measure : Type 0 where
    pub count : List Move → ℕ
    pub left : ℕ → List ℕ → List ℕ → ℕ
    pub nothing : (k : ℕ) (σ ρ : List ℕ) → count [] ≤ left k σ ρ
    pub on_match : (p X t k : ℕ) (σ ρ : List ℕ) (ms : List Move) → count ms ≤ left N σ ρ
        → count (Move.match p t ∷ ms) ≤ left k (X ∷ σ) (t ∷ ρ)
    pub on_expand : (p A t k : ℕ) (β σ ρ : List ℕ) (ms : List Move) → length β ≤ R → (ρ ≡ [] → ⊥) → count ms ≤ left k (β ++ σ) (t ∷ ρ)
        → count (Move.expand p ∷ ms) ≤ left (suc k) (A ∷ σ) (t ∷ ρ)
    pub on_drop : (X k : ℕ) (σ ρ : List ℕ) (ms : List Move) → count ms ≤ left k σ ρ → count (Move.drop X ∷ ms) ≤ left k (X ∷ σ) ρ
    pub on_correct : (p j i : ℕ) (σ ρ : List ℕ) (ps : List Pop) (ms : List Move) → i < length σ → j < length ρ → length ps ≡ i
        → count ms ≤ left N (drop i σ) (drop j ρ) → count ((deletes p (take j ρ) ++ pops (p + j) ps) ++ ms) ≤ left N σ ρ

  -- ---- The moves

  bounded_match : (X t k m : ℕ) (σ ρ : List ℕ) → m ≤ moves_left N R N σ ρ → suc m ≤ moves_left N R k (X ∷ σ) (t ∷ ρ)
  unfolding moves_left tokens_left expands_left
  bounded_match X t k m σ [] h = omega arith
  bounded_match X t k m σ (u ∷ ρ) h = omega (arith, ap (λ n. R * n) (expands_fresh N (length ρ)))

  bounded_expand : (A t k m : ℕ) (β σ ρ : List ℕ) → length β ≤ R → (ρ ≡ [] → ⊥) → m ≤ moves_left N R k (β ++ σ) (t ∷ ρ)
      → suc m ≤ moves_left N R (suc k) (A ∷ σ) (t ∷ ρ)
  unfolding moves_left tokens_left expands_left
  bounded_expand A t k m β σ [] l n h = absurd (n refl)
  bounded_expand A t k m β σ (u ∷ ρ) l n h = omega (arith, length-append β σ)

  bounded_drop : (X k m : ℕ) (σ ρ : List ℕ) → m ≤ moves_left N R k σ ρ → suc m ≤ moves_left N R k (X ∷ σ) ρ
  unfolding moves_left
  bounded_drop X k m σ ρ h = omega arith

  bounded_correct : (j i m : ℕ) (σ ρ : List ℕ) → i < length σ → j < length ρ → m ≤ moves_left N R N (drop i σ) (drop j ρ)
      → (j + i) + m ≤ moves_left N R N σ ρ
  unfolding moves_left
  bounded_correct j i m σ ρ l h b =
      let d = tokens_left (drop j ρ) in
      let tokens : d + j ≡ tokens_left ρ = tokens_drop j ρ h in
      let before : R * expands_left N N (tokens_left ρ) ≡ R * (N * (d + j)) =
      ap (λ n. R * n) (expands_fresh N (tokens_left ρ) ∙ ap (λ n. N * n) (sym tokens)) in
      let after : R * expands_left N N d ≡ R * (N * d) = ap (λ n. R * n) (expands_fresh N d) in
      omega (arith, length-drop i σ)

  move_measure : Measure
  move_measure = record {
    count = length;
    left = moves_left N R;
    nothing = λ k σ ρ. omega arith;
    on_match = λ p X t k σ ρ ms h. bounded_match X t k (length ms) σ ρ h;
    on_expand = λ p A t k β σ ρ ms l n h. bounded_expand A t k (length ms) β σ ρ l n h;
    on_drop = λ X k σ ρ ms h. bounded_drop X k (length ms) σ ρ h;
    on_correct = λ p j i σ ρ ps ms l h c b.
        omega (
          arith,
          bounded_correct j i (length ms) σ ρ l h b,
          correction_length p j i ρ ps c h,
          length-append (deletes p (take j ρ) ++ pops (p + j) ps) ms,
        );
  }

  -- A token that an expand is for is not END.
  not_end : {p A t : ℕ} {β ρ : List ℕ} → G.rules p A β → First G.rules β t → Ended LogToken (t ∷ ρ) → ρ ≡ [] → ⊥
  not_end {β = β} r f (Ended.last e) h = end_not_inside r (subst (λ x. First G.rules β x) e f)
  not_end r f (Ended.also k a) h = ended_nonempty a h

  expand_step : (M : Measure) {p A t : ℕ} {β σ ρ : List ℕ} (ms : List Move) (k : ℕ) → G.rules p A β → First G.rules β t
      → Ended LogToken (t ∷ ρ) → At G (A ∷ σ) → Budget G.rules t (A ∷ σ) k
      → ((n : ℕ) → Credit G N (β ++ σ) (t ∷ ρ) n → M.count ms ≤ M.left n (β ++ σ) (t ∷ ρ))
      → M.count (Move.expand p ∷ ms) ≤ M.left k (A ∷ σ) (t ∷ ρ)
  expand_step M {σ = σ} ms zero r g q a b f = absurd (omega (arith, budget_some G N R good σ r g b))
  expand_step M {p = p} {A = A} {t = t} {β = β} {σ = σ} {ρ = ρ} ms (suc k) r g q a b f =
      M.on_expand p A t k β σ ρ ms (good.size p A β r) (not_end r g q)
      (f k (Credit.begun (first_append G.rules g σ) (budget_expand G N R good (at_down G N R good a r) r g b)))

  credit_drop : {X t k : ℕ} {σ ρ : List ℕ} → First G.rules (X ∷ σ) t → (First G.rules (X ∷ []) t → ⊥)
      → Credit G N (X ∷ σ) (t ∷ ρ) k → Credit G N σ (t ∷ ρ) k
  credit_drop g n (Credit.fresh e) = Credit.fresh e
  credit_drop g n (Credit.begun f b) =
      let h = dropped_empty G g n in Credit.begun h.1 (budget_drop G N R good h.0 b)

  -- One decision, and the moves behind it.
  bounded_step : (M : Measure) {σ ρ : List ℕ} {x : Pick} (ms : List Move) (p c l k : ℕ) → Choice G σ ρ x → Ended LogToken ρ → At G σ
      → Credit G N σ ρ k
      → ((n : ℕ) → Credit G N (next (state σ p ρ c l) x).stack (next (state σ p ρ c l) x).rest n
      → M.count ms ≤ M.left n (next (state σ p ρ c l) x).stack (next (state σ p ρ c l) x).rest)
      → M.count (made (state σ p ρ c l) x ++ ms) ≤ M.left k σ ρ
  unfolding next made
  bounded_step M ms p c l k (Choice.match {X = X} {t = t} {σ = σ} {rest = ρ} e) q a b f =
      M.on_match p X t k σ ρ ms (f N (Credit.fresh refl))
  bounded_step M ms p c l k (Choice.expand r g) q a b f = expand_step M ms k r g q a (credit_budget g.token b) f
  bounded_step M ms p c l k (Choice.pass {X = X} {t = t} {σ = σ} {rest = ρ} g n) q a b f =
      M.on_drop X k σ (t ∷ ρ) ms (f k (credit_drop g n b))
  bounded_step M ms p c l k (Choice.correct {t = t} {j = j} {i = i} {σ = σ} {rest = ρ} {ps = ps} n x y) q a b f =
      let l = x.plausible.within in
      subst (λ m. M.count ((deletes p (take j (t ∷ ρ)) ++ pops (p + j) ps) ++ ms) ≤ M.left m σ (t ∷ ρ))
      (sym (credit_fresh n b))
      (M.on_correct p j i σ (t ∷ ρ) ps ms l x.within (popped_count i σ y l) (f N (Credit.fresh refl)))

  live_step : (M : Measure) {σ ρ : List ℕ} {x : Pick} (ms : List Move) (p c l k : ℕ) → Choice G σ ρ x → Live G σ ρ → Credit G N σ ρ k
      → ((n : ℕ) → Credit G N (next (state σ p ρ c l) x).stack (next (state σ p ρ c l) x).rest n
      → M.count ms ≤ M.left n (next (state σ p ρ c l) x).stack (next (state σ p ρ c l) x).rest)
      → M.count (made (state σ p ρ c l) x ++ ms) ≤ M.left k σ ρ
  live_step M ms p c l k d (Live.running s q a) b f = bounded_step M ms p c l k d q a b f
  live_step M ms p c l k d (Live.over e g) b f = absurd (choice_some d g)

  pub path_bounded : (M : Measure) {L : Limits} {s u : State} {ms : List Move} → Path G L s ms u → (k : ℕ) → Live G s.stack s.rest
      → Credit G N s.stack s.rest k → M.count ms ≤ M.left k s.stack s.rest
  path_bounded M Path.still k v b = M.nothing k _ _
  path_bounded M (Path.onward {s = s} {ms = ms} c l q) k v b =
      live_step M ms s.place s.records s.listed k c v b (λ n d. path_bounded M q n (live_next G N R good s c v) d)

  pub tokens_log : (log : List ℕ) → tokens_left (log ++ (END ∷ [])) ≡ length log
  unfolding tokens_left
  tokens_log [] = refl
  tokens_log (t ∷ log) = omega (arith, length-append log (END ∷ []))

  start_left : (log : List ℕ) → moves_left N R N G.begin (log ++ (END ∷ [])) ≡ length G.begin + length log + R * N * length log
  unfolding moves_left
  start_left log =
      let e : R * expands_left N N (tokens_left (log ++ (END ∷ []))) ≡ R * (N * length log) =
      ap (λ n. R * n) (ap (λ n. expands_left N N n) (tokens_log log) ∙ expands_fresh N (length log)) in
      omega (arith, tokens_log log)

  -- Every path of decisions from the start has at most so many moves,
  pub path_moves_bounded : {L : Limits} {log : List ℕ} {ms : List Move} {u : State} → All LogToken log
      → Path G L (started G.begin log) ms u → length ms ≤ length G.begin + length log + R * N * length log
  unfolding move_measure
  path_moves_bounded {log = log} a q =
      let h = path_bounded move_measure q N (live_start G N R good a) (Credit.fresh refl) in
      omega (arith, start_left log)

  -- and so has every run, whatever its outcome.
  pub moves_bounded : {L : Limits} {log : List ℕ} {ms : List Move} {o : Option Refusal} → All LogToken log
      → Run G L (started G.begin log) ms o → length ms ≤ length G.begin + length log + R * N * length log
  moves_bounded {L = L} a r = path_moves_bounded a (run_path G L r).1
