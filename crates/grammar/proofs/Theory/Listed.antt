-- A run lists at most N rules for each token: the measure of Bounded.antt that counts the expands alone.
use Rattle.std.specs.Prelude.{ℕ, suc, ◌+◌, ◌*◌, ◌≤◌, ◌<◌, ◌≡◌, refl, take, drop}
use Rattle.std.proofs.Common.{sym, ◌∙◌}
use Rattle.std.proofs.Math.Path.{ap, subst}
use mathlib.Core.List.{List, [], ◌∷◌, ◌++◌}
use native.Mathlib.Omega.{arith}
use Rattle.std.proofs.Math.ListN.{length}
use Rattle.grammar.specs.Derivation.{All}
use Rattle.grammar.specs.Grammar.{Grammar}
use Rattle.grammar.specs.Moves.{Move, rule_numbers}
use Rattle.grammar.specs.Run.{State, Limits, started}
use Rattle.grammar.specs.Theory.Good.{Good}
use Rattle.grammar.proofs.Theory.Folds.{rules_correction}
use Rattle.grammar.specs.Theory.States.{LogToken}
use Rattle.grammar.proofs.Theory.States.{live_start}
use Rattle.grammar.specs.Theory.Paths.{Path}
use Rattle.grammar.proofs.Theory.Bounded.{Credit, Measure, expands_fresh, expands_left, path_bounded, tokens_drop, tokens_log, tokens_left}

module _ (G : Grammar) (N R : ℕ) (good : Good G N R) where
  listed_left : ℕ → List ℕ → List ℕ → ℕ
  listed_left k σ ρ = expands_left N k (tokens_left ρ)

  listed_match : (X t k m : ℕ) (σ ρ : List ℕ) → m ≤ listed_left N σ ρ → m ≤ listed_left k (X ∷ σ) (t ∷ ρ)
  unfolding listed_left tokens_left expands_left
  listed_match X t k m σ [] h = omega arith
  listed_match X t k m σ (u ∷ ρ) h = omega (arith, expands_fresh N (length ρ))

  listed_expand : (A t k m : ℕ) (β σ ρ : List ℕ) → (ρ ≡ [] → ⊥) → m ≤ listed_left k (β ++ σ) (t ∷ ρ)
      → suc m ≤ listed_left (suc k) (A ∷ σ) (t ∷ ρ)
  unfolding listed_left tokens_left expands_left
  listed_expand A t k m β σ [] n h = absurd (n refl)
  listed_expand A t k m β σ (u ∷ ρ) n h = omega arith

  listed_correct : (j i m : ℕ) (σ ρ : List ℕ) → j < length ρ → m ≤ listed_left N (drop i σ) (drop j ρ) → m ≤ listed_left N σ ρ
  unfolding listed_left
  listed_correct j i m σ ρ l h =
      let d = tokens_left (drop j ρ) in
      let before : expands_left N N (tokens_left ρ) ≡ N * (d + j) =
      expands_fresh N (tokens_left ρ) ∙ ap (λ n. N * n) (sym (tokens_drop j ρ l)) in
      omega (arith, expands_fresh N d)

  listed_measure : Measure G N R good
  unfolding listed_left rule_numbers
  listed_measure = record {
    count = λ ms. length (rule_numbers ms);
    left = listed_left;
    nothing = λ k σ ρ. omega arith;
    on_match = λ p X t k σ ρ ms h. listed_match X t k (length (rule_numbers ms)) σ ρ h;
    on_expand = λ p A t k β σ ρ ms l n h. listed_expand A t k (length (rule_numbers ms)) β σ ρ n h;
    on_drop = λ X k σ ρ ms h. h;
    on_correct = λ p j i σ ρ ps ms l h c b.
        subst (λ n. n ≤ listed_left N σ ρ) (sym (ap length (rules_correction p (p + j) (take j ρ) ps ms)))
        (listed_correct j i (length (rule_numbers ms)) σ ρ h b);
  }

  -- Every path lists at most N rules for each token.
  pub path_listed_bounded : {L : Limits} {log : List ℕ} {ms : List Move} {u : State} → All LogToken log
      → Path G L (started G.begin log) ms u → length (rule_numbers ms) ≤ N * length log
  unfolding listed_left listed_measure
  path_listed_bounded {log = log} a q =
      let h = path_bounded G N R good listed_measure q N (live_start G N R good a) (Credit.fresh refl) in
      omega (arith, ap (λ n. expands_left N N n) (tokens_log G N R good log), expands_fresh N (length log))
