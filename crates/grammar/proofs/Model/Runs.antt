-- The run, by choosing again and again: where the model comes to an end, it made document 01's run.
use Rattle.std.specs.Prelude.{ℕ, zero, suc, ◌≡◌, Bool, ◌&&◌, List, [], ◌∷◌, ◌++◌}
use Rattle.std.proofs.Math.Path.{refl, subst}
use Rattle.std.proofs.Common.{sym}
use Rattle.std.proofs.Math.Bool.{true, false}
use Rattle.std.proofs.Math.Option.{Option, none, some}
use Rattle.std.proofs.Math.Dec.{T, ltb, ltb→lt}
use Rattle.grammar.specs.Grammar.{Grammar}
use Rattle.grammar.specs.Moves.{Move}
use Rattle.grammar.specs.Run.{State, Limits, Pick, made, next, deletes, pops, limit, Choice, Run}
use Rattle.grammar.specs.declared.Refusal.{Refusal}
use Rattle.grammar.specs.Model.Tests.{none_some, some_same, left_of, right_of_lem, every, every_all}
use Rattle.grammar.specs.Theory.Members.{all_map}
use Rattle.grammar.specs.Model.Decided.{Tests, Decided}
use Rattle.grammar.proofs.Model.Choose.{choose, chosen}

-- What a run came to: its moves, and the refusal that it met, if any.
pub record Done : Type 0 where
  pub moves : List Move
  pub end : Option Refusal

unfoldable pub is_empty : List ℕ → Bool
is_empty [] = true
is_empty (x ∷ l) = false

unfoldable pub prepend : List Move → Option Done → Option Done
prepend ms none = none
prepend ms (some d) = some (record { moves = ms ++ d.moves; end = d.end })

unfoldable pub by_limit : (State → Option Done) → State → Pick → Option Refusal → Option Done
unfolding prepend made next deletes pops
by_limit rec s x none = prepend (made s x) (rec (next s x))
by_limit rec s x (some r) = some (record { moves = []; end = some r })

unfoldable pub by_choice : (State → Option Done) → Limits → State → Option Pick → Option Done
unfolding by_limit limit
by_choice rec L s none = none
by_choice rec L s (some x) = by_limit rec s x (limit L s x)

-- Every symbol of the stack has a known cost, and every token is a terminal.
unfoldable pub sane : Tests → State → Bool
unfolding every
sane D s = every D.inner s.stack && every (λ t. ltb t 64) s.rest

unfoldable pub by_sane : Tests → (State → Option Done) → Limits → State → Bool → Option Done
unfolding by_choice choose
by_sane D rec L s true = by_choice rec L s (choose D s.stack s.rest)
by_sane D rec L s false = none

unfoldable pub by_end : Tests → (State → Option Done) → Limits → State → Bool → Option Done
unfolding by_sane sane
by_end D rec L s true = some (record { moves = []; end = none })
by_end D rec L s false = by_sane D rec L s (sane D s)

-- The run from state s on, in at most n choices.
unfoldable pub runs : Tests → Limits → ℕ → State → Option Done
unfolding by_end is_empty
runs D L zero s = none
runs D L (suc n) s = by_end D (runs D L n) L s (is_empty s.stack && is_empty s.rest)

is_empty_lem : (l : List ℕ) → T (is_empty l) → l ≡ []
unfolding is_empty
is_empty_lem [] h = refl
is_empty_lem (_ ∷ _) h = elim h [ ]

module _ {G : Grammar} (D : Tests) (d : Decided G D) (L : Limits) (rec : State → Option Done)
    (ok : (u : State) (f : Done) → rec u ≡ some f → Run G L u f.moves f.end) (s : State) where
  -- A run, at what the model says it came to.
  same_run : {f e : Done} → Run G L s f.moves f.end → some f ≡ some e → Run G L s e.moves e.end
  same_run r q = subst (λ k. Run G L s k.moves k.end) (some_same q) r

  by_limit_lem : (x : Pick) (f : Done) → Choice G s.stack s.rest x → (o : Option Refusal) → limit L s x ≡ o → by_limit rec s x o ≡ some f
      → Run G L s f.moves f.end
  unfolding by_limit
  by_limit_lem x f c none q e = go (rec (next s x)) refl e
    where
      go : (o : Option Done) → rec (next s x) ≡ o → prepend (made s x) o ≡ some f → Run G L s f.moves f.end
      go none k e = absurd (none_some e)
      go (some g) k e = same_run {f = record { moves = made s x ++ g.moves; end = g.end }} (Run.moved c q (ok (next s x) g k)) e
  by_limit_lem x f c (some r) q e = same_run {f = record { moves = []; end = some r }} (Run.stopped c q) e

  by_choice_lem : (f : Done) → (o : Option Pick) → ((x : Pick) → o ≡ some x → Choice G s.stack s.rest x) → by_choice rec L s o ≡ some f
      → Run G L s f.moves f.end
  unfolding by_choice
  by_choice_lem f none c e = absurd (none_some e)
  by_choice_lem f (some x) c e = by_limit_lem x f (c x refl) (limit L s x) refl e

  by_sane_lem : (f : Done) (b : Bool) → sane D s ≡ b → by_sane D rec L s b ≡ some f → Run G L s f.moves f.end
  unfolding by_sane sane
  by_sane_lem f false q e = absurd (none_some e)
  by_sane_lem f true q e =
      let h : T (sane D s) = subst T (sym q) tt in
      let a = every_all D.inner s.stack (left_of (every D.inner s.stack) (every (λ t. ltb t 64) s.rest) h) in
      let b = every_all (λ t. ltb t 64) s.rest (right_of_lem (every D.inner s.stack) (every (λ t. ltb t 64) s.rest) h) in
      by_choice_lem f (choose D s.stack s.rest)
      (λ x. chosen D d s.stack s.rest x (all_map d.costs a) (all_map (λ t. ltb→lt t 64) b)) e

  by_end_lem : (f : Done) (b : Bool) → (is_empty s.stack && is_empty s.rest) ≡ b → by_end D rec L s b ≡ some f
      → Run G L s f.moves f.end
  unfolding by_end
  by_end_lem f true q e =
      let h : T (is_empty s.stack && is_empty s.rest) = subst T (sym q) tt in
      same_run {f = record { moves = []; end = none }}
      (Run.ended (is_empty_lem s.stack (left_of (is_empty s.stack) (is_empty s.rest) h))
      (is_empty_lem s.rest (right_of_lem (is_empty s.stack) (is_empty s.rest) h)))
      e
  by_end_lem f false q e = by_sane_lem f (sane D s) refl e

-- What the model comes to is document 01's run.
pub ran : {G : Grammar} (D : Tests) (d : Decided G D) (L : Limits) (n : ℕ) (s : State) (f : Done) → runs D L n s ≡ some f
    → Run G L s f.moves f.end
unfolding runs
ran D d L zero s f e = absurd (none_some e)
ran D d L (suc n) s f e = by_end_lem D d L (runs D L n) (ran D d L n) s f (is_empty s.stack && is_empty s.rest) refl e
