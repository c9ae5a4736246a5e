-- Demand 2: the repaired log yields a correct log whenever each inserted nonterminal is replaced by any terminal string that
-- it derives; and there are such strings.
use Rattle.std.specs.Prelude.{ℕ, zero, suc, ◌+◌, ◌≡◌, take}
use Rattle.std.proofs.Common.{sym, arith}
use Rattle.std.proofs.Math.Path.{subst}
use mathlib.Core.List.{List, [], ◌∷◌, ◌++◌, append_assoc, cons≢nil, head-eq_of_cons-eq, tail-eq_of_cons-eq}
use Rattle.std.proofs.Math.Option.{Option, none}
use Rattle.grammar.specs.Words.{END, Terminal}
use Rattle.grammar.specs.Derivation.{Rules, All, Yields}
use Rattle.grammar.specs.Grammar.{Grammar}
use Rattle.grammar.specs.Moves.{Move, log_token, repaired, Placed, passed, placed}
use Rattle.grammar.specs.Run.{Pop, Popped, Pick, Choice, State, Limits, Run, started, made, deletes, pops}
use Rattle.grammar.specs.declared.Refusal.{Refusal}
use Rattle.grammar.specs.Theory.Leftmost.{Der, to_der, of_der, der_append, der_refl, der_trans}
use Rattle.grammar.specs.Theory.Closed.{all_append}
use Rattle.grammar.specs.Theory.Good.{Good}
use Rattle.grammar.specs.Theory.Forms.{yields_some}
use Rattle.grammar.specs.Theory.States.{LogToken, Live}
use Rattle.grammar.proofs.Theory.States.{state, choice_some, ended_take, live_start, live_next}
use Rattle.grammar.proofs.Theory.Repaired.{repaired_derivable, passed_log}
use Rattle.grammar.specs.Theory.Filled.{Filled}

-- The tokens of a list with places are terminals where the list's are.
record Tokens (x : Placed) (l : List Placed) : Type 0 where
  terminal : Terminal x.token
  place : ℕ
  rest : List ℕ
  behind : l ≡ placed place rest
  terminals : All Terminal rest

filled_derives : {R : Rules} {ms : List Move} {w : List ℕ} → Filled R ms w → Der R (repaired ms) w
unfolding repaired
filled_derives Filled.nothing = Der.done
filled_derives {R = R} (Filled.kept {t = t} f) = der_append R (der_refl R (log_token t)) (filled_derives f)
filled_derives (Filled.expanded f) = filled_derives f
filled_derives (Filled.dropped f) = filled_derives f
filled_derives (Filled.deleted f) = filled_derives f
filled_derives {R = R} (Filled.replaced y f) = der_append R (to_der R y.derives) (filled_derives f)

tokens : {x : Placed} {l : List Placed} {ts : List ℕ} (p : ℕ) → All Terminal ts → x ∷ l ≡ placed p ts → Tokens x l
unfolding placed
tokens p All.nothing e = absurd (cons≢nil e)
tokens p (All.also {l = ts} h a) e =
    record {
      terminal = subst (λ x. Terminal x.token) (sym (head-eq_of_cons-eq e)) h;
      place = p + 1;
      rest = ts;
      behind = tail-eq_of_cons-eq e;
      terminals = a;
    }

token_terminals : (t : ℕ) → Terminal t → All Terminal (log_token t)
unfolding log_token
token_terminals zero l = All.nothing
token_terminals (suc t) l = All.also l All.nothing

filled_terminals : {R : Rules} {ms : List Move} {w ts : List ℕ} → Filled R ms w → (p : ℕ) → All Terminal ts → passed ms ≡ placed p ts
    → All Terminal w
unfolding passed
filled_terminals Filled.nothing p a e = All.nothing
filled_terminals (Filled.kept {t = t} f) p a e =
    let h = tokens p a e in
    all_append (token_terminals t h.terminal) (filled_terminals f h.place h.terminals h.behind)
filled_terminals (Filled.expanded f) p a e = filled_terminals f p a e
filled_terminals (Filled.dropped f) p a e = filled_terminals f p a e
filled_terminals (Filled.deleted f) p a e = let h = tokens p a e in filled_terminals f h.place h.terminals h.behind
filled_terminals (Filled.replaced y f) p a e = all_append y.terminals (filled_terminals f p a e)

log_terminals : {log : List ℕ} → All LogToken log → All Terminal (log ++ (END ∷ []))
log_terminals All.nothing = All.also {x = END} (omega arith) All.nothing
log_terminals (All.also h a) = All.also h.1 (log_terminals a)

-- "It yields a correct log whenever each inserted nonterminal is replaced by any terminal string it derives."
pub repaired_correct : (G : Grammar) (N R : ℕ) (good : Good G N R) {L : Limits} {log w : List ℕ} {ms : List Move} → All LogToken log
    → Run G L (started G.begin log) ms none → Filled G.rules ms w → Yields G.rules good.opened w
repaired_correct G N R good {log = log} a r f =
    record {
      terminals = filled_terminals f 0 (log_terminals a) (passed_log log r);
      derives =
          of_der G.rules
          (der_trans G.rules (to_der G.rules (repaired_derivable G N R good a r)) (filled_derives f));
    }

-- ---- There are such strings

filled_deletes : {R : Rules} {ms : List Move} {w : List ℕ} (p : ℕ) (ts : List ℕ) → Filled R ms w → Filled R (deletes p ts ++ ms) w
unfolding deletes
filled_deletes p [] f = f
filled_deletes p (t ∷ ts) f = Filled.deleted (filled_deletes (p + 1) ts f)

module _ (G : Grammar) (N R : ℕ) (good : Good G N R) where
  filled_pops : {Xs w : List ℕ} {ps : List Pop} {ms : List Move} (r : ℕ) → Popped G.rules Xs ps → All G.known Xs
      → Filled G.rules ms w → (v : List ℕ) × Filled G.rules (pops r ps ++ ms) v
  unfolding pops
  filled_pops {w = w} r Popped.nothing a f = (w, f)
  filled_pops r (Popped.empty c y) (All.also h a) f = let rest = filled_pops r y a f in (rest.0, Filled.dropped rest.1)
  filled_pops r (Popped.missing n y) (All.also h a) f =
      let string = yields_some G N R good (All.also h All.nothing) in
      let rest = filled_pops r y a f in
      (string.0 ++ rest.0, Filled.replaced string.1 rest.1)

  filled_step : {σ ρ : List ℕ} {x : Pick} {ms : List Move} {w : List ℕ} (p k l : ℕ) → Choice G σ ρ x → Live G σ ρ
      → Filled G.rules ms w → (v : List ℕ) × Filled G.rules (made (state σ p ρ k l) x ++ ms) v
  unfolding made
  filled_step p k l c (Live.over e g) f = absurd (choice_some c g)
  filled_step {w = w} p k l (Choice.match {t = t} e) (Live.running s q a) f = (log_token t ++ w, Filled.kept f)
  filled_step {w = w} p k l (Choice.expand r g) (Live.running s q a) f = (w, Filled.expanded f)
  filled_step {w = w} p k l (Choice.pass g n) (Live.running s q a) f = (w, Filled.dropped f)
  filled_step {ρ = ρ} {ms = ms} p k l (Choice.correct {j = j} {i = i} {ps = ps} n x y) (Live.running s q a) f =
      let rest = filled_pops (p + j) y (ended_take i s x.plausible.within) f in (
        rest.0,
        subst (λ l. Filled G.rules l rest.0)
            (sym (append_assoc (deletes p (take j ρ)) (pops (p + j) ps) ms))
            (filled_deletes p (take j ρ) rest.1),
      )

  filled_run : {L : Limits} {s : State} {ms : List Move} {o : Option Refusal} → Run G L s ms o → Live G s.stack s.rest
      → (w : List ℕ) × Filled G.rules ms w
  filled_run (Run.ended e f) v = ([], Filled.nothing)
  filled_run (Run.moved {s = s} c l r) v =
      let rest = filled_run r (live_next G N R good s c v) in filled_step s.place s.records s.listed c v rest.1
  filled_run (Run.stopped c l) v = ([], Filled.nothing)

  -- Every repaired log can be so filled.
  pub filled_exists : {L : Limits} {log : List ℕ} {ms : List Move} {o : Option Refusal} → All LogToken log
      → Run G L (started G.begin log) ms o → (w : List ℕ) × Filled G.rules ms w
  filled_exists a r = filled_run r (live_start G N R good a)
