-- An answer is values or a refusal, and never both; and a refusal's number is short.
use Rattle.std.specs.Prelude.{ℕ, ◌<◌, ◌≡◌, refl, Result, Ok, Err}
use Rattle.std.proofs.Common.{arith, ap}
use Rattle.grammar.specs.Refusals.{number_of, Outcome, given, refused, outcome_of, refusal_of}
use Rattle.grammar.specs.declared.Refusal.{Refusal}
use Rattle.grammar.specs.declared.Refusal.TheVariants.{
  BadSize,
  BadCheck,
  BadBlock,
  ShortWords,
  BadShape,
  Unreachable,
  NoString,
  TooCostly,
  SharedPredict,
  BadLog,
  StackFull,
  NoRoom,
  BadCount,
  ShortBytes,
  ShortTokens,
  Hundredths,
  ShortDesk,
}

pub given_refused : {A : Type 0} {o : Outcome A} {a : A} {r : Refusal} → o ≡ given a → o ≡ refused r → ⊥
given_refused e f = let z : ◌≡◌ {A = ℕ} 0 1 = cc in omega arith

pub given_same : {A : Type 0} {a b : A} → ◌≡◌ {A = Outcome A} (given a) (given b) → a ≡ b
given_same e = cc

pub refused_same : {A : Type 0} {r s : Refusal} → ◌≡◌ {A = Outcome A} (refused r) (refused s) → r ≡ s
refused_same e = cc

-- A refusal's number has at most two digits.
pub number_small : (r : Refusal) → number_of r < 100
number_small BadSize = omega arith
number_small BadCheck = omega arith
number_small BadBlock = omega arith
number_small ShortWords = omega arith
number_small BadShape = omega arith
number_small Unreachable = omega arith
number_small NoString = omega arith
number_small TooCostly = omega arith
number_small SharedPredict = omega arith
number_small BadLog = omega arith
number_small StackFull = omega arith
number_small NoRoom = omega arith
number_small BadCount = omega arith
number_small ShortBytes = omega arith
number_small ShortTokens = omega arith
number_small Hundredths = omega arith
number_small ShortDesk = omega arith

-- ---- Answers of the code

-- Two answers that stand for the same are equal:
pub outcome_same : {A : Type 0} (r s : Result A Refusal) → outcome_of r ≡ outcome_of s → r ≡ s
outcome_same (Ok a) (Ok b) e = ap (λ x. Ok x) (given_same e)
outcome_same (Ok a) (Err q) e = absurd (given_refused refl e)
outcome_same (Err q) (Ok b) e = absurd (given_refused e refl)
outcome_same (Err q) (Err r) e = ap (λ x. Err x) (refused_same e)

-- and so are two that give nothing but a verdict.
pub verdict_same : (r s : Result (Unit {0}) Refusal) → refusal_of r ≡ refusal_of s → r ≡ s
verdict_same (Ok a) (Ok b) e = refl
verdict_same (Ok a) (Err q) e = absurd (let z : ◌≡◌ {A = ℕ} 0 1 = cc in omega arith)
verdict_same (Err q) (Ok a) e = absurd (let z : ◌≡◌ {A = ℕ} 0 1 = cc in omega arith)
verdict_same (Err q) (Err r) e = let same : q ≡ r = cc in ap (λ x. Err x) same
