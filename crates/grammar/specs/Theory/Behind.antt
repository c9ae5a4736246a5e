-- What theorems of proofs/Theory/Behind.antt speak of.
use Prim.Native.Nat.{ℕ, zero, suc, ◌+◌, ◌*◌, ◌≤◌}
use Rattle.std.specs.Prelude.{◌≡◌, List, ◌∷◌, ◌↔◌}
use Rattle.std.proofs.Math.ListN.{drop}
use Rattle.grammar.specs.Words.{word}
use Rattle.grammar.specs.Words.{header_size, terminal_count, nonterminal_count, rule_count, opening, closing, tick_unit, restart_mark}

-- The words behind the header.
abbrev pub behind : List ℕ → List ℕ
behind ws = drop (header_size ws) ws

-- The headers say the same, in front of the same words; and the unit of both is 0 or 1, or of neither.
pub record SameHeader (ws vs : List ℕ) : Type 0 where
  pub terminals : terminal_count ws ≡ terminal_count vs
  pub nonterminals : nonterminal_count ws ≡ nonterminal_count vs
  pub rules : rule_count ws ≡ rule_count vs
  pub opening : opening ws ≡ opening vs
  pub closing : closing ws ≡ closing vs
  pub unit : (tick_unit ws ≤ 1) ↔ (tick_unit vs ≤ 1)
  pub restart : restart_mark ws ≡ restart_mark vs
  pub rest : behind ws ≡ behind vs

-- Where rule p stands among them.
unfoldable pub place_in : ℕ → List ℕ → ℕ → ℕ
place_in T rest zero = 2 * T
place_in T rest (suc p) = place_in T rest p + 2 + word rest (place_in T rest p + 1)

abbrev pub seven_words : (T N P o c u : ℕ) → List ℕ → List ℕ
seven_words T N P o c u rest = (T + 256) ∷ N ∷ P ∷ o ∷ c ∷ u ∷ 0 ∷ rest

abbrev pub six_form : (T N P o c u : ℕ) → List ℕ → List ℕ
six_form T N P o c u rest = T ∷ N ∷ P ∷ o ∷ c ∷ u ∷ rest
