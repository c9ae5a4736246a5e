-- Which answer is right, and what the buffers hold.
--     copy_begins, copy_goes, copy_ends    entries of the table, copied one by one
--     refuses, short, lists                the answers
use Prim.Native.Nat.{ℕ, ◌+◌, ◌-◌, ◌≤◌, ◌<◌}
use native.Mathlib.Nat.{sub-zero}
use native.Mathlib.Numerals.{add-one}
use native.Mathlib.Omega.{arith}
use mathlib.Core.Path.{◌≡◌, refl, sym, ap, ap₂, subst, subst₂, ◌∙◌}
use mathlib.Core.List.{List, [], ◌∷◌, ◌++◌}
use mathlib.Core.Option.{none, some}
use mathlib.Core.Logic.{⊎_elim}
use lib.ListN.{length, get_or, take, drop, set, replicate, length-set, length-drop, length-take}
use Rattle.std.proofs.lemmas.List.{take_all}
use lib.Seq.{length-take-le, take-suc, get_or-drop, get_or-take}
use Rattle.base.specs.Choices.{below_or}
use Rattle.base.specs.Written.{written, written_none, written_more}
use Rattle.grammar.specs.Words.{nonterminal_count, insert_cost}
use Rattle.grammar.specs.Cost.{CheapestRule}
use Rattle.grammar.specs.Grammar.{RuleOf, Verdict, grammar_of}
use Rattle.grammar.specs.Buffers.{filled, cleared}
use Rattle.grammar.specs.Desk.{CostsAndRules, desk_conditions, DeskAnswer, DeskBy}
use Rattle.grammar.specs.Refusals.{Lowest, Outcome, given, refused}
use Rattle.grammar.specs.declared.Refusal.{Refusal}
use Rattle.grammar.specs.declared.Refusal.TheVariants.{ShortDesk}
use Rattle.grammar.specs.Theory.Blocks.{filled_more}
use Rattle.grammar.specs.Theory.Conditions.{all_met, applies, passes, refused_front, held_front}
use Rattle.verdict.specs.Answer.{Priced}
use Rattle.desk.specs.Answer.{CanList}

-- ---- Copying

-- The first i entries stand in front.
pub record Copied (entries old words : List ℕ) (i : ℕ) : Type 0 where
  pub same : length words ≡ length old
  pub holds : words ≡ written old 0 (take i entries)

pub copy_begins : (entries old : List ℕ) → Copied entries old old 0
copy_begins entries old = record { same = refl; holds = sym (written_none old 0) }

pub copy_goes : {entries old words : List ℕ} {i : ℕ} → Copied entries old words i → i < length entries → length entries ≤ length old
    → Copied entries old (set words i (get_or entries i 0)) (i + 1)
copy_goes {entries} {old} {words} {i} r l room =
    let v = get_or entries i 0 in
    let size : length (take i entries) ≡ i = length-take-le i entries (omega arith) in
    let here : i ≡ 0 + length (take i entries) = omega arith in
    let more : take i entries ++ (v ∷ []) ≡ take (i + 1) entries =
    sym (take-suc entries i 0 l) ∙ ap (λ (n : ℕ). take n entries) (sym (add-one i)) in
    record {
      same = length-set words i v ∙ r.same;
      holds =
          ap₂ (λ (b : List ℕ) (p : ℕ). set b p v) r.holds here
          ∙ (written_more old 0 (take i entries) v (omega arith) ∙ ap (written old 0) more);
    }

pub copy_ends : {entries old words : List ℕ} {i : ℕ} → Copied entries old words i → length entries ≤ i → words ≡ written old 0 entries
copy_ends {entries} {old} {words} {i} r end = r.holds ∙ ap (written old 0) (take_all i entries end)

-- A list written to the front of a clear buffer.
front_filled : (room : ℕ) (xs : List ℕ) → written (cleared room) 0 xs ≡ filled room xs
unfolding filled cleared
front_filled room xs =
    ap (λ (n : ℕ). written (replicate n 0) 0 xs) (sym (sub-zero room)) ∙ filled_more room [] xs

-- ---- The answers

module _ {ws costs rules : List ℕ} (cost_room rule_room : ℕ) (costs_clear : costs ≡ cleared cost_room)
    (rules_clear : rules ≡ cleared rule_room) where
  -- A refusal leaves clear buffers.
  pub refuses : {r : Refusal} → Lowest (desk_conditions ws cost_room rule_room) (some r)
      → DeskAnswer ws cost_room rule_room (refused r) costs rules
  refuses {r} lowest =
      subst₂ (λ (x u : List ℕ). DeskAnswer ws cost_room rule_room (refused r) x u) (sym costs_clear) (sym rules_clear)
      (DeskBy.refuse lowest)

  -- The grammar check refuses,
  pub unchecked : {r : Refusal} → Verdict ws (some r) → DeskAnswer ws cost_room rule_room (refused r) costs rules
  unchecked v = refuses (refused_front _ v)

  -- or a buffer is too short.
  pub short : Verdict ws none → ((nonterminal_count ws ≤ cost_room) × (nonterminal_count ws ≤ rule_room) → ⊥)
      → DeskAnswer ws cost_room rule_room (refused ShortDesk) costs rules
  short v no_room = refuses (held_front v (applies no_room))

-- Every entry of the table is a word.
table_words : {ws table : List ℕ} → Priced ws table → (i : ℕ) → get_or table i 0 ≤ 65535
table_words {ws} {table} p i =
    ⊎_elim (λ low. omega arith)
    (λ top.
    let at : 64 + (i - 64) ≡ i = omega (arith, top.0) in
    ⊎_elim
    (λ named. omega (arith, p.limited (i - 64) (omega (arith, top.0)), ap (λ n. get_or table n 0) at))
    (λ beyond. omega (arith, p.costed.beyond i beyond top.1))
    (below_or i (64 + nonterminal_count ws)))
    (p.costed.limit i)

-- So is every entry of a part of it.
pub part_words : {ws table : List ℕ} (n from : ℕ) → Priced ws table → (i : ℕ) → i < length (take n (drop from table))
    → get_or (take n (drop from table)) i 0 ≤ 65535
part_words {table = table} n from p i h =
    let inside : i < n = omega (arith, length-take n (drop from table)) in
    omega (arith, table_words p (from + i), get_or-take n (drop from table) i 0 inside, get_or-drop from table i 0)

-- A buffer of zeros is clear.
pub zeros : (room : ℕ) {buffer : List ℕ} → buffer ≡ replicate room 0 → buffer ≡ cleared room
unfolding cleared
zeros room e = e

-- Buffers that were cleared are as long as they were.
pub as_lent : {ws x u : List ℕ} {o : Outcome ℕ} {n m cost_room rule_room : ℕ} → n ≡ cost_room → m ≡ rule_room → DeskAnswer ws n m o x u
    → DeskAnswer ws cost_room rule_room o x u
as_lent {ws} {x = x} {u = u} {o = o} e f p = subst₂ (λ (n m : ℕ). DeskAnswer ws n m o x u) e f p

-- The table has the cost of nonterminal k at 64 + k and its rule at 128 + k.
table_lists : {ws table : List ℕ} (count : ℕ) → Priced ws table → count ≡ nonterminal_count ws
    → CostsAndRules (nonterminal_count ws) (grammar_of ws) (take count (drop 64 table)) (take count (drop 128 table))
table_lists {ws} {table} count p e =
    record {
      costs_count = length-take-le count (drop 64 table) (omega (arith, length-drop 64 table, p.costed.size, small)) ∙ e;
      rules_count = length-take-le count (drop 128 table) (omega (arith, length-drop 128 table, p.costed.size, small)) ∙ e;
      each = λ k h.
          subst₂ (λ (c q : ℕ). CheapestRule (RuleOf ws) (insert_cost ws) (64 + k) c q) (sym (at 64 k (omega arith)))
          (sym (at 128 k (omega arith)))
          (p.costed.exact k h (p.limited k h));
    }
  where
    small : nonterminal_count ws ≤ 64
    small = p.shaped.nonterminals_high

    at : (from k : ℕ) → k < count → get_or (take count (drop from table)) k 0 ≡ get_or table (from + k) 0
    at from k h = get_or-take count (drop from table) k 0 h ∙ get_or-drop from table k 0

pub lists : {ws table costs rules x u : List ℕ} (count : ℕ) → CanList ws table costs rules → count ≡ nonterminal_count ws
    → count ≤ length costs → count ≤ length rules → x ≡ written costs 0 (take (64 + count - 64) (drop 64 table))
    → u ≡ written rules 0 (take (128 + count - 128) (drop 128 table)) → DeskAnswer ws (length costs) (length rules) (given count) x u
lists {ws} {table} {costs} {rules} {x} {u} count can e costs-fit rules_fit f g =
    let cs : List ℕ = take count (drop 64 table) in
    let ps : List ℕ = take count (drop 128 table) in
    subst (λ (n : ℕ). DeskAnswer ws (length costs) (length rules) (given n) x u) (sym e)
    (subst₂ (λ (y v : List ℕ). DeskAnswer ws (length costs) (length rules) (given (nonterminal_count ws)) y v)
    (sym (f ∙ (part costs 64 ∙ stands costs cs can.costs_clear))) (sym (g ∙ (part rules 128 ∙ stands rules ps can.rules_clear)))
    (DeskBy.give (held_front can.accepts (passes (omega arith, omega arith) all_met)) (table_lists count can.priced e)))
  where
    part : (buffer : List ℕ) (from : ℕ)
        → written buffer 0 (take (from + count - from) (drop from table)) ≡ written buffer 0 (take count (drop from table))
    part buffer from =
        let same : from + count - from ≡ count = omega arith in
        ap (λ (n : ℕ). written buffer 0 (take n (drop from table))) same

    stands : (buffer xs : List ℕ) → buffer ≡ cleared (length buffer) → written buffer 0 xs ≡ filled (length buffer) xs
    stands buffer xs clear = ap (λ (b : List ℕ). written b 0 xs) clear ∙ front_filled (length buffer) xs
