-- An expand: the rule, the two refusals that it can meet, and what it leaves.
use Prim.Native.Nat.{ℕ, suc, ◌+◌, ◌-◌, ◌*◌, ◌/◌, ◌≤◌, ◌<◌}
use Rattle.std.specs.Prelude.{◌≡◌, refl, cond, List, [], ◌∷◌, ◌++◌, length, get_or, set, ltb, leb, Result, Ok, Err}
use Rattle.std.proofs.Common.{sym, ◌∙◌}
use Rattle.std.proofs.Math.Path.{ap, subst}
use Rattle.std.proofs.Math.Option.{Option, none, some}
use native.Mathlib.Omega.{arith}
use Rattle.std.proofs.Math.ListN.{take, length-set}
use Rattle.std.proofs.Math.Seq.{take-suc-set}
use borrow.Author.Tests.{lt-ltb, le-ltb, lt-leb, le-leb}
use Rattle.grammar.specs.Derivation.{First}
use Rattle.grammar.specs.declared.Refusal.{Refusal}
use Rattle.grammar.specs.declared.Refusal.TheVariants.{StackFull, NoRoom}
use Rattle.grammar.specs.Theory.Tables.{Sized, packed}
use Rattle.moves.specs.Pile.{pile, pile_same, pile_push}
use Rattle.moves.specs.Push.{Pushed}
use Rattle.moves.specs.States.{CanCount, expanded_by}
use Rattle.moves.specs.declared.Parser.{Parser}
use Rattle.moves.specs.Windows.{Shows}
use Rattle.parser.specs.Lookup.{CanLookUp, RuleFor}

-- What an expand needs: a nonterminal on top with the token in its FIRST, right sides of at most 8 bytes, and room to count.
pub record CanExpand (S : Sized) (sides rows stack : List ℕ) (d : Parser) (top t : ℕ) : Type 0 where
  pub some : 0 < d.height
  pub height : d.height ≤ 256
  pub cells : 264 ≤ length stack
  pub on_top : top ≡ get_or stack (d.height - 1) 0
  pub look_up : CanLookUp S sides rows top t
  pub size : (p A : ℕ) (β : List ℕ) → S.grammar.rules p A β → length β ≤ 8
  pub small : (p A : ℕ) (β : List ℕ) → S.grammar.rules p A β → (k : ℕ) → k < length β → get_or β k 0 < 256
  pub counts : CanCount d

-- The rule of an expand, with its right side.
pub record Ruled (S : Sized) (top t : ℕ) : Type 0 where
  pub number : ℕ
  pub right : List ℕ
  pub rule : S.grammar.rules number top right
  pub first : First S.grammar.rules right t

-- Refusal 11, then 12, for a right side of so many symbols.
unfoldable pub expand_limit : ℕ → ℕ → ℕ → Option Refusal
expand_limit height listed room = cond (ltb 256 height) (some StackFull) (cond (leb (listed + 1) room) none (some NoRoom))

-- The right side lies on what was below the top, and the rule number stands behind those before.
pub record Expanded (stack rules : List ℕ) (d : Parser) (β : List ℕ) (number : ℕ) (stack' rules' : List ℕ) (q : Parser) : Type 0 where
  pub place : q.place ≡ d.place
  pub height : q.height ≡ d.height - 1 + length β
  pub moves : q.moves ≡ d.moves + 1
  pub records : q.records ≡ d.records
  pub listed : q.listed ≡ d.listed + 1
  pub laid : pile stack' q.height ≡ β ++ pile stack (d.height - 1)
  pub cells : length stack' ≡ length stack
  pub size : length rules' ≡ length rules
  pub front : take q.listed rules' ≡ take d.listed rules ++ (number ∷ [])

-- The window shows the right side.
unfoldable pub ExpandedOf : Sized → List ℕ → List ℕ → Parser → ℕ → List ℕ → List ℕ → Result Parser Refusal → Type 0
ExpandedOf S stack rules d t stack' rules' (Ok q) =
    (r : Ruled S (get_or stack (d.height - 1) 0) t)
    × (expand_limit (d.height - 1 + length r.right) d.listed (length rules) ≡ none)
    × Expanded stack rules d r.right r.number stack' rules' q
    × Shows q.window (pile stack' q.height)
ExpandedOf S stack rules d t stack' rules' (Err x) =
    (r : Ruled S (get_or stack (d.height - 1) 0) t)
    × (expand_limit (d.height - 1 + length r.right) d.listed (length rules) ≡ some x)

-- A packed right side shows it, whatever it lies on.
shows_packed : (β σ : List ℕ) → ((k : ℕ) → k < length β → get_or β k 0 < 256) → Shows (packed β) (β ++ σ)
unfolding packed
shows_packed [] σ small = Shows.nothing refl
shows_packed (x ∷ β) σ small =
    let low : x < 256 = small 0 (omega arith) in
    let rest : (x + 256 * packed β) / 256 ≡ packed β = omega arith in
    Shows.symbol {w = x + 256 * packed β} {x = x} {σ = β ++ σ} (omega arith)
    (subst (λ w. Shows w (β ++ σ)) (sym rest) (shows_packed β σ (λ k l. small (suc k) (omega arith))))

module _ {S : Sized} {sides rows stack : List ℕ} {d : Parser} {top t : ℕ} (can : CanExpand S sides rows stack d top t)
    (rule size : ℕ) (found : RuleFor S top t rule) (sized : size ≡ get_or rows (128 + 16 * rule + 8) 0) where
  ruled : Ruled S (get_or stack (d.height - 1) 0) t
  ruled =
      record {
        number = rule;
        right = found.right;
        rule = subst (λ A. S.grammar.rules rule A found.right) can.on_top found.rule;
        first = found.first;
      }

  size_right : size ≡ length found.right
  size_right = sized ∙ (can.look_up.pushes.row rule top found.right found.rule).size

  pub rule_low : rule < 256
  rule_low = omega (arith, can.look_up.pushes.counted rule top found.right found.rule, can.look_up.pushes.few)

  pub size_low : size ≤ 8
  size_low = omega (arith, size_right, can.size rule top found.right found.rule)

  -- A rule's row, copied to the stack, lays its right side there.
  laid : {after : List ℕ} {at : ℕ} → Pushed rows (128 + 16 * rule) stack at after → pile after (at + size) ≡ found.right ++ pile stack at
  laid {after} {at} h =
      let row = can.look_up.pushes.row rule top found.right found.rule in
      ap (λ k. pile after (at + k)) size_right
      ∙ pile_push after at found.right (λ i l. h.above i (omega (arith, size_right, size_low)) ∙ row.symbols i l)
      ∙ ap (λ s. found.right ++ s) (pile_same after stack at h.below)

  pub expand_full : (rules : List ℕ) → 256 < d.height - 1 + size → ExpandedOf S stack rules d t stack rules (Err StackFull)
  unfolding ExpandedOf expand_limit ruled
  expand_full rules l = (ruled, rw (sym size_right, lt-ltb 256 (d.height - 1 + size) l))

  pub expand_no_room : (rules : List ℕ) → d.height - 1 + size ≤ 256 → length rules ≤ d.listed
      → ExpandedOf S stack rules d t stack rules (Err NoRoom)
  unfolding ExpandedOf expand_limit ruled
  expand_no_room rules l h =
      (ruled, rw (sym size_right, le-ltb 256 (d.height - 1 + size) l, lt-leb (d.listed + 1) (length rules) (omega arith)))

  pub expand_on : (rules : List ℕ) {after : List ℕ} {q : Parser} {window : ℕ} → d.height - 1 + size ≤ 256 → d.listed < length rules
      → Pushed rows (128 + 16 * rule) stack (d.height - 1) after → q ≡ expanded_by size window d → window ≡ get_or sides (256 + rule) 0
      → ExpandedOf S stack rules d t after (set rules d.listed rule) (Ok q)
  unfolding ExpandedOf expand_limit ruled
  expand_on rules {after} {q} {window} l h p e v =
      let one : d.listed + 1 ≡ suc d.listed = omega arith in
      let lies = laid p in
      let packs = can.look_up.pushes.right rule top found.right found.rule in (
        ruled,
        rw (sym size_right, le-ltb 256 (d.height - 1 + size) l, le-leb (d.listed + 1) (length rules) (omega arith)),
        subst (λ x. Expanded stack rules d found.right rule after (set rules d.listed rule) x) (sym e)
            (record {
              place = refl;
              height = ap (λ n. d.height - 1 + n) size_right;
              moves = refl;
              records = refl;
              listed = refl;
              laid = lies;
              cells = p.size;
              size = length-set rules d.listed rule;
              front = ap (λ n. take n (set rules d.listed rule)) one ∙ take-suc-set rules d.listed rule h;
            }),
        subst (λ x. Shows x.window (pile after x.height)) (sym e)
            (subst (λ σ. Shows window σ) (sym lies)
            (subst (λ w. Shows w (found.right ++ pile stack (d.height - 1))) (sym (v ∙ packs))
            (shows_packed found.right (pile stack (d.height - 1)) (can.small rule top found.right found.rule)))),
      )
