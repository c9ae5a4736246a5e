-- Each move as a decision of the run: from where the run has come, what a match, a drop, an expand and a correction lead to.
use Rattle.std.specs.Prelude.{ℕ, zero, suc, ◌+◌, ◌-◌, ◌*◌, ◌≤◌, ◌<◌, ◌≡◌, get_or}
use Rattle.std.proofs.Math.Path.{refl, sym, ap}
use Rattle.std.proofs.Common.{◌∙◌, subst, drop-drop, le-leb}
use mathlib.Core.List.{List, [], ◌∷◌, ◌++◌, tail, append-nil}
use Rattle.std.proofs.Math.Option.{none, some}
use native.Mathlib.Omega.{arith}
use Rattle.std.proofs.Math.ListN.{length, take, length-append}
use Rattle.std.proofs.Math.Seq.{length-take-le}
use Rattle.std.proofs.lemmas.Bool.{lt-leb}
use Rattle.grammar.specs.Words.{END}
use Rattle.grammar.specs.Derivation.{First}
use Rattle.grammar.specs.Moves.{edits, edit_words, rule_numbers}
use Rattle.grammar.specs.Run.{Pop, Pick, Choice, Hit, matching, expanding, dropping, correcting, next, made, limit, deletes, pops}
use Rattle.grammar.specs.declared.Refusal.{Refusal}
use Rattle.grammar.specs.declared.Refusal.TheVariants.{NoRoom}
use Rattle.grammar.proofs.Theory.Bounded.{popped_count, correction_length}
use Rattle.grammar.proofs.Theory.Counted.{next_records}
use Rattle.grammar.proofs.Theory.Folds.{edits_correction, rules_correction}
use Rattle.grammar.specs.Theory.Tables.{Sized}
use Rattle.moves.specs.Pile.{pile, pile_length, pile_top, pile_drop}
use Rattle.moves.specs.States.{matched_by, dropped_by}
use Rattle.moves.specs.Ways.{Passed, Dropped}
use Rattle.moves.specs.declared.Parser.{Parser}
use Rattle.correction.specs.Tokens.{rest_of}
use Rattle.correction.specs.Records.{words_of}
use Rattle.correction.specs.Corrections.{Correction, record_count, Made}
use Rattle.parser.specs.Expanding.{Ruled, Expanded, expand_limit}
use Rattle.parser.specs.Reached.{
  Setting,
  Reached,
  Stopped,
  state_of,
  limits_of,
  reached_next,
  reached_as,
  reached_stop,
  rest_form,
  same_state,
  running,
}
use Rattle.parser.specs.Down.{choice_at, passed_not, passed_first}

-- A correction lists no rule number.
no_rules : (p r : ℕ) (ts : List ℕ) (ps : List Pop) → rule_numbers (deletes p ts ++ pops r ps) ≡ []
unfolding rule_numbers
no_rules p r ts ps = ap rule_numbers (sym (append-nil (deletes p ts ++ pops r ps))) ∙ rules_correction p r ts ps []

module _ {S : Sized} {log : List ℕ} {edit_room rule_room : ℕ} {stack edits₀ rules : List ℕ} {p : Parser}
    (r : Reached S log edit_room rule_room stack edits₀ rules p) (some_left : 0 < p.height) (token-left : p.place ≤ length log) where
  below : tail (pile stack p.height) ≡ pile stack (p.height - 1)
  below = ap tail (pile_top stack p.height some_left)

  -- "Top equal to t: match."
  pub reached_match : get_or stack (p.height - 1) 0 ≡ get_or log p.place 0
      → Reached S log edit_room rule_room stack edits₀ rules (matched_by p)
  unfolding limit next made words_of edits edit_words rule_numbers
  reached_match e =
      reached_next r matching
      (choice_at (pile_top stack p.height some_left) (rest_form log p.place token-left) (Choice.match e))
      refl
      (same_state below refl (ap tail (rest_form log p.place token-left)) (omega arith) (omega arith))
      refl refl refl refl
      (sym (append-nil (take (3 * p.records) edits₀)))
      (sym (append-nil (take p.listed rules)))

  -- "Any other top can be empty: drop."
  pub reached_drop : First S.grammar.rules (pile stack p.height) (get_or log p.place 0)
      → (First S.grammar.rules (get_or stack (p.height - 1) 0 ∷ []) (get_or log p.place 0) → ⊥)
      → Reached S log edit_room rule_room stack edits₀ rules (dropped_by p)
  unfolding limit next made words_of edits edit_words rule_numbers
  reached_drop f n =
      let top = pile_top stack p.height some_left in
      reached_next r dropping
      (choice_at top (rest_form log p.place token-left)
      (Choice.pass (subst (λ σ. First S.grammar.rules σ (get_or log p.place 0)) top f) n))
      refl
      (same_state below refl refl (omega arith) (omega arith))
      refl refl refl refl
      (sym (append-nil (take (3 * p.records) edits₀)))
      (sym (append-nil (take p.listed rules)))

  -- ---- "Top a nonterminal with t in its FIRST: expand."

  expand_choice : (u : Ruled S (get_or stack (p.height - 1) 0) (get_or log p.place 0))
      → Choice S.grammar (pile stack p.height) (rest_of log p.place) (expanding u.number u.right)
  expand_choice u =
      choice_at (pile_top stack p.height some_left) (rest_form log p.place token-left) (Choice.expand u.rule u.first)

  expand_limit_lem : (u : Ruled S (get_or stack (p.height - 1) 0) (get_or log p.place 0))
      → limit (limits_of edit_room rule_room) (state_of log stack p) (expanding u.number u.right)
      ≡ expand_limit (p.height - 1 + length u.right) p.listed (length rules)
  unfolding limit next made rule_numbers expand_limit
  expand_limit_lem u =
      let e : length (u.right ++ tail (pile stack p.height)) ≡ p.height - 1 + length u.right =
      omega (arith, length-append u.right (tail (pile stack p.height)), ap length below, pile_length stack (p.height - 1)) in
      rw (e, r.rule_room_lem)

  pub reached_expand : {stack' rules' : List ℕ} {q : Parser} (u : Ruled S (get_or stack (p.height - 1) 0) (get_or log p.place 0))
      → expand_limit (p.height - 1 + length u.right) p.listed (length rules) ≡ none
      → Expanded stack rules p u.right u.number stack' rules' q
      → Reached S log edit_room rule_room stack' edits₀ rules' q
  unfolding next made words_of edits edit_words rule_numbers
  reached_expand u l w =
      reached_next r (expanding u.number u.right)
      (expand_choice u)
      (expand_limit_lem u ∙ l)
      (same_state
      (ap (λ σ. u.right ++ σ) below ∙ sym w.laid)
      (sym w.place)
      (ap (λ k. rest_of log k) (sym w.place))
      (omega (arith, w.records))
      (omega (arith, w.listed)))
      w.moves w.cells refl w.size
      (ap (λ k. take (3 * k) edits₀) w.records ∙ sym (append-nil (take (3 * p.records) edits₀)))
      w.front

  pub stopped_expand : (n : Refusal) (u : Ruled S (get_or stack (p.height - 1) 0) (get_or log p.place 0))
      → expand_limit (p.height - 1 + length u.right) p.listed (length rules) ≡ some n → Stopped S log edit_room rule_room n
  stopped_expand n u l = reached_stop r (expanding u.number u.right) n (expand_choice u) (expand_limit_lem u ∙ l)

  -- ---- "Otherwise t is in error."

  module _ (error : First S.grammar.rules (pile stack p.height) (get_or log p.place 0) → ⊥) (c : Correction S log stack p) where
    pick : Pick
    pick = correcting c.deleted c.popped c.becomes

    correct_choice : Choice S.grammar (pile stack p.height) (rest_of log p.place) pick
    unfolding pick
    correct_choice =
        let form = rest_form log p.place token-left in
        choice_at {σ = pile stack p.height} refl form
        (Choice.correct error (subst (λ ρ. Hit S.grammar (pile stack p.height) ρ c.deleted c.popped) form c.hit) c.pops)

    corrections : length (edits (made (state_of log stack p) pick)) ≡ record_count c
    unfolding made edits pick
    corrections =
        let j = c.deleted in
        let ps = c.becomes in
        let ρ = rest_of log p.place in
        omega (
          arith,
          ap (λ ms. length (edits ms)) (append-nil (deletes p.place (take j ρ) ++ pops (p.place + j) ps)),
          edits_correction p.place (p.place + j) (take j ρ) ps [],
          length-take-le j ρ (omega (arith, c.hit.within)),
        )

    behind : (next (state_of log stack p) pick).records ≡ p.records + record_count c
    behind = omega (arith, next_records (state_of log stack p) pick, corrections)

    fit : 3 * (p.records + record_count c) ≤ length edits₀ → limit (limits_of edit_room rule_room) (state_of log stack p) pick ≡ none
    unfolding limit pick
    fit l =
        let n = (next (state_of log stack p) pick).records in
        rw (le-leb (3 * n) edit_room (omega (arith, r.edit_room_lem, behind)))

    unfit : length edits₀ < 3 * (p.records + record_count c)
        → limit (limits_of edit_room rule_room) (state_of log stack p) pick ≡ some NoRoom
    unfolding limit pick
    unfit l =
        let n = (next (state_of log stack p) pick).records in
        rw (lt-leb (3 * n) edit_room (omega (arith, r.edit_room_lem, behind)))

    pub stopped_correct : length edits₀ < 3 * (p.records + record_count c) → Stopped S log edit_room rule_room NoRoom
    stopped_correct l = reached_stop r pick NoRoom correct_choice (unfit l)

    pub reached_correct : {edits' : List ℕ} {q : Parser} → Made S log stack edits₀ p edits' c q
        → Reached S log edit_room rule_room stack edits' rules q
    unfolding next made pick
    reached_correct {edits'} {q} w =
        let j = c.deleted in
        let i = c.popped in
        let ps = c.becomes in
        let ρ = rest_of log p.place in
        let n : p.height - i ≡ q.height = omega (arith, w.height) in
        let moves = deletes p.place (take j ρ) ++ pops (p.place + j) ps in
        let popped = popped_count i (pile stack p.height) c.pops c.hit.plausible.within in
        let m : length moves ≡ j + i = correction_length p.place j i ρ ps popped c.hit.within in
        let none-listed : rule_numbers moves ≡ [] = no_rules p.place (p.place + j) (take j ρ) ps in
        reached_next r pick
        correct_choice
        (fit (omega (arith, w.fits, w.records)))
        (same_state
        (pile_drop stack p.height i (omega (arith, w.height)) ∙ ap (λ k. pile stack k) n)
        (sym w.place)
        (drop-drop j p.place (log ++ (END ∷ [])) ∙ ap (λ k. rest_of log k) (sym w.place))
        (omega (arith, w.records, corrections))
        (omega (arith, w.listed, ap length none-listed)))
        (w.moves ∙ ap (λ k. p.moves + k) (sym m))
        refl w.size refl
        w.front
        (ap (λ k. take k rules) w.listed ∙ sym (append-nil (take p.listed rules))
        ∙ ap (λ z. take p.listed rules ++ z) (sym none-listed))

-- ---- The drops on the way down

module _ {S : Sized} {log masks prices sides rows : List ℕ}
    (setting : Setting S log masks prices sides rows)
    {edit_room rule_room : ℕ} {stack edits rules : List ℕ} where
  drops : (n : ℕ) (p d : Parser) → p.height ≡ d.height + n → Reached S log edit_room rule_room stack edits rules p → Dropped p d
      → Passed masks stack (get_or log p.place 0) p.height d.height → 0 < d.height
      → First S.grammar.rules (pile stack d.height) (get_or log p.place 0) → Reached S log edit_room rule_room stack edits rules d
  drops zero p d e r w z l f =
      reached_as r w.place (omega arith) (omega (arith, w.moves)) w.records w.listed
  drops (suc n) p d e r w z l f =
      let left : 0 < p.height = omega arith in
      let run = running setting r left in
      let t = get_or log p.place 0 in
      let token = f.token in
      let up : First S.grammar.rules (pile stack (d.height + suc n)) t =
      passed_first setting.known stack p.height run.symbols token z f (suc n) (omega arith) in
      let next : Reached S log edit_room rule_room stack edits rules (dropped_by p) =
      reached_drop r left run.place
      (subst (λ k. First S.grammar.rules (pile stack k) t) (sym e) up)
      (passed_not setting.known stack p.height run.symbols token z (p.height - 1) (omega arith) (omega arith)) in
      drops n (dropped_by p) d (omega arith) next
      (record { place = w.place; moves = omega (arith, w.moves); records = w.records; listed = w.listed })
      (record { within = omega arith; outside = λ i a b. z.outside i a (omega arith); empty = λ i a b. z.empty i a (omega arith) })
      l f

  -- The state after the drops that the token's way makes.
  pub reached_down : (p d : Parser) → Reached S log edit_room rule_room stack edits rules p → Dropped p d
      → Passed masks stack (get_or log p.place 0) p.height d.height → 0 < d.height
      → First S.grammar.rules (pile stack d.height) (get_or log p.place 0) → Reached S log edit_room rule_room stack edits rules d
  reached_down p d r w z l f = drops (p.height - d.height) p d (omega (arith, z.within)) r w z l f
