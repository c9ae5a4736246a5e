-- A turn of the run: the drops for the current token with the match or the expand that they lead to, or a correction.
use Rattle.std.specs.Prelude.{ℕ, zero, suc, ◌+◌, ◌-◌, ◌≤◌, ◌<◌, ◌≡◌, true, List, [], ◌∷◌, length, get_or, Option, Some, None, Result, Ok, Err}
use Rattle.std.proofs.Math.Path.{refl, subst}
use Rattle.std.proofs.Common.{sym, ap, ◌∙◌, arith, lt-ltb, eqb-true}
use Rattle.grammar.specs.Words.{Terminal, RuleSymbol}
use Rattle.grammar.specs.Derivation.{First}
use Rattle.grammar.specs.Run.{Hit}
use Rattle.grammar.specs.declared.Refusal.{Refusal}
use Rattle.grammar.specs.declared.Refusal.TheVariants.{NoRoom}
use Rattle.grammar.specs.Theory.Reach.{first_append}
use Rattle.grammar.specs.Theory.Members.{all_get}
use Rattle.grammar.specs.Theory.Tables.{Inner, Sized, SymbolOf}
use Rattle.moves.specs.Tests.{begins_by}
use Rattle.moves.specs.Pile.{pile, pile_top}
use Rattle.moves.specs.States.{CanCount, matched_by, windowless}
use Rattle.moves.specs.Windows.{Shows, seen_below}
use Rattle.moves.specs.Ways.{CanDescend, Passed, Fitting, WayOf}
use Rattle.moves.specs.declared.Parser.{Parser}
use Rattle.moves.specs.declared.Way.{Way}
use Rattle.moves.specs.declared.Way.TheVariants.{Fits, Grows, Stuck}
use Rattle.correction.specs.Tokens.{rest_of, rest_token, token_high}
use Rattle.correction.specs.Symbols.{symbol_small, pile_cell}
use Rattle.correction.specs.Corrections.{CanCorrect, Correction, CorrectedOf}
use Rattle.parser.specs.Expanding.{CanExpand, Ruled, ExpandedOf}
use Rattle.parser.specs.Reached.{
  Setting,
  Reached,
  Running,
  Stopped,
  reached_as,
  running,
  counts,
  height_low,
  moves_low,
  records_low,
}
use Rattle.parser.specs.Down.{fitting_first, stuck_error}
use Rattle.parser.specs.Steps.{reached_match, reached_down, reached_expand, stopped_expand, reached_correct, stopped_correct}

-- ---- The contract

pub record CanTurn (S : Sized) (log masks prices sides rows stack edits rules : List ℕ) (p : Parser) : Type 0 where
  pub setting : Setting S log masks prices sides rows
  pub reached : Reached S log (length edits) (length rules) stack edits rules p
  pub some : 0 < p.height
  pub shows : Shows p.window (pile stack p.height)

-- The run has come further, by at least one move, with a window there; or it is refused.
unfoldable pub TurnOf : Sized → List ℕ → ℕ → ℕ → ℕ → List ℕ → List ℕ → List ℕ → Result Parser Refusal → Type 0
TurnOf S log edit_room rule_room moves stack edits rules (Ok q) =
    Reached S log edit_room rule_room stack edits rules q × (moves < q.moves) × Shows q.window (pile stack q.height)
TurnOf S log edit_room rule_room moves stack edits rules (Err r) = Stopped S log edit_room rule_room r

-- A rule for a token is one for the token that it is.
unfoldable ruled_as : {S : Sized} {top t u : ℕ} → t ≡ u → Ruled S top t → Ruled S top u
ruled_as {S} e r =
    record {
      number = r.number;
      right = r.right;
      rule = r.rule;
      first = subst (λ v. First S.grammar.rules r.right v) e r.first;
    }

-- A terminal that begins with t is t.
begins_terminal : (masks : List ℕ) (x t : ℕ) → x < 64 → begins_by masks x t ≡ true → x ≡ t
unfolding begins_by
begins_terminal masks x t l b = eqb-true x t (rw (lt-ltb x 64 l) at b)

module _ {S : Sized} {log masks prices sides rows stack edits rules : List ℕ} {p : Parser}
    (can : CanTurn S log masks prices sides rows stack edits rules p) (t : ℕ) (current : t ≡ get_or log p.place 0) where
  now_running : Running S log stack p
  now_running = running can.setting can.reached can.some

  token : Terminal t
  token =
      let known = can.setting.known in
      omega (arith, current, token_high log known.terminals_low known.tokens p.place, known.terminals_high)

  counting : CanCount p
  counting = counts can.setting can.reached now_running.place

  pub descend_can : CanDescend masks stack p t
  descend_can =
      record {
        token = token;
        table = omega (arith, can.setting.known.shared.sets_size);
        height = omega (arith, height_low can.setting can.reached, can.reached.cells);
        symbols = λ i l. symbol_small can.setting.known (pile_cell stack p.height now_running.symbols i l);
        room = omega (arith, height_low can.setting can.reached, moves_low can.setting can.reached);
        count = counting;
        shows = can.shows;
      }

  -- ---- The token comes to a symbol that it begins

  top_first : {d : Parser} → Fitting masks stack t p d → First S.grammar.rules (get_or stack (d.height - 1) 0 ∷ []) t
  top_first w = fitting_first can.setting.known stack p.height now_running.symbols token refl w

  down : {d : Parser} → Fitting masks stack t p d → Reached S log (length edits) (length rules) stack edits rules d
  down {d} w =
      let first : First S.grammar.rules (pile stack d.height) t =
      subst (λ σ. First S.grammar.rules σ t) (sym (pile_top stack d.height w.some))
      (first_append S.grammar.rules (top_first w) (pile stack (d.height - 1))) in
      reached_down can.setting p d can.reached w.dropped
      (subst (λ u. Passed masks stack u p.height d.height) current w.passed) w.some
      (subst (λ u. First S.grammar.rules (pile stack d.height) u) current first)

  place_same : {d : Parser} → Fitting masks stack t p d → t ≡ get_or log d.place 0
  place_same w = current ∙ ap (λ k. get_or log k 0) (sym w.dropped.place)

  place_within : {d : Parser} → Fitting masks stack t p d → d.place ≤ length log
  place_within w = omega (arith, w.dropped.place, now_running.place)

  counting_down : {d : Parser} → Fitting masks stack t p d → CanCount d
  counting_down w = counts can.setting (down w) (place_within w)

  fits_told : {way : Way} {d : Parser} → WayOf masks stack t p way → way ≡ Fits d
      → Fitting masks stack t p d × (get_or stack (d.height - 1) 0 < 64) × Shows d.window (pile stack d.height)
  unfolding WayOf
  fits_told w e = subst (λ x. WayOf masks stack t p x) e w

  grows_told : {way : Way} {d : Parser} {top : ℕ} → WayOf masks stack t p way → way ≡ Grows d top
      → Fitting masks stack t p d × (64 ≤ get_or stack (d.height - 1) 0) × (top ≡ get_or stack (d.height - 1) 0)
  unfolding WayOf
  grows_told w e = subst (λ x. WayOf masks stack t p x) e w

  pub match_can : {way : Way} {d : Parser} → WayOf masks stack t p way → way ≡ Fits d → CanCount d × (1 ≤ d.height)
  match_can y e = let fit = (fits_told y e).0 in (counting_down fit, fit.some)

  pub turn_match : {way : Way} {d q : Parser} → WayOf masks stack t p way → way ≡ Fits d → q ≡ matched_by d
      → TurnOf S log (length edits) (length rules) p.moves stack edits rules (Ok q)
  unfolding TurnOf
  turn_match {way} {d} {q} y e f =
      let h = fits_told y e in
      let fit = h.0 in
      subst (λ x. Reached S log (length edits) (length rules) stack edits rules x × (p.moves < x.moves)
      × Shows x.window (pile stack x.height)) (sym f) (
        reached_match (down fit) fit.some (place_within fit)
            (begins_terminal masks (get_or stack (d.height - 1) 0) t h.1 fit.begins ∙ place_same fit),
        omega (arith, fit.dropped.moves, fit.passed.within),
        seen_below stack d.height d.window fit.some h.2,
      )

  -- ---- It grows by a rule

  pub expand_can : {way : Way} {d : Parser} {top : ℕ} → WayOf masks stack t p way → way ≡ Grows d top
      → CanExpand S sides rows stack d top t
  expand_can {way} {d} {top} w e =
      let h = grows_told w e in
      let fit = h.0 in
      let r = down fit in
      let inner = pile_cell stack p.height now_running.symbols (d.height - 1) (omega (arith, fit.some, fit.passed.within)) in
      record {
        some = fit.some;
        height = height_low can.setting r;
        cells = r.cells;
        on_top = h.2;
        look_up =
            record {
              pushes = can.setting.pushes;
              low = omega (arith, h.1, h.2);
              high = below inner h.1 h.2;
              small = omega (arith, h.2, symbol_small can.setting.known inner);
              token = token;
              first = subst (λ x. First S.grammar.rules (x ∷ []) t) (sym h.2) (top_first fit);
            };
        size = can.setting.good.size;
        small = λ q A β s k l. byte (can.setting.good.ranged _ (all_get (can.setting.good.symbols q A β s) k l));
        counts = counting_down fit;
      }
    where
      below : {x y : ℕ} → SymbolOf S y → 64 ≤ y → x ≡ y → x < 64 + S.nonterminals
      below (Inner.terminal l) m q = absurd (omega (arith, can.setting.known.terminals_high))
      below (Inner.nonterminal l k) m q = omega (arith, q)

      byte : {x : ℕ} → RuleSymbol 64 S.nonterminals x → x < 256
      byte (RuleSymbol.terminal a b) = omega arith
      byte (RuleSymbol.nonterminal a b) = omega (arith, can.setting.known.nonterminals_high)

  pub turn_expand : {way : Way} {d : Parser} {top : ℕ} (stack' rules' : List ℕ) (turn : Result Parser Refusal) → WayOf masks stack t p way
      → way ≡ Grows d top
      → ExpandedOf S stack rules d t stack' rules' turn
      → TurnOf S log (length edits) (length rules) p.moves stack' edits rules' turn
  unfolding TurnOf ExpandedOf ruled_as
  turn_expand {way} {d} stack' rules' (Ok q) w e x =
      let fit = (grows_told w e).0 in
      let u = ruled_as (place_same fit) x.0 in (
        reached_expand (down fit) fit.some (place_within fit) u x.1 x.2,
        omega (arith, fit.dropped.moves, fit.passed.within, x.2.moves),
        x.3,
      )
  turn_expand {way} {d} stack' rules' (Err n) w e x =
      let fit = (grows_told w e).0 in
      let u = ruled_as (place_same fit) x.0 in
      stopped_expand (down fit) fit.some (place_within fit) n u x.1

  -- ---- It is in error

  pub correct_can : CanCorrect S log masks prices stack p
  correct_can =
      record {
        search =
            record {
              known = can.setting.known;
              symbols = now_running.symbols;
              cells = descend_can.height;
              low = height_low can.setting can.reached;
            };
        some = can.some;
        bottom = now_running.bottom;
        unlimited = can.setting.good.unlimited;
        place = now_running.place;
        room = omega (arith, height_low can.setting can.reached, moves_low can.setting can.reached, can.setting.known.short);
        count =
            omega (
              arith,
              height_low can.setting can.reached,
              moves_low can.setting can.reached,
              records_low can.setting can.reached,
              can.setting.known.short,
            );
        counts = counting;
      }

  in_error : {way : Way} → WayOf masks stack t p way → way ≡ Stuck
      → First S.grammar.rules (pile stack p.height) (get_or log p.place 0) → ⊥
  unfolding WayOf
  in_error w e f =
      stuck_error can.setting.known stack p.height now_running.symbols token refl
      (subst (λ x. WayOf masks stack t p x) e w)
      (subst (λ u. First S.grammar.rules (pile stack p.height) u) (sym current) f)

  -- A correction makes some move: a token that fits without one is not in error.
  some_move : (c : Correction S log stack p) → (First S.grammar.rules (pile stack p.height) (get_or log p.place 0) → ⊥)
      → 0 < c.deleted + c.popped
  some_move c n = go c.deleted c.popped c.hit
    where
      go : (j i : ℕ) → Hit S.grammar (pile stack p.height) (rest_of log p.place) j i → 0 < j + i
      go (suc j) i h = omega arith
      go zero (suc i) h = omega arith
      go zero zero h =
          let z : p.place + 0 ≡ p.place = omega arith in
          let tok : get_or (rest_of log p.place) 0 0 ≡ get_or log p.place 0 = rest_token log p.place 0 ∙ ap (λ k. get_or log k 0) z in
          let top = pile_top stack p.height can.some in
          let head : get_or (pile stack p.height) 0 0 ≡ get_or stack (p.height - 1) 0 = ap (λ σ. get_or σ 0 0) top in
          let f : First S.grammar.rules (get_or stack (p.height - 1) 0 ∷ []) (get_or log p.place 0) =
          subst (λ x. First S.grammar.rules (x ∷ []) (get_or log p.place 0)) head
          (subst (λ u. First S.grammar.rules (get_or (pile stack p.height) 0 0 ∷ []) u) tok h.plausible.first) in
          absurd (n (subst (λ σ. First S.grammar.rules σ (get_or log p.place 0)) (sym top)
          (first_append S.grammar.rules f (pile stack (p.height - 1)))))

  pub turn_correct : {way : Way} {found : Option Parser} {q u : Parser} (edits' : List ℕ) → WayOf masks stack t p way → way ≡ Stuck
      → CorrectedOf S log stack edits p edits' found → found ≡ Some q → u ≡ windowless q
      → TurnOf S log (length edits) (length rules) p.moves stack edits' rules (Ok u)
  unfolding TurnOf CorrectedOf
  turn_correct {way} {found} {q} {u} edits' w e x f g =
      let y = subst (λ z. CorrectedOf S log stack edits p edits' z) f x in
      let error = in_error w e in
      let come = reached_correct can.reached can.some now_running.place error y.0 y.1 in
      subst (λ v. Reached S log (length edits) (length rules) stack edits' rules v × (p.moves < v.moves)
      × Shows v.window (pile stack v.height)) (sym g) (
        reached_as come refl refl refl refl refl,
        omega (arith, y.1.moves, some_move y.0 error),
        Shows.nothing refl,
      )

  pub turn_full : {way : Way} {found : Option Parser} (edits' : List ℕ) → WayOf masks stack t p way → way ≡ Stuck
      → CorrectedOf S log stack edits p edits' found → found ≡ None
      → TurnOf S log (length edits) (length rules) p.moves stack edits' rules (Err NoRoom)
  unfolding TurnOf CorrectedOf
  turn_full {way} {found} edits' w e x f =
      let y = subst (λ z. CorrectedOf S log stack edits p edits' z) f x in
      stopped_correct can.reached can.some now_running.place (in_error w e) y.0 y.1
