-- The pops of a correction: by the tables a symbol is dropped or inserted, and by derivations it is so.
use Rattle.std.specs.Prelude.{ℕ, suc, ◌+◌, ◌-◌, ◌*◌, ◌≤◌, ◌<◌, ◌^◌, ◌≡◌, refl, Bool, true, false, get_or, take, T}
use Rattle.std.proofs.Common.{sym, ◌∙◌, subst, arith, take-suc}
use Rattle.std.proofs.Math.Path.{ap}
use Rattle.std.proofs.Math.Bool.{cond}
use mathlib.Core.List.{List, [], ◌∷◌, ◌++◌, append_assoc, append-nil}
use Rattle.std.proofs.Math.ListN.{length, length-append}
use Rattle.grammar.specs.Derivation.{All}
use Rattle.grammar.specs.Moves.{Move, edits, edit_words}
use Rattle.grammar.specs.Run.{Pop, Popped, pops}
use Rattle.grammar.specs.Theory.Folds.{missing_of}
use Rattle.grammar.specs.Theory.Members.{all_map}
use Rattle.grammar.specs.Theory.Pops.{pop_by, pops_by}
use Rattle.grammar.proofs.Theory.Pops.{popped_by}
use Rattle.grammar.specs.Theory.Tables.{Sized, SymbolOf}
use Rattle.moves.specs.Pile.{pile, pile_length, pile_at}
use Rattle.moves.specs.States.{CanCount, dropped_by, inserted_by}
use Rattle.moves.specs.Tests.{empty_by}
use Rattle.moves.specs.declared.Parser.{Parser}
use Rattle.correction.specs.Downwards.{Below}
use Rattle.correction.specs.Symbols.{Known, empty_null, null_empty}
use Rattle.correction.specs.Records.{CanRecord, Recorded, words_of, words_moves}

-- ---- What the tables make of the symbols is what they become

passes : (b : Bool) → T b → b ≡ true
passes true h = refl
passes false h = elim h [ ]

pub pops_popped : {S : Sized} {log masks prices : List ℕ} → Known S log masks prices → {Xs : List ℕ} → All (SymbolOf S) Xs
    → Popped S.grammar.rules Xs (pops_by (empty_by masks) Xs)
pops_popped {masks = masks} known a =
    popped_by (empty_by masks)
    (all_map
    (λ X s. (λ h. empty_null known X s (passes (empty_by masks X) h), λ c. subst T (sym (null_empty known X s c)) tt))
    a)

-- ---- One more at a time

pops_append : (r : ℕ) (ps qs : List Pop) → pops r (ps ++ qs) ≡ pops r ps ++ pops r qs
unfolding pops
pops_append r [] qs = refl
pops_append r (Pop.dropped X ∷ ps) qs = ap (λ l. Move.drop X ∷ l) (pops_append r ps qs)
pops_append r (Pop.inserted X ∷ ps) qs = ap (λ l. Move.insert r X ∷ l) (pops_append r ps qs)

by_append : (test : ℕ → Bool) (xs ys : List ℕ) → pops_by test (xs ++ ys) ≡ pops_by test xs ++ pops_by test ys
unfolding pops_by
by_append test [] ys = refl
by_append test (X ∷ xs) ys = ap (λ l. pop_by test X ∷ l) (by_append test xs ys)

missing_append : (ps qs : List Pop) → missing_of (ps ++ qs) ≡ missing_of ps ++ missing_of qs
unfolding missing_of
missing_append [] qs = refl
missing_append (Pop.dropped X ∷ ps) qs = missing_append ps qs
missing_append (Pop.inserted X ∷ ps) qs = ap (λ l. X ∷ l) (missing_append ps qs)

-- The k topmost symbols of a list, as they are popped.
unfoldable pub topmost : List ℕ → List ℕ → ℕ → List Pop
topmost masks σ k = pops_by (empty_by masks) (take k σ)

topmost_more : (masks σ : List ℕ) (k : ℕ) → k < length σ → topmost masks σ (k + 1) ≡ topmost masks σ k ++ (pop_by (empty_by masks) (get_or σ k 0) ∷ [])
unfolding topmost pops_by
topmost_more masks σ k l =
    let e : k + 1 ≡ suc k = omega arith in
    ap (λ n. pops_by (empty_by masks) (take n σ)) e
    ∙ ap (pops_by (empty_by masks)) (take-suc σ k 0 l)
    ∙ by_append (empty_by masks) (take k σ) (get_or σ k 0 ∷ [])

-- How many records the k topmost leave, and their words.
unfoldable pub records_of : List ℕ → List ℕ → ℕ → ℕ
records_of masks σ k = length (missing_of (topmost masks σ k))

unfoldable pub pop_words : List ℕ → List ℕ → ℕ → ℕ → List ℕ
pop_words masks σ r k = words_of (pops r (topmost masks σ k))

-- The next symbol is dropped, and leaves none,
module _ (masks σ : List ℕ) (k : ℕ) (l : k < length σ) where
  by_drop : empty_by masks (get_or σ k 0) ≡ true → pop_by (empty_by masks) (get_or σ k 0) ≡ Pop.dropped (get_or σ k 0)
  unfolding pop_by
  by_drop e = ap (λ (b : Bool). cond b (Pop.dropped (get_or σ k 0)) (Pop.inserted (get_or σ k 0))) e

  by_insert : empty_by masks (get_or σ k 0) ≡ false → pop_by (empty_by masks) (get_or σ k 0) ≡ Pop.inserted (get_or σ k 0)
  unfolding pop_by
  by_insert e = ap (λ (b : Bool). cond b (Pop.dropped (get_or σ k 0)) (Pop.inserted (get_or σ k 0))) e

  topmost_drop : empty_by masks (get_or σ k 0) ≡ true → topmost masks σ (k + 1) ≡ topmost masks σ k ++ (Pop.dropped (get_or σ k 0) ∷ [])
  topmost_drop e = topmost_more masks σ k l ∙ ap (λ x. topmost masks σ k ++ (x ∷ [])) (by_drop e)

  topmost_insert : empty_by masks (get_or σ k 0) ≡ false → topmost masks σ (k + 1) ≡ topmost masks σ k ++ (Pop.inserted (get_or σ k 0) ∷ [])
  topmost_insert e = topmost_more masks σ k l ∙ ap (λ x. topmost masks σ k ++ (x ∷ [])) (by_insert e)

  pub drop_records : empty_by masks (get_or σ k 0) ≡ true → records_of masks σ (k + 1) ≡ records_of masks σ k
  unfolding records_of missing_of
  drop_records e =
      ap (λ ps. length (missing_of ps)) (topmost_drop e)
      ∙ ap length (missing_append (topmost masks σ k) (Pop.dropped (get_or σ k 0) ∷ []) ∙ append-nil (missing_of (topmost masks σ k)))

  pub drop_words : (r : ℕ) → empty_by masks (get_or σ k 0) ≡ true → pop_words masks σ r (k + 1) ≡ pop_words masks σ r k
  unfolding pop_words words_of edits edit_words pops
  drop_words r e =
      ap (λ ps. words_of (pops r ps)) (topmost_drop e)
      ∙ ap words_of (pops_append r (topmost masks σ k) (Pop.dropped (get_or σ k 0) ∷ []))
      ∙ words_moves (pops r (topmost masks σ k)) (pops r (Pop.dropped (get_or σ k 0) ∷ []))
      ∙ append-nil (words_of (pops r (topmost masks σ k)))

  -- or it is inserted, and leaves one.
  pub insert_records : empty_by masks (get_or σ k 0) ≡ false → records_of masks σ (k + 1) ≡ records_of masks σ k + 1
  unfolding records_of missing_of
  insert_records e =
      ap (λ ps. length (missing_of ps)) (topmost_insert e)
      ∙ ap length (missing_append (topmost masks σ k) (Pop.inserted (get_or σ k 0) ∷ []))
      ∙ length-append (missing_of (topmost masks σ k)) (get_or σ k 0 ∷ [])

  pub insert_words : (r : ℕ) → empty_by masks (get_or σ k 0) ≡ false
      → pop_words masks σ r (k + 1) ≡ pop_words masks σ r k ++ (2 ∷ r ∷ get_or σ k 0 ∷ [])
  unfolding pop_words words_of edits edit_words pops
  insert_words r e =
      ap (λ ps. words_of (pops r ps)) (topmost_insert e)
      ∙ ap words_of (pops_append r (topmost masks σ k) (Pop.inserted (get_or σ k 0) ∷ []))
      ∙ words_moves (pops r (topmost masks σ k)) (pops r (Pop.inserted (get_or σ k 0) ∷ []))

-- ---- The contract

pub record CanPop (masks stack : List ℕ) (p : Parser) (i : ℕ) : Type 0 where
  pub table : 65 ≤ length masks
  pub symbols : (k : ℕ) → k < p.height → get_or stack k 0 < 128
  pub cells : p.height ≤ length stack
  pub within : i ≤ p.height
  pub place_fits : p.place < 65536
  pub room : p.moves + i < 2 ^ 64
  pub count : 3 * (p.records + i) + 3 < 2 ^ 64
  pub counts : CanCount p

-- From p the k topmost symbols were popped at place r, which leads to q and, where the records fit, leaves their words.
pub record PoppedOf (masks stack before : List ℕ) (p : Parser) (r k : ℕ) (q : Parser) (after : List ℕ) : Type 0 where
  pub place : q.place ≡ p.place
  pub height : q.height + k ≡ p.height
  pub moves : q.moves ≡ p.moves + k
  pub records : q.records ≡ p.records + records_of masks (pile stack p.height) k
  pub few : records_of masks (pile stack p.height) k ≤ k
  pub listed : q.listed ≡ p.listed
  pub size : length after ≡ length before
  pub front : 3 * q.records ≤ length before
      → take (3 * q.records) after ≡ take (3 * p.records) before ++ pop_words masks (pile stack p.height) r k

-- What a pop needs of the state that k pops have led to.
module _ {masks stack before : List ℕ} {p q : Parser} {i k : ℕ} {after : List ℕ} (can : CanPop masks stack p i) (l : k < i)
    (w : PoppedOf masks stack before p p.place k q after) where
  pub pop_symbol : {x : ℕ} → Below stack p.height k x → x < 128
  pop_symbol b = omega (arith, b.is, can.symbols (p.height - 1 - k) (omega (arith, b.within)))

  pub pop_counts : CanCount q × (1 ≤ q.height)
  pop_counts = (
    record {
      place = omega (arith, w.place, can.counts.place);
      height = omega (arith, w.height, can.counts.height);
      moves = omega (arith, w.moves, can.room);
      records = omega (arith, w.records, w.few, can.count);
      listed = omega (arith, w.listed, can.counts.listed);
    },
    omega (arith, w.height, can.within),
  )

  pub pop_record : CanRecord q.records p.place
  pop_record = record { count = omega (arith, w.records, w.few, can.count); place_fits = can.place_fits }

pub popped_none : (masks stack before : List ℕ) (p : Parser) (r : ℕ) → PoppedOf masks stack before p r 0 p before
unfolding pop_words records_of topmost pops_by missing_of words_of pops edits edit_words
popped_none masks stack before p r =
    record {
      place = refl;
      height = omega arith;
      moves = omega arith;
      records = omega arith;
      few = omega arith;
      listed = refl;
      size = refl;
      front = λ h. sym (append-nil (take (3 * p.records) before));
    }

module _ {masks stack before : List ℕ} {p q : Parser} {r k : ℕ} {after : List ℕ} {x : ℕ} (here : Below stack p.height k x)
    (w : PoppedOf masks stack before p r k q after) where
  -- The symbol that comes is the next of the pile.
  top : x ≡ get_or (pile stack p.height) k 0
  top =
      let c : p.height - 1 - k ≡ p.height - (k + 1) = omega arith in
      here.is ∙ ap (λ j. get_or stack j 0) c ∙ sym (pile_at stack p.height k here.within)

  inside : k < length (pile stack p.height)
  inside = omega (arith, pile_length stack p.height, here.within)

  pub popped_drop : {u : Parser} → u ≡ dropped_by q → empty_by masks x ≡ true
      → PoppedOf masks stack before p r (k + 1) u after
  popped_drop e b =
      let σ = pile stack p.height in
      let empty : empty_by masks (get_or σ k 0) ≡ true = ap (empty_by masks) (sym top) ∙ b in
      let same = drop_records masks σ k inside empty in
      subst (λ v. PoppedOf masks stack before p r (k + 1) v after) (sym e)
      (record {
        place = w.place;
        height = omega (arith, w.height, here.within);
        moves = omega (arith, w.moves);
        records = omega (arith, w.records);
        few = omega (arith, w.few);
        listed = w.listed;
        size = w.size;
        front = λ h. w.front h ∙ ap (λ t. take (3 * p.records) before ++ t) (sym (drop_words masks σ k inside r empty));
      })

  pub popped_insert : {u : Parser} {last : List ℕ} → u ≡ inserted_by q → empty_by masks x ≡ false
      → Recorded after q.records 2 r x last → PoppedOf masks stack before p r (k + 1) u last
  popped_insert {last = last} e b z =
      let σ = pile stack p.height in
      let missing : empty_by masks (get_or σ k 0) ≡ false = ap (empty_by masks) (sym top) ∙ b in
      let more = insert_records masks σ k inside missing in
      let words = pop_words masks σ r k in
      subst (λ v. PoppedOf masks stack before p r (k + 1) v last) (sym e)
      (record {
        place = w.place;
        height = omega (arith, w.height, here.within);
        moves = omega (arith, w.moves);
        records = omega (arith, w.records);
        few = omega (arith, w.few);
        listed = w.listed;
        size = z.size ∙ w.size;
        front = λ h.
            z.front (omega (arith, w.size))
            ∙ ap (λ t. t ++ (2 ∷ r ∷ x ∷ [])) (w.front (omega arith))
            ∙ append_assoc (take (3 * p.records) before) words (2 ∷ r ∷ x ∷ [])
            ∙ ap (λ y. take (3 * p.records) before ++ (words ++ (2 ∷ r ∷ y ∷ []))) top
            ∙ ap (λ t. take (3 * p.records) before ++ t) (sym (insert_words masks σ k inside r missing));
      })

-- So many were popped, however they are counted.
pub popped_all : {masks stack before after : List ℕ} {p q : Parser} {r k i : ℕ} → k ≡ i → PoppedOf masks stack before p r k q after
    → PoppedOf masks stack before p r i q after
popped_all {masks} {stack} {before} {after} {p} {q} {r} e w = subst (λ n. PoppedOf masks stack before p r n q after) e w
