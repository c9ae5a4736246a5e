-- Laws of what a table spells.
--     members_none, members_more      the symbols of a word, one by one
--     members_packed                  a right side that was packed
--     spelt_token, spelt_right        a terminal, and a nonterminal
--     deep_spelt                      looking deeper than needed changes nothing
--     spelt_grows                     looking deeper never makes a string shorter
use Rattle.std.specs.Prelude.{ℕ, zero, suc, ◌+◌, ◌-◌, ◌*◌, ◌/◌, ◌%◌, ◌≤◌, ◌<◌, ◌≡◌, refl, Bool, true, false, cond, List, [], ◌∷◌, ◌++◌, length, get_or, ltb}
use Rattle.std.proofs.Common.{sym, ap, ap₂, ◌∙◌, inl, inr, arith, lt-ltb, le-ltb, ne_eqb, length-append}
use Rattle.std.proofs.Math.Logic.{dite}
use Rattle.std.proofs.Math.Decide.{dec_lt}
use Rattle.grammar.specs.Derivation.{All}
use Rattle.grammar.specs.Theory.Closed.{total}
use Rattle.grammar.specs.Theory.Tables.{packed}
use Rattle.strings.specs.Spelling.{unpacked, members, right_of, joined, spelt, Deep, steps, length_in, raised}

-- ---- The symbols of a word

unpacked_zero : (n : ℕ) → unpacked n 0 ≡ []
unfolding unpacked
unpacked_zero zero = refl
unpacked_zero (suc n) = refl

not_zero : {w : ℕ} → 0 < w → w ≡ 0 → ⊥
not_zero l e = omega arith

unpacked_more : (n w : ℕ) → 0 < w → unpacked (suc n) w ≡ (w % 256) ∷ unpacked n (w / 256)
unfolding unpacked
unpacked_more n w l = ap (λ (b : Bool). cond b [] ((w % 256) ∷ unpacked n (w / 256))) (ne_eqb w 0 (not_zero l))

-- Any number that is large enough does.
unpacked_enough : (n m w : ℕ) → w ≤ n → w ≤ m → unpacked n w ≡ unpacked m w
unpacked_enough zero m w a b =
    let e : w ≡ 0 = omega arith in
    ap (λ x. unpacked zero x) e ∙ (unpacked_zero zero ∙ sym (ap (λ x. unpacked m x) e ∙ unpacked_zero m))
unpacked_enough (suc n) zero w a b =
    let e : w ≡ 0 = omega arith in
    ap (λ x. unpacked (suc n) x) e ∙ (unpacked_zero (suc n) ∙ sym (ap (λ x. unpacked zero x) e ∙ unpacked_zero zero))
unpacked_enough (suc n) (suc m) w a b =
    dite (dec_lt 0 w)
    (λ l.
    unpacked_more n w l
    ∙ (ap (λ t. (w % 256) ∷ t) (unpacked_enough n m (w / 256) (omega arith) (omega arith)) ∙ sym (unpacked_more m w l)))
    (λ l.
    let e : w ≡ 0 = omega arith in
    ap (λ x. unpacked (suc n) x) e ∙ (unpacked_zero (suc n) ∙ sym (ap (λ x. unpacked (suc m) x) e ∙ unpacked_zero (suc m))))

pub members_none : members 0 ≡ []
unfolding members
members_none = unpacked_zero 0

pub members_more : (w : ℕ) → 0 < w → members w ≡ (w % 256) ∷ members (w / 256)
unfolding members
members_more zero l = absurd (omega arith)
members_more (suc w) l =
    unpacked_more w (suc w) l ∙ ap (λ t. (suc w % 256) ∷ t) (unpacked_enough w (suc w / 256) (suc w / 256) (omega arith) (omega arith))

-- A byte that is a symbol.
abbrev pub Byte : ℕ → Type 0
Byte x = (1 ≤ x) × (x < 256)

-- A packed right side has its symbols.
pub members_packed : {β : List ℕ} → All Byte β → members (packed β) ≡ β
unfolding packed
members_packed All.nothing = members_none
members_packed (All.also {x = x} {l = β} h a) =
    let here : (x + 256 * packed β) % 256 ≡ x = omega arith in
    let rest : (x + 256 * packed β) / 256 ≡ packed β = omega arith in
    members_more (x + 256 * packed β) (omega arith) ∙ ap₂ (λ y t. y ∷ t) here (ap members rest ∙ members_packed a)

-- ---- What is spelt

pub spelt_token : (table : List ℕ) (d X : ℕ) → X < 64 → spelt table d X ≡ X ∷ []
unfolding spelt
spelt_token table zero X l = ap (λ (b : Bool). cond b (X ∷ []) []) (lt-ltb X 64 l)
spelt_token table (suc d) X l =
    ap (λ (b : Bool). cond b (X ∷ []) (joined (λ Y. spelt table d Y) (right_of table X))) (lt-ltb X 64 l)

pub spelt_none : (table : List ℕ) (X : ℕ) → 64 ≤ X → spelt table 0 X ≡ []
unfolding spelt
spelt_none table X l = ap (λ (b : Bool). cond b (X ∷ []) []) (le-ltb X 64 l)

pub spelt_right : (table : List ℕ) (d X : ℕ) → 64 ≤ X → spelt table (suc d) X ≡ joined (λ Y. spelt table d Y) (right_of table X)
unfolding spelt
spelt_right table d X l =
    ap (λ (b : Bool). cond b (X ∷ []) (joined (λ Y. spelt table d Y) (right_of table X))) (le-ltb X 64 l)

joined_same : {f g : ℕ → List ℕ} {l : List ℕ} → All (λ Y. f Y ≡ g Y) l → joined f l ≡ joined g l
unfolding joined
joined_same All.nothing = refl
joined_same (All.also h a) = ap₂ (λ v w. v ++ w) h (joined_same a)

-- A nonterminal's right side, where something is deep enough.
pub deep_below : (table : List ℕ) (d X : ℕ) → Deep table (suc d) X → 64 ≤ X → (X < 128) × All (λ Y. Deep table d Y) (right_of table X)
unfolding Deep
deep_below table d X (inl low) l = absurd (omega arith)
deep_below table d X (inr h) l = (h.1, h.2)

pub deep_zero : (table : List ℕ) (X : ℕ) → Deep table 0 X → X < 64
unfolding Deep
deep_zero table X h = h

pub deep_token : (table : List ℕ) (d X : ℕ) → X < 64 → Deep table d X
unfolding Deep
deep_token table zero X l = l
deep_token table (suc d) X l = inl l

pub deep_right : (table : List ℕ) (d X : ℕ) → 64 ≤ X → X < 128 → All (λ Y. Deep table d Y) (right_of table X) → Deep table (suc d) X
unfolding Deep
deep_right table d X l h a = inr (l, h, a)

deep_all : (table : List ℕ) (d e : ℕ) → ((X : ℕ) → Deep table d X → spelt table d X ≡ spelt table e X) → {l : List ℕ}
    → All (λ Y. Deep table d Y) l → All (λ Y. spelt table d Y ≡ spelt table e Y) l
deep_all table d e f All.nothing = All.nothing
deep_all table d e f (All.also h a) = All.also (f _ h) (deep_all table d e f a)

-- Looking deeper than needed changes nothing.
pub deep_spelt : (table : List ℕ) (d e : ℕ) → d ≤ e → (X : ℕ) → Deep table d X → spelt table d X ≡ spelt table e X
deep_spelt table zero e l X h = let t = deep_zero table X h in spelt_token table 0 X t ∙ sym (spelt_token table e X t)
deep_spelt table (suc d) zero l X h = absurd (omega arith)
deep_spelt table (suc d) (suc e) l X h =
    dite (dec_lt X 64)
    (λ t. spelt_token table (suc d) X t ∙ sym (spelt_token table (suc e) X t))
    (λ n.
    let k = deep_below table d X h (omega arith) in
    spelt_right table d X (omega arith)
    ∙ (joined_same (deep_all table d e (λ Y y. deep_spelt table d e (omega arith) Y y) k.1) ∙ sym (spelt_right table e X (omega arith))))

-- ---- Lengths

pub joined_length : (f : ℕ → List ℕ) (l : List ℕ) → length (joined f l) ≡ total (λ Y. length (f Y)) l
unfolding joined total
joined_length f [] = refl
joined_length f (x ∷ l) = simp length-append (omega (arith, joined_length f l))

total_grows : (f g : ℕ → ℕ) → ((Y : ℕ) → f Y ≤ g Y) → (l : List ℕ) → total f l ≤ total g l
unfolding total
total_grows f g h [] = omega arith
total_grows f g h (x ∷ l) = omega (arith, h x, total_grows f g h l)

-- Looking deeper never makes a string shorter.
pub spelt_grows : (table : List ℕ) (d e : ℕ) → d ≤ e → (X : ℕ) → length (spelt table d X) ≤ length (spelt table e X)
spelt_grows table zero e l X =
    dite (dec_lt X 64)
    (λ t. omega (arith, ap length (spelt_token table 0 X t), ap length (spelt_token table e X t)))
    (λ n. omega (arith, ap length (spelt_none table X (omega arith))))
spelt_grows table (suc d) zero l X = absurd (omega arith)
spelt_grows table (suc d) (suc e) l X =
    let more =
    total_grows (λ Y. length (spelt table d Y)) (λ Y. length (spelt table e Y)) (λ Y. spelt_grows table d e (omega arith) Y)
    (right_of table X) in
    dite (dec_lt X 64)
    (λ t. omega (arith, ap length (spelt_token table (suc d) X t), ap length (spelt_token table (suc e) X t)))
    (λ n.
    let h : 64 ≤ X = omega arith in
    omega (
      arith,
      ap length (spelt_right table d X h),
      ap length (spelt_right table e X h),
      joined_length (λ Y. spelt table d Y) (right_of table X),
      joined_length (λ Y. spelt table e Y) (right_of table X),
    ))

-- ---- Steps

pub steps_some : (table : List ℕ) (d X : ℕ) → 1 ≤ steps table d X
unfolding steps
steps_some table zero X = omega arith
steps_some table (suc d) X = at (ltb X 64)
  where
    at : (b : Bool) → 1 ≤ cond b 1 (2 + total (λ Y. steps table d Y) (right_of table X))
    at true = omega arith
    at false = omega arith

pub steps_right : (table : List ℕ) (d X : ℕ) → 64 ≤ X → steps table (suc d) X ≡ 2 + total (λ Y. steps table d Y) (right_of table X)
unfolding steps
steps_right table d X l = ap (λ (b : Bool). cond b 1 (2 + total (λ Y. steps table d Y) (right_of table X))) (le-ltb X 64 l)

-- ---- What a table of lengths says

pub length_token : (lengths : List ℕ) (X : ℕ) → X < 64 → length_in lengths X ≡ 1
unfolding length_in
length_token lengths X l = ap (λ (b : Bool). cond b 1 (get_or lengths (X - 64) 0)) (lt-ltb X 64 l)

pub length_other : (lengths : List ℕ) (X : ℕ) → 64 ≤ X → length_in lengths X ≡ get_or lengths (X - 64) 0
unfolding length_in
length_other lengths X l = ap (λ (b : Bool). cond b 1 (get_or lengths (X - 64) 0)) (le-ltb X 64 l)

-- ---- What is written

pub raised_length : (raise : ℕ) (w : List ℕ) → length (raised raise w) ≡ length w
unfolding raised
raised_length raise [] = refl
raised_length raise (t ∷ w) = ap suc (raised_length raise w)

pub raised_append : (raise : ℕ) (v w : List ℕ) → raised raise (v ++ w) ≡ raised raise v ++ raised raise w
unfolding raised
raised_append raise [] w = refl
raised_append raise (t ∷ v) w = ap (λ l. (t + raise) ∷ l) (raised_append raise v w)
