-- What is known of a text is kept by each byte, and gives the answer at the end.
--     told_nothing                                                     no byte was taken yet
--     took_none, took_more, took_all                                   no byte of a part; one more; all
--     blank_between, blank_within, between_went_on, within_went_on,
--     stays                                                            a byte, by the state that meets it
--     ends_between, ends_within, ends_stopped                          the end
use Rattle.std.specs.Prelude.{ℕ, ◌+◌, ◌-◌, ◌≤◌, ◌<◌, ◌≡◌, take, get_or, replicate, Result, Ok, Err}
use Rattle.std.proofs.Common.{add-one, sym, subst, ◌∙◌, take-suc, take_all}
use native.Mathlib.Omega.{arith}
use Rattle.std.proofs.Math.Path.{refl, ap}
use mathlib.Core.List.{List, [], ◌∷◌, ◌++◌, append_assoc, append-nil}
use Rattle.std.proofs.Math.ListN.{length, set, length-append, length-set}
use Rattle.base.specs.Clearing.{clear_whole}
use Rattle.grammar.specs.Buffers.{filled, cleared}
use Rattle.spelling.specs.Text.{Blank, Spells}
use Rattle.spelling.specs.Answer.{counted, stored, Halted, Says, Told, Took, WentOn, Answered, Begun, Finished}
use Rattle.spelling.specs.Answer.Answered.{words, no_number}
use Rattle.spelling.specs.Texts.{
  Row,
  passed_nothing,
  passed_blank,
  passed_number,
  passed_spells,
  open_spells,
  halted_stops,
  passed_row,
  open_row,
  row_more,
  row_stops,
}
use Rattle.spelling.specs.Storing.{stored_none, stored_length, stored_more, stored_filled}
use Rattle.spelling.specs.declared.Spelled.{Spelled}
use Rattle.spelling.specs.declared.Spelled.TheVariants.{Between, Within, Stopped}
use Rattle.spelling.specs.declared.NoNumber.{NoNumber}

pub told_nothing : Begun (Between 0)
unfolding Says
told_nothing old = record { numbers = []; holds = stored_none old; says = (refl, passed_nothing) }

-- ---- A part, byte by byte

pub took_none : (part : List ℕ) (state : Spelled) (buffer : List ℕ) → Took state (take 0 part) buffer state buffer
took_none part state buffer old text told = subst (λ (t : List ℕ). Told old t state buffer) (sym (append-nil text)) told

pub took_more : (part : List ℕ) {start mid next : Spelled} {buffer between left : List ℕ} (i : ℕ) → i < length part
    → Took start (take i part) buffer mid between → Took mid (get_or part i 0 ∷ []) between next left
    → Took start (take (i + 1) part) buffer next left
took_more part {start} {mid} {next} {buffer} {between} {left} i l first last old text told =
    let longer : take (i + 1) part ≡ take i part ++ (get_or part i 0 ∷ []) =
    ap (λ (k : ℕ). take k part) (add-one i) ∙ take-suc part i 0 l in
    let whole : (text ++ take i part) ++ (get_or part i 0 ∷ []) ≡ text ++ take (i + 1) part =
    append_assoc text (take i part) (get_or part i 0 ∷ []) ∙ ap (λ (t : List ℕ). text ++ t) (sym longer) in
    subst (λ (t : List ℕ). Told old t next left) whole (last old (text ++ take i part) (first old text told))

pub took_all : (part : List ℕ) {start next : Spelled} {buffer left : List ℕ} (i : ℕ) → length part ≤ i
    → Took start (take i part) buffer next left → Took start part buffer next left
took_all part {start} {next} {buffer} {left} i l took =
    subst (λ (p : List ℕ). Took start p buffer next left) (take_all i part l) took

-- ---- A byte

-- The state that the code meets is the one that was matched.
pub took_as : {state met next : Spelled} {part buffer left : List ℕ} → state ≡ met → Took met part buffer next left
    → Took state part buffer next left
took_as {next = next} {part = part} {buffer = buffer} {left = left} e took =
    subst (λ (s : Spelled). Took s part buffer next left) (sym e) took

pub blank_between : {n c : ℕ} (buffer : List ℕ) → Blank c → Took (Between n) (c ∷ []) buffer (Between n) buffer
unfolding Says
blank_between buffer b old text told =
    record { numbers = told.numbers; holds = told.holds; says = (told.says.0, passed_blank told.says.1 b) }

pub blank_within : {n m v c : ℕ} (buffer : List ℕ) {left : List ℕ} → length buffer ≤ 18446744073709551615 → Blank c
    → left ≡ set buffer n v → m ≡ counted (n + 1) → Took (Within n v) (c ∷ []) buffer (Between m) left
unfolding Says
blank_within {n} {m} {v} buffer {left} room b e count old text told =
    let ns = told.numbers in
    let size : length (ns ++ (v ∷ [])) ≡ length ns + 1 = length-append ns (v ∷ []) in
    let least : n ≡ counted (length ns) = told.says.0 in
    let fits : length old ≤ 18446744073709551615 = omega (arith, stored_length old ns, ap length told.holds) in
    record {
      numbers = ns ++ (v ∷ []);
      holds = e ∙ (ap (λ (l : List ℕ). set l n v) told.holds ∙ stored_more old ns least fits v);
      says = (omega arith, passed_number told.says.1 b);
    }

pub stays : {n : ℕ} (c : ℕ) (buffer : List ℕ) → Took (Stopped n) (c ∷ []) buffer (Stopped n) buffer
unfolding Says
stays c buffer old text told =
    let halted : Halted (text ++ (c ∷ [])) told.numbers =
    record { before = λ more. rw append_assoc (told.says.1.before (c ∷ more)) } in
    record { numbers = told.numbers; holds = told.holds; says = (told.says.0, halted) }

row_went_on : {text ns : List ℕ} {n v c : ℕ} → n ≡ counted (length ns) → Row text ns v → (Blank c → ⊥) → (next : Spelled)
    → WentOn n v c next → Says (text ++ (c ∷ [])) ns next
unfolding Says
row_went_on count row unblank (Between m) went = absurd went
row_went_on {c = c} count row unblank (Within m w) went =
    (went.0 ∙ count, row_more c row went.1 went.2 went.3)
row_went_on {c = c} count row unblank (Stopped m) went = (went.0 ∙ count, row_stops c row unblank went.1)

pub between_went_on : {n c : ℕ} (buffer : List ℕ) (next : Spelled) → (Blank c → ⊥) → WentOn n 0 c next
    → Took (Between n) (c ∷ []) buffer next buffer
unfolding Says
between_went_on buffer next unblank went old text told =
    record {
      numbers = told.numbers;
      holds = told.holds;
      says = row_went_on told.says.0 (passed_row told.says.1) unblank next went;
    }

pub within_went_on : {n v c : ℕ} (buffer : List ℕ) (next : Spelled) → (Blank c → ⊥) → WentOn n v c next
    → Took (Within n v) (c ∷ []) buffer next buffer
unfolding Says
within_went_on buffer next unblank went old text told =
    record {
      numbers = told.numbers;
      holds = told.holds;
      says = row_went_on told.says.0 (open_row told.says.1) unblank next went;
    }

-- ---- The end

-- The words stand in the buffer, and behind them zeros.
answered_words : (old ns buffer : List ℕ) {text left : List ℕ} {n room : ℕ} → Spells text ns → n ≡ counted (length ns)
    → buffer ≡ stored old ns → length buffer ≡ room → room ≤ 18446744073709551615
    → left ≡ take n buffer ++ replicate (length buffer - n) 0 → Answered text room (Ok n) left
answered_words old ns buffer {left = left} {n = n} {room = room} spells count held size fits e =
    let same = stored_length old ns in
    let long = ap length held in
    let zeros = stored_filled old ns count (omega arith) (subst (λ (b : List ℕ). left ≡ take n b ++ replicate (length b - n) 0) held e) in
    words ns spells (ap (λ (k : ℕ). Ok k) count) (zeros ∙ ap (λ (k : ℕ). filled k (take k ns)) (sym long ∙ size))

pub finished_as : {state met : Spelled} {answer : Result ℕ NoNumber} {buffer left : List ℕ} → state ≡ met → Finished met buffer answer left
    → Finished state buffer answer left
finished_as {answer = answer} {buffer = buffer} {left = left} e finished =
    subst (λ (s : Spelled). Finished s buffer answer left) (sym e) finished

module _ (buffer : List ℕ) {left : List ℕ} {n : ℕ} (room : length buffer ≤ 18446744073709551615) where
  pub ends_between : left ≡ take n buffer ++ replicate (length buffer - n) 0 → Finished (Between n) buffer (Ok n) left
  unfolding Says
  ends_between e old text told =
      answered_words old told.numbers buffer (passed_spells told.says.1) told.says.0 told.holds refl room e

  pub ends_within : {v m : ℕ} {filled : List ℕ} → filled ≡ set buffer n v → m ≡ counted (n + 1)
      → left ≡ take m filled ++ replicate (length filled - m) 0 → Finished (Within n v) buffer (Ok m) left
  unfolding Says
  ends_within {v} {m} {filled} stores count e old text told =
      let ns = told.numbers in
      let least : n ≡ counted (length ns) = told.says.0 in
      let fits : length old ≤ 18446744073709551615 = omega (arith, stored_length old ns, ap length told.holds) in
      let size : length (ns ++ (v ∷ [])) ≡ length ns + 1 = length-append ns (v ∷ []) in
      answered_words old (ns ++ (v ∷ [])) filled
      (open_spells told.says.1)
      (omega arith)
      (stores ∙ (ap (λ (l : List ℕ). set l n v) told.holds ∙ stored_more old ns least fits v))
      (ap length stores ∙ length-set buffer n v)
      room
      e

  pub ends_stopped : {m : ℕ} → m ≡ counted (n + 1) → left ≡ replicate (length buffer - 0) 0
      → Finished (Stopped n) buffer (Err (record { place = m })) left
  unfolding Says cleared
  ends_stopped {m} count e old text told =
      let least : n ≡ counted (length told.numbers) = told.says.0 in
      let place : m ≡ counted (length told.numbers + 1) = omega arith in
      no_number told.numbers (halted_stops told.says.1) (ap (λ (k : ℕ). Err (record { place = k })) place) (clear_whole 0 (length buffer) e)
