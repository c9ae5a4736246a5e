-- Some texts, and what they spell: leading zeros do not count, 65536 is no word, and a comma parts no words.
use Rattle.std.specs.Prelude.{ℕ, ◌≤◌, ◌<◌, refl, [], ◌∷◌}
use Rattle.std.proofs.Common.{arith, inl}
use Rattle.grammar.specs.Derivation.{All, nothing, also}
use Rattle.grammar.specs.Listing.{ascii}
use Rattle.spelling.specs.Text.{Blank, Digit, value_of, Number, Ended, Numbers, Spells, Stops}
use Rattle.spelling.specs.Texts.{blank_last, digits_unbroken}

digit : (c : ℕ) → 48 ≤ c → c ≤ 57 → Digit c
digit c l h = record { low = l; high = h }

two_words : Spells (ascii "7 042") (7 ∷ 42 ∷ [])
unfolding ascii value_of
two_words =
    Numbers.number {word = ascii "7"} refl seven (Ended.blank (inl refl))
    (Numbers.blank (inl refl) (Numbers.number {word = ascii "042"} refl answer Ended.end (Numbers.none refl)))
  where
    seven : Number (ascii "7") 7
    seven = record { some = omega arith; digits = also (digit 55 (omega arith) (omega arith)) nothing; value = refl; small = omega arith }

    answer : Number (ascii "042") 42
    answer =
        record {
          some = omega arith;
          digits = also (digit 48 (omega arith) (omega arith))
              (also (digit 52 (omega arith) (omega arith)) (also (digit 50 (omega arith) (omega arith)) nothing));
          value = refl;
          small = omega arith;
        }

too_large : Stops (ascii "65536") []
unfolding ascii value_of
too_large =
    record {
      rest = ascii "65536";
      before = Numbers.none refl;
      stop = record {
        word = ascii "65536";
        rest = [];
        whole = refl;
        some = omega arith;
        unbroken = digits_unbroken (also six (also five (also five (also three (also six nothing)))));
        ended = Ended.end;
        none = λ n is. omega (arith, is.value, is.small);
      };
    }
  where
    six : Digit 54
    six = digit 54 (omega arith) (omega arith)

    five : Digit 53
    five = digit 53 (omega arith) (omega arith)

    three : Digit 51
    three = digit 51 (omega arith) (omega arith)

no_comma : All Digit (ascii "1,2") → ⊥
unfolding ascii
no_comma (also _ (also d _)) = omega (arith, d.low)

one_word : Stops (ascii "1,2") []
unfolding ascii
one_word =
    record {
      rest = ascii "1,2";
      before = Numbers.none refl;
      stop = record {
        word = ascii "1,2";
        rest = [];
        whole = refl;
        some = omega arith;
        unbroken = also (unblank 49 (omega arith)) (also (unblank 44 (omega arith)) (also (unblank 50 (omega arith)) nothing));
        ended = Ended.end;
        none = λ n is. no_comma is.digits;
      };
    }
  where
    unblank : (c : ℕ) → 32 < c → Blank c → ⊥
    unblank c l b = let last = blank_last (λ e. omega arith) (λ e. omega arith) (λ e. omega arith) b in omega arith
