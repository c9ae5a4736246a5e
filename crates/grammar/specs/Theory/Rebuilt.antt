-- What theorems of proofs/Theory/Rebuilt.antt speak of.
use Rattle.std.specs.Prelude.{ℕ, ◌+◌, Bool, false, ◌&&◌, ◌||◌, cond, List, [], ◌∷◌, ◌++◌, eqb}
use Rattle.grammar.specs.Words.{END}
use Rattle.grammar.specs.Moves.{Edit, log_token}

-- The record e inserts before place p.
unfoldable pub inserts_at : ℕ → Edit → Bool
inserts_at p e = eqb e.kind 2 && eqb e.place p

-- The record e deletes the token at place p.
unfoldable pub deletes_at : ℕ → Edit → Bool
deletes_at p e = eqb e.kind 1 && eqb e.place p

-- The symbols inserted before place p, in order.
unfoldable pub inserted_at : ℕ → List Edit → List ℕ
unfolding inserts_at
inserted_at p [] = []
inserted_at p (e ∷ es) = cond (inserts_at p e) (e.symbol ∷ inserted_at p es) (inserted_at p es)

-- Some record deletes the token at place p.
unfoldable pub is_deleted : ℕ → List Edit → Bool
unfolding deletes_at
is_deleted p [] = false
is_deleted p (e ∷ es) = deletes_at p e || is_deleted p es

-- The tokens from place p on "without deleted tokens and with inserted symbols put before place r".
unfoldable pub rebuilt_from : ℕ → List ℕ → List Edit → List ℕ
unfolding inserted_at is_deleted log_token
rebuilt_from p [] es = []
rebuilt_from p (t ∷ ts) es = inserted_at p es ++ (cond (is_deleted p es) [] (log_token t) ++ rebuilt_from (p + 1) ts es)

-- The repaired log, from the log with END behind it and the records.
unfoldable pub rebuilt : List ℕ → List Edit → List ℕ
unfolding rebuilt_from
rebuilt log es = rebuilt_from 0 (log ++ (END ∷ [])) es
