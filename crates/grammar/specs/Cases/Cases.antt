-- Document 01, "Bench examples": the twelve cases as one list, with all that the table says of each and what request (ii) of 02 changes
-- in it, and the cases of that request and of request (vi) behind them.
use Rattle.std.specs.Prelude.{ℕ, List, [], ◌∷◌, ◌++◌}
use Rattle.std.proofs.Math.Option.{none, some}
use Rattle.grammar.specs.Moves.{Edit}
use Rattle.grammar.specs.Cases.Case.{Case, ToldPace, idle, cycles, result, refuses, edit_room}

-- ---- The grammars

-- The words of grammar G, with the reliability of terminal 4 open: header, cost and reliability of each terminal, rules.
abbrev pub g_with : ℕ → List ℕ
g_with r =
    (7 ∷ 4 ∷ 6 ∷ 1 ∷ 4 ∷ 0 ∷ [])
    ++ ((0 ∷ 0 ∷ 20 ∷ 60 ∷ 3 ∷ 9 ∷ 5 ∷ 15 ∷ 4 ∷ r ∷ 3 ∷ 2 ∷ 3 ∷ 2 ∷ [])
    -- 64 -> 65 64; 64 -> empty; 65 -> 1 66 4; 66 -> 2 67 3; 67 -> 5 6; 67 -> empty
    ++ (0 ∷ 2 ∷ 65 ∷ 64 ∷ 0 ∷ 0 ∷ 1 ∷ 3 ∷ 1 ∷ 66 ∷ 4 ∷ 2 ∷ 3 ∷ 2 ∷ 67 ∷ 3 ∷ 3 ∷ 2 ∷ 5 ∷ 6 ∷ 3 ∷ 0 ∷ []))

abbrev pub G : List ℕ
G = g_with 40

-- Cases 9 to 12: T is 2, marks, unit and reliabilities are 0, each cost but END's is 1; N and the rules are open.
abbrev pub small : ℕ → ℕ → List ℕ → List ℕ
small N P rules = (2 ∷ N ∷ P ∷ 0 ∷ 0 ∷ 0 ∷ 0 ∷ 0 ∷ 1 ∷ 0 ∷ []) ++ rules

-- Those of request (ii): marks and unit are 0, each cost but END's is 1.

-- T 5, reliabilities 5: 64 -> 1 65 2 66 3; 65 -> 4; 65 -> empty; 66 -> 4; 66 -> empty
abbrev optional : List ℕ
optional =
    (5 ∷ 3 ∷ 5 ∷ 0 ∷ 0 ∷ 0 ∷ [])
    ++ ((0 ∷ 0 ∷ 1 ∷ 5 ∷ 1 ∷ 5 ∷ 1 ∷ 5 ∷ 1 ∷ 5 ∷ [])
    ++ (0 ∷ 5 ∷ 1 ∷ 65 ∷ 2 ∷ 66 ∷ 3 ∷ 1 ∷ 1 ∷ 4 ∷ 1 ∷ 0 ∷ 2 ∷ 1 ∷ 4 ∷ 2 ∷ 0 ∷ []))

-- T 5, reliability 5 of 1 and 2: 64 -> 1 65 2; 65 -> 66; 66 -> 3; 66 -> empty
abbrev chained : List ℕ
chained =
    (5 ∷ 3 ∷ 4 ∷ 0 ∷ 0 ∷ 0 ∷ [])
    ++ ((0 ∷ 0 ∷ 1 ∷ 5 ∷ 1 ∷ 5 ∷ 1 ∷ 0 ∷ 1 ∷ 0 ∷ []) ++ (0 ∷ 3 ∷ 1 ∷ 65 ∷ 2 ∷ 1 ∷ 1 ∷ 66 ∷ 2 ∷ 1 ∷ 3 ∷ 2 ∷ 0 ∷ []))

-- T 3: 64 -> 1 2
abbrev pair : List ℕ
pair = (3 ∷ 1 ∷ 1 ∷ 0 ∷ 0 ∷ 0 ∷ []) ++ ((0 ∷ 0 ∷ 1 ∷ 0 ∷ 1 ∷ 0 ∷ []) ++ (0 ∷ 2 ∷ 1 ∷ 2 ∷ []))

-- Request (vi)'s grammar H, with word 0 and the restart mark open: T 5, marks 1 and 3.
-- 64 -> 65 64; 64 -> 4 64; 64 -> empty; 65 -> 1 66 3; 66 -> 2 66; 66 -> 4 66; 66 -> empty
abbrev h_with : ℕ → ℕ → List ℕ
h_with first m =
    (first ∷ 3 ∷ 7 ∷ 1 ∷ 3 ∷ 0 ∷ m ∷ [])
    ++ ((0 ∷ 0 ∷ 20 ∷ 60 ∷ 3 ∷ 9 ∷ 4 ∷ 40 ∷ 1 ∷ 2 ∷ [])
    ++ (0 ∷ 2 ∷ 65 ∷ 64 ∷ 0 ∷ 2 ∷ 4 ∷ 64 ∷ 0 ∷ 0 ∷ 1 ∷ 3 ∷ 1 ∷ 66 ∷ 3 ∷ 2 ∷ 2 ∷ 2 ∷ 66 ∷ 2 ∷ 2 ∷ 4 ∷ 66 ∷ 2 ∷ 0 ∷ []))

abbrev H : List ℕ
H = h_with 261 4

-- T 1 in a seven-word header, 64 -> empty, with the restart mark open.
abbrev end_alone : ℕ → List ℕ
end_alone m = 257 ∷ 1 ∷ 1 ∷ 0 ∷ 0 ∷ 0 ∷ m ∷ 0 ∷ 0 ∷ 0 ∷ 0 ∷ []

-- ---- The cases

abbrev delete : ℕ → ℕ → Edit
delete p t = record { kind = 1; place = p; symbol = t }

abbrev insert : ℕ → ℕ → Edit
insert p X = record { kind = 2; place = p; symbol = X }

-- Case 12: T 2, 64 -> empty, log 1: 3 moves, the bound itself: 2 + 1 + 0 x 1 x 1; delete 0 1.
abbrev pub case12 : Case
case12 = record {
  words = small 1 1 (0 ∷ 0 ∷ []);
  log = 1 ∷ [];
  ticks = 0 ∷ [];
  lent = edit_room;
  expected = result (record { moves = 3; edits = some (delete 0 1 ∷ []); rules = none; pace = none });
}

-- Request (ii)'s own: an empty thing is not missing.
abbrev empty_things : List Case
empty_things =
    -- case 4 in an edit buffer that just holds its one record, and in one that does not
    record {
      words = G;
      log = 4 ∷ [];
      ticks = 0 ∷ [];
      lent = 3;
      expected = result (record { moves = 3; edits = some (delete 0 4 ∷ []); rules = none; pace = none });
    }
    ∷ record { words = G; log = 4 ∷ []; ticks = 0 ∷ []; lent = 2; expected = refuses 12 }
    -- case 6 with reliability 6: 67 costs nothing, and 3 costs 5
    ∷ record {
      words = g_with 6;
      log = 1 ∷ 2 ∷ 4 ∷ [];
      ticks = 0 ∷ 0 ∷ 0 ∷ [];
      lent = edit_room;
      expected = result (record { moves = 10; edits = some (insert 2 3 ∷ []); rules = none; pace = none });
    }
    -- a drop, an insert and a drop in one correction
    ∷ record {
      words = optional;
      log = 1 ∷ 3 ∷ [];
      ticks = 0 ∷ 0 ∷ [];
      lent = edit_room;
      expected = result (record { moves = 7; edits = some (insert 1 2 ∷ []); rules = none; pace = none });
    }
    -- a delete and a drop
    ∷ record {
      words = optional;
      log = 1 ∷ 1 ∷ 2 ∷ 3 ∷ [];
      ticks = 0 ∷ 0 ∷ 0 ∷ 0 ∷ [];
      lent = edit_room;
      expected = result (record { moves = 8; edits = some (delete 1 1 ∷ []); rules = none; pace = none });
    }
    -- START cannot be empty here
    ∷ record {
      words = optional;
      log = 3 ∷ [];
      ticks = 0 ∷ [];
      lent = edit_room;
      expected = result (record { moves = 3; edits = some (delete 0 3 ∷ insert 1 64 ∷ []); rules = none; pace = none });
    }
    -- 65 can be empty without an empty rule of its own
    ∷ record {
      words = chained;
      log = 1 ∷ 4 ∷ 2 ∷ [];
      ticks = 0 ∷ 0 ∷ 0 ∷ [];
      lent = edit_room;
      expected = result (record { moves = 6; edits = some (delete 1 4 ∷ []); rules = none; pace = none });
    }
    -- an empty log of a grammar that has no empty one
    ∷ record {
      words = pair;
      log = [];
      ticks = [];
      lent = edit_room;
      expected = result (record { moves = 2; edits = some (insert 0 64 ∷ []); rules = none; pace = none });
    }
    ∷ []

-- A case of a log that H repairs with these edits, and of its pace.
abbrev timed : List ℕ → List ℕ → List ℕ → ℕ → List Edit → ToldPace → Case
timed words log ticks moves es pace = record {
  words = words;
  log = log;
  ticks = ticks;
  lent = edit_room;
  expected = result (record { moves = moves; edits = some es; rules = none; pace = some pace });
}

abbrev unfit : List ℕ → List ℕ → List ℕ → ℕ → Case
unfit words log ticks number = record { words = words; log = log; ticks = ticks; lent = edit_room; expected = refuses number }

-- Request (vi)'s own: ticks after a controller restart.
abbrev restarts : List Case
restarts =
    timed H (1 ∷ 2 ∷ 3 ∷ []) (0 ∷ 10 ∷ 30 ∷ []) 9 [] (cycles 1 30)
    -- a restart in the cycle, and the same without a restart mark
    ∷ timed H (1 ∷ 4 ∷ 3 ∷ []) (100 ∷ 0 ∷ 30 ∷ []) 9 [] idle
    ∷ timed (h_with 261 0) (1 ∷ 4 ∷ 3 ∷ []) (100 ∷ 0 ∷ 30 ∷ []) 9 [] (cycles 1 4294967226)
    -- between two cycles
    ∷ timed H (1 ∷ 2 ∷ 3 ∷ 4 ∷ 1 ∷ 2 ∷ 3 ∷ []) (100 ∷ 110 ∷ 130 ∷ 0 ∷ 5 ∷ 10 ∷ 25 ∷ []) 18 [] (cycles 2 50)
    -- in the first of two
    ∷ timed H (1 ∷ 2 ∷ 4 ∷ 2 ∷ 3 ∷ 1 ∷ 3 ∷ []) (900 ∷ 950 ∷ 0 ∷ 40 ∷ 60 ∷ 70 ∷ 95 ∷ []) 18 [] (cycles 1 25)
    -- an edit at the opening mark does not spoil, the restart behind it does
    ∷ timed H (1 ∷ 1 ∷ 4 ∷ 3 ∷ []) (5 ∷ 9 ∷ 0 ∷ 2 ∷ []) 14 (insert 1 3 ∷ []) idle
    -- another restart mark
    ∷ timed (h_with 261 2) (1 ∷ 4 ∷ 3 ∷ []) (100 ∷ 200 ∷ 230 ∷ []) 9 [] (cycles 1 130)
    -- a bad seventh word, a bad word 0, a token that is not below T
    ∷ unfit (h_with 261 1) [] [] 5
    ∷ unfit (h_with 261 3) [] [] 5
    ∷ unfit (h_with 261 5) [] [] 5
    ∷ unfit (h_with 261 65535) [] [] 5
    ∷ unfit (h_with 5 4) [] [] 5
    ∷ unfit (h_with 256 4) [] [] 5
    ∷ unfit (h_with 321 4) [] [] 5
    ∷ unfit H (5 ∷ []) (0 ∷ []) 10
    -- T 1
    ∷ timed (end_alone 0) [] [] 2 [] idle
    ∷ unfit (end_alone 1) [] [] 5
    ∷ []

abbrev pub cases : List Case
cases =
    -- case 1: G, empty log: 2 moves, no edits, idle
    record {
      words = G;
      log = [];
      ticks = [];
      lent = edit_room;
      expected = result (record { moves = 2; edits = some []; rules = none; pace = some idle });
    }
    -- case 2: G, 1 2 3 4: 10 moves, rules 0 2 3, no edits
    ∷ record {
      words = G;
      log = 1 ∷ 2 ∷ 3 ∷ 4 ∷ [];
      ticks = 0 ∷ 0 ∷ 0 ∷ 0 ∷ [];
      lent = edit_room;
      expected = result (record { moves = 10; edits = some []; rules = some (0 ∷ 2 ∷ 3 ∷ []); pace = none });
    }
    -- case 3: G, 1 2 4: 10 moves; insert 2 3; idle
    ∷ record {
      words = G;
      log = 1 ∷ 2 ∷ 4 ∷ [];
      ticks = 0 ∷ 0 ∷ 0 ∷ [];
      lent = edit_room;
      expected = result (record { moves = 10; edits = some (insert 2 3 ∷ []); rules = none; pace = some idle });
    }
    -- case 4: G, 4: 3 moves; delete 0 4
    ∷ record {
      words = G;
      log = 4 ∷ [];
      ticks = 0 ∷ [];
      lent = edit_room;
      expected = result (record { moves = 3; edits = some (delete 0 4 ∷ []); rules = none; pace = none });
    }
    -- case 5: G, 1 1 2 3 4: 15 moves; insert 1 66, insert 1 4; the listing has its ticks, 5 rules and one cycle of 1,000 ms
    ∷ record {
      words = G;
      log = 1 ∷ 1 ∷ 2 ∷ 3 ∷ 4 ∷ [];
      ticks = 100 ∷ 250 ∷ 400 ∷ 900 ∷ 1250 ∷ [];
      lent = edit_room;
      expected = result
          (record {
            moves = 15;
            edits = some (insert 1 66 ∷ insert 1 4 ∷ []);
            rules = some (0 ∷ 2 ∷ 0 ∷ 2 ∷ 3 ∷ []);
            pace = some (cycles 1 1000);
          });
    }
    -- case 6: G with reliability of 4 set to 5, log 1 2 4: 11 moves; delete 2 4; insert at 3 of 3, 4
    ∷ record {
      words = g_with 5;
      log = 1 ∷ 2 ∷ 4 ∷ [];
      ticks = 0 ∷ 0 ∷ 0 ∷ [];
      lent = edit_room;
      expected = result
          (record {
            moves = 11;
            edits = some (delete 2 4 ∷ insert 3 3 ∷ insert 3 4 ∷ []);
            rules = none;
            pace = none;
          });
    }
    -- case 7: G, 1 2 3 5: 11 moves; delete 3 5; insert 4 4
    ∷ record {
      words = G;
      log = 1 ∷ 2 ∷ 3 ∷ 5 ∷ [];
      ticks = 0 ∷ 0 ∷ 0 ∷ 0 ∷ [];
      lent = edit_room;
      expected = result (record { moves = 11; edits = some (delete 3 5 ∷ insert 4 4 ∷ []); rules = none; pace = none });
    }
    -- case 8: case 2, first tick 4294967196, last 904: one cycle, 1,004 ms
    ∷ record {
      words = G;
      log = 1 ∷ 2 ∷ 3 ∷ 4 ∷ [];
      ticks = 4294967196 ∷ 0 ∷ 0 ∷ 904 ∷ [];
      lent = edit_room;
      expected = result (record { moves = 10; edits = some []; rules = some (0 ∷ 2 ∷ 3 ∷ []); pace = some (cycles 1 1004) });
    }
    -- case 9: 64 -> 64 1; 64 -> empty: refused 9
    ∷ record { words = small 1 2 (0 ∷ 2 ∷ 64 ∷ 1 ∷ 0 ∷ 0 ∷ []); log = []; ticks = []; lent = edit_room; expected = refuses 9 }
    -- case 10: 64 -> 64 only: refused 7
    ∷ record { words = small 1 1 (0 ∷ 1 ∷ 64 ∷ []); log = []; ticks = []; lent = edit_room; expected = refuses 7 }
    -- case 11: N 2: 64 -> empty; 65 -> 1: refused 6
    ∷ record { words = small 2 2 (0 ∷ 0 ∷ 1 ∷ 1 ∷ 1 ∷ []); log = []; ticks = []; lent = edit_room; expected = refuses 6 }
    ∷ case12
    ∷ (empty_things ++ restarts)
