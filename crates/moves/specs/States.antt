-- What each move makes of the state: "every match, expand, drop, delete and insert counts one move".
use Rattle.std.specs.Prelude.{ℕ, ◌+◌, ◌-◌, ◌/◌, ◌<◌, ◌^◌}
use Rattle.moves.specs.declared.Parser.{Parser}

-- There is room to count one more of each.
pub record CanCount (p : Parser) : Type 0 where
  pub place : p.place + 1 < 2 ^ 64
  pub height : p.height + 256 < 2 ^ 64
  pub moves : p.moves + 1 < 2 ^ 64
  pub records : p.records + 1 < 2 ^ 64
  pub listed : p.listed + 1 < 2 ^ 64

-- START over END, before the first token.
abbrev pub started : Parser
started = record { place = 0; height = 2; moves = 0; records = 0; listed = 0; window = 0 }

-- Match: "one pop, next token".
abbrev pub matched_by : Parser → Parser
matched_by p =
    record {
      place = p.place + 1;
      height = p.height - 1;
      moves = p.moves + 1;
      records = p.records;
      listed = p.listed;
      window = p.window / 256;
    }

-- Expand: "one pop, the right side is pushed, the rule number is listed".
abbrev pub expanded_by : ℕ → ℕ → Parser → Parser
expanded_by size window p =
    record {
      place = p.place;
      height = p.height - 1 + size;
      moves = p.moves + 1;
      records = p.records;
      listed = p.listed + 1;
      window = window;
    }

-- Drop: "one pop, nothing listed".
abbrev pub dropped_by : Parser → Parser
dropped_by p =
    record {
      place = p.place;
      height = p.height - 1;
      moves = p.moves + 1;
      records = p.records;
      listed = p.listed;
      window = p.window / 256;
    }

-- A delete passes its token.
abbrev pub deleted_by : Parser → Parser
deleted_by p =
    record {
      place = p.place + 1;
      height = p.height;
      moves = p.moves + 1;
      records = p.records + 1;
      listed = p.listed;
      window = p.window;
    }

-- An insert pops its symbol.
abbrev pub inserted_by : Parser → Parser
inserted_by p =
    record {
      place = p.place;
      height = p.height - 1;
      moves = p.moves + 1;
      records = p.records + 1;
      listed = p.listed;
      window = p.window;
    }

-- The same state with nothing in the window.
abbrev pub windowless : Parser → Parser
windowless p =
    record { place = p.place; height = p.height; moves = p.moves; records = p.records; listed = p.listed; window = 0 }
