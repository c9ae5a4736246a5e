-- A bench example: what the table says of it, and what it means that the definitions give it.
use Rattle.std.specs.Prelude.{ℕ, ◌≡◌, List, [], ◌∷◌, length}
use Rattle.std.proofs.Math.Option.{Option, none, some}
use Rattle.grammar.specs.Buffers.{filled, cleared}
use Rattle.grammar.specs.Moves.{Edit, edit_words}
use Rattle.grammar.specs.Refusals.{given, refused, number_of}
use Rattle.grammar.specs.Run.{Parsed}
use Rattle.grammar.specs.Pace.{Reported, pace_of}
use Rattle.grammar.specs.declared.Refusal.{Refusal}
use Rattle.grammar.specs.declared.Pace.TheVariants.{Idle}
use Rattle.grammar.specs.declared.Report.{Report}
use Rattle.grammar.specs.declared.Counts.{Counts}

-- ---- What the table says

-- "In all twelve the buffers are long enough": those that the printing program lends.
abbrev pub edit_room : ℕ
edit_room = 24576

abbrev pub rule_room : ℕ
rule_room = 16384

-- The pace: idle, or a count and a sum in ms.
pub data ToldPace : Type 0 where
  idle : ToldPace
  cycles : ℕ → ℕ → ToldPace

-- The moves, and where the table names them the edits, the rules and the pace.
pub record Told : Type 0 where
  pub moves : ℕ
  pub edits : Option (List Edit)
  pub rules : Option (List ℕ)
  pub pace : Option ToldPace

pub data Expected : Type 0 where
  result : Told → Expected
  refuses : ℕ → Expected

pub record Case : Type 0 where
  pub words : List ℕ
  pub log : List ℕ
  pub ticks : List ℕ
  -- the words of the edit buffer
  pub lent : ℕ
  pub expected : Expected

-- ---- What it means that the definitions give a case

-- Where the table names the edits, the buffer holds just these records; so with the rules.
abbrev pub EditsTold : ℕ → Option (List Edit) → ℕ → List ℕ → Type 0
EditsTold lent none records buffer = Unit {0}
EditsTold lent (some es) records buffer = (records ≡ length es) × (buffer ≡ filled lent (edit_words es))

abbrev pub RulesTold : Option (List ℕ) → ℕ → List ℕ → Type 0
RulesTold none listed buffer = Unit {0}
RulesTold (some ps) listed buffer = (listed ≡ length ps) × (buffer ≡ filled rule_room ps)

-- Where the table names the pace: idle carries no time; else the count, the sum and their mean.
abbrev pub PaceTold : Option ToldPace → Report → Type 0
PaceTold none report = Unit {0}
PaceTold (some idle) report = (report.count ≡ 0) × (report.pace ≡ Idle)
PaceTold (some (cycles n s)) report = (report.count ≡ n) × (report.sum ≡ s) × (report.pace ≡ pace_of n s)

-- Parser and report both give what is told.
pub record Results (c : Case) (told : Told) : Type 0 where
  pub counts : Counts
  pub report : Report
  pub edit_buffer : List ℕ
  pub rule_buffer : List ℕ
  pub parsed : Parsed c.words c.log c.lent rule_room (given counts) edit_buffer rule_buffer
  pub reported : Reported c.words c.log c.ticks c.lent rule_room (given (report, counts)) edit_buffer rule_buffer
  pub moves : counts.moves ≡ told.moves
  pub edits : EditsTold c.lent told.edits counts.records edit_buffer
  pub rules : RulesTold told.rules counts.listed rule_buffer
  pub pace : PaceTold told.pace report

-- Parser and report both refuse with one number, and leave zeros.
pub record Refuses (c : Case) (number : ℕ) : Type 0 where
  pub refusal : Refusal
  pub numbered : number_of refusal ≡ number
  pub parsed : Parsed c.words c.log c.lent rule_room (refused refusal) (cleared c.lent) (cleared rule_room)
  pub reported : Reported c.words c.log c.ticks c.lent rule_room (refused refusal) (cleared c.lent) (cleared rule_room)

abbrev pub GivesAs : Case → Expected → Type 0
GivesAs c (result told) = Results c told
GivesAs c (refuses number) = Refuses c number

-- The definitions give the case as the table has it.
abbrev pub Gives : Case → Type 0
Gives c = GivesAs c c.expected

-- They give every case of a list.
pub data GivesAll : List Case → Type 0 where
  nothing : GivesAll []
  also : {c : Case} {cs : List Case} → Gives c → GivesAll cs → GivesAll (c ∷ cs)
