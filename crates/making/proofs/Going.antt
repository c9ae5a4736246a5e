-- A text that is gone through, and what its reader has left of it.
--     gone_nothing, gone_further, gone_whole    before the first part, behind one more, and at the end
--     gone_known                                the state is that of a text
use Rattle.std.specs.Prelude.{ℕ, List, [], ◌++◌, Option, IfSome}
use Rattle.std.specs.Io.KnownBytes.{Consumes, IsAtEnd, Keeps}
use Rattle.std.proofs.KnownBytes.{Consumes-nil, Consumes-trans, Consumes-kept, Consumes-whole}
use Rattle.spelling.specs.Answer.{Begun, Told, Took}
use Rattle.spelling.specs.declared.Spelled.{Spelled}
use Rattle.making.specs.Answer.{Knows}

-- State and word buffer are those of the text that was taken of what the reader had.
pub record Gone (had left : Option (List ℕ)) (old : List ℕ) (state : Spelled) (buffer : List ℕ) : Type 0 where
  pub text : List ℕ
  pub told : Told old text state buffer
  pub taken : Consumes had left text

pub gone_known : {had left : Option (List ℕ)} {old : List ℕ} {state : Spelled} {buffer : List ℕ} → Gone had left old state buffer
    → Knows state buffer
gone_known {old = old} gone = record { old = old; text = gone.text; told = gone.told }

pub gone_nothing : (had : Option (List ℕ)) {state : Spelled} (buffer : List ℕ) → Begun state → Gone had had buffer state buffer
gone_nothing had buffer begun = record { text = []; told = begun buffer; taken = Consumes-nil had }

pub gone_further : (had mid left : Option (List ℕ)) {old part buffer after : List ℕ} {state next : Spelled}
    → Took state part buffer next after → Consumes mid left part → Gone had mid old state buffer → Gone had left old next after
gone_further had mid left {old} {part} took taken gone =
    record {
      text = gone.text ++ part;
      told = took old gone.text gone.told;
      taken = Consumes-trans had mid left gone.text part gone.taken taken;
    }

pub gone_whole : (had mid left : Option (List ℕ)) {old buffer : List ℕ} {state : Spelled} → Keeps mid left → IsAtEnd left
    → Gone had mid old state buffer → IfSome had (λ (text : List ℕ). Told old text state buffer) × IsAtEnd left
gone_whole had mid left {old} {buffer} {state} kept ended gone =
    let all = Consumes-kept had mid left gone.text gone.taken kept in
    (Consumes-whole had left gone.text (λ (text : List ℕ). Told old text state buffer) all ended gone.told, ended)
