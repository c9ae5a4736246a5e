-- `Strings::spell` meets its contract: the tables of the struct are what spelling asks for.
use Rattle.std.proofs.Common.{sym, subst}
use Rattle.strings.specs.Ready.{CanWrite}
use Rattle.strings.proofs.Tables.{can_spell}
use Rattle.strings.proofs.Strings.spell.Goals as goal

pub spell-requires : goal.spell-requires
spell-requires c =
    can_spell c.self.invariant
    (subst (λ t. CanWrite t c.args.symbol c.args.raise c.args.tokens.now c.args.at) (sym c.self.view_is) c.requires)
