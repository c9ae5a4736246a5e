-- `predicts::predict` meets its contract: the walk with FOLLOW of the left side behind it finds the predict set.
use Rattle.predicts.specs.Predicts.{predict_found}
use Rattle.predicts.proofs.predict.Goals as goal

pub returns : goal.returns
returns c =
    predict_found c.rules.ensures.exact.asked c.rules.ensures.exact.exact c.requires.follows_of c.requires.p_bound
    (rw c.rules.ensures.rules at c.left_of-k.ensures.left) (rw c.from.ensures at c.first_with.ensures)
