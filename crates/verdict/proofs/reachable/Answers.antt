-- `verdict::reachable` meets its contract: the set is exact, so that it tells whether all are in it.
use Rattle.base.specs.Telling.{tells_as}
use Rattle.mentions.specs.Reaching.{reach_exact, spent_blank}
use Rattle.verdict.proofs.reachable.Goals as goal

pub gather-requires : goal.gather-requires
gather-requires c = record {
  clear = c.requires.clear;
  wide = c.requires.wide;
  blank = c.requires.blank;
}

pub returns : goal.returns
returns c =
    let exact = reach_exact c.gather.ensures.uses_of c.reach.ensures.reached in
    record {
      gathered = c.gather.ensures.mentions_of;
      tells = tells_as (λ f k h. (exact k).0 (f k h)) (λ f k h. (exact k).1 (f k h)) c.covers.ensures;
      blank = λ e.
          spent_blank c.gather.ensures.uses_of _ c.requires.shaped (c.covers.ensures.yes e) c.reach.ensures.spent c.gather.ensures.fits;
    }
