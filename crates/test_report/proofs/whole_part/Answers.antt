-- `test_report::whole_part` is safe: the call asks that x is above -1 and below 2 ^ 64, which the two tests say.
use Rattle.std.proofs.Common.{T, sym, subst}
use lib.Ieee.{of_bits, neg}
use Rattle.test_report.proofs.whole_part.Goals as goal

pub truncating_f64_to_u64-requires : goal.truncating_f64_to_u64-requires
unfolding of_bits neg
truncating_f64_to_u64-requires c = record {
  lower_bound = subst T (sym c.if-x.true) tt;
  upper_bound = subst T (sym c.if-x-2.true) tt;
}
