-- Step. Sums as code keeps them.
use Rattle.mrc_mig_tokens.specs.declared.sums.Sum.{Sum}
use Rattle.mrc_mig_tokens.specs.Sums.{Partial}

-- a sum that is being read
abbrev pub partial_of : Sum → Partial
partial_of sum = record {
  total = sum.total;
  subtracts = sum.subtracts;
  product = sum.product;
  divides = sum.divides;
}
