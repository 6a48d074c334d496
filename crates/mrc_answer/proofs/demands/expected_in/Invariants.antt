-- Those of the holdings so far.
use Rattle.std.proofs.Common.{◌≡◌, ◌≤◌, take, length}
use Rattle.std.specs.Prelude.{filter}
use Rattle.mrc_answer.specs.Expected.{is_expected}
use Rattle.mrc_answer.proofs.demands.expected_in.Given as goal

abbrev pub invariant-loop-one : goal.invariant-loop-one
invariant-loop-one l = record {
  counted : l.count ≡ length (filter is_expected (take l.one-index l.asked));
  few : l.count ≤ l.one-index;
}
