use Rattle.std.proofs.Common.{◌≡◌, take}
use Rattle.std.specs.Prelude.{filter}
use Rattle.mrc_facts.specs.Sets.{has}
use Rattle.mrc_answer.specs.LeakyLines.{is_leak, all_rights}
use Rattle.mrc_answer.proofs.leaky_lines.leaks_of.Given as goal

-- the rights so far that are leaks
abbrev pub invariant-loop-right : goal.invariant-loop-right
invariant-loop-right l = record {
  rights : l.rights.items
      ≡ filter (is_leak (has l.facts) (has l.forbidden) l.line) (take l.right-index l.right-items);
  all : l.right-items ≡ all_rights;
}
