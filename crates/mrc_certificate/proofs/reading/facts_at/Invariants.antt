use Rattle.std.proofs.Common.{◌≡◌, ◌+◌, ◌*◌, None}
use Rattle.mrc_facts.specs.Sets.{IsAscending}
use Rattle.mrc_certificate.specs.Reading.{facts_at}
use Rattle.mrc_certificate.proofs.Ends.{Left}
use Rattle.mrc_certificate.proofs.reading.facts_at.Given as goal

abbrev pub invariant-loop : goal.invariant-loop
invariant-loop l = record {
  left : Left l.tasks l.classes l.count l.counter l.at l.before l.facts l.rest
      (facts_at l.tasks l.classes l.count l.first None l.bytes);
  place : l.at ≡ l.first + 6 * l.counter;
  ascending : IsAscending l.facts;
}
