use Rattle.std.proofs.Common.{◌≡◌, ◌*◌, ◌^◌, ◌<◌, ◌++◌, ◌-◌, length}
use Rattle.std.specs.List.{flat_map, AllByRecursion}
use Rattle.mrc_message_words.specs.Values.{number_bytes}
use Rattle.mrc_message_words.proofs.numbers.numbers_at.Given as goal

abbrev pub invariant-loop : goal.invariant-loop
invariant-loop l = record {
  count : length l.numbers.items ≡ l.counter;
  back : flat_map (number_bytes l.width) l.numbers.items ++ l.rest ≡ l.bytes;
  left : length l.rest ≡ (l.count - l.counter) * l.width;
  fits : AllByRecursion (λ number. number < 2 ^ (8 * l.width)) l.numbers.items;
}
