use Rattle.std.proofs.Common.{◌≡◌, ◌≤◌, ◌+◌, ◌++◌, length, take}
use Rattle.std.proofs.Common.{string_bytes, string_capacity, string_len}
use Rattle.std.specs.Str.{chars}
use Rattle.mrc_command.specs.Lines.{shown_bytes}
use Rattle.mrc_command.proofs.told.push_shown.Given as goal

abbrev pub invariant-loop-c : goal.invariant-loop-c
invariant-loop-c l =
    (string_bytes l.text
    ≡ string_bytes l.initial.text ++ shown_bytes (take (length l.yielded) (chars l.name)))
    × (string_len l.text
    ≡ string_len l.initial.text + length (shown_bytes (take (length l.yielded) (chars l.name))))
    × (string_capacity l.initial.text ≤ string_capacity l.text)
