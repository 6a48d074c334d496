use Rattle.std.proofs.Common.{◌≡◌, map, take, string_bytes}
use Rattle.mrc_command.specs.CommandLine.{spelled}
use Rattle.mrc_command.proofs.words.all_spelled.Given as goal

abbrev pub invariant-loop-word : goal.invariant-loop-word
invariant-loop-word l =
    map string_bytes l.made.items
    ≡ map (λ word. spelled (string_bytes word)) (take l.word-index l.words)
