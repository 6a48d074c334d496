use Rattle.std.proofs.Common.{◌≡◌, ◌++◌, drop}
use Rattle.std.specs.List.{flat_map}
use Rattle.mrc_model.specs.Message.{word}
use Rattle.mrc_desc.proofs.writing.put_words.Given as goal

abbrev pub invariant-loop-name : goal.invariant-loop-name
invariant-loop-name l = l.out.items ++ flat_map word (drop l.name-index l.names) ≡ l.fn.out.items
    ++ flat_map word l.names
