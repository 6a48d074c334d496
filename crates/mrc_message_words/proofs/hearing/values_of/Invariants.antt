use Rattle.std.proofs.Common.{take}
use Rattle.mrc_desc.specs.View.{arguments_of}
use Rattle.mrc_message_words.specs.Values.{AreValues}
use Rattle.mrc_message_words.proofs.hearing.values_of.Given as goal

abbrev pub invariant-loop-i : goal.invariant-loop-i
invariant-loop-i l =
    AreValues (take l.i l.arguments) l.values.items (arguments_of (take l.i l.args))
