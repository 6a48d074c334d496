use Rattle.std.proofs.Common.{◌≤◌, take, length}
use Rattle.std.specs.List.{AllByRecursion}
use Rattle.mrc_desc.specs.Lawful.{IsLawfulArg}
use Rattle.mrc_desc.specs.View.{arguments_of}
use Rattle.mrc_message_words.specs.Values.{AreValues}
use Rattle.mrc_message_words.proofs.speaking.arguments_of.Given as goal

abbrev pub invariant-loop-i : goal.invariant-loop-i
invariant-loop-i l = record {
  said : AreValues (take l.i l.arguments) (take l.i l.values) (arguments_of l.args.items);
  lawful : AllByRecursion IsLawfulArg (arguments_of l.args.items);
  within : l.i ≤ length l.values;
}
