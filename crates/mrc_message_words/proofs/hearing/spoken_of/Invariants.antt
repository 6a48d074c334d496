use Rattle.mrc_message_words.specs.Spoken.{NoneBefore}
use Rattle.mrc_message_words.proofs.hearing.spoken_of.Given as goal

abbrev pub invariant-loop-interface : goal.invariant-loop-interface
invariant-loop-interface l = NoneBefore l.interfaces l.message l.interface-index
