use Rattle.std.proofs.Common.{◌∙◌, arith}
use Rattle.std.proofs.lemmas.Bool.Decides.{nat_tests}
use Rattle.mrc_mig_symbols.proofs.WordLemmas.{word_of_length, no_word_of_length}
use Rattle.mrc_mig_symbols.proofs.word.word_of.Goals as goal

pub returns-in-2 : goal.returns-in-2
returns-in-2 c = c.word_in.ensures ∙ word_of_length c.args.text.now 2 c.in-2.is

pub returns-in-3 : goal.returns-in-3
returns-in-3 c = c.word_in-in-3.ensures ∙ word_of_length c.args.text.now 3 c.in-3.is

pub returns-in-4 : goal.returns-in-4
returns-in-4 c = c.word_in-in-4.ensures ∙ word_of_length c.args.text.now 4 c.in-4.is

pub returns-in-5 : goal.returns-in-5
returns-in-5 c = c.word_in-in-5.ensures ∙ word_of_length c.args.text.now 5 c.in-5.is

pub returns-in-6 : goal.returns-in-6
returns-in-6 c = c.word_in-in-6.ensures ∙ word_of_length c.args.text.now 6 c.in-6.is

pub returns-in-7 : goal.returns-in-7
returns-in-7 c = c.word_in-in-7.ensures ∙ word_of_length c.args.text.now 7 c.in-7.is

pub returns-in-8 : goal.returns-in-8
returns-in-8 c = c.word_in-in-8.ensures ∙ word_of_length c.args.text.now 8 c.in-8.is

pub returns-in-9 : goal.returns-in-9
returns-in-9 c = c.word_in-in-9.ensures ∙ word_of_length c.args.text.now 9 c.in-9.is

pub returns-in-10 : goal.returns-in-10
returns-in-10 c = c.word_in-in-10.ensures ∙ word_of_length c.args.text.now 10 c.in-10.is

pub returns-in-11 : goal.returns-in-11
returns-in-11 c = c.word_in-in-11.ensures ∙ word_of_length c.args.text.now 11 c.in-11.is

pub returns-in-12 : goal.returns-in-12
returns-in-12 c = c.word_in-in-12.ensures ∙ word_of_length c.args.text.now 12 c.in-12.is

pub returns-in-13 : goal.returns-in-13
returns-in-13 c = c.word_in-in-13.ensures ∙ word_of_length c.args.text.now 13 c.in-13.is

pub returns-in-15 : goal.returns-in-15
returns-in-15 c = c.word_in-in-15.ensures ∙ word_of_length c.args.text.now 15 c.in-15.is

pub returns-in_default : goal.returns-in_default
returns-in_default c = no_word_of_length c.args.text.now (grind (arith, nat_tests))
