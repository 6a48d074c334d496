use Rattle.mrc_tests.proofs.running.a_journal_is_full.Given as goal

abbrev pub ghosts-end_of_files : goal.ghosts-end_of_files
ghosts-end_of_files g a = record { name = a.blank.name; parts = a.blank.parts }
