use Rattle.mrc_tests.proofs.running.seats_run_out.Given as goal

abbrev pub ghosts-has_run_out : goal.ghosts-has_run_out
ghosts-has_run_out g a = record { name = a.blank.name; parts = a.blank.parts }
