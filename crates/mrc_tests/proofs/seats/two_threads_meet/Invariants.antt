use Rattle.mrc_tests.proofs.seats.two_threads_meet.Given as goal

abbrev pub ghosts-met_at_new : goal.ghosts-met_at_new
ghosts-met_at_new g a = record { name = a.blank.name; parts = a.blank.parts }
