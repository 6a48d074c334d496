use Rattle.mrc_tests.proofs.running.seats_come_back.Given as goal

abbrev pub ghosts-ran_at_new : goal.ghosts-ran_at_new
ghosts-ran_at_new g a = record { name = a.blank.name; parts = a.blank.parts }
