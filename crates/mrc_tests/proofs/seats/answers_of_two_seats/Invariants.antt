use Rattle.mrc_tests.proofs.seats.answers_of_two_seats.Given as goal

abbrev pub ghosts-answers_of_new : goal.ghosts-answers_of_new
ghosts-answers_of_new g a = record { name = a.blank.name; parts = a.blank.parts }
