use Rattle.mrc_tests.proofs.seats.a_waiting_receive_wakes.Given as goal

abbrev pub ghosts-woken_at_new : goal.ghosts-woken_at_new
ghosts-woken_at_new g a = record { name = a.blank.name; parts = a.blank.parts }
