-- Worked. Facts and sets. Worked values of the order of facts and of sets of facts.
use Rattle.std.specs.Prelude.{◌≡◌, true, false, List, [], ◌∷◌, None, Some, refl}
use Rattle.mrc_base.specs.declared.Fact.{Fact}
use Rattle.mrc_base.specs.declared.Fact.TheVariants.{Hold, Carry, Backup}
use Rattle.mrc_base.specs.declared.PortRight.TheVariants.{Send, Receive, SendOnce}
use Rattle.mrc_facts.specs.Order.{fact_bytes, is_before}
use Rattle.mrc_facts.specs.Sets.{has, with_fact, first, after, are_ascending}

-- a hold's bytes
bytes_of_a_hold : fact_bytes (Hold 0 1 Receive) ≡ 1 ∷ 0 ∷ 0 ∷ 0 ∷ 1 ∷ 1 ∷ []
bytes_of_a_hold = refl

-- a carry's bytes, high byte first
bytes_of_a_carry : fact_bytes (Carry 258 772 SendOnce) ≡ 2 ∷ 1 ∷ 2 ∷ 3 ∷ 4 ∷ 2 ∷ []
bytes_of_a_carry = refl

-- a backup's bytes, which end in 0
bytes_of_a_backup : fact_bytes (Backup 65535 7) ≡ 3 ∷ 255 ∷ 255 ∷ 0 ∷ 7 ∷ 0 ∷ []
bytes_of_a_backup = refl

-- numbers are compared as numbers, so the high byte decides first
high_bytes_come_first : is_before (Hold 255 9 SendOnce) (Hold 256 0 Send) ≡ true
high_bytes_come_first = refl

-- the kind decides first
holds_come_before_carries : is_before (Hold 9 9 SendOnce) (Carry 0 0 Send) ≡ true
holds_come_before_carries = refl

-- the facts of a task alone
abbrev four : List Fact
four = Hold 0 0 Send ∷ Hold 0 1 Send ∷ Hold 0 1 Receive ∷ Hold 0 1 SendOnce ∷ []

-- they stand in their order
four_ascend : are_ascending four ≡ true
four_ascend = refl

-- whichever is put in first
four_inserted : with_fact (with_fact (with_fact (with_fact [] (Hold 0 1 SendOnce))
    (Hold 0 0 Send)) (Hold 0 1 Receive)) (Hold 0 1 Send) ≡ four
four_inserted = refl

-- the least of them
least_of_four : first four ≡ Some (Hold 0 0 Send)
least_of_four = refl

-- the next one after a fact that is not among them
after_one_that_is_absent : after four (Hold 0 0 SendOnce) ≡ Some (Hold 0 1 Send)
after_one_that_is_absent = refl

-- nothing comes after the last
after_the_last : after four (Hold 0 1 SendOnce) ≡ None
after_the_last = refl

-- a fact that is not among them
absent : has four (Hold 1 0 Send) ≡ false
absent = refl
