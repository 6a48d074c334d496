-- Believe. The names that rows have taken, as a test.
use Rattle.std.specs.Prelude.{ℕ, List, Bool, true, false, is_some, if◌then◌else◌}
use Rattle.std.specs.BTreeMap.{get_by}
use Rattle.std.specs.Cmp.Lexicographic.{slice_cmp}
use Rattle.std.specs.Ordering.{nat_cmp}
use Rattle.std.specs.Str.{bytes_eq}
use Rattle.mrc_mig_rows.specs.declared.names.TakenNames.{TakenNames}

-- a name is taken
abbrev pub Names : Type 0
Names = List ℕ → Bool

-- none is
abbrev pub none_taken : Names
none_taken = λ name. false

-- one more is
abbrev pub with_name : Names → List ℕ → Names
with_name names name = λ other. if bytes_eq name other then true else names other

-- what code keeps
abbrev pub names_of : TakenNames → Names
names_of names = λ name. is_some (get_by (λ k. slice_cmp nat_cmp name k.now) names.taken)
