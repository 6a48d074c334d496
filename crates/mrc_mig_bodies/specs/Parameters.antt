-- Believe. An argument of a routine, whatever lies where in memory.
use Rattle.std.specs.Prelude.{ℕ, List, Bool, Option}
use Rattle.mrc_mig_arguments.specs.declared.argument.Argument.{Argument}
use Rattle.mrc_mig_arguments.specs.declared.argument.Role.{Role}
use Rattle.mrc_mig_types.specs.declared.meaning.Meaning.{Meaning}

-- the word in front of it, its name, its type's name, what that type means if it is known, whether
-- it asks for its count, and its places: a place is how many tokens are left there
pub record Parameter : Type 0 where
  pub role : Role
  pub name : List ℕ
  pub type_name : List ℕ
  pub meaning : Option Meaning
  pub counts : Bool
  pub at : ℕ
  pub name_at : ℕ
  pub type_at : ℕ

-- an argument as it is written
abbrev pub parameter_of : Argument → Parameter
parameter_of a = record {
  role = a.role;
  name = a.name.now;
  type_name = a.type_name.now;
  meaning = a.meaning;
  counts = a.counts;
  at = a.at;
  name_at = a.name_at;
  type_at = a.type_at;
}
