-- The fields of a struct, read one behind the other.
use Rattle.std.proofs.Common.{◌≡◌, ℕ, ◌+◌, ◌-◌, ◌<◌, ◌≤◌, List, [], ◌∷◌, ◌++◌, true, false, Option}
use Rattle.std.proofs.Common.{Result, Ok, Err, length, sym, ap, ◌∙◌}
use Rattle.mrc_base.specs.Reading.{◌>>=◌}
use Rattle.mrc_mig_symbols.specs.declared.fault.Stop.{Stop}
use Rattle.mrc_mig_tokens.specs.Tokens.{Token}
use Rattle.mrc_mig_tokens.specs.Reading.{many}
use Rattle.mrc_mig_tokens.proofs.LoopLemmas.{many_ends, many_goes_on, many_done}
use Rattle.mrc_mig_types.specs.declared.meaning.Meaning.{Meaning}
use Rattle.mrc_mig_types.specs.Reading.{Read, field_at, goes_on, more_at, each_field_at}
use Rattle.mrc_mig_types.specs.Table.{Known, type_of}

-- one field more that is read, behind others
pub more_is : (types : Known) (fields : List (Option Meaning)) (tokens rest : List Token)
    (name : List ℕ) → field_at tokens ≡ Ok (name, rest)
    → more_at types (fields, tokens) ≡ Ok (fields ++ type_of types name ∷ [], rest)
unfolding more_at
more_is types fields tokens rest name e =
    ap (λ r. r >>= λ field. Ok (fields ++ type_of types field.0 ∷ [], field.1)) e

-- and one that is not
pub more_stops : (types : Known) (fields : List (Option Meaning)) (tokens : List Token)
    (stop : Stop) → field_at tokens ≡ Err stop → more_at types (fields, tokens) ≡ Err stop
unfolding more_at
more_stops types fields tokens stop e =
    ap (λ r. r >>= λ field. Ok (fields ++ type_of types field.0 ∷ [], field.1)) e

-- the first field, and the others
pub first_read : (types : Known) (tokens : List Token) (first : Read)
    → more_at types ([], tokens) ≡ Ok first
    → many goes_on (more_at types) (length first.1) first ≡ each_field_at types tokens
unfolding each_field_at
first_read types tokens first e =
    sym (ap (λ r. r >>= λ (f : Read). many goes_on (more_at types) (length f.1) f) e)

pub first_stops : (types : Known) (tokens : List Token) (stop : Stop)
    → more_at types ([], tokens) ≡ Err stop → each_field_at types tokens ≡ Err stop
unfolding each_field_at
first_stops types tokens stop e =
    ap (λ r. r >>= λ (f : Read). many goes_on (more_at types) (length f.1) f) e

-- one field more of many
pub one_of_many : (types : Known) (count i : ℕ) (read after : Read) (all : Result Read Stop)
    → i < count → goes_on read ≡ true → more_at types read ≡ Ok after
    → many goes_on (more_at types) (count - i) read ≡ all
    → many goes_on (more_at types) (count - (i + 1)) after ≡ all
one_of_many types count i read after all below goes e so_far =
    let on = many_goes_on goes_on (more_at types) count i read below goes in
    sym (on ∙ ap (λ r. r >>= λ b. many goes_on (more_at types) (count - (i + 1)) b) e) ∙ so_far

-- and one that is not read
pub none_of_many : (types : Known) (count i : ℕ) (read : Read) (stop : Stop)
    (all : Result Read Stop) → i < count → goes_on read ≡ true → more_at types read ≡ Err stop
    → many goes_on (more_at types) (count - i) read ≡ all → all ≡ Err stop
none_of_many types count i read stop all below goes e so_far =
    let on = many_goes_on goes_on (more_at types) count i read below goes in
    sym so_far ∙ on
    ∙ ap (λ r. r >>= λ b. many goes_on (more_at types) (count - (i + 1)) b) e

-- no more fields
pub end_of_many : (types : Known) (n : ℕ) (read : Read) (all : Result Read Stop)
    → goes_on read ≡ false → many goes_on (more_at types) n read ≡ all → all ≡ Ok read
end_of_many types n read all ends so_far =
    sym so_far ∙ many_ends goes_on (more_at types) n read ends

pub last_of_many : (types : Known) (count i : ℕ) (read : Read) (all : Result Read Stop)
    → count ≤ i → many goes_on (more_at types) (count - i) read ≡ all → all ≡ Ok read
last_of_many types count i read all le so_far =
    sym so_far ∙ many_done goes_on (more_at types) count i read le
