-- Listing the names of a space one after the other.
use Rattle.std.proofs.Common.{◌≡◌, ℕ, ◌+◌, ◌<◌, ◌≤◌, ◌^◌, T, List, [], ◌∷◌, ◌++◌, length, map}
use Rattle.std.proofs.Common.{Some, sym, ap, subst, arith}
use Rattle.std.proofs.Common.{length-append}
use Rattle.std.proofs.lemmas.List.{length-map}
use Rattle.std.specs.List.{AllByRecursion}
use Rattle.mrc_base.specs.Limits.{limit_of_names}
use Rattle.mrc_model.specs.declared.Entry.{Entry}
use Rattle.mrc_model.specs.Rising.{is_rising, right_holds, find_key}
use Rattle.mrc_model.specs.Map.{len, get}
use Rattle.mrc_model.specs.World.{Space}
use Rattle.mrc_model.proofs.Maps.{find_here, Each-rest}
use Rattle.mrc_names.specs.declared.listing.NamedType.{NamedType}
use Rattle.mrc_names.specs.Bounds.{IsBounded}
use Rattle.mrc_names.specs.Listings.{name_of, names_of, entry_name}

-- of these entries the rest is still to be listed
pub record IsListed (all rest : List (ℕ × Entry)) (names : List NamedType) : Type 0 where
  pub listed : names_of names ++ map entry_name rest ≡ map entry_name all
  pub short : AllByRecursion (λ (e : ℕ × Entry). e.0 < 2 ^ 32) rest

all_short : (low : ℕ) (es : List (ℕ × Entry))
    → T (is_rising low es)
    → ((k : ℕ) (v : Entry) → find_key k es ≡ Some v → k < 2 ^ 32)
    → AllByRecursion (λ (e : ℕ × Entry). e.0 < 2 ^ 32) es
all_short low [] r h = tt
all_short low (e ∷ es) r h = (
  h e.0 e.1 (find_here e es),
  all_short (e.0 + 1) es (right_holds _ _ r) (Each-rest (λ k v. k < 2 ^ 32) low e es r h),
)

-- at the start all are
pub none_listed : (x : Space) (es : List (ℕ × Entry)) (names : List NamedType)
    → IsBounded x
    → es ≡ x.list
    → names ≡ []
    → IsListed es es names
unfolding get
none_listed x es names b is none = record {
  listed = ap (λ l. names_of l ++ map entry_name es) none;
  short =
      subst (AllByRecursion (λ (e : ℕ × Entry). e.0 < 2 ^ 32)) (sym is)
      (all_short 0 x.list x.rising b.short);
}

-- there are no more names than entries
pub listed_few : (x : Space) (all rest : List (ℕ × Entry)) (names : List NamedType)
    → IsBounded x
    → all ≡ x.list
    → IsListed all rest names
    → length names ≤ limit_of_names
unfolding len
listed_few x all rest names b is l =
    let few = b.few in
    let same : length all ≡ length x.list = ap length is in
    let count : length (names_of names ++ map entry_name rest) ≡ length (map entry_name all) =
    ap length l.listed in
    let both = length-append (names_of names) (map entry_name rest) in
    let left = length-map names name_of in
    let right = length-map all entry_name in
    omega arith
