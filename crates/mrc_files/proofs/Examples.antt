-- Paths, part files and counts worked out.
use Rattle.std.proofs.Common.{◌≡◌, ◌⊎◌, ℕ, List, [], ◌∷◌, ◌++◌, Some, None, refl, inl, inr, arith}
use Rattle.std.specs.Prelude.{codes, decimal}
use Rattle.mrc_files.specs.Files.{Held, KeepsOthers}
use Rattle.mrc_files.specs.Paths.{folder, name, linked, part}
use Rattle.mrc_files.specs.Streams.{IsOneMore, IsAtMostMore}

-- a name of a folder, of the root and of the folder that the program runs in
in_a_folder : folder (codes "a/b/c") ≡ codes "a/b/"
in_a_folder = refl

its_name : name (codes "a/b/c") ≡ codes "c"
its_name = refl

in_the_root : folder (codes "/c") ≡ codes "/"
in_the_root = refl

in_no_folder : folder (codes "c") ≡ []
in_no_folder = refl

-- what ends with a slash has no name
no_name : name (codes "a/") ≡ []
no_name = refl

-- a target is relative to the link's folder, unless it begins with a slash
relative : linked (codes "a/link") (codes "../b/c") ≡ codes "a/../b/c"
relative = refl

absolute : linked (codes "a/link") (codes "/b/c") ≡ codes "/b/c"
absolute = refl

-- the part file of a certificate by its number
of_a_certificate : (n : ℕ)
    → part (codes "a/my.cert") n ≡ codes "a/.my.cert.machcheck-" ++ (decimal n ++ codes ".part")
of_a_certificate n = refl

-- the fourth call, after which no more than five were made; two at once are not one
fourth : IsOneMore (Some 3) (Some 4)
fourth = refl

not_two : IsOneMore (Some 3) (Some 5) → ⊥
not_two e = omega arith

two_of_five : IsAtMostMore (Some 3) (Some 5) 5
two_of_five = omega arith

-- a count that was lost stays so
lost : IsOneMore None (Some 4) → ⊥
lost e = e

-- a folder in which all names lead to one file, except the empty name, which has a file of its own
abbrev two_files : (own file : List ℕ) → Held
two_files own file [] = Some own
two_files own file (byte ∷ name) = Some file

-- the one file is written by one of its names: the others have its bytes too, and the file of its
-- own keeps what it had
links_follow : (own old new : List ℕ)
    → KeepsOthers (two_files own old) (two_files own new) (codes "a")
links_follow own old new [] = inl refl
links_follow own old new (byte ∷ name) = inr (refl, refl)

-- if the other is emptied too, it is not kept
not_both : (own new : ℕ)
    → KeepsOthers (two_files (own ∷ []) []) (two_files [] (new ∷ [])) (codes "a")
    → ⊥
not_both own new kept = by (kept [])
  where
    by : (Some [] ≡ Some (own ∷ []))
        ⊎ ((Some (own ∷ []) ≡ Some []) × (Some [] ≡ Some (new ∷ [])))
        → ⊥
    by (inl e) = cc
    by (inr both) = let e = both.0 in cc
