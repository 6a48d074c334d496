-- The words `kernelserver` and `kerneluser`, and types that are declared in turn.
use Rattle.std.proofs.Common.{◌≡◌, ℕ, ◌+◌, ◌<◌, ◌≤◌, true, false, List, [], ◌∷◌, ◌++◌, length, map}
use Rattle.std.proofs.Common.{drop, get_or, Option, None, Some, Bool, cond, Bor, refl, ap, sym, ◌∙◌}
use Rattle.std.proofs.Common.{add-one, drop-cons, arith}
use Rattle.std.proofs.lemmas.List.{drop_all}
use Rattle.mrc_mig_lex.specs.Tokens.{Lexeme}
use Rattle.mrc_forms.specs.declared.shape.Shape.{Shape}
use Rattle.mrc_mig_symbols.specs.Symbols.{◌>>=◌, first_of, tail_of}
use Rattle.mrc_mig_parse.specs.Files.{after_sides, is_side, one, is_declared, declared_with}
use Rattle.mrc_mig_parse.specs.Files.{declared_with_all}

-- one word further
pub sides_go_on : (tokens : List Lexeme) → is_side (first_of tokens) ≡ true
    → after_sides tokens ≡ after_sides (tail_of tokens)
unfolding after_sides first_of tail_of
sides_go_on [] e = absurd cc
sides_go_on (token ∷ tokens) e = rw e refl

-- none of the words comes next
pub sides_end : (tokens : List Lexeme) → is_side (first_of tokens) ≡ false
    → after_sides tokens ≡ tokens
unfolding after_sides first_of
sides_end [] e = refl
sides_end (token ∷ tokens) e = rw e refl

-- fewer tokens are left behind one
pub side_is_shorter : (tokens : List Lexeme) → is_side (first_of tokens) ≡ true
    → length (tail_of tokens) < length tokens
unfolding first_of tail_of
side_is_shorter [] e = absurd cc
side_is_shorter (token ∷ tokens) e = omega arith

-- a row of the table of the include line
abbrev pub row_of : Bor (List ℕ) × ℕ × ℕ → List ℕ × Shape
row_of entry = (entry.0.now, one entry.1 entry.2)

-- one type of the table, and those behind it
pub declares_at : (types : List (List ℕ × Shape)) (table : List (Bor (List ℕ) × ℕ × ℕ)) (i : ℕ)
    (d : Bor (List ℕ) × ℕ × ℕ) → i < length table
    → declared_with_all types (map row_of (drop i table))
    ≡ (declared_with types (row_of (get_or table i d)).0 (row_of (get_or table i d)).1
    >>= λ more. declared_with_all more (map row_of (drop (i + 1) table)))
unfolding declared_with_all
declares_at types table i d lt = rw (add-one, drop-cons table i d) refl

-- no type is left
pub declares_no_more : (types : List (List ℕ × Shape)) (table : List (Bor (List ℕ) × ℕ × ℕ)) (i : ℕ)
    → length table ≤ i → declared_with_all types (map row_of (drop i table)) ≡ Some types
unfolding declared_with_all
declares_no_more types table i le = rw (drop_all i table le) refl

-- a type that is not yet declared, and those behind it
pub declares_on : (types more : List (List ℕ × Shape)) (table : List (Bor (List ℕ) × ℕ × ℕ)) (i : ℕ)
    (d : Bor (List ℕ) × ℕ × ℕ) (total : Option (List (List ℕ × Shape))) → i < length table
    → is_declared (get_or table i d).0.now types ≡ false
    → more ≡ types ++ row_of (get_or table i d) ∷ []
    → declared_with_all types (map row_of (drop i table)) ≡ total
    → declared_with_all more (map row_of (drop (i + 1) table)) ≡ total
declares_on types more table i d total lt new is so_far =
    rw is (sym (declares_at types table i d lt
    ∙ ap (λ (b : Bool). cond b None (Some (types ++ row_of (get_or table i d) ∷ []))
    >>= λ more. declared_with_all more (map row_of (drop (i + 1) table))) new) ∙ so_far)

-- a type that is declared already
pub declares_twice : (types : List (List ℕ × Shape)) (table : List (Bor (List ℕ) × ℕ × ℕ)) (i : ℕ)
    (d : Bor (List ℕ) × ℕ × ℕ) (total : Option (List (List ℕ × Shape))) → i < length table
    → is_declared (get_or table i d).0.now types ≡ true
    → declared_with_all types (map row_of (drop i table)) ≡ total → total ≡ None
declares_twice types table i d total lt old so_far =
    sym so_far ∙ (declares_at types table i d lt
    ∙ ap (λ (b : Bool). cond b None (Some (types ++ row_of (get_or table i d) ∷ []))
    >>= λ more. declared_with_all more (map row_of (drop (i + 1) table))) old)
