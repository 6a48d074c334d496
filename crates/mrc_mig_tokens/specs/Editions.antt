-- Believe. Which texts are of which edition. The editions of MIG files, and the line that names
-- one:
-- this profile's own choice.
use Rattle.std.specs.Prelude.{ℕ, zero, suc, ◌+◌, List, [], ◌∷◌, take, Bool, true, false, Option}
use Rattle.std.specs.Prelude.{Some}
use Rattle.std.specs.Prelude.{None, Result, Ok, Err, codes, if◌then◌else◌}
use Rattle.mrc_mig_lex.specs.declared.fault.LexFault.{LexFault}
use Rattle.mrc_mig_lex.specs.declared.piece.Piece.{Piece}
use Rattle.mrc_mig_lex.specs.declared.token.TokenKind.{TokenKind}
use Rattle.mrc_mig_lex.specs.declared.token.TokenKind.TheVariants.{Directive}
use Rattle.mrc_mig_lex.specs.Pieces.{piece_at}
use Rattle.mrc_mig_symbols.specs.Directives.{is_blank, without_blanks, after_bytes, included}
use Rattle.mrc_mig_symbols.specs.declared.directive.Directive.{Directive as Line}
use Rattle.mrc_mig_symbols.specs.declared.directive.Directive.TheVariants as lines
use Rattle.mrc_mig_tokens.specs.declared.edition.Edition.{Edition}
use Rattle.mrc_mig_tokens.specs.declared.edition.Edition.TheVariants.{First, Second, Received}

-- the later of two editions
abbrev pub stronger : Edition → Edition → Edition
stronger Received other = Received
stronger Second Received = Received
stronger Second other = Second
stronger First other = other

-- what follows spaces and tabs, of which there is one at least
abbrev pub after_blanks : List ℕ → Option (List ℕ)
after_blanks [] = None
after_blanks (b ∷ line) = if is_blank b then Some (without_blanks line) else None

-- what follows a word, where there is one, and blanks
abbrev pub blanks_behind : Option (List ℕ) → Option (List ℕ)
blanks_behind None = None
blanks_behind (Some line) = after_blanks line

-- what follows this word and blanks
abbrev pub after_word : List ℕ → List ℕ → Option (List ℕ)
after_word word line = blanks_behind (after_bytes word line)

-- an include
abbrev pub is_include : Line → Bool
is_include lines.Include = true
is_include _ = false

-- only spaces, tabs, carriage returns and whole comments are left: what may stand behind the one
-- include
unfoldable pub is_over : List ℕ → Bool
is_over line = is_include (included (Some line))

-- as received, where only spaces, tabs, carriage returns and whole comments are left
abbrev pub received_by : Option (List ℕ) → Edition
received_by None = First
received_by (Some line) = if is_over line then Received else First

-- `received` and then nothing, behind blanks
abbrev pub behind_blanks : Option (List ℕ) → Edition
behind_blanks None = First
behind_blanks (Some line) = received_by (after_bytes (codes "received") line)

-- behind the number: nothing, or blanks and `received`
abbrev pub behind_number : List ℕ → Edition
behind_number line =
    if is_over line then Second else behind_blanks (after_blanks line)

-- the number 2, behind `machcheck` and blanks
abbrev pub number_by : Option (List ℕ) → Edition
number_by None = First
number_by (Some line) = behind_number line

-- the edition of a line with this behind `machcheck` and blanks
abbrev pub behind_machcheck : List ℕ → Edition
behind_machcheck line = number_by (after_bytes (codes "2") line)

-- the same, where that word stands
abbrev pub machcheck_by : Option (List ℕ) → Edition
machcheck_by None = First
machcheck_by (Some line) = behind_machcheck line

-- `machcheck` and so on, behind `pragma` and blanks
abbrev pub pragma_by : Option (List ℕ) → Edition
pragma_by None = First
pragma_by (Some line) = machcheck_by (after_word (codes "machcheck") line)

-- `pragma` and so on, behind the `#`
abbrev pub hash_by : Option (List ℕ) → Edition
hash_by None = First
hash_by (Some line) = pragma_by (after_word (codes "pragma") (without_blanks line))

-- the edition that a line names: `#pragma machcheck 2`, with blanks between the words and
-- `received` behind them or not, and then blanks and whole comments alone. Any other line names the
-- first.
unfoldable pub line_edition : List ℕ → Edition
line_edition line = hash_by (after_bytes (codes "#") line)

-- The edition of a text that goes on with a piece, by the edition so far and that of what follows
-- the piece: a blank or a comment leaves it, a line of the preprocessor may name another, and it is
-- settled at any other token and where there is none.
abbrev pub edition_by : Option TokenKind → List ℕ → Edition → (Edition → Edition) → Edition
edition_by None bytes so_far later = later so_far
edition_by (Some Directive) bytes so_far later = later (stronger so_far (line_edition bytes))
edition_by (Some kind) bytes so_far later = so_far

-- the same of what is read there
abbrev pub edition_at : Result Piece LexFault → ℕ → List ℕ → Edition
    → (ℕ → Bool → Edition → Edition) → Edition
edition_at (Ok piece) first rest so_far later =
    edition_by piece.kind (first ∷ take piece.more rest) so_far (later piece.more piece.fresh)
edition_at (Err fault) first rest so_far later = so_far

-- The edition of what is left of a text from this place on, of which so many bytes still belong to
-- the piece before. fresh: only blanks stand before it on its line.
abbrev pub edition_from : ℕ → Bool → ℕ → Edition → List ℕ → Edition
edition_from left fresh at so_far [] = so_far
edition_from (suc left) fresh at so_far (c ∷ rest) = edition_from left fresh (at + 1) so_far rest
edition_from zero fresh at so_far (c ∷ rest) =
    edition_at (piece_at at fresh c rest) c rest so_far
    (λ more fresh found. edition_from more fresh (at + 1) found rest)

-- which edition a text is of: the latest that a line of the preprocessor names before the first
-- token that is no such line
abbrev pub edition_of : List ℕ → Edition
edition_of text = edition_from 0 true 0 First text
