-- Step. What stands at the front of a text of edition 2. What stands at the front of a MIG text of
-- the second edition: the token of the first edition, or else a brace or a stray.
use Rattle.std.specs.Prelude.{ℕ, Bool, false, ◌&&◌, ◌==◌, nat_le, nat_lt, List, Some}
use Rattle.std.specs.Prelude.{option_map, Result, Ok, Err, if◌then◌else◌}
use Rattle.std.specs.List.{prefix_len}
use Rattle.std.specs.Char.{is_ascii_digit}
use Rattle.mrc_mig_lex.specs.declared.fault.LexFault.{LexFault}
use Rattle.mrc_mig_lex.specs.declared.fault.LexFault.TheVariants.{BadCharacter, OpenComment}
use Rattle.mrc_mig_lex.specs.declared.fault.LexFault.TheVariants.{NumberTooLarge}
use Rattle.mrc_mig_lex.specs.declared.piece.Piece.{Piece}
use Rattle.mrc_mig_lex.specs.Pieces.{piece_at}
use Rattle.mrc_mig_tokens.specs.declared.piece.Kind.{Kind}
use Rattle.mrc_mig_tokens.specs.declared.piece.Kind.TheVariants.{Plain, OpenBrace, CloseBrace}
use Rattle.mrc_mig_tokens.specs.declared.piece.Kind.TheVariants.{Stray}
use Rattle.mrc_mig_tokens.specs.declared.piece.Front.{Front}

-- a byte that goes on with a character of UTF-8
abbrev pub continues_character : ℕ → Bool
continues_character c = nat_le 128 c && nat_lt c 192

-- a token of this kind, with so many bytes after its first
abbrev pub stray : Kind → ℕ → Front
stray kind more = record { kind = Some kind; more = more; fresh = false }

-- what stands there in the first edition too
abbrev pub kept : Piece → Front
kept piece = record {
  kind = option_map Plain piece.kind;
  more = piece.more;
  fresh = piece.fresh;
}

-- what a character is with which no token of the first edition begins
abbrev pub odd_kind : ℕ → Kind
odd_kind first = if first == 123 then OpenBrace else if first == 125 then CloseBrace else Stray

-- what stands there, by what the first edition has there
abbrev pub front_by : Result Piece LexFault → ℕ → List ℕ → Result Front LexFault
front_by (Ok piece) first rest = Ok (kept piece)
front_by (Err (BadCharacter at)) first rest =
    Ok (stray (odd_kind first) (prefix_len continues_character rest))
front_by (Err (NumberTooLarge at)) first rest = Ok (stray Stray (prefix_len is_ascii_digit rest))
front_by (Err (OpenComment at)) first rest = Err (OpenComment at)

-- What stands at the front of a text that begins with this character. at: its place in the whole
-- text. fresh: only blanks stand before it on its line.
unfoldable pub front_at : ℕ → Bool → ℕ → List ℕ → Result Front LexFault
front_at at fresh first rest = front_by (piece_at at fresh first rest) first rest
