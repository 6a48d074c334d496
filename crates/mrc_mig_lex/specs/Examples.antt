-- Worked. Tokens. Worked examples of the tokens of a MIG subsystem text, by computation; the texts
-- are this profile's own choice.
use Rattle.std.specs.Prelude.{◌≡◌, ℕ, List, [], ◌∷◌, ◌++◌, Result, Ok, Err, refl, codes, map}
use Rattle.mrc_base.specs.Reading.{◌>>=◌}
use Rattle.mrc_mig_lex.specs.declared.token.TokenKind.{TokenKind}
use Rattle.mrc_mig_lex.specs.declared.token.TokenKind.TheVariants.{Name, Number, Text, Header, Sign}
use Rattle.mrc_mig_lex.specs.declared.token.TokenKind.TheVariants.{Directive}
use Rattle.mrc_mig_lex.specs.declared.token.Sign.TheVariants.{Semicolon, Colon, OpenBracket}
use Rattle.mrc_mig_lex.specs.declared.token.Sign.TheVariants.{CloseBracket, Star, Slash}
use Rattle.mrc_mig_lex.specs.declared.fault.LexFault.{LexFault}
use Rattle.mrc_mig_lex.specs.declared.fault.LexFault.TheVariants.{BadCharacter, OpenComment}
use Rattle.mrc_mig_lex.specs.declared.fault.LexFault.TheVariants.{NumberTooLarge}
use Rattle.mrc_mig_lex.specs.Characters.{line_feed, quote}
use Rattle.mrc_mig_lex.specs.Pieces.{piece_at}
use Rattle.mrc_mig_lex.specs.Tokens.{Lexeme}
use Rattle.mrc_mig_lex.specs.Lexing.{tokens_of}

-- the tokens' kinds alone
abbrev pub kinds_of : List ℕ → Result (List TokenKind) LexFault
kinds_of text = tokens_of text >>= (λ tokens. Ok (map (λ token. token.kind) tokens))

-- a token of this kind, in this place
abbrev lexeme : TokenKind → ℕ → List ℕ → Lexeme
lexeme kind at bytes = record { kind = kind; at = at; bytes = bytes }

-- a token has its place and its bytes
pub two_tokens : tokens_of (codes " skip;")
    ≡ Ok (lexeme Name 1 (codes "skip") ∷ lexeme (Sign Semicolon) 5 (codes ";") ∷ [])
unfolding piece_at
two_tokens = refl

-- a directive goes on to before the line feed, and what is in it is not read
pub directive : tokens_of (codes " # 1 @" ++ line_feed ∷ codes "a")
    ≡ Ok (lexeme Directive 1 (codes "# 1 @") ∷ lexeme Name 7 (codes "a") ∷ [])
unfolding piece_at
directive = refl

-- a name, a sign and numbers, which may have zeros in front
pub expression : kinds_of (codes "array[2*007]")
    ≡ Ok (Name ∷ Sign OpenBracket ∷ Number 2 ∷ Sign Star ∷ Number 7 ∷ Sign CloseBracket ∷ [])
unfolding piece_at
expression = refl

-- a string and `<..>` may have blanks in them
pub string_and_header : kinds_of (quote ∷ codes "a b" ++ quote ∷ codes "<a b>")
    ≡ Ok (Text ∷ Header ∷ [])
unfolding piece_at
string_and_header = refl

-- a number ends where a letter stands
pub number_and_name : kinds_of (codes "12ab_3:x") ≡ Ok (Number 12 ∷ Name ∷ Sign Colon ∷ Name ∷ [])
unfolding piece_at
number_and_name = refl

-- comments are not nested, and `//` begins none
pub comments : kinds_of (codes "a/* /* **/b*///")
    ≡ Ok (Name ∷ Name ∷ Sign Star ∷ Sign Slash ∷ Sign Slash ∷ Sign Slash ∷ [])
unfolding piece_at
comments = refl

-- the `*` of `/*` is not that of `*/`
pub unclosed_comment : tokens_of (codes "a /*/") ≡ Err (OpenComment 2)
unfolding piece_at
unclosed_comment = refl

-- the largest number
pub largest_number : kinds_of (codes "2147483647") ≡ Ok (Number 2147483647 ∷ [])
unfolding piece_at
largest_number = refl

-- one more
pub number_too_large : tokens_of (codes "a 2147483648") ≡ Err (NumberTooLarge 2)
unfolding piece_at
number_too_large = refl

-- no token begins with this character
pub no_character : tokens_of (codes "a @") ≡ Err (BadCharacter 2)
unfolding piece_at
no_character = refl

-- a string stays on its line
pub unclosed_string : tokens_of (codes "a " ++ quote ∷ line_feed ∷ quote ∷ [])
    ≡ Err (BadCharacter 2)
unfolding piece_at
unclosed_string = refl

-- `<..>` stays on its line too
pub unclosed_header : tokens_of (codes "<" ++ line_feed ∷ codes ">") ≡ Err (BadCharacter 0)
unfolding piece_at
unclosed_header = refl

-- only blanks may stand before a directive on its line
pub hash_after_name : tokens_of (codes "a #") ≡ Err (BadCharacter 2)
unfolding piece_at
hash_after_name = refl

-- not even a comment may stand before it
pub hash_after_comment : tokens_of (codes "/*" ++ line_feed ∷ codes "*/ #") ≡ Err (BadCharacter 6)
unfolding piece_at
hash_after_comment = refl

-- no directive begins within a comment
pub hash_in_comment : kinds_of (codes "/*" ++ line_feed ∷ codes "# */ a") ≡ Ok (Name ∷ [])
unfolding piece_at
hash_in_comment = refl
