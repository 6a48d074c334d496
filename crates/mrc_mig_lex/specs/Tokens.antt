-- Believe. Tokens and their places. A token of a MIG subsystem text, as contracts see it, and where
-- tokens lie: this profile's own choice.
use Rattle.std.specs.Prelude.{◌≡◌, ℕ, ◌+◌, ◌<◌, ◌≤◌, List, [], ◌∷◌, length, slice_range}
use Rattle.mrc_mig_lex.specs.declared.token.TokenKind.{TokenKind}

-- what the token is, the offset of its first byte in the text, and its bytes
pub record Lexeme : Type 0 where
  pub kind : TokenKind
  pub at : ℕ
  pub bytes : List ℕ

-- the offset of the first byte after the token
abbrev pub end_of : Lexeme → ℕ
end_of token = token.at + length token.bytes

-- the token's bytes are those that stand in its place in the text, and there are some
pub record IsSliceOf (text : List ℕ) (token : Lexeme) : Type 0 where
  pub slice : slice_range text token.at (end_of token) ≡ token.bytes
  pub nonempty : 0 < length token.bytes

-- each token begins at the end of the one before, or later
abbrev pub AreInOrder : List Lexeme → Type 0
AreInOrder [] = Unit {0}
AreInOrder (token ∷ []) = Unit {0}
AreInOrder (token ∷ next ∷ tokens) = (end_of token ≤ next.at) × AreInOrder (next ∷ tokens)
