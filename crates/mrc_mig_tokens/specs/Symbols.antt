-- Believe. What the grammar sees of a token of edition 2. What the grammar of the second edition
-- sees of tokens: MIG's words and signs, in this profile's own form. The words of old forms begin
-- statements and are not reserved, so that an argument may have such a name.
use Rattle.std.specs.Prelude.{ℕ, List, Option, Some, None}
use Rattle.mrc_mig_lex.specs.declared.token.TokenKind.TheVariants as kinds
use Rattle.mrc_mig_symbols.specs.declared.word.Word.{Word}
use Rattle.mrc_mig_symbols.specs.declared.word.Word.TheVariants as words
use Rattle.mrc_mig_symbols.specs.Words.{word_of}
use Rattle.mrc_mig_tokens.specs.declared.line.Line.{Line}
use Rattle.mrc_mig_tokens.specs.declared.line.Line.TheVariants as lines
use Rattle.mrc_mig_tokens.specs.declared.piece.Kind.{Kind}
use Rattle.mrc_mig_tokens.specs.declared.piece.Kind.TheVariants.{Plain, OpenBrace, CloseBrace}
use Rattle.mrc_mig_tokens.specs.declared.piece.Kind.TheVariants.{Stray}
use Rattle.mrc_mig_tokens.specs.declared.symbol.Part.{Part}
use Rattle.mrc_mig_tokens.specs.declared.symbol.Part.TheVariants.{Token, Mark, Gap}
use Rattle.mrc_mig_tokens.specs.declared.symbol.Symbol.{Symbol}
use Rattle.mrc_mig_tokens.specs.declared.symbol.Symbol.TheVariants as symbols
use Rattle.mrc_mig_tokens.specs.Lines.{line_of}

-- a word that is reserved in the first edition, or a name
abbrev pub symbol_of_word : Option Word → Symbol
symbol_of_word None = symbols.Name
symbol_of_word (Some words.OldForm) = symbols.Name
symbol_of_word (Some word) = symbols.Word word

-- what a name is
unfoldable pub name_symbol : List ℕ → Symbol
name_symbol bytes = symbol_of_word (word_of bytes)

-- what a line of the preprocessor is
abbrev pub part_of_line : Line → Part
part_of_line lines.Include = Token symbols.Include
part_of_line lines.Mark = Mark
part_of_line lines.Passed = Gap
part_of_line lines.Other = Token symbols.Line

-- what a part of this kind with these bytes is
unfoldable pub part_by : Kind → List ℕ → Part
part_by (Plain kinds.Name) bytes = Token (name_symbol bytes)
part_by (Plain (kinds.Number n)) bytes = Token (symbols.Number n)
part_by (Plain kinds.Text) bytes = Token symbols.Text
part_by (Plain kinds.Header) bytes = Token symbols.Header
part_by (Plain (kinds.Sign sign)) bytes = Token (symbols.Sign sign)
part_by (Plain kinds.Directive) bytes = part_of_line (line_of bytes)
part_by OpenBrace bytes = Token symbols.OpenBrace
part_by CloseBrace bytes = Token symbols.CloseBrace
part_by Stray bytes = Token symbols.Stray
