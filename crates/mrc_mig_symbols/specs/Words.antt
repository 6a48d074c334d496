-- Believe. Reserved words and basic types. The words that are reserved and the names of the basic
-- types, after the Server Writer's Guide for MIG. That words which are left out are reserved too,
-- and which these are, is this profile's own choice. Words are read in any case, names of types in
-- their case alone.
use Rattle.std.specs.Prelude.{ℕ, List, [], ◌∷◌, Option, codes}
use Rattle.std.specs.Str.{str_to_ascii_lowercase}
use Rattle.mrc_mig_symbols.specs.Tables.{entry_of}
use Rattle.mrc_mig_symbols.specs.declared.word.Direction.TheVariants as directions
use Rattle.mrc_mig_symbols.specs.declared.word.Word.{Word}
use Rattle.mrc_mig_symbols.specs.declared.word.Word.TheVariants as words
use Rattle.mrc_mig_symbols.specs.declared.word.Basic.{Basic}
use Rattle.mrc_mig_symbols.specs.declared.word.Basic.TheVariants as basic

-- the reserved words, in lower case, and what each is
abbrev pub reserved : List (List ℕ × Word)
reserved =
    (codes "subsystem", words.Subsystem) ∷
    (codes "kernelserver", words.Side) ∷
    (codes "kerneluser", words.Side) ∷
    (codes "type", words.Type) ∷
    (codes "routine", words.Routine) ∷
    (codes "simpleroutine", words.SimpleRoutine) ∷
    (codes "skip", words.Skip) ∷
    (codes "import", words.Import) ∷
    (codes "uimport", words.Import) ∷
    (codes "simport", words.Import) ∷
    (codes "serverprefix", words.Prefix) ∷
    (codes "userprefix", words.Prefix) ∷
    (codes "rcsid", words.Rcsid) ∷
    (codes "in", words.Direction directions.In) ∷
    (codes "out", words.Direction directions.Out) ∷
    (codes "inout", words.Direction directions.InOut) ∷
    (codes "requestport", words.Direction directions.RequestPort) ∷
    (codes "replyport", words.Direction directions.ReplyPort) ∷
    (codes "ctype", words.CType) ∷
    (codes "cusertype", words.CType) ∷
    (codes "cservertype", words.CType) ∷
    (codes "intran", words.Translation) ∷
    (codes "outtran", words.Translation) ∷
    (codes "destructor", words.Destructor) ∷
    (codes "array", words.Array) ∷
    (codes "struct", words.Struct) ∷
    (codes "of", words.Of) ∷
    (codes "c_string", words.CString) ∷
    (codes "procedure", words.OldForm) ∷
    (codes "simpleprocedure", words.OldForm) ∷
    (codes "function", words.OldForm) ∷
    (codes "operation", words.OldForm) ∷
    (codes "waittime", words.Wait) ∷
    (codes "msgoption", words.Wait) ∷
    (codes "msgseqno", words.PortOption) ∷
    (codes "ureplyport", words.PortOption) ∷
    (codes "sreplyport", words.PortOption) ∷
    (codes "islong", words.Flag) ∷
    (codes "isnotlong", words.Flag) ∷
    (codes "servercopy", words.Flag) ∷
    (codes "countinout", words.Flag) ∷
    (codes "dealloc", words.Dealloc) ∷
    (codes "polymorphic", words.Polymorphic) ∷ []

-- the names of the basic types, and what each is: a type number and the bits of one item
abbrev pub basics : List (List ℕ × Basic)
basics =
    (codes "MACH_MSG_TYPE_BOOLEAN", basic.Plain 0 32) ∷
    (codes "MACH_MSG_TYPE_INTEGER_16", basic.Plain 1 16) ∷
    (codes "MACH_MSG_TYPE_INTEGER_32", basic.Plain 2 32) ∷
    (codes "MACH_MSG_TYPE_CHAR", basic.Plain 8 8) ∷
    (codes "MACH_MSG_TYPE_BYTE", basic.Plain 9 8) ∷
    (codes "MACH_MSG_TYPE_INTEGER_8", basic.Plain 9 8) ∷
    (codes "MACH_MSG_TYPE_STRING", basic.Unsized 12) ∷
    (codes "MACH_MSG_TYPE_STRING_C", basic.Unsized 12) ∷
    (codes "MACH_MSG_TYPE_PORT_NAME", basic.Plain 15 32) ∷
    (codes "MACH_MSG_TYPE_MOVE_RECEIVE", basic.Plain 16 32) ∷
    (codes "MACH_MSG_TYPE_MOVE_SEND", basic.Plain 17 32) ∷
    (codes "MACH_MSG_TYPE_MOVE_SEND_ONCE", basic.Plain 18 32) ∷
    (codes "MACH_MSG_TYPE_COPY_SEND", basic.Plain 19 32) ∷
    (codes "MACH_MSG_TYPE_MAKE_SEND", basic.Plain 20 32) ∷
    (codes "MACH_MSG_TYPE_MAKE_SEND_ONCE", basic.Plain 21 32) ∷
    (codes "MACH_MSG_TYPE_PORT_RECEIVE", basic.Polymorphic) ∷
    (codes "MACH_MSG_TYPE_PORT_SEND", basic.Polymorphic) ∷
    (codes "MACH_MSG_TYPE_PORT_SEND_ONCE", basic.Polymorphic) ∷
    (codes "MACH_MSG_TYPE_POLYMORPHIC", basic.Polymorphic) ∷
    (codes "MACH_MSG_TYPE_REAL", basic.Real) ∷ []

-- the reserved word that these bytes are, in any case
abbrev pub word_of : List ℕ → Option Word
word_of bytes = entry_of reserved (str_to_ascii_lowercase bytes)

-- the basic type that these bytes name
abbrev pub basic_of : List ℕ → Option Basic
basic_of bytes = entry_of basics bytes
