-- Structs with fields are read exactly where they stand.
use Rattle.std.proofs.Common.{◌≡◌, ℕ, ◌-◌, ◌≤◌, true, false, List, []}
use Rattle.std.proofs.Common.{◌∷◌}
use Rattle.std.proofs.Common.{◌++◌, length, Option, Ok, refl, sym, ap, ◌∙◌}
use Rattle.std.proofs.Common.{subst, arith, append_assoc}
use Rattle.std.proofs.lemmas.List.{append-nil}
use Rattle.mrc_base.specs.Reading.{◌>>=◌}
use Rattle.mrc_mig_lex.specs.declared.token.Sign.TheVariants.{Semicolon}
use Rattle.mrc_mig_tokens.specs.declared.symbol.Symbol.{Symbol}
use Rattle.mrc_mig_tokens.specs.declared.symbol.Symbol.TheVariants.{Name, Sign, OpenBrace}
use Rattle.mrc_mig_tokens.specs.declared.symbol.Symbol.TheVariants.{CloseBrace}
use Rattle.mrc_mig_tokens.specs.Tokens.{Token}
use Rattle.mrc_mig_tokens.specs.Reading.{first_of, tail_of, many}
use Rattle.mrc_mig_tokens.proofs.LoopLemmas.{many_ends}
use Rattle.mrc_mig_types.specs.declared.meaning.Meaning.{Meaning}
use Rattle.mrc_mig_types.specs.Layout.{struct_of}
use Rattle.mrc_mig_types.specs.Reading.{field_at, Read, goes_on, more_at, each_field_at}
use Rattle.mrc_mig_types.specs.Reading.{opened_by, closed_by, fields_at}
use Rattle.mrc_mig_types.specs.Specs.{Is, AreFields, last, more}
use Rattle.mrc_mig_types.specs.Table.{Known, type_of}
use Rattle.mrc_mig_types.proofs.PhraseLemmas.{Leads, goes_to, in_two, same_Ok, many_step}
use Rattle.mrc_mig_types.proofs.PhraseLemmas.{many_holds}
use Rattle.mrc_mig_types.proofs.PhraseLemmas.{front, first_is, tail_is, sign_is, sign_read, name_is}
use Rattle.mrc_mig_types.proofs.PhraseLemmas.{name_read}

-- one field
record IsField (tokens : List Token) (rest : List Token) (bytes : List ℕ) : Type 0 where
  type : Token
  name : Token
  ends : Token
  splits : tokens ≡ type ∷ name ∷ ends ∷ rest
  types : Is Name type
  names : Is Name name
  closes : Is (Sign Semicolon) ends
  text : type.bytes ≡ bytes

field_is : (tokens : List Token) (found : List ℕ × List Token) → field_at tokens ≡ Ok found
    → IsField tokens found.1 found.0
unfolding field_at
field_is tokens found e =
    let (type, typed, naming) = in_two _ _ _ e in
    let (name, named, closing) = in_two _ _ _ naming in
    let (behind, closed, done) = in_two _ _ _ closing in
    let t = name_is tokens type typed in
    let n = name_is type.1 name named in
    let s = sign_is Semicolon name.1 behind closed in
    let same = same_Ok (type.0, behind) found done in
    record {
      type = t.0;
      name = n.0;
      ends = s.0;
      splits = t.1 ∙ ap (λ l. t.0 ∷ l) (n.1 ∙ ap (λ l. n.0 ∷ l) (s.1
          ∙ ap (λ (r : List ℕ × List Token). s.0 ∷ r.1) same));
      types = t.2;
      names = n.2;
      closes = s.2;
      text = t.3 ∙ ap (λ (r : List ℕ × List Token). r.0) same;
    }

-- any number of fields
data AnyFields (types : Known) : List Token → List (Option Meaning) → Type 0 where
  no_field : AnyFields types [] []
  one_more : {type name ends : Token} {others : List Token} {found : List (Option Meaning)}
      → Is Name type
      → Is Name name
      → Is (Sign Semicolon) ends
      → AnyFields types others found
      → AnyFields types (type ∷ name ∷ ends ∷ others) (type_of types type.bytes ∷ found)

-- one field and any number behind it
at_least_one : (types : Known) (type name ends : Token) (others : List Token)
    (found : List (Option Meaning)) → Is Name type → Is Name name → Is (Sign Semicolon) ends
    → AnyFields types others found
    → AreFields types (type ∷ name ∷ ends ∷ others) (type_of types type.bytes ∷ found)
at_least_one types type name ends _ _ t n s no_field = last t n s
at_least_one types type name ends _ _ t n s
    (one_more {type = type'} {name = name'} {ends = ends'} {others} {found} t' n' s' are) =
    more t n s (at_least_one types type' name' ends' others found t' n' s' are)

-- what is read behind other fields
abbrev AreBehind : Known → Read → Read → Type 0
AreBehind types a c = (written : List Token) × (found : List (Option Meaning))
    × (a.1 ≡ written ++ c.1) × (c.0 ≡ a.0 ++ found) × AnyFields types written found

one_field : (types : Known) (a b : Read) → more_at types a ≡ Ok b
    → (bytes : List ℕ) × IsField a.1 b.1 bytes × (b.0 ≡ a.0 ++ type_of types bytes ∷ [])
unfolding more_at
one_field types a b e =
    let (field, read, done) = in_two _ _ _ e in
    let f = field_is a.1 field read in
    let same = same_Ok (a.0 ++ type_of types field.0 ∷ [], field.1) b done in (
      field.0,
      subst (λ t. IsField a.1 t field.0) (ap (λ (r : Read). r.1) same) f,
      sym (ap (λ (r : Read). r.0) same),
    )

one_behind : (types : Known) (a b c : Read) → more_at types a ≡ Ok b → AreBehind types b c
    → AreBehind types a c
one_behind types a b c stepped (written, found, splits, all, are) =
    let (bytes, f, front) = one_field types a b stepped in
    let is : type_of types f.type.bytes ≡ type_of types bytes = ap (type_of types) f.text in (
      f.type ∷ f.name ∷ f.ends ∷ written,
      type_of types f.type.bytes ∷ found,
      f.splits ∙ ap (λ t. f.type ∷ f.name ∷ f.ends ∷ t) splits,
      all ∙ ap (λ t. t ++ found) front
          ∙ append_assoc a.0 (type_of types bytes ∷ []) found
          ∙ ap (λ t. a.0 ++ t ∷ found) (sym is),
      one_more f.types f.names f.closes are,
    )

each_field_is : (types : Known) (tokens : List Token) (found : Read)
    → each_field_at types tokens ≡ Ok found
    → Leads (λ w. AreFields types w found.0) tokens found.1
unfolding each_field_at
each_field_is types tokens found e =
    let (first, read, later) = in_two _ _ _ e in
    let (bytes, f, front) = one_field types ([], tokens) first read in
    let all = many_holds goes_on (more_at types) (λ a c. AreBehind types a c)
    (λ a. ([], [], refl, sym (append-nil a.0), no_field))
    (λ a b c _ stepped behind. one_behind types a b c stepped behind)
    (length first.1) first found later in
    let is : type_of types f.type.bytes ≡ type_of types bytes = ap (type_of types) f.text in
    let whole : found.0 ≡ type_of types f.type.bytes ∷ all.1 =
    all.3 ∙ ap (λ t. t ++ all.1) front ∙ ap (λ t. t ∷ all.1) (sym is) in (
      f.type ∷ f.name ∷ f.ends ∷ all.0,
      f.splits ∙ ap (λ t. f.type ∷ f.name ∷ f.ends ∷ t) all.2,
      subst (λ l. AreFields types (f.type ∷ f.name ∷ f.ends ∷ all.0) l) (sym whole)
          (at_least_one types f.type f.name f.ends all.0 all.1 f.types f.names f.closes all.4),
    )

opened_is : (symbol : Symbol) (tokens rest : List Token) → first_of tokens ≡ symbol
    → opened_by symbol tokens ≡ Ok rest
    → (token : Token) × (tokens ≡ token ∷ rest) × Is OpenBrace token
opened_is OpenBrace tokens rest first e =
    let f = front OpenBrace tokens refl first in
    (f.token, f.splits ∙ ap (λ t. f.token ∷ t) (same_Ok (tail_of tokens) rest e), f.is)
opened_is _ tokens rest first e = absurd cc

closed_is : (symbol : Symbol) (tokens rest : List Token) → first_of tokens ≡ symbol
    → closed_by symbol tokens ≡ Ok rest
    → (token : Token) × (tokens ≡ token ∷ rest) × Is CloseBrace token
closed_is CloseBrace tokens rest first e =
    let f = front CloseBrace tokens refl first in
    (f.token, f.splits ∙ ap (λ t. f.token ∷ t) (same_Ok (tail_of tokens) rest e), f.is)
closed_is _ tokens rest first e = absurd cc

-- `{ fields }`
pub record IsStruct (types : Known) (tokens : List Token) (found : Meaning) (rest : List Token)
    : Type 0 where
  pub opens : Token
  pub fields : List Token
  pub closes : Token
  pub read : List (Option Meaning)
  pub splits : tokens ≡ opens ∷ ((fields ++ closes ∷ []) ++ rest)
  pub opening : Is OpenBrace opens
  pub are : AreFields types fields read
  pub closing : Is CloseBrace closes
  pub means : struct_of read ≡ found

pub fields_is : (types : Known) (tokens : List Token) (found : Meaning × List Token)
    → fields_at types tokens ≡ Ok found → IsStruct types tokens found.0 found.1
unfolding fields_at
fields_is types tokens found e =
    let (opened, opening, onward) = in_two _ _ _ e in
    let (read, each, next) = in_two _ _ _ onward in
    let (behind, closing, done) = in_two _ _ _ next in
    let o = opened_is (first_of tokens) tokens opened refl opening in
    let f = each_field_is types opened read each in
    let c = closed_is (first_of read.1) read.1 behind refl closing in
    let same = same_Ok (struct_of read.0, behind) found done in
    record {
      opens = o.0;
      fields = f.0;
      closes = c.0;
      read = read.0;
      splits = o.1 ∙ ap (λ t. o.0 ∷ t) (f.1 ∙ ap (λ t. f.0 ++ t) (c.1
          ∙ ap (λ (r : Meaning × List Token). c.0 ∷ r.1) same)
          ∙ sym (append_assoc f.0 (c.0 ∷ []) found.1));
      opening = o.2;
      are = f.2;
      closing = c.2;
      means = ap (λ (r : Meaning × List Token). r.0) same;
    }

-- ---- what stands there is read

field_read : (type name ends : Token) (rest : List Token) → Is Name type → Is Name name
    → Is (Sign Semicolon) ends → field_at (type ∷ name ∷ ends ∷ rest) ≡ Ok (type.bytes, rest)
unfolding field_at
field_read type name ends rest t n s =
    goes_to _ (name_read (name ∷ ends ∷ rest) t) ∙ goes_to _ (name_read (ends ∷ rest) n)
    ∙ goes_to _ (sign_read rest s)

more_read : (types : Known) (read : List (Option Meaning)) (type name ends : Token)
    (rest : List Token) → Is Name type → Is Name name → Is (Sign Semicolon) ends
    → more_at types (read, type ∷ name ∷ ends ∷ rest)
    ≡ Ok (read ++ type_of types type.bytes ∷ [], rest)
unfolding more_at
more_read types read type name ends rest t n s = goes_to _ (field_read type name ends rest t n s)

goes_at : (read : List (Option Meaning)) (type : Token) (rest : List Token) → Is Name type
    → goes_on (read, type ∷ rest) ≡ true
unfolding goes_on
goes_at read type rest t = rw (first_is rest t) refl

ends_at : (read : List (Option Meaning)) (closes : Token) (rest : List Token) → Is CloseBrace closes
    → goes_on (read, closes ∷ rest) ≡ false
unfolding goes_on
ends_at read closes rest c = rw (first_is rest c) refl

fields_by : (types : Known) (n : ℕ) (written rest : List Token) (read found : List (Option Meaning))
    → AreFields types written found → length (written ++ rest) ≤ n
    → ((all : List (Option Meaning)) → goes_on (all, rest) ≡ false)
    → many goes_on (more_at types) n (read, written ++ rest) ≡ Ok (read ++ found, rest)
fields_by types n _ rest read _ (last {type} {name} {ends} t n' s) le stops =
    many_step goes_on (more_at types) n 0 (read, type ∷ name ∷ ends ∷ rest)
    (read ++ type_of types type.bytes ∷ [], rest) (omega arith)
    (goes_at read type (name ∷ ends ∷ rest) t) (more_read types read type name ends rest t n' s)
    ∙ many_ends goes_on (more_at types) (n - 1) (read ++ type_of types type.bytes ∷ [], rest)
    (stops (read ++ type_of types type.bytes ∷ []))
fields_by types n _ rest read _ (more {type} {name} {ends} {others} {found} t n' s are) le stops =
    many_step goes_on (more_at types) n 0 (read, type ∷ name ∷ ends ∷ (others ++ rest))
    (read ++ type_of types type.bytes ∷ [], others ++ rest) (omega arith)
    (goes_at read type (name ∷ ends ∷ (others ++ rest)) t)
    (more_read types read type name ends (others ++ rest) t n' s)
    ∙ fields_by types (n - 1) others rest (read ++ type_of types type.bytes ∷ []) found are
    (omega arith) stops
    ∙ ap (λ l. Ok (l, rest)) (append_assoc read (type_of types type.bytes ∷ []) found)

each_field_read : (types : Known) (written rest : List Token) (found : List (Option Meaning))
    → AreFields types written found
    → ((all : List (Option Meaning)) → goes_on (all, rest) ≡ false)
    → each_field_at types (written ++ rest) ≡ Ok (found, rest)
unfolding each_field_at
each_field_read types _ rest _ (last {type} {name} {ends} t n s) stops =
    goes_to (λ (first : Read). many goes_on (more_at types) (length first.1) first)
    (more_read types [] type name ends rest t n s)
    ∙ many_ends goes_on (more_at types) (length rest) (type_of types type.bytes ∷ [], rest)
    (stops (type_of types type.bytes ∷ []))
each_field_read types _ rest _ (more {type} {name} {ends} {others} {found} t n s are) stops =
    goes_to (λ (first : Read). many goes_on (more_at types) (length first.1) first)
    (more_read types [] type name ends (others ++ rest) t n s)
    ∙ fields_by types (length (others ++ rest)) others rest (type_of types type.bytes ∷ []) found
    are (omega arith) stops

pub fields_read : (types : Known) (opens closes : Token) (fields rest : List Token)
    (found : List (Option Meaning)) → Is OpenBrace opens → AreFields types fields found
    → Is CloseBrace closes
    → fields_at types (opens ∷ ((fields ++ closes ∷ []) ++ rest)) ≡ Ok (struct_of found, rest)
unfolding fields_at
fields_read types opens closes fields rest found o are c =
    let behind : List Token = (fields ++ closes ∷ []) ++ rest in
    rw (first_is behind o, tail_is opens behind)
    (ap (λ t. each_field_at types t >>= λ (r : Read). closed_by (first_of r.1) r.1
    >>= λ (b : List Token). Ok (struct_of r.0, b)) (append_assoc fields (closes ∷ []) rest)
    ∙ goes_to (λ (r : Read). closed_by (first_of r.1) r.1
    >>= λ (b : List Token). Ok (struct_of r.0, b))
    (each_field_read types fields (closes ∷ rest) found are (λ all. ends_at all closes rest c))
    ∙ rw (first_is rest c, tail_is closes rest) refl)
