-- Where a part of a parenthesis ends, from where a statement ends.
use Rattle.std.proofs.Common.{◌≡◌, ℕ, ◌==◌, Bool, true, false, List, [], ◌∷◌}
use Rattle.std.proofs.Common.{◌++◌, length, Ok, refl, sym, ap, ◌∙◌, subst, arith, length-append}
use Rattle.std.proofs.Common.{if◌then◌else◌}
use Rattle.std.proofs.Math.Seq.{take-append_seam, drop-append_seam}
use Rattle.std.specs.Prelude.{take, drop}
use Rattle.mrc_mig_lex.specs.declared.token.Sign.TheVariants as signs
use Rattle.mrc_mig_tokens.specs.declared.symbol.Symbol.{Symbol}
use Rattle.mrc_mig_tokens.specs.declared.symbol.Symbol.TheVariants as symbols
use Rattle.mrc_mig_tokens.specs.Reading.{first_of, tail_of}
use Rattle.mrc_mig_tokens.specs.Tokens.{Token}
use Rattle.mrc_mig_rows.specs.Ends.{ends, opened, end_from, behind_end, statement_end}
use Rattle.mrc_mig_rows.specs.Statements.{IsInside, IsStatement}
use Rattle.mrc_mig_rows.proofs.StatementLemmas.{read_is, is_read}

-- ---- lists that are cut at the same place

-- the parts of a list that are cut so that as much is left
pub same_cut : {A : Type 0} (xs ys zs ws : List A) → xs ++ ys ≡ zs ++ ws → length ys ≡ length ws
    → (xs ≡ zs) × (ys ≡ ws)
same_cut xs ys zs ws e same =
    let fronts : length xs ≡ length zs =
    omega (arith, length-append xs ys, length-append zs ws, ap length e) in (
      sym (take-append_seam xs ys) ∙ ap (λ l. take (length xs) l) e
          ∙ ap (λ n. take n (zs ++ ws)) fronts ∙ take-append_seam zs ws,
      sym (drop-append_seam xs ys) ∙ ap (λ l. drop (length xs) l) e
          ∙ ap (λ n. drop n (zs ++ ws)) fronts ∙ drop-append_seam zs ws,
    )

-- ---- where a part ends

-- a token ends a part exactly where nothing is open: `;`, `)` and `}` do
pub record Closes (end : Token) : Type 0 where
  pub closes : (depth : ℕ) → ends depth end.symbol ≡ (depth == 0)

-- what stands before the end
end_by : (depth : ℕ) (tokens : List Token)
    → (front : List Token) × (tokens ≡ front ++ end_from depth tokens)
unfolding end_from
end_by depth [] = ([], refl)
end_by depth (token ∷ tokens) =
    elim (ends depth token.symbol) as (λ b. (front : List Token) × (token ∷ tokens
    ≡ front ++ (if b then token ∷ tokens else end_from (opened depth token.symbol) tokens))) [
      | true ↦ ([], refl)
      | false ↦ let later = end_by (opened depth token.symbol) tokens in
          (token ∷ later.0, ap (λ ts. token ∷ ts) later.1)
    ]

-- it is not in front of what it is an end of
no_end_before : (depth : ℕ) (end : Token) (tokens : List Token)
    → end_from depth tokens ≡ end ∷ tokens → ⊥
no_end_before depth end tokens e =
    let front = end_by depth tokens in
    absurd (omega (
      arith,
      ap length e,
      ap length front.1,
      length-append front.0 (end_from depth tokens),
    ))

-- one end in place of another
swap_here : (depth : ℕ) (end other : Token) (behind later : List Token) (b : Bool)
    → ends depth end.symbol ≡ b → Closes end → Closes other
    → (if b then end ∷ behind else end_from (opened depth end.symbol) behind) ≡ end ∷ behind
    → (if ends depth other.symbol then other ∷ later
    else end_from (opened depth other.symbol) later) ≡ other ∷ later
swap_here depth end other behind later true test is also same =
    rw (also.closes depth ∙ sym (is.closes depth) ∙ test) refl
swap_here depth end other behind later false test is also same =
    absurd (no_end_before (opened depth end.symbol) end behind same)

swap_later : (depth : ℕ) (token : Token) (tokens : List Token) (end other : Token)
    (behind later : List Token) (b : Bool)
    → (if b then token ∷ (tokens ++ end ∷ behind)
    else end_from (opened depth token.symbol) (tokens ++ end ∷ behind)) ≡ end ∷ behind
    → (end_from (opened depth token.symbol) (tokens ++ end ∷ behind) ≡ end ∷ behind
    → end_from (opened depth token.symbol) (tokens ++ other ∷ later) ≡ other ∷ later)
    → (if b then token ∷ (tokens ++ other ∷ later)
    else end_from (opened depth token.symbol) (tokens ++ other ∷ later)) ≡ other ∷ later
swap_later depth token tokens end other behind later true same next =
    absurd (omega (arith, ap length same, length-append tokens (end ∷ behind)))
swap_later depth token tokens end other behind later false same next = next same

swap : (depth : ℕ) (front : List Token) (end other : Token) (behind later : List Token)
    → Closes end → Closes other
    → end_from depth (front ++ end ∷ behind) ≡ end ∷ behind
    → end_from depth (front ++ other ∷ later) ≡ other ∷ later
unfolding end_from
swap depth [] end other behind later is also same =
    swap_here depth end other behind later (ends depth end.symbol) refl is also same
swap depth (token ∷ tokens) end other behind later is also same =
    swap_later depth token tokens end other behind later (ends depth token.symbol) same
    (λ next. swap (opened depth token.symbol) tokens end other behind later is also next)

-- ---- by what a statement is

-- a `;`
abbrev semicolon : Token
semicolon = record { symbol = symbols.Sign signs.Semicolon; at = 0; bytes = [] }

semicolon_closes : Closes semicolon
semicolon_closes = record { closes = λ depth. refl }

-- a `;` at the end of a text, and then nothing
statement_ends : (found : List Token) → found ≡ semicolon ∷ []
    → behind_end (first_of found) found ≡ Ok []
unfolding first_of tail_of
statement_ends found e = rw e refl

-- what ends a statement at the end of a text is one token
end_is_one : (symbol : Symbol) (token : Token) (later : List Token)
    → behind_end symbol (token ∷ later) ≡ Ok [] → later ≡ []
unfolding tail_of
end_is_one (symbols.Sign signs.Semicolon) token later e = cc
end_is_one _ token later e = absurd cc

one_is_left : (found : List Token) → behind_end (first_of found) found ≡ Ok []
    → length found ≡ 1
unfolding first_of
one_is_left [] e = absurd cc
one_is_left (token ∷ later) e =
    omega (arith, ap length (end_is_one token.symbol token later e))

-- what stands before the end of a part is balanced
pub part_stands : (tokens : List Token) (end : Token) (behind : List Token) → Closes end
    → end_from 0 tokens ≡ end ∷ behind
    → (part : List Token) × (tokens ≡ part ++ end ∷ behind) × IsInside 0 part
unfolding statement_end
part_stands tokens end behind is e =
    let front = end_by 0 tokens in
    let splits : tokens ≡ front.0 ++ end ∷ behind = front.1 ∙ ap (λ l. front.0 ++ l) e in
    let here : end_from 0 (front.0 ++ end ∷ behind) ≡ end ∷ behind =
    ap (λ l. end_from 0 l) (sym splits) ∙ e in
    let alone : end_from 0 (front.0 ++ semicolon ∷ []) ≡ semicolon ∷ [] =
    swap 0 front.0 end semicolon behind [] is semicolon_closes here in
    let statement = read_is (front.0 ++ semicolon ∷ []) []
    (statement_ends (end_from 0 (front.0 ++ semicolon ∷ [])) alone) in
    let same = same_cut front.0 (semicolon ∷ []) statement.inside (statement.end ∷ [])
    statement.splits refl in
    (front.0, splits, subst (λ l. IsInside 0 l) (sym same.0) statement.stands)

-- and what is balanced is a part, up to what ends it
pub part_read : (part : List Token) (end : Token) (behind : List Token) → Closes end
    → IsInside 0 part → end_from 0 (part ++ end ∷ behind) ≡ end ∷ behind
unfolding statement_end
part_read part end behind is stands =
    let alone : List Token = part ++ semicolon ∷ [] in
    let statement : IsStatement alone [] = record {
      inside = part;
      end = semicolon;
      splits = refl;
      ends = refl;
      stands = stands;
    } in
    let one = one_is_left (end_from 0 alone) (is_read alone [] statement) in
    let front = end_by 0 alone in
    let same = same_cut part (semicolon ∷ []) front.0 (end_from 0 alone) front.1 (sym one) in
    swap 0 part semicolon end [] behind semicolon_closes is (sym same.1)
