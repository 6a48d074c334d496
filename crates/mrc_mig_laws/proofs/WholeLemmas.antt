-- A routine is the whole of its statement.
use Rattle.std.proofs.Common.{◌≡◌, ℕ, suc, true, List, [], ◌∷◌, ◌++◌, refl, sym, ap, ◌∙◌}
use Rattle.std.proofs.Common.{subst, append_assoc}
use Rattle.mrc_mig_tokens.specs.Tokens.{Token}
use Rattle.mrc_mig_types.specs.Table.{Known}
use Rattle.mrc_mig_bodies.specs.Parameters.{Parameter}
use Rattle.mrc_mig_rows.specs.declared.kinds.StatementKind.TheVariants as kinds
use Rattle.mrc_mig_rows.specs.Kinds.{statement_kind}
use Rattle.mrc_mig_rows.specs.Statements.{is_opening, is_closing, is_semicolon, is_other, IsInside}
use Rattle.mrc_mig_rows.specs.Statements.{nothing, opening, closing, inner, other}
use Rattle.mrc_mig_laws.specs.Laws.{RoutinesAreStatements}
use Rattle.mrc_mig_laws.specs.Routines.{AreParts, last, more, AreArguments, none, some}
use Rattle.mrc_mig_laws.proofs.HeadingLemmas.{begins_with_word}

-- what is balanced, where one more is held
raised : {depth : ℕ} {inside : List Token} (later : List Token) → IsInside depth inside
    → IsInside 1 later → IsInside (suc depth) (inside ++ later)
raised later nothing stands = stands
raised later (opening depth token inside is held) stands =
    opening (suc depth) token (inside ++ later) is (raised later held stands)
raised later (closing depth token inside is held) stands =
    closing (suc depth) token (inside ++ later) is (raised later held stands)
raised later (inner depth token inside is held) stands =
    inner (suc depth) token (inside ++ later) is (raised later held stands)
raised later (other depth token inside is held) stands =
    other (suc depth) token (inside ++ later) is (raised later held stands)

-- what stands in a parenthesis, before its end
record Filled (end tokens : List Token) : Type 0 where
  inside : List Token
  splits : tokens ≡ inside ++ end
  stands : (later : List Token) → IsInside 1 later → IsInside 1 (inside ++ later)

parts_fill : {types : Known} {end tokens : List Token} {arguments : List Parameter}
    → AreParts types end tokens arguments → Filled end tokens
parts_fill (last {part} p) = record {
  inside = part;
  splits = refl;
  stands = λ later held. raised later p.stands held;
}
parts_fill {end} (more {part} {later} {semicolon} p is are) =
    let others = parts_fill are in
    let ends : is_semicolon semicolon.symbol ≡ true = ap (λ s. is_semicolon s) is.seen in
    record {
      inside = part ++ semicolon ∷ others.inside;
      splits = ap (λ l. part ++ semicolon ∷ l) others.splits
          ∙ sym (append_assoc part (semicolon ∷ others.inside) end);
      stands = λ l held. subst (λ x. IsInside 1 x)
          (sym (append_assoc part (semicolon ∷ others.inside) l))
          (raised (semicolon ∷ (others.inside ++ l)) p.stands
          (inner 0 semicolon (others.inside ++ l) ends (others.stands l held)));
    }

arguments_fill : {types : Known} {end tokens : List Token} {arguments : List Parameter}
    → AreArguments types end tokens arguments → Filled end tokens
arguments_fill none = record { inside = []; splits = refl; stands = λ later held. held }
arguments_fill (some are) = parts_fill are

pub routines_are_statements : RoutinesAreStatements
routines_are_statements types kind tokens name arguments behind is r =
    let f = arguments_fill r.are in
    let inside : List Token = f.inside ++ r.closes ∷ [] in
    let begins : is_other r.word.symbol ≡ true =
    begins_with_word r.word (r.named ∷ r.opens ∷ r.inside) (kinds.Row kind)
    (ap (λ l. statement_kind l) (sym r.splits) ∙ is) refl in
    let names : is_other r.named.symbol ≡ true = ap (λ s. is_other s) r.is_named.seen in
    let opens : is_opening r.opens.symbol ≡ true = ap (λ s. is_opening s) r.is_opened.seen in
    let closes : is_closing r.closes.symbol ≡ true = ap (λ s. is_closing s) r.is_closed.seen in
    let there : r.inside ≡ inside ++ r.ends ∷ behind =
    f.splits ∙ sym (append_assoc f.inside (r.closes ∷ []) (r.ends ∷ behind)) in
    record {
      inside = r.word ∷ r.named ∷ r.opens ∷ inside;
      end = r.ends;
      splits = r.splits ∙ ap (λ l. r.word ∷ r.named ∷ r.opens ∷ l) there;
      ends = ap (λ s. is_semicolon s) r.is_ended.seen;
      stands = other 0 r.word (r.named ∷ r.opens ∷ inside) begins
          (other 0 r.named (r.opens ∷ inside) names
          (opening 0 r.opens inside opens
          (f.stands (r.closes ∷ []) (closing 0 r.closes [] closes nothing))));
    }
