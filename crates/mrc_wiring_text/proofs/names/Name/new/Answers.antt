-- A name is ASCII, and so it is UTF-8.
use Rattle.std.proofs.Common.{◌∙◌, sym, Result, Ok, Err, refl}
use Rattle.std.specs.Prelude.{IsOk, MatchResult}
use Rattle.mrc_wiring_text.proofs.NameLemmas.{IsUtf8-name}
use Rattle.mrc_wiring_text.proofs.names.Name.new.Goals as goal

ok_when : {T E : Type 0} (P : Type 0) (Q : T → Type 0) (R : E → Type 0) (r : Result T E)
    → MatchResult r Q (λ e. (P → ⊥) × R e) → P → IsOk r
ok_when P Q R (Ok x) h p = refl
ok_when P Q R (Err e) h p = absurd (h.0 p)

pub unwrap-text-requires : goal.unwrap-text-requires
unwrap-text-requires c =
    ok_when _ _ _ c.from_utf8.result c.from_utf8.ensures.cases
    (IsUtf8-name c.args.word.now (sym c.is_name.ensures ∙ c.if-not-is_name.false))
