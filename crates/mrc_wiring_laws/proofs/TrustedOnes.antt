-- Two tables that are of the same lines say the same of trusted tasks and of reply ports.
use Rattle.std.proofs.Common.{◌≡◌, ℕ, ◌<◌, List, []}
use Rattle.std.proofs.Common.{Option, Some, None, ap, sym, subst, ◌∙◌}
use Rattle.std.proofs.lemmas.Option.{same_Some, slice_get_within}
use Rattle.mrc_base.proofs.Lists.{element_there}
use Rattle.mrc_model.specs.declared.Verb.{Verb}
use Rattle.mrc_model.proofs.Few.{same_if}
use Rattle.mrc_wiring_text.specs.declared.reading.Line.{Line}
use Rattle.mrc_wiring_text.specs.declared.trust.TrustVerb.{TrustVerb}
use Rattle.mrc_wiring_text.specs.declared.trust.TrustVerb.TheVariants as words
use Rattle.mrc_wiring_text.specs.declared.trust.TrustedRight.{TrustedRight}
use Rattle.mrc_wiring_text.specs.declared.wiring.WiringSays.{WiringSays}
use Rattle.mrc_wiring_text.specs.declared.wiring.WiringSays.TheVariants.{Trust}
use Rattle.mrc_wiring.specs.declared.names.NumberedClass.{NumberedClass}
use Rattle.mrc_wiring.specs.declared.table.NumberedRight.{NumberedRight}
use Rattle.mrc_wiring.specs.declared.table.TrustedLine.{TrustedLine}
use Rattle.mrc_wiring.specs.declared.births.BirthRow.{BirthRow}
use Rattle.mrc_wiring.specs.Table.{Table}
use Rattle.mrc_wiring.specs.Names.{number_of, class_said}
use Rattle.mrc_wiring.specs.Resolving.{verb_said}
use Rattle.mrc_wiring_laws.specs.TrustedLines.{trust_lines, IsRightOf, IsTrustOf, FitsOf}
use Rattle.mrc_wiring_laws.specs.TrustedLines.{TrustsOfLinesAreOne}
use Rattle.mrc_wiring_laws.proofs.GivenOnes.{same_by_places, tables_one}
use Rattle.mrc_wiring_laws.proofs.TrustedLines.{right_with}

right_same : (one other : Table) (said : Option TrustedRight) (right twin : Option NumberedRight)
    → one.names ≡ other.names
    → one.ports ≡ other.ports
    → one.births ≡ other.births
    → IsRightOf one said right
    → IsRightOf other said twin
    → right ≡ twin
right_same one other None right twin names ports births is also = is ∙ sym also
right_same one other (Some on) right twin names ports births is also =
    let class : is.0 ≡ also.0 = same_Some _ _ (sym is.2
    ∙ ap (λ (ns : List (List ℕ)). class_said ns one.ports one.births on.class) names
    ∙ ap (λ (ps : List (List ℕ)). class_said other.names ps one.births on.class) ports
    ∙ ap (λ (rows : List BirthRow). class_said other.names other.ports rows on.class) births
    ∙ also.2) in
    is.1
    ∙ ap (λ (c : NumberedClass). Some (right_with on.right c)) class
    ∙ sym also.1

abbrev trusted_with : ℕ → Verb → ℕ → Option NumberedRight → TrustedLine
trusted_with line verb task right =
    record { line = line; verb = verb; task = task; right = right }

abbrev task_of : WiringSays → List ℕ
task_of (Trust task word right) = task
task_of other = []

abbrev word_of : WiringSays → TrustVerb
word_of (Trust task word right) = word
word_of other = words.Takes

abbrev right_of : WiringSays → Option TrustedRight
right_of (Trust task word right) = right
right_of other = None

trust_same : (one other : Table) (line : Line WiringSays) (trusted twin : TrustedLine)
    → one.names ≡ other.names
    → one.ports ≡ other.ports
    → one.births ≡ other.births
    → IsTrustOf one line trusted
    → IsTrustOf other line twin
    → trusted ≡ twin
trust_same one other line trusted twin names ports births is also =
    let says = sym is.says ∙ also.says in
    let name : is.task ≡ also.task = ap task_of says in
    let word : is.word ≡ also.word = ap word_of says in
    let said : is.right ≡ also.right = ap right_of says in
    let number : trusted.line ≡ twin.line = is.line_is ∙ sym also.line_is in
    let verb : trusted.verb ≡ twin.verb = is.verb_is ∙ ap verb_said word ∙ sym also.verb_is in
    let task : trusted.task ≡ twin.task = same_Some _ _ (sym is.task_is
    ∙ ap (λ (s : List ℕ). number_of one.names s) name
    ∙ ap (λ (ns : List (List ℕ)). number_of ns also.task) names
    ∙ also.task_is) in
    let right : trusted.right ≡ twin.right = right_same one other also.right trusted.right
    twin.right names ports births
    (subst (λ (r : Option TrustedRight). IsRightOf one r trusted.right) said is.right_is)
    also.right_is in
    ap (λ (n : ℕ). trusted_with n trusted.verb trusted.task trusted.right) number
    ∙ ap (λ (v : Verb). trusted_with twin.line v trusted.task trusted.right) verb
    ∙ ap (λ (t : ℕ). trusted_with twin.line twin.verb t trusted.right) task
    ∙ ap (trusted_with twin.line twin.verb twin.task) right

fits_same : (lines : List (Line WiringSays)) (one other : Table)
    → FitsOf one lines
    → FitsOf other lines
    → one.fits ≡ other.fits
fits_same lines one other is also =
    same_if one.fits other.fits (λ e. also.said.1 (is.said.0 e))
    (λ e. is.said.1 (also.said.0 e))

pub trusts_one : TrustsOfLinesAreOne
trusts_one interfaces lines one other is also =
    let names = is.given.tasks ∙ sym also.given.tasks in
    let ports = is.given.ports ∙ sym also.given.ports in
    let births = (tables_one interfaces lines one other is.given also.given).0 in
    let many = is.trusts.many in (
      same_by_places one.trusts other.trusts (many ∙ sym also.trusts.many)
          (λ i trusted twin first second.
          let line = element_there (trust_lines lines) i
          (subst (λ (n : ℕ). i < n) many (slice_get_within one.trusts i trusted first)) in
          trust_same one other line.0 trusted twin names ports births
          (is.trusts.each i line.0 trusted line.1 first)
          (also.trusts.each i line.0 twin line.1 second)),
      fits_same lines one other is.fits also.fits,
    )
