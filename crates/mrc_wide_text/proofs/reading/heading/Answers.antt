-- What each exit of the loop knows of the heading.
use Rattle.std.proofs.Common.{◌≡◌, ◌+◌, ◌∙◌, ap, subst, sym, map, List, ℕ, Bor, Ok, arith, length}
use Rattle.std.proofs.lemmas.Result.{err_from_is_err_and}
use Rattle.mrc_base.specs.Reading.{Refuses}
use Rattle.mrc_wiring_text.specs.Lexis.{words, lines}
use Rattle.mrc_wiring_text.proofs.HeadingLemmas.{tells, said_words, is_nil}
use Rattle.mrc_wide_text.specs.WideReading.{after_heading, heading}
use Rattle.mrc_wide_text.proofs.HeadingLemmas.{heading_passes, heading_starts, heading_fails}
use Rattle.mrc_wide_text.proofs.HeadingLemmas.{heading_ends}
use Rattle.mrc_wide_text.proofs.reading.heading.Goals as goal

pub returns-in_err-next-clause-fault : goal.returns-in_err-next-clause-fault
returns-in_err-next-clause-fault c =
    let p = err_from_is_err_and c.from_residual-in_err-next.result
    c.from_residual-in_err-next.ensures.1 in
    let line = c.first_line.result.0.now in
    let n = c.loop-rest.before + 1 in
    let e = c.in_err-next.field-0.0 in
    let same = said_words line _ _ c.deref.ensures.value c.in_ok-text.ensures in
    let passed = c.deref-then-not-is_empty in
    let said : map (λ (w : Bor (List ℕ)). w.now) passed.result.now ≡ words line = ap
    (map (λ (w : Bor (List ℕ)). w.now)) passed.ensures.value ∙ c.in_ok-said.ensures.exact ∙ same
    in
    let fails : Refuses e (after_heading n (words line)) = subst
    (λ ws. Refuses e (after_heading n ws)) said c.in_err-next.ensures.fault in
    let filled = tells _ _ _ _ c.is_empty-in-loop-rest.ensures
    (c.in_ok-said.ensures.count ∙ ap length same) c.if-not-is_empty.true in
    rw (p.1, p.2) (heading_fails e n _ line _ _ c.loop-rest.invariant.same
    c.first_line.ensures.cut filled fails)

pub returns-then-not-is_empty-clause-fault : goal.returns-then-not-is_empty-clause-fault
returns-then-not-is_empty-clause-fault c =
    let line = c.first_line.result.0.now in
    let n = c.loop-rest.before + 1 in
    let same = said_words line _ _ c.deref.ensures.value c.in_ok-text.ensures in
    let passed = c.deref-then-not-is_empty in
    let said : map (λ (w : Bor (List ℕ)). w.now) passed.result.now ≡ words line = ap
    (map (λ (w : Bor (List ℕ)). w.now)) passed.ensures.value ∙ c.in_ok-said.ensures.exact ∙ same
    in
    let is : after_heading n (words line) ≡ Ok c.in_ok-next.next = ap (after_heading n)
    (sym said) ∙ c.in_ok-next.ensures.fault in
    let filled = tells _ _ _ _ c.is_empty-in-loop-rest.ensures
    (c.in_ok-said.ensures.count ∙ ap length same) c.if-not-is_empty.true in
    heading_starts n _ line _ _ _ c.loop-rest.invariant.same c.first_line.ensures.cut filled is

pub loop-rest-preserved : goal.loop-rest-preserved
loop-rest-preserved c =
    let same = said_words c.first_line.result.0.now _ _ c.deref.ensures.value c.in_ok-text.ensures
    in
    let filled = tells _ _ _ _ c.is_empty-in-loop-rest.ensures
    (c.in_ok-said.ensures.count ∙ ap length same) c.if-not-is_empty.false in
    record {
      same = heading_passes _ _ _ _ _ c.loop-rest.invariant.same c.first_line.ensures.cut filled;
      room = omega arith;
    }

pub returns-clause-fault : goal.returns-clause-fault
returns-clause-fault c =
    let none = is_nil c.loop-rest.rest.now _ c.is_empty.ensures c.loop-rest-test.false in
    heading_ends (c.loop-rest.before + 1) _
    (subst (λ bs. heading (c.loop-rest.before + 1) (lines bs) ≡ heading 1 (lines c.args.text.now))
    none c.loop-rest.invariant.same)
