use Rattle.std.proofs.Common.{◌≡◌, ℕ, ◌+◌, ◌-◌, ◌≤◌, ◌++◌, List, length, take, drop, arith}
use Rattle.std.proofs.Common.{length-drop, ap, sym, ◌∙◌, subst}
use Rattle.std.specs.Prelude.{Option}
use Rattle.std.proofs.Math.Seq.{take-add}
use Rattle.std.proofs.lemmas.List.{take_rest}
use Rattle.std.specs.Io.KnownBytes.{Appends}
use Rattle.std.proofs.KnownBytes.{Appends-trans}
use Rattle.mrc_files.proofs.StreamLemmas.{one_call_more}
use Rattle.mrc_files.proofs.streams.write_text.Goals as goal

-- a write goes on where the last one stopped
goes_on : (before now after : Option (List ℕ)) (text : List ℕ) (written count : ℕ)
    → Appends before now (take written text)
    → Appends now after (take count (take (length text - written) (drop written text)))
    → Appends before after (take (written + count) text)
goes_on before now after text written count first next =
    let joined : take written text
    ++ take count (take (length text - written) (drop written text)) ≡ take (written + count) text =
    ap (λ rest. take written text ++ take count rest) (take_rest text written)
    ∙ sym (take-add written count text) in
    subst (Appends before after) joined (Appends-trans before now after _ _ first next)

within : (text : List ℕ) (written count : ℕ) → written ≤ length text
    → count ≤ length (take (length text - written) (drop written text))
    → written + count ≤ length text
within text written count h k =
    let all : length (take (length text - written) (drop written text))
    ≡ length (drop written text) = ap length (take_rest text written) in
    omega (arith, length-drop written text)

pub loop-written-preserved : goal.loop-written-preserved
loop-written-preserved g c = record {
  within = within c.args.text.now c.loop-written.written c.in-Some.count
      c.loop-written.invariant.within c.in-Some.ensures.some.0;
  appended = goes_on _ _ _ c.args.text.now c.loop-written.written c.in-Some.count
      c.loop-written.invariant.appended c.in-Some.ensures.some.1;
  counted = one_call_more _ _ _ c.loop-written.written c.in-Some.count
      c.loop-written.invariant.counted c.in-Some.ensures.counted c.in-Some.ensures.more;
  passed = c.in-Some.ensures.passed ∙ c.loop-written.invariant.passed;
}
