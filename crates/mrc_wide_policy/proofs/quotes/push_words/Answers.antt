-- All words were added.
use Rattle.std.proofs.Common.{map, ap, ◌++◌, ◌∙◌, Bor, List, ℕ}
use Rattle.std.proofs.lemmas.List.{take_all}
use Rattle.mrc_wiring_text.proofs.HeadingLemmas.{said_words}
use Rattle.mrc_wide_policy.proofs.quotes.push_words.Goals as goal

pub returns : goal.returns
returns c =
    let view = c.deref-word-items in
    let all = take_all c.loop-word.word-index view.result.now c.loop-word-test.false in
    let found = ap (map (λ (word : Bor (List ℕ)). word.now)) (all ∙ view.ensures.value)
    ∙ c.in_ok-found.ensures.exact
    ∙ said_words c.args.text.now _ _ c.deref.ensures.value c.in_ok-text.ensures in
    c.loop-word.invariant
    ∙ ap (λ more. map (λ word. word.items) c.args.said.now.items ++ more) found
