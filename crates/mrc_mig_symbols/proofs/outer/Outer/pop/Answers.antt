use Rattle.std.proofs.Common.{◌≡◌, ◌+◌, ◌++◌, [], ◌∷◌, refl, sym, ◌∙◌, ap, arith}
use Rattle.mrc_mig_symbols.specs.declared.outer.Run.{Run}
use Rattle.mrc_mig_symbols.specs.Outer.{unrolled}
use Rattle.mrc_mig_symbols.proofs.OuterLemmas.{one_alone, one_inner}
use Rattle.mrc_mig_symbols.proofs.outer.Outer.pop.Goals as goal

pub returns-in-None : goal.returns-in-None
returns-in-None c =
    sym c.self.view_is
    ∙ one_alone c.pop.new.self.items c.self.inside.runs.items c.in_ok-run.run'
    c.in_ok-run.ensures.items (grind arith)

pub returns-in-Some : goal.returns-in-Some
returns-in-Some c =
    let shorter : Run = record { sum = c.in_ok-run.run'.sum; more = c.in-Some.more } in
    let pushed : c.push.new.self.items ≡ c.pop.new.self.items ++ shorter ∷ [] = grind arith in
    let more : c.in_ok-run.run'.more ≡ c.in-Some.more + 1 = grind arith in
    sym c.self.view_is
    ∙ one_inner c.pop.new.self.items c.push.new.self.items c.self.inside.runs.items shorter
    c.in_ok-run.run' pushed c.in_ok-run.ensures.items refl more
    ∙ ap (λ p. p ∷ unrolled c.push.new.self.items) (sym c.inner.ensures)
