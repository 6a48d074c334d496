use Rattle.std.proofs.Common.{◌+◌, ◌++◌, [], ◌∷◌, refl, sym, ◌∙◌, ap}
use Rattle.std.proofs.lemmas.List.{append-nil}
use Rattle.mrc_mig_symbols.specs.declared.outer.Run.{Run}
use Rattle.mrc_mig_symbols.specs.Outer.{placed_of, unrolled}
use Rattle.mrc_mig_symbols.proofs.OuterLemmas.{one_alone, one_inner}
use Rattle.mrc_mig_symbols.proofs.outer.Outer.push.Goals as goal
use Rattle.mrc_mig_symbols.proofs.outer.Outer.push.Goals.{in-Some}
use Rattle.mrc_mig_symbols.proofs.outer.Outer.push.Goals.{in-Some-2+in_ok-push-in-Some-2, in-None}

pub returns : goal.returns
returns c =
    let alone : Run = record { sum = c.args.sum; more = 0 } in
    elim c.match-pop.branch [
      | in-Some w ↦
          let run = w.in-Some.run' in
          let longer : Run = record { sum = run.sum; more = run.more + 1 } in
          one_inner c.pop.new.self.items c.self.inside.runs.items c.push-2.new.self.items run longer
          w.in-Some.ensures.items
          (c.in_ok-push.ensures.items
          ∙ ap (λ s. s.runs.items ++ c.match-pop.run ∷ []) w.self-inside-is
          ∙ ap (λ r. c.pop.new.self.items ++ r ∷ []) w.run-is)
          refl refl
          ∙ ap (λ p. p ∷ unrolled c.self.inside.runs.items) (sym (w.precedes.ensures w.if-precedes.true))
          ∙ ap (λ l. placed_of c.args.sum ∷ l) c.self.view_is
      | in-Some-2+in_ok-push-in-Some-2 w ↦
          one_alone c.self.inside.runs.items c.push-2.new.self.items alone
          (c.in_ok-push.ensures.items
          ∙ ap (λ s. s.runs.items ++ c.match-pop.run ∷ []) w.self-inside-is
          ∙ ap (λ r. w.push.new.self.items ++ r ∷ []) w.run-is
          ∙ ap (λ l. l ++ alone ∷ [])
          (w.in_ok-push-in-Some-2.ensures.items ∙ sym w.in-Some.ensures.items)) refl
          ∙ ap (λ l. placed_of c.args.sum ∷ l) c.self.view_is
      | in-None w ↦
          one_alone c.self.inside.runs.items c.push-2.new.self.items alone
          (c.in_ok-push.ensures.items
          ∙ ap (λ s. s.runs.items ++ c.match-pop.run ∷ []) w.self-inside-is
          ∙ ap (λ r. c.pop.new.self.items ++ r ∷ []) w.run-is
          ∙ ap (λ l. l ++ alone ∷ [])
          (sym (w.in-None.ensures.items ∙ append-nil c.pop.new.self.items))) refl
          ∙ ap (λ l. placed_of c.args.sum ∷ l) c.self.view_is
    ]
