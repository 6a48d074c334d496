-- The calls of a script end in one world.
use Rattle.std.proofs.Common.{◌≡◌, ℕ, ◌+◌, ◌<◌, ◌≤◌, List, [], ◌∷◌, ◌++◌, length, map, take}
use Rattle.std.proofs.Common.{get_or, sym, ap, subst, refl, ◌∙◌}
use Rattle.std.proofs.lemmas.List.{take_all}
use Rattle.mrc_model.specs.First.{first}
use Rattle.mrc_model.specs.Reply.{Reply, Call}
use Rattle.mrc_model.specs.Runs.{Event, Run}
use Rattle.mrc_model.specs.Step.{step}
use Rattle.mrc_model.specs.Wiring.{Wiring}
use Rattle.mrc_model.specs.World.{World}
use Rattle.mrc_wiring.specs.Table.{Table, wiring_of}
use Rattle.mrc_wiring_text.specs.declared.reading.Line.{Line}
use Rattle.mrc_machine.specs.Calls.{call_of}
use Rattle.mrc_report.specs.declared.script.TaskCall.{TaskCall}
use Rattle.mrc_report.specs.Printing.{event_line}
use Rattle.mrc_report.specs.Replay.{event_lines, made}
use Rattle.mrc_report.proofs.ReplayLaws.{Played, played_next}
use Rattle.mrc_attack.specs.Leaks.{IsEnd}

-- runs of the same calls end in the same world
run_same : (W : Wiring) (v w x : World) (es fs : List Event) → map made es ≡ map made fs
    → Run W v es w → Run W v fs x → w ≡ x
run_same W v w x [] [] same one other = sym one ∙ other
run_same W v w x [] (f ∷ fs) same one other = absurd cc
run_same W v w x (e ∷ es) [] same one other = absurd cc
run_same W v w x (e ∷ es) (f ∷ fs) same one other =
    let head : made e ≡ made f = cc in
    let tail : map made es ≡ map made fs = cc in
    let after : ℕ × Call → World = λ call. (step W v call.0 call.1).0 in
    run_same W (after (made e)) w x es fs tail one.1
    (subst (λ u. Run W u fs x) (sym (ap after head)) other.1)

pub end_same : (table : Table) (says : List (Line TaskCall)) (v w : World)
    → IsEnd table says v → IsEnd table says w → v ≡ w
end_same table says v w one other =
    run_same (wiring_of table) (first (wiring_of table)) v w one.events other.events
    (one.calls ∙ sym other.calls) one.run other.run

-- no call leads from the first state to itself
pub end_none : (table : Table) (w : World) → w ≡ first (wiring_of table) → IsEnd table [] w
end_none table w is = record { events = []; calls = refl; run = sym is }

-- one more call: that of the place that a loop has come to
pub end_next : (table : Table) (all : List (Line TaskCall)) (n : ℕ) (line : Line TaskCall)
    (v w : World) (reply : Reply)
    → IsEnd table (take n all) v
    → n < length all
    → line ≡ get_or all n line
    → step (wiring_of table) v line.says.task (call_of line.says.call) ≡ (w, reply)
    → IsEnd table (take (n + 1) all) w
end_next table all n line v w reply end within is next =
    let text = event_lines table 0 end.events in
    let so_far : Played table (take n all) v text = record {
      events = end.events;
      calls = end.calls;
      run = end.run;
      printed = refl;
    } in
    let more = played_next table all n line v w text
    (text ++ event_line table n line.says.task reply) reply so_far within is next refl in
    record { events = more.events; calls = more.calls; run = more.run }

-- all
pub end_whole : (table : Table) (all : List (Line TaskCall)) (n : ℕ) (w : World)
    → IsEnd table (take n all) w → length all ≤ n → IsEnd table all w
end_whole table all n w end past =
    subst (λ (says : List (Line TaskCall)). IsEnd table says w) (take_all n all past) end
