-- Runs that go on by one call after the other.
use Rattle.std.proofs.Common.{◌≡◌, ℕ, suc, ◌+◌, ◌<◌, ◌≤◌, List, [], ◌∷◌, ◌++◌, length, map, take}
use Rattle.std.proofs.Common.{get_or, sym, ap, subst, ◌∙◌, arith, append_assoc, drop, drop-cons}
use Rattle.std.proofs.Common.{add-one, refl}
use Rattle.std.proofs.lemmas.List.{append-nil, drop_all, length-append, length-map, length-take}
use Rattle.std.proofs.lemmas.List.{map-append}
use Rattle.std.proofs.Math.Seq.{take-suc}
use Rattle.mrc_model.specs.Map.{len}
use Rattle.mrc_model.specs.Wiring.{Wiring}
use Rattle.mrc_model.specs.World.{World}
use Rattle.mrc_model.specs.Reply.{Reply}
use Rattle.mrc_model.specs.First.{first}
use Rattle.mrc_model.specs.Step.{step}
use Rattle.mrc_model.specs.Runs.{Event, Run}
use Rattle.mrc_wiring_text.specs.declared.reading.Line.{Line}
use Rattle.mrc_wiring.specs.Table.{Table, wiring_of}
use Rattle.mrc_machine.specs.Calls.{call_of}
use Rattle.mrc_report.specs.declared.script.TaskCall.{TaskCall}
use Rattle.mrc_report.specs.Printing.{event_line, end_line}
use Rattle.mrc_report.specs.Replay.{IsReplay, asked, event_lines, made, replay_from, replay_text}

-- a run that leads on by one event
run_on : (W : Wiring) (v w x : World) (es : List Event) (e : Event)
    → Run W v es w
    → step W w e.task e.call ≡ (x, e.reply)
    → Run W v (es ++ e ∷ []) x
run_on W v w x [] e run next =
    let here : step W v e.task e.call ≡ (x, e.reply) =
    ap (λ u. step W u e.task e.call) run ∙ next in
    (ap (λ p. p.1) here, ap (λ p. p.0) here)
run_on W v w x (d ∷ ds) e run next =
    (run.0, run_on W (step W v d.task d.call).0 w x ds e run.1 next)

-- the line of one more event
pub line_on : (table : Table) (n : ℕ) (es : List Event) (e : Event)
    → event_lines table n (es ++ e ∷ [])
    ≡ event_lines table n es ++ event_line table (n + length es) e.task e.reply
line_on table n [] e =
    let place : n ≡ n + 0 = omega arith in
    append-nil (event_line table n e.task e.reply)
    ∙ ap (λ k. event_line table k e.task e.reply) place
line_on table n (d ∷ ds) e =
    let later = line_on table (n + 1) ds e in
    let place : n + 1 + length ds ≡ n + length (d ∷ ds) = omega arith in
    let front = event_line table n d.task d.reply in
    ap (λ rest. front ++ rest) later
    ∙ ap (λ k. front ++ (event_lines table (n + 1) ds ++ event_line table k e.task e.reply)) place
    ∙ simp append_assoc

-- what was printed so far of the run of the lines so far
pub record Played (table : Table) (lines : List (Line TaskCall)) (world : World) (text : List ℕ)
    : Type 0 where
  pub events : List Event
  pub calls : map made events ≡ map asked lines
  pub run : Run (wiring_of table) (first (wiring_of table)) events world
  pub printed : text ≡ event_lines table 0 events

-- as many events as lines
count : (events : List Event) (lines : List (Line TaskCall)) → map made events ≡ map asked lines
    → length events ≡ length lines
count events lines same =
    sym (length-map events made) ∙ ap length same ∙ length-map lines asked

-- one more line
pub played_on : (table : Table) (lines : List (Line TaskCall)) (line : Line TaskCall)
    (before after : World) (text : List ℕ) (reply : Reply) (n : ℕ)
    → Played table lines before text
    → n ≡ length lines
    → step (wiring_of table) before line.says.task (call_of line.says.call) ≡ (after, reply)
    → Played table (lines ++ line ∷ []) after (text ++ event_line table n line.says.task reply)
played_on table lines line before after text reply n p is next =
    let e : Event = record {
      task = line.says.task;
      call = call_of line.says.call;
      reply = reply;
    } in
    let place : n ≡ 0 + length p.events = omega (arith, is, count p.events lines p.calls) in
    record {
      events = p.events ++ e ∷ [];
      calls = map-append made p.events (e ∷ [])
          ∙ ap (λ calls. calls ++ asked line ∷ []) p.calls
          ∙ sym (map-append asked lines (line ∷ []));
      run = run_on (wiring_of table) (first (wiring_of table)) before after p.events e p.run next;
      printed = ap (λ front. front ++ event_line table n line.says.task reply) p.printed
          ∙ ap (λ k. event_lines table 0 p.events ++ event_line table k line.says.task reply) place
          ∙ sym (line_on table 0 p.events e);
    }

-- all lines, and the last line
pub all_played : (table : Table) (lines : List (Line TaskCall)) (world : World) (text : List ℕ)
    → Played table lines world text
    → IsReplay table lines (text ++ end_line (length lines) (len world.store.ports))
all_played table lines world text p =
    let many : length lines ≡ length p.events = sym (count p.events lines p.calls) in
    record {
      events = p.events;
      world = world;
      calls = p.calls;
      run = p.run;
      printed = ap (λ front. front ++ end_line (length lines) (len world.store.ports)) p.printed
          ∙ ap (λ k. event_lines table 0 p.events ++ end_line k (len world.store.ports)) many;
    }

-- the line at the place that a loop has come to
pub played_next : (table : Table) (all : List (Line TaskCall)) (n : ℕ) (line : Line TaskCall)
    (before after : World) (text printed : List ℕ) (reply : Reply)
    → Played table (take n all) before text
    → n < length all
    → line ≡ get_or all n line
    → step (wiring_of table) before line.says.task (call_of line.says.call) ≡ (after, reply)
    → printed ≡ text ++ event_line table n line.says.task reply
    → Played table (take (n + 1) all) after printed
played_next table all n line before after text printed reply p within is next shown =
    let few : n ≡ length (take n all) = omega (arith, length-take n all) in
    let place : suc n ≡ n + 1 = omega arith in
    let front : take n all ++ line ∷ [] ≡ take (n + 1) all =
    ap (λ x. take n all ++ x ∷ []) is ∙ sym (take-suc all n line within)
    ∙ ap (λ k. take k all) place in
    let on = played_on table (take n all) line before after text reply n p few next in
    subst (λ ls. Played table ls after printed) front
    (subst (Played table (take n all ++ line ∷ []) after) (sym shown) on)

-- what is printed from a place in the lines on, where a line is
pub told_next : (table : Table) (all : List (Line TaskCall)) (n : ℕ) (line : Line TaskCall)
    (world : World)
    → n < length all
    → line ≡ get_or all n line
    → replay_from table n world (drop n all)
    ≡ event_line table n line.says.task
    (step (wiring_of table) world line.says.task (call_of line.says.call)).1
    ++ replay_from table (n + 1)
    (step (wiring_of table) world line.says.task (call_of line.says.call)).0 (drop (n + 1) all)
told_next table all n line world within is =
    let parts : drop n all ≡ line ∷ drop (n + 1) all =
    drop-cons all n line within
    ∙ (λ i. sym is i ∷ drop (sym (add-one n) i) all) in
    ap (replay_from table n world) parts

-- and behind all lines
pub told_end : (table : Table) (all : List (Line TaskCall)) (n : ℕ) (world : World)
    → n ≤ length all
    → length all ≤ n
    → replay_from table n world (drop n all) ≡ end_line (length all) (len world.store.ports) ++ []
told_end table all n world within past =
    let same : n ≡ length all = omega (arith, within, past) in
    ap (replay_from table n world) (drop_all n all past)
    ∙ ap (λ k. end_line k (len world.store.ports)) same
    ∙ sym (append-nil (end_line (length all) (len world.store.ports)))

-- the run of some lines goes on by the others
told_on : (table : Table) (before after : List (Line TaskCall)) (world : World) (text : List ℕ)
    → Played table before world text
    → IsReplay table (before ++ after) (text ++ replay_from table (length before) world after)
told_on table before [] world text played =
    subst (λ ls. IsReplay table ls
    (text ++ end_line (length before) (len world.store.ports))) (sym (append-nil before))
    (all_played table before world text played)
told_on table before (l ∷ ls) world text played =
    let next = step (wiring_of table) world l.says.task (call_of l.says.call) in
    let line = event_line table (length before) l.says.task next.1 in
    let more : length (before ++ l ∷ []) ≡ length before + 1 = length-append before (l ∷ []) in
    let lines : (before ++ l ∷ []) ++ ls ≡ before ++ l ∷ ls = append_assoc before (l ∷ []) ls in
    let shown : (text ++ line) ++ replay_from table (length (before ++ l ∷ [])) next.0 ls
    ≡ text ++ (line ++ replay_from table (length before + 1) next.0 ls) =
    ap (λ k. (text ++ line) ++ replay_from table k next.0 ls) more
    ∙ append_assoc text line (replay_from table (length before + 1) next.0 ls) in
    subst (λ s. IsReplay table s
    (text ++ replay_from table (length before) world (l ∷ ls))) lines
    (subst (IsReplay table ((before ++ l ∷ []) ++ ls)) shown
    (told_on table (before ++ l ∷ []) ls next.0 (text ++ line)
    (played_on table before l world next.0 text next.1 (length before) played refl refl)))

-- what is printed of a script is the run of its calls
pub replay_told : (table : Table) (script : List (Line TaskCall))
    → IsReplay table script (replay_text table script)
replay_told table script =
    told_on table [] script (first (wiring_of table)) [] record {
      events = [];
      calls = refl;
      run = refl;
      printed = refl;
    }
