-- A line that goes on from the lines in front of it, and one that is refused.
use Rattle.std.proofs.Common.{◌≡◌, ◌+◌, ◌<◌, ℕ, List, Result, Err, length, get_or, drop}
use Rattle.std.proofs.Common.{ap, sym, ◌∙◌, subst}
use Rattle.mrc_base.specs.declared.memory.OrMemory.{OrMemory}
use Rattle.mrc_base.specs.declared.memory.OrMemory.TheVariants.{Fault, Memory}
use Rattle.mrc_base.specs.Reading.{◌>>=◌, Refuses}
use Rattle.mrc_wiring_text.specs.declared.reading.Line.{Line}
use Rattle.mrc_wiring_text.specs.declared.wiring.WiringSays.{WiringSays}
use Rattle.mrc_stand_for.specs.declared.faults.StandFault.{StandFault}
use Rattle.mrc_stand_for.specs.declared.known.Known.{Known}
use Rattle.mrc_stand_for.specs.declared.standing.Standing.{Standing}
use Rattle.mrc_stand_for.specs.declared.standing.StandsFor.{StandsFor}
use Rattle.mrc_stand_for.specs.Steps.{each}
use Rattle.mrc_stand_for.specs.Standing.{Stands, Stood, stands, add_part, add_parts, stopped}
use Rattle.mrc_stand_for.specs.Standing.{all_or_front}
use Rattle.mrc_stand_for.proofs.EachLemmas.{each_next}

stood_then : (e : OrMemory StandFault) (new : Standing) (r : Result Standing StandsFor)
    (f : Standing → Result Standing StandsFor)
    → Stood (Err e) new r → Stood (Err e) new (r >>= f)
stood_then (Fault fault) new r f h = ap (λ s. s >>= f) h
stood_then Memory new r f h = tt

-- a step that is refused
pub each_stood : {A : Type 0} (e : OrMemory StandFault) (new : Standing)
    (step : Standing → A → Result Standing StandsFor) (s : Standing)
    (total : Result Standing StandsFor) (xs : List A) (i : ℕ) (x : A)
    → i < length xs → x ≡ get_or xs i x
    → total ≡ each step s (drop i xs) → Stood (Err e) new (step s x)
    → Stood (Err e) new total
each_stood e new step s total xs i x less is told stood =
    subst (Stood (Err e) new) (sym (told ∙ each_next step s xs i x less is))
    (stood_then e new (step s x) (λ more. each step more (drop (i + 1) xs)) stood)

-- the lines in front, as an answer
abbrev refused_at : StandFault → List (Line WiringSays) → Result Standing StandsFor
refused_at fault lines = Err (record { lines = lines; end = Err fault })

refused_same : (fault : StandFault) (lines others : List (Line WiringSays)) → lines ≡ others
    → refused_at fault lines ≡ refused_at fault others
refused_same fault lines others same = ap (refused_at fault) same

-- a line of which no part is stood for
pub line_stopped : (e : OrMemory StandFault) (so_far new : Standing) (n : ℕ)
    (said : Result Stands StandFault)
    → so_far.lines ≡ new.lines → Refuses e said → Stood (Err e) new (add_parts so_far n said)
line_stopped (Fault fault) so_far new n said same h =
    ap (add_parts so_far n) h ∙ refused_same fault so_far.lines new.lines same
line_stopped Memory so_far new n said same h = tt

-- a line goes on with its parts, one after the other
pub line_goes : (so_far : Standing) (known : Known) (n : ℕ) (parts items : List WiringSays)
    (said : Result Stands StandFault)
    → said ≡ stands known parts → items ≡ parts
    → each (add_part n) (record so_far { known = known }) items ≡ add_parts so_far n said
line_goes so_far known n parts items said is same =
    ap (each (add_part n) (record so_far { known = known })) same
    ∙ ap (add_parts so_far n) (sym is)

-- the lines in front of a fault
pub refused_front : (e : OrMemory StandFault) (fault : StandFault) (new : Standing)
    (r : Result Standing StandsFor)
    → e ≡ Fault fault → Stood (Err e) new r
    → stopped new fault ≡ all_or_front r
refused_front e fault new r is h =
    sym (ap all_or_front (subst (λ (f : OrMemory StandFault). Stood (Err f) new r) is h))
