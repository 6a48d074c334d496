-- Step. What the search for slots that never carry a right knows, and what is done where a written
-- line ends. This profile's own choice.
use Rattle.std.specs.Prelude.{◌≡◌, ℕ, ◌<◌, ◌==◌, Bool, List, [], length, Vec, if◌then◌else◌}
use Rattle.std.specs.declared.alloc.Global.{Global}
use Rattle.mrc_base.specs.declared.Fact.{Fact}
use Rattle.mrc_facts.specs.Sets.{has}
use Rattle.mrc_forms.specs.declared.form.MessageKind.{MessageKind}
use Rattle.mrc_forms.specs.declared.form.MessageKind.TheVariants as messages
use Rattle.mrc_model.specs.Wiring.{Wiring}
use Rattle.mrc_rows.specs.Rows.{words_of}
use Rattle.mrc_wiring.specs.Finding.{item_of}
use Rattle.mrc_wiring.specs.Table.{Table, wiring_of}
use Rattle.mrc_dead.specs.declared.parts.QuietLine.{QuietLine}
use Rattle.mrc_dead.specs.declared.slots.Judged.{Judged}
use Rattle.mrc_dead.specs.declared.slots.Search.{Search}
use Rattle.mrc_dead.specs.Asking.{askers}
use Rattle.mrc_dead.specs.Dead.{Wanted, quiet_line}

-- the rows are the tasks that may ask for this message of each interface
pub record AreAskers
    (W : Wiring)
    (set : Fact → Bool)
    (kind : MessageKind)
    (count : ℕ)
    (rows : List (Vec ℕ Global))
    : Type 0 where
  pub len : length rows ≡ count
  pub each : (s : ℕ) → s < count → words_of rows s ≡ askers W set (item_of kind s)

-- both rows are known of each interface of the system
pub record HasAskers (system : Judged) : Type 0 where
  pub requests_are : AreAskers (wiring_of system.wired.now) (has system.facts.now) messages.Request
      (length system.wired.now.interfaces) system.requests.now
  pub replies_are : AreAskers (wiring_of system.wired.now) (has system.facts.now) messages.Reply
      (length system.wired.now.interfaces) system.replies.now

-- what is looked for
abbrev pub wanted : Search → Wanted
wanted search = record {
  table = search.wired.now;
  set = has search.facts.now;
  interface = search.interface;
  type_name = search.type_name.now;
}

-- the search knows the tasks that may ask for messages of its interface
pub record KnowsAskers (search : Search) : Type 0 where
  pub requests_are : search.requests.now
      ≡ askers (wiring_of search.wired.now) (has search.facts.now)
      (item_of messages.Request search.interface)
  pub replies_are : search.replies.now
      ≡ askers (wiring_of search.wired.now) (has search.facts.now)
      (item_of messages.Reply search.interface)

-- the classes so far of the line of this number, behind those of the last line: these, if it is
-- that line
abbrev pub going_on : (last number : ℕ) → List ℕ → List ℕ
going_on last number cs = if last == number then cs else []

-- the last line, if it ends in front of the line of this number and is quiet
abbrev pub ended : Table → (Fact → Bool) → (last number : ℕ) → List ℕ → List QuietLine
ended table set last number cs = if last == number then [] else quiet_line table set last cs
