-- Room for a key more is a place in the table.
use Rattle.std.proofs.Common.{◌≡◌, ℕ, ◌<◌, ◌≤◌, ◌+◌, List, length, ap, arith, nat_eq}
use Rattle.std.specs.Map.{keys_of}
use Rattle.std.specs.List.{IsDistinct}
use Rattle.mrc_model.specs.Map.{len}
use Rattle.mrc_map.specs.Lookups.{gathered}
use Rattle.mrc_map.specs.Rooms.{Roomy}
use Rattle.mrc_map.proofs.LookupLaws.{gathered_len}

pub has_place : {X : Type 0} (es : List (ℕ × X)) (room places : ℕ) (m : Roomy X)
    → record { map = gathered es; room = room } ≡ m
    → IsDistinct nat_eq (keys_of es)
    → room ≤ length es + places
    → len m.map < m.room
    → 0 < places
has_place {X} es room places m is once within less =
    let count = gathered_len es once in
    let shown = ap (λ (r : Roomy X). len r.map) is in
    let as_many = ap (λ (r : Roomy X). r.room) is in
    omega arith
