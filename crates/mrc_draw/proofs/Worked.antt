-- Worked filters, over the facts of three tasks.
use Rattle.std.proofs.Common.{◌≡◌, true, false, List, [], ◌∷◌, Some, None, Err, refl}
use Rattle.std.specs.Prelude.{codes, filter}
use Rattle.mrc_base.specs.declared.PortRight.TheVariants.{Send, SendOnce}
use Rattle.mrc_base.specs.declared.Fact.{Fact}
use Rattle.mrc_base.specs.declared.Fact.TheVariants.{Hold, Backup}
use Rattle.mrc_model.specs.declared.FirstLine.TheVariants.{Task as TaskLine, Hold as HoldLine}
use Rattle.mrc_wiring.specs.Births.{new_row}
use Rattle.mrc_wiring.specs.Table.{Table}
use Rattle.mrc_draw.specs.declared.filter.FilterFault.TheVariants as faults
use Rattle.mrc_draw.specs.Filters.{matches, is_drawn, filter_of}

-- task a, task b, task c, hold a send task b: classes 0 to 2 are kernel ports, 3 to 5 births
abbrev three : Table
three = record {
  names = codes "a" ∷ codes "b" ∷ codes "c" ∷ [];
  births = new_row 0 0 ∷ new_row 1 0 ∷ new_row 2 0 ∷ [];
  ports = [];
  accepts = [];
  lines = TaskLine ∷ TaskLine ∷ TaskLine ∷ HoldLine 0 1 Send ∷ [];
  admits = [];
  interfaces = [];
  trusts = [];
  fits = false;
}

-- some of what they may come to hold, and a request
abbrev facts : List Fact
facts =
    Hold 0 0 Send ∷ Hold 0 1 Send ∷ Hold 0 4 Send ∷ Hold 0 4 SendOnce ∷ Hold 1 0 Send
    ∷ Hold 1 1 Send ∷ Hold 1 4 Send ∷ Hold 1 4 SendOnce ∷ Hold 2 2 Send ∷ Backup 4 5 ∷ []

-- those of b that are send rights
of_b : filter (matches (record { task = Some 1; class = None; right = Some Send })) facts
    ≡ Hold 1 0 Send ∷ Hold 1 1 Send ∷ Hold 1 4 Send ∷ []
of_b = refl

-- those in which the births of b stand
of_births : filter (matches (record { task = None; class = Some 4; right = None })) facts
    ≡ Hold 0 4 Send ∷ Hold 0 4 SendOnce ∷ Hold 1 4 Send ∷ Hold 1 4 SendOnce ∷ Backup 4 5 ∷ []
of_births = refl

-- the holds among them
holds_of_births :
    filter (is_drawn (record { task = None; class = Some 4; right = None }) true) facts
    ≡ Hold 0 4 Send ∷ Hold 0 4 SendOnce ∷ Hold 1 4 Send ∷ Hold 1 4 SendOnce ∷ []
holds_of_births = refl

-- the third word names no right
no_right : filter_of three (Some (codes "b")) None (Some (codes "sends")) ≡ Err faults.Right
no_right = refl
