use Rattle.std.proofs.Common.{◌≡◌, ◌∙◌, ap, Bool, true, false, is_some, Option, Some, refl}
use Rattle.std.proofs.Common.{if◌then◌else◌}
use Rattle.std.specs.Str.{bytes_eq}
use Rattle.std.proofs.lemmas.Map.Text.{btree_map_updates_str}
use mathlib.Core.Path.{fun_ext}
use Rattle.mrc_mig_rows.proofs.names.TakenNames.insert.Goals as goal

-- what is set is there
some_if : {X : Type 0} (b : Bool) (x : X) (other : Option X)
    → is_some (if b then Some x else other) ≡ (if b then true else is_some other)
some_if true x other = refl
some_if false x other = refl

pub returns : goal.returns
returns c =
    fun_ext (λ name. ap is_some (btree_map_updates_str c.args.name.now c.args.self.now.taken
    c.insert.new.self _ c.in_ok-insert.ensures.updates name)
    ∙ some_if (bytes_eq c.args.name.now name) _ _)
