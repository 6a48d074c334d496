-- A part that cannot be read is carried.
use Rattle.std.proofs.Common.{◌≡◌, ℕ, zero, suc, ◌||◌, Bool, true, false, List, [], ◌∷◌, ◌++◌}
use Rattle.std.proofs.Common.{map, refl, ap, ◌∙◌, arith, if◌then◌else◌}
use Rattle.std.specs.Prelude.{Contains, filter}
use Rattle.mrc_mig_bodies.specs.Carried.{carries}
use Rattle.mrc_mig_bodies.specs.Parameters.{Parameter}
use Rattle.mrc_mig_bodies.specs.Roles.{is_port_from, marked_if, settled_behind}
use Rattle.mrc_mig_types.specs.Table.{Known}
use Rattle.mrc_mig_rows.specs.declared.carried.Judges.{Judges}
use Rattle.mrc_mig_rows.specs.declared.kinds.RowKind.{RowKind}
use Rattle.mrc_mig_rows.specs.Carried.{carrier_by, carried_of, parameters_of, results_by}
use Rattle.mrc_mig_rows.specs.Kinds.{routine_kind}
use Rattle.mrc_mig_rows.specs.Laws.{nobody_knows}
use Rattle.mrc_mig_rows.specs.Parts.{View, Unread, parameter_in, unknown}

map_keeps : {X Y : Type 0} (f : X → Y) (xs : List X) (x : X) → Contains xs x
    → Contains (map f xs) (f x)
map_keeps f [] x (k, less, is) = absurd (omega arith)
map_keeps f (y ∷ xs) x (zero, less, is) = (zero, omega arith, ap f is)
map_keeps f (y ∷ xs) x (suc k, less, is) =
    let h = map_keeps f xs x (k, omega arith, is) in (suc h.0, omega arith, h.2)

append_keeps : {X : Type 0} (xs ys : List X) (x : X) → Contains xs x → Contains (xs ++ ys) x
append_keeps [] ys x (k, less, is) = absurd (omega arith)
append_keeps (y ∷ xs) ys x (zero, less, is) = (zero, omega arith, is)
append_keeps (y ∷ xs) ys x (suc k, less, is) =
    let h = append_keeps xs ys x (k, omega arith, is) in (suc h.0, omega arith, h.2)

-- the parameter of an unread part is settled already
settled_keeps : (has_port : Bool) (xs : List Parameter) (place : ℕ) → Contains xs (unknown place)
    → Contains (settled_behind has_port xs) (unknown place)
settled_keeps has_port [] place (k, less, is) = absurd (omega arith)
settled_keeps has_port (y ∷ xs) place (zero, less, is) =
    (zero, omega arith, ap (λ (a : Parameter). marked_if (is_port_from has_port a.role) a) is)
settled_keeps has_port (y ∷ xs) place (suc k, less, is) =
    let h = settled_keeps (has_port || is_port_from has_port y.role) xs place (k, omega arith, is) in
    (suc h.0, omega arith, h.2)

-- an element that passes a test, of one that does or not and others
either : {X : Type 0} (b : Bool) (y : X) (ys : List X) (x : X) → Contains ys x
    → Contains (if b then y ∷ ys else ys) x
either true y ys x (k, less, is) = (suc k, omega arith, is)
either false y ys x h = h

filter_keeps : {X : Type 0} (p : X → Bool) (xs : List X) (x : X) → p x ≡ true → Contains xs x
    → Contains (filter p xs) x
filter_keeps p [] x holds (k, less, is) = absurd (omega arith)
filter_keeps p (y ∷ xs) x holds (zero, less, is) =
    let here : p y ≡ true = ap p is ∙ holds in rw here (zero, omega arith, is)
filter_keeps p (y ∷ xs) x holds (suc k, less, is) =
    either (p y) y (filter p xs) x (filter_keeps p xs x holds (k, omega arith, is))

-- a part that cannot be read is carried
pub unread_carries : (types : Known) (kind : RowKind) (by : Judges) (name : List ℕ) (view : View)
    (place : ℕ) → Contains view.pieces (Unread place)
    → Contains (carried_of types kind by name view) nobody_knows
unfolding carried_of
unread_carries types kind by name view place h =
    let test = carries (routine_kind kind) by.request by.reply in
    let part = map_keeps parameter_in view.pieces (Unread place) h in
    let all = append_keeps (map parameter_in view.pieces)
    (results_by view.is_opened kind types name view.end) (unknown place) part in
    let fixed = settled_keeps false (parameters_of types kind name view) place all in
    map_keeps carrier_by
    (filter test (settled_behind false (parameters_of types kind name view))) (unknown place)
    (filter_keeps test (settled_behind false (parameters_of types kind name view)) (unknown place)
    refl fixed)
