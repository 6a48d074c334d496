-- What the calls that only ask come to, from what each step of code tells.
use Rattle.std.proofs.Common.{◌≡◌, ℕ, Option, Some, None, Ok, Err, List, map, refl, sym, ◌∙◌, ap}
use Rattle.std.specs.Prelude.{option_map}
use Rattle.mrc_base.specs.declared.Right.{Right}
use Rattle.mrc_model.specs.declared.Entry.{Entry}
use Rattle.mrc_model.specs.declared.Code.TheVariants.{KernInvalidTask}
use Rattle.mrc_model.specs.Map.{get}
use Rattle.mrc_model.specs.World.{Space, World, space}
use Rattle.mrc_model.specs.Reply.{Reply, Refs, Mask, Names, Refused, Try, ◌>>=◌, or_refuse}
use Rattle.mrc_model.specs.Target.{bad_name, entry_at}
use Rattle.mrc_model.specs.CallNames.{refs_of, mask_of, call_get_refs, call_type, call_names}
use Rattle.mrc_names.specs.Listings.{entry_name}
use Rattle.mrc_machine.specs.Housing.{target_of}
use Rattle.mrc_machine.proofs.TargetLaws.{target_none, target_some}

-- references

pub refs_no_task : (w : World) (t task name : ℕ) (r : Right)
    → target_of w t task ≡ None
    → call_get_refs w t task name r ≡ Err (Refused KernInvalidTask)
unfolding call_get_refs ◌>>=◌
refs_no_task w t task name r none = rw (target_none w t task KernInvalidTask none) refl

-- the answer for so many references, or for no entry
abbrev refs_told : World → Option ℕ → Try (World × Reply)
refs_told w None = Err bad_name
refs_told w (Some refs) = Ok (w, Refs refs)

refs_of_entry : (w : World) (r : Right) (o : Option Entry)
    → (or_refuse o bad_name >>= λ e. Ok (w, Refs (refs_of e r)))
    ≡ refs_told w (option_map (λ e. refs_of e r) o)
unfolding ◌>>=◌ or_refuse
refs_of_entry w r None = refl
refs_of_entry w r (Some e) = refl

pub refs_are : (w : World) (t task name u : ℕ) (r : Right) (x : Space) (found o : Option ℕ)
    → target_of w t task ≡ Some u
    → x ≡ space w.store u
    → found ≡ option_map (λ e. refs_of e r) (get x name)
    → found ≡ o
    → call_get_refs w t task name r ≡ refs_told w o
unfolding call_get_refs entry_at ◌>>=◌
refs_are w t task name u r x found o task_is copy refs is =
    let told : option_map (λ e. refs_of e r) (get (space w.store u) name) ≡ o =
    ap (λ y. option_map (λ e. refs_of e r) (get y name)) (sym copy) ∙ sym refs ∙ is in
    rw (target_some w t task u KernInvalidTask task_is)
    (refs_of_entry w r (get (space w.store u) name) ∙ ap (refs_told w) told)

-- masks

pub type_no_task : (w : World) (t task name : ℕ)
    → target_of w t task ≡ None
    → call_type w t task name ≡ Err (Refused KernInvalidTask)
unfolding call_type ◌>>=◌
type_no_task w t task name none = rw (target_none w t task KernInvalidTask none) refl

-- the answer for these bits, or for no entry
abbrev mask_told : World → Option ℕ → Try (World × Reply)
mask_told w None = Err bad_name
mask_told w (Some mask) = Ok (w, Mask mask)

mask_of_entry : (w : World) (o : Option Entry)
    → (or_refuse o bad_name >>= λ e. Ok (w, Mask (mask_of e))) ≡ mask_told w (option_map mask_of o)
unfolding ◌>>=◌ or_refuse
mask_of_entry w None = refl
mask_of_entry w (Some e) = refl

pub mask_is : (w : World) (t task name u : ℕ) (x : Space) (o : Option ℕ)
    → target_of w t task ≡ Some u
    → x ≡ space w.store u
    → o ≡ option_map mask_of (get x name)
    → call_type w t task name ≡ mask_told w o
unfolding call_type entry_at ◌>>=◌
mask_is w t task name u x o task_is copy mask =
    let told : option_map mask_of (get (space w.store u) name) ≡ o =
    ap (λ y. option_map mask_of (get y name)) (sym copy) ∙ sym mask in
    rw (target_some w t task u KernInvalidTask task_is)
    (mask_of_entry w (get (space w.store u) name) ∙ ap (mask_told w) told)

-- names

pub names_no_task : (w : World) (t task : ℕ)
    → target_of w t task ≡ None
    → call_names w t task ≡ Err (Refused KernInvalidTask)
unfolding call_names ◌>>=◌
names_no_task w t task none = rw (target_none w t task KernInvalidTask none) refl

pub names_are : (w : World) (t task u : ℕ) (names : List (ℕ × ℕ))
    → target_of w t task ≡ Some u
    → names ≡ map entry_name (space w.store u).list
    → call_names w t task ≡ Ok (w, Names names)
unfolding call_names ◌>>=◌
names_are w t task u names task_is is =
    rw (target_some w t task u KernInvalidTask task_is) (ap (λ ns. Ok (w, Names ns)) (sym is))
