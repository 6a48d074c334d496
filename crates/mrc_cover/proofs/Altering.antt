-- Changes of all entries of a space that keep their rights.
use Rattle.std.proofs.Common.{None, Option, Some, ap, refl, subst, sym, true, ℕ, ◌∙◌, ◌≡◌}
use Rattle.mrc_base.specs.declared.PortRight.{PortRight}
use Rattle.mrc_model.proofs.Maps.{at_or_0, origin-alter_all, total-alter_all, total-same}
use Rattle.mrc_model.specs.Covers.{HasOneName, Known}
use Rattle.mrc_model.specs.Map.{alter_all, get}
use Rattle.mrc_model.specs.Space.{is_entry_of}
use Rattle.mrc_model.specs.World.{Space, entry_rights, receives, space_receives}
use Rattle.mrc_model.specs.declared.Entry.{Entry}
use Rattle.mrc_cover.proofs.Entries.{rights_left}
use Rattle.mrc_cover.proofs.Rights.{entry_receives}
use Rattle.mrc_cover.proofs.Taking.{one_name_if_traced}

-- a space whose entries keep their rights
pub record KeepsRights (g : ℕ → Entry → Option Entry) : Type 0 where
  pub rights : (k : ℕ) (e : Entry) → rights_left (g k e) ≡ entry_rights e
  pub names : (k : ℕ) (e f : Entry) → g k e ≡ Some f → (p : ℕ) → is_entry_of p f ≡ true
      → is_entry_of p e ≡ true

-- the receive rights of a name that may have nothing left
pub at_opt : (q k : ℕ) (o : Option Entry)
    → at_or_0 (entry_receives q) k o ≡ receives q (rights_left o)
at_opt q k None = refl
at_opt q k (Some e) = refl

-- the space has the same receive rights
pub space_receives-alter : (g : ℕ → Entry → Option Entry) (x : Space) (q : ℕ) → KeepsRights g
    → space_receives q (alter_all g x) ≡ space_receives q x
unfolding space_receives
space_receives-alter g x q keeps = total-alter_all (entry_receives q) g x
    ∙ total-same _ (entry_receives q) x (λ k e is. at_opt q k (g k e)
    ∙ ap (receives q) (keeps.rights k e))

-- its rights stay known
pub known-alter : (k : ℕ → Option ℕ) (F : ℕ → PortRight → Type 0) (g : ℕ → Entry
    → Option Entry) (x : Space)
    → KeepsRights g → ((n : ℕ) (e : Entry) → get x n ≡ Some e → Known k F (entry_rights e))
    → (n : ℕ) (e : Entry) → get (alter_all g x) n ≡ Some e → Known k F (entry_rights e)
known-alter k F g x keeps old n f is =
    let (e, at, made) = origin-alter_all g x n f is in
    subst (Known k F) (sym (keeps.rights n e) ∙ ap rights_left made) (old n e at)

-- a port still has one name
pub one_name-alter : (g : ℕ → Entry → Option Entry) (x : Space) → KeepsRights g → HasOneName x
    → HasOneName (alter_all g x)
one_name-alter g x keeps one = one_name_if_traced x (alter_all g x) one (λ m f p is here.
    let (e, at, made) = origin-alter_all g x m f is in
    (e, at, keeps.names m e f made p here))
