-- Lines about trusted tasks, one after the other.
use Rattle.std.proofs.Common.{◌≡◌, ℕ, ◌+◌, ◌<◌, ◌≤◌, Bool, List, [], ◌∷◌, ◌++◌, length, take, drop}
use Rattle.std.proofs.Common.{get_or, refl, ap, sym, subst, ◌∙◌, inl, inr}
use Rattle.std.proofs.lemmas.List.{take_more, take_all, drop_more, take-append-drop}
use Rattle.mrc_base.specs.declared.Fact.{Fact}
use Rattle.mrc_base.specs.declared.Fact.TheVariants.{Hold}
use Rattle.mrc_base.specs.declared.PortRight.TheVariants.{Send}
use Rattle.mrc_model.specs.IsIn.{IsIn}
use Rattle.mrc_model.specs.Wiring.{Wiring, kernel_class}
use Rattle.mrc_model.proofs.FirstHeld.{in_one}
use Rattle.mrc_model.proofs.Members.{in_append}
use Rattle.mrc_wiring.specs.declared.table.TrustedLine.{TrustedLine}
use Rattle.mrc_wiring.specs.Table.{Table, wiring_of}
use Rattle.mrc_check.specs.Trusted.{AreSecure, IsSecure, IsFirstRewriter, IsExposed}

-- one line more
pub secure_more : (W : Wiring) (S : Fact → Bool) (lines : List TrustedLine) (i : ℕ)
    (d : TrustedLine)
    → i < length lines
    → AreSecure W S (take i lines)
    → IsSecure W S (get_or lines i d).task
    → AreSecure W S (take (i + 1) lines)
secure_more W S lines i d below before secure other at =
    elim (in_append other (take i lines) (get_or lines i d ∷ [])
    (subst (λ (xs : List TrustedLine). IsIn other xs) (take_more lines i d below) at)) [
      | inl old ↦ before other old
      | inr new ↦ subst (λ (x : TrustedLine). IsSecure W S x.task)
          (sym (in_one other (get_or lines i d) new)) secure
    ]

-- all lines
pub secure_all : (W : Wiring) (S : Fact → Bool) (lines : List TrustedLine) (i : ℕ)
    → length lines ≤ i
    → AreSecure W S (take i lines)
    → AreSecure W S lines
secure_all W S lines i end secure =
    subst (λ (xs : List TrustedLine). AreSecure W S xs) (take_all i lines end) secure

-- the first line whose task another may rewrite
pub exposed_at : (table : Table) (S : Fact → Bool) (lines : List TrustedLine) (i : ℕ)
    (d : TrustedLine) (by : ℕ) (f : Fact)
    → lines ≡ table.trusts
    → i < length lines
    → AreSecure (wiring_of table) S (take i lines)
    → IsFirstRewriter (wiring_of table) S (get_or lines i d).task by
    → f ≡ Hold by (kernel_class (wiring_of table) (get_or lines i d).task) Send
    → IsExposed table S (get_or lines i d).line f
exposed_at table S lines i d by f same below secure first fact = record {
  before = take i lines;
  line = get_or lines i d;
  behind = drop (i + 1) lines;
  lines = sym same ∙ (sym (take-append-drop i lines)
      ∙ ap (λ (xs : List TrustedLine). take i lines ++ xs) (drop_more lines i d below));
  secure = secure;
  number = refl;
  task = by;
  first = first;
  fact = fact;
}
