-- What is handed over by a disposition is a right.
use Rattle.std.proofs.Common.{◌≡◌, ℕ, true, [], Option, Some, None, refl, ap, sym, ◌∙◌, rules}
use Rattle.std.specs.Prelude.{◌||◌, false, is_some}
use Rattle.std.specs.List.{cons_option}
use Rattle.mrc_base.specs.declared.Disp.{Disp}
use Rattle.mrc_base.specs.Disposition.{disp_of_number, is_port_number}
use Rattle.mrc_forms.specs.Types.{dispositions_of, has_rights}
use Rattle.mrc_forms.specs.declared.types.ItemTypes.{ItemTypes}
use Rattle.mrc_forms.specs.declared.types.ItemTypes.TheVariants.{AnyData, One, Send, SendOnce, Any}
use Rattle.mrc_model.specs.IsIn.{IsIn}

-- the numbers that stand for a disposition are those of port rights
port_numbers : (n : ℕ) → is_some (disp_of_number n) ≡ is_port_number n
port_numbers n = search rules

-- items with a disposition have the type number of a right
pub handed_is_right : (types : ItemTypes) (d : Disp) → IsIn d (dispositions_of types)
    → has_rights types ≡ true
handed_is_right AnyData d h = elim h [ ]
handed_is_right (One n) d h = ap (λ b. b || false) (by (disp_of_number n) refl h)
  where
    by : (o : Option Disp) → disp_of_number n ≡ o → IsIn d (cons_option o [])
        → is_port_number n ≡ true
    by None e h = elim h [ ]
    by (Some x) e h = sym (port_numbers n) ∙ ap is_some e
handed_is_right Send d h = refl
handed_is_right SendOnce d h = refl
handed_is_right Any d h = refl
