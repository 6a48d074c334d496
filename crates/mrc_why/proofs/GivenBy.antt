-- The line that gives a holding.
use Rattle.std.proofs.Common.{◌≡◌, ℕ, List, Option, Some, None, map, sym, ap, subst, ◌∙◌}
use Rattle.std.specs.Prelude.{slice_get, IfSome}
use Rattle.std.specs.Option.{option_map}
use Rattle.std.proofs.lemmas.Option.{slice_get-map}
use Rattle.mrc_base.specs.declared.PortRight.{PortRight}
use Rattle.mrc_model.specs.Breach.{Holding}
use Rattle.mrc_model.specs.FirstHoldings.{given_holdings, given_classes}
use Rattle.mrc_wiring.specs.Table.{wiring_of}
use Rattle.mrc_why.specs.declared.given_lines.Given.{Given}
use Rattle.mrc_why.specs.Lines.{Numbered, holding_of, Gives, IsGivenBy}

pub given_by : (x : Numbered) (given : List Given) (classes : List ℕ) (place t c : ℕ)
    (r : PortRight) (g : Given)
    → map holding_of given ≡ given_holdings (wiring_of x.table)
    → classes ≡ given_classes (wiring_of x.table)
    → Some g ≡ slice_get given place
    → Gives classes t c r g
    → (o : Option ℕ)
    → o ≡ slice_get x.numbers place
    → IfSome o (IsGivenBy x t c r)
given_by x given classes place t c r g all of_ports at gives None is = tt
given_by x given classes place t c r g all of_ports at gives (Some n) is = record {
  place = place;
  port = g.port;
  number = sym is;
  gives = ap (λ (hs : List Holding). slice_get hs place) (sym all)
      ∙ slice_get-map holding_of given place
      ∙ ap (option_map holding_of) (sym at)
      ∙ ap (λ u. Some (record { task = u; port = g.port; right = g.right })) gives.of_task
      ∙ ap (λ q. Some (record { task = t; port = g.port; right = q })) gives.of_right;
  class = subst (λ cs. slice_get cs g.port ≡ Some c) of_ports gives.of_class;
}
