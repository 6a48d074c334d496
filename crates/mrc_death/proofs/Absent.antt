-- A task without a space has no entries, and nothing to take out.
use Rattle.std.proofs.Common.{◌≡◌, ℕ, None, ◌∙◌, ap, unwrap_or}
use Rattle.mrc_model.specs.Map.{empty, get}
use Rattle.mrc_model.specs.World.{Store, space}
use Rattle.mrc_model.specs.Destroyed.{receive_out, entry_out}
use Rattle.mrc_model.proofs.Maps.{get-empty}

no_entry : (s : Store) (t n : ℕ) → get s.spaces t ≡ None → get (space s t) n ≡ None
no_entry s t n absent = ap (λ o. get (unwrap_or o empty) n) absent ∙ get-empty n

pub no_receive_out : (s : Store) (t n : ℕ)
    → get s.spaces t ≡ None
    → receive_out s t n (get (space s t) n) ≡ None
no_receive_out s t n absent = ap (receive_out s t n) (no_entry s t n absent)

pub no_entry_out : (s : Store) (t n : ℕ)
    → get s.spaces t ≡ None
    → entry_out s t n (get (space s t) n) ≡ None
no_entry_out s t n absent = ap (entry_out s t n) (no_entry s t n absent)
