-- What changes of references come to, exit by exit.
use Rattle.std.proofs.Common.{◌≡◌, ℕ, ◌<◌, ◌≤◌, Option, Some, Ok, Err, refl, arith}
use Rattle.std.proofs.lemmas.Bool.{lt-ltb}
use Rattle.std.specs.Prelude.{ℤ}
use Rattle.mrc_model.specs.declared.Code.{Code}
use Rattle.mrc_model.specs.declared.Entry.TheVariants.{Receive as ReceiveEntry}
use Rattle.mrc_model.specs.Reply.{Refused, ◌>>=◌, ◌>>◌, check}
use Rattle.mrc_model.specs.Space.{send_entry, dead_entry}
use Rattle.mrc_model.specs.Target.{wrong_right}
use Rattle.mrc_model.specs.CallDeallocate.{Remains}
use Rattle.mrc_model.specs.CallModRefs.{plus, new_refs, changed_refs, changed_beside, changed_sends}

zero_is : (k : ℕ) → k ≤ 0 → k ≡ 0
zero_is k h = omega arith

-- a receive entry without send references lacks the right
pub beside_none : (p k : ℕ) (i : Option ℕ) (delta : ℤ)
    → k ≤ 0
    → changed_beside p k i delta ≡ Err wrong_right
unfolding ◌>>◌ check
beside_none p k i delta none = rw (zero_is k none) refl

pub beside_ok : (p k : ℕ) (i : Option ℕ) (delta : ℤ) (n : ℕ)
    → 0 < k
    → new_refs (plus k delta) ≡ Ok n
    → changed_beside p k i delta ≡ Ok (Remains (Some (ReceiveEntry p n i)))
unfolding ◌>>◌ ◌>>=◌ check
beside_ok p k i delta n some is = rw (lt-ltb 0 k some, is) refl

pub beside_err : (p k : ℕ) (i : Option ℕ) (delta : ℤ) (code : Code)
    → 0 < k
    → new_refs (plus k delta) ≡ Err (Refused code)
    → changed_beside p k i delta ≡ Err (Refused code)
unfolding ◌>>◌ ◌>>=◌ check
beside_err p k i delta code some is = rw (lt-ltb 0 k some, is) refl

pub sends_ok : (p k : ℕ) (delta : ℤ) (n : ℕ) (e : _)
    → new_refs (plus k delta) ≡ Ok n
    → e ≡ send_entry p n
    → changed_sends p k delta ≡ Ok (Remains e)
unfolding ◌>>=◌
sends_ok p k delta n e is left = rw (is, left) refl

pub sends_err : (p k : ℕ) (delta : ℤ) (code : Code)
    → new_refs (plus k delta) ≡ Err (Refused code)
    → changed_sends p k delta ≡ Err (Refused code)
unfolding ◌>>=◌
sends_err p k delta code is = rw is refl

pub refs_ok : (k : ℕ) (delta : ℤ) (n : ℕ) (e : _)
    → new_refs (plus k delta) ≡ Ok n
    → e ≡ dead_entry n
    → changed_refs k delta ≡ Ok (Remains e)
unfolding ◌>>=◌
refs_ok k delta n e is left = rw (is, left) refl

pub refs_err : (k : ℕ) (delta : ℤ) (code : Code)
    → new_refs (plus k delta) ≡ Err (Refused code)
    → changed_refs k delta ≡ Err (Refused code)
unfolding ◌>>=◌
refs_err k delta code is = rw is refl
