use Rattle.std.proofs.Common.{◌≡◌, refl, sym, ◌∙◌, subst, Ok, OnOk, IfErr}
use Rattle.mrc_names.specs.Refusals.{IsRefusal}
use Rattle.mrc_names.proofs.SpaceExits.{at_sent_once, at_other, at_known}
use Rattle.mrc_names.proofs.space.Space.insert_at.Goals as goal

pub returns-in-SendOnce-clause-ok : goal.returns-in-SendOnce-clause-ok
returns-in-SendOnce-clause-ok c =
    let at = at_sent_once c.args.self.now c.args.name c.args.port c.args.right c.in-SendOnce.is in
    subst (λ m. OnOk c.insert_new.result (m ≡ Ok c.insert_new.new.self)) (sym at)
    c.insert_new.ensures.ok

pub returns-in-SendOnce-clause-refused : goal.returns-in-SendOnce-clause-refused
returns-in-SendOnce-clause-refused c =
    let at = at_sent_once c.args.self.now c.args.name c.args.port c.args.right c.in-SendOnce.is in
    subst (λ m. IfErr c.insert_new.result (λ e. IsRefusal e m)) (sym at)
    c.insert_new.ensures.refused

pub returns-then-is_other : goal.returns-then-is_other
returns-then-is_other c =
    let other =
    sym (c.is_other.ensures _ (sym c.find.ensures)) ∙ c.if-is_other.true in
    record {
      ok = tt;
      refused =
          at_other c.args.self.now c.args.name c.args.port c.args.right c.in_default.not-SendOnce
          other;
      err = refl;
    }

pub returns : goal.returns
returns c =
    let other =
    sym (c.is_other.ensures _ (sym c.find.ensures)) ∙ c.if-is_other.false in
    let at =
    at_known c.args.self.now c.args.name c.args.port c.args.right c.in_default.not-SendOnce other in
    record {
      ok =
          subst (λ m. OnOk c.insert_joined.result (m ≡ Ok c.insert_joined.new.self)) (sym at)
          c.insert_joined.ensures.ok;
      refused =
          subst (λ m. IfErr c.insert_joined.result (λ e. IsRefusal e m)) (sym at)
          c.insert_joined.ensures.refused;
      err = c.insert_joined.ensures.err;
    }
