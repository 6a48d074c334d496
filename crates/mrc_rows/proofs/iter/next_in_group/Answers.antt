use Rattle.std.proofs.Common.{◌+◌, sym, subst}
use Rattle.mrc_base.specs.declared.Fact.{Fact}
use Rattle.mrc_base.specs.declared.Fact.TheVariants.{Hold, Carry, Backup}
use Rattle.mrc_bits.specs.Bits.{IsNextBit}
use Rattle.mrc_rows.specs.Rows.{IsWithin}
use Rattle.mrc_rows.specs.Planes.{is_in, place_key, IsFirstBy, IsNextInGroup}
use Rattle.mrc_rows.proofs.Iterating.{class_low, backup_low, next_hold, next_carry, next_backup}
use Rattle.mrc_rows.proofs.iter.next_in_group.Goals as goal

pub returns-in_ok-class-in-Hold : goal.returns-in_ok-class-in-Hold
returns-in_ok-class-in-Hold c =
    let planes = c.args.planes.now in
    let found = c.in_ok-class-in-Hold.ensures.found in
    let low = class_low planes planes.few_of_send planes.few_of_receive planes.few_of_once
    (place_key (c.class.inside.0, c.in-Hold.right) + 1) c.in_ok-class-in-Hold.class
    c.in_ok-class-in-Hold.right found in
    let next = subst (λ n. IsFirstBy (is_in planes) (place_key (n, c.in-Hold.right) + 1)
    (place_key (c.in_ok-class-in-Hold.class, c.in_ok-class-in-Hold.right))) c.class.view_is
    found in
    subst (λ (f : Fact). IsNextInGroup planes f
    (Hold c.in-Hold.task c.in_ok-class-in-Hold.class c.in_ok-class-in-Hold.right))
    (sym c.in-Hold.is)
    (next_hold planes c.in-Hold.task c.in-Hold.class c.in_ok-class-in-Hold.class
    c.in-Hold.right c.in_ok-class-in-Hold.right (subst IsWithin c.in-Hold.is c.requires) low
    next)

pub returns-in_ok-class-in-Carry : goal.returns-in_ok-class-in-Carry
returns-in_ok-class-in-Carry c =
    let planes = c.args.planes.now in
    let found = c.in_ok-class-in-Carry.ensures.found in
    let low = class_low planes planes.few_of_send planes.few_of_receive planes.few_of_once
    (place_key (c.class-in-Carry.inside.0, c.in-Carry.right) + 1) c.in_ok-class-in-Carry.class
    c.in_ok-class-in-Carry.right found in
    let next = subst (λ n. IsFirstBy (is_in planes) (place_key (n, c.in-Carry.right) + 1)
    (place_key (c.in_ok-class-in-Carry.class, c.in_ok-class-in-Carry.right))) c.class-in-Carry.view_is
    found in
    subst (λ (f : Fact). IsNextInGroup planes f
    (Carry c.in-Carry.destination c.in_ok-class-in-Carry.class c.in_ok-class-in-Carry.right))
    (sym c.in-Carry.is)
    (next_carry planes c.in-Carry.destination c.in-Carry.class c.in_ok-class-in-Carry.class
    c.in-Carry.right c.in_ok-class-in-Carry.right (subst IsWithin c.in-Carry.is c.requires) low
    next)

pub returns-in_ok-place-in-Backup : goal.returns-in_ok-place-in-Backup
returns-in_ok-place-in-Backup c =
    let planes = c.args.planes.now in
    let found = c.in_ok-place-in-Backup.ensures.found in
    let place = c.in_ok-place-in-Backup.place in
    let low = backup_low planes planes.few_of_send (c.notify.inside.0 + 1) place found in
    let next = subst (λ n. IsNextBit planes.send.now (n + 1) place) c.notify.view_is found in
    subst (λ (f : Fact). IsNextInGroup planes f (Backup c.in-Backup.class place)) (sym c.in-Backup.is)
    (next_backup planes c.in-Backup.class c.in-Backup.notify place
    (subst IsWithin c.in-Backup.is c.requires) low next)
