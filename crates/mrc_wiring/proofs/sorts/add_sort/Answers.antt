use Rattle.std.proofs.Common.{◌∷◌, ◌++◌, [], sym, ap, ◌∙◌, position}
use Rattle.mrc_wiring.specs.Sorts.{is_sort}
use Rattle.std.specs.Prelude.{string_bytes}
use Rattle.std.specs.BTreeMap.{get_by_text}
use Rattle.std.proofs.lemmas.Map.Text.{btree_map_updates_text}
use Rattle.mrc_wiring.proofs.SortPlaceLaws.{known, first_at, shown_none, shown_some}
use Rattle.mrc_wiring.proofs.sorts.add_sort.Goals as goal
use Rattle.mrc_wiring.proofs.sorts.add_sort.Goals.{then-is_none+in_ok-from_str+in_ok-insert}
use Rattle.mrc_wiring.proofs.sorts.add_sort.Goals.{else-is_none}

pub returns-clause-kept : goal.returns-clause-kept
returns-clause-kept c = λ name.
    let s = c.args.interface in
    let sorts = c.args.sorts.now.items in
    let text = c.args.type_name.now in
    let pushed = c.in_ok-push.ensures.items
    ∙ ap (λ t. sorts ++ (record { interface = s; type_name = t }) ∷ [])
    c.in_ok-from_str-2.ensures.ok in
    elim c.if-is_none.branch [
      | then-is_none+in_ok-from_str+in_ok-insert w ↦
          ap (λ m. get_by_text m name) w.firsts-is
          ∙ btree_map_updates_text (string_bytes w.in_ok-from_str.field-0) c.args.firsts.now
          w.insert.new.self _ w.in_ok-insert.ensures.updates name
          ∙ first_at s sorts text name _ _ _
          (sym (c.requires text)
          ∙ shown_none c.get.result _ w.if-is_none.ensures c.get.ensures.value)
          w.in_ok-from_str.ensures.ok
          (w.len.ensures ∙ c.args.sorts.now.ok.0)
          (c.requires name)
          ∙ ap (position (is_sort s name)) (sym pushed)
      | else-is_none w ↦
          ap (λ m. get_by_text m name) w.firsts-is
          ∙ c.requires name
          ∙ (let there = shown_some c.get.result _ w.if-is_none.ensures c.get.ensures.value in
          sym (known s sorts text there.0 (sym (c.requires text) ∙ there.1) name))
          ∙ ap (position (is_sort s name)) (sym pushed)
    ]
