use Rattle.std.proofs.Common.{◌≡◌, ℕ, List, true, subst}
use Rattle.mrc_forms.specs.Types.{is_any_data}
use Rattle.mrc_message_words.specs.Fitting.{AreItems}
use Rattle.mrc_message_words.proofs.Making.{not_named, not_fit}
use Rattle.mrc_message_words.proofs.arguments.of_bytes.Goals.{then-name-ge16-via-then-name-ge16, then-name-ge16-via-else-name-ge16+then-not-are_wide, then-is_any_data, else-is_any_data}
use Rattle.mrc_message_words.proofs.arguments.of_bytes.Goals as goal

pub returns-then-name-ge16 : goal.returns-then-name-ge16
returns-then-name-ge16 c =
    elim c.then-name-ge16.branch [
      | then-name-ge16-via-then-name-ge16 w ↦
          not_named c.args.items c.args.name c.args.size c.args.bytes.now w.if-name-ge16.true
      | then-name-ge16-via-else-name-ge16+then-not-are_wide w ↦
          elim w.if-is_any_data.branch [
            | then-is_any_data w' ↦ let no : ⊥ = cc in absurd no
            | else-is_any_data w' ↦
                let are : AreItems c.args.size c.args.bytes.now c.in-Some.number =
                subst (λ (bytes : List ℕ). AreItems c.args.size bytes c.in-Some.number)
                c.as_slice.ensures c.in-Some.ensures in
                not_fit c.args.items c.args.name c.args.size c.in-Some.number c.args.bytes.now are
                (λ (kind : is_any_data c.args.items.types ≡ true). let no : ⊥ = cc in no)
                (λ wide. let yes = w'.are_wide.ensures.1 wide in let no : ⊥ = cc in no)
          ]
    ]
