-- How far lines are walked, by computation.
use Rattle.std.proofs.Common.{◌≡◌, ℕ, List, refl}
use Rattle.std.specs.Prelude.{codes}
use Rattle.mrc_wiring_text.specs.declared.reading.Edition.{Edition}
use Rattle.mrc_wiring_text.specs.declared.reading.Edition.TheVariants.{First, Second, Third}
use Rattle.mrc_wiring_text.specs.Kinds.{kind_of}
use Rattle.mrc_wiring_text.specs.Lexis.{is_blank, between_blanks, words}
use Rattle.mrc_wiring_text.specs.Names.{is_name}
use Rattle.mrc_line_hints.specs.declared.walks.Walked.{Walked}
use Rattle.mrc_line_hints.specs.declared.ways.Place.TheVariants as at
use Rattle.mrc_line_hints.specs.Ways.{step}
use Rattle.mrc_line_hints.specs.Walks.{walk}

-- how far a line of a wiring is walked
abbrev walked : Edition → List ℕ → Walked
walked edition line = walk edition 0 at.WiringLine (words line)

no_receiver : walked First (codes "port p reciever fs accepts none")
    ≡ record { count = 2; place = at.Receiver }
unfolding words between_blanks is_blank walk step is_name
no_receiver = refl

no_kind_in_version_1 : walked First (codes "births fs 3 accepts none")
    ≡ record { count = 2; place = at.Accepts }
unfolding words between_blanks is_blank walk step is_name
no_kind_in_version_1 = refl

kind_16 : walked Second (codes "births fs 16 accepts none")
    ≡ record { count = 2; place = at.BirthsKind }
unfolding words between_blanks is_blank walk step is_name kind_of
kind_16 = refl

nothing_behind_a_comma : walked Third (codes "births fs 0 accepts reply name,")
    ≡ record { count = 7; place = at.Item }
unfolding words between_blanks is_blank walk step is_name kind_of
nothing_behind_a_comma = refl

bad_name : walked Second (codes "task 1fs") ≡ record { count = 1; place = at.LastTask }
unfolding words between_blanks is_blank walk step is_name
bad_name = refl
