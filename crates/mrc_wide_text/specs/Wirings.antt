-- Believe. What a wiring says, of whichever version: the lines of version 3 that it stands for. One
-- of an older version stands for its own lines. This profile's own choice.
use Rattle.std.specs.Prelude.{◌≡◌, ℕ, ◌⊎◌, List, Result, Ok, Err}
use Rattle.mrc_base.specs.Reading.{◌>>=◌}
use Rattle.mrc_wiring_text.specs.declared.faults.TextFault.{TextFault}
use Rattle.mrc_wiring_text.specs.declared.faults.TextFault.TheVariants.{Version}
use Rattle.mrc_wiring_text.specs.declared.reading.Edition.{Edition}
use Rattle.mrc_wiring_text.specs.declared.reading.Edition.TheVariants.{Third}
use Rattle.mrc_wiring_text.specs.declared.reading.Line.{Line}
use Rattle.mrc_wiring_text.specs.declared.wiring.WiringSays.{WiringSays}
use Rattle.mrc_wiring_text.specs.Texts.{IsWiring}
use Rattle.mrc_wiring_text.specs.Wiring.{wiring_edition, wiring_of}
use Rattle.mrc_stand_for.specs.declared.faults.StandFault.{StandFault}
use Rattle.mrc_stand_for.specs.declared.known.Known.{Known}
use Rattle.mrc_stand_for.specs.declared.wide.WideSays.{WideSays}
use Rattle.mrc_stand_for.specs.Standing.{stand_for, known_of}
use Rattle.mrc_wide_text.specs.WideReading.{wide_wiring_of}
use Rattle.mrc_wide_text.specs.WideTexts.{IsWideWiring}

-- what a wiring says: the edition whose limits it has, its lines, and what is known after them or
-- why one is refused
pub record Said : Type 0 where
  pub edition : Edition
  pub lines : List (Line WiringSays)
  pub end : Result Known StandFault

-- what lines of an older version say
abbrev pub older_said : Edition → List (Line WiringSays) → Said
older_said edition lines = record { edition = edition; lines = lines; end = Ok (known_of lines) }

-- what lines of version 4 say: what they stand for, with the limits of version 3
abbrev pub wide_said : List (Line WideSays) → Said
wide_said wide = record {
  edition = Third;
  lines = (stand_for wide).lines;
  end = (stand_for wide).end;
}

-- what a wiring of an older version says
abbrev pub older_of : List ℕ → Result Said TextFault
older_of wiring = do
  edition ← wiring_edition wiring
  lines ← wiring_of wiring
  Ok (older_said edition lines)

-- the same, if it is of no later version
abbrev pub or_older : List ℕ → Result (List (Line WideSays)) TextFault → Result Said TextFault
or_older wiring (Ok wide) = Ok (wide_said wide)
or_older wiring (Err Version) = older_of wiring
or_older wiring (Err fault) = Err fault

-- what a wiring says
abbrev pub said_of : List ℕ → Result Said TextFault
said_of wiring = or_older wiring (wide_wiring_of wiring)

-- bytes that are a wiring of an older version, or one of version 4, and what it says
abbrev pub Says : List ℕ → Said → Type 0
Says wiring said =
    ((lines : List (Line WiringSays)) × (is : IsWiring wiring lines)
    × (said ≡ older_said is.edition lines))
    ⊎ ((wide : List (Line WideSays)) × IsWideWiring wiring wide × (said ≡ wide_said wide))
