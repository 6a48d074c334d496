-- Believe. What is looked for in an attack on a policy, what is found, and what is printed of it.
-- This profile's own choice.
use Rattle.std.specs.Prelude.{ℕ, true, false, ◌==◌, List, [], ◌++◌, flat_map, codes, decimal}
use Rattle.std.specs.Prelude.{Option, Some, None, IfSome, option_map, if◌then◌else◌}
use Rattle.std.specs.Prelude.{string_bytes}
use Rattle.std.specs.Option.{option_to_list}
use Rattle.mrc_base.specs.declared.Fact.{Fact}
use Rattle.mrc_base.specs.declared.Fact.TheVariants.{Hold, Carry, Backup}
use Rattle.mrc_wiring.specs.Claims.{holding_of}
use Rattle.mrc_wiring.specs.Table.{Table}
use Rattle.mrc_words.specs.Words.{◌␣◌, fact_text}
use Rattle.mrc_why.specs.Broken.{BrokenLine, ExposedTask, forbidden_fact}
use Rattle.mrc_attack.specs.declared.aims.Aim.{Aim}
use Rattle.mrc_attack.specs.declared.printing.Listing.{Listing}
use Rattle.mrc_attack.specs.declared.printing.Listing.TheVariants.{Listed, Script}
use Rattle.mrc_attack.specs.declared.attacking.Attack.{Attack}
use Rattle.mrc_attack.specs.Leaks.{IsLeak}

-- What is looked for: each line that is broken, and if a trusted task could be rewritten, the hold
-- by which another could, as if a line forbade it.

-- the hold by which a trusted task could be rewritten, with the number of the trust line
abbrev pub rewriting_aim : ℕ → Fact → Option Aim
rewriting_aim n (Hold task class right) = Some record {
  trusted = true;
  line = record { line = n; task = task; right = right; class = class };
}
rewriting_aim n (Carry destination class right) = None
rewriting_aim n (Backup class notify) = None

-- of a trusted task: nothing if one line is asked for
abbrev pub exposed_aim : Option ℕ → ExposedTask → Option Aim
exposed_aim None x = rewriting_aim x.line x.fact
exposed_aim (Some n) x = None

-- of a line that is broken: nothing if another number is asked for
abbrev pub broken_aim : Option ℕ → BrokenLine → Option Aim
broken_aim None broken = Some record { trusted = false; line = broken.line }
broken_aim (Some n) broken =
    if broken.line.line == n then Some record { trusted = false; line = broken.line } else None

-- first of the trusted task, if there is one
abbrev pub exposed_aims : Option ℕ → Option ExposedTask → List Aim
exposed_aims only None = []
exposed_aims only (Some x) = option_to_list (exposed_aim only x)

-- then of the broken lines, in order
abbrev pub broken_aims : Option ℕ → BrokenLine → List Aim
broken_aims only broken = option_to_list (broken_aim only broken)

-- all, or those of the line of one number
abbrev pub aims : Option ℕ → Option ExposedTask → List BrokenLine → List Aim
aims only exposed broken = exposed_aims only exposed ++ flat_map (broken_aims only) broken

-- what an attack was made for
abbrev pub aim_of : Attack → Aim
aim_of attack = attack.aim

-- What is printed.

-- the number of a line of the policy, or of a trust line
abbrev pub line_words : Aim → List ℕ
line_words aim =
    if aim.trusted then codes "trusted line" ␣ decimal aim.line.line
    else codes "line" ␣ decimal aim.line.line

-- with the fact that is objected to
abbrev pub aim_words : Table → Aim → List ℕ
aim_words table aim = line_words aim ␣ fact_text table (forbidden_fact aim.line)

-- a script was found
abbrev pub real_line : Table → Aim → List ℕ
real_line table aim = codes "REAL" ␣ (aim_words table aim ++ codes "\n")

-- none was found
abbrev pub no_line : Table → Aim → List ℕ
no_line table aim = codes "NO" ␣ (aim_words table aim ++ codes " not reached\n")

-- what of the printed text is the script: in a list what is printed below the heading; by itself
-- all of it, with the heading as a comment
abbrev pub script_part : Listing → (heading script : List ℕ) → List ℕ
script_part Listed heading script = script
script_part Script heading script = codes "# " ++ (heading ++ script)

-- what is printed if there is a script
abbrev pub real_text : Listing → (heading script : List ℕ) → List ℕ
real_text Listed heading script = heading ++ script_part Listed heading script
real_text Script heading script = script_part Script heading script

-- what is printed of an attack, with the script if there is one
abbrev pub found_text : Listing → Table → Aim → Option (List ℕ) → List ℕ
found_text listing table aim None = no_line table aim
found_text listing table aim (Some script) = real_text listing (real_line table aim) script

abbrev pub attack_text : Listing → Table → Attack → List ℕ
attack_text listing table attack =
    found_text listing table attack.aim (option_map string_bytes attack.script)

-- attacks, one after the other
abbrev pub attacks_text : Listing → Table → List Attack → List ℕ
attacks_text listing table attacks = flat_map (attack_text listing table) attacks

-- where there is a script, the part of the printed text that is one breaks the line
abbrev pub IsAttack : Listing → Table → Attack → Type 0
IsAttack listing table attack = IfSome attack.script (λ script.
    IsLeak table (holding_of attack.aim.line)
    (script_part listing (real_line table attack.aim) (string_bytes script)))

-- what is printed if not all ways were tried for an attack
abbrev pub cut_line : Attack → List ℕ
cut_line attack =
    if attack.cut
    then codes "machcheck: attack: " ++ (line_words attack.aim
    ++ codes ": not all ways were tried\n")
    else []

-- of attacks, one after the other
abbrev pub cut_text : List Attack → List ℕ
cut_text attacks = flat_map cut_line attacks
