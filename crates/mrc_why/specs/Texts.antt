-- Believe. What is printed of a policy. What is printed of a policy: the trusted task that another
-- could rewrite and the lines that are broken, each with its chain, flat or as a tree, and where
-- each step comes from. This profile's own choice.
use Rattle.std.specs.Prelude.{◌≡◌, ℕ, zero, suc, ◌+◌, ◌==◌, List, [], ◌∷◌, ◌++◌, Option, Some}
use Rattle.std.specs.Prelude.{None, codes, decimal, slice_get, option_and_then, if◌then◌else◌}
use Rattle.mrc_wiring.specs.declared.claim.ForbiddenLine.{ForbiddenLine}
use Rattle.mrc_wiring.specs.Table.{Table}
use Rattle.mrc_classes.specs.Missing.{rule_number}
use Rattle.mrc_closure.specs.declared.chains.Places.{Places}
use Rattle.mrc_closure.specs.declared.chains.Places.TheVariants.{Empty, One, Two}
use Rattle.mrc_closure.specs.declared.chains.Step.{Step}
use Rattle.mrc_words.specs.Words.{◌␣◌, fact_text}
use Rattle.mrc_why.specs.declared.origins.SlotNames.{SlotNames}
use Rattle.mrc_why.specs.declared.origins.Source.{Source}
use Rattle.mrc_why.specs.declared.origins.Source.TheVariants.{Line, Slot, Subsystem, KernelPort}
use Rattle.mrc_why.specs.declared.printing.Layout.{Layout}
use Rattle.mrc_why.specs.declared.printing.Layout.TheVariants.{Flat, Tree}
use Rattle.mrc_why.specs.declared.trees.TreeLine.{TreeLine}
use Rattle.mrc_why.specs.Broken.{BrokenLine, ExposedTask, forbidden_fact}
use Rattle.mrc_why.specs.Lines.{Numbered}
use Rattle.mrc_why.specs.Sources.{AreSources}
use Rattle.mrc_why.specs.Trees.{tree_lines}

-- a slot: `S.ROUTINE.ARGUMENT (S.TYPE)`
abbrev pub slot_text : SlotNames → List ℕ
slot_text names =
    names.subsystem.now ++ (codes "." ++ (names.routine.now ++ (codes "." ++ (names.argument.now
    ++ (codes " (" ++ (names.subsystem.now ++ (codes "." ++ (names.type_name.now
    ++ codes ")"))))))))

-- where a step comes from, behind its line: nothing where that is not known
abbrev pub source_text : Option Source → List ℕ
source_text None = []
source_text (Some (Line n)) = codes " by line " ++ decimal n
source_text (Some (Slot names)) = codes " by " ++ slot_text names
source_text (Some (Subsystem name)) = codes " by " ++ name.now
source_text (Some (KernelPort name)) = codes " by task:" ++ name.now

-- where the premises are concluded: a place that is both premises is told once
abbrev pub places_text : Places → List ℕ
places_text Empty = []
places_text (One n) = codes " from " ++ decimal n
places_text (Two n k) =
    if n == k then codes " from " ++ decimal n else codes " from " ++ (decimal n ␣ decimal k)

-- the source of the step at this place
abbrev pub source_at : List (Option Source) → ℕ → Option Source
source_at sources n = option_and_then (λ o. o) (slice_get sources n)

-- a rule and the fact that it concludes
abbrev pub rule_text : Table → Step → List ℕ
rule_text table s = codes "K" ++ (decimal (rule_number s.rule) ␣ fact_text table s.fact)

-- the line of a step behind these blanks: its place, its rule, what it concludes, where its
-- premises are concluded, and where it comes from
abbrev pub step_line : List ℕ → Table → ℕ → Step → Option Source → List ℕ
step_line blanks table n s source =
    blanks ++ (decimal n ␣ (rule_text table s ++ (places_text s.premises ++ (source_text source
    ++ codes "\n"))))

-- the lines of steps, of which the first has this place
abbrev pub lines_from : List ℕ → Table → List (Option Source) → ℕ → List Step → List ℕ
lines_from blanks table sources n [] = []
lines_from blanks table sources n (s ∷ steps) =
    step_line blanks table n s (source_at sources n)
    ++ lines_from blanks table sources (n + 1) steps

-- two blanks for each deeper line
abbrev pub deeper : ℕ → List ℕ
deeper zero = []
deeper (suc n) = deeper n ++ codes "  "

-- the step of a line, behind the line's number: told whole, or by the line that has told it
abbrev pub told_text : Table → Step → Option Source → Option ℕ → List ℕ
told_text table s source None = rule_text table s ++ source_text source
told_text table s source (Some n) =
    fact_text table s.fact ++ (codes " (see " ++ (decimal n ++ codes ")"))

-- the same of the step at this place
abbrev pub told_at : Table → Option Step → Option Source → Option ℕ → List ℕ
told_at table None source seen = []
told_at table (Some s) source seen = told_text table s source seen

-- a line of a tree: its number, and its step
abbrev pub tree_line : List ℕ → Table → List Step → List (Option Source) → ℕ → TreeLine → List ℕ
tree_line blanks table steps sources n line =
    blanks ++ (deeper line.depth ++ (decimal n ␣ (told_at table (slice_get steps line.place)
    (source_at sources line.place) line.seen ++ codes "\n")))

-- the lines of a tree, of which the first has this number
abbrev pub tree_from : List ℕ → Table → List Step → List (Option Source) → ℕ → List TreeLine
    → List ℕ
tree_from blanks table steps sources n [] = []
tree_from blanks table steps sources n (line ∷ lines) =
    tree_line blanks table steps sources n line
    ++ tree_from blanks table steps sources (n + 1) lines

-- a chain in this layout, behind these blanks
abbrev pub chain_lines : Layout → List ℕ → Table → List (Option Source) → List Step → List ℕ
chain_lines Flat blanks table sources steps = lines_from blanks table sources 0 steps
chain_lines Tree blanks table sources steps =
    tree_from blanks table steps sources 1 (tree_lines steps)

-- the lines of a chain alone, without where its steps come from
abbrev pub plain_lines : Table → List Step → List ℕ
plain_lines table steps = chain_lines Flat [] table [] steps

-- the text tells the chain, and of its steps where they come from
pub record IsChainText (layout : Layout) (blanks : List ℕ) (numbered : Numbered)
    (steps : List Step) (text : List ℕ) : Type 0 where
  pub sources : List (Option Source)
  pub are : AreSources numbered steps sources
  pub is : text ≡ chain_lines layout blanks numbered.table sources steps

-- that a line is broken
abbrev pub broken_line : Table → ForbiddenLine → List ℕ
broken_line table line =
    codes "NO forbidden line " ++ (decimal line.line ␣ (fact_text table (forbidden_fact line)
    ++ codes "\n"))

-- the text tells the broken line, and under it, behind two blanks, its chain
pub record IsBrokenText (layout : Layout) (numbered : Numbered) (broken : BrokenLine)
    (text : List ℕ) : Type 0 where
  pub chain : List ℕ
  pub tells : IsChainText layout (codes "  ") numbered broken.steps chain
  pub is : text ≡ broken_line numbered.table broken.line ++ chain

-- the text tells these, one after the other
abbrev pub AreToldBy : Layout → Numbered → List BrokenLine → List ℕ → Type 0
AreToldBy layout numbered [] text = text ≡ []
AreToldBy layout numbered (broken ∷ more) text =
    (one : List ℕ) × (rest : List ℕ) × IsBrokenText layout numbered broken one
    × AreToldBy layout numbered more rest × (text ≡ one ++ rest)

-- that another task could rewrite a trusted one
abbrev pub exposed_line : Table → ExposedTask → List ℕ
exposed_line table x =
    codes "NO trusted line " ++ (decimal x.line ␣ (fact_text table x.fact ++ codes "\n"))

-- the text reports the trusted task, and under it, behind two blanks, the chain
pub record IsExposedText (layout : Layout) (numbered : Numbered) (x : ExposedTask)
    (text : List ℕ) : Type 0 where
  pub chain : List ℕ
  pub tells : IsChainText layout (codes "  ") numbered x.steps chain
  pub is : text ≡ exposed_line numbered.table x ++ chain

-- the text reports the trusted task, and then the broken lines
pub record IsNoText (layout : Layout) (numbered : Numbered) (x : ExposedTask)
    (broken : List BrokenLine) (text : List ℕ) : Type 0 where
  pub one : List ℕ
  pub rest : List ℕ
  pub first : IsExposedText layout numbered x one
  pub lines : AreToldBy layout numbered broken rest
  pub is : text ≡ one ++ rest

-- the text is a yes if there is no such task and no line is broken; else it reports what there is
abbrev pub IsVerdictText : Layout → Numbered → Option ExposedTask → List BrokenLine → List ℕ
    → Type 0
IsVerdictText layout numbered (Some x) broken text = IsNoText layout numbered x broken text
IsVerdictText layout numbered None [] text = text ≡ codes "YES\n"
IsVerdictText layout numbered None (broken ∷ more) text =
    AreToldBy layout numbered (broken ∷ more) text
