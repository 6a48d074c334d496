-- Step. How many classes, rows and groups of facts there are, each by one name.
-- This profile's own choice.
use Rattle.std.specs.Prelude.{◌≡◌, ℕ, ◌+◌, ◌*◌, refl}
use Rattle.mrc_base.specs.Limits.{limit_of_tasks, limit_of_wired_ports, limit_of_kinds}

-- classes of ports of a wiring: those of wired ports, of kernel ports and of births
abbrev pub limit_of_classes : ℕ
limit_of_classes = 1344

classes_are_counted : limit_of_classes
    ≡ limit_of_wired_ports + limit_of_tasks + limit_of_tasks * limit_of_kinds
classes_are_counted = refl

-- words of a row, with a bit for each class
abbrev pub limit_of_words : ℕ
limit_of_words = 21

words_are_counted : 64 * limit_of_words ≡ limit_of_classes
words_are_counted = refl

-- rows of holds, three for each task: the number of the first row of carries
abbrev pub first_row_of_carries : ℕ
first_row_of_carries = 192

holds_are_counted : first_row_of_carries ≡ 3 * limit_of_tasks
holds_are_counted = refl

-- the number of the first row of backups, behind three rows of carries for each class
abbrev pub first_row_of_backups : ℕ
first_row_of_backups = 4224

carries_are_counted : first_row_of_backups ≡ first_row_of_carries + 3 * limit_of_classes
carries_are_counted = refl

-- all rows, one of them of the backups of each class
abbrev pub limit_of_rows : ℕ
limit_of_rows = 5568

rows_are_counted : limit_of_rows ≡ first_row_of_backups + limit_of_classes
rows_are_counted = refl

-- the number of the first group of backups: each task and each class has a group before it
abbrev pub first_group_of_backups : ℕ
first_group_of_backups = 1408

groups_before_are_counted : first_group_of_backups ≡ limit_of_tasks + limit_of_classes
groups_before_are_counted = refl

-- all groups
abbrev pub limit_of_groups : ℕ
limit_of_groups = 2752

groups_are_counted : limit_of_groups ≡ first_group_of_backups + limit_of_classes
groups_are_counted = refl
