-- What is told besides an answer: of MIG files and of trusted tasks, one after the other; and all
-- of it by the least set.
use Rattle.std.proofs.Common.{Bool, not, ◌&&◌}
use Rattle.std.proofs.Common.{◌≡◌, ◌∙◌, ℕ, ◌+◌, ◌<◌, ◌≤◌, List, [], ◌∷◌, ◌++◌, length, map, drop}
use Rattle.std.proofs.Common.{get_or, append_assoc, ap, subst, sym, Vec, Global, Result, Ok, Err, Some, None, Option, refl}
use Rattle.std.proofs.lemmas.List.{append-nil, drop_all}
use Rattle.std.proofs.lemmas.Option.{slice_get-get_or}
use Rattle.std.specs.Prelude.{IfOk}
use Rattle.mrc_base.specs.declared.Fact.{Fact}
use Rattle.mrc_facts.specs.Sets.{has}
use Rattle.mrc_model.specs.Rules.{IsLeast}
use Rattle.mrc_interface.specs.Left.{carriers, is_old_cut}
use Rattle.mrc_wiring.proofs.Steps.{next_is}
use Rattle.mrc_check.specs.Texts.{Stated}
use Rattle.mrc_wiring.specs.Claims.{Claimed}
use Rattle.mrc_wiring_text.specs.declared.reading.Line.{Line}
use Rattle.mrc_wiring_text.specs.declared.wiring.WiringSays.{WiringSays}
use Rattle.mrc_wiring.specs.Table.{Table, wiring_of}
use Rattle.mrc_why.proofs.Verdicts.{least_one}
use Rattle.mrc_words.specs.Words.{task_text, task_word}
use Rattle.mrc_answer.specs.Files.{Files, given}
use Rattle.mrc_answer.specs.Notices.{left_out, cut_before, cut_from, number_if, is_trusted}
use Rattle.mrc_answer.specs.Notices.{name_if, trusted_from, trusted_names}
use Rattle.mrc_answer.specs.Notices.{Notices, notices_from, notices_of, yes_notices_of, AreNotices}
use Rattle.mrc_answer.specs.Notices.{AreYesNotices, Notification, is_empty, notification_from}
use Rattle.mrc_answer.specs.Notices.{AreWaivedNotices, DemandNotices, demand_notices_of}
use Rattle.mrc_answer.specs.Notices.{waived_notices_of}
use Rattle.mrc_answer.specs.PlainLines.{PlainLine, plain_lines}
use Rattle.mrc_answer.specs.LeakyLines.{LeakyLine, leaky_lines}
use Rattle.mrc_dead.specs.Dead.{DeadParts, dead_parts}

-- the texts of files
abbrev pub texts_of : List (Vec ℕ Global) → List (List ℕ)
texts_of defs = map (λ text. text.items) defs

-- one file more
pub left_more : (defs : List (Vec ℕ Global)) (i : ℕ) (d : Vec ℕ Global)
    (left new total : List (List (List ℕ))) → i < length defs
    → left ++ left_out (texts_of (drop i defs)) ≡ total
    → new ≡ left ++ (carriers (get_or defs i d).items ∷ [])
    → new ++ left_out (texts_of (drop (i + 1) defs)) ≡ total
left_more defs i d left new total less so added =
    let rest = left_out (texts_of (drop (i + 1) defs)) in
    ap (λ l. l ++ rest) added
    ∙ (append_assoc left (carriers (get_or defs i d).items ∷ []) rest
    ∙ (ap (λ ds. left ++ left_out (texts_of ds)) (sym (next_is defs i d less)) ∙ so))

-- no file is left
pub left_end : (defs : List (Vec ℕ Global)) (i : ℕ) (left total : List (List (List ℕ)))
    → length defs ≤ i
    → left ++ left_out (texts_of (drop i defs)) ≡ total
    → left ≡ total
left_end defs i left total all so =
    sym (append-nil left)
    ∙ (ap (λ ds. left ++ left_out (texts_of ds)) (sym (drop_all i defs all)) ∙ so)

-- one file more, and no file is left
pub cut_more : (defs : List (Vec ℕ Global)) (i : ℕ) (d : Vec ℕ Global) (cut new total : List ℕ)
    → i < length defs
    → cut ++ cut_from i (texts_of (drop i defs)) ≡ total
    → new ≡ cut ++ number_if (is_old_cut (get_or defs i d).items) i
    → new ++ cut_from (i + 1) (texts_of (drop (i + 1) defs)) ≡ total
cut_more defs i d cut new total less so added =
    let rest = cut_from (i + 1) (texts_of (drop (i + 1) defs)) in
    ap (λ l. l ++ rest) added
    ∙ (append_assoc cut (number_if (is_old_cut (get_or defs i d).items) i) rest
    ∙ (ap (λ ds. cut ++ cut_from i (texts_of ds)) (sym (next_is defs i d less)) ∙ so))

pub cut_end : (defs : List (Vec ℕ Global)) (i : ℕ) (cut total : List ℕ)
    → length defs ≤ i
    → cut ++ cut_from i (texts_of (drop i defs)) ≡ total
    → cut ≡ total
cut_end defs i cut total all so =
    sym (append-nil cut)
    ∙ (ap (λ ds. cut ++ cut_from i (texts_of ds)) (sym (drop_all i defs all)) ∙ so)

-- the task of a number is printed by its name
word_is : (table : Table) (t : ℕ) → t < length table.names
    → task_word table t ≡ get_or table.names t []
word_is table t less = ap (task_text t) (slice_get-get_or table.names t [] less)

-- one task more
pub name_more : (table : Table) (names new : List (List ℕ)) (t : ℕ)
    → t < length table.names
    → names ++ trusted_from table.trusts t (drop t table.names) ≡ trusted_names table
    → new ≡ names ++ name_if (is_trusted table.trusts t) (task_word table t)
    → new ++ trusted_from table.trusts (t + 1) (drop (t + 1) table.names) ≡ trusted_names table
name_more table names new t less so added =
    let rest = trusted_from table.trusts (t + 1) (drop (t + 1) table.names) in
    let one = name_if (is_trusted table.trusts t) in
    ap (λ ns. ns ++ rest) added
    ∙ (append_assoc names (one (task_word table t)) rest
    ∙ (ap (λ name. names ++ (one name ++ rest)) (word_is table t less)
    ∙ (ap (λ ns. names ++ trusted_from table.trusts t ns) (sym (next_is table.names t [] less))
    ∙ so)))

-- no task is left
pub names_end : (table : Table) (names : List (List ℕ)) (t : ℕ)
    → length table.names ≤ t
    → names ++ trusted_from table.trusts t (drop t table.names) ≡ trusted_names table
    → names ≡ trusted_names table
names_end table names t all so =
    sym (append-nil names)
    ∙ (ap (λ ns. names ++ trusted_from table.trusts t ns) (sym (drop_all t table.names all)) ∙ so)

-- what is told of parts is told of all
pub notices_made : (files : Files) (lines : List (Line WiringSays)) (claim : Claimed)
    (demands : DemandNotices) (set : Fact → Bool) (left : List (List (List ℕ))) (cut : List ℕ)
    (notification : Option Notification) (empty : Bool) (plain : List PlainLine)
    (leaky : List LeakyLine) (dead : DeadParts) (trusted : List (List ℕ))
    → left ≡ left_out files.texts.defs
    → cut ≡ cut_before files.texts.defs
    → notification ≡ notification_from 0 claim.table.interfaces
    → empty ≡ (is_empty claim.lines && not demands.waives)
    → plain ≡ plain_lines claim.table (given files.texts.policy)
    → leaky ≡ leaky_lines set claim.lines
    → dead ≡ dead_parts claim.table lines set
    → record {
      left_out = left;
      cut_before = cut;
      notification = notification;
      is_empty_policy = empty;
      demands = demands;
      plain = plain;
      leaky = leaky;
      dead = dead;
      trusted = trusted;
      wired = None;
    } ≡ record (notices_from files lines claim demands set) { trusted = trusted }
notices_made files lines claim demands set left cut notification empty plain leaky dead trusted a b c d e f
    g =
    rw (a, b, c, d, e, f, g) refl

-- what is told by the parts of what files mean is told by that
pub by_parts : {E : Type 0} (files : Files) (set : Fact → Bool) (trusted : List (List ℕ))
    (lines : List (Line WiringSays)) (claim : Claimed) (demands : DemandNotices) (meant : Stated)
    (result : Result Notices E)
    → lines ≡ meant.lines
    → claim ≡ meant.claim
    → demands ≡ demand_notices_of meant set
    → IfOk result (λ notices. notices
    ≡ record (notices_from files lines claim demands set) { trusted = trusted })
    → IfOk result (λ notices. notices
    ≡ record (notices_of files meant set) { trusted = trusted })
by_parts files set trusted lines claim demands meant result same view asks told =
    subst (λ (ls : List (Line WiringSays)). IfOk result (λ notices. notices
    ≡ record (notices_from files ls meant.claim (demand_notices_of meant set) set) {
      trusted = trusted;
    })) same
    (subst (λ (c : Claimed). IfOk result (λ notices. notices
    ≡ record (notices_from files lines c (demand_notices_of meant set) set) {
      trusted = trusted;
    })) view
    (subst (λ (d : DemandNotices). IfOk result (λ notices. notices
    ≡ record (notices_from files lines claim d set) { trusted = trusted })) asks told))

-- what is told besides a no is that by the least set
pub no_by_least : {E : Type 0} (files : Files) (meant : Stated) (facts : List Fact)
    (trusted : List (List ℕ)) (result : Result Notices E)
    → IsLeast (wiring_of meant.claim.table) (has facts)
    → IfOk result (λ notices. notices
    ≡ record (notices_of files meant (has facts)) { trusted = trusted })
    → trusted ≡ []
    → IfOk result (AreNotices files meant)
no_by_least files meant facts trusted (Ok notices) its_least is empty = λ set least.
    is
    ∙ (ap (λ (names : List (List ℕ)). record (notices_of files meant (has facts)) {
      trusted = names;
    }) empty
    ∙ ap (notices_of files meant)
    (least_one (wiring_of meant.claim.table) (has facts) set its_least least))
no_by_least files meant facts trusted (Err e) its_least is empty = tt

-- and so is what is told besides a yes that waives
pub waived_by_least : {E : Type 0} (files : Files) (meant : Stated) (facts : List Fact)
    (result : Result Notices E)
    → IsLeast (wiring_of meant.claim.table) (has facts)
    → IfOk result (λ notices. notices ≡ record (notices_of files meant (has facts)) {
      trusted = trusted_names meant.claim.table;
    })
    → IfOk result (AreWaivedNotices files meant)
waived_by_least files meant facts (Ok notices) its_least is = λ set least.
    is ∙ ap (waived_notices_of files meant)
    (least_one (wiring_of meant.claim.table) (has facts) set its_least least)
waived_by_least files meant facts (Err e) its_least is = tt

-- and so is what is told besides a yes
pub yes_by_least : (files : Files) (meant : Stated) (facts : List Fact) (notices made : Notices)
    (table : Table)
    → IsLeast (wiring_of meant.claim.table) (has facts)
    → notices ≡ record (notices_of files meant (has facts)) {
      trusted = trusted_names meant.claim.table;
    }
    → table ≡ meant.claim.table
    → made ≡ record notices { wired = Some table }
    → AreYesNotices files meant made
yes_by_least files meant facts notices made table its_least are same is set least =
    is
    ∙ (ap (λ (n : Notices). record n { wired = Some table }) are
    ∙ (ap (λ (t : Table). record (notices_of files meant (has facts)) {
      trusted = trusted_names meant.claim.table;
      wired = Some t;
    }) same
    ∙ ap (yes_notices_of files meant)
    (least_one (wiring_of meant.claim.table) (has facts) set its_least least)))
