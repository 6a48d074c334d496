-- The two laws of certificates: what is read is spelled so, and what is spelled so is read.
use Rattle.std.proofs.Common.{◌≡◌, ℕ, ◌^◌, cond, eqb, List, [], ◌++◌, length, take, drop, None}
use Rattle.std.proofs.Common.{Result, Ok, Err, refl, sym, ap, subst, ◌∙◌, arith, ◌⊎◌, inl, inr}
use Rattle.std.proofs.Common.{ltb, true, false, Bool, ◌<◌, ◌≤◌, ◌||◌, append_assoc}
use Rattle.std.specs.Prelude.{IfOk, nat_eq}
use Rattle.std.specs.List.{starts_with}
use Rattle.std.specs.Int.{w16, w32, to_be_bytes}
use Rattle.std.specs.Cmp.Lexicographic.{same_text}
use Rattle.std.proofs.lemmas.Bool.{cases_Bool, eqb-true, eqb-false, eq-eqb, ne_eqb, ltb-true}
use Rattle.std.proofs.lemmas.Bool.{lt-ltb}
use Rattle.std.proofs.lemmas.List.{append-nil, nil_from_length, take-append-drop}
use Rattle.mrc_base.specs.declared.Fact.{Fact}
use Rattle.mrc_certificate.specs.declared.draft.Draft.{Draft}
use Rattle.mrc_certificate.specs.declared.fault.DraftFault.{DraftFault}
use Rattle.mrc_certificate.specs.declared.fault.DraftFault.TheVariants.{Magic, Version, Trailing}
use Rattle.mrc_base.specs.Reading.{◌>>=◌, Gives}
use Rattle.mrc_base.specs.declared.memory.OrMemory.{OrMemory}
use Rattle.mrc_base.proofs.Steps.{bind_ok, bind_to, passed, ok_is, gives_ok, gives_same}
use Rattle.mrc_certificate.specs.Drafts.{Content, IsDraft}
use Rattle.mrc_certificate.specs.Spelling.{content, magic, facts_bytes, spelling, Spells}
use Rattle.mrc_certificate.specs.Spelling.{version_number, births_bytes}
use Rattle.mrc_certificate.specs.Reading.{behind_magic, number_at, version_at, births_at, facts_at}
use Rattle.mrc_certificate.specs.Reading.{first_place}
use Rattle.mrc_certificate.specs.Reading.{draft_from}
use Rattle.mrc_certificate.proofs.Fields.{IsBytes, IsBytes-drop, Takes, Takes-then, wide16, wide32}
use Rattle.mrc_certificate.proofs.Fields.{number_takes, number_again}
use Rattle.mrc_certificate.proofs.Series.{facts_take, facts_again}

magic_takes : (bytes rest : List ℕ)
    → IsBytes bytes
    → behind_magic bytes ≡ Ok rest
    → Takes bytes magic rest
unfolding behind_magic
magic_takes bytes rest fits e =
    let p = passed (starts_with nat_eq bytes magic) Magic (Ok (drop 4 bytes)) rest e in
    let front : magic ≡ take 4 bytes = same_text magic (take 4 bytes) (sym p.0) in
    subst (Takes bytes magic) (ok_is (drop 4 bytes) rest p.1)
    (record {
      parts = sym (ap (λ (x : List ℕ). x ++ drop 4 bytes) front ∙ take-append-drop 4 bytes);
      rest_fits = IsBytes-drop 4 bytes fits;
    })

magic_again : (rest : List ℕ) → behind_magic (magic ++ rest) ≡ Ok rest
unfolding behind_magic
magic_again rest = refl

-- the version is one of two
abbrev IsVersion : ℕ → Type 0
IsVersion version = (version ≡ 1) ⊎ (version ≡ 2)

version_is : (version : ℕ) → (eqb version 1 || eqb version 2) ≡ true → IsVersion version
version_is version e =
    elim (cases_Bool (eqb version 1)) [
      | inl one ↦ inl (eqb-true version 1 one)
      | inr other ↦ inr (eqb-true version 2 (sym (ap (λ b. b || eqb version 2) other) ∙ e))
    ]

above : (tasks births : ℕ) → tasks ≤ births → eqb births tasks ≡ false → tasks < births
above tasks births low other = let ne = eqb-false births tasks other in omega arith

version_takes : (bytes : List ℕ) (version : ℕ × List ℕ)
    → IsBytes bytes
    → version_at bytes ≡ Ok version
    → Takes bytes (to_be_bytes w16 version.0) version.1 × IsVersion version.0
unfolding version_at
version_takes bytes version fits e =
    let a = bind_ok (number_at w16 bytes) (λ v.
    cond (eqb v.0 1 || eqb v.0 2) (Ok v) (Err Version)) version e in
    let p = passed (eqb a.0.0 1 || eqb a.0.0 2) Version (Ok a.0) version a.2 in
    subst (λ (v : ℕ × List ℕ). Takes bytes (to_be_bytes w16 v.0) v.1 × IsVersion v.0)
    (ok_is a.0 version p.1) (
      (number_takes w16 (2 ^ 16) wide16 bytes a.0.0 a.0.1 fits a.1).0,
      version_is a.0.0 p.0,
    )

version_again : (tasks births : ℕ) (rest : List ℕ)
    → version_at (to_be_bytes w16 (version_number tasks births) ++ rest)
    ≡ Ok (version_number tasks births, rest)
unfolding version_at
version_again tasks births rest =
    let go : (b : Bool) → (number_at w16 (to_be_bytes w16 (cond b 1 2) ++ rest)
    >>= λ v. cond (eqb v.0 1 || eqb v.0 2) (Ok v) (Err Version)) ≡ Ok (cond b 1 2, rest) = λ b.
    elim b as (λ b. (number_at w16 (to_be_bytes w16 (cond b 1 2) ++ rest)
    >>= λ v. cond (eqb v.0 1 || eqb v.0 2) (Ok v) (Err Version)) ≡ Ok (cond b 1 2, rest)) [
      | true ↦ bind_to (number_at w16 (to_be_bytes w16 1 ++ rest)) (1, rest)
          (λ v. cond (eqb v.0 1 || eqb v.0 2) (Ok v) (Err Version)) (Ok (1, rest))
          (number_again w16 (2 ^ 16) wide16 1 rest (omega arith)) refl
      | false ↦ bind_to (number_at w16 (to_be_bytes w16 2 ++ rest)) (2, rest)
          (λ v. cond (eqb v.0 1 || eqb v.0 2) (Ok v) (Err Version)) (Ok (2, rest))
          (number_again w16 (2 ^ 16) wide16 2 rest (omega arith)) refl
    ] in
    go (eqb births tasks)

-- the number of classes of births that was read, and the bytes that were taken for it
record Births (version tasks : ℕ) (bytes : List ℕ) (births : ℕ × List ℕ) : Type 0 where
  taken : Takes bytes (births_bytes tasks births.0) births.1
  version_is : version ≡ version_number tasks births.0
  enough : tasks ≤ births.0
  below : births.0 < 2 ^ 16

births_first : (tasks : ℕ) (bytes : List ℕ)
    → tasks < 2 ^ 16
    → IsBytes bytes
    → Births 1 tasks bytes (tasks, bytes)
births_first tasks bytes low fits =
    let same : eqb tasks tasks ≡ true = eq-eqb tasks tasks refl in
    record {
      taken = rw same (record { parts = refl; rest_fits = fits });
      version_is = rw same refl;
      enough = omega arith;
      below = low;
    }

births_second : (tasks : ℕ) (bytes : List ℕ) (births : ℕ × List ℕ)
    → IsBytes bytes
    → (number_at w16 bytes >>= λ b. cond (ltb tasks b.0) (Ok b) (Err Version)) ≡ Ok births
    → Births 2 tasks bytes births
births_second tasks bytes births fits e =
    let a = bind_ok (number_at w16 bytes) (λ b. cond (ltb tasks b.0) (Ok b) (Err Version)) births e
    in
    let p = passed (ltb tasks a.0.0) Version (Ok a.0) births a.2 in
    let more : tasks < a.0.0 = ltb-true tasks a.0.0 p.0 in
    let other : eqb a.0.0 tasks ≡ false = ne_eqb a.0.0 tasks
    (λ same. absurd (omega arith)) in
    let t = number_takes w16 (2 ^ 16) wide16 bytes a.0.0 a.0.1 fits a.1 in
    subst (Births 2 tasks bytes) (ok_is a.0 births p.1) record {
      taken = rw other t.0;
      version_is = rw other refl;
      enough = omega arith;
      below = t.1;
    }

births_take : (version tasks : ℕ) (bytes : List ℕ) (births : ℕ × List ℕ)
    → IsVersion version
    → tasks < 2 ^ 16
    → IsBytes bytes
    → births_at version tasks bytes ≡ Ok births
    → Births version tasks bytes births
unfolding births_at
births_take version tasks bytes births (inl one) low fits e =
    rw one (subst (Births 1 tasks bytes) (ok_is (tasks, bytes) births
    (subst (λ (v : ℕ). cond (eqb v 1) (Ok (tasks, bytes)) (number_at w16 bytes
    >>= λ b. cond (ltb tasks b.0) (Ok b) (Err Version)) ≡ Ok births) one e))
    (births_first tasks bytes low fits))
births_take version tasks bytes births (inr two) low fits e =
    rw two (births_second tasks bytes births fits
    (subst (λ (v : ℕ). cond (eqb v 1) (Ok (tasks, bytes)) (number_at w16 bytes
    >>= λ b. cond (ltb tasks b.0) (Ok b) (Err Version)) ≡ Ok births) two e))

births_again : (tasks births : ℕ) (rest : List ℕ)
    → births < 2 ^ 16
    → tasks ≤ births
    → births_at (version_number tasks births) tasks (births_bytes tasks births ++ rest)
    ≡ Ok (births, rest)
unfolding births_at
births_again tasks births rest low enough =
    elim (cases_Bool (eqb births tasks)) [
      | inl same ↦
          let is : births ≡ tasks = eqb-true births tasks same in
          rw same (ap (λ (n : ℕ). Ok (n, rest)) (sym is))
      | inr other ↦
          let more : ltb tasks births ≡ true = lt-ltb tasks births (above tasks births enough other)
          in
          rw other (bind_to (number_at w16 (to_be_bytes w16 births ++ rest)) (births, rest)
          (λ b. cond (ltb tasks b.0) (Ok b) (Err Version)) (Ok (births, rest))
          (number_again w16 (2 ^ 16) wide16 births rest low)
          (ap (λ b. cond b (Ok (births, rest)) (Err Version)) more))
    ]

-- parts that stand one behind the other
flatten : (a b c d e f g : List ℕ)
    → a ++ b ++ c ++ d ++ e ++ f ++ g ≡ a ++ (b ++ (c ++ (d ++ (e ++ (f ++ g)))))
flatten a b c d e f g =
    append_assoc (a ++ b ++ c ++ d ++ e) f g
    ∙ append_assoc (a ++ b ++ c ++ d) e (f ++ g)
    ∙ append_assoc (a ++ b ++ c) d (e ++ (f ++ g))
    ∙ append_assoc (a ++ b) c (d ++ (e ++ (f ++ g)))
    ∙ append_assoc a b (c ++ (d ++ (e ++ (f ++ g))))

-- what is read behind each field
abbrev behind_facts : ℕ → ℕ → ℕ → List Fact × List ℕ → Result Content DraftFault
behind_facts tasks classes births facts =
    cond (eqb (length facts.1) 0) (Ok (record {
      tasks = tasks;
      classes = classes;
      births = births;
      facts = facts.0;
    })) (Err Trailing)

abbrev behind_count : ℕ → ℕ → ℕ → ℕ → ℕ × List ℕ → Result Content DraftFault
behind_count version tasks classes births count =
    facts_at tasks classes count.0 (first_place version) None count.1
    >>= behind_facts tasks classes births

abbrev behind_births : ℕ → ℕ → ℕ → ℕ × List ℕ → Result Content DraftFault
behind_births version tasks classes births =
    number_at w32 births.1 >>= behind_count version tasks classes births.0

abbrev behind_classes : ℕ → ℕ → ℕ × List ℕ → Result Content DraftFault
behind_classes version tasks classes =
    births_at version tasks classes.1 >>= behind_births version tasks classes.0

abbrev behind_tasks : ℕ → ℕ × List ℕ → Result Content DraftFault
behind_tasks version tasks = number_at w16 tasks.1 >>= behind_classes version tasks.0

abbrev counted : ℕ × List ℕ → Result Content DraftFault
counted version = number_at w16 version.1 >>= behind_tasks version.0

abbrev versioned : List ℕ → Result Content DraftFault
versioned bytes = version_at bytes >>= counted

pub draft_takes : (bytes : List ℕ) (d : Content)
    → IsBytes bytes
    → draft_from bytes ≡ Ok d
    → Spells bytes d
unfolding draft_from
draft_takes bytes d fits e =
    let a = bind_ok (behind_magic bytes) versioned d e in
    let v = bind_ok (version_at a.0) counted d a.2 in
    let version = v.0.0 in
    let tasks = bind_ok (number_at w16 v.0.1) (behind_tasks version) d v.2 in
    let classes = bind_ok (number_at w16 tasks.0.1) (behind_classes version tasks.0.0) d tasks.2 in
    let births = bind_ok (births_at version tasks.0.0 classes.0.1)
    (behind_births version tasks.0.0 classes.0.0) d classes.2 in
    let count = bind_ok (number_at w32 births.0.1)
    (behind_count version tasks.0.0 classes.0.0 births.0.0) d births.2 in
    let at = first_place version in
    let facts = bind_ok (facts_at tasks.0.0 classes.0.0 count.0.0 at None count.0.1)
    (behind_facts tasks.0.0 classes.0.0 births.0.0) d count.2 in
    let made : Content = record {
      tasks = tasks.0.0;
      classes = classes.0.0;
      births = births.0.0;
      facts = facts.0.0;
    } in
    let p = passed (eqb (length facts.0.1) 0) Trailing (Ok made) d facts.2 in
    let t0 = magic_takes bytes a.0 fits a.1 in
    let t1 = version_takes a.0 v.0 t0.rest_fits v.1 in
    let t2 = number_takes w16 (2 ^ 16) wide16 v.0.1 tasks.0.0 tasks.0.1 t1.0.rest_fits tasks.1 in
    let t3 = number_takes w16 (2 ^ 16) wide16 tasks.0.1 classes.0.0 classes.0.1 t2.0.rest_fits
    classes.1 in
    let b = births_take version tasks.0.0 classes.0.1 births.0 t1.1 t2.1 t3.0.rest_fits births.1 in
    let t4 = number_takes w32 (2 ^ 32) wide32 births.0.1 count.0.0 count.0.1 b.taken.rest_fits
    count.1 in
    let t5 = facts_take tasks.0.0 classes.0.0 count.0.0 at None count.0.1 facts.0 t4.0.rest_fits
    facts.1 in
    let nothing : facts.0.1 ≡ [] = nil_from_length facts.0.1 (eqb-true (length facts.0.1) 0 p.0) in
    let u1 = Takes-then bytes magic a.0 (to_be_bytes w16 version) v.0.1 t0 t1.0 in
    let u2 = Takes-then bytes (magic ++ to_be_bytes w16 version) v.0.1
    (to_be_bytes w16 tasks.0.0) tasks.0.1 u1 t2.0 in
    let u3 = Takes-then bytes (magic ++ to_be_bytes w16 version ++ to_be_bytes w16 tasks.0.0)
    tasks.0.1 (to_be_bytes w16 classes.0.0) classes.0.1 u2 t3.0 in
    let front = magic ++ to_be_bytes w16 version ++ to_be_bytes w16 tasks.0.0 ++
    to_be_bytes w16 classes.0.0 in
    let said = births_bytes tasks.0.0 births.0.0 in
    let u4 = Takes-then bytes front classes.0.1 said births.0.1 u3 b.taken in
    let u5 = Takes-then bytes (front ++ said) births.0.1 (to_be_bytes w32 count.0.0) count.0.1 u4
    t4.0 in
    let header = front ++ said in
    let u6 = Takes-then bytes (header ++ to_be_bytes w32 count.0.0) count.0.1
    (facts_bytes facts.0.0) facts.0.1 u5 t5.taken in
    let whole : bytes ≡ spelling made =
    u6.parts
    ∙ ap (λ (r : List ℕ). header ++ to_be_bytes w32 count.0.0 ++ facts_bytes facts.0.0 ++ r) nothing
    ∙ append-nil (header ++ to_be_bytes w32 count.0.0 ++ facts_bytes facts.0.0)
    ∙ ap (λ (n : ℕ). header ++ to_be_bytes w32 n ++ facts_bytes facts.0.0) (sym t5.len)
    ∙ ap (λ (n : ℕ). magic ++ to_be_bytes w16 n ++ to_be_bytes w16 tasks.0.0 ++
    to_be_bytes w16 classes.0.0 ++ said ++ to_be_bytes w32 (length facts.0.0) ++
    facts_bytes facts.0.0) b.version_is
    in
    let draft : IsDraft made = record {
      tasks = t2.1;
      classes = t3.1;
      births = b.below;
      enough = b.enough;
      ascending = t5.ascend;
      within = t5.within;
      few = omega (arith, t5.len, t4.1);
    } in
    subst (Spells bytes) (ok_is made d p.1) (record { draft = draft; bytes_are = whole })

pub draft_again : (d : Content) → IsDraft d → draft_from (spelling d) ≡ Ok d
unfolding draft_from
draft_again d is =
    let version = version_number d.tasks d.births in
    let at = first_place version in
    let facts = facts_bytes d.facts in
    let from_count = to_be_bytes w32 (length d.facts) ++ facts in
    let from_births = births_bytes d.tasks d.births ++ from_count in
    let from_classes = to_be_bytes w16 d.classes ++ from_births in
    let from_tasks = to_be_bytes w16 d.tasks ++ from_classes in
    let from_version = to_be_bytes w16 version ++ from_tasks in
    let facts_read : facts_at d.tasks d.classes (length d.facts) at None facts ≡ Ok (d.facts, []) =
    ap (facts_at d.tasks d.classes (length d.facts) at None) (sym (append-nil facts))
    ∙ facts_again d.tasks d.classes at None d.facts [] is.tasks is.classes is.within is.ascending
    in
    let flat : spelling d ≡ magic ++ from_version =
    flatten magic (to_be_bytes w16 version) (to_be_bytes w16 d.tasks) (to_be_bytes w16 d.classes)
    (births_bytes d.tasks d.births) (to_be_bytes w32 (length d.facts)) facts in
    ap draft_from flat
    ∙ bind_to (behind_magic (magic ++ from_version)) from_version versioned (Ok d)
    (magic_again from_version)
    (bind_to (version_at from_version) (version, from_tasks) counted (Ok d)
    (version_again d.tasks d.births from_tasks)
    (bind_to (number_at w16 from_tasks) (d.tasks, from_classes) (behind_tasks version) (Ok d)
    (number_again w16 (2 ^ 16) wide16 d.tasks from_classes is.tasks)
    (bind_to (number_at w16 from_classes) (d.classes, from_births)
    (behind_classes version d.tasks) (Ok d)
    (number_again w16 (2 ^ 16) wide16 d.classes from_births is.classes)
    (bind_to (births_at version d.tasks from_births) (d.births, from_count)
    (behind_births version d.tasks d.classes) (Ok d)
    (births_again d.tasks d.births from_count is.births is.enough)
    (bind_to (number_at w32 from_count) (length d.facts, facts)
    (behind_count version d.tasks d.classes d.births)
    (Ok d) (number_again w32 (2 ^ 32) wide32 (length d.facts) facts is.few)
    (bind_to (facts_at d.tasks d.classes (length d.facts) at None facts) (d.facts, [])
    (behind_facts d.tasks d.classes d.births) (Ok d) facts_read refl))))))

-- the same of what a function returned
pub is_found : (bytes : List ℕ) (r : Result Draft (OrMemory DraftFault))
    → IsBytes bytes
    → Gives content r (draft_from bytes)
    → IfOk r (λ draft. Spells bytes (content draft))
is_found bytes r fits given =
    gives_ok (Spells bytes) content r (draft_from bytes) (λ d. draft_takes bytes d fits) given

pub is_only : (bytes : List ℕ) (r : Result Draft (OrMemory DraftFault))
    → Gives content r (draft_from bytes)
    → (d : Content)
    → Spells bytes d
    → Gives content r (Ok d)
is_only bytes r given d spells =
    let is = ap draft_from spells.bytes_are ∙ draft_again d spells.draft in
    gives_same content r (draft_from bytes) (Ok d) is given
