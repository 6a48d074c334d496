-- The two halves of a set of facts.
use Rattle.std.proofs.Common.{◌≡◌, ℕ, ◌+◌, take, Bool, true, false, cond, List, [], ◌∷◌, length, refl, ap, sym, subst, ◌∙◌, inl, inr, arith}
use Rattle.std.specs.Prelude.{IsTrue, not, ◌&&◌, ◌||◌, Option, Some, None, IfSome, IsNone, ◌↔◌, Result, Ok, Err, IfOk, OnOk, OnErr}
use Rattle.std.specs.Ordering.{is_lt}
use Rattle.std.specs.declared.cmp.Ordering.TheVariants.{Less, Equal, Greater}
use Rattle.std.proofs.lemmas.Bool.{cases_Bool, and_parts, and_from, or_cases, or_left, or_right, true≢false, false≢true, false_from_ne_true}
use Rattle.std.proofs.Math.Bool.{or-false, or_assoc}
use Rattle.mrc_base.specs.declared.Fact.{Fact}
use Rattle.mrc_facts.specs.Order.{fact_cmp, is_before, is_same}
use Rattle.mrc_facts.specs.Sets.{has, with_fact, first, after, IsAscending}
use Rattle.mrc_facts.specs.Laws.{IsLeast, IsNext}
use Rattle.mrc_facts.proofs.Total.{fact_total, equal_from_same, same_itself}
use Rattle.mrc_facts.proofs.Members.{one_list, has-with_fact, first_is_least, after_is_next, none_after}
use Rattle.mrc_facts.proofs.Members.{or_swap}
use Rattle.mrc_facts.proofs.Walking.{place, IsStep, has_more, walk_ends}
use Rattle.mrc_facts.proofs.Removing.{without, has-without, ascending-without, length-without}
use Rattle.mrc_rows.specs.Rows.{is_within, IsWithin}
use Rattle.mrc_rows.specs.Halves.{IsWhole, Whole, earlier}
use Rattle.mrc_rows.proofs.Rows.{with_there, ascending_with, length_with, neither_before}

-- the list that a set shows
pub whole_as : (rows others : List Fact) (whole : Whole rows others) (facts : List Fact) → whole.0 ≡ facts → IsWhole rows others facts
whole_as rows others whole facts e = subst (λ fs. IsWhole rows others fs) e whole.1

pub one_whole : (rows others facts : List Fact) (whole : Whole rows others) → IsWhole rows others facts → whole.0 ≡ facts
one_whole rows others facts whole is = one_list whole.0 facts whole.1.ascending is.ascending (λ f. whole.1.same f ∙ sym (is.same f))

pub whole_new : (rows others : List Fact) → rows ≡ [] → others ≡ [] → IsWhole rows others []
whole_new rows others a b =
    subst (λ fs. IsWhole fs others []) (sym a) (subst (λ fs. IsWhole [] fs []) (sym b) (record {
      same = λ f. refl;
      within = λ f h. absurd (false≢true h);
      outside = λ f h. absurd (false≢true h);
      len = refl;
      ascending = refl;
      rows_ascending = refl;
      others_ascending = refl;
    }))

module _ (rows others facts : List Fact) (is : IsWhole rows others facts) where
  others_lack : (f : Fact) → IsWithin f → has others f ≡ false
  others_lack f within = false_from_ne_true (has others f) (λ there. true≢false (sym within ∙ is.outside f there))

  rows_lack : (f : Fact) → is_within f ≡ false → has rows f ≡ false
  rows_lack f outside = false_from_ne_true (has rows f) (λ there. true≢false (sym (is.within f there) ∙ outside))

  -- a fact with a place in rows stands there or nowhere
  pub has_row : (f : Fact) → IsWithin f → has facts f ≡ has rows f
  has_row f within = is.same f ∙ (ap (λ b. has rows f || b) (others_lack f within) ∙ or-false (has rows f))

  pub has_other : (f : Fact) → is_within f ≡ false → has facts f ≡ has others f
  has_other f outside = is.same f ∙ ap (λ b. b || has others f) (rows_lack f outside)

  -- one more
  more : (half : List Fact) (f : Fact) → IsAscending half → has facts f ≡ has half f → (n : ℕ) → length facts ≡ length half + n → length (with_fact facts f) ≡ length (with_fact half f) + n
  more half f up same n len = elim (cases_Bool (has half f)) [
    | inl there ↦
        let a = ap length (with_there half f up there) in
        let b = ap length (with_there facts f is.ascending (same ∙ there)) in
        omega arith
    | inr lacks ↦
        let a = length_with half f lacks in
        let b = length_with facts f (same ∙ lacks) in
        omega arith
  ]

  pub whole_with_row : (f : Fact) → IsWithin f → IsWhole (with_fact rows f) others (with_fact facts f)
  whole_with_row f within = record {
    same = λ g. has-with_fact facts f g ∙ (ap (λ b. is_same g f || b) (is.same g) ∙ (sym (or_assoc (is_same g f) (has rows g) (has others g)) ∙ ap (λ b. b || has others g) (sym (has-with_fact rows f g))));
    within = λ g h. elim (or_cases (is_same g f) (has rows g) (sym (has-with_fact rows f g) ∙ h)) [
      | inl same ↦ subst IsWithin (sym (equal_from_same g f same)) within
      | inr there ↦ is.within g there
    ];
    outside = is.outside;
    len = more rows f is.rows_ascending (has_row f within) (length others) is.len;
    ascending = ascending_with facts f is.ascending;
    rows_ascending = ascending_with rows f is.rows_ascending;
    others_ascending = is.others_ascending;
  }

  pub whole_with_other : (f : Fact) → is_within f ≡ false → IsWhole rows (with_fact others f) (with_fact facts f)
  whole_with_other f outside = record {
    same = λ g. has-with_fact facts f g ∙ (ap (λ b. is_same g f || b) (is.same g) ∙ (or_swap (is_same g f) (has rows g) (has others g) ∙ ap (λ b. has rows g || b) (sym (has-with_fact others f g))));
    within = is.within;
    outside = λ g h. elim (or_cases (is_same g f) (has others g) (sym (has-with_fact others f g) ∙ h)) [
      | inl same ↦ subst (λ x. is_within x ≡ false) (sym (equal_from_same g f same)) outside
      | inr there ↦ is.outside g there
    ];
    len = let h = more others f is.others_ascending (has_other f outside) (length rows) (let e = is.len in omega arith) in omega arith;
    ascending = ascending_with facts f is.ascending;
    rows_ascending = is.rows_ascending;
    others_ascending = ascending_with others f is.others_ascending;
  }

  -- one less
  stays : (half : List Fact) (f : Fact) → IsAscending half → has half f ≡ false → without half f ≡ half
  stays half f up lacks = one_list (without half f) half (ascending-without half f up) up (λ g. has-without half f up g ∙ at g)
    where
      at : (g : Fact) → (not (is_same g f) && has half g) ≡ has half g
      at g = elim (cases_Bool (is_same g f)) [
        | inl same ↦ rw same (sym (subst (λ x. has half x ≡ false) (sym (equal_from_same g f same)) lacks))
        | inr other ↦ rw other refl
      ]

  less : (half : List Fact) (f : Fact) → IsAscending half → has facts f ≡ has half f → (n : ℕ) → length facts ≡ length half + n → length (without facts f) ≡ length (without half f) + n
  less half f up same n len = elim (cases_Bool (has half f)) [
    | inl there ↦
        let a = length-without half f there in
        let b = length-without facts f (same ∙ there) in
        omega arith
    | inr lacks ↦
        let a = ap length (stays half f up lacks) in
        let b = ap length (stays facts f is.ascending (same ∙ lacks)) in
        omega arith
  ]

  left_of : (half after_it : List Fact) (f : Fact) → IsAscending half → IsAscending after_it → ((g : Fact) → has after_it g ≡ (not (is_same g f) && has half g)) → after_it ≡ without half f
  left_of half after_it f up up_then h = one_list after_it (without half f) up_then (ascending-without half f up) (λ g. h g ∙ sym (has-without half f up g))

  apart : (a b c : Bool) → (a && (b || c)) ≡ ((a && b) || (a && c))
  apart true b c = refl
  apart false b c = refl

  not_same : (f g : Fact) → (is_same g f ≡ true → ⊥) → not (is_same g f) ≡ true
  not_same f g other = ap not (false_from_ne_true (is_same g f) other)

  same_left : (half : List Fact) (f g : Fact) → has half f ≡ false → (not (is_same g f) && has half g) ≡ has half g
  same_left half f g lacks = elim (cases_Bool (is_same g f)) [
    | inl same ↦ rw same (sym (subst (λ x. has half x ≡ false) (sym (equal_from_same g f same)) lacks))
    | inr other ↦ rw other refl
  ]

  pub whole_less_row : (f : Fact) (after_it : List Fact) → IsWithin f → IsAscending after_it → ((g : Fact) → has after_it g ≡ (not (is_same g f) && has rows g)) → IsWhole after_it others (without facts f)
  whole_less_row f after_it within up h = subst (λ fs. IsWhole fs others (without facts f)) (sym (left_of rows after_it f is.rows_ascending up h)) (record {
    same = λ g. has-without facts f is.ascending g ∙ (ap (λ b. not (is_same g f) && b) (is.same g) ∙ (apart (not (is_same g f)) (has rows g) (has others g) ∙ (ap (λ b. b || (not (is_same g f) && has others g)) (sym (has-without rows f is.rows_ascending g)) ∙ ap (λ b. has (without rows f) g || b) (same_left others f g (others_lack f within)))));
    within = λ g there. is.within g (and_parts (not (is_same g f)) (has rows g) (sym (has-without rows f is.rows_ascending g) ∙ there)).1;
    outside = is.outside;
    len = less rows f is.rows_ascending (has_row f within) (length others) is.len;
    ascending = ascending-without facts f is.ascending;
    rows_ascending = ascending-without rows f is.rows_ascending;
    others_ascending = is.others_ascending;
  })

  pub whole_less_other : (f : Fact) (after_it : List Fact) → is_within f ≡ false → IsAscending after_it → ((g : Fact) → has after_it g ≡ (not (is_same g f) && has others g)) → IsWhole rows after_it (without facts f)
  whole_less_other f after_it outside up h = subst (λ fs. IsWhole rows fs (without facts f)) (sym (left_of others after_it f is.others_ascending up h)) (record {
    same = λ g. has-without facts f is.ascending g ∙ (ap (λ b. not (is_same g f) && b) (is.same g) ∙ (apart (not (is_same g f)) (has rows g) (has others g) ∙ (ap (λ b. b || (not (is_same g f) && has others g)) (same_left rows f g (rows_lack f outside)) ∙ ap (λ b. has rows g || b) (sym (has-without others f is.others_ascending g)))));
    within = is.within;
    outside = λ g there. is.outside g (and_parts (not (is_same g f)) (has others g) (sym (has-without others f is.others_ascending g) ∙ there)).1;
    len = let e = less others f is.others_ascending (has_other f outside) (length rows) (let e = is.len in omega arith) in omega arith;
    ascending = ascending-without facts f is.ascending;
    rows_ascending = is.rows_ascending;
    others_ascending = ascending-without others f is.others_ascending;
  })

-- what is put in, where memory was there
pub whole_put_row : {E : Type 0} (rows after_it others facts : List Fact) (f : Fact) → IsWithin f → IsWhole rows others facts → (r : Result Bool E) → OnOk r (after_it ≡ with_fact rows f) → OnErr r (after_it ≡ rows) → Whole after_it others
whole_put_row rows after_it others facts f within is (Ok b) ok err = (with_fact facts f, subst (λ fs. IsWhole fs others (with_fact facts f)) (sym ok) (whole_with_row rows others facts is f within))
whole_put_row rows after_it others facts f within is (Err e) ok err = (facts, subst (λ fs. IsWhole fs others facts) (sym err) is)

pub whole_put_other : {E : Type 0} (rows others after_it facts : List Fact) (f : Fact) → is_within f ≡ false → IsWhole rows others facts → (r : Result Bool E) → OnOk r (after_it ≡ with_fact others f) → OnErr r (after_it ≡ others) → Whole rows after_it
whole_put_other rows others after_it facts f outside is (Ok b) ok err = (with_fact facts f, subst (λ fs. IsWhole rows fs (with_fact facts f)) (sym ok) (whole_with_other rows others facts is f outside))
whole_put_other rows others after_it facts f outside is (Err e) ok err = (facts, subst (λ fs. IsWhole rows fs facts) (sym err) is)

-- how many there are after_it
pub with_len : (fs : List Fact) (f : Fact) → IsAscending fs → (added : Bool) → added ≡ not (has fs f) → length (with_fact fs f) ≡ length fs + cond added 1 0
with_len fs f up added e = elim (cases_Bool (has fs f)) [
  | inl there ↦ rw (e, there) (let h = ap length (with_there fs f up there) in omega arith)
  | inr lacks ↦ rw (e, lacks) (length_with fs f lacks)
]

-- what an insertion answers, and leaves
pub record IsPut {E : Type 0} (facts : List Fact) (f : Fact) (r : Result Bool E) (new : List Fact) : Type 0 where
  pub added : IfOk r (λ added. added ≡ not (has facts f))
  pub ok : OnOk r (new ≡ with_fact facts f)
  pub err : OnErr r (new ≡ facts)
  pub members : OnOk r ((g : Fact) → has new g ≡ (is_same g f || has facts g))
  pub len : IfOk r (λ added. length new ≡ length facts + cond added 1 0)
  pub ascending : IsAscending new

is_put : {E : Type 0} (facts : List Fact) (f : Fact) → IsAscending facts → (r : Result Bool E) (new : List Fact) → IsAscending new → IfOk r (λ added. added ≡ not (has facts f)) → OnOk r (new ≡ with_fact facts f) → OnErr r (new ≡ facts) → IsPut facts f r new
is_put facts f up (Ok b) new up_new added ok err = record {
  added = added;
  ok = ok;
  err = err;
  members = λ g. ap (λ fs. has fs g) ok ∙ has-with_fact facts f g;
  len = ap length ok ∙ with_len facts f up b added;
  ascending = up_new;
}
is_put facts f up (Err e) new up_new added ok err = record {
  added = added;
  ok = ok;
  err = err;
  members = tt;
  len = tt;
  ascending = up_new;
}

pub row_put : {E : Type 0} (rows after_it others facts : List Fact) (f : Fact) → IsWithin f → IsWhole rows others facts → (r : Result Bool E) → IfOk r (λ added. added ≡ not (has rows f)) → OnOk r (after_it ≡ with_fact rows f) → OnErr r (after_it ≡ rows) → (whole : Whole after_it others) → IsPut facts f r whole.0
row_put rows after_it others facts f within is (Ok b) added ok err whole = is_put facts f is.ascending (Ok b) whole.0 whole.1.ascending (added ∙ ap not (sym (has_row rows others facts is f within))) (one_whole after_it others (with_fact facts f) whole (subst (λ fs. IsWhole fs others (with_fact facts f)) (sym ok) (whole_with_row rows others facts is f within))) tt
row_put rows after_it others facts f within is (Err e) added ok err whole = is_put facts f is.ascending (Err e) whole.0 whole.1.ascending tt tt (one_whole after_it others facts whole (subst (λ fs. IsWhole fs others facts) (sym err) is))

pub other_put : {E : Type 0} (rows others after_it facts : List Fact) (f : Fact) → is_within f ≡ false → IsWhole rows others facts → (r : Result Bool E) → IfOk r (λ added. added ≡ not (has others f)) → OnOk r (after_it ≡ with_fact others f) → OnErr r (after_it ≡ others) → (whole : Whole rows after_it) → IsPut facts f r whole.0
other_put rows others after_it facts f outside is (Ok b) added ok err whole = is_put facts f is.ascending (Ok b) whole.0 whole.1.ascending (added ∙ ap not (sym (has_other rows others facts is f outside))) (one_whole rows after_it (with_fact facts f) whole (subst (λ fs. IsWhole rows fs (with_fact facts f)) (sym ok) (whole_with_other rows others facts is f outside))) tt
other_put rows others after_it facts f outside is (Err e) added ok err whole = is_put facts f is.ascending (Err e) whole.0 whole.1.ascending tt tt (one_whole rows after_it facts whole (subst (λ fs. IsWhole rows fs facts) (sym err) is))

-- the least of a set, or none
abbrev IsLeastOf : (Fact → Bool) → Option Fact → Type 0
IsLeastOf S None = (g : Fact) → S g ≡ false
IsLeastOf S (Some f) = (S f ≡ true) × ((g : Fact) → S g ≡ true → is_before g f ≡ false)

one_least_of : (S : Fact → Bool) (o p : Option Fact) → IsLeastOf S o → IsLeastOf S p → o ≡ p
one_least_of S None None a b = refl
one_least_of S None (Some g) a b = absurd (true≢false (sym b.0 ∙ a g))
one_least_of S (Some f) None a b = absurd (true≢false (sym a.0 ∙ b f))
one_least_of S (Some f) (Some g) a b = ap (λ (x : Fact). Some x) (neither_before f g (b.1 f a.0) (a.1 g b.0))

less_is : (a b : Fact) → is_before a b ≡ true → fact_cmp a b ≡ Less
less_is a b e = elim (fact_cmp a b) as (λ o. is_lt o ≡ true → o ≡ Less) [
  | Less ↦ λ h. refl
  | Equal ↦ λ h. absurd (false≢true h)
  | Greater ↦ λ h. absurd (false≢true h)
] e

before_either : (f g h : Fact) → is_before g f ≡ true → is_before h f ≡ false → is_before h g ≡ false
before_either f g h less not_less = false_from_ne_true (is_before h g) (λ low.
    true≢false (sym (ap is_lt (fact_total.trans h g f (less_is h g low) (less_is g f less))) ∙ not_less))

not_after_either : (f g h : Fact) → is_before g f ≡ false → is_before h g ≡ false → is_before h f ≡ false
not_after_either f g h a b = false_from_ne_true (is_before h f) (λ low. elim (cases_Bool (is_before f g)) [
  | inl less ↦ true≢false (sym (ap is_lt (fact_total.trans h f g (less_is h f low) (less_is f g less))) ∙ b)
  | inr other ↦ true≢false (sym (subst (λ x. is_before h x ≡ true) (neither_before f g other a) low) ∙ b)
])

least_of_both : (A B S : Fact → Bool) → ((g : Fact) → S g ≡ (A g || B g)) → (o p : Option Fact) → IsLeastOf A o → IsLeastOf B p → IsLeastOf S (earlier o p)
least_of_both A B S same None None a b = λ g. same g ∙ rw (a g, b g) refl
least_of_both A B S same None (Some g) a b = (same g ∙ or_right (A g) (B g) b.0, λ h there. elim (or_cases (A h) (B h) (sym (same h) ∙ there)) [ inl x ↦ absurd (true≢false (sym x ∙ a h)) | inr x ↦ b.1 h x ])
least_of_both A B S same (Some f) None a b = (same f ∙ or_left (A f) (B f) a.0, λ h there. elim (or_cases (A h) (B h) (sym (same h) ∙ there)) [ inl x ↦ a.1 h x | inr x ↦ absurd (true≢false (sym x ∙ b h)) ])
least_of_both A B S same (Some f) (Some g) a b =
    elim (is_before g f) as (λ c. is_before g f ≡ c → IsLeastOf S (cond c (Some g) (Some f))) [
      | true ↦ λ e. (same g ∙ or_right (A g) (B g) b.0, λ h there. elim (or_cases (A h) (B h) (sym (same h) ∙ there)) [ inl x ↦ before_either f g h e (a.1 h x) | inr x ↦ b.1 h x ])
      | false ↦ λ e. (same f ∙ or_left (A f) (B f) a.0, λ h there. elim (or_cases (A h) (B h) (sym (same h) ∙ there)) [ inl x ↦ a.1 h x | inr x ↦ not_after_either f g h e (b.1 h x) ])
    ] refl

least_first : (fs : List Fact) → IsAscending fs → IsLeastOf (has fs) (first fs)
least_first [] up = λ g. refl
least_first (f ∷ fs) up = let l = first_is_least (f ∷ fs) up in (l.member, l.least)

least_after : (fs : List Fact) (f : Fact) → IsAscending fs → IsLeastOf (λ g. has fs g && is_before f g) (after fs f)
least_after fs f up = go (after fs f) refl (after_is_next fs f up)
  where
    and_false : (a b : Bool) → (IsTrue a → b ≡ false) → (a && b) ≡ false
    and_false true b h = h refl
    and_false false b h = refl

    go : (o : Option Fact) → after fs f ≡ o → IfSome o (IsNext fs f) → IsLeastOf (λ g. has fs g && is_before f g) o
    go None e next = λ g. and_false (has fs g) (is_before f g) (none_after fs f e g)
    go (Some g) e next = (and_from (has fs g) (is_before f g) next.member next.later, λ h there. let p = and_parts (has fs h) (is_before f h) there in next.least h p.0 p.1)

pub first_of_both : (rows others facts : List Fact) → IsWhole rows others facts → earlier (first rows) (first others) ≡ first facts
first_of_both rows others facts is = one_least_of (has facts) (earlier (first rows) (first others)) (first facts)
    (least_of_both (has rows) (has others) (has facts) is.same (first rows) (first others) (least_first rows is.rows_ascending) (least_first others is.others_ascending))
    (least_first facts is.ascending)

pub after_of_both : (rows others facts : List Fact) (f : Fact) → IsWhole rows others facts → earlier (after rows f) (after others f) ≡ after facts f
after_of_both rows others facts f is = one_least_of (λ g. has facts g && is_before f g) (earlier (after rows f) (after others f)) (after facts f)
    (least_of_both (λ g. has rows g && is_before f g) (λ g. has others g && is_before f g) (λ g. has facts g && is_before f g) either (after rows f) (after others f) (least_after rows f is.rows_ascending) (least_after others f is.others_ascending))
    (least_after facts f is.ascending)
  where
    apart : (a b c : Bool) → ((a || b) && c) ≡ ((a && c) || (b && c))
    apart true true true = refl
    apart true true false = refl
    apart true false true = refl
    apart true false false = refl
    apart false b c = refl

    either : (g : Fact) → (has facts g && is_before f g) ≡ ((has rows g && is_before f g) || (has others g && is_before f g))
    either g = ap (λ b. b && is_before f g) (is.same g) ∙ apart (has rows g) (has others g) (is_before f g)

-- what answers to both halves mean
pub both_answers : (o p a b : Option Fact) → o ≡ a → p ≡ b → earlier o p ≡ earlier a b
both_answers o p a b e f = ap (λ x. earlier x p) e ∙ ap (λ x. earlier a x) f

pub least_answer : (fs : List Fact) (o : Option Fact) → IsAscending fs → o ≡ first fs → IfSome o (IsLeast fs)
least_answer fs o up e = subst (λ x. IfSome x (IsLeast fs)) (sym e) (first_is_least fs up)

pub none_answer : (fs : List Fact) (o : Option Fact) → o ≡ first fs → IsNone o ↔ (fs ≡ [])
none_answer [] None e = (λ h. refl, λ h. refl)
none_answer [] (Some g) e = absurd cc
none_answer (f ∷ fs) None e = absurd cc
none_answer (f ∷ fs) (Some g) e = (λ h. absurd (true≢false h), λ h. absurd cc)

-- of a set's facts, those that are not left to look at are in another set
pub record AreHad (facts other left : List Fact) : Type 0 where
  pub there : (g : Fact) → IsTrue (has left g) → IsTrue (has facts g)
  pub so_far : (g : Fact) → IsTrue (has facts g) → IsTrue (has other g || has left g)

pub none_had : (facts other left : List Fact) → left ≡ facts → AreHad facts other left
none_had facts other left is = record {
  there = λ g h. subst (λ fs. IsTrue (has fs g)) is h;
  so_far = λ g h. or_right (has other g) (has left g) (subst (λ fs. IsTrue (has fs g)) (sym is) h);
}

pub one_had : (facts other left rest : List Fact) (f : Fact) → left ≡ f ∷ rest
    → IsTrue (has other f) → AreHad facts other left → AreHad facts other rest
one_had facts other left rest f is had at = record {
  there = λ g h. at.there g (subst (λ fs. IsTrue (has fs g)) (sym is)
      (or_right (is_same g f) (has rest g) h));
  so_far = λ g h. elim (or_cases (has other g) (has left g) (at.so_far g h)) [
    | inl there ↦ or_left (has other g) (has rest g) there
    | inr more ↦ elim (or_cases (is_same g f) (has rest g) (subst (λ fs. IsTrue (has fs g)) is more)) [
      | inl same ↦ or_left (has other g) (has rest g)
          (subst (λ x. IsTrue (has other x)) (sym (equal_from_same g f same)) had)
      | inr later ↦ or_right (has other g) (has rest g) later
    ]
  ];
}

pub not_had : (facts other left rest : List Fact) (f : Fact) → left ≡ f ∷ rest
    → has other f ≡ false → AreHad facts other left
    → IsTrue false ↔ ((g : Fact) → IsTrue (has facts g) → IsTrue (has other g))
not_had facts other left rest f is lacks at = (
  λ h. absurd (false≢true h),
  λ all. absurd (false≢true (sym lacks ∙ all f (at.there f (subst (λ fs. IsTrue (has fs f)) (sym is)
      (or_left (is_same f f) (has rest f) (same_itself f)))))),
)

pub all_had : (facts other left : List Fact) → left ≡ [] → AreHad facts other left
    → IsTrue true ↔ ((g : Fact) → IsTrue (has facts g) → IsTrue (has other g))
all_had facts other left none at = (
  λ yes g h. elim (or_cases (has other g) (has left g) (at.so_far g h)) [
    | inl there ↦ there
    | inr more ↦ absurd (false≢true (subst (λ fs. IsTrue (has fs g)) none more))
  ],
  λ all. refl,
)

pub same_lists : (fs gs : List Fact) → IsAscending fs → IsAscending gs → ((g : Fact) → IsTrue (has fs g) → IsTrue (has gs g)) → ((g : Fact) → IsTrue (has gs g) → IsTrue (has fs g)) → fs ≡ gs
same_lists fs gs a b to from = one_list fs gs a b (λ g. equal (has fs g) (has gs g) (to g) (from g))
  where
    equal : (p q : Bool) → (IsTrue p → IsTrue q) → (IsTrue q → IsTrue p) → p ≡ q
    equal true q f g = sym (f refl)
    equal false true f g = g refl
    equal false false f g = refl

-- what is joined

pub begins_joined : (list had : List Fact) (next : Option Fact) → place list next ≡ 0
    → (g : Fact) → has had g ≡ (has had g || has (take (place list next) list) g)
begins_joined list had next e g =
    sym (ap (λ n. has had g || has (take n list) g) e ∙ or-false (has had g))

pub more_joined : (list had now then : List Fact) (next : Option Fact) (f : Fact)
    (after_it : Option Fact) → next ≡ Some f → IsStep list f after_it
    → ((g : Fact) → has now g ≡ (has had g || has (take (place list next) list) g))
    → ((g : Fact) → has then g ≡ (is_same g f || has now g))
    → (g : Fact) → has then g ≡ (has had g || has (take (place list after_it) list) g)
more_joined list had now then next f after_it is step so_far put g =
    put g ∙ (ap (λ b. is_same g f || b) (so_far g)
    ∙ (ap (λ o. is_same g f || (has had g || has (take (place list o) list) g)) is
    ∙ (or_swap (is_same g f) (has had g) (has (take (place list (Some f)) list) g)
    ∙ ap (λ b. has had g || b)
    (sym (ap (λ fs. has fs g) step.taken ∙ has_more (take (place list (Some f)) list) f g)))))

pub all_joined : (list had now : List Fact) (next : Option Fact) → next ≡ None
    → ((g : Fact) → has now g ≡ (has had g || has (take (place list next) list) g))
    → (g : Fact) → has now g ≡ (has had g || has list g)
all_joined list had now next is so_far g =
    so_far g
    ∙ ap (λ fs. has had g || has fs g) (ap (λ o. take (place list o) list) is ∙ walk_ends list)

-- the facts with a place in rows, and all others
pub both_joined : (rows others facts : List Fact) → IsWhole rows others facts → (g : Fact)
    → (had now then : Bool) → now ≡ (had || (is_within g && has facts g))
    → then ≡ (now || has others g) → then ≡ (had || has facts g)
both_joined rows others facts is g had now then in_rows beside =
    beside ∙ (ap (λ b. b || has others g) in_rows ∙ elim (cases_Bool (is_within g)) [
      | inl within ↦ rw within (
          ap (λ b. (had || has facts g) || b) (others_lack rows others facts is g within)
          ∙ or-false (had || has facts g))
      | inr outside ↦ rw outside (
          ap (λ b. b || has others g) (or-false had)
          ∙ ap (λ b. had || b) (sym (has_other rows others facts is g outside)))
    ])
