-- The kinds that are printed, one by one.
use Rattle.std.proofs.Common.{◌≡◌, ℕ, List, false, ap, sym, refl}
use Rattle.std.specs.Prelude.{bytes_eq}
use Rattle.std.proofs.lemmas.Bool.{false_from_ne_true}
use Rattle.std.proofs.lemmas.Slice.Eq.{bytes_eq-Decides}
use Rattle.mrc_wiring.specs.Names.{kind_word, kind_named}
use Rattle.mrc_wiring.proofs.names.kind_named.Goals as goal

differs : (text : List ℕ) (kind : ℕ)
    → (text ≡ kind_word kind → ⊥)
    → bytes_eq text (kind_word kind) ≡ false
differs text kind not_it =
    false_from_ne_true _ (λ e. not_it ((bytes_eq-Decides text (kind_word kind)).0 e))

pub returns-in-text : goal.returns-in-text
unfolding kind_named
returns-in-text c = sym (ap kind_named c.in-text.is)

pub returns-in-text-2 : goal.returns-in-text-2
unfolding kind_named
returns-in-text-2 c = sym (ap kind_named c.in-text-2.is)

pub returns-in-text-3 : goal.returns-in-text-3
unfolding kind_named
returns-in-text-3 c = sym (ap kind_named c.in-text-3.is)

pub returns-in-text-4 : goal.returns-in-text-4
unfolding kind_named
returns-in-text-4 c = sym (ap kind_named c.in-text-4.is)

pub returns-in-text-5 : goal.returns-in-text-5
unfolding kind_named
returns-in-text-5 c = sym (ap kind_named c.in-text-5.is)

pub returns-in-text-6 : goal.returns-in-text-6
unfolding kind_named
returns-in-text-6 c = sym (ap kind_named c.in-text-6.is)

pub returns-in-text-7 : goal.returns-in-text-7
unfolding kind_named
returns-in-text-7 c = sym (ap kind_named c.in-text-7.is)

pub returns-in-text-8 : goal.returns-in-text-8
unfolding kind_named
returns-in-text-8 c = sym (ap kind_named c.in-text-8.is)

pub returns-in-text-9 : goal.returns-in-text-9
unfolding kind_named
returns-in-text-9 c = sym (ap kind_named c.in-text-9.is)

pub returns-in-text-10 : goal.returns-in-text-10
unfolding kind_named
returns-in-text-10 c = sym (ap kind_named c.in-text-10.is)

pub returns-in-text-11 : goal.returns-in-text-11
unfolding kind_named
returns-in-text-11 c = sym (ap kind_named c.in-text-11.is)

pub returns-in-text-12 : goal.returns-in-text-12
unfolding kind_named
returns-in-text-12 c = sym (ap kind_named c.in-text-12.is)

pub returns-in-text-13 : goal.returns-in-text-13
unfolding kind_named
returns-in-text-13 c = sym (ap kind_named c.in-text-13.is)

pub returns-in-text-14 : goal.returns-in-text-14
unfolding kind_named
returns-in-text-14 c = sym (ap kind_named c.in-text-14.is)

pub returns-in-text-15 : goal.returns-in-text-15
unfolding kind_named
returns-in-text-15 c = sym (ap kind_named c.in-text-15.is)

pub returns-in_default : goal.returns-in_default
unfolding kind_named
returns-in_default c =
    let text = c.args.text.now in
    rw (
      differs text 1 c.in_default.not-text,
      differs text 2 c.in_default.not-text-2,
      differs text 3 c.in_default.not-text-3,
      differs text 4 c.in_default.not-text-4,
      differs text 5 c.in_default.not-text-5,
      differs text 6 c.in_default.not-text-6,
      differs text 7 c.in_default.not-text-7,
      differs text 8 c.in_default.not-text-8,
      differs text 9 c.in_default.not-text-9,
      differs text 10 c.in_default.not-text-10,
      differs text 11 c.in_default.not-text-11,
      differs text 12 c.in_default.not-text-12,
      differs text 13 c.in_default.not-text-13,
      differs text 14 c.in_default.not-text-14,
      differs text 15 c.in_default.not-text-15,
    ) refl
