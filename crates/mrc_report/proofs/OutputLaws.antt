-- Parts of a text that go out one after the other.
use Rattle.std.proofs.Common.{◌≡◌, ◌∙◌, ◌+◌, ◌≤◌, ℕ, List, [], ◌++◌, Option, length, take, drop, ap}
use Rattle.std.proofs.Common.{append_assoc, append-nil, arith, refl, subst, sym}
use Rattle.std.proofs.KnownBytes.{Appends-nil, Appends-trans}
use Rattle.std.proofs.Math.Seq.{take-append_seam}
use Rattle.std.proofs.lemmas.List.{length-append, length-take, take-append-drop}
use Rattle.std.specs.Io.KnownBytes.{Appends}
use Rattle.std.specs.Prelude.{Result, Ok, Err, IfErr, OnOk}
use Rattle.mrc_report.specs.Output.{HasGrown, HasGrownIn, IsMoreOut, IsOut, IsPartOut, IsSomeOut}
use Rattle.mrc_report.specs.Output.{written}
use Rattle.mrc_report.specs.declared.outgoing.Unprinted.{Unprinted}

-- nothing went out
pub none_out : (old : Option (List ℕ)) (before : ℕ) (text : List ℕ)
    → IsOut old old before before text text
none_out old before text = record {
  front = [];
  parts = refl;
  out = Appends-nil old;
  count = omega arith;
}

-- a text of which some was kept back goes on by a line
pub goes_on : (a b c : Option (List ℕ)) (x y z : ℕ) (whole kept line more later rest : List ℕ)
    → IsOut a b x y whole (kept ++ more)
    → more ≡ line ++ later
    → IsOut b c y z (kept ++ line) rest
    → IsOut a c x z whole (rest ++ later)
goes_on a b c x y z whole kept line more later rest first is next = record {
  front = first.front ++ next.front;
  parts = first.parts ∙ ap (λ m. first.front ++ (kept ++ m)) is
      ∙ sym (ap (λ t. first.front ++ t) (append_assoc kept line later))
      ∙ ap (λ t. first.front ++ (t ++ later)) next.parts
      ∙ ap (λ t. first.front ++ t) (append_assoc next.front rest later)
      ∙ sym (append_assoc first.front next.front (rest ++ later));
  out = Appends-trans a b c first.front next.front first.out next.out;
  count = omega (arith, first.count, next.count, length-append first.front next.front);
}

-- the same, if the line does not go out whole
pub stops : (a b c : Option (List ℕ)) (x y z : ℕ) (whole kept line more later : List ℕ)
    → IsOut a b x y whole (kept ++ more)
    → more ≡ line ++ later
    → IsPartOut b c y z (kept ++ line)
    → IsPartOut a c x z whole
stops a b c x y z whole kept line more later first is next =
    (next.0 ++ later, goes_on a b c x y z whole kept line more later next.0 first is next.1)

-- what went out of a text are its first bytes
pub first_out : (a c : Option (List ℕ)) (z : ℕ) (whole : List ℕ)
    → IsPartOut a c 0 z whole
    → Appends a c (take z whole)
first_out a c z whole part =
    let out = part.1 in
    let many : z ≡ length out.front = omega (arith, out.count) in
    let same : take z whole ≡ out.front =
    ap (λ n. take n whole) many
    ∙ ap (take (length out.front)) out.parts
    ∙ take-append_seam out.front part.0 in
    subst (Appends a c) (sym same) out.out

pub few_out : (a c : Option (List ℕ)) (z : ℕ) (whole : List ℕ)
    → IsPartOut a c 0 z whole
    → z ≤ length whole
few_out a c z whole part =
    let out = part.1 in
    let long = ap length out.parts in
    omega (arith, out.count, long, length-append out.front part.0)

-- a text of which nothing is left went out
pub all_out : (a c : Option (List ℕ)) (z : ℕ) (whole rest : List ℕ)
    → IsOut a c 0 z whole rest
    → rest ≡ []
    → Appends a c whole
all_out a c z whole rest out none =
    let same : whole ≡ out.front =
    out.parts ∙ ap (λ r. out.front ++ r) none ∙ append-nil out.front in
    subst (Appends a c) (sym same) out.out

-- so many bytes of a text went out
pub part_out : (a c : Option (List ℕ)) (x n : ℕ) (text bytes : List ℕ)
    → bytes ≡ text
    → Appends a c (take n bytes)
    → n ≤ length bytes
    → IsPartOut a c x (x + n) text
part_out a c x n text bytes same out few = (
  drop n text,
  record {
    front = take n text;
    parts = sym (take-append-drop n text);
    out = subst (λ b. Appends a c (take n b)) same out;
    count = omega (arith, length-take n text, ap length same, few);
  },
)

-- nothing of a text went out
pub none_part : (old : Option (List ℕ)) (before : ℕ) (text : List ℕ)
    → IsPartOut old old before before text
none_part old before text = (text, none_out old before text)

-- what was kept back at the end of a text goes out, or does not
pub ends : {T : Type 0} (r : Result T Unprinted) (a b c : Option (List ℕ)) (y z : ℕ)
    (whole kept : List ℕ)
    → IsOut a b 0 y whole (kept ++ [])
    → OnOk r (IsOut b c y z kept [])
    → OnOk r (Appends a c whole)
ends (Err fault) a b c y z whole kept first next = tt
ends (Ok x) a b c y z whole kept first next =
    all_out a c z whole []
    (goes_on a b c 0 y z whole kept [] [] [] [] first refl
    (subst (λ k. IsOut b c y z k []) (sym (append-nil kept)) next)) refl

-- the part that went out of a text that stops at its end
stopped : (a b c : Option (List ℕ)) (y z : ℕ) (whole kept : List ℕ)
    → IsOut a b 0 y whole (kept ++ [])
    → IsPartOut b c y z kept
    → IsPartOut a c 0 z whole
stopped a b c y z whole kept first next =
    stops a b c 0 y z whole kept [] [] [] first refl
    (subst (IsPartOut b c y z) (sym (append-nil kept)) next)

pub ends_cut : {T : Type 0} (r : Result T Unprinted) (a b c : Option (List ℕ)) (y : ℕ)
    (whole kept : List ℕ)
    → IsOut a b 0 y whole (kept ++ [])
    → IfErr r (λ fault. IsPartOut b c y (written fault) kept)
    → IfErr r (λ fault. Appends a c (take (written fault) whole))
ends_cut (Ok x) a b c y whole kept first next = tt
ends_cut (Err fault) a b c y whole kept first next =
    first_out a c (written fault) whole (stopped a b c y (written fault) whole kept first next)

pub ends_within : {T : Type 0} (r : Result T Unprinted) (a b c : Option (List ℕ)) (y : ℕ)
    (whole kept : List ℕ)
    → IsOut a b 0 y whole (kept ++ [])
    → IfErr r (λ fault. IsPartOut b c y (written fault) kept)
    → IfErr r (λ fault. written fault ≤ length whole)
ends_within (Ok x) a b c y whole kept first next = tt
ends_within (Err fault) a b c y whole kept first next =
    few_out a c (written fault) whole (stopped a b c y (written fault) whole kept first next)

-- what went out so far
pub so_far : (a b : Option (List ℕ)) (y : ℕ) (whole rest : List ℕ)
    → IsOut a b 0 y whole rest
    → Appends a b (take y whole)
so_far a b y whole rest out = first_out a b y whole (rest, out)

pub so_few : (a b : Option (List ℕ)) (y : ℕ) (whole rest : List ℕ)
    → IsOut a b 0 y whole rest
    → y ≤ length whole
so_few a b y whole rest out = few_out a b y whole (rest, out)

-- some text went out, and then some more, whatever was kept back in between
pub goes_on_by : (a b c : Option (List ℕ)) (x y z : ℕ) (kept rest : List ℕ)
    → IsMoreOut a b x y kept
    → IsMoreOut b c y z rest
    → IsMoreOut a c x z rest
goes_on_by a b c x y z kept rest (_, first) (more, next) = (
  first.front ++ more,
  record {
    front = first.front ++ next.front;
    parts = ap (λ t. first.front ++ t) next.parts
        ∙ sym (append_assoc first.front next.front rest);
    out = Appends-trans a b c first.front next.front first.out next.out;
    count = omega (arith, first.count, next.count, length-append first.front next.front);
  },
)

-- a front of some text went out from the beginning on
pub has_grown_in : (a c : Option (List ℕ)) (z : ℕ)
    → IsSomeOut a c 0 z
    → HasGrownIn a c z
has_grown_in a c z (rest, (text, out)) = (text, first_out a c z text (rest, out))

pub grows_in : (a b c : Option (List ℕ)) (y z : ℕ) (kept : List ℕ)
    → IsMoreOut a b 0 y kept
    → IsSomeOut b c y z
    → HasGrownIn a c z
grows_in a b c y z kept first (rest, next) =
    has_grown_in a c z (rest, goes_on_by a b c 0 y z kept rest first next)

-- what was kept back at the end goes out, or does not
pub ends_by : {T : Type 0} (r : Result T Unprinted) (a b c : Option (List ℕ)) (y z : ℕ)
    (kept : List ℕ)
    → IsMoreOut a b 0 y kept
    → OnOk r (IsOut b c y z kept [])
    → OnOk r (HasGrown a c)
ends_by (Err fault) a b c y z kept first next = tt
ends_by (Ok x) a b c y z kept first next =
    let on = goes_on_by a b c 0 y z kept [] first (kept, next) in
    (on.0, all_out a c z on.0 [] on.1 refl)

pub ends_by_cut : {T : Type 0} (r : Result T Unprinted) (a b c : Option (List ℕ)) (y : ℕ)
    (kept : List ℕ)
    → IsMoreOut a b 0 y kept
    → IfErr r (λ fault. IsPartOut b c y (written fault) kept)
    → IfErr r (λ fault. HasGrownIn a c (written fault))
ends_by_cut (Ok x) a b c y kept first next = tt
ends_by_cut (Err fault) a b c y kept first next =
    grows_in a b c y (written fault) kept first (next.0, (kept, next.1))
