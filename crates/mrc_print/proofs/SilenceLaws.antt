-- A text of notices that is empty is one of none.
use Rattle.std.proofs.Common.{◌≡◌, ◌++◌, ◌∷◌, ◌∙◌, ◌<◌, ◌≤◌, ◌+◌, ℕ, List, [], Result, Ok, Err}
use Rattle.std.proofs.Common.{ap, length, map, subst, sym, take, Vec, Global}
use Rattle.std.specs.Prelude.{All, IfOk, None, String, false, slice_index_or, string_bytes}
use Rattle.std.proofs.lemmas.List.{map-append, take_all, take_more}
use Rattle.std.proofs.lemmas.List.Elements.{All-append, All-cons, All-nil}
use Rattle.mrc_answer.specs.Notices.{Notices}
use Rattle.mrc_dead.specs.Dead.{no_dead_parts}
use Rattle.mrc_print.specs.Silence.{HasNoNames, AreNone}
use Rattle.mrc_print.proofs.EmptyLaws.{first_empty, rest_empty}

-- the names of a list
abbrev names_of : Vec (String Global) Global → List (List ℕ)
names_of names = map string_bytes names.items

-- one file more
pub dropped_more : (xs : List (Vec (String Global) Global)) (i : ℕ)
    (x : Vec (String Global) Global) (names : List (String Global))
    (text line part new : List ℕ)
    → i < length xs → x ≡ slice_index_or xs i x → names ≡ x.items
    → (text ≡ [] → All HasNoNames (map names_of (take i xs)))
    → (line ≡ [] → map string_bytes names ≡ [])
    → part ≡ line → new ≡ text ++ part
    → new ≡ [] → All HasNoNames (map names_of (take (i + 1) xs))
dropped_more xs i x names text line part new low at are before last same grown none =
    let both : text ++ part ≡ [] = sym grown ∙ none in
    let empty : names_of x ≡ [] =
    ap (map string_bytes) (sym are) ∙ last (sym same ∙ rest_empty text part both) in
    let more : take (i + 1) xs ≡ take i xs ++ x ∷ [] =
    take_more xs i x low ∙ ap (λ y. take i xs ++ y ∷ []) (sym at) in
    subst (λ ys. All HasNoNames (map names_of ys)) (sym more)
    (subst (All HasNoNames) (sym (map-append names_of (take i xs) (x ∷ [])))
    (All-append HasNoNames (map names_of (take i xs)) (names_of x ∷ [])
    (before (first_empty text part both))
    (All-cons HasNoNames (names_of x) [] empty (All-nil HasNoNames))))

-- all files
pub dropped_all : (xs : List (Vec (String Global) Global)) (i : ℕ) (text : List ℕ)
    → length xs ≤ i
    → (text ≡ [] → All HasNoNames (map names_of (take i xs)))
    → text ≡ [] → All HasNoNames (map names_of xs)
dropped_all xs i text all are none =
    subst (λ ys. All HasNoNames (map names_of ys)) (take_all i xs all) (are none)

-- all notices, by their lines: these are seen by their parts
pub none_told : {E : Type 0} (seen notices : Notices)
    (dropped notification empty named trusted besides : List ℕ) (r : Result (String Global) E)
    → seen ≡ notices
    → (dropped ≡ [] → All HasNoNames seen.left_out)
    → (dropped ≡ [] → seen.cut_before ≡ [])
    → (notification ≡ [] → seen.notification ≡ None)
    → (empty ≡ [] → seen.is_empty_policy ≡ false)
    → (named ≡ [] → notices.plain ≡ [])
    → (named ≡ [] → notices.leaky ≡ [])
    → (named ≡ [] → notices.dead ≡ no_dead_parts)
    → (named ≡ [] → notices.demands.expects_nothing ≡ false)
    → (named ≡ [] → notices.demands.idle ≡ [])
    → (named ≡ [] → notices.demands.unjudged ≡ 0)
    → (trusted ≡ [] → seen.trusted ≡ [])
    → besides ≡ empty ++ (named ++ trusted)
    → IfOk r (λ text. string_bytes text ≡ dropped ++ (notification ++ besides))
    → IfOk r (λ text. string_bytes text ≡ [] → AreNone notices)
none_told seen notices dropped notification empty named trusted besides (Err e) same a k b c p l d x
    y z t are is = tt
none_told seen notices dropped notification empty named trusted besides (Ok text) same a k b c p l d x
    y z t are is =
    λ none.
    let whole : dropped ++ (notification ++ besides) ≡ [] = sym is ∙ none in
    let behind : notification ++ besides ≡ [] =
    rest_empty dropped (notification ++ besides) whole in
    let last : empty ++ (named ++ trusted) ≡ [] =
    sym are ∙ rest_empty notification besides behind in
    let both : named ++ trusted ≡ [] = rest_empty empty (named ++ trusted) last in
    record {
      left_out = subst (λ (n : Notices). All HasNoNames n.left_out) same
          (a (first_empty dropped (notification ++ besides) whole));
      cut_before = subst (λ (n : Notices). n.cut_before ≡ []) same
          (k (first_empty dropped (notification ++ besides) whole));
      notification = subst (λ (n : Notices). n.notification ≡ None) same
          (b (first_empty notification besides behind));
      policy = subst (λ (n : Notices). n.is_empty_policy ≡ false) same
          (c (first_empty empty (named ++ trusted) last));
      plain = p (first_empty named trusted both);
      leaky = l (first_empty named trusted both);
      dead = d (first_empty named trusted both);
      expecting = x (first_empty named trusted both);
      idle = y (first_empty named trusted both);
      unjudged = z (first_empty named trusted both);
      trusted = subst (λ (n : Notices). n.trusted ≡ []) same
          (t (rest_empty named trusted both));
    }

-- names of a slice and of its list
pub names_so : (xs ys : List (Vec (String Global) Global)) (line : List ℕ)
    → xs ≡ ys → (line ≡ [] → All HasNoNames (map names_of xs))
    → line ≡ [] → All HasNoNames (map names_of ys)
names_so xs ys line same are none =
    subst (λ (ns : List (Vec (String Global) Global)). All HasNoNames (map names_of ns)) same
    (are none)

pub texts_so : (xs ys : List (String Global)) (line : List ℕ)
    → xs ≡ ys → (line ≡ [] → map string_bytes xs ≡ [])
    → line ≡ [] → map string_bytes ys ≡ []
texts_so xs ys line same are none = ap (map string_bytes) (sym same) ∙ are none

-- texts of three parts
pub three_so : (text a b c x y z : List ℕ) → text ≡ a ++ (b ++ c) → a ≡ x → b ≡ y → c ≡ z
    → text ≡ x ++ (y ++ z)
three_so text a b c x y z is p q r = rw (sym p, sym q, sym r) is

pub three_if : {E : Type 0} (a b c x y z : List ℕ) (r : Result (String Global) E)
    → IfOk r (λ text. string_bytes text ≡ a ++ (b ++ c)) → a ≡ x → b ≡ y → c ≡ z
    → IfOk r (λ text. string_bytes text ≡ x ++ (y ++ z))
three_if a b c x y z (Ok text) is p q s = three_so (string_bytes text) a b c x y z is p q s
three_if a b c x y z (Err e) is p q s = tt
