-- Lists of files that are read one after the other.
use Rattle.std.proofs.Common.{◌≡◌, ℕ, List, [], ◌∷◌, ◌++◌, ap, ◌∙◌, append_assoc}
use Rattle.std.proofs.Common.{refl, sym, subst, append-nil, drop, drop-cons, add-one, ◌+◌, ◌<◌}
use Rattle.std.proofs.Common.{length, map, slice_index_or, Bor, zero, suc, arith}
use Rattle.std.proofs.Common.{◌≤◌}
use Rattle.std.proofs.Math.ListN.{drop_of_length-le}
use Rattle.std.specs.List.{All, AllZip}
use Rattle.std.proofs.lemmas.List.Elements.{All-append}
use Rattle.mrc_files.specs.Files.{Held, HasBytes, AreHeld, Fits, IsFirstUnread}

-- what holds of each of no things, and of each of one
none_of : {X : Type 0} (P : X → Type 0) → All P []
none_of P = λ k d low. absurd (omega (arith, low))

pub one_of : {X : Type 0} (P : X → Type 0) (x : X) → P x → All P (x ∷ [])
one_of {X = X} P x h = λ k d low. of k d low
  where
    of : (k : ℕ) (d : X) → k < 1 → P (slice_index_or (x ∷ []) k d)
    of zero d low = h
    of (suc k) d low = absurd (omega (arith, low))

-- what holds of two lists place by place, and of what stands behind them, holds of the whole
pub zip_more : {A B : Type 0} (R : A → B → Type 0) (xs us : List A) (ys vs : List B)
    → AllZip R xs ys → AllZip R us vs → AllZip R (xs ++ us) (ys ++ vs)
zip_more R [] us [] vs h more = more
zip_more R [] us (y ∷ ys) vs h more = absurd h
zip_more R (x ∷ xs) us [] vs h more = absurd h
zip_more R (x ∷ xs) us (y ∷ ys) vs h more = (h.0, zip_more R xs us ys vs h.1 more)

-- what was read of files, and of those behind them
pub held_more : (held : Held) (files more : List (List ℕ)) (texts others : List (List ℕ))
    → AreHeld held files texts
    → AreHeld held more others
    → AreHeld held (files ++ more) (texts ++ others)
held_more held files more texts others = zip_more _ files more texts others

-- the first file that can't be read is so whatever stands behind
pub first_within : (held : Held) (files more : List (List ℕ)) (file : List ℕ)
    → IsFirstUnread held files file
    → IsFirstUnread held (files ++ more) file
first_within held files more file first = record {
  before = first.before;
  after = first.after ++ more;
  parts = ap (λ xs. xs ++ more) first.parts
      ∙ append_assoc first.before (file ∷ first.after) more;
  fit = first.fit;
}

-- and it is so behind files that were read
pub first_behind : (held : Held) (files more : List (List ℕ)) (file : List ℕ)
    → All (Fits held) files
    → IsFirstUnread held more file
    → IsFirstUnread held (files ++ more) file
first_behind held files more file fit first = record {
  before = files ++ first.before;
  after = first.after;
  parts = ap (λ xs. files ++ xs) first.parts
      ∙ sym (append_assoc files first.before (file ∷ first.after));
  fit = All-append (Fits held) files first.before fit first.fit;
}

-- the next file can't be read
pub first_is : (held : Held) (file : List ℕ) (after : List (List ℕ))
    → IsFirstUnread held (file ∷ after) file
first_is held file after = record { before = []; after = after; parts = refl; fit = none_of (Fits held) }

-- some of the files were read, and these are left
pub record SoFar (held : Held) (files texts rest : List (List ℕ)) : Type 0 where
  pub before : List (List ℕ)
  pub parts : files ≡ before ++ rest
  pub are_held : AreHeld held before texts
  pub fit : All (Fits held) before

-- none so far
pub none_yet : (held : Held) (files : List (List ℕ)) → SoFar held files [] files
none_yet held files = record { before = []; parts = refl; are_held = tt; fit = none_of (Fits held) }

-- the next was read
pub one_more : (held : Held) (files texts rest : List (List ℕ)) (file bytes : List ℕ)
    → SoFar held files texts (file ∷ rest)
    → HasBytes held file bytes
    → Fits held file
    → SoFar held files (texts ++ bytes ∷ []) rest
one_more held files texts rest file bytes so has fits = record {
  before = so.before ++ file ∷ [];
  parts = so.parts ∙ sym (append_assoc so.before (file ∷ []) rest);
  are_held = held_more held so.before (file ∷ []) texts (bytes ∷ []) so.are_held (has, tt);
  fit = All-append (Fits held) so.before (file ∷ []) so.fit
      (one_of (Fits held) file fits);
}

-- the next can't be read
pub next_unread : (held : Held) (files texts rest : List (List ℕ)) (file : List ℕ)
    → SoFar held files texts (file ∷ rest)
    → IsFirstUnread held files file
next_unread held files texts rest file so =
    record { before = so.before; after = rest; parts = so.parts; fit = so.fit }

-- all were read
pub all_read : (held : Held) (files texts : List (List ℕ))
    → SoFar held files texts []
    → AreHeld held files texts × All (Fits held) files
all_read held files texts so =
    let same : so.before ≡ files = sym (so.parts ∙ append-nil so.before) in (
      subst (λ xs. AreHeld held xs texts) same so.are_held,
      subst (All (Fits held)) same so.fit,
    )

-- the next of some names
pub names_next : (files : List (Bor (List ℕ))) (i : ℕ) (d : Bor (List ℕ))
    → i < length files
    → map (λ (file : Bor (List ℕ)). file.now) (drop i files)
    ≡ (slice_index_or files i d).now ∷ map (λ (file : Bor (List ℕ)). file.now) (drop (i + 1) files)
names_next files i d less =
    ap (map (λ (file : Bor (List ℕ)). file.now)) (
    drop-cons files i d less
    ∙ ap (λ n. slice_index_or files i d ∷ drop n files) (sym (add-one i))
    )

-- some of the files were read, and none is left
pub names_done : (held : Held) (files : List (Bor (List ℕ))) (texts : List (List ℕ)) (i : ℕ)
    → length files ≤ i
    → SoFar held (map (λ (file : Bor (List ℕ)). file.now) files) texts
    (map (λ (file : Bor (List ℕ)). file.now) (drop i files))
    → AreHeld held (map (λ (file : Bor (List ℕ)). file.now) files) texts
    × All (Fits held) (map (λ (file : Bor (List ℕ)). file.now) files)
names_done held files texts i end so =
    all_read held _ texts
    (subst (SoFar held _ texts) (ap (map (λ (file : Bor (List ℕ)). file.now))
    (drop_of_length-le files end)) so)
