-- Files whose texts are read one after the other, and files that are written so.
use Rattle.std.proofs.Common.{◌≡◌, ℕ, ◌+◌, ◌<◌, Bool, List, [], ◌∷◌, ◌++◌, ap, ap₂, sym, subst, ◌∙◌, refl}
use Rattle.std.proofs.Common.{length, map, take, drop, get_or, Bor, Vec, Global, inl}
use Rattle.std.specs.Prelude.{IsSomeAnd, slice_get}
use Rattle.std.specs.List.{AllZip}
use Rattle.std.proofs.lemmas.List.{take_more, take-append-drop, map-append, length-map}
use Rattle.std.proofs.lemmas.List.Elements.{length_all_zip}
use Rattle.std.proofs.lemmas.Option.{slice_get_read}
use Rattle.mrc_base.specs.declared.memory.OrMemory.{OrMemory}
use Rattle.mrc_base.specs.declared.memory.OrMemory.TheVariants.{Fault, Memory}
use Rattle.mrc_base.specs.Reading.{UnlessMemory}
use Rattle.mrc_files.specs.Files.{Held, HasBytes, AreHeld}
use Rattle.mrc_files.specs.declared.streams.WriteFault.{WriteFault}
use Rattle.mrc_files.proofs.FileLaws.{zip_more}
use Rattle.mrc_wiring.proofs.Steps.{next_is}
use Rattle.mrc_answer.specs.declared.answers.MigText.{MigText}
use Rattle.mrc_answer.specs.MigTexts.{IsMigTextOf, IsNoMig, IsFirstNoMigText, Writing, IsStopped}
use Rattle.mrc_answer.specs.MigTexts.{IsNotTaken}
use Rattle.mrc_answer.specs.declared.faults.NoMigText.{NoMigText}

-- those before, the one at a place, and those behind
pub in_parts : {X : Type 0} (xs : List X) (i : ℕ) (d : X)
    → i < length xs
    → xs ≡ take i xs ++ get_or xs i d ∷ drop (i + 1) xs
in_parts xs i d less =
    sym (take-append-drop i xs) ∙ ap (λ rest. take i xs ++ rest) (next_is xs i d less)

-- a list and one more, seen by a function
pub map_more : {X Y : Type 0} (f : X → Y) (xs : List X) (i : ℕ) (d : X)
    → i < length xs
    → map f (take (i + 1) xs) ≡ map f (take i xs) ++ f (get_or xs i d) ∷ []
map_more f xs i d less =
    ap (map f) (take_more xs i d less) ∙ map-append f (take i xs) (get_or xs i d ∷ [])

-- one more text is one of edition 2
pub named_more : (files : List (Bor (List ℕ))) (mig_texts : List MigText) (i : ℕ)
    (d : Bor (List ℕ)) (mig_text : MigText)
    → i < length files
    → map (λ (mig_text : MigText). mig_text.file.now) mig_texts
    ≡ map (λ (file : Bor (List ℕ)). file.now) (take i files)
    → mig_text.file.now ≡ (get_or files i d).now
    → map (λ (mig_text : MigText). mig_text.file.now) (mig_texts ++ mig_text ∷ [])
    ≡ map (λ (file : Bor (List ℕ)). file.now) (take (i + 1) files)
named_more files mig_texts i d mig_text less named is =
    map-append (λ (mig_text : MigText). mig_text.file.now) mig_texts (mig_text ∷ [])
    ∙ ap₂ (λ (names : List (List ℕ)) (name : List ℕ). names ++ name ∷ []) named is
    ∙ sym (map_more (λ (file : Bor (List ℕ)). file.now) files i d less)

pub text_more : (received : Bool) (texts : List (Vec ℕ Global)) (mig_texts : List MigText) (i : ℕ) (d : Vec ℕ Global)
    (mig_text : MigText)
    → i < length texts
    → AllZip (IsMigTextOf received)
    (map (λ (text : Vec ℕ Global). text.items) (take i texts)) mig_texts
    → IsMigTextOf received (get_or texts i d).items mig_text
    → AllZip (IsMigTextOf received)
    (map (λ (text : Vec ℕ Global). text.items) (take (i + 1) texts)) (mig_texts ++ mig_text ∷ [])
text_more received texts mig_texts i d mig_text less so is =
    subst (λ xs. AllZip (IsMigTextOf received) xs (mig_texts ++ mig_text ∷ []))
    (sym (map_more (λ (text : Vec ℕ Global). text.items) texts i d less))
    (zip_more (IsMigTextOf received) _ _ mig_texts (mig_text ∷ []) so (is, tt))

-- the next text is no MIG file
pub first_no_text : (received : Bool) (files : List (Bor (List ℕ))) (texts : List (Vec ℕ Global))
    (mig_texts : List MigText) (i : ℕ) (d : Bor (List ℕ)) (e : Vec ℕ Global) (file : List ℕ)
    → i < length files
    → i < length texts
    → map (λ (mig_text : MigText). mig_text.file.now) mig_texts
    ≡ map (λ (file : Bor (List ℕ)). file.now) (take i files)
    → AllZip (IsMigTextOf received)
    (map (λ (text : Vec ℕ Global). text.items) (take i texts)) mig_texts
    → file ≡ (get_or files i d).now
    → IsNoMig received (get_or texts i e).items
    → IsFirstNoMigText received (map (λ (file : Bor (List ℕ)). file.now) files)
    (map (λ (text : Vec ℕ Global). text.items) texts) file
first_no_text received files texts mig_texts i d e file less fewer named so is none = record {
  before = mig_texts;
  texts_before = map (λ (text : Vec ℕ Global). text.items) (take i texts);
  text = (get_or texts i e).items;
  names_after = map (λ (file : Bor (List ℕ)). file.now) (drop (i + 1) files);
  texts_after = map (λ (text : Vec ℕ Global). text.items) (drop (i + 1) texts);
  names_are = ap (map (λ (file : Bor (List ℕ)). file.now)) (in_parts files i d less)
      ∙ map-append (λ (file : Bor (List ℕ)). file.now) (take i files)
      (get_or files i d ∷ drop (i + 1) files)
      ∙ ap₂ (λ (names : List (List ℕ)) (name : List ℕ). names
      ++ name ∷ map (λ (file : Bor (List ℕ)). file.now) (drop (i + 1) files)) (sym named) (sym is);
  texts_are = ap (map (λ (text : Vec ℕ Global). text.items)) (in_parts texts i e fewer)
      ∙ map-append (λ (text : Vec ℕ Global). text.items) (take i texts)
      (get_or texts i e ∷ drop (i + 1) texts);
  are = so;
  none = none;
}

-- there is a text for each file
pub as_many : (files : List (Bor (List ℕ))) (texts : List (Vec ℕ Global)) (held : Held)
    → AreHeld held (map (λ (file : Bor (List ℕ)). file.now) files)
    (map (λ (text : Vec ℕ Global). text.items) texts)
    → length files ≡ length texts
as_many files texts held are =
    sym (length-map files (λ (file : Bor (List ℕ)). file.now))
    ∙ length_all_zip (HasBytes held) _ _ are
    ∙ length-map texts (λ (text : Vec ℕ Global). text.items)

-- the next text is no MIG file, unless memory ran out
pub first_of : (received : Bool) (names texts : List (List ℕ)) (file text : List ℕ) (refusal : OrMemory NoMigText)
    → ((named : List ℕ) → named ≡ file → IsNoMig received text → IsFirstNoMigText received names texts named)
    → UnlessMemory (λ no_text. no_text.file.now ≡ file) refusal
    → UnlessMemory (λ _. IsNoMig received text) refusal
    → UnlessMemory (λ no_text. IsFirstNoMigText received names texts no_text.file.now) refusal
first_of received names texts file text (Fault no_text) first is none = first no_text.file.now is none
first_of received names texts file text Memory first is none = tt

-- the writing of the file at a place was refused
pub stopped_here : (before now after : Held) (writings : List Writing) (i : ℕ) (w : Writing)
    (refusal : OrMemory WriteFault)
    → i < length writings
    → w ≡ get_or writings i w
    → (IsStopped now (drop i writings) after w.path refusal
    → IsStopped before writings after w.path refusal)
    → IsNotTaken now after w refusal
    → IsSomeAnd (slice_get writings i) (λ w. IsStopped before writings after w.path refusal)
stopped_here before now after writings i w refusal less is so left =
    subst (λ found. IsSomeAnd found (λ w. IsStopped before writings after w.path refusal))
    (sym (slice_get_read writings (length writings) i w refl less is))
    (so (subst (λ ws. IsStopped now ws after w.path refusal) (sym (next_is writings i w less))
    (subst (λ x. IsStopped now (x ∷ drop (i + 1) writings) after w.path refusal) is
    (inl (refl, left)))))
