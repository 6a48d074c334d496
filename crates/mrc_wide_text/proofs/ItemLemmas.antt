-- The items of parts, one after the other, as a loop reads them.
use Rattle.std.proofs.Common.{◌≡◌, ℕ, ◌+◌, ◌<◌, ◌≤◌, Bool, false, List, [], ◌∷◌, ◌++◌, length, map}
use Rattle.std.proofs.Common.{drop, get_or, Option, Some, None, Bor, refl, sym, ap, ◌∙◌, arith}
use Rattle.std.proofs.Common.{append_assoc, add-one, subst}
use Rattle.std.specs.Prelude.{codes}
use Rattle.std.specs.List.{slice_split}
use Rattle.std.proofs.lemmas.List.{drop_all, append-nil, get_or-map, length-map}
use Rattle.std.proofs.Math.Seq.{drop-cons}
use Rattle.mrc_wiring_text.specs.declared.items.Item.{Item}
use Rattle.mrc_wiring_text.specs.Lexis.{is_comma}
use Rattle.mrc_wiring_text.specs.Items.{item_of, first_of_all, all_of}
use Rattle.mrc_wiring_text.proofs.ItemLemmas.{part_words}
use Rattle.mrc_wide_text.specs.WideWords.{is_alone}
use Rattle.mrc_wide_text.specs.WideItems.{keyed, first_word, with_keys, items_of}

-- items, and those of the rest
abbrev pub after_items : List Item → Option (List Item) → Option (List Item)
after_items items (Some others) = Some (items ++ others)
after_items items None = None

-- what parts say behind a key
abbrev pub say_behind : List ℕ → List (List (List ℕ)) → Option (List Item)
say_behind key parts = all_of item_of (with_keys key parts)

-- all that is said is said by what is left, behind the items so far
abbrev pub Left : List (List (List ℕ)) → ℕ → List ℕ → List Item → Type 0
Left parts i key items =
    say_behind [] parts ≡ after_items items (say_behind key (drop i parts))

after_none : (o : Option (List Item)) → o ≡ after_items [] o
after_none (Some items) = refl
after_none None = refl

pub left_start : (parts : List (List (List ℕ))) → Left parts 0 [] []
left_start parts = after_none (say_behind [] parts)

left_at : (parts : List (List (List ℕ))) (i : ℕ) (key : List ℕ) (items : List Item)
    → i < length parts
    → Left parts i key items
    → say_behind [] parts ≡ after_items items (say_behind key (get_or parts i [] ∷
    drop (i + 1) parts))
left_at parts i key items within left =
    let cut : drop i parts ≡ get_or parts i [] ∷ drop (i + 1) parts =
    rw add-one (drop-cons parts i [] within) in
    left ∙ ap (λ ps. after_items items (say_behind key ps)) cut

regroup : (items : List Item) (item : Item) (o : Option (List Item))
    → after_items items (first_of_all (Some item) o) ≡ after_items (items ++ item ∷ []) o
regroup items item (Some others) = ap (λ is. Some is) (sym (append_assoc items (item ∷ []) others))
regroup items item None = refl

-- a part that says an item
pub left_goes : (parts : List (List (List ℕ))) (i : ℕ) (key next : List ℕ) (items : List Item)
    (item : Item)
    → i < length parts
    → Left parts i key items
    → item_of (keyed key (get_or parts i [])) ≡ Some item
    → next ≡ first_word (keyed key (get_or parts i []))
    → Left parts (i + 1) next (items ++ item ∷ [])
left_goes parts i key next items item within left is behind =
    let others = say_behind (first_word (keyed key (get_or parts i []))) (drop (i + 1) parts) in
    left_at parts i key items within left
    ∙ ap (λ (o : Option Item). after_items items (first_of_all o others)) is
    ∙ regroup items item others
    ∙ ap (λ (k : List ℕ). after_items (items ++ item ∷ []) (say_behind k (drop (i + 1) parts)))
    (sym behind)

none_first : (o : Option (List Item)) → first_of_all None o ≡ None
none_first (Some x) = refl
none_first None = refl

-- a part that says none
pub left_stops : (parts : List (List (List ℕ))) (i : ℕ) (key : List ℕ) (items : List Item)
    → i < length parts
    → Left parts i key items
    → item_of (keyed key (get_or parts i [])) ≡ None
    → say_behind [] parts ≡ None
left_stops parts i key items within left is =
    let others = say_behind (first_word (keyed key (get_or parts i []))) (drop (i + 1) parts) in
    left_at parts i key items within left
    ∙ ap (λ (o : Option Item). after_items items (first_of_all o others)) is
    ∙ ap (after_items items) (none_first others)

-- no part left
pub left_ends : (parts : List (List (List ℕ))) (i : ℕ) (key : List ℕ) (items : List Item)
    → length parts ≤ i
    → Left parts i key items
    → say_behind [] parts ≡ Some items
left_ends parts i key items past left =
    left ∙ ap (λ ps. after_items items (say_behind key ps)) (drop_all i parts past)
    ∙ ap (λ is. Some is) (append-nil items)

-- what words say, by what their parts say
pub said_by : (words : List (List ℕ)) (test : Bool) (parts : List (List (List ℕ)))
    (said : Option (List Item))
    → test ≡ is_alone (codes "none") words
    → test ≡ false
    → parts ≡ slice_split is_comma words
    → say_behind [] parts ≡ said
    → items_of words ≡ said
unfolding items_of
said_by words test parts said is tested cut says =
    let one : is_alone (codes "none") words ≡ false = sym is ∙ tested in
    rw (one, sym cut) says

-- ---- the same over references to parts

part_at : (parts : List (Bor (List (Bor (List ℕ))))) (i : ℕ) (d : Bor (List (Bor (List ℕ))))
    → i < length parts
    → get_or (map part_words parts) i [] ≡ part_words (get_or parts i d)
part_at parts i d within = get_or-map part_words parts i d [] within

as_many : (parts : List (Bor (List (Bor (List ℕ)))))
    → length (map part_words parts) ≡ length parts
as_many parts = length-map parts part_words

pub starts_over : (parts : List (Bor (List (Bor (List ℕ))))) → Left (map part_words parts) 0 [] []
starts_over parts = left_start (map part_words parts)

pub goes_over : (parts : List (Bor (List (Bor (List ℕ))))) (i : ℕ) (d : Bor (List (Bor (List ℕ))))
    (key next : List ℕ) (items more : List Item) (item : Item)
    → i < length parts
    → Left (map part_words parts) i key items
    → item_of (keyed key (part_words (get_or parts i d))) ≡ Some item
    → next ≡ first_word (keyed key (part_words (get_or parts i d)))
    → more ≡ items ++ item ∷ []
    → Left (map part_words parts) (i + 1) next more
goes_over parts i d key next items more item within left is behind grown =
    let same = part_at parts i d within in
    let inside : i < length (map part_words parts) = omega (arith, within, as_many parts) in
    subst (Left (map part_words parts) (i + 1) next) (sym grown)
    (left_goes (map part_words parts) i key next items item inside left
    (ap (λ (p : List (List ℕ)). item_of (keyed key p)) same ∙ is)
    (behind ∙ ap (λ (p : List (List ℕ)). first_word (keyed key p)) (sym same)))

pub stops_over : (words : List (List ℕ)) (test : Bool)
    (view parts : List (Bor (List (Bor (List ℕ)))))
    (i : ℕ) (d : Bor (List (Bor (List ℕ)))) (key : List ℕ) (items : List Item)
    → test ≡ is_alone (codes "none") words
    → test ≡ false
    → view ≡ parts
    → map part_words parts ≡ slice_split is_comma words
    → i < length view
    → Left (map part_words view) i key items
    → item_of (keyed key (part_words (get_or view i d))) ≡ None
    → items_of words ≡ None
stops_over words test view parts i d key items is tested seen cut within left none =
    let same = part_at view i d within in
    let inside : i < length (map part_words view) = omega (arith, within, as_many view) in
    said_by words test (map part_words view) None is tested (ap (map part_words) seen ∙ cut)
    (left_stops (map part_words view) i key items inside left
    (ap (λ (p : List (List ℕ)). item_of (keyed key p)) same ∙ none))

pub ends_over : (words : List (List ℕ)) (test : Bool)
    (view parts : List (Bor (List (Bor (List ℕ)))))
    (i : ℕ) (key : List ℕ) (items : List Item)
    → test ≡ is_alone (codes "none") words
    → test ≡ false
    → view ≡ parts
    → map part_words parts ≡ slice_split is_comma words
    → length view ≤ i
    → Left (map part_words view) i key items
    → items_of words ≡ Some items
ends_over words test view parts i key items is tested seen cut past left =
    said_by words test (map part_words view) (Some items) is tested
    (ap (map part_words) seen ∙ cut)
    (left_ends (map part_words view) i key items (omega (arith, past, as_many view)) left)
