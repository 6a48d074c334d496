-- Where a list in front ends, as a loop finds it.
use Rattle.std.proofs.Common.{◌≡◌, ℕ, ◌+◌, ◌<◌, ◌≤◌, Bool, true, false, cond, ◌||◌, List, [], ◌∷◌}
use Rattle.std.proofs.Common.{length, take, drop, map, get_or, Option, Some, None, Bor, refl, ap}
use Rattle.std.proofs.Common.{sym, subst, ◌∙◌, arith, add-one}
use Rattle.std.specs.List.{slice_split}
use Rattle.std.proofs.lemmas.List.{take_all, drop_all, take-map, drop-map, get_or-map}
use Rattle.std.proofs.lemmas.List.{length-map}
use Rattle.std.proofs.Math.Seq.{drop-cons}
use Rattle.mrc_wiring_text.specs.Lexis.{is_comma}
use Rattle.mrc_wiring_text.proofs.ItemLemmas.{part_words, all_found, one_missing}
use Rattle.mrc_wide_text.specs.WideWords.{separated, list_len}

-- how many words of the list stand behind a word, which is a comma or not
abbrev pub len_behind : Bool → List (List ℕ) → ℕ
len_behind comma [] = 0
len_behind comma (word ∷ words) =
    cond (comma || is_comma word) (1 + len_behind (is_comma word) words) 0

more : (b : Bool) (x y : ℕ) → x ≡ 1 + y → cond b (1 + x) 1 ≡ 1 + cond b (1 + y) 0
more true x y h = omega (arith, h)
more false x y h = refl

last : (b : Bool) → cond (b || false) (1 + 0) 1 ≡ 1
last true = refl
last false = refl

len_more : (word : List ℕ) (words : List (List ℕ))
    → list_len (word ∷ words) ≡ 1 + len_behind (is_comma word) words
unfolding list_len
len_more word [] = last (is_comma word)
len_more word (next ∷ words) =
    more (is_comma word || is_comma next) (list_len (next ∷ words))
    (len_behind (is_comma next) words) (len_more next words)

len_start : (words : List (List ℕ)) → list_len words ≡ len_behind true words
unfolding list_len
len_start [] = refl
len_start (word ∷ words) = len_more word words

-- what stands behind the words so far is what a loop has still to see
abbrev pub Left : List (List ℕ) → ℕ → Bool → Type 0
Left words place comma = list_len words ≡ place + len_behind comma (drop place words)

left_at : (words : List (List ℕ)) (place : ℕ) (comma : Bool)
    → place < length words
    → Left words place comma
    → list_len words ≡ place + cond (comma || is_comma (get_or words place []))
    (1 + len_behind (is_comma (get_or words place [])) (drop (place + 1) words)) 0
left_at words place comma within left =
    let cut : drop place words ≡ get_or words place [] ∷ drop (place + 1) words =
    rw add-one (drop-cons words place [] within) in
    left ∙ ap (λ ws. place + len_behind comma ws) cut

pub left_start : (words : List (List ℕ)) → Left words 0 true
left_start words = omega (arith, len_start words)

-- two words side by side
pub len_stops : (words : List (List ℕ)) (place : ℕ) (comma : Bool)
    → place < length words
    → Left words place comma
    → (comma || is_comma (get_or words place [])) ≡ false
    → list_len words ≡ place
len_stops words place comma within left none =
    left_at words place comma within left ∙ rw none (omega arith)

-- a comma on one side
pub len_goes : (words : List (List ℕ)) (place : ℕ) (comma : Bool)
    → place < length words
    → Left words place comma
    → (comma || is_comma (get_or words place [])) ≡ true
    → Left words (place + 1) (is_comma (get_or words place []))
len_goes words place comma within left some =
    left_at words place comma within left ∙ rw some (omega arith)

-- no words left
pub len_ends : (words : List (List ℕ)) (place : ℕ) (comma : Bool)
    → length words ≤ place
    → Left words place comma
    → list_len words ≡ place
len_ends words place comma past left =
    let none : drop place words ≡ [] = drop_all place words past in
    left ∙ ap (λ ws. place + len_behind comma ws) none ∙ omega arith

-- ---- parts

-- what words say, where the parts between their commas say something each
pub separated_read : {X : Type 0} (says : List (List ℕ) → Option X) (words : List (List ℕ))
    (parts view : List (Bor (List (Bor (List ℕ))))) (i : ℕ) (said : List X)
    → view ≡ parts
    → map part_words parts ≡ slice_split is_comma words
    → map (λ part. says (part_words part)) (take i view) ≡ map (λ x. Some x) said
    → length view ≤ i
    → separated says words ≡ Some said
unfolding separated
separated_read says words parts view i said same cut is all =
    let each : map (λ part. says (part_words part)) view ≡ map (λ x. Some x) said = subst
    (λ ps. map (λ part. says (part_words part)) ps ≡ map (λ x. Some x) said)
    (take_all i view all) is in
    rw (sym cut, sym same) (all_found says part_words view said each)

-- the same, where one of the parts says nothing
pub separated_refused : {X : Type 0} (says : List (List ℕ) → Option X) (words : List (List ℕ))
    (parts view : List (Bor (List (Bor (List ℕ))))) (i : ℕ) (d : Bor (List (Bor (List ℕ))))
    → view ≡ parts
    → map part_words parts ≡ slice_split is_comma words
    → i < length view
    → says (part_words (get_or view i d)) ≡ None
    → separated says words ≡ None
unfolding separated
separated_refused says words parts view i d same cut within none =
    rw (sym cut, sym same) (one_missing says part_words view i d within none)

-- the words of a part of words
pub taken : (words part : List (Bor (List ℕ))) (k n : ℕ)
    → part ≡ take k words
    → k ≡ n
    → map (λ (w : Bor (List ℕ)). w.now) part ≡ take n (map (λ (w : Bor (List ℕ)). w.now) words)
taken words part k n is same =
    ap (map (λ (w : Bor (List ℕ)). w.now)) is
    ∙ sym (take-map (λ (w : Bor (List ℕ)). w.now) k words)
    ∙ ap (λ (m : ℕ). take m (map (λ (w : Bor (List ℕ)). w.now) words)) same

pub left_over : (words part : List (Bor (List ℕ))) (k n : ℕ)
    → part ≡ drop k words
    → k ≡ n
    → map (λ (w : Bor (List ℕ)). w.now) part ≡ drop n (map (λ (w : Bor (List ℕ)). w.now) words)
left_over words part k n is same =
    ap (map (λ (w : Bor (List ℕ)). w.now)) is
    ∙ sym (drop-map (λ (w : Bor (List ℕ)). w.now) k words)
    ∙ ap (λ (m : ℕ). drop m (map (λ (w : Bor (List ℕ)). w.now) words)) same

-- ---- the same over references to words

pub starts_over : (words : List (Bor (List ℕ)))
    → Left (map (λ (w : Bor (List ℕ)). w.now) words) 0 true
starts_over words = left_start (map (λ (w : Bor (List ℕ)). w.now) words)

word_at : (words : List (Bor (List ℕ))) (place : ℕ) (d : Bor (List ℕ))
    → place < length words
    → get_or (map (λ (w : Bor (List ℕ)). w.now) words) place [] ≡ (get_or words place d).now
word_at words place d within = get_or-map (λ (w : Bor (List ℕ)). w.now) words place d [] within

as_many : (words : List (Bor (List ℕ)))
    → length (map (λ (w : Bor (List ℕ)). w.now) words) ≡ length words
as_many words = length-map words (λ (w : Bor (List ℕ)). w.now)

pub stops_over : (words : List (Bor (List ℕ))) (place : ℕ) (d : Bor (List ℕ)) (comma test : Bool)
    → place < length words
    → Left (map (λ (w : Bor (List ℕ)). w.now) words) place comma
    → test ≡ (comma || is_comma (get_or words place d).now)
    → test ≡ false
    → list_len (map (λ (w : Bor (List ℕ)). w.now) words) ≡ place
stops_over words place d comma test within left is tested =
    let inside : place < length (map (λ (w : Bor (List ℕ)). w.now) words) =
    omega (arith, within, as_many words) in
    len_stops (map (λ (w : Bor (List ℕ)). w.now) words) place comma inside left
    (ap (λ (w : List ℕ). comma || is_comma w) (word_at words place d within) ∙ sym is ∙ tested)

pub goes_over : (words : List (Bor (List ℕ))) (place : ℕ) (d : Bor (List ℕ))
    (comma test next : Bool)
    → place < length words
    → Left (map (λ (w : Bor (List ℕ)). w.now) words) place comma
    → test ≡ (comma || is_comma (get_or words place d).now)
    → test ≡ true
    → next ≡ is_comma (get_or words place d).now
    → Left (map (λ (w : Bor (List ℕ)). w.now) words) (place + 1) next
goes_over words place d comma test next within left is tested behind =
    let inside : place < length (map (λ (w : Bor (List ℕ)). w.now) words) =
    omega (arith, within, as_many words) in
    let word = word_at words place d within in
    let some = ap (λ (w : List ℕ). comma || is_comma w) word ∙ sym is ∙ tested in
    subst (λ (b : Bool). Left (map (λ (w : Bor (List ℕ)). w.now) words) (place + 1) b)
    (ap (λ (w : List ℕ). is_comma w) word ∙ sym behind)
    (len_goes (map (λ (w : Bor (List ℕ)). w.now) words) place comma inside left some)

pub ends_over : (words : List (Bor (List ℕ))) (place : ℕ) (comma : Bool)
    → length words ≤ place
    → Left (map (λ (w : Bor (List ℕ)). w.now) words) place comma
    → list_len (map (λ (w : Bor (List ℕ)). w.now) words) ≡ place
ends_over words place comma past left =
    len_ends (map (λ (w : Bor (List ℕ)). w.now) words) place comma
    (omega (arith, past, as_many words)) left
