-- Words say items exactly where they are the words of these items.
use Rattle.std.proofs.Common.{◌≡◌, ℕ, ◌<◌, Bool, true, false, cond, List, [], ◌∷◌, ◌++◌, map}
use Rattle.std.proofs.Common.{length, Option, Some, None, refl, sym, ap, ◌∙◌, subst, inl, inr}
use Rattle.std.proofs.Common.{arith, ◌⊎◌}
use Rattle.std.specs.Prelude.{bytes_eq, codes, IsTrue}
use Rattle.std.specs.List.{All, AllByRecursion, flat_map, slice_split, onto_first}
use Rattle.std.specs.Option.{option_map}
use Rattle.std.proofs.lemmas.Bool.{cases_Bool, false≢true}
use Rattle.std.proofs.lemmas.List.{append-nil}
use Rattle.std.proofs.lemmas.List.Elements.{All-nil, All-cons}
use Rattle.std.proofs.lemmas.List.Folds.{flat_map-map}
use Rattle.std.proofs.lemmas.List.Splits.{length-slice_split, slice_split_at, slice_split_none}
use Rattle.std.proofs.lemmas.Option.{none-some, same_Some}
use Rattle.std.proofs.lemmas.Slice.Eq.{bytes_eq-Decides}
use Rattle.mrc_base.proofs.Lists.{map_is}
use Rattle.mrc_wiring_text.specs.declared.items.Item.{Item}
use Rattle.mrc_wiring_text.specs.declared.items.Item.TheVariants.{Request, Reply, Destroyed}
use Rattle.mrc_wiring_text.specs.Lexis.{is_comma}
use Rattle.mrc_wiring_text.specs.Names.{is_name, name_of}
use Rattle.mrc_wiring_text.specs.Items.{table_item, item_of, first_of_all, all_of}
use Rattle.mrc_wiring_text.specs.Items.{is_none, items_of}
use Rattle.mrc_wiring_text.specs.Grammar.{item_words, items_words, HasName}

-- ---- tests and names

pub chosen : {X : Type 0} (b : Bool) (o : Option X) (x : X)
    → cond b o None ≡ Some x
    → (b ≡ true) × (o ≡ Some x)
chosen true o x e = (refl, e)
chosen false o x e = absurd (none-some x e)

pub either : {X : Type 0} (b : Bool) (o p : Option X) (x : X)
    → cond b o p ≡ Some x
    → ((b ≡ true) × (o ≡ Some x)) ⊎ ((b ≡ false) × (p ≡ Some x))
either true o p x e = inl (refl, e)
either false o p x e = inr (refl, e)

pub word_is : (word wanted : List ℕ) → bytes_eq word wanted ≡ true → word ≡ wanted
word_is word wanted e = (bytes_eq-Decides word wanted).0 e

-- a word that spells a name
pub name_found : (word name : List ℕ)
    → name_of word ≡ Some name
    → (word ≡ name) × IsTrue (is_name name)
name_found word name e =
    let c = chosen (is_name word) (Some word) name e in
    let same : word ≡ name = same_Some _ _ c.1 in
    (same, subst (λ w. is_name w ≡ true) same c.0)

pub name_again : (name : List ℕ) → IsTrue (is_name name) → name_of name ≡ Some name
name_again name h = rw h refl

-- ---- one item

item_of_name : (kind : List ℕ → Item) (key word subsystem : List ℕ) (item : Item)
    → ((s : List ℕ) → item_words (kind s) ≡ word ∷ s ∷ [])
    → ((s : List ℕ) → IsTrue (is_name s) → HasName (kind s))
    → bytes_eq key word ≡ true
    → option_map kind (name_of subsystem) ≡ Some item
    → (key ∷ subsystem ∷ [] ≡ item_words item) × HasName item
item_of_name kind key word subsystem item spelled named is e =
    let m = map_is kind (name_of subsystem) item e in
    let n = name_found subsystem m.0 m.1 in
    let same : key ∷ subsystem ∷ [] ≡ item_words (kind m.0) =
    ap (λ k. k ∷ subsystem ∷ []) (word_is key word is) ∙ ap (λ s. word ∷ s ∷ []) n.0
    ∙ sym (spelled m.0) in
    subst (λ i. (key ∷ subsystem ∷ [] ≡ item_words i) × HasName i) m.2 (same, named m.0 n.1)

item_found : (words : List (List ℕ)) (item : Item)
    → item_of words ≡ Some item
    → (words ≡ item_words item) × HasName item
unfolding item_of table_item
item_found [] item e = absurd (none-some item e)
item_found (key ∷ []) item e =
    let c = chosen (bytes_eq key (codes "destroyed")) (Some Destroyed) item e in
    subst (λ i. (key ∷ [] ≡ item_words i) × HasName i) (same_Some _ _ c.1)
    (ap (λ k. k ∷ []) (word_is key (codes "destroyed") c.0), tt)
item_found (key ∷ subsystem ∷ []) item e =
    elim (either (bytes_eq key (codes "request")) (option_map Request (name_of subsystem))
    (cond (bytes_eq key (codes "reply")) (option_map Reply (name_of subsystem)) None) item e) [
      | inl c ↦ item_of_name Request key (codes "request") subsystem item (λ s. refl) (λ s h. h) c.0
          c.1
      | inr c ↦
          let d = chosen (bytes_eq key (codes "reply")) (option_map Reply (name_of subsystem)) item
          c.1 in
          item_of_name Reply key (codes "reply") subsystem item (λ s. refl) (λ s h. h) d.0 d.1
    ]
item_found (a ∷ b ∷ c ∷ rest) item e = absurd (none-some item e)

item_again : (item : Item) → HasName item → item_of (item_words item) ≡ Some item
unfolding item_of table_item
item_again (Request s) h = rw h refl
item_again (Reply s) h = rw h refl
item_again Destroyed h = refl

-- ---- an item of each part

first_found : {X : Type 0} (o : Option X) (os : Option (List X)) (xs : List X)
    → first_of_all o os ≡ Some xs
    → (x : X) × (rest : List X) × (o ≡ Some x) × (os ≡ Some rest) × (x ∷ rest ≡ xs)
first_found (Some x) (Some rest) xs e = (x, rest, refl, refl, same_Some _ _ e)
first_found (Some x) None xs e = absurd (none-some xs e)
first_found None os xs e = absurd (none-some xs e)

all_items : (parts : List (List (List ℕ))) (items : List Item)
    → all_of item_of parts ≡ Some items
    → (parts ≡ map item_words items) × AllByRecursion HasName items
all_items [] items e =
    subst (λ is. ([] ≡ map item_words is) × AllByRecursion HasName is) (same_Some _ _ e) (refl, tt)
all_items (part ∷ parts) items e =
    let f = first_found (item_of part) (all_of item_of parts) items e in
    let one = item_found part f.0 f.2 in
    let more = all_items parts f.1 f.3 in
    let same : part ∷ parts ≡ item_words f.0 ∷ map item_words f.1 =
    ap (λ p. p ∷ parts) one.0 ∙ ap (λ ps. item_words f.0 ∷ ps) more.0 in
    subst (λ is. (part ∷ parts ≡ map item_words is) × AllByRecursion HasName is) f.4
    (same, (one.1, more.1))

all_again : (items : List Item)
    → AllByRecursion HasName items
    → all_of item_of (map item_words items) ≡ Some items
all_again [] h = refl
all_again (item ∷ items) h = rw (item_again item h.0, all_again items h.1) refl

-- ---- parts with a comma between each two

abbrev behind_commas : List (List (List ℕ)) → List (List ℕ)
behind_commas parts = flat_map (λ part. codes "," ∷ part) parts

abbrev joined : List (List (List ℕ)) → List (List ℕ)
joined [] = []
joined (part ∷ parts) = part ++ behind_commas parts

all_behind : (parts : List (List (List ℕ)))
    → 0 < length parts
    → behind_commas parts ≡ codes "," ∷ joined parts
all_behind [] h = absurd (omega arith)
all_behind (part ∷ parts) h = refl

joined_onto : (word : List ℕ) (parts : List (List (List ℕ)))
    → joined (onto_first word parts) ≡ word ∷ joined parts
joined_onto word [] = refl
joined_onto word (part ∷ parts) = refl

some_part : (words : List (List ℕ)) → 0 < length (slice_split is_comma words)
some_part words = omega (arith, length-slice_split is_comma words)

parts_joined : (words : List (List ℕ)) → joined (slice_split is_comma words) ≡ words
parts_joined [] = refl
parts_joined (word ∷ words) =
    elim (cases_Bool (is_comma word)) [
      | inl e ↦ rw e (all_behind (slice_split is_comma words) (some_part words)
          ∙ ap (λ ws. codes "," ∷ ws) (parts_joined words)
          ∙ ap (λ w. w ∷ words) (sym (word_is word (codes ",") e)))
      | inr e ↦ rw e (joined_onto word (slice_split is_comma words)
          ∙ ap (λ ws. word ∷ ws) (parts_joined words))
    ]

abbrev HasNoComma : List (List ℕ) → Type 0
HasNoComma part = All (λ word. is_comma word ≡ false) part

joined_parted : (part : List (List ℕ)) (parts : List (List (List ℕ)))
    → HasNoComma part
    → AllByRecursion HasNoComma parts
    → slice_split is_comma (joined (part ∷ parts)) ≡ part ∷ parts
joined_parted part [] h hs =
    ap (slice_split is_comma) (append-nil part) ∙ slice_split_none is_comma part h
joined_parted part (next ∷ parts) h hs =
    slice_split_at is_comma part (codes ",") (joined (next ∷ parts)) h refl
    ∙ ap (λ ps. part ∷ ps) (joined_parted next parts hs.0 hs.1)

name_is_no_comma : (name : List ℕ) → IsTrue (is_name name) → is_comma name ≡ false
unfolding is_name
name_is_no_comma name h =
    elim (cases_Bool (is_comma name)) [
      | inl e ↦ absurd (false≢true (subst (λ n. is_name n ≡ true) (word_is name (codes ",") e) h))
      | inr e ↦ e
    ]

abbrev IsNoComma : List ℕ → Type 0
IsNoComma word = is_comma word ≡ false

with_name : (word name : List ℕ)
    → is_comma word ≡ false
    → IsTrue (is_name name)
    → HasNoComma (word ∷ name ∷ [])
with_name word name free h =
    All-cons IsNoComma word (name ∷ []) free
    (All-cons IsNoComma name [] (name_is_no_comma name h) (All-nil IsNoComma))

item_has_no_comma : (item : Item) → HasName item → HasNoComma (item_words item)
item_has_no_comma (Request s) h = with_name (codes "request") s refl h
item_has_no_comma (Reply s) h = with_name (codes "reply") s refl h
item_has_no_comma Destroyed h =
    All-cons IsNoComma (codes "destroyed") [] refl (All-nil IsNoComma)

items_have_no_comma : (items : List Item)
    → AllByRecursion HasName items
    → AllByRecursion HasNoComma (map item_words items)
items_have_no_comma [] h = tt
items_have_no_comma (item ∷ items) h = (item_has_no_comma item h.0, items_have_no_comma items h.1)

-- ---- all items

joined_items : (item : Item) (items : List Item)
    → joined (map item_words (item ∷ items)) ≡ items_words (item ∷ items)
joined_items item items =
    ap (λ ws. item_words item ++ ws) (flat_map-map (λ part. codes "," ∷ part) item_words items)

none_found : (words : List (List ℕ)) → is_none words ≡ true → words ≡ codes "none" ∷ []
none_found [] e = absurd (false≢true e)
none_found (word ∷ []) e = ap (λ w. w ∷ []) (word_is word (codes "none") e)
none_found (a ∷ b ∷ rest) e = absurd (false≢true e)

not_none : (item : Item) (items : List Item) → is_none (items_words (item ∷ items)) ≡ false
not_none (Request s) items = refl
not_none (Reply s) items = refl
not_none Destroyed [] = refl
not_none Destroyed (item ∷ items) = refl

joined_found : (words : List (List ℕ)) (items : List Item)
    → slice_split is_comma words ≡ map item_words items
    → words ≡ items_words items
joined_found words [] e =
    absurd (omega (arith, some_part words, ap length e))
joined_found words (item ∷ items) e =
    sym (parts_joined words) ∙ ap joined e ∙ joined_items item items

pub items_found : (words : List (List ℕ)) (items : List Item)
    → items_of words ≡ Some items
    → (words ≡ items_words items) × AllByRecursion HasName items
unfolding items_of
items_found words items e =
    elim (either (is_none words) (Some []) (all_of item_of (slice_split is_comma words)) items e) [
      | inl c ↦
          subst (λ is. (words ≡ items_words is) × AllByRecursion HasName is) (same_Some _ _ c.1)
          (none_found words c.0, tt)
      | inr c ↦
          let a = all_items (slice_split is_comma words) items c.1 in
          (joined_found words items a.0, a.1)
    ]

pub items_again : (items : List Item)
    → AllByRecursion HasName items
    → items_of (items_words items) ≡ Some items
unfolding items_of
items_again [] h = refl
items_again (item ∷ items) h =
    let parted : slice_split is_comma (items_words (item ∷ items)) ≡ map item_words (item ∷ items) =
    ap (slice_split is_comma) (sym (joined_items item items))
    ∙ joined_parted (item_words item) (map item_words items) (item_has_no_comma item h.0)
    (items_have_no_comma items h.1) in
    rw (not_none item items, parted) (all_again (item ∷ items) h)
