-- The argument that a value is, and the value that an argument is.
use Rattle.std.proofs.Common.{◌≡◌, ℕ, zero, suc, ◌+◌, ◌*◌, ◌/◌, ◌%◌, ◌^◌, ◌<◌, ◌≤◌, Bool, true}
use Rattle.std.proofs.Common.{false, List, [], ◌∷◌, length, get_or, refl, sym, ap, ◌&&◌, Result, Ok, Err}
use Rattle.std.proofs.Common.{◌∙◌, arith, subst, ltb, leb, eqb, inl, inr, length-append}
use Rattle.std.specs.List.{flat_map, AllByRecursion}
use Rattle.std.proofs.lemmas.Bool.{and_parts, ltb-true, leb-true, eqb-true}
use Rattle.std.proofs.Math.Nat.{mul-div_left, mul-mod_left, suc-mul, mul_assoc}
use Rattle.std.proofs.lemmas.Nat.{div-add-mod'}
use Rattle.std.specs.Option.{MatchOption}
use Rattle.std.specs.Result.{OkIff, result_ok}
use Rattle.mrc_base.specs.Disposition.{disp_number}
use Rattle.mrc_base.specs.declared.Disp.{Disp}
use Rattle.mrc_base.specs.declared.Disp.TheVariants.{MoveReceive, MoveSend, MoveSendOnce, CopySend}
use Rattle.mrc_base.specs.declared.Disp.TheVariants.{MakeSend, MakeSendOnce}
use Rattle.mrc_forms.specs.declared.shape.Items.{Items}
use Rattle.mrc_forms.specs.declared.types.ItemTypes.{ItemTypes}
use Rattle.mrc_forms.specs.declared.types.ItemTypes.TheVariants as types
use Rattle.mrc_forms.specs.Shapes.{items_fit, fits_by, size_fits, number_fits}
use Rattle.mrc_forms.specs.Types.{is_any_data}
use Rattle.mrc_model.specs.Message.{Arg, Data}
use Rattle.mrc_desc.specs.Lawful.{IsLawfulData}
use Rattle.mrc_message_words.specs.declared.value.Value.{Value}
use Rattle.mrc_message_words.specs.declared.value.Value.TheVariants as said
use Rattle.mrc_message_words.specs.Fitting.{AreItems, AreNarrow}
use Rattle.mrc_message_words.specs.Values.{number_bytes, HasType, IsCount, IsCountBy, AreNumbers}
use Rattle.mrc_message_words.specs.Values.{AreWide, AreBytes, IsValue, numbers_arg}

-- items of whole bytes
pub items_len : (size number : ℕ) → size % 8 ≡ 0 → number * size / 8 ≡ number * (size / 8)
items_len size number whole =
    let e : size ≡ size / 8 * 8 = omega arith in
    let f : number * size ≡ number * (size / 8) * 8 =
    ap (λ n. number * n) e ∙ sym (mul_assoc number (size / 8) 8) in
    ap (λ n. n / 8) f ∙ mul-div_left (number * (size / 8)) (omega arith)

-- how many there are
pub not_items : (size number width len : ℕ) → size % 8 ≡ 0 → width ≡ size / 8
    → len ≡ number * size / 8 → len % width ≡ 0
not_items size number width len whole is all =
    let e : len ≡ number * width =
    all ∙ items_len size number whole ∙ ap (λ n. number * n) (sym is) in
    ap (λ n. n % width) e ∙ mul-mod_left number width

-- whole items are as many as their bytes allow
whole_items : (len width : ℕ) → len % width ≡ 0 → len ≡ len / width * width
whole_items len width none = let e = div-add-mod' len width in omega arith

pub items_told : {E : Type 0} (r : Result ℕ E) (size width : ℕ) (bytes : List ℕ)
    → OkIff r (length bytes / width < 2 ^ 32) (length bytes / width)
    → 0 < size → size % 8 ≡ 0 → width ≡ size / 8 → length bytes % width ≡ 0
    → MatchOption (result_ok r) ((number : ℕ) → ¬ AreItems size bytes number)
    (λ number. AreItems size bytes number)
items_told (Ok n) size width bytes told some whole is none =
    record {
      some_bits = some;
      whole_bytes = whole;
      number_fits = subst (λ (x : ℕ). x < 2 ^ 32) (sym told.1) told.0;
      all_items = whole_items (length bytes) width none
          ∙ ap (λ x. x * width) (sym told.1) ∙ ap (λ x. n * x) is ∙ sym (items_len size n whole);
    }
items_told (Err e) size width bytes told some whole is none =
    λ number are.
    let w : 0 < width = omega arith in
    let all : length bytes ≡ number * width =
    are.all_items ∙ items_len size number whole ∙ ap (λ x. number * x) (sym is) in
    let same : length bytes / width ≡ number =
    ap (λ x. x / width) all ∙ mul-div_left number w in
    told (subst (λ (x : ℕ). x < 2 ^ 32) (sym same) are.number_fits)

-- data that are neither said as bytes nor as numbers are not said
pub not_said : (items : Items) (name size number : ℕ) (bytes : List ℕ)
    → (is_any_data items.types ≡ true → ⊥)
    → (AreWide items name size number → ⊥)
    → (AreNarrow items name size number → ⊥)
    → (value : Value) → IsValue items value (Data name size number bytes) → ⊥
not_said items name size number bytes any wide narrow (said.Numbers n ns) h =
    let e : name ≡ n = cc (h.1) in
    let f : size ≡ items.size = cc (h.1) in
    let g : number ≡ length ns = cc (h.1) in
    narrow (record {
      typed = subst (λ (x : ℕ). HasType items.types x) (sym e) h.0.typed;
      same_size = f;
      bits = subst (λ (x : ℕ). x ≤ 64) (sym f) h.0.bits;
      count = subst (λ (x : ℕ). IsCount items x) (sym g) h.0.count;
    })
not_said items name size number bytes any wide narrow (said.Raw n s bs) h =
    let e : name ≡ n = cc (h.is) in
    let f : size ≡ s = cc (h.is) in
    let g : number ≡ h.number = cc (h.is) in
    elim h.fit [
      | inl kind ↦ any kind
      | inr w ↦ wide (subst (λ (x : ℕ). AreWide items name size x) (sym g)
          (subst (λ (x : ℕ). AreWide items name x h.number) (sym f)
          (subst (λ (x : ℕ). AreWide items x s h.number) (sym e) w)))
    ]
not_said items name size number bytes any wide narrow (said.Ports disp names) h = cc (h.1)

-- data of at most 64 bits an item are said as numbers
pub said_numbers : (items : Items) (name size number width : ℕ) (bytes numbers : List ℕ)
    → IsLawfulData name size number bytes
    → AreNarrow items name size number
    → width ≡ size / 8
    → length numbers ≡ number
    → flat_map (number_bytes width) numbers ≡ bytes
    → AllByRecursion (λ n. n < 2 ^ (8 * width)) numbers
    → AreNumbers items name numbers × (Data name size number bytes ≡ numbers_arg items name numbers)
said_numbers items name size number width bytes numbers lawful narrow is count back fits =
    let e : 8 * width ≡ items.size = omega (arith, lawful.whole_bytes, narrow.same_size) in
    let w : width ≡ items.size / 8 = is ∙ ap (λ n. n / 8) narrow.same_size in (
      record {
        typed = narrow.typed;
        of_data = lawful.data_name;
        bits = subst (λ (x : ℕ). x ≤ 64) narrow.same_size narrow.bits;
        count = subst (λ (x : ℕ). IsCount items x) (sym count) narrow.count;
        each = subst (λ (x : ℕ). AllByRecursion (λ n. n < 2 ^ x) numbers) e fits;
      },
      ap (λ (x : List ℕ). Data name size number x) (sym back)
          ∙ ap (λ (x : ℕ). Data name size x (flat_map (number_bytes width) numbers)) (sym count)
          ∙ ap (λ (x : ℕ). Data name x (length numbers) (flat_map (number_bytes width) numbers))
          narrow.same_size
          ∙ ap (λ (x : ℕ). Data name items.size (length numbers) (flat_map (number_bytes x) numbers))
          w,
    )

-- how long numbers are
pub length-number : (width number : ℕ) → length (number_bytes width number) ≡ width
length-number zero number = refl
length-number (suc width) number = ap suc (length-number width (number / 256))

length-numbers : (width : ℕ) (numbers : List ℕ)
    → length (flat_map (number_bytes width) numbers) ≡ length numbers * width
length-numbers width [] = omega arith
length-numbers width (n ∷ numbers) =
    length-append (number_bytes width n) (flat_map (number_bytes width) numbers)
    ∙ ap (λ x. x + length (flat_map (number_bytes width) numbers)) (length-number width n)
    ∙ ap (λ x. width + x) (length-numbers width numbers)
    ∙ add_one_more width (length numbers)
  where
    add_one_more : (width count : ℕ) → width + count * width ≡ suc count * width
    add_one_more width count = let e = suc-mul count width in omega arith

by_size : (name size number : ℕ) → (size_fits name size && number_fits number) ≡ true
    → (0 < size) × (size % 8 ≡ 0) × (size < 2 ^ 16) × (number ≤ 8192)
by_size name size number h =
    let two = and_parts (size_fits name size) (number_fits number) h in
    let s = and_parts (ltb 0 size && leb size 65528 && eqb (size % 8) 0) _ two.0 in
    let t = and_parts (ltb 0 size && leb size 65528) (eqb (size % 8) 0) s.0 in
    let u = and_parts (ltb 0 size) (leb size 65528) t.0 in
    let n = and_parts (ltb 0 number) (leb number 8192) two.1 in
    let most : size ≤ 65528 = leb-true _ _ u.1 in
    (ltb-true _ _ u.0, eqb-true _ _ t.1, omega arith, leb-true _ _ n.1)

by_ports : (size number : ℕ) → (eqb size 32 && number_fits number) ≡ true
    → (0 < size) × (size % 8 ≡ 0) × (size < 2 ^ 16) × (number ≤ 8192)
by_ports size number h =
    let two = and_parts (eqb size 32) (number_fits number) h in
    let is : size ≡ 32 = eqb-true _ _ two.0 in
    let n = and_parts (ltb 0 number) (leb number 8192) two.1 in
    (omega arith, omega arith, omega arith, leb-true _ _ n.1)

by_types : (types : ItemTypes) (items : Items) (name : ℕ) → fits_by types items ≡ true
    → HasType types name
    → (0 < items.size) × (items.size % 8 ≡ 0) × (items.size < 2 ^ 16) × (items.number ≤ 8192)
by_types types.AnyData items name fit typed = let no : ⊥ = cc in absurd no
by_types (types.One n) items name fit typed = by_size n items.size items.number fit
by_types types.Send items name fit typed = by_ports items.size items.number fit
by_types types.SendOnce items name fit typed = by_ports items.size items.number fit
by_types types.Any items name fit typed = by_ports items.size items.number fit

count_below : (bound : Bool) (most count : ℕ) → most ≤ 8192 → IsCountBy bound most count
    → count ≤ 8192
count_below true most count few h = omega arith
count_below false most count few h = omega arith

-- the argument that numbers are is lawful
pub numbers_lawful : (items : Items) (name : ℕ) (numbers : List ℕ) → items_fit items ≡ true
    → AreNumbers items name numbers
    → IsLawfulData name items.size (length numbers) (flat_map (number_bytes (items.size / 8)) numbers)
numbers_lawful items name numbers fit h =
    let t = by_types items.types items name fit h.typed in
    let few = count_below items.is_bound items.number (length numbers) t.3 h.count in
    record {
      data_name = h.of_data;
      some_bits = t.0;
      whole_bytes = t.1;
      size_fits = t.2;
      number_fits = omega arith;
      all_items = length-numbers (items.size / 8) numbers
          ∙ sym (items_len items.size (length numbers) t.1);
    }

-- no bytes are data of a name that is a disposition's
pub not_named : (items : Items) (name size : ℕ) (bytes : List ℕ) → 16 ≤ name → (arg : Arg)
    → AreBytes items name size bytes arg → ⊥
not_named items name size bytes above arg h = omega (arith, h.lawful.data_name)

-- bytes are so many items in one way
pub one_count : (size one other len : ℕ) → 0 < size → size % 8 ≡ 0 → len ≡ one * size / 8
    → len ≡ other * size / 8 → one ≡ other
one_count size one other len some whole p q =
    let e : one * (size / 8) ≡ other * (size / 8) =
    sym (items_len size one whole) ∙ sym p ∙ q ∙ items_len size other whole in
    let w : 0 < size / 8 = omega arith in
    sym (mul-div_left one w) ∙ ap (λ n. n / (size / 8)) e ∙ mul-div_left other w

-- bytes that are so many items, and neither of any kind nor items of the form
pub not_fit : (items : Items) (name size number : ℕ) (bytes : List ℕ)
    → AreItems size bytes number
    → (is_any_data items.types ≡ true → ⊥)
    → (AreWide items name size number → ⊥)
    → (arg : Arg) → AreBytes items name size bytes arg → ⊥
not_fit items name size number bytes are any wide arg h =
    elim h.fit [
      | inl kind ↦ any kind
      | inr w ↦ wide (subst (λ (x : ℕ). AreWide items name size x) (one_count size h.number number
          (length bytes) are.some_bits are.whole_bytes h.lawful.all_items are.all_items) w)
    ]

-- a disposition's number
pub disp_least : (disp : Disp) → 16 ≤ disp_number disp
disp_least MoveReceive = omega arith
disp_least MoveSend = omega arith
disp_least MoveSendOnce = omega arith
disp_least CopySend = omega arith
disp_least MakeSend = omega arith
disp_least MakeSendOnce = omega arith

pub disp_most : (disp : Disp) → disp_number disp ≤ 21
disp_most MoveReceive = omega arith
disp_most MoveSend = omega arith
disp_most MoveSendOnce = omega arith
disp_most CopySend = omega arith
disp_most MakeSend = omega arith
disp_most MakeSendOnce = omega arith

-- as many as a form says are few
pub few_items : (items : Items) (name count : ℕ) → items_fit items ≡ true
    → HasType items.types name → IsCount items count → count ≤ 8192
few_items items name count fit typed h =
    count_below items.is_bound items.number count (by_types items.types items name fit typed).3 h

pub names_below : (names : List ℕ) → ((i : ℕ) → get_or names i 0 < 2 ^ 32)
    → AllByRecursion (λ name. name < 2 ^ 32) names
names_below [] fits = tt
names_below (name ∷ names) fits = (fits 0, names_below names (λ i. fits (suc i)))
