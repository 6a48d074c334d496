-- The search for slots that never carry a right: the askers of each interface, the number of a
-- slot's type, and one turn of each loop.
use Rattle.std.proofs.Common.{◌≡◌, inl, inr, ℕ, suc, ◌+◌, ◌<◌, ◌≤◌, Bool, true, false, List, []}
use Rattle.std.proofs.Common.{◌∷◌, ◌++◌, length, Some, None, drop, get_or, refl, ap, sym, ◌∙◌}
use Rattle.std.proofs.Common.{subst, arith, Vec, Global, Option}
use Rattle.std.specs.Prelude.{find, slice_get, ◌&&◌, ◌==◌, not, nat_lt, option_map, unwrap_or}
use Rattle.std.proofs.lemmas.Bool.{cases_lt, eq-eqb, lt-ltb}
use Rattle.std.proofs.lemmas.List.{append-nil, drop_all, get_or_append_left, get_or_push}
use Rattle.std.proofs.lemmas.List.{length_push}
use Rattle.std.proofs.lemmas.Option.{same_Some, slice_get_read, slice_get-get_or}
use Rattle.mrc_base.specs.declared.Disp.{Disp}
use Rattle.mrc_base.specs.declared.Fact.{Fact}
use Rattle.mrc_base.specs.declared.Fact.TheVariants.{Hold}
use Rattle.mrc_base.specs.declared.PortRight.{PortRight}
use Rattle.mrc_base.specs.Disposition.{needed, given}
use Rattle.mrc_bits.specs.Bits.{is_set, is_fresh}
use Rattle.mrc_facts.specs.Order.{right_number}
use Rattle.mrc_rows.specs.Joining.{is_of}
use Rattle.mrc_rows.specs.declared.joining.Row.TheVariants.{Holds}
use Rattle.mrc_rows.specs.Rows.{is_within, place_of, words_of}
use Rattle.mrc_rows.proofs.Rows.{words_at, no_bit_in}
use Rattle.mrc_forms.specs.declared.form.MessageKind.{MessageKind}
use Rattle.mrc_forms.specs.Forms.{Argument, Form as TextForm}
use Rattle.mrc_forms.specs.Tables.{Row, Table as Interface, AreForms, form_in}
use Rattle.mrc_model.proofs.Members.{in_get}
use Rattle.mrc_model.specs.IsIn.{IsIn, here, later}
use Rattle.mrc_model.specs.declared.Verb.TheVariants.{Sends}
use Rattle.mrc_model.specs.Wiring.{Form, Wiring, admits, classes, item_forms, may}
use Rattle.mrc_wiring.specs.Finding.{has_id, item_of}
use Rattle.mrc_wiring.specs.ModelForms.{is_at, model_form}
use Rattle.mrc_wiring.specs.Sorts.{sorts_of}
use Rattle.mrc_wiring.specs.Table.{Table, wiring_of}
use Rattle.mrc_wiring_text.specs.declared.reading.Line.{Line}
use Rattle.mrc_wiring_text.specs.declared.wiring.WiringSays.{WiringSays}
use Rattle.mrc_wiring.proofs.FormSorts.{typed_is}
use Rattle.mrc_wiring.proofs.Steps.{next_is, moves}
use Rattle.mrc_dead.specs.Dead.{Wanted, DeadLine, DeadSlot, dead_at, dead_among, dead_from, slot_if}
use Rattle.mrc_dead.specs.Asking.{askers}
use Rattle.mrc_dead.specs.Searching.{AreAskers}
use Rattle.mrc_dead.proofs.Numbers.{any_never}
use Rattle.mrc_dead.specs.Dead.{fills, fills_at}
use Rattle.mrc_dead.specs.Dead.{is_dead_slot, named_from, named_subject, subject, with_subject}

-- an element stands at a place
pub get_in : {X : Type 0} (xs : List X) (x : X) → IsIn x xs
    → (i : ℕ) × (slice_get xs i ≡ Some x)
get_in [] x at = elim at [ ]
get_in (y ∷ xs) x here = (0, refl)
get_in (y ∷ xs) x (later at) = let rest = get_in xs x at in (suc rest.0, rest.1)

-- what is read is an element
pub in_read : {X : Type 0} (xs : List X) (i : ℕ) (x : X) → i < length xs → x ≡ get_or xs i x
    → IsIn x xs
in_read xs i x less is = in_get xs i x (slice_get_read xs (length xs) i x refl less is)

-- the form with the numbers of types that is found is that of the row
pub typed_of : (table : Table) (kind : MessageKind) (s : ℕ) (interface : Interface) (row : Row)
    (form : TextForm) (typed : Form)
    → slice_get table.interfaces s ≡ Some interface
    → AreForms interface
    → IsIn row interface.rows
    → form_in kind row ≡ Some form
    → Some typed ≡ find (has_id form.id) (item_forms (wiring_of table) (item_of kind s))
    → typed ≡ model_form kind (sorts_of table.interfaces) s form
typed_of table kind s interface row form typed there are among is found =
    let at = get_in interface.rows row among in
    same_Some typed (model_form kind (sorts_of table.interfaces) s form)
    (found ∙ typed_is table kind s at.0 interface row form there are at.1 is)

-- and one is found
pub typed_there : (table : Table) (kind : MessageKind) (s : ℕ) (interface : Interface) (row : Row)
    (form : TextForm)
    → slice_get table.interfaces s ≡ Some interface
    → AreForms interface
    → IsIn row interface.rows
    → form_in kind row ≡ Some form
    → None ≡ find (has_id form.id) (item_forms (wiring_of table) (item_of kind s))
    → ⊥
typed_there table kind s interface row form there are among is found =
    let at = get_in interface.rows row among in
    let so = found ∙ typed_is table kind s at.0 interface row form there are at.1 is in cc

-- one line more, of those that name a class
pub named_more : (lines : List (Line WiringSays)) (i : ℕ) (line : Line WiringSays)
    (named more all : List (List ℕ))
    → i < length lines
    → line ≡ get_or lines i line
    → named_from named (drop i lines) ≡ all
    → more ≡ with_subject named (named_subject line.says)
    → named_from more (drop (i + 1) lines) ≡ all
named_more lines i line named more all less at so added =
    ap (λ ns. named_from ns (drop (i + 1) lines)) added
    ∙ (ap (λ (l : Line WiringSays). named_from (with_subject named (named_subject l.says))
    (drop (i + 1) lines)) at
    ∙ (sym (ap (named_from named) (next_is lines i line less)) ∙ so))

-- no line is left
pub named_end : (lines : List (Line WiringSays)) (i : ℕ) (named all : List (List ℕ))
    → length lines ≤ i
    → named_from named (drop i lines) ≡ all
    → named ≡ all
named_end lines i named all ended so =
    ap (named_from named) (sym (drop_all i lines ended)) ∙ so

-- one argument more
pub slot_more : (w : Wanted) (kind : MessageKind) (form : TextForm) (i : ℕ)
    (arguments : List Argument) (argument : Argument) (old new all : List DeadSlot)
    → i < length arguments
    → argument ≡ get_or arguments i argument
    → old ++ dead_from w kind form i (drop i arguments) ≡ all
    → new ≡ old ++ slot_if (is_dead_slot w kind (find (is_at i) form.slots)) form.name argument.name
    → new ++ dead_from w kind form (i + 1) (drop (i + 1) arguments) ≡ all
slot_more w kind form i arguments argument old new all less at so added =
    let part : Argument → List DeadSlot = λ a.
    slot_if (is_dead_slot w kind (find (is_at i) form.slots)) form.name a.name in
    let rest = dead_from w kind form (i + 1) (drop (i + 1) arguments) in
    moves old new (part argument) (dead_from w kind form i (drop i arguments)) rest all added
    (ap (dead_from w kind form i) (next_is arguments i argument less)
    ∙ ap (λ a. part a ++ rest) (sym at)) so

-- no argument is left
pub slot_end : (w : Wanted) (kind : MessageKind) (form : TextForm) (i : ℕ)
    (arguments : List Argument) (found all : List DeadSlot)
    → length arguments ≤ i
    → found ++ dead_from w kind form i (drop i arguments) ≡ all
    → found ≡ all
slot_end w kind form i arguments found all ended so =
    sym (append-nil found)
    ∙ (ap (λ left. found ++ dead_from w kind form i left) (sym (drop_all i arguments ended)) ∙ so)

-- one line more, of those about slots
pub line_more : (table : Table) (set : Fact → Bool) (named : List (List ℕ))
    (lines : List (Line WiringSays)) (i : ℕ) (line : Line WiringSays) (known more : List (List ℕ))
    (old new all : List DeadLine)
    → i < length lines
    → line ≡ get_or lines i line
    → old ++ dead_among table set named known (drop i lines) ≡ all
    → new ≡ old ++ dead_at table set named known line.number line.says
    → more ≡ with_subject known (subject line.says)
    → new ++ dead_among table set named more (drop (i + 1) lines) ≡ all
line_more table set named lines i line known more old new all less at so added next =
    let rest : Line WiringSays → List DeadLine = λ l.
    dead_among table set named (with_subject known (subject l.says)) (drop (i + 1) lines) in
    let part : Line WiringSays → List DeadLine = λ l.
    dead_at table set named known l.number l.says in
    ap (λ ks. new ++ dead_among table set named ks (drop (i + 1) lines)) next
    ∙ moves old new (part line) (dead_among table set named known (drop i lines)) (rest line) all
    added (ap (dead_among table set named known) (next_is lines i line less)
    ∙ ap (λ l. part l ++ rest l) (sym at)) so

-- no line is left
pub line_end : (table : Table) (set : Fact → Bool) (named known : List (List ℕ))
    (lines : List (Line WiringSays)) (i : ℕ) (found all : List DeadLine)
    → length lines ≤ i
    → found ++ dead_among table set named known (drop i lines) ≡ all
    → found ≡ all
line_end table set named known lines i found all ended so =
    sym (append-nil found)
    ∙ (ap (λ ls. found ++ dead_among table set named known ls) (sym (drop_all i lines ended)) ∙ so)

-- a row that is put behind others
abbrev Tasks : Type 0
Tasks = Vec ℕ Global

-- it changes no other
other_row : (rows : List Tasks) (row : Tasks) (k : ℕ) → k < length rows
    → words_of (rows ++ row ∷ []) k ≡ words_of rows k
other_row rows row k below =
    ap (λ (o : Option Tasks). unwrap_or (option_map (λ (r : Tasks). r.items) o) [])
    (slice_get-get_or (rows ++ row ∷ []) k row (let e = length_push rows row in omega arith)
    ∙ (ap (λ (r : Tasks). Some r) (get_or_append_left rows (row ∷ []) row k below)
    ∙ sym (slice_get-get_or rows k row below)))

-- and it is the last
last_row : (rows : List Tasks) (row : Tasks) (k : ℕ) → k ≡ length rows
    → words_of (rows ++ row ∷ []) k ≡ row.items
last_row rows row k at =
    words_at (rows ++ row ∷ []) k row (let e = length_push rows row in omega arith)
    (sym (get_or_push rows row row k (sym at)))

-- the askers of one interface more
pub askers_more : (W : Wiring) (set : Fact → Bool) (kind : MessageKind) (n : ℕ)
    (rows more : List Tasks) (row : Tasks)
    → AreAskers W set kind n rows
    → row.items ≡ askers W set (item_of kind n)
    → more ≡ rows ++ row ∷ []
    → AreAskers W set kind (n + 1) more
askers_more W set kind n rows more row so is pushed =
    subst (AreAskers W set kind (n + 1)) (sym pushed) (record {
      len = length_push rows row ∙ ap (λ k. k + 1) so.len;
      each = λ s less. elim (cases_lt s n) [
        | inl below ↦ other_row rows row s (omega (arith, so.len)) ∙ so.each s below
        | inr past ↦
            let same : s ≡ n = omega arith in
            last_row rows row s (omega (arith, so.len))
            ∙ (is ∙ ap (λ k. askers W set (item_of kind k)) (sym same))
      ];
    })

-- the askers of no interface
pub askers_none : (W : Wiring) (set : Fact → Bool) (kind : MessageKind) (rows : List Tasks)
    → rows ≡ [] → AreAskers W set kind 0 rows
askers_none W set kind rows empty = record {
  len = ap length empty;
  each = λ s less. absurd (omega arith);
}

-- no bit that two rows have, of which one is not there
cut : (a b m s : Bool) → s ≡ false → ((a && b) && not s) ≡ false → (a && (b && m)) ≡ false
cut false b m s e f = refl
cut true false m s e f = refl
cut true true m false e f = absurd cc
cut true true m true e f = absurd cc

-- the row of what a task holds has the bit of each hold
held_is : (set : Fact → Bool) (t c : ℕ) (q : PortRight) (held : List ℕ) → t < 64 → c < 1344
    → ((g : Fact) → is_of (Holds t q) g ≡ true → is_set held (place_of g) ≡ (is_within g && set g))
    → is_set held c ≡ set (Hold t c q)
held_is set t c q held low less shown =
    let same : is_of (Holds t q) (Hold t c q) ≡ true =
    ap (λ b. b && (right_number q == right_number q)) (eq-eqb t t refl)
    ∙ eq-eqb (right_number q) (right_number q) refl in
    shown (Hold t c q) same
    ∙ (ap (λ b. (b && nat_lt c 1344) && set (Hold t c q)) (lt-ltb t 64 low)
    ∙ ap (λ b. b && set (Hold t c q)) (lt-ltb c 1344 less))

-- a task has no right for a slot if no class has both bits
pub no_fills : (W : Wiring) (set : Fact → Bool) (x : Disp) (sort t : ℕ) (held admitted : List ℕ)
    → t < 64 → classes W ≤ 1344
    → ((g : Fact) → is_of (Holds t (needed x)) g ≡ true
    → is_set held (place_of g) ≡ (is_within g && set g))
    → ((c : ℕ) → is_set admitted c ≡ admits W sort c)
    → ((i : ℕ) → is_fresh [] held admitted i ≡ false)
    → fills W set x sort t ≡ false
no_fills W set x sort t held admitted low few shown are none =
    any_never (fills_at W set x sort t) (classes W) (λ c less.
    let has = held_is set t c (needed x) held low (omega arith) shown in
    cut (set (Hold t c (needed x))) (admits W sort c) (may W Sends t (given x) c) (is_set [] c)
    (no_bit_in [] c refl)
    (ap (λ b. (b && admits W sort c) && not (is_set [] c)) (sym has)
    ∙ (ap (λ b. (is_set held c && b) && not (is_set [] c)) (sym (are c)) ∙ none c)))
