-- A message is said in one way.
use Rattle.std.proofs.Common.{◌≡◌, ℕ, zero, suc, ◌+◌, ◌*◌, ◌/◌, ◌%◌, ◌^◌, ◌<◌, true}
use Rattle.std.proofs.Common.{List, [], ◌∷◌, ◌++◌, length, take, drop, refl, sym, ap, ◌∙◌, arith}
use Rattle.std.proofs.Common.{subst, inl, inr, Option, Some, None}
use Rattle.std.specs.List.{flat_map, AllByRecursion}
use Rattle.std.proofs.lemmas.Nat.{shr_below}
use Rattle.std.proofs.Math.Seq.{take-append_seam, drop-append_seam}
use Rattle.mrc_base.specs.declared.Disp.{Disp}
use Rattle.mrc_base.specs.declared.Disp.TheVariants.{MoveReceive, MoveSend, MoveSendOnce, CopySend}
use Rattle.mrc_base.specs.declared.Disp.TheVariants.{MakeSend, MakeSendOnce}
use Rattle.mrc_base.specs.Disposition.{disp_number, disp_of_number}
use Rattle.mrc_model.specs.Message.{Arg, Message}
use Rattle.mrc_desc.specs.Lawful.{IsLawfulArg}
use Rattle.mrc_forms.specs.declared.form.MessageKind.{MessageKind}
use Rattle.mrc_forms.specs.declared.form.MessageKind.TheVariants.{Request, Reply}
use Rattle.mrc_forms.specs.declared.shape.Items.{Items}
use Rattle.mrc_forms.specs.declared.types.ItemTypes.{ItemTypes}
use Rattle.mrc_forms.specs.declared.types.ItemTypes.TheVariants as types
use Rattle.mrc_forms.specs.Forms.{Argument, Form}
use Rattle.mrc_forms.specs.Tables.{Table}
use Rattle.mrc_forms.specs.Types.{is_any_data}
use Rattle.mrc_message_words.specs.declared.port.NamedPort.{NamedPort}
use Rattle.mrc_message_words.specs.declared.value.Value.{Value}
use Rattle.mrc_message_words.specs.declared.value.Value.TheVariants as said
use Rattle.mrc_message_words.specs.Values.{number_bytes, IsValue, AreValues, HasType}
use Rattle.mrc_message_words.specs.Spoken.{Said, IsPort, IsReplyPort, IsSpoken, form_by, form_said}
use Rattle.mrc_message_words.proofs.Making.{disp_least, length-number}

-- the number that bytes are
abbrev little : List ℕ → ℕ
little [] = 0
little (b ∷ bs) = b + 256 * little bs

number_back : (width number : ℕ) → number < 2 ^ (8 * width) → little (number_bytes width number) ≡ number
number_back zero number fits = omega arith
number_back (suc width) number fits =
    let e : 8 * suc width ≡ 8 * width + 8 = omega arith in
    let f : number < 2 ^ (8 * width + 8) = subst (λ (n : ℕ). number < 2 ^ n) e fits in
    let rest = number_back width (number / 256) (shr_below number (8 * width) 8 f) in
    omega (arith, rest)

one_number : (width m n : ℕ) → m < 2 ^ (8 * width) → n < 2 ^ (8 * width)
    → number_bytes width m ≡ number_bytes width n → m ≡ n
one_number width m n f g e =
    sym (number_back width m f) ∙ ap little e ∙ number_back width n g

same_seam : (xs ys zs ws : List ℕ) → length xs ≡ length zs → xs ++ ys ≡ zs ++ ws
    → (xs ≡ zs) × (ys ≡ ws)
same_seam xs ys zs ws same e = (
  sym (take-append_seam xs ys) ∙ ap (take (length xs)) e
      ∙ ap (λ n. take n (zs ++ ws)) same ∙ take-append_seam zs ws,
  sym (drop-append_seam xs ys) ∙ ap (drop (length xs)) e
      ∙ ap (λ n. drop n (zs ++ ws)) same ∙ drop-append_seam zs ws,
)

one_list : (width : ℕ) (ms ns : List ℕ)
    → AllByRecursion (λ n. n < 2 ^ (8 * width)) ms
    → AllByRecursion (λ n. n < 2 ^ (8 * width)) ns
    → length ms ≡ length ns
    → flat_map (number_bytes width) ms ≡ flat_map (number_bytes width) ns
    → ms ≡ ns
one_list width [] [] f g same e = refl
one_list width [] (n ∷ ns) f g same e = absurd (omega arith)
one_list width (m ∷ ms) [] f g same e = absurd (omega arith)
one_list width (m ∷ ms) (n ∷ ns) f g same e =
    let two = same_seam (number_bytes width m) (flat_map (number_bytes width) ms)
    (number_bytes width n) (flat_map (number_bytes width) ns)
    (length-number width m ∙ sym (length-number width n)) e in
    let p = one_number width m n f.0 g.0 two.0 in
    let q = one_list width ms ns f.1 g.1 (omega arith) two.1 in
    ap (λ (x : ℕ). x ∷ ms) p ∙ ap (λ (xs : List ℕ). n ∷ xs) q

-- a number is one disposition's
disp_back : (disp : Disp) → disp_of_number (disp_number disp) ≡ Some disp
disp_back MoveReceive = refl
disp_back MoveSend = refl
disp_back MoveSendOnce = refl
disp_back CopySend = refl
disp_back MakeSend = refl
disp_back MakeSendOnce = refl

one_disp : (one other : Disp) → disp_number one ≡ disp_number other → one ≡ other
one_disp one other e =
    let p : Some one ≡ Some other =
    sym (disp_back one) ∙ ap disp_of_number e ∙ disp_back other in
    cc (p)

abbrev named : ℕ → Disp → NamedPort
named name disp = record { name = name; disp = disp }

one_port : (one other : NamedPort) (name disp : ℕ) → IsPort one name disp → IsPort other name disp
    → one ≡ other
one_port one other name disp h g =
    let d = one_disp one.disp other.disp (sym h.same_disp ∙ g.same_disp) in
    let n : one.name ≡ other.name = sym h.same_name ∙ g.same_name in
    ap (λ (x : ℕ). named x one.disp) n ∙ ap (λ (x : Disp). named other.name x) d

one_reply : (kind : MessageKind) (one other : Option NamedPort) (name disp : ℕ)
    → IsReplyPort kind one name disp → IsReplyPort kind other name disp → one ≡ other
one_reply kind None None name disp h g = refl
one_reply Request None (Some p) name disp h g =
    let least = disp_least p.disp in
    let a = h.same_disp in
    let b = g.same_disp in
    absurd (omega arith)
one_reply Reply None (Some p) name disp h g = absurd g
one_reply Request (Some p) None name disp h g =
    let least = disp_least p.disp in
    let a = h.same_disp in
    let b = g.same_disp in
    absurd (omega arith)
one_reply Reply (Some p) None name disp h g = absurd h
one_reply Request (Some p) (Some q) name disp h g =
    ap (λ (x : NamedPort). Some x) (one_port p q name disp h g)
one_reply Reply (Some p) (Some q) name disp h g = absurd h

-- data of any kind have no type number
no_type : (types : ItemTypes) (name : ℕ) → is_any_data types ≡ true → HasType types name → ⊥
no_type types.AnyData name any typed = let no : ⊥ = cc in no
no_type (types.One n) name any typed = let no : ⊥ = cc in no
no_type types.Send name any typed = let no : ⊥ = cc in no
no_type types.SendOnce name any typed = let no : ⊥ = cc in no
no_type types.Any name any typed = let no : ⊥ = cc in no

one_way : (items : Items) (one other : Value) (arg : Arg) → IsLawfulArg arg
    → IsValue items one arg → IsValue items other arg → one ≡ other
one_way items (said.Numbers n ns) (said.Numbers m ms) arg lawful h g =
    let name : n ≡ m = cc (h.1, g.1) in
    let len : length ns ≡ length ms = cc (h.1, g.1) in
    let bytes : flat_map (number_bytes (items.size / 8)) ns
    ≡ flat_map (number_bytes (items.size / 8)) ms = cc (h.1, g.1) in
    let whole : items.size % 8 ≡ 0 = (subst IsLawfulArg h.1 lawful).whole_bytes in
    let e : items.size ≡ 8 * (items.size / 8) = omega arith in
    let f = subst (λ (x : ℕ). AllByRecursion (λ y. y < 2 ^ x) ns) e h.0.each in
    let k = subst (λ (x : ℕ). AllByRecursion (λ y. y < 2 ^ x) ms) e g.0.each in
    let p = one_list (items.size / 8) ns ms f k len bytes in
    ap (λ (x : ℕ). said.Numbers x ns) name ∙ ap (λ (xs : List ℕ). said.Numbers m xs) p
one_way items (said.Numbers n ns) (said.Raw m s bs) arg lawful h g =
    absurd (elim g.fit [
      | inl any ↦ no_type items.types n any h.0.typed
      | inr wide ↦
          let a = h.0.bits in
          let b = wide.bits in
          let c = wide.same_size in
          omega arith
    ])
one_way items (said.Numbers n ns) (said.Ports d names) arg lawful h g =
    let no : ⊥ = cc (h.1, g.1) in absurd no
one_way items (said.Raw m s bs) (said.Numbers n ns) arg lawful h g =
    absurd (elim h.fit [
      | inl any ↦ no_type items.types n any g.0.typed
      | inr wide ↦
          let a = g.0.bits in
          let b = wide.bits in
          let c = wide.same_size in
          omega arith
    ])
one_way items (said.Raw m s bs) (said.Raw n t cs) arg lawful h g =
    let p : m ≡ n = cc (h.is, g.is) in
    let q : s ≡ t = cc (h.is, g.is) in
    let r : bs ≡ cs = cc (h.is, g.is) in
    ap (λ (x : ℕ). said.Raw x s bs) p ∙ ap (λ (x : ℕ). said.Raw n x bs) q
    ∙ ap (λ (xs : List ℕ). said.Raw n t xs) r
one_way items (said.Raw m s bs) (said.Ports d names) arg lawful h g =
    let no : ⊥ = cc (h.is, g.1) in absurd no
one_way items (said.Ports d names) (said.Numbers n ns) arg lawful h g =
    let no : ⊥ = cc (h.1, g.1) in absurd no
one_way items (said.Ports d names) (said.Raw m s bs) arg lawful h g =
    let no : ⊥ = cc (h.1, g.is) in absurd no
one_way items (said.Ports d names) (said.Ports e others) arg lawful h g =
    let p : disp_number d ≡ disp_number e = cc (h.1, g.1) in
    let q : names ≡ others = cc (h.1, g.1) in
    ap (λ (x : Disp). said.Ports x names) (one_disp d e p)
    ∙ ap (λ (xs : List ℕ). said.Ports e xs) q

one_values : (arguments : List Argument) (ones others : List Value) (args : List Arg)
    → AllByRecursion IsLawfulArg args
    → AreValues arguments ones args → AreValues arguments others args → ones ≡ others
one_values [] [] [] [] lawful h g = refl
one_values [] [] [] (x ∷ xs) lawful h g = absurd h
one_values [] [] (w ∷ ws) xs lawful h g = absurd g
one_values [] (v ∷ vs) ws xs lawful h g = absurd h
one_values (a ∷ bs) [] ws xs lawful h g = absurd h
one_values (a ∷ bs) (v ∷ vs) [] xs lawful h g = absurd g
one_values (a ∷ bs) (v ∷ vs) (w ∷ ws) [] lawful h g = absurd h
one_values (a ∷ bs) (v ∷ vs) (w ∷ ws) (x ∷ xs) lawful h g =
    let p = one_way a.items v w x lawful.0 h.0 g.0 in
    let q = one_values bs vs ws xs lawful.1 h.1 g.1 in
    ap (λ (y : Value). y ∷ vs) p ∙ ap (λ (ys : List Value). w ∷ ys) q

abbrev so : MessageKind → (interface routine : List ℕ) → NamedPort → Option NamedPort → List Value
    → Said
so kind interface routine to reply values = record {
  kind = kind;
  interface = interface;
  routine = routine;
  to = to;
  reply = reply;
  values = values;
}

same_so : (k l : MessageKind) (i j r s : List ℕ) (t u : NamedPort) (p q : Option NamedPort)
    (vs ws : List Value)
    → k ≡ l → i ≡ j → r ≡ s → t ≡ u → p ≡ q → vs ≡ ws → so k i r t p vs ≡ so l j s u q ws
same_so k l i j r s t u p q vs ws a b c d e f = cc

pub said_in_one_way : (tables : List Table) (one other : Said) (m : Message)
    → one.kind ≡ other.kind → one.interface ≡ other.interface → one.routine ≡ other.routine
    → IsSpoken tables one m → IsSpoken tables other m → one ≡ other
said_in_one_way tables one other m k i r h g =
    let named : form_said tables one ≡ form_said tables other =
    ap (λ (x : MessageKind). form_by tables x one.interface one.routine) k
    ∙ ap (λ (x : List ℕ). form_by tables other.kind x one.routine) i
    ∙ ap (λ (x : List ℕ). form_by tables other.kind other.interface x) r in
    let a = h.named in
    let b = g.named in
    let form : h.form ≡ g.form = cc (a, b, named) in
    let values : AreValues g.form.arguments one.values m.args =
    subst (λ (f : Form). AreValues f.arguments one.values m.args) form h.over.args in
    let reply : IsReplyPort other.kind one.reply m.local m.local_disp =
    subst (λ (x : MessageKind). IsReplyPort x one.reply m.local m.local_disp) k h.over.reply in
    same_so one.kind other.kind one.interface other.interface one.routine other.routine one.to
    other.to one.reply other.reply one.values other.values k i r
    (one_port one.to other.to m.remote m.remote_disp h.over.to g.over.to)
    (one_reply other.kind one.reply other.reply m.local m.local_disp reply g.over.reply)
    (one_values g.form.arguments one.values other.values m.args h.over.sent.lawful.args.0 values
    g.over.args)
