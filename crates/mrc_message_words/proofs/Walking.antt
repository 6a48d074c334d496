-- Values, one after the other, and the one message that they are.
use Rattle.std.proofs.Common.{◌≡◌, ℕ, zero, suc, ◌+◌, ◌<◌, ◌≤◌, ◌&&◌, true, List, [], ◌∷◌}
use Rattle.std.proofs.Common.{◌++◌, length, take, get_or, add-one, refl, sym, ap, ◌∙◌, arith, subst, leb, eqb, inl, inr, ◌⊎◌}
use Rattle.std.proofs.Common.{Option, Some, None, Result, Ok, Err, IfOk, IfErr}
use Rattle.std.specs.List.{slice_get, flat_map}
use Rattle.std.proofs.lemmas.Bool.{and_parts, leb-true, or_cases, eqb-true}
use Rattle.std.proofs.lemmas.Option.{slice_get-get_or}
use Rattle.mrc_base.specs.declared.memory.OrMemory.{OrMemory}
use Rattle.mrc_base.specs.declared.memory.OrMemory.TheVariants.{Fault, Memory}
use Rattle.mrc_base.specs.Disposition.{disp_number}
use Rattle.mrc_base.specs.Reading.{Gives, UnlessMemory}
use Rattle.mrc_model.specs.Message.{Arg, Data, Message, arg_bytes}
use Rattle.mrc_desc.specs.declared.argument.Argument.{Argument as CodeArgument}
use Rattle.mrc_desc.specs.View.{argument_of, arguments_of}
use Rattle.mrc_forms.specs.declared.form.MessageKind.{MessageKind}
use Rattle.mrc_forms.specs.declared.form.MessageKind.TheVariants.{Request, Reply}
use Rattle.mrc_forms.specs.declared.shape.Items.{Items}
use Rattle.mrc_forms.specs.Forms.{Argument, Form}
use Rattle.mrc_forms.specs.Tables.{Table}
use Rattle.mrc_message_words.specs.declared.fault.SpokenFault.{SpokenFault}
use Rattle.mrc_message_words.specs.declared.fault.SpokenFault.TheVariants as faults
use Rattle.mrc_message_words.specs.declared.port.NamedPort.{NamedPort}
use Rattle.mrc_message_words.specs.declared.value.Value.{Value}
use Rattle.mrc_message_words.specs.declared.value.Value.TheVariants as said
use Rattle.mrc_message_words.specs.Values.{IsValue, AreValues}
use Rattle.mrc_message_words.specs.Spoken.{Said, IsPort, IsReplyPort, IsSaidOver, IsSpoken, IsCarried}
use Rattle.mrc_message_words.specs.Spoken.{ArePorts, IsFit, IsFirstUnfit, IsUnsaid}
use Rattle.mrc_message_words.specs.Spoken.{form_said}
use Rattle.mrc_message_words.proofs.Making.{one_count, disp_least}

-- one more value
pub values_more : (arguments : List Argument) (values : List Value) (args : List Arg) (i : ℕ)
    (argument : Argument) (value : Value) (arg : Arg)
    → slice_get arguments i ≡ Some argument
    → slice_get values i ≡ Some value
    → AreValues (take i arguments) (take i values) args
    → IsValue argument.items value arg
    → AreValues (take (suc i) arguments) (take (suc i) values) (args ++ arg ∷ [])
values_more [] vs xs i a v x e f h g = let no : ⊥ = cc in absurd no
values_more (b ∷ bs) [] xs i a v x e f h g = let no : ⊥ = cc in absurd no
values_more (b ∷ bs) (w ∷ vs) [] zero a v x e f h g =
    let p : a ≡ b = cc in
    let q : v ≡ w = cc in (
      subst (λ (y : Argument). IsValue y.items w x) p (subst (λ (y : Value). IsValue a.items y x) q g),
      tt,
    )
values_more (b ∷ bs) (w ∷ vs) (y ∷ xs) zero a v x e f h g = absurd h
values_more (b ∷ bs) (w ∷ vs) [] (suc i) a v x e f h g = absurd h
values_more (b ∷ bs) (w ∷ vs) (y ∷ xs) (suc i) a v x e f h g =
    (h.0, values_more bs vs xs i a v x e f h.1 g)

pub values_next : (arguments : List Argument) (values : List Value) (args : List Arg) (i : ℕ)
    (argument : Argument) (value : Value) (arg : Arg) (items : Items)
    → i < length arguments → argument ≡ get_or arguments i argument
    → i < length values → value ≡ get_or values i value
    → items ≡ argument.items
    → AreValues (take i arguments) (take i values) args
    → IsValue items value arg
    → AreValues (take (i + 1) arguments) (take (i + 1) values) (args ++ arg ∷ [])
values_next arguments values args i argument value arg items l e m f same h g =
    let p : slice_get arguments i ≡ Some argument =
    slice_get-get_or arguments i argument l ∙ ap (λ (x : Argument). Some x) (sym e) in
    let q : slice_get values i ≡ Some value =
    slice_get-get_or values i value m ∙ ap (λ (x : Value). Some x) (sym f) in
    let here : IsValue argument.items value arg =
    subst (λ (x : Items). IsValue x value arg) same g in
    rw add-one (values_more arguments values args i argument value arg p q h here)

-- each of them fits
pub fit_at : (arguments : List Argument) (values : List Value) (args : List Arg)
    → AreValues arguments values args
    → (i : ℕ) → IsFit (slice_get arguments i) (slice_get values i)
fit_at [] [] [] h i = tt
fit_at [] [] (x ∷ xs) h i = absurd h
fit_at [] (v ∷ vs) xs h i = absurd h
fit_at (a ∷ bs) [] xs h i = absurd h
fit_at (a ∷ bs) (v ∷ vs) [] h i = absurd h
fit_at (a ∷ bs) (v ∷ vs) (x ∷ xs) h zero = (x, h.0)
fit_at (a ∷ bs) (v ∷ vs) (x ∷ xs) h (suc i) = fit_at bs vs xs h.1 i

-- a value is one argument
pub one_value : (items : Items) (value : Value) (one other : Arg)
    → IsValue items value one → IsValue items value other → one ≡ other
one_value items (said.Numbers name numbers) one other h g = h.1 ∙ sym g.1
one_value items (said.Raw name size bytes) one other h g =
    let e : h.number ≡ g.number =
    one_count size h.number g.number (length bytes) h.lawful.some_bits h.lawful.whole_bytes
    h.lawful.all_items g.lawful.all_items in
    h.is ∙ ap (λ (n : ℕ). Data name size n bytes) e ∙ sym g.is
one_value items (said.Ports disp names) one other h g = h.1 ∙ sym g.1

pub one_args : (arguments : List Argument) (values : List Value) (ones others : List Arg)
    → AreValues arguments values ones → AreValues arguments values others → ones ≡ others
one_args [] [] [] [] h g = refl
one_args [] [] [] (y ∷ ys) h g = absurd g
one_args [] [] (x ∷ xs) ys h g = absurd h
one_args [] (v ∷ vs) xs ys h g = absurd h
one_args (a ∷ bs) [] xs ys h g = absurd h
one_args (a ∷ bs) (v ∷ vs) [] ys h g = absurd h
one_args (a ∷ bs) (v ∷ vs) (x ∷ xs) [] h g = absurd g
one_args (a ∷ bs) (v ∷ vs) (x ∷ xs) (y ∷ ys) h g =
    let e = one_value a.items v x y h.0 g.0 in
    let f = one_args bs vs xs ys h.1 g.1 in
    ap (λ (z : Arg). z ∷ xs) e ∙ ap (λ (zs : List Arg). y ∷ zs) f

one_reply : (kind : MessageKind) (reply : Option NamedPort) (n d m e : ℕ)
    → IsReplyPort kind reply n d → IsReplyPort kind reply m e → (n ≡ m) × (d ≡ e)
one_reply Request None n d m e h g = (h.same_name ∙ sym g.same_name, h.same_disp ∙ sym g.same_disp)
one_reply Reply None n d m e h g = (h.same_name ∙ sym g.same_name, h.same_disp ∙ sym g.same_disp)
one_reply Request (Some p) n d m e h g =
    (h.same_name ∙ sym g.same_name, h.same_disp ∙ sym g.same_disp)
one_reply Reply (Some p) n d m e h g = absurd h

abbrev made : (a b c d e f : ℕ) → List Arg → Message
made a b c d e f xs = record {
  remote_disp = a;
  local_disp = b;
  remote = c;
  local = d;
  seqno = e;
  id = f;
  args = xs;
}

same_made : (a b c d e f : ℕ) (xs : List Arg) (a' b' c' d' e' f' : ℕ) (xs' : List Arg)
    → a ≡ a' → b ≡ b' → c ≡ c' → d ≡ d' → e ≡ e' → f ≡ f' → xs ≡ xs'
    → made a b c d e f xs ≡ made a' b' c' d' e' f' xs'
same_made a b c d e f xs a' b' c' d' e' f' xs' p q r s t u v = cc

-- what is said over a form is one message
pub one_message : (form : Form) (said : Said) (m n : Message)
    → IsSaidOver form said m → IsSaidOver form said n → m ≡ n
one_message form said m n h g =
    let reply = one_reply said.kind said.reply m.local m.local_disp n.local n.local_disp h.reply
    g.reply in
    same_made m.remote_disp m.local_disp m.remote m.local m.seqno m.id m.args n.remote_disp
    n.local_disp n.remote n.local n.seqno n.id n.args (h.to.same_disp ∙ sym g.to.same_disp) reply.1
    (h.to.same_name ∙ sym g.to.same_name) reply.0 (h.sent.no_seqno ∙ sym g.sent.no_seqno)
    (h.id ∙ sym g.id) (one_args form.arguments said.values m.args n.args h.args g.args)

-- a port that reading admits is carried
carried : (port : NamedPort) (name disp : ℕ) → IsPort port name disp
    → (leb 17 disp && leb disp 21) ≡ true → IsCarried port
carried port name disp h admitted e =
    let least : 17 ≤ disp = leb-true 17 disp (and_parts (leb 17 disp) (leb disp 21) admitted).0 in
    let is : disp ≡ 16 = h.same_disp ∙ ap disp_number e in
    omega arith

ports_admitted : (kind : MessageKind) (to : NamedPort) (reply : Option NamedPort) (n d m e : ℕ)
    → IsPort to n d → IsReplyPort kind reply m e
    → (leb 17 d && leb d 21) ≡ true
    → ((e ≡ 0) ⊎ ((leb 17 e && leb e 21) ≡ true))
    → ArePorts kind to reply
ports_admitted Request to None n d m e h g a b = carried to n d h a
ports_admitted Reply to None n d m e h g a b = carried to n d h a
ports_admitted Request to (Some p) n d m e h g a b = (
  carried to n d h a,
  elim b [
    | inl none ↦
        let least = disp_least p.disp in
        let is = g.same_disp in
        absurd (omega arith)
    | inr some ↦ carried p m e g some
  ],
)
ports_admitted Reply to (Some p) n d m e h g a b = absurd g

ports_sent : (said : Said) (form : Form) (m : Message) → IsSaidOver form said m
    → ArePorts said.kind said.to said.reply
ports_sent said form m h =
    let two = and_parts (leb 17 m.remote_disp && leb m.remote_disp 21) _ h.sent.admitted in
    let reply : (m.local_disp ≡ 0) ⊎ ((leb 17 m.local_disp && leb m.local_disp 21) ≡ true) =
    elim (or_cases (eqb m.local_disp 0 && eqb m.local 0) _ two.1) [
      | inl none ↦ inl (eqb-true _ _ (and_parts (eqb m.local_disp 0) (eqb m.local 0) none).0)
      | inr some ↦ inr some
    ] in
    ports_admitted said.kind said.to said.reply m.remote m.remote_disp m.local m.local_disp h.to
    h.reply two.0 reply

-- what is refused over a form is no message
pub unsaid : (form : Form) (said : Said) (fault : SpokenFault) (m : Message)
    → IsUnsaid form said fault → IsSaidOver form said m → ⊥
unsaid form said faults.UnknownMessage m why h = why
unsaid form said faults.BadPort m why h = why (ports_sent said form m h)
unsaid form said (faults.BadValue i) m why h =
    why.1.here (fit_at form.arguments said.values m.args h.args i)
unsaid form said faults.TooLong m why h =
    let e = one_args form.arguments said.values why.1.args m.args why.1.said h.args in
    let within = h.sent.lawful.args.1 in
    let same : length (flat_map arg_bytes why.1.args) ≡ length (flat_map arg_bytes m.args) =
    ap (λ (xs : List Arg). length (flat_map arg_bytes xs)) e in
    omega (arith, why.1.above)

-- where a message is said over the form, nothing else is answered
pub only_over : (tables : List Table) (said : Said) (form : Form)
    (answer : Result Message (OrMemory SpokenFault))
    → form_said tables said ≡ Some form
    → IfOk answer (λ m. IsSaidOver form said m)
    → IfErr answer (UnlessMemory (IsUnsaid form said))
    → (m : Message) → IsSpoken tables said m → Gives (λ (x : Message). x) answer (Ok m)
only_over tables said form answer named found fault m h =
    let e : h.form ≡ form = cc (named, h.named) in
    let over : IsSaidOver form said m =
    subst (λ (f : Form). IsSaidOver f said m) e h.over in
    by answer found fault over
  where
    by : (answer : Result Message (OrMemory SpokenFault))
        → IfOk answer (λ m. IsSaidOver form said m)
        → IfErr answer (UnlessMemory (IsUnsaid form said))
        → IsSaidOver form said m → Gives (λ (x : Message). x) answer (Ok m)
    by (Ok x) found fault over = ap (λ (y : Message). Ok y) (one_message form said m x over found)
    by (Err (Fault f)) found fault over = absurd (unsaid form said f m fault over)
    by (Err Memory) found fault over = tt

-- no value is left for an argument, or no argument for a value
pub ends_unfit : (arguments : List Argument) (values : List Value) (args : List Arg) (i : ℕ)
    → length arguments ≤ i → i ≤ length arguments → length arguments < length values
    → AreValues (take i arguments) (take i values) args
    → IsFirstUnfit arguments values (length arguments)
ends_unfit arguments values args i low high more h =
    let e : i ≡ length arguments = omega arith in
    record {
      args = args;
      before = subst (λ (n : ℕ). AreValues (take n arguments) (take n values) args) e h;
      here = past arguments values more;
    }
  where
    past : (arguments : List Argument) (values : List Value) → length arguments < length values
        → ¬ IsFit (slice_get arguments (length arguments)) (slice_get values (length arguments))
    past [] [] more h = omega arith
    past [] (v ∷ values) more h = h
    past (a ∷ arguments) [] more h = omega arith
    past (a ∷ arguments) (v ∷ values) more h = past arguments values (omega arith) h

-- each argument has a value
pub said_at : (arguments : List Argument) (values : List Value) (args : List Arg)
    → AreValues arguments values args
    → (i : ℕ) (argument : Argument) (arg : Arg)
    → slice_get arguments i ≡ Some argument → slice_get args i ≡ Some arg
    → (value : Value) × IsValue argument.items value arg
said_at [] [] [] h i a x e f = let no : ⊥ = cc in absurd no
said_at [] [] (x ∷ xs) h i a y e f = absurd h
said_at [] (v ∷ vs) xs h i a y e f = absurd h
said_at (b ∷ bs) [] xs h i a y e f = absurd h
said_at (b ∷ bs) (v ∷ vs) [] h i a y e f = absurd h
said_at (b ∷ bs) (v ∷ vs) (x ∷ xs) h zero a y e f =
    let p : b ≡ a = cc in
    let q : x ≡ y = cc in (
      v,
      subst (λ (z : Argument). IsValue z.items v y) p
          (subst (λ (z : Arg). IsValue b.items v z) q h.0),
    )
said_at (b ∷ bs) (v ∷ vs) (x ∷ xs) h (suc i) a y e f = said_at bs vs xs h.1 i a y e f

-- there are as many arguments as the form has
pub as_many : (arguments : List Argument) (values : List Value) (args : List Arg)
    → AreValues arguments values args → length args ≡ length arguments
as_many [] [] [] h = refl
as_many [] [] (x ∷ xs) h = absurd h
as_many [] (v ∷ vs) xs h = absurd h
as_many (b ∷ bs) [] xs h = absurd h
as_many (b ∷ bs) (v ∷ vs) [] h = absurd h
as_many (b ∷ bs) (v ∷ vs) (x ∷ xs) h = ap suc (as_many bs vs xs h.1)

-- the value of the next argument
pub heard_more : (arguments : List Argument) (values : List Value) (args : List Arg) (i : ℕ)
    (argument : Argument) (value : Value) (arg : Arg)
    → slice_get arguments i ≡ Some argument
    → slice_get args i ≡ Some arg
    → AreValues (take i arguments) values (take i args)
    → IsValue argument.items value arg
    → AreValues (take (suc i) arguments) (values ++ value ∷ []) (take (suc i) args)
heard_more [] vs xs i a v x e f h g = let no : ⊥ = cc in absurd no
heard_more (b ∷ bs) vs [] i a v x e f h g = let no : ⊥ = cc in absurd no
heard_more (b ∷ bs) [] (y ∷ xs) zero a v x e f h g =
    let p : a ≡ b = cc in
    let q : x ≡ y = cc in (
      subst (λ (z : Argument). IsValue z.items v y) p (subst (λ (z : Arg). IsValue a.items v z) q g),
      tt,
    )
heard_more (b ∷ bs) (w ∷ vs) (y ∷ xs) zero a v x e f h g = absurd h
heard_more (b ∷ bs) [] (y ∷ xs) (suc i) a v x e f h g = absurd h
heard_more (b ∷ bs) (w ∷ vs) (y ∷ xs) (suc i) a v x e f h g =
    (h.0, heard_more bs vs xs i a v x e f h.1 g)

take_arguments : (i : ℕ) (args : List CodeArgument)
    → take i (arguments_of args) ≡ arguments_of (take i args)
take_arguments zero args = refl
take_arguments (suc i) [] = refl
take_arguments (suc i) (a ∷ args) = ap (λ (xs : List Arg). argument_of a ∷ xs) (take_arguments i args)

get_arguments : (i : ℕ) (args : List CodeArgument) (a : CodeArgument) → slice_get args i ≡ Some a
    → slice_get (arguments_of args) i ≡ Some (argument_of a)
get_arguments i [] a e = let no : ⊥ = cc in absurd no
get_arguments zero (b ∷ args) a e =
    let p : b ≡ a = cc in ap (λ (x : CodeArgument). Some (argument_of x)) p
get_arguments (suc i) (b ∷ args) a e = get_arguments i args a e

length-arguments : (args : List CodeArgument) → length (arguments_of args) ≡ length args
length-arguments [] = refl
length-arguments (a ∷ args) = ap suc (length-arguments args)

pub heard_next : (arguments : List Argument) (values : List Value) (args : List CodeArgument) (i : ℕ)
    (argument : Argument) (value : Value) (arg : CodeArgument) (items : Items)
    → i < length arguments → argument ≡ get_or arguments i argument
    → i < length args → arg ≡ get_or args i arg
    → items ≡ argument.items
    → AreValues (take i arguments) values (arguments_of (take i args))
    → IsValue items value (argument_of arg)
    → AreValues (take (i + 1) arguments) (values ++ value ∷ []) (arguments_of (take (i + 1) args))
heard_next arguments values args i argument value arg items l e m f same h g =
    let p : slice_get arguments i ≡ Some argument =
    slice_get-get_or arguments i argument l ∙ ap (λ (x : Argument). Some x) (sym e) in
    let q : slice_get args i ≡ Some arg =
    slice_get-get_or args i arg m ∙ ap (λ (x : CodeArgument). Some x) (sym f) in
    let here : IsValue argument.items value (argument_of arg) =
    subst (λ (x : Items). IsValue x value (argument_of arg)) same g in
    let before : AreValues (take i arguments) values (take i (arguments_of args)) =
    subst (λ (xs : List Arg). AreValues (take i arguments) values xs) (sym (take_arguments i args)) h
    in
    rw add-one
    (subst (λ (xs : List Arg). AreValues (take (suc i) arguments) (values ++ value ∷ []) xs)
    (take_arguments (suc i) args)
    (heard_more arguments values (arguments_of args) i argument value (argument_of arg) p
    (get_arguments i args arg q) before here))

-- an argument without a value leaves the message without words
pub unheard : (arguments : List Argument) (args : List CodeArgument) (i : ℕ)
    (argument : Argument) (arg : CodeArgument) (items : Items)
    → i < length arguments → argument ≡ get_or arguments i argument
    → i < length args → arg ≡ get_or args i arg
    → items ≡ argument.items
    → ((value : Value) → ¬ IsValue items value (argument_of arg))
    → (values : List Value) → ¬ AreValues arguments values (arguments_of args)
unheard arguments args i argument arg items l e m f same none values h =
    let p : slice_get arguments i ≡ Some argument =
    slice_get-get_or arguments i argument l ∙ ap (λ (x : Argument). Some x) (sym e) in
    let q : slice_get args i ≡ Some arg =
    slice_get-get_or args i arg m ∙ ap (λ (x : CodeArgument). Some x) (sym f) in
    let some = said_at arguments values (arguments_of args) h i argument (argument_of arg) p
    (get_arguments i args arg q) in
    none some.0
    (subst (λ (x : Items). IsValue x some.0 (argument_of arg)) (sym same) some.1)

pub other_count : (arguments : List Argument) (args : List CodeArgument)
    → (length args ≡ length arguments → ⊥)
    → (values : List Value) → ¬ AreValues arguments values (arguments_of args)
other_count arguments args other values h =
    other (sym (length-arguments args) ∙ as_many arguments values (arguments_of args) h)

-- what is said is one message
pub says_one : (tables : List Table) (said : Said) (m n : Message)
    → IsSpoken tables said m → IsSpoken tables said n → m ≡ n
says_one tables said m n h g =
    let a = h.named in
    let b = g.named in
    let e : h.form ≡ g.form = cc (a, b) in
    one_message g.form said m n (subst (λ (f : Form). IsSaidOver f said m) e h.over) g.over
