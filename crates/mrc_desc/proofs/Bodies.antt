-- Arguments that are read are those that are spelled there, and the other way round.
use Rattle.std.proofs.Common.{◌≡◌, ℕ, zero, suc, ◌+◌, ◌-◌, ◌*◌, ◌/◌, ◌^◌, ◌<◌, ◌≤◌, true, false}
use Rattle.std.proofs.Common.{ltb, leb, List, [], ◌∷◌, ◌++◌, length, take, drop, Result, Ok, refl}
use Rattle.std.proofs.Common.{sym, ap, subst, ◌∙◌, append_assoc, arith, inl, inr, ◌⊎◌}
use Rattle.std.proofs.Common.{length-append}
use Rattle.std.specs.List.{flat_map, AllByRecursion}
use Rattle.std.proofs.lemmas.Bool.{cases_Bool, ltb-false, le-ltb, lt-ltb, le-leb, lt-leb, eq-eqb}
use Rattle.std.proofs.lemmas.Bool.{and_left, and_from, and_parts, or_left, or_right, leb-true}
use Rattle.std.proofs.lemmas.Bool.{cond-true, cond-false}
use Rattle.std.proofs.lemmas.List.{take-append-drop, drop-drop, length-take-le, length-drop}
use Rattle.std.proofs.lemmas.List.{take_at, drop_at, nil_from_length}
use Rattle.mrc_model.specs.Message.{Arg, Data, Ports, word, descriptor, arg_bytes}
use Rattle.mrc_desc.specs.declared.fault.ReadFault.{ReadFault}
use Rattle.mrc_desc.specs.declared.fault.ReadFault.TheVariants.{Truncated}
use Rattle.mrc_desc.specs.declared.argument.Desc.{Desc}
use Rattle.mrc_base.specs.Disposition.{is_port_number}
use Rattle.mrc_base.specs.Reading.{◌>>=◌}
use Rattle.mrc_base.proofs.Steps.{bind_ok, not_stopped, ok_is}
use Rattle.mrc_desc.specs.Descriptor.{is_lawful_desc, data_len, padding_len}
use Rattle.mrc_desc.specs.Lawful.{IsLawfulArg, IsLawfulData, IsLawfulPorts}
use Rattle.mrc_desc.specs.View.{desc_of}
use Rattle.mrc_desc.specs.Spelling.{SpellsDesc, SpellsArg, SpellsArgs}
use Rattle.mrc_desc.specs.Reading.{words, arg_with, desc_at, data_at, arg_at, args_at}
use Rattle.mrc_desc.proofs.Words.{IsBytes, IsBytes-drop, IsBytes-take, words_back, words_again}
use Rattle.mrc_desc.proofs.Words.{length-words}
use Rattle.mrc_desc.proofs.Steps.{bind_again}
use Rattle.mrc_desc.proofs.Descriptors.{length-descriptor, length-arg_bytes, lawful_facts}
use Rattle.mrc_desc.proofs.Descriptors.{TakesDesc, desc_takes, desc_spelled}

-- ---- what is read is spelled there

-- what an argument at the front is, when it is read
pub record TakesArg (bytes : List ℕ) (a : Arg) (rest : List ℕ) : Type 0 where
  pub front : List ℕ
  pub lawful : IsLawfulArg a
  pub spelled : SpellsArg front a
  pub parts : bytes ≡ front ++ rest
  pub rest_fits : IsBytes rest
  pub long_enough : length (arg_bytes a) ≤ length front

abbrev length-of : ℕ → ℕ → ℕ → ℕ
length-of name size number = length (descriptor name size number)

data_taken : (bytes : List ℕ) (desc : Desc) (middle items padding rest : List ℕ)
    → TakesDesc bytes desc middle → is_port_number desc.name ≡ false
    → length items ≡ data_len desc → length padding ≡ padding_len (data_len desc) → IsBytes rest
    → middle ≡ items ++ (padding ++ rest)
    → TakesArg bytes (Data desc.name desc.size desc.number items) rest
data_taken bytes desc middle items padding rest t is_data len pad fits split =
    let facts = lawful_facts desc t.lawful in
    let lawful : IsLawfulData desc.name desc.size desc.number items = record {
      data_name = facts.data_name is_data;
      some_bits = facts.some_bits;
      whole_bytes = facts.whole_bytes;
      size_fits = t.size_fits;
      number_fits = t.number_fits;
      all_items = len;
    } in
    record {
      front = t.front ++ items ++ padding;
      lawful = lawful;
      spelled = record {
        desc = t.front;
        padding = padding;
        desc_spelled = t.spelled;
        padded = pad
            ∙ ap padding_len (sym len);
        layout = refl;
      };
      parts = t.parts ∙ ap (λ (x : List ℕ). t.front ++ x) split
          ∙ sym (append_assoc t.front items (padding ++ rest))
          ∙ sym (append_assoc (t.front ++ items) padding rest);
      rest_fits = fits;
      long_enough =
          omega (
            arith,
            length-arg_bytes (Data desc.name desc.size desc.number items) lawful,
            length-descriptor desc.name desc.size desc.number,
            t.long_enough,
            length-append
                (t.front ++ items) padding,
            length-append t.front items,
            len,
            pad,
          );
    }

ports_taken : (bytes : List ℕ) (desc : Desc) (middle items padding rest : List ℕ)
    → TakesDesc bytes desc middle → is_port_number desc.name ≡ true
    → length items ≡ data_len desc → length padding ≡ padding_len (data_len desc) → IsBytes items
    → IsBytes rest → middle ≡ items ++ (padding ++ rest)
    → TakesArg bytes (Ports desc.name (words items)) rest
ports_taken bytes desc middle items padding rest t is_port len pad items_fit fits split =
    let facts = lawful_facts desc t.lawful in
    let size : desc.size ≡ 32 = facts.port_size is_port in
    let least : 16 ≤ desc.name =
    leb-true _ _ (and_parts (leb 16 desc.name) (leb desc.name 21) is_port).0 in
    let words_len : data_len desc ≡ desc.number * 32 / 8 =
    ap (λ (s : ℕ). desc.number * s / 8) size in
    let names = words_back items desc.number (omega (arith, len, words_len)) items_fit in
    let none : padding ≡ [] =
    nil_from_length padding (omega (arith, pad, ap padding_len words_len)) in
    let spelled : SpellsDesc t.front desc.name 32 (length (words items)) =
    subst (λ (n : ℕ). SpellsDesc t.front desc.name 32 n) (sym names.1)
    (subst (λ (s : ℕ). SpellsDesc t.front desc.name s desc.number) size t.spelled) in
    let lawful : IsLawfulPorts desc.name (words items) = record {
      least = least;
      most = facts.known_name;
      number_fits = subst (λ (n : ℕ). n < 2 ^ 32) (sym names.1) t.number_fits;
      names_fit = names.2;
    } in
    let same_len : length-of desc.name desc.size desc.number ≡ length-of desc.name 32
    (length (words items)) =
    ap (λ (s : ℕ). length-of desc.name s desc.number) size
    ∙ ap (length-of desc.name 32) (sym names.1) in
    record {
      front = t.front ++ items;
      lawful = lawful;
      spelled = record {
        desc = t.front;
        desc_spelled = spelled;
        layout = ap (λ (x : List ℕ). t.front ++ x)
            names.0;
      };
      parts = t.parts
          ∙ ap (λ (x : List ℕ). t.front ++ x) (split
          ∙ ap (λ (x : List ℕ). items ++ (x ++ rest)) none) ∙ sym (append_assoc t.front items rest);
      rest_fits = fits;
      long_enough =
          omega (
            arith,
            length-append (descriptor desc.name 32 (length (words items)))
                (flat_map word (words items)),
            length-words (words items),
            same_len,
            t.long_enough,
            length-append t.front items,
            len,
            words_len,
            names.1,
          );
    }

with_taken : (bytes : List ℕ) (desc : Desc) (middle items padding rest : List ℕ)
    → TakesDesc bytes desc middle
    → length items ≡ data_len desc → length padding ≡ padding_len (data_len desc) → IsBytes items
    → IsBytes rest → middle ≡ items ++ (padding ++ rest)
    → TakesArg bytes (arg_with desc items) rest
with_taken bytes desc middle items padding rest t len pad items_fit fits split =
    elim (cases_Bool (is_port_number desc.name)) [
      | inl is_port ↦ subst (λ (a : Arg). TakesArg bytes a rest)
          (sym (cond-true (is_port_number desc.name) _ _ is_port))
          (ports_taken bytes desc middle items padding rest t is_port len pad items_fit fits split)
      | inr is_data ↦ subst (λ (a : Arg). TakesArg bytes a rest)
          (sym (cond-false (is_port_number desc.name) _ _ is_data))
          (data_taken bytes desc middle items padding rest t is_data len pad fits split)
    ]

-- data, padding and what follows
split3 : (a b : ℕ) (bytes : List ℕ)
    → bytes ≡ take a bytes ++ (take b (drop a bytes) ++ drop (a + b) bytes)
split3 a b bytes =
    sym (take-append-drop a bytes)
    ∙ ap (λ (x : List ℕ). take a bytes ++ x) (sym (take-append-drop b (drop a bytes))
    ∙ ap (λ (x : List ℕ). take b (drop a bytes) ++ x) (drop-drop b a bytes))

pub arg_takes : (at : ℕ) (bytes : List ℕ) (a : Arg) (rest : List ℕ) → IsBytes bytes
    → arg_at at bytes ≡ Ok (a, rest) → TakesArg bytes a rest
unfolding arg_at data_at
arg_takes at bytes a rest fits e =
    let d = bind_ok (desc_at at bytes) (λ x. data_at at x.0 x.1) (a, rest) e in
    let desc = d.0.0 in
    let middle = d.0.1 in
    let t = desc_takes at bytes desc middle fits d.1 in
    let len = data_len desc in
    let pad = padding_len len in
    let g = not_stopped (ltb (length middle) (data_len desc + padding_len (data_len desc)))
    (Truncated at) _ (a, rest) d.2 in
    let enough : data_len desc + padding_len (data_len desc) ≤ length middle = ltb-false _ _ g.0 in
    let end : ◌≡◌ {A = Arg × List ℕ} (arg_with desc (take len middle), drop (len + pad) middle)
    (a, rest) = ok_is (arg_with desc (take len middle), drop (len + pad) middle) (a, rest)
    g.1 in
    subst (λ (x : Arg × List ℕ). TakesArg bytes x.0 x.1) end
    (with_taken bytes desc middle (take len middle) (take pad (drop len middle))
    (drop (len + pad) middle) t
    (length-take-le len middle (omega arith))
    (length-take-le pad (drop len middle) (omega (arith, length-drop len middle)))
    (IsBytes-take len middle t.rest_fits) (IsBytes-drop (len + pad) middle t.rest_fits)
    (split3 len pad middle))

-- the arguments that are read are spelled there, they are lawful, and they are written in no more
-- bytes
pub record TakesArgs (bytes : List ℕ) (args : List Arg) : Type 0 where
  pub spelled : SpellsArgs bytes args
  pub lawful : AllByRecursion IsLawfulArg args
  pub long_enough : length (flat_map arg_bytes args) ≤ length bytes

pub args_take : (total steps : ℕ) (bytes : List ℕ) (args : List Arg) → IsBytes bytes
    → args_at total steps bytes ≡ Ok args → TakesArgs bytes args
unfolding args_at
args_take total zero [] args fits e = subst (λ (x : List Arg). TakesArgs [] x) (ok_is [] args e)
    (record { spelled = refl; lawful = tt; long_enough = omega arith })
args_take total (suc steps) [] args fits e = subst (λ (x : List Arg). TakesArgs [] x)
    (ok_is [] args e) (record { spelled = refl; lawful = tt; long_enough = omega arith })
args_take total zero (b ∷ bytes) args fits e = absurd cc
args_take total (suc steps) (b ∷ bytes) args fits e =
    let first = bind_ok (arg_at (total - length (b ∷ bytes)) (b ∷ bytes))
    (λ a. args_at total steps a.1 >>= λ more. Ok (a.0 ∷ more)) args e in
    let more = bind_ok (args_at total steps first.0.1) (λ more. Ok (first.0.0 ∷ more)) args
    first.2 in
    let t = arg_takes (total - length (b ∷ bytes)) (b ∷ bytes) first.0.0 first.0.1 fits first.1 in
    let ts = args_take total steps first.0.1 more.0 t.rest_fits more.1 in
    subst (λ (x : List Arg). TakesArgs (b ∷ bytes) x) (ok_is (first.0.0 ∷ more.0) args more.2)
    (record {
      spelled = (t.front, first.0.1, t.lawful, t.spelled, ts.spelled, t.parts);
      lawful = (t.lawful, ts.lawful);
      long_enough =
          omega (
            arith,
            length-append (arg_bytes first.0.0) (flat_map arg_bytes more.0),
            t.long_enough,
            ts.long_enough,
            ap length t.parts,
            length-append t.front first.0.1,
          );
    })

-- ---- what is spelled there is read

abbrev read_pair : Arg → List ℕ → Result (Arg × List ℕ) ReadFault
read_pair a rest = Ok (a, rest)

same_pair : {a b : Arg} {xs ys : List ℕ} → a ≡ b → xs ≡ ys → read_pair a xs ≡ read_pair b ys
same_pair {a} {b} {xs} {ys} e f = ap (λ (x : Arg). read_pair x xs) e ∙ ap (read_pair b) f

data_again : (at : ℕ) (desc : Desc) (items padding rest : List ℕ) → length items ≡ data_len desc
    → length padding ≡ padding_len (data_len desc)
    → data_at at desc (items ++ (padding ++ rest)) ≡ Ok (arg_with desc items, rest)
unfolding data_at
data_again at desc items padding rest len pad =
    let middle = items ++ (padding ++ rest) in
    let total : data_len desc + padding_len (data_len desc) ≤ length (items ++ (padding ++ rest)) =
    omega (
      arith,
      len,
      pad,
      length-append items (padding ++ rest),
      length-append padding
          rest,
    ) in
    let front : length (items ++ padding) ≡ data_len desc + padding_len (data_len desc) =
    omega (arith, len, pad, length-append items padding) in
    let after : drop (data_len desc + padding_len (data_len desc)) (items ++ (padding ++ rest))
    ≡ rest =
    ap (drop (data_len desc + padding_len (data_len desc))) (sym (append_assoc items padding rest))
    ∙ drop_at (items ++ padding) rest _ front in
    cond-false (ltb (length middle) (data_len desc + padding_len (data_len desc))) _ _
    (le-ltb _ _ total)
    ∙ same_pair (ap (arg_with desc) (take_at items (padding ++ rest) (data_len desc) len)) after

-- the descriptor of a lawful argument is lawful
lawful_desc : (a : Arg) → IsLawfulArg a → is_lawful_desc (desc_of a) ≡ true
lawful_desc (Data name size number bytes) h =
    and_from _ _ (and_from _ _ (lt-ltb _ _ h.some_bits) (eq-eqb _ _ h.whole_bytes))
    (or_left _ _ (lt-ltb _ _ h.data_name))
lawful_desc (Ports name names) h = or_right (ltb name 16) _ (and_from _ _ (le-leb _ _ h.most) refl)

pub arg_again : (at : ℕ) (a : Arg) (front rest : List ℕ) → IsLawfulArg a → SpellsArg front a
    → arg_at at (front ++ rest) ≡ Ok (a, rest)
unfolding arg_at
arg_again at (Data name size number items) front rest l h =
    let desc = desc_of (Data name size number items) in
    let is_data : is_port_number name ≡ false = and_left (leb 16 name) (leb name 21)
    (lt-leb _ _ l.data_name) in
    let regrouped : front ++ rest ≡ h.desc ++ (items ++ (h.padding ++ rest)) =
    ap (λ (x : List ℕ). x ++ rest) h.layout ∙ append_assoc (h.desc ++ items) h.padding rest
    ∙ append_assoc h.desc items (h.padding ++ rest) in
    ap (arg_at at) regrouped
    ∙ bind_again (desc_at at (h.desc ++ (items ++ (h.padding ++ rest)))) (λ x. data_at at x.0 x.1)
    (desc, items ++ (h.padding ++ rest))
    (desc_spelled at h.desc desc (items ++ (h.padding ++ rest)) h.desc_spelled
    (lawful_desc (Data name size number items) l) l.size_fits l.number_fits)
    ∙ data_again at desc items h.padding rest l.all_items (h.padded ∙ ap padding_len l.all_items)
    ∙ ap (λ (x : Arg). Ok (x, rest)) (cond-false (is_port_number name) _ _ is_data)
arg_again at (Ports name names) front rest l h =
    let desc = desc_of (Ports name names) in
    let items = flat_map word names in
    let is_port : is_port_number name ≡ true = and_from _ _ (le-leb _ _ l.least)
    (le-leb _ _ l.most) in
    let len : length (flat_map word names) ≡ data_len (desc_of (Ports name names)) =
    omega (arith, length-words names) in
    let pad : 0 ≡ padding_len (data_len (desc_of (Ports name names))) = omega arith in
    let regrouped : front ++ rest ≡ h.desc ++ (items ++ rest) =
    ap (λ (x : List ℕ). x ++ rest) h.layout ∙ append_assoc h.desc items rest in
    ap (arg_at at) regrouped
    ∙ bind_again (desc_at at (h.desc ++ (items ++ rest))) (λ x. data_at at x.0 x.1)
    (desc, items ++ rest)
    (desc_spelled at h.desc desc (items ++ rest) h.desc_spelled
    (lawful_desc (Ports name names) l) (omega arith) l.number_fits)
    ∙ data_again at desc items [] rest len pad
    ∙ ap (λ (x : Arg). Ok (x, rest)) (cond-true (is_port_number name) _ _ is_port
    ∙ ap (Ports name) (words_again names l.names_fit))

-- an argument has some bytes
desc_some : (front : List ℕ) (name size number : ℕ) → SpellsDesc front name size number
    → 0 < length front
desc_some front name size number (inl h) = omega (arith, ap length h.layout)
desc_some front name size number (inr h) = omega (arith, ap length h.layout)

arg_some : (a : Arg) (front : List ℕ) → SpellsArg front a → 0 < length front
arg_some (Data name size number items) front h =
    omega (
      arith,
      desc_some h.desc name size number h.desc_spelled,
      ap length h.layout,
      length-append (h.desc ++ items) h.padding,
      length-append h.desc items,
    )
arg_some (Ports name names) front h =
    omega (
      arith,
      desc_some h.desc name 32 (length names) h.desc_spelled,
      ap length h.layout,
      length-append h.desc (flat_map word names),
    )

args_step : (total steps : ℕ) (bytes : List ℕ) (a : Arg) (rest : List ℕ) (args : List Arg)
    → 0 < length bytes → arg_at (total - length bytes) bytes ≡ Ok (a, rest)
    → args_at total steps rest ≡ Ok args
    → args_at total (suc steps) bytes ≡ Ok (a ∷ args)
unfolding args_at
args_step total steps [] a rest args some first more = absurd (omega arith)
args_step total steps (b ∷ bytes) a rest args some first more =
    bind_again (arg_at (total - length (b ∷ bytes)) (b ∷ bytes)) (λ x. args_at total steps x.1
    >>= λ xs. Ok (x.0 ∷ xs)) (a, rest) first
    ∙ bind_again (args_at total steps rest) (λ xs. Ok (a ∷ xs)) args more

args_none : (total steps : ℕ) → args_at total steps [] ≡ Ok []
unfolding args_at
args_none total zero = refl
args_none total (suc steps) = refl

pub args_again : (total steps : ℕ) (bytes : List ℕ) (args : List Arg) → SpellsArgs bytes args
    → length bytes ≤ steps → args_at total steps bytes ≡ Ok args
args_again total steps bytes [] h enough = ap (args_at total steps) h ∙ args_none total steps
args_again total steps bytes (a ∷ args) (front, rest, lawful, spelled, more, parts) enough =
    let some = arg_some a front spelled in
    let len : length bytes ≡ length front + length rest = ap length parts
    ∙ length-append front rest in
    let first : arg_at (total - length bytes) bytes ≡ Ok (a, rest) =
    ap (arg_at (total - length bytes)) parts
    ∙ arg_again (total - length bytes) a front rest lawful spelled in
    elim (cases_suc steps) [
      | inl none ↦ absurd (omega arith)
      | inr (k, is) ↦ ap (λ (n : ℕ). args_at total n bytes) is
          ∙ args_step total k bytes a rest args (omega arith) first
          (args_again total k rest args more (omega arith))
    ]
  where
    cases_suc : (n : ℕ) → (n ≡ 0) ⊎ ((k : ℕ) × (n ≡ suc k))
    cases_suc zero = inl refl
    cases_suc (suc k) = inr (k, refl)
