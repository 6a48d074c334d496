-- A descriptor that is read is one that is spelled there, and the other way round.
use Rattle.std.proofs.Common.{◌≡◌, ℕ, ◌+◌, ◌*◌, ◌/◌, ◌%◌, ◌^◌, ◌<◌, ◌≤◌, Bool, true, false, cond}
use Rattle.std.proofs.Common.{not, ◌||◌, ◌&&◌, eqb, ltb, leb, List, ◌++◌, length, drop, replicate}
use Rattle.std.proofs.Common.{Ok, refl, sym, ap, subst, ◌∙◌, arith, inl, inr, ◌⊎◌, length-append}
use Rattle.std.specs.List.{flat_map}
use Rattle.std.proofs.lemmas.Bool.{both_ways, cases_lt, ltb-false, le-leb, le-ltb, eqb-true}
use Rattle.std.proofs.lemmas.Bool.{eqb-false, leb-true, ltb-true, and_parts, and_from, or_parts}
use Rattle.std.proofs.lemmas.Bool.{or_cases, or_from, not-false, not-true, not_from_true}
use Rattle.std.proofs.lemmas.Bool.{not_from_false, cond-true, cond-false}
use Rattle.std.proofs.lemmas.List.{length-replicate, length-drop, drop-drop}
use Rattle.mrc_model.specs.Message.{Arg, Data, Ports, word, half, padded, descriptor, arg_bytes}
use Rattle.mrc_desc.specs.declared.fault.ReadFault.TheVariants.{BadDesc, OutOfLine, Truncated}
use Rattle.mrc_desc.specs.declared.argument.Desc.{Desc}
use Rattle.mrc_desc.specs.declared.argument.FirstWord.{FirstWord}
use Rattle.mrc_base.specs.Disposition.{is_port_number}
use Rattle.mrc_base.specs.Reading.{◌>>=◌}
use Rattle.mrc_base.proofs.Steps.{bind_ok, not_stopped, ok_is}
use Rattle.mrc_desc.specs.Descriptor.{is_short, is_lawful_desc, data_len, padding_len, half_at}
use Rattle.mrc_desc.specs.Descriptor.{word_at, first_word}
use Rattle.mrc_desc.specs.Lawful.{IsLawfulArg}
use Rattle.mrc_desc.specs.View.{desc_of}
use Rattle.mrc_desc.specs.Spelling.{SpellsShort, SpellsLong, SpellsDesc}
use Rattle.mrc_desc.specs.Reading.{judged, short_desc, long_desc, said_at, desc_at}
use Rattle.mrc_desc.proofs.Words.{IsBytes, IsBytes-drop, word_back, half_back, word_again}
use Rattle.mrc_desc.proofs.Words.{half_again, word_fits, half_fits, length-words}
use Rattle.mrc_desc.proofs.Steps.{bind_again, chosen, first_same}

-- ---- how long they are

abbrev as_desc : (name size number : ℕ) → Desc
as_desc name size number = record { name = name; size = size; number = number }

pub length-descriptor : (name size number : ℕ)
    → length (descriptor name size number) ≡ cond (is_short (as_desc name size number)) 4 12
length-descriptor name size number = by_form (is_short (as_desc name size number))
    (word (name + 256 * size + 65536 * number + 2 ^ 28)) (word (2 ^ 28 + 2 ^ 29) ++ half name
    ++ half size ++ word number) refl refl
  where
    by_form : (b : Bool) (short long : List ℕ) → length short ≡ 4 → length long ≡ 12
        → length (cond b short long) ≡ cond b 4 12
    by_form true short long s l = s
    by_form false short long s l = l

pub length-arg_bytes : (a : Arg) → IsLawfulArg a
    → length (arg_bytes a) ≡ cond (is_short (desc_of a)) 4 12 + data_len (desc_of a) + padding_len
    (data_len (desc_of a))
length-arg_bytes (Data name size number bytes) h =
    let pad = padding_len (length bytes) in
    omega (
      arith,
      length-append (descriptor name size number) (padded bytes),
      length-append bytes
          (replicate pad 0),
      length-replicate {A = ℕ} pad 0,
      length-descriptor name size number,
      h.all_items,
      ap padding_len h.all_items,
    )
length-arg_bytes (Ports name names) h =
    omega (
      arith,
      length-append (descriptor name 32 (length names)) (flat_map word names),
      length-words names,
      length-descriptor name 32 (length names),
    )

-- from what code counts
pub sized : (desc : Desc) (a : Arg)
    → IsLawfulArg a
    → desc_of a ≡ desc
    → (len form pad : ℕ)
    → len ≡ data_len desc
    → form ≡ cond (is_short desc) 4 12
    → pad ≡ padding_len len
    → form + len + pad ≡ length (arg_bytes a)
sized desc a lawful is len form pad l f p =
    rw (f, p, l, sym is) (sym (length-arg_bytes a lawful))

-- ---- the first word

-- a word of the short form is the sum of its parts
short_word : (w : ℕ) → w < 2 ^ 32 → (first_word w).inline ≡ true → (first_word w).longform ≡ false
    → (first_word w).deallocate ≡ false → (first_word w).unused ≡ false
    → w ≡ w % 256 + 256 * (w / 256 % 256) + 65536 * (w / 65536 % 4096) + 2 ^ 28
short_word w fits inline longform deallocate unused =
    let a : w / 2 ^ 28 % 2 ≡ 1 = eqb-true _ _ inline in
    let b : w / 2 ^ 29 % 2 ≡ 1 → ⊥ = eqb-false _ _ longform in
    let c : w / 2 ^ 30 % 2 ≡ 1 → ⊥ = eqb-false _ _ deallocate in
    let d : w / 2 ^ 31 % 2 ≡ 1 → ⊥ = eqb-false _ _ unused in
    omega arith

-- a word of the long form is what is ignored, and two bits
long_word : (w : ℕ) → w < 2 ^ 32 → (first_word w).inline ≡ true → (first_word w).longform ≡ true
    → (first_word w).deallocate ≡ false → (first_word w).unused ≡ false
    → w ≡ w % 2 ^ 28 + 2 ^ 28 + 2 ^ 29
long_word w fits inline longform deallocate unused =
    let a : w / 2 ^ 28 % 2 ≡ 1 = eqb-true _ _ inline in
    let b : w / 2 ^ 29 % 2 ≡ 1 = eqb-true _ _ longform in
    let c : w / 2 ^ 30 % 2 ≡ 1 → ⊥ = eqb-false _ _ deallocate in
    let d : w / 2 ^ 31 % 2 ≡ 1 → ⊥ = eqb-false _ _ unused in
    omega arith

-- the parts of such a word
short_parts : (name size number : ℕ) → name < 256 → size < 256 → number < 4096
    → first_word (name + 256 * size + 65536 * number + 2 ^ 28)
    ≡ record {
      name = name;
      size = size;
      number = number;
      inline = true;
      longform = false;
      deallocate = false;
      unused = false;
    }
short_parts name size number k s n =
    let w = name + 256 * size + 65536 * number + 2 ^ 28 in
    let e0 : (name + 256 * size + 65536 * number + 2 ^ 28) % 256 ≡ name = omega arith in
    let e1 : (name + 256 * size + 65536 * number + 2 ^ 28) / 256 % 256 ≡ size = omega arith in
    let e2 : (name + 256 * size + 65536 * number + 2 ^ 28) / 65536 % 4096 ≡ number = omega arith in
    let e3 : (name + 256 * size + 65536 * number + 2 ^ 28) / 2 ^ 28 % 2 ≡ 1 = omega arith in
    let e4 : (name + 256 * size + 65536 * number + 2 ^ 28) / 2 ^ 29 % 2 ≡ 0 = omega arith in
    let e5 : (name + 256 * size + 65536 * number + 2 ^ 28) / 2 ^ 30 % 2 ≡ 0 = omega arith in
    let e6 : (name + 256 * size + 65536 * number + 2 ^ 28) / 2 ^ 31 % 2 ≡ 0 = omega arith in
    rw (e0, e1, e2, e3, e4, e5, e6) refl

long_bits : (ignored : ℕ) → ignored < 2 ^ 28
    → (first_word (ignored + 2 ^ 28 + 2 ^ 29)).inline ≡ true
    × (first_word (ignored + 2 ^ 28 + 2 ^ 29)).longform ≡ true
    × (first_word (ignored + 2 ^ 28 + 2 ^ 29)).deallocate ≡ false
    × (first_word (ignored + 2 ^ 28 + 2 ^ 29)).unused ≡ false
long_bits ignored h =
    let e3 : (ignored + 2 ^ 28 + 2 ^ 29) / 2 ^ 28 % 2 ≡ 1 = omega arith in
    let e4 : (ignored + 2 ^ 28 + 2 ^ 29) / 2 ^ 29 % 2 ≡ 1 = omega arith in
    let e5 : (ignored + 2 ^ 28 + 2 ^ 29) / 2 ^ 30 % 2 ≡ 0 = omega arith in
    let e6 : (ignored + 2 ^ 28 + 2 ^ 29) / 2 ^ 31 % 2 ≡ 0 = omega arith in
    (ap (λ n. eqb n 1) e3, ap (λ n. eqb n 1) e4, ap (λ n. eqb n 1) e5, ap (λ n. eqb n 1) e6)

-- ---- the steps of reading a descriptor

-- what was judged lawful
record Judged (first : FirstWord) (desc : Desc) : Type 0 where
  deallocate : first.deallocate ≡ false
  unused : first.unused ≡ false
  lawful : is_lawful_desc desc ≡ true
  inline : first.inline ≡ true

judged_ok : (at : ℕ) (first : FirstWord) (desc d : Desc) → judged at first desc ≡ Ok d
    → Judged first desc × (desc ≡ d)
unfolding judged
judged_ok at first desc d e =
    let a = not_stopped ((first.deallocate || first.unused) || not (is_lawful_desc desc))
    (BadDesc at) _ d e in
    let b = not_stopped (not first.inline) (OutOfLine at) _ d a.1 in
    let bits = or_parts (first.deallocate || first.unused) (not (is_lawful_desc desc)) a.0 in
    let two = or_parts first.deallocate first.unused bits.0 in (
      record {
        deallocate = two.0;
        unused = two.1;
        lawful = not-false _ bits.1;
        inline = not-false _
            b.0;
      },
      ok_is desc d b.1,
    )

judged_again : (at : ℕ) (first : FirstWord) (desc : Desc) → Judged first desc
    → judged at first desc ≡ Ok desc
unfolding judged
judged_again at first desc h =
    cond-false ((first.deallocate || first.unused) || not (is_lawful_desc desc)) _ _
    (or_from _ _ (or_from _ _ h.deallocate h.unused) (not_from_true _ h.lawful))
    ∙ cond-false (not first.inline) _ _ (not_from_true _ h.inline)

said_short : (at : ℕ) (first : FirstWord) (bytes : List ℕ) → first.longform ≡ false
    → said_at at first bytes ≡ Ok (short_desc first, drop 4 bytes)
unfolding said_at
said_short at first bytes h = cond-true (not first.longform) _ _ (not_from_false _ h)

said_long : (at : ℕ) (first : FirstWord) (bytes : List ℕ) → first.longform ≡ true
    → 12 ≤ length bytes → said_at at first bytes ≡ Ok (long_desc bytes, drop 12 bytes)
unfolding said_at
said_long at first bytes h enough =
    cond-false (not first.longform) _ _ (not_from_true _ h)
    ∙ cond-false (ltb (length bytes) 12) _ _ (le-ltb _ _ enough)

said_ok : (at : ℕ) (first : FirstWord) (bytes : List ℕ) (x : Desc × List ℕ)
    → said_at at first bytes ≡ Ok x
    → ((first.longform ≡ false) × ((short_desc first, drop 4 bytes) ≡ x))
    ⊎ ((first.longform ≡ true) × (12 ≤ length bytes) × ((long_desc bytes, drop 12 bytes) ≡ x))
unfolding said_at
said_ok at first bytes x e =
    elim (chosen (not first.longform) _ _ _ e) [
      | inl h ↦ inl (not-true _ h.0, ok_is (short_desc first, drop 4 bytes) x h.1)
      | inr h ↦ let g = not_stopped (ltb (length bytes) 12) (Truncated at) _ x h.1 in
          inr (not-false _ h.0, ltb-false _ _ g.0, ok_is (long_desc bytes, drop 12 bytes) x g.1)
    ]

desc_again : (at : ℕ) (bytes : List ℕ) (first : FirstWord) (desc : Desc) (rest : List ℕ)
    → 4 ≤ length bytes → first_word (word_at bytes) ≡ first
    → said_at at first bytes ≡ Ok (desc, rest) → Judged first desc
    → desc_at at bytes ≡ Ok (desc, rest)
unfolding desc_at
desc_again at bytes first desc rest enough is said fine =
    cond-false (ltb (length bytes) 4) _ _ (le-ltb _ _ enough)
    ∙ ap (λ (f : FirstWord). said_at at f bytes >>= λ said. judged at f said.0
    >>= λ desc. Ok (desc, said.1)) is
    ∙ bind_again (said_at at first bytes) (λ said. judged at first said.0
    >>= λ desc. Ok (desc, said.1)) (desc, rest) said
    ∙ bind_again (judged at first desc) (λ desc. Ok (desc, rest)) desc
    (judged_again at first desc fine)

-- ---- both directions

-- what a descriptor at the front is, when it is read
pub record TakesDesc (bytes : List ℕ) (desc : Desc) (rest : List ℕ) : Type 0 where
  pub front : List ℕ
  pub spelled : SpellsDesc front desc.name desc.size desc.number
  pub parts : bytes ≡ front ++ rest
  pub rest_fits : IsBytes rest
  pub lawful : is_lawful_desc desc ≡ true
  pub size_fits : desc.size < 2 ^ 16
  pub number_fits : desc.number < 2 ^ 32
  pub long_enough : length (descriptor desc.name desc.size desc.number) ≤ length front

-- what a lawful descriptor says
pub record LawfulFacts (desc : Desc) : Type 0 where
  pub some_bits : 0 < desc.size
  pub whole_bytes : desc.size % 8 ≡ 0
  pub known_name : desc.name ≤ 21
  pub port_size : is_port_number desc.name ≡ true → desc.size ≡ 32
  pub data_name : is_port_number desc.name ≡ false → desc.name < 16

pub lawful_facts : (desc : Desc) → is_lawful_desc desc ≡ true → LawfulFacts desc
lawful_facts desc h =
    let parts = and_parts (ltb 0 desc.size && eqb (desc.size % 8) 0) _ h in
    let size = and_parts (ltb 0 desc.size) (eqb (desc.size % 8) 0) parts.0 in
    let name : (desc.name < 16) ⊎ ((desc.name ≤ 21) × (desc.size ≡ 32)) =
    elim (or_cases (ltb desc.name 16) _ parts.1) [
      | inl l ↦ inl (ltb-true _ _ l)
      | inr r ↦ let two = and_parts (leb desc.name 21) (eqb desc.size 32) r in
          inr (leb-true _ _ two.0, eqb-true _ _ two.1)
    ] in
    record {
      some_bits = ltb-true _ _ size.0;
      whole_bytes = eqb-true _ _ size.1;
      known_name = elim name [ inl l ↦ omega arith | inr r ↦ r.0 ];
      port_size = λ port. let two = and_parts (leb 16 desc.name) (leb desc.name 21) port in
          let least : 16 ≤ desc.name = leb-true _ _ two.0 in
          elim name [ inl l ↦ absurd (omega arith) | inr r ↦ r.1 ];
      data_name = λ no. elim name [
        | inl l ↦ l
        | inr r ↦ elim (cases_lt desc.name 16) [
          | inl l ↦ l
          | inr most ↦ absurd
              (both_ways _ no (and_from _ _ (le-leb _ _ most) (le-leb _ _ r.0)))
        ]
      ];
    }

same_desc : {a b c : ℕ} {desc : Desc} → a ≡ desc.name → b ≡ desc.size → c ≡ desc.number
    → as_desc a b c ≡ desc
same_desc {a} {b} {c} {desc} x y z =
    ap (λ (n : ℕ). as_desc n b c) x ∙ ap (λ (n : ℕ). as_desc desc.name n c) y
    ∙ ap (λ (n : ℕ). as_desc desc.name desc.size n) z

cond_le : (b : Bool) → cond b 4 12 ≤ 12
cond_le true = omega arith
cond_le false = omega arith

short_taken : (bytes : List ℕ) → 4 ≤ length bytes → IsBytes bytes
    → (first_word (word_at bytes)).longform ≡ false
    → Judged (first_word (word_at bytes)) (short_desc (first_word (word_at bytes)))
    → TakesDesc bytes (short_desc (first_word (word_at bytes))) (drop 4 bytes)
short_taken bytes enough fits longform fine =
    let w = word_at bytes in
    let is : w ≡ w % 256 + 256 * (w / 256 % 256) + 65536 * (w / 65536 % 4096) + 2 ^ 28 =
    short_word w (word_fits bytes fits) fine.inline longform fine.deallocate fine.unused in
    let name : w % 256 ≤ 255 = omega arith in
    let size : w / 256 % 256 ≤ 255 = omega arith in
    let number : w / 65536 % 4096 ≤ 4095 = omega arith in
    let short : is_short (short_desc (first_word w)) ≡ true =
    and_from _ _ (le-leb _ _ name) (and_from _ _ (le-leb _ _ size) (le-leb _ _ number)) in
    record {
      front = word w;
      spelled = inl
          (record { size_fits = omega arith; number_fits = omega arith; layout = ap word is });
      parts = word_back bytes enough fits;
      rest_fits = IsBytes-drop 4 bytes fits;
      lawful = fine.lawful;
      size_fits = omega arith;
      number_fits = omega arith;
      long_enough = omega (
        arith,
        length-descriptor (w % 256) (w / 256 % 256) (w / 65536 % 4096)
            ∙ cond-true _ 4 12 short,
      );
    }

long_taken : (bytes : List ℕ) → 12 ≤ length bytes → IsBytes bytes
    → (first_word (word_at bytes)).longform ≡ true
    → Judged (first_word (word_at bytes)) (long_desc bytes)
    → TakesDesc bytes (long_desc bytes) (drop 12 bytes)
long_taken bytes enough fits longform fine =
    let w = word_at bytes in
    let name = half_at (drop 4 bytes) in
    let size = half_at (drop 6 bytes) in
    let number = word_at (drop 8 bytes) in
    let is : w ≡ w % 2 ^ 28 + 2 ^ 28 + 2 ^ 29 = long_word w (word_fits bytes fits) fine.inline
    longform fine.deallocate fine.unused in
    let a : bytes ≡ word w ++ drop 4 bytes = word_back bytes (omega arith) fits in
    let b : drop 4 bytes ≡ half name
    ++ drop 6 bytes = half_back (drop 4 bytes) (omega (arith, length-drop 4 bytes))
    (IsBytes-drop 4 bytes fits) ∙ ap (λ (x : List ℕ). half name ++ x) (drop-drop 2 4 bytes) in
    let c : drop 6 bytes ≡ half size
    ++ drop 8 bytes = half_back (drop 6 bytes) (omega (arith, length-drop 6 bytes))
    (IsBytes-drop 6 bytes fits) ∙ ap (λ (x : List ℕ). half size ++ x) (drop-drop 2 6 bytes) in
    let d : drop 8 bytes ≡ word number
    ++ drop 12 bytes = word_back (drop 8 bytes) (omega (arith, length-drop 8 bytes))
    (IsBytes-drop 8 bytes fits) ∙ ap (λ (x : List ℕ). word number ++ x) (drop-drop 4 8 bytes) in
    record {
      front = word w ++ half name ++ half size ++ word number;
      spelled = inr
          (record {
            ignored = w % 2 ^ 28;
            ignored_fits = omega arith;
            layout = ap
                (λ (x : ℕ). word x ++ half name ++ half size ++ word number) is;
          });
      parts = a ∙ ap (λ (x : List ℕ). word w ++ x) (b
          ∙ ap (λ (x : List ℕ). half name ++ x) (c ∙ ap (λ (x : List ℕ). half size ++ x) d));
      rest_fits = IsBytes-drop 12 bytes fits;
      lawful = fine.lawful;
      size_fits = half_fits (drop 6 bytes) (IsBytes-drop 6 bytes fits);
      number_fits = word_fits (drop 8 bytes) (IsBytes-drop 8 bytes fits);
      long_enough =
          omega (arith, length-descriptor name size number, cond_le (is_short (long_desc bytes)));
    }

-- a descriptor that is read is spelled there
pub desc_takes : (at : ℕ) (bytes : List ℕ) (desc : Desc) (rest : List ℕ) → IsBytes bytes
    → desc_at at bytes ≡ Ok (desc, rest) → TakesDesc bytes desc rest
unfolding desc_at
desc_takes at bytes desc rest fits e =
    let first = first_word (word_at bytes) in
    let g = not_stopped (ltb (length bytes) 4) (Truncated at) _ (desc, rest) e in
    let s = bind_ok (said_at at first bytes) (λ said. judged at first said.0
    >>= λ d. Ok (d, said.1)) (desc, rest) g.1 in
    let j = bind_ok (judged at first s.0.0) (λ d. Ok (d, s.0.1)) (desc, rest) s.2 in
    let fine = judged_ok at first s.0.0 j.0 j.1 in
    let whole : s.0 ≡ (desc, rest) = first_same s.0.0 j.0 s.0.1 (desc, rest) fine.1
    (ok_is (j.0, s.0.1) (desc, rest) j.2) in
    elim (said_ok at first bytes s.0 s.1) [
      | inl h ↦
          let judged_so : Judged first (short_desc first) =
          subst (λ (x : Desc × List ℕ). Judged first x.0) (sym h.1) fine.0 in
          subst (λ (x : Desc × List ℕ). TakesDesc bytes x.0 x.1) (h.1
          ∙ whole) (short_taken bytes (ltb-false _ _ g.0) fits h.0 judged_so)
      | inr h ↦
          let judged_so : Judged first (long_desc bytes) =
          subst (λ (x : Desc × List ℕ). Judged first x.0) (sym h.2) fine.0 in
          subst (λ (x : Desc × List ℕ). TakesDesc bytes x.0 x.1) (h.2
          ∙ whole) (long_taken bytes h.1 fits h.0 judged_so)
    ]

short_again : (at : ℕ) (front : List ℕ) (desc : Desc) (rest : List ℕ)
    → SpellsShort front desc.name desc.size desc.number → is_lawful_desc desc ≡ true
    → desc_at at (front ++ rest) ≡ Ok (desc, rest)
short_again at front desc rest h lawful =
    let w = desc.name + 256 * desc.size + 65536 * desc.number + 2 ^ 28 in
    let facts = lawful_facts desc lawful in
    let name : desc.name < 256 = let n = facts.known_name in omega arith in
    let first : FirstWord =
    record {
      name = desc.name;
      size = desc.size;
      number = desc.number;
      inline = true;
      longform =
          false;
      deallocate = false;
      unused = false;
    } in
    let below : desc.name + 256 * desc.size + 65536 * desc.number + 2 ^ 28 < 2 ^ 32 = let s =
    h.size_fits in let n = h.number_fits in omega arith in
    let parts : first_word (word_at (word w ++ rest)) ≡ first =
    ap first_word (word_again w rest below)
    ∙ short_parts desc.name desc.size desc.number name h.size_fits h.number_fits in
    ap (λ (x : List ℕ). desc_at at (x ++ rest)) h.layout
    ∙ desc_again at (word w ++ rest) first desc rest (omega arith) parts
    (said_short at first (word w ++ rest) refl)
    (record { deallocate = refl; unused = refl; lawful = lawful; inline = refl })

long_again : (at : ℕ) (front : List ℕ) (desc : Desc) (rest : List ℕ)
    → SpellsLong front desc.name desc.size desc.number → is_lawful_desc desc ≡ true
    → desc.size < 2 ^ 16 → desc.number < 2 ^ 32
    → desc_at at (front ++ rest) ≡ Ok (desc, rest)
long_again at front desc rest h lawful size_fits number_fits =
    let w = h.ignored + 2 ^ 28 + 2 ^ 29 in
    let facts = lawful_facts desc lawful in
    let name : desc.name < 2 ^ 16 = let n = facts.known_name in omega arith in
    let below : h.ignored + 2 ^ 28 + 2 ^ 29 < 2 ^ 32 = let i = h.ignored_fits in omega arith in
    let bits = long_bits h.ignored h.ignored_fits in
    let bytes = word w ++ (half desc.name ++ (half desc.size ++ (word desc.number ++ rest))) in
    let first = first_word w in
    let parts : first_word (word_at bytes) ≡ first =
    ap first_word
    (word_again w (half desc.name ++ (half desc.size ++ (word desc.number ++ rest))) below) in
    let e0 : half_at (drop 4 bytes) ≡ desc.name =
    half_again desc.name (half desc.size ++ (word desc.number ++ rest)) name in
    let e1 : half_at (drop 6 bytes) ≡ desc.size = half_again desc.size (word desc.number ++ rest)
    size_fits in
    let e2 : word_at (drop 8 bytes) ≡ desc.number = word_again desc.number rest number_fits in
    let three : long_desc bytes ≡ desc = same_desc e0 e1 e2 in
    let said : said_at at first bytes ≡ Ok (desc, rest) =
    said_long at first bytes bits.1 (omega arith) ∙ ap (λ (d : Desc). Ok (d, rest)) three in
    ap (λ (x : List ℕ). desc_at at (x ++ rest)) h.layout
    ∙ desc_again at bytes first desc rest (omega arith) parts said
    (record { deallocate = bits.2; unused = bits.3; lawful = lawful; inline = bits.0 })

-- a descriptor that is spelled there is read
pub desc_spelled : (at : ℕ) (front : List ℕ) (desc : Desc) (rest : List ℕ)
    → SpellsDesc front desc.name desc.size desc.number → is_lawful_desc desc ≡ true
    → desc.size < 2 ^ 16 → desc.number < 2 ^ 32
    → desc_at at (front ++ rest) ≡ Ok (desc, rest)
desc_spelled at front desc rest (inl h) lawful size_fits number_fits =
    short_again at front desc rest h lawful
desc_spelled at front desc rest (inr h) lawful size_fits number_fits =
    long_again at front desc rest h lawful size_fits number_fits
