-- Messages: what is read is spelled by the bytes, what they spell is read, and what is written is
-- spelled.
use Rattle.std.proofs.Common.{◌≡◌, ℕ, ◌+◌, ◌*◌, ◌/◌, ◌%◌, ◌^◌, ◌<◌, ◌≤◌, Bool, true, false, cond}
use Rattle.std.proofs.Common.{not, ltb, leb, eqb, ◌&&◌, List, [], ◌∷◌, ◌++◌, length, drop}
use Rattle.std.proofs.Common.{replicate, Result, Ok, Err, refl, sym, ap, subst, ◌∙◌, append_assoc}
use Rattle.std.proofs.Common.{arith, inl, inr}
use Rattle.std.specs.Prelude.{IfOk}
use Rattle.std.specs.List.{flat_map, AllByRecursion}
use Rattle.std.proofs.lemmas.Bool.{cases_Bool, ltb-false, le-ltb, leb-true, eqb-true, eqb-false}
use Rattle.std.proofs.lemmas.Bool.{and_parts, or_cases, not-false, not_from_true, cond-true}
use Rattle.std.proofs.lemmas.Bool.{cond-false}
use Rattle.std.proofs.lemmas.List.{drop-drop, length-drop, length-replicate}
use mathlib.Core.Bool.{beq}
use Rattle.mrc_model.specs.Message.{Arg, Data, Ports, Message, word, descriptor, arg_bytes}
use Rattle.mrc_model.specs.Message.{any_port_arg, written, written_size}
use Rattle.mrc_desc.specs.declared.fault.ReadFault.{ReadFault}
use Rattle.mrc_desc.specs.declared.fault.ReadFault.TheVariants.{TooShort, TooLong, BadHeaderDisp}
use Rattle.mrc_desc.specs.declared.fault.ReadFault.TheVariants.{ComplexDiffers}
use Rattle.mrc_desc.specs.declared.message.Header.{Header}
use Rattle.mrc_desc.specs.Descriptor.{padding_len, word_at}
use Rattle.mrc_desc.specs.Lawful.{IsLawfulArg, IsLawful, is_admitted}
use Rattle.mrc_desc.specs.Laws.{IsSent}
use Rattle.mrc_desc.specs.View.{with_args}
use Rattle.mrc_desc.specs.Spelling.{SpellsDesc, SpellsArg, SpellsArgs, Spells}
use Rattle.mrc_base.specs.declared.memory.OrMemory.{OrMemory}
use Rattle.mrc_base.specs.Limits.{limit_of_message}
use Rattle.mrc_base.specs.Reading.{◌>>=◌, Refuses, Gives}
use Rattle.mrc_base.proofs.Steps.{bind_ok, not_stopped, ok_is, refuses_then, refuses_same, gives_ok}
use Rattle.mrc_desc.specs.Reading.{args_of, header_at, is_complex, message_at}
use Rattle.mrc_desc.proofs.Words.{IsBytes, IsBytes-drop, word_back, word_again, word_fits}
use Rattle.mrc_desc.proofs.Steps.{bind_again, chosen}
use Rattle.mrc_desc.proofs.Bodies.{TakesArgs, args_take, args_again}

-- ---- the first word of a header

same_is : (a b : Bool) → beq a b ≡ true → a ≡ b
same_is true true h = refl
same_is true false h = absurd cc
same_is false true h = absurd cc
same_is false false h = refl

same_again : (a b : Bool) → a ≡ b → beq a b ≡ true
same_again true true h = refl
same_again true false h = absurd cc
same_again false true h = absurd cc
same_again false false h = refl

-- the parts of the word make it
dispositions : (w : ℕ) (complex : Bool) → w < 2 ^ 32 → eqb (w / 2 ^ 31) 1 ≡ complex
    → w ≡ w % 256 + 256 * (w / 256 % 256) + 65536 * (w / 65536 % 32768) + cond complex (2 ^ 31) 0
dispositions w true fits h = let top : w / 2 ^ 31 ≡ 1 = eqb-true _ _ h in omega arith
dispositions w false fits h = let top : w / 2 ^ 31 ≡ 1 → ⊥ = eqb-false _ _ h in omega arith

-- the parts of a word that is made so
record Parts (w remote_disp local_disp : ℕ) (complex : Bool) : Type 0 where
  fits : w < 2 ^ 32
  remote_is : w % 256 ≡ remote_disp
  local_is : w / 256 % 256 ≡ local_disp
  complex_is : eqb (w / 2 ^ 31) 1 ≡ complex

parts_of : (remote_disp local_disp bits : ℕ) (complex : Bool) → remote_disp < 256 → local_disp < 256
    → bits < 2 ^ 15
    → Parts (remote_disp + 256 * local_disp + 65536 * bits + cond complex (2 ^ 31) 0) remote_disp
    local_disp complex
parts_of r l bits true hr hl hb =
    let top : (r + 256 * l + 65536 * bits + 2 ^ 31) / 2 ^ 31 ≡ 1 = omega arith in
    record {
      fits = omega arith;
      remote_is = omega arith;
      local_is = omega arith;
      complex_is = ap
          (λ n. eqb n 1) top;
    }
parts_of r l bits false hr hl hb =
    let top : (r + 256 * l + 65536 * bits + 0) / 2 ^ 31 ≡ 0 = omega arith in
    record {
      fits = omega arith;
      remote_is = omega arith;
      local_is = omega arith;
      complex_is = ap
          (λ n. eqb n 1) top;
    }

-- dispositions that are admitted fit a byte
admitted_fits : (remote_disp local_disp local : ℕ) → is_admitted remote_disp local_disp local ≡ true
    → (remote_disp < 256) × (local_disp < 256)
admitted_fits r l port h =
    let two = and_parts (leb 17 r && leb r 21) _ h in
    let remote : r ≤ 21 = leb-true _ _ (and_parts (leb 17 r) (leb r 21) two.0).1 in
    let local : l ≤ 21 = elim (or_cases (eqb l 0 && eqb port 0) _ two.1) [
      | inl none ↦ let zero_is : l ≡ 0 = eqb-true _ _ (and_parts (eqb l 0) (eqb port 0) none).0 in
          omega arith
      | inr some ↦ leb-true _ _ (and_parts (leb 17 l) (leb l 21) some).1
    ] in
    (omega arith, omega arith)

-- ---- what is read is spelled so

-- six words, and what follows
header_words : (bytes : List ℕ) → 24 ≤ length bytes → IsBytes bytes
    → bytes ≡ word (word_at bytes) ++ word (word_at (drop 4 bytes)) ++ word (word_at (drop 8 bytes))
    ++ word (word_at (drop 12 bytes)) ++ word (word_at (drop 16 bytes))
    ++ word (word_at (drop 20 bytes)) ++ drop 24 bytes
header_words bytes enough fits =
    next 0 (omega arith)
    ∙ ap (λ (x : List ℕ). word (word_at bytes) ++ x) (next 4 (omega arith)
    ∙ ap (λ (x : List ℕ). word (word_at (drop 4 bytes)) ++ x) (next 8 (omega arith)
    ∙ ap (λ (x : List ℕ). word (word_at (drop 8 bytes)) ++ x) (next 12 (omega arith)
    ∙ ap (λ (x : List ℕ). word (word_at (drop 12 bytes)) ++ x) (next 16 (omega arith)
    ∙ ap (λ (x : List ℕ). word (word_at (drop 16 bytes)) ++ x) (next 20 (omega arith))))))
  where
    next : (n : ℕ) → n + 4 ≤ length bytes → drop n bytes ≡ word (word_at (drop n bytes))
        ++ drop (n + 4) bytes
    next n h = word_back (drop n bytes) (omega (arith, length-drop n bytes))
        (IsBytes-drop n bytes fits)
        ∙ ap (λ (x : List ℕ). word (word_at (drop n bytes)) ++ x) (drop-drop 4 n bytes)

lawful_taken : (bytes : List ℕ) (args : List Arg) → IsBytes bytes → 24 ≤ length bytes
    → length bytes ≤ limit_of_message
    → is_admitted (header_at bytes).remote_disp (header_at bytes).local_disp
    (header_at bytes).local_port ≡ true
    → TakesArgs (drop 24 bytes) args → IsLawful (with_args (header_at bytes) args)
lawful_taken bytes args fits enough within admitted t =
    let disps = admitted_fits _ _ _ admitted in
    record {
      header = record {
        remote_disp = disps.0;
        local_disp = disps.1;
        remote = word_fits (drop 8 bytes) (IsBytes-drop 8 bytes fits);
        local = word_fits (drop 12 bytes) (IsBytes-drop 12 bytes fits);
        seqno = omega arith;
        id = word_fits (drop 20 bytes) (IsBytes-drop 20 bytes fits);
      };
      args = (t.lawful, omega (arith, t.long_enough, length-drop 24 bytes));
    }

spelled_taken : (bytes : List ℕ) (args : List Arg) → IsBytes bytes → 24 ≤ length bytes
    → length bytes ≤ limit_of_message
    → is_admitted (header_at bytes).remote_disp (header_at bytes).local_disp
    (header_at bytes).local_port ≡ true
    → TakesArgs (drop 24 bytes) args → is_complex bytes ≡ any_port_arg args
    → Spells bytes (with_args (header_at bytes) args)
spelled_taken bytes args fits enough within admitted t complex =
    let w = word_at bytes in
    let first = dispositions w (any_port_arg args) (word_fits bytes fits) complex in
    let after = word (word_at (drop 4 bytes))
    ++ (word (word_at (drop 8 bytes))
    ++ (word (word_at (drop 12 bytes))
    ++ (word (word_at (drop 16 bytes)) ++ (word (word_at (drop 20 bytes)) ++ drop 24 bytes))))
    in
    record {
      bits = w / 65536 % 32768;
      size = word_at (drop 4 bytes);
      receipts = word_at (drop 16 bytes);
      body = drop 24 bytes;
      bits_fit = omega arith;
      remote_fits = word_fits (drop 8 bytes) (IsBytes-drop 8 bytes fits);
      local_fits = word_fits (drop 12 bytes) (IsBytes-drop 12 bytes fits);
      id_fits = word_fits (drop 20 bytes) (IsBytes-drop 20 bytes fits);
      admitted = admitted;
      no_seqno = refl;
      body_spelled = t.spelled;
      layout = header_words bytes enough fits ∙ ap (λ (x : ℕ). word x ++ after) first;
      within = within;
    }

-- the size and the header are no fault, and these arguments are read
pub record Starts (bytes : List ℕ) : Type 0 where
  pub enough : 24 ≤ length bytes
  pub within : length bytes ≤ limit_of_message
  pub admitted : is_admitted (header_at bytes).remote_disp (header_at bytes).local_disp
      (header_at bytes).local_port ≡ true

-- what remains to be tested of arguments that are read
abbrev finished : List ℕ → List Arg → Result Message ReadFault
finished bytes args = cond (beq (is_complex bytes) (any_port_arg args))
    (Ok (with_args (header_at bytes) args)) (Err ComplexDiffers)

message_start : (bytes : List ℕ) → Starts bytes
    → message_at bytes ≡ (args_of bytes >>= λ args. finished bytes args)
unfolding message_at
message_start bytes s =
    cond-false (ltb (length bytes) 24) _ _ (le-ltb _ _ s.enough)
    ∙ cond-false (ltb limit_of_message (length bytes)) _ _ (le-ltb _ _ s.within)
    ∙ cond-false (not
    (is_admitted (header_at bytes).remote_disp (header_at bytes).local_disp
    (header_at bytes).local_port)) _ _ (not_from_true _ s.admitted)

pub lawful_read : (bytes : List ℕ) (args : List Arg) → IsBytes bytes → Starts bytes
    → args_of bytes ≡ Ok args → IsLawful (with_args (header_at bytes) args)
lawful_read bytes args fits s read =
    lawful_taken bytes args fits s.enough s.within s.admitted
    (args_take (length bytes) (length (drop 24 bytes)) (drop 24 bytes) args
    (IsBytes-drop 24 bytes fits) read)

message_read : (bytes : List ℕ) (args : List Arg) → Starts bytes → args_of bytes ≡ Ok args
    → is_complex bytes ≡ any_port_arg args
    → message_at bytes ≡ Ok (with_args (header_at bytes) args)
message_read bytes args s read complex =
    message_start bytes s ∙ bind_again (args_of bytes) (λ args. finished bytes args) args read
    ∙ cond-true (beq (is_complex bytes) (any_port_arg args)) _ _ (same_again _ _ complex)

-- the first fault of the arguments is that of the message
pub args_fail : (refusal : OrMemory ReadFault) (bytes : List ℕ)
    → Starts bytes
    → Refuses refusal (args_of bytes)
    → Refuses refusal (message_at bytes)
args_fail refusal bytes s h =
    refuses_same refusal (args_of bytes >>= λ args. finished bytes args) (message_at bytes)
    (sym (message_start bytes s))
    (refuses_then refusal (args_of bytes) (λ args. finished bytes args) h)

pub record Steps (bytes : List ℕ) (m : Message) : Type 0 where
  pub args : List Arg
  pub starts : Starts bytes
  pub args_read : args_of bytes ≡ Ok args
  pub complex : is_complex bytes ≡ any_port_arg args
  pub made : with_args (header_at bytes) args ≡ m

pub steps_of : (bytes : List ℕ) (m : Message) → message_at bytes ≡ Ok m → Steps bytes m
unfolding message_at
steps_of bytes m e =
    let a = not_stopped (ltb (length bytes) 24) TooShort _ m e in
    let b = not_stopped (ltb limit_of_message (length bytes)) TooLong _ m a.1 in
    let c = not_stopped
    (not (is_admitted (header_at bytes).remote_disp (header_at bytes).local_disp
    (header_at bytes).local_port)) BadHeaderDisp _ m b.1 in
    let d = bind_ok (args_of bytes) (λ args. finished bytes args) m c.1 in
    elim (chosen (beq (is_complex bytes) (any_port_arg d.0)) _ _ _ d.2) [
      | inl h ↦ record {
        args = d.0;
        starts = record
            { enough = ltb-false _ _ a.0; within = ltb-false _ _ b.0; admitted = not-false _ c.0 };
        args_read = d.1;
        complex = same_is _ _ h.0;
        made =
            ok_is (with_args (header_at bytes) d.0) m h.1;
      }
      | inr h ↦ let wrong = h.1 in absurd cc
    ]

-- what is read of bytes that are a message is that message's
pub message_made : (bytes : List ℕ) (m : Message) (header : Header) (args : List Arg)
    → message_at bytes ≡ Ok m → header_at bytes ≡ header → args_of bytes ≡ Ok args
    → message_at bytes ≡ Ok (with_args header args)
message_made bytes m header args e is read =
    let s = steps_of bytes m e in
    let same : s.args ≡ args = ok_is s.args args (sym s.args_read ∙ read) in
    e ∙ ap (λ (x : Message). Ok x) (sym s.made
    ∙ ap (λ (xs : List Arg). with_args (header_at bytes) xs) same
    ∙ ap (λ (h : Header). with_args h args) is)

pub message_takes : (bytes : List ℕ) (m : Message) → IsBytes bytes → message_at bytes ≡ Ok m
    → Spells bytes m
message_takes bytes m fits e =
    let s = steps_of bytes m e in
    let start = s.starts in
    subst (λ (x : Message). Spells bytes x) s.made
    (spelled_taken bytes s.args fits start.enough start.within start.admitted
    (args_take (length bytes) (length (drop 24 bytes)) (drop 24 bytes) s.args
    (IsBytes-drop 24 bytes fits) s.args_read) s.complex)

-- ---- what is spelled so is read

abbrev header_with : (remote_disp local_disp remote_port local_port seqno id : ℕ) → Header
header_with a b c d e f =
    record { remote_disp = a; local_disp = b; remote_port = c; local_port = d; seqno = e; id = f }

same_header : {a b c d e f a' b' c' d' e' f' : ℕ} → a ≡ a' → b ≡ b' → c ≡ c' → d ≡ d' → e ≡ e'
    → f ≡ f' → header_with a b c d e f ≡ header_with a' b' c' d' e' f'
same_header {a} {b} {c} {d} {e} {f} {a'} {b'} {c'} {d'} {e'} {f'} p q r s t u =
    ap (λ (x : ℕ). header_with x b c d e f) p ∙ ap (λ (x : ℕ). header_with a' x c d e f) q
    ∙ ap (λ (x : ℕ). header_with a' b' x d e f) r
    ∙ ap (λ (x : ℕ). header_with a' b' c' x e f) s ∙ ap (λ (x : ℕ). header_with a' b' c' d' x f) t
    ∙ ap (λ (x : ℕ). header_with a' b' c' d' e' x) u

pub message_again : (bytes : List ℕ) (m : Message) → Spells bytes m → message_at bytes ≡ Ok m
message_again bytes m h =
    let w = m.remote_disp + 256 * m.local_disp + 65536 * h.bits + cond (any_port_arg m.args)
    (2 ^ 31) 0 in
    let laid = word w
    ++ (word h.size
    ++ (word m.remote ++ (word m.local ++ (word h.receipts ++ (word m.id ++ h.body))))) in
    let disps = admitted_fits _ _ _ h.admitted in
    let parts = parts_of m.remote_disp m.local_disp h.bits (any_port_arg m.args) disps.0 disps.1
    h.bits_fit in
    let first : word_at laid ≡ w =
    word_again w (word h.size
    ++ (word m.remote ++ (word m.local ++ (word h.receipts ++ (word m.id ++ h.body)))))
    parts.fits in
    let remote : word_at (drop 8 laid) ≡ m.remote =
    word_again m.remote (word m.local ++ (word h.receipts ++ (word m.id ++ h.body)))
    h.remote_fits in
    let local : word_at (drop 12 laid) ≡ m.local =
    word_again m.local (word h.receipts ++ (word m.id ++ h.body)) h.local_fits in
    let id : word_at (drop 20 laid) ≡ m.id = word_again m.id h.body h.id_fits in
    let header : header_at laid ≡ header_with m.remote_disp m.local_disp m.remote m.local m.seqno
    m.id =
    same_header (ap (λ (x : ℕ). x % 256) first ∙ parts.remote_is)
    (ap (λ (x : ℕ). x / 256 % 256) first ∙ parts.local_is) remote local (sym h.no_seqno) id in
    let starts : Starts laid = record {
      enough = omega arith;
      within = omega (arith, h.within, ap length h.layout);
      admitted = ap (λ (x : Header). is_admitted x.remote_disp x.local_disp x.local_port) header
          ∙ h.admitted;
    } in
    let read : args_of laid ≡ Ok m.args = args_again (length laid) (length h.body) h.body m.args
    h.body_spelled (omega arith) in
    let complex : is_complex laid ≡ any_port_arg m.args = ap (λ (x : ℕ). eqb (x / 2 ^ 31) 1) first
    ∙ parts.complex_is in
    ap message_at h.layout ∙ message_read laid m.args starts read complex
    ∙ ap (λ (x : Header). Ok (with_args x m.args)) header

-- ---- what is written is spelled

desc_written : (name size number : ℕ) → SpellsDesc (descriptor name size number) name size number
desc_written name size number =
    elim (cases_Bool (leb name 255 && (leb size 255 && leb number 4095))) [
      | inl short ↦
          let two = and_parts (leb name 255) _ short in
          let numbers = and_parts (leb size 255) (leb number 4095) two.1 in
          let size_fits : size ≤ 255 = leb-true _ _ numbers.0 in
          let number_fits : number ≤ 4095 = leb-true _ _ numbers.1 in
          inl (record {
            size_fits = omega arith;
            number_fits = omega arith;
            layout = cond-true
                (leb name 255 && (leb size 255 && leb number 4095)) _ _ short;
          })
      | inr long ↦
          inr (record {
            ignored = 0;
            ignored_fits = omega arith;
            layout = cond-false
                (leb name 255 && (leb size 255 && leb number 4095)) _ _ long;
          })
    ]

arg_written : (a : Arg) → SpellsArg (arg_bytes a) a
arg_written (Data name size number bytes) = record {
  desc = descriptor name size number;
  padding = replicate (padding_len (length bytes)) 0;
  desc_spelled = desc_written name size number;
  padded = length-replicate {A = ℕ} (padding_len (length bytes)) 0;
  layout = sym (append_assoc (descriptor name size number) bytes
      (replicate (padding_len (length bytes)) 0));
}
arg_written (Ports name names) =
    record {
      desc = descriptor name 32 (length names);
      desc_spelled = desc_written name 32
          (length names);
      layout = refl;
    }

args_written : (args : List Arg) → AllByRecursion IsLawfulArg args
    → SpellsArgs (flat_map arg_bytes args) args
args_written [] lawful = refl
args_written (a ∷ args) lawful = (
  arg_bytes a,
  flat_map arg_bytes args,
  lawful.0,
  arg_written a,
  args_written args lawful.1,
  refl,
)

pub message_written : (m : Message) → IsSent m → Spells (written m) m
message_written m sent =
    let complex = cond (any_port_arg m.args) (2 ^ 31) 0 in
    let first : m.remote_disp + 256 * m.local_disp + complex ≡ m.remote_disp + 256 * m.local_disp
    + 65536 * 0 + complex = omega arith in
    let after = word (written_size m)
    ++ (word m.remote
    ++ (word m.local ++ (word m.seqno ++ (word m.id ++ flat_map arg_bytes m.args)))) in
    record {
      bits = 0;
      size = written_size m;
      receipts = m.seqno;
      body = flat_map arg_bytes m.args;
      bits_fit = omega arith;
      remote_fits = sent.lawful.header.remote;
      local_fits = sent.lawful.header.local;
      id_fits = sent.lawful.header.id;
      admitted = sent.admitted;
      no_seqno = sent.no_seqno;
      body_spelled = args_written m.args sent.lawful.args.0;
      layout = ap (λ (x : ℕ). word x ++ after) first;
      within = omega (arith, sent.lawful.args.1);
    }

-- ---- what the reader promises

pub is_found : (bytes : List ℕ) (r : Result Message (OrMemory ReadFault))
    → IsBytes bytes
    → Gives (λ (m : Message). m) r (message_at bytes)
    → IfOk r (λ m. Spells bytes m)
is_found bytes r fits given =
    gives_ok (Spells bytes) (λ (m : Message). m) r (message_at bytes)
    (λ m e. message_takes bytes m fits e)
    given
