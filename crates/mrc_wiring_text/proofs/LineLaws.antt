-- Words say something exactly where they are the words of it.
use Rattle.std.proofs.Common.{◌≡◌, ℕ, ◌<◌, true, cond, ◌&&◌, List, [], ◌∷◌, ◌++◌, Option, Some}
use Rattle.std.proofs.Common.{None, refl, sym, ap, ◌∙◌, subst, inl, inr}
use Rattle.std.specs.Prelude.{bytes_eq, codes, IsTrue, nat_lt}
use Rattle.std.specs.List.{AllByRecursion, before_first, after_first}
use Rattle.std.specs.Option.{option_map}
use Rattle.std.proofs.lemmas.Bool.{and_parts, ltb-true, lt-ltb, false≢true}
use Rattle.std.proofs.lemmas.Option.{none-some, same_Some}
use Rattle.mrc_base.specs.declared.PortRight.{PortRight}
use Rattle.mrc_base.specs.declared.PortRight.TheVariants as rights
use Rattle.mrc_wiring_text.specs.declared.items.Item.{Item}
use Rattle.mrc_wiring_text.specs.declared.policy.ClassName.{ClassName}
use Rattle.mrc_wiring_text.specs.declared.policy.ClassName.TheVariants as class
use Rattle.mrc_wiring_text.specs.declared.policy.Forbid.{Forbid}
use Rattle.mrc_wiring_text.specs.declared.reading.Edition.{Edition}
use Rattle.mrc_wiring_text.specs.declared.reading.Edition.TheVariants as editions
use Rattle.mrc_wiring_text.specs.declared.wiring.HeldRight.{HeldRight}
use Rattle.mrc_wiring_text.specs.declared.wiring.HeldRight.TheVariants.{Send, SendOnce}
use Rattle.mrc_wiring_text.specs.declared.wiring.WiringSays.{WiringSays}
use Rattle.mrc_wiring_text.specs.declared.wiring.WiringSays.TheVariants.{Task, Port, Births}
use Rattle.mrc_wiring_text.specs.declared.wiring.WiringSays.TheVariants.{HoldPort, HoldTask, Admit}
use Rattle.mrc_wiring_text.specs.declared.wiring.WiringSays.TheVariants.{Trust, RepliesFit}
use Rattle.mrc_wiring_text.specs.declared.trust.TrustVerb.{TrustVerb}
use Rattle.mrc_wiring_text.specs.declared.trust.TrustVerb.TheVariants.{Takes, Gives, Sends, Replies}
use Rattle.mrc_wiring_text.specs.declared.trust.TrustedRight.{TrustedRight}
use Rattle.mrc_wiring_text.specs.Lexis.{is_dot, decimal}
use Rattle.mrc_wiring_text.specs.Names.{is_name, name_of}
use Rattle.mrc_base.specs.Limits.{limit_of_kinds}
use Rattle.mrc_base.proofs.Lists.{map_is}
use Rattle.mrc_wiring_text.specs.Kinds.{is_number, kind_numbered, kind_of}
use Rattle.mrc_wiring_text.specs.Items.{items_of}
use Rattle.mrc_wiring_text.specs.Policy.{named, births_of, plain_class, births_with_kind, class_of}
use Rattle.mrc_wiring_text.specs.Policy.{right_of, forbid_line, policy_says}
use Rattle.mrc_wiring_text.specs.Wiring.{task_line, port_named, port_line, births_named}
use Rattle.mrc_wiring_text.specs.Wiring.{plain_births, kind_births, births_line}
use Rattle.mrc_wiring_text.specs.Wiring.{held_right, hold_port_named, hold_task_named, held}
use Rattle.mrc_wiring_text.specs.Wiring.{hold_line, admitted, admit_named, admit_line, wiring_says}
use Rattle.mrc_wiring_text.specs.Wiring.{verb_of, right_on, trusted_right, once_on, trusted}
use Rattle.mrc_wiring_text.specs.Wiring.{trust_named, trust_by, trust_line, fit_line, third_says}
use Rattle.mrc_wiring_text.specs.Grammar.{HasName, items_words, right_word, port_right_word}
use Rattle.mrc_wiring_text.specs.Grammar.{IsKindWord, AreBirthsWords, AreClassWords}
use Rattle.mrc_wiring_text.specs.Grammar.{AreAdmittedWords, AreKindWords, AreWordsOf}
use Rattle.mrc_wiring_text.specs.Grammar.{has_kinds, verb_word, AreNamedWords, AreOnceWords}
use Rattle.mrc_wiring_text.specs.Grammar.{AreTrustedWords}
use Rattle.mrc_wiring_text.specs.Grammar.{AreForbidWords, EachLineIsSpelled}
use Rattle.mrc_wiring_text.specs.Grammar.{EachPolicyLineIsSpelled}
use Rattle.mrc_wiring_text.proofs.ItemLaws.{chosen, either, word_is, name_found}
use Rattle.mrc_wiring_text.proofs.ItemLaws.{items_found, items_again}
use Rattle.mrc_wiring_text.proofs.SlotLaws.{slot_found, slot_again}

-- ---- `task`

task_found : (d : Edition) (words : List (List ℕ)) (says : WiringSays)
    → task_line words ≡ Some says
    → AreWordsOf d (codes "task" ∷ words) says
unfolding task_line
task_found d [] says e = absurd (none-some says e)
task_found d (task ∷ []) says e =
    let m = map_is Task (name_of task) says e in
    let n = name_found task m.0 m.1 in
    subst (AreWordsOf d (codes "task" ∷ task ∷ [])) m.2 (ap (λ t. codes "task" ∷ t ∷ []) n.0, n.1)
task_found d (a ∷ b ∷ rest) says e = absurd (none-some says e)

-- ---- `port`

port_parts : (p r : Option (List ℕ)) (a : Option (List Item)) (says : WiringSays)
    → port_named p r a ≡ Some says
    → (port : List ℕ) × (receiver : List ℕ) × (accepts : List Item) × (p ≡ Some port)
    × (r ≡ Some receiver) × (a ≡ Some accepts) × (Port port receiver accepts ≡ says)
port_parts (Some p) (Some r) (Some a) says e = (p, r, a, refl, refl, refl, same_Some _ _ e)
port_parts (Some p) (Some r) None says e = absurd (none-some says e)
port_parts (Some p) None a says e = absurd (none-some says e)
port_parts None r a says e = absurd (none-some says e)

port_found : (d : Edition) (words : List (List ℕ)) (says : WiringSays)
    → port_line words ≡ Some says
    → AreWordsOf d (codes "port" ∷ words) says
unfolding port_line
port_found d [] says e = absurd (none-some says e)
port_found d (a ∷ []) says e = absurd (none-some says e)
port_found d (a ∷ b ∷ []) says e = absurd (none-some says e)
port_found d (a ∷ b ∷ c ∷ []) says e = absurd (none-some says e)
port_found d (port ∷ receiver ∷ task ∷ accepts ∷ items) says e =
    let is_receiver = bytes_eq receiver (codes "receiver") in
    let is_accepts = bytes_eq accepts (codes "accepts") in
    let c = chosen (is_receiver && is_accepts)
    (port_named (name_of port) (name_of task) (items_of items)) says e in
    let w = and_parts is_receiver is_accepts c.0 in
    let f = port_parts (name_of port) (name_of task) (items_of items) says c.1 in
    let p = name_found port f.0 f.3 in
    let t = name_found task f.1 f.4 in
    let i = items_found items f.2 f.5 in
    let same : codes "port" ∷ port ∷ receiver ∷ task ∷ accepts ∷ items ≡ codes "port" ∷ f.0
    ∷ codes "receiver" ∷ f.1 ∷ codes "accepts" ∷ items_words f.2 =
    ap (λ x. codes "port" ∷ x ∷ receiver ∷ task ∷ accepts ∷ items) p.0
    ∙ ap (λ x. codes "port" ∷ f.0 ∷ x ∷ task ∷ accepts ∷ items)
    (word_is receiver (codes "receiver") w.0)
    ∙ ap (λ x. codes "port" ∷ f.0 ∷ codes "receiver" ∷ x ∷ accepts ∷ items) t.0
    ∙ ap (λ x. codes "port" ∷ f.0 ∷ codes "receiver" ∷ f.1 ∷ x ∷ items)
    (word_is accepts (codes "accepts") w.1)
    ∙ ap (λ x. codes "port" ∷ f.0 ∷ codes "receiver" ∷ f.1 ∷ codes "accepts" ∷ x) i.0 in
    subst (AreWordsOf d (codes "port" ∷ port ∷ receiver ∷ task ∷ accepts ∷ items)) f.6
    (same, p.1, t.1, i.1)

-- ---- `births`

births_parts : (t : Option (List ℕ)) (k : Option ℕ) (a : Option (List Item)) (says : WiringSays)
    → births_named t k a ≡ Some says
    → (task : List ℕ) × (kind : ℕ) × (accepts : List Item) × (t ≡ Some task) × (k ≡ Some kind)
    × (a ≡ Some accepts) × (Births task kind accepts ≡ says)
births_parts (Some t) (Some k) (Some a) says e = (t, k, a, refl, refl, refl, same_Some _ _ e)
births_parts (Some t) (Some k) None says e = absurd (none-some says e)
births_parts (Some t) None a says e = absurd (none-some says e)
births_parts None k a says e = absurd (none-some says e)

plain_births_found : (words : List (List ℕ)) (says : WiringSays)
    → plain_births words ≡ Some says
    → AreWordsOf editions.First (codes "births" ∷ words) says
unfolding plain_births
plain_births_found [] says e = absurd (none-some says e)
plain_births_found (a ∷ []) says e = absurd (none-some says e)
plain_births_found (task ∷ accepts ∷ items) says e =
    let c = chosen (bytes_eq accepts (codes "accepts"))
    (births_named (name_of task) (Some 0) (items_of items)) says e in
    let f = births_parts (name_of task) (Some 0) (items_of items) says c.1 in
    let t = name_found task f.0 f.3 in
    let i = items_found items f.2 f.5 in
    let same : codes "births" ∷ task ∷ accepts ∷ items
    ≡ codes "births" ∷ ((f.0 ∷ []) ++ codes "accepts" ∷ items_words f.2) =
    ap (λ x. codes "births" ∷ x ∷ accepts ∷ items) t.0
    ∙ ap (λ x. codes "births" ∷ f.0 ∷ x ∷ items) (word_is accepts (codes "accepts") c.0)
    ∙ ap (λ x. codes "births" ∷ f.0 ∷ codes "accepts" ∷ x) i.0 in
    subst (AreWordsOf editions.First (codes "births" ∷ task ∷ accepts ∷ items)) f.6
    ((f.0 ∷ [], (refl, sym (same_Some _ _ f.4)), same), t.1, i.1)

-- a word that spells a kind
kind_found : (word : List ℕ) (kind : ℕ) → kind_of word ≡ Some kind → IsKindWord word kind
unfolding kind_of
kind_found word kind e =
    let c = chosen (is_number word) (kind_numbered (decimal word)) kind e in
    let k = chosen (nat_lt (decimal word) limit_of_kinds) (Some (decimal word)) kind c.1 in
    let same : decimal word ≡ kind = same_Some _ _ k.1 in
    (c.0, same, subst (λ n. n < limit_of_kinds) same (ltb-true _ _ k.0))

kind_again : (word : List ℕ) (kind : ℕ) → IsKindWord word kind → kind_of word ≡ Some kind
unfolding kind_of
kind_again word kind is =
    rw (is.0, is.1, lt-ltb kind limit_of_kinds is.2) refl

-- in an edition where kinds have words
abbrev KindsAreSpelled : Edition → Type 0
KindsAreSpelled d = (word task : List ℕ) (kind : ℕ) → IsKindWord word kind
    → AreKindWords d (task ∷ word ∷ []) task kind

kind_births_found : (d : Edition) → KindsAreSpelled d
    → (words : List (List ℕ)) (says : WiringSays)
    → kind_births words ≡ Some says
    → AreWordsOf d (codes "births" ∷ words) says
unfolding kind_births
kind_births_found d spelled [] says e = absurd (none-some says e)
kind_births_found d spelled (a ∷ []) says e = absurd (none-some says e)
kind_births_found d spelled (a ∷ b ∷ []) says e = absurd (none-some says e)
kind_births_found d spelled (task ∷ kind ∷ accepts ∷ items) says e =
    let c = chosen (bytes_eq accepts (codes "accepts"))
    (births_named (name_of task) (kind_of kind) (items_of items)) says e in
    let f = births_parts (name_of task) (kind_of kind) (items_of items) says c.1 in
    let t = name_found task f.0 f.3 in
    let i = items_found items f.2 f.5 in
    let same : codes "births" ∷ task ∷ kind ∷ accepts ∷ items
    ≡ codes "births" ∷ ((f.0 ∷ kind ∷ []) ++ codes "accepts" ∷ items_words f.2) =
    ap (λ x. codes "births" ∷ x ∷ kind ∷ accepts ∷ items) t.0
    ∙ ap (λ x. codes "births" ∷ f.0 ∷ kind ∷ x ∷ items) (word_is accepts (codes "accepts") c.0)
    ∙ ap (λ x. codes "births" ∷ f.0 ∷ kind ∷ codes "accepts" ∷ x) i.0 in
    subst (AreWordsOf d (codes "births" ∷ task ∷ kind ∷ accepts ∷ items)) f.6
    ((f.0 ∷ kind ∷ [], spelled kind f.0 f.1 (kind_found kind f.1 f.4), same), t.1, i.1)

births_found : (d : Edition) (words : List (List ℕ)) (says : WiringSays)
    → births_line d words ≡ Some says
    → AreWordsOf d (codes "births" ∷ words) says
births_found editions.First words says e = plain_births_found words says e
births_found editions.Second words says e =
    kind_births_found editions.Second (λ word task kind is. (word, is, refl)) words says e
births_found editions.Third words says e =
    kind_births_found editions.Third (λ word task kind is. (word, is, refl)) words says e

-- ---- `hold`

held_right_found : (word : List ℕ) (right : HeldRight)
    → held_right word ≡ Some right
    → word ≡ right_word right
unfolding held_right
held_right_found word right e =
    elim (either (bytes_eq word (codes "send")) (Some Send)
    (cond (bytes_eq word (codes "once")) (Some SendOnce) None) right e) [
      | inl c ↦ word_is word (codes "send") c.0 ∙ ap right_word (same_Some _ _ c.1)
      | inr c ↦
          let d = chosen (bytes_eq word (codes "once")) (Some SendOnce) right c.1 in
          word_is word (codes "once") d.0 ∙ ap right_word (same_Some _ _ d.1)
    ]

hold_port_parts : (h : Option (List ℕ)) (r : Option HeldRight) (p : Option (List ℕ))
    (says : WiringSays)
    → hold_port_named h r p ≡ Some says
    → (holder : List ℕ) × (right : HeldRight) × (port : List ℕ) × (h ≡ Some holder)
    × (r ≡ Some right) × (p ≡ Some port) × (HoldPort holder right port ≡ says)
hold_port_parts (Some h) (Some r) (Some p) says e = (h, r, p, refl, refl, refl, same_Some _ _ e)
hold_port_parts (Some h) (Some r) None says e = absurd (none-some says e)
hold_port_parts (Some h) None p says e = absurd (none-some says e)
hold_port_parts None r p says e = absurd (none-some says e)

hold_task_parts : (h u : Option (List ℕ)) (says : WiringSays)
    → hold_task_named h u ≡ Some says
    → (holder : List ℕ) × (task : List ℕ) × (h ≡ Some holder) × (u ≡ Some task)
    × (HoldTask holder task ≡ says)
hold_task_parts (Some h) (Some u) says e = (h, u, refl, refl, same_Some _ _ e)
hold_task_parts (Some h) None says e = absurd (none-some says e)
hold_task_parts None u says e = absurd (none-some says e)

port_held : (d : Edition) (holder right kind name : List ℕ) (says : WiringSays)
    → bytes_eq kind (codes "port") ≡ true
    → hold_port_named (name_of holder) (held_right right) (name_of name) ≡ Some says
    → AreWordsOf d (codes "hold" ∷ holder ∷ right ∷ kind ∷ name ∷ []) says
port_held d holder right kind name says is e =
    let f = hold_port_parts (name_of holder) (held_right right) (name_of name) says e in
    let h = name_found holder f.0 f.3 in
    let p = name_found name f.2 f.5 in
    let same : codes "hold" ∷ holder ∷ right ∷ kind ∷ name ∷ [] ≡ codes "hold" ∷ f.0
    ∷ right_word f.1 ∷ codes "port" ∷ f.2 ∷ [] =
    ap (λ x. codes "hold" ∷ x ∷ right ∷ kind ∷ name ∷ []) h.0
    ∙ ap (λ x. codes "hold" ∷ f.0 ∷ x ∷ kind ∷ name ∷ []) (held_right_found right f.1 f.4)
    ∙ ap (λ x. codes "hold" ∷ f.0 ∷ right_word f.1 ∷ x ∷ name ∷ [])
    (word_is kind (codes "port") is)
    ∙ ap (λ x. codes "hold" ∷ f.0 ∷ right_word f.1 ∷ codes "port" ∷ x ∷ []) p.0 in
    subst (AreWordsOf d (codes "hold" ∷ holder ∷ right ∷ kind ∷ name ∷ [])) f.6 (same, h.1, p.1)

task_held : (d : Edition) (holder right kind name : List ℕ) (says : WiringSays)
    → bytes_eq kind (codes "task") ≡ true
    → bytes_eq right (codes "send") ≡ true
    → hold_task_named (name_of holder) (name_of name) ≡ Some says
    → AreWordsOf d (codes "hold" ∷ holder ∷ right ∷ kind ∷ name ∷ []) says
task_held d holder right kind name says is_task is_send e =
    let f = hold_task_parts (name_of holder) (name_of name) says e in
    let h = name_found holder f.0 f.2 in
    let u = name_found name f.1 f.3 in
    let same : codes "hold" ∷ holder ∷ right ∷ kind ∷ name ∷ [] ≡ codes "hold" ∷ f.0
    ∷ codes "send" ∷ codes "task" ∷ f.1 ∷ [] =
    ap (λ x. codes "hold" ∷ x ∷ right ∷ kind ∷ name ∷ []) h.0
    ∙ ap (λ x. codes "hold" ∷ f.0 ∷ x ∷ kind ∷ name ∷ []) (word_is right (codes "send") is_send)
    ∙ ap (λ x. codes "hold" ∷ f.0 ∷ codes "send" ∷ x ∷ name ∷ [])
    (word_is kind (codes "task") is_task)
    ∙ ap (λ x. codes "hold" ∷ f.0 ∷ codes "send" ∷ codes "task" ∷ x ∷ []) u.0 in
    subst (AreWordsOf d (codes "hold" ∷ holder ∷ right ∷ kind ∷ name ∷ [])) f.4 (same, h.1, u.1)

held_found : (d : Edition) (holder right kind name : List ℕ) (says : WiringSays)
    → held holder right kind name ≡ Some says
    → AreWordsOf d (codes "hold" ∷ holder ∷ right ∷ kind ∷ name ∷ []) says
unfolding held
held_found d holder right kind name says e =
    let to_task = bytes_eq kind (codes "task") in
    let to_send = bytes_eq right (codes "send") in
    let as_port = hold_port_named (name_of holder) (held_right right) (name_of name) in
    let as_task = hold_task_named (name_of holder) (name_of name) in
    elim (either (bytes_eq kind (codes "port")) as_port (cond (to_task && to_send) as_task None)
    says e) [
      | inl c ↦ port_held d holder right kind name says c.0 c.1
      | inr c ↦
          let t = chosen (to_task && to_send) as_task says c.1 in
          let w = and_parts to_task to_send t.0 in
          task_held d holder right kind name says w.0 w.1 t.1
    ]

hold_found : (d : Edition) (words : List (List ℕ)) (says : WiringSays)
    → hold_line words ≡ Some says
    → AreWordsOf d (codes "hold" ∷ words) says
unfolding hold_line
hold_found d [] says e = absurd (none-some says e)
hold_found d (a ∷ []) says e = absurd (none-some says e)
hold_found d (a ∷ b ∷ []) says e = absurd (none-some says e)
hold_found d (a ∷ b ∷ c ∷ []) says e = absurd (none-some says e)
hold_found d (holder ∷ right ∷ kind ∷ name ∷ []) says e = held_found d holder right kind name says e
hold_found d (a ∷ b ∷ c ∷ x ∷ y ∷ rest) says e = absurd (none-some says e)

-- ---- `admit`

named_found : (kind : List ℕ → ClassName) (o : Option (List ℕ)) (class : ClassName)
    → named kind o ≡ Some class
    → (name : List ℕ) × (o ≡ Some name) × (kind name ≡ class)
named_found kind (Some name) class e = (name, refl, same_Some _ _ e)
named_found kind None class e = absurd (none-some class e)

-- a class of a kind that has a name alone
plain_named : (d : Edition) (kind : List ℕ → ClassName) (wanted word name : List ℕ)
    (class : ClassName)
    → ((n : List ℕ) → IsTrue (is_name n) → AreClassWords d (wanted ∷ n ∷ []) (kind n))
    → bytes_eq word wanted ≡ true
    → named kind (name_of name) ≡ Some class
    → AreClassWords d (word ∷ name ∷ []) class
plain_named d kind wanted word name class spelled is e =
    let f = named_found kind (name_of name) class e in
    let n = name_found name f.0 f.1 in
    let same : wanted ∷ f.0 ∷ [] ≡ word ∷ name ∷ [] =
    ap (λ w. w ∷ f.0 ∷ []) (sym (word_is word wanted is)) ∙ ap (λ x. word ∷ x ∷ []) (sym n.0) in
    subst (λ ws. AreClassWords d ws class) same
    (subst (AreClassWords d (wanted ∷ f.0 ∷ [])) f.2 (spelled f.0 n.1))

births_of_found : (t : Option (List ℕ)) (k : Option ℕ) (found : ClassName)
    → births_of t k ≡ Some found
    → (task : List ℕ) × (kind : ℕ) × (t ≡ Some task) × (k ≡ Some kind)
    × (class.Births task kind ≡ found)
births_of_found (Some t) (Some k) found e = (t, k, refl, refl, same_Some _ _ e)
births_of_found (Some t) None found e = absurd (none-some found e)
births_of_found None k found e = absurd (none-some found e)

plain_births_named : (d : Edition) (word name : List ℕ) (class : ClassName)
    → bytes_eq word (codes "births") ≡ true
    → births_of (name_of name) (Some 0) ≡ Some class
    → AreClassWords d (word ∷ name ∷ []) class
plain_births_named d word name class is e =
    let f = births_of_found (name_of name) (Some 0) class e in
    let n = name_found name f.0 f.2 in
    let same : word ∷ name ∷ [] ≡ codes "births" ∷ f.0 ∷ [] =
    ap (λ w. w ∷ name ∷ []) (word_is word (codes "births") is)
    ∙ ap (λ x. codes "births" ∷ x ∷ []) n.0 in
    subst (AreClassWords d (word ∷ name ∷ [])) f.4
    (inl (same, sym (same_Some _ _ f.3)), n.1)

plain_class_found : (d : Edition) (word name : List ℕ) (found : ClassName)
    → plain_class word name ≡ Some found
    → AreClassWords d (word ∷ name ∷ []) found
unfolding plain_class
plain_class_found d word name found e =
    let births = births_of (name_of name) (Some 0) in
    let task = named class.Task (name_of name) in
    let port = named class.Port (name_of name) in
    let from_births = cond (bytes_eq word (codes "births")) births None in
    let from_task = cond (bytes_eq word (codes "task")) task from_births in
    elim (either (bytes_eq word (codes "port")) port from_task found e) [
      | inl c ↦ plain_named d class.Port (codes "port") word name found (λ n h. (refl, h)) c.0 c.1
      | inr c ↦
          elim (either (bytes_eq word (codes "task")) task from_births found c.1) [
            | inl t ↦ plain_named d class.Task (codes "task") word name found (λ n h. (refl, h)) t.0
                t.1
            | inr t ↦
                let b = chosen (bytes_eq word (codes "births")) births found t.1 in
                plain_births_named d word name found b.0 b.1
          ]
    ]

births_with_kind_found : (d : Edition) → IsTrue (has_kinds d)
    → (word name kind : List ℕ) (found : ClassName)
    → births_with_kind word name kind ≡ Some found
    → AreClassWords d (word ∷ name ∷ kind ∷ []) found
unfolding births_with_kind
births_with_kind_found d has word name kind found e =
    let c = chosen (bytes_eq word (codes "births")) (births_of (name_of name) (kind_of kind)) found
    e in
    let f = births_of_found (name_of name) (kind_of kind) found c.1 in
    let n = name_found name f.0 f.2 in
    let same : word ∷ name ∷ kind ∷ [] ≡ codes "births" ∷ f.0 ∷ kind ∷ [] =
    ap (λ w. w ∷ name ∷ kind ∷ []) (word_is word (codes "births") c.0)
    ∙ ap (λ x. codes "births" ∷ x ∷ kind ∷ []) n.0 in
    subst (AreClassWords d (word ∷ name ∷ kind ∷ [])) f.4
    (inr (has, (kind, kind_found kind f.1 f.3, same)), n.1)

pub class_found : (d : Edition) (words : List (List ℕ)) (found : ClassName)
    → class_of d words ≡ Some found
    → AreClassWords d words found
unfolding class_of
class_found d [] found e = absurd (none-some found e)
class_found d (a ∷ []) found e = absurd (none-some found e)
class_found d (word ∷ name ∷ []) found e = plain_class_found d word name found e
class_found editions.First (a ∷ b ∷ c ∷ []) found e = absurd (none-some found e)
class_found editions.Second (word ∷ name ∷ kind ∷ []) found e =
    births_with_kind_found editions.Second refl word name kind found e
class_found editions.Third (word ∷ name ∷ kind ∷ []) found e =
    births_with_kind_found editions.Third refl word name kind found e
class_found editions.First (a ∷ b ∷ c ∷ x ∷ rest) found e = absurd (none-some found e)
class_found editions.Second (a ∷ b ∷ c ∷ x ∷ rest) found e = absurd (none-some found e)
class_found editions.Third (a ∷ b ∷ c ∷ x ∷ rest) found e = absurd (none-some found e)

births_again : (d : Edition) (words : List (List ℕ)) (task : List ℕ) (kind : ℕ)
    → AreBirthsWords d words task kind
    → IsTrue (is_name task)
    → class_of d words ≡ Some (class.Births task kind)
unfolding class_of plain_class births_with_kind
births_again d words task kind (inl (same, zeroth)) h =
    rw (same, zeroth) (rw h refl)
births_again editions.First words task kind (inr (has, spelled)) h = absurd (false≢true has)
births_again editions.Second words task kind (inr (has, (word, is, same))) h =
    rw same (rw (h, kind_again word kind is) refl)
births_again editions.Third words task kind (inr (has, (word, is, same))) h =
    rw same (rw (h, kind_again word kind is) refl)

pub class_again : (d : Edition) (words : List (List ℕ)) (class : ClassName)
    → AreClassWords d words class
    → class_of d words ≡ Some class
unfolding class_of plain_class
class_again d words (class.Port n) h = rw h.0 (rw h.1 refl)
class_again d words (class.Task n) h = rw h.0 (rw h.1 refl)
class_again d words (class.Births t k) h = births_again d words t k h.0 h.1

admitted_found : (d : Edition) (words : List (List ℕ)) (class : Option ClassName)
    → admitted d words ≡ Some class
    → AreAdmittedWords d words class
unfolding admitted
admitted_found d [] class e =
    let m = map_is (λ c. Some c) (class_of d []) class e in
    subst (AreAdmittedWords d []) m.2 (class_found d [] m.0 m.1)
admitted_found d (word ∷ []) class e =
    let c = chosen (bytes_eq word (codes "none")) (Some None) class e in
    subst (AreAdmittedWords d (word ∷ [])) (same_Some _ _ c.1)
    (ap (λ w. w ∷ []) (word_is word (codes "none") c.0))
admitted_found d (a ∷ b ∷ rest) class e =
    let m = map_is (λ c. Some c) (class_of d (a ∷ b ∷ rest)) class e in
    subst (AreAdmittedWords d (a ∷ b ∷ rest)) m.2 (class_found d (a ∷ b ∷ rest) m.0 m.1)

-- one word is no class
no_class : (d : Edition) (word : List ℕ) (class : ClassName)
    → class_of d (word ∷ []) ≡ Some class
    → ⊥
unfolding class_of
no_class d word class e = none-some class e

admitted_by_class : (d : Edition) (words : List (List ℕ)) (class : ClassName)
    → class_of d words ≡ Some class
    → admitted d words ≡ Some (Some class)
unfolding admitted
admitted_by_class d [] class e = ap (option_map (λ c. Some c)) e
admitted_by_class d (word ∷ []) class e = absurd (no_class d word class e)
admitted_by_class d (a ∷ b ∷ rest) class e = ap (option_map (λ c. Some c)) e

admitted_again : (d : Edition) (words : List (List ℕ)) (class : Option ClassName)
    → AreAdmittedWords d words class
    → admitted d words ≡ Some class
unfolding admitted
admitted_again d words (Some class) is =
    admitted_by_class d words class (class_again d words class is)
admitted_again d words None is = rw is refl

admit_parts : (s t : Option (List ℕ)) (c : Option (Option ClassName)) (says : WiringSays)
    → admit_named s t c ≡ Some says
    → (subsystem : List ℕ) × (type : List ℕ) × (class : Option ClassName) × (s ≡ Some subsystem)
    × (t ≡ Some type) × (c ≡ Some class) × (Admit subsystem type class ≡ says)
admit_parts (Some s) (Some t) (Some c) says e = (s, t, c, refl, refl, refl, same_Some _ _ e)
admit_parts (Some s) (Some t) None says e = absurd (none-some says e)
admit_parts (Some s) None c says e = absurd (none-some says e)
admit_parts None t c says e = absurd (none-some says e)

admit_found : (d : Edition) (words : List (List ℕ)) (says : WiringSays)
    → admit_line d words ≡ Some says
    → AreWordsOf d (codes "admit" ∷ words) says
unfolding admit_line
admit_found d [] says e = absurd (none-some says e)
admit_found d (slot ∷ words) says e =
    let f = admit_parts (name_of (before_first is_dot slot)) (name_of (after_first is_dot slot))
    (admitted d words) says e in
    let s = slot_found slot f.0 f.1 f.3 f.4 in
    let c = admitted_found d words f.2 f.5 in
    let same : codes "admit" ∷ slot ∷ words ≡ codes "admit" ∷ (f.0 ++ (codes "." ++ f.1)) ∷ words =
    ap (λ x. codes "admit" ∷ x ∷ words) s.0 in
    subst (AreWordsOf d (codes "admit" ∷ slot ∷ words)) f.6
    ((words, c, same), s.1, s.2)

-- ---- `trust` and `replies`

right_found : (word : List ℕ) (right : PortRight)
    → right_of word ≡ Some right
    → word ≡ port_right_word right
unfolding right_of
right_found word right e =
    let once = cond (bytes_eq word (codes "once")) (Some rights.SendOnce) None in
    let receive = cond (bytes_eq word (codes "receive")) (Some rights.Receive) once in
    elim (either (bytes_eq word (codes "send")) (Some rights.Send) receive right e) [
      | inl c ↦ word_is word (codes "send") c.0 ∙ ap port_right_word (same_Some _ _ c.1)
      | inr c ↦
          elim (either (bytes_eq word (codes "receive")) (Some rights.Receive) once right c.1) [
            | inl r ↦ word_is word (codes "receive") r.0 ∙ ap port_right_word (same_Some _ _ r.1)
            | inr r ↦
                let o = chosen (bytes_eq word (codes "once")) (Some rights.SendOnce) right r.1 in
                word_is word (codes "once") o.0 ∙ ap port_right_word (same_Some _ _ o.1)
          ]
    ]

right_again : (right : PortRight) → right_of (port_right_word right) ≡ Some right
unfolding right_of
right_again rights.Send = refl
right_again rights.Receive = refl
right_again rights.SendOnce = refl

right_on_found : (r : Option PortRight) (c : Option ClassName) (found : Option TrustedRight)
    → right_on r c ≡ Some found
    → (right : PortRight) × (class : ClassName) × (r ≡ Some right) × (c ≡ Some class)
    × (Some (record { right = right; class = class }) ≡ found)
right_on_found (Some r) (Some c) found e = (r, c, refl, refl, same_Some _ _ e)
right_on_found (Some r) None found e = absurd (none-some found e)
right_on_found None c found e = absurd (none-some found e)

trusted_right_found : (d : Edition) (words : List (List ℕ)) (right : Option TrustedRight)
    → trusted_right d words ≡ Some right
    → AreNamedWords d words right
unfolding trusted_right
trusted_right_found d [] right e = absurd (none-some right e)
trusted_right_found d (word ∷ []) right e =
    let c = chosen (bytes_eq word (codes "none")) (Some None) right e in
    subst (AreNamedWords d (word ∷ [])) (same_Some _ _ c.1)
    (ap (λ w. w ∷ []) (word_is word (codes "none") c.0))
trusted_right_found d (word ∷ w ∷ rest) right e =
    let f = right_on_found (right_of word) (class_of d (w ∷ rest)) right e in
    subst (AreNamedWords d (word ∷ w ∷ rest)) f.4 (
      w ∷ rest,
      class_found d (w ∷ rest) f.1 f.3,
      ap (λ x. x ∷ w ∷ rest) (right_found word f.0 f.2),
    )

once_words : (d : Edition) (words : List (List ℕ)) (class : Option ClassName)
    → AreAdmittedWords d words class
    → AreOnceWords d words (once_on class)
once_words d words None is = is
once_words d words (Some class) is = (is, refl)

once_found : (d : Edition) (words : List (List ℕ)) (right : Option TrustedRight)
    → option_map once_on (admitted d words) ≡ Some right
    → AreOnceWords d words right
once_found d words right e =
    let m = map_is once_on (admitted d words) right e in
    subst (AreOnceWords d words) m.2 (once_words d words m.0 (admitted_found d words m.0 m.1))

trusted_found : (d : Edition) (verb : TrustVerb) (words : List (List ℕ))
    (right : Option TrustedRight)
    → trusted d verb words ≡ Some right
    → AreTrustedWords d verb words right
trusted_found d Takes words right e = trusted_right_found d words right e
trusted_found d Gives words right e = trusted_right_found d words right e
trusted_found d Sends words right e = trusted_right_found d words right e
trusted_found d Replies words right e = once_found d words right e

verb_found : (word : List ℕ) (verb : TrustVerb) → verb_of word ≡ Some verb → word ≡ verb_word verb
unfolding verb_of
verb_found word verb e =
    let replies = cond (bytes_eq word (codes "replies")) (Some Replies) None in
    let sends = cond (bytes_eq word (codes "sends")) (Some Sends) replies in
    let gives = cond (bytes_eq word (codes "gives")) (Some Gives) sends in
    elim (either (bytes_eq word (codes "takes")) (Some Takes) gives verb e) [
      | inl c ↦ word_is word (codes "takes") c.0 ∙ ap verb_word (same_Some _ _ c.1)
      | inr c ↦
          elim (either (bytes_eq word (codes "gives")) (Some Gives) sends verb c.1) [
            | inl g ↦ word_is word (codes "gives") g.0 ∙ ap verb_word (same_Some _ _ g.1)
            | inr g ↦
                elim (either (bytes_eq word (codes "sends")) (Some Sends) replies verb g.1) [
                  | inl t ↦ word_is word (codes "sends") t.0 ∙ ap verb_word (same_Some _ _ t.1)
                  | inr t ↦
                      let r = chosen (bytes_eq word (codes "replies")) (Some Replies) verb t.1 in
                      word_is word (codes "replies") r.0 ∙ ap verb_word (same_Some _ _ r.1)
                ]
          ]
    ]

verb_again : (verb : TrustVerb) → verb_of (verb_word verb) ≡ Some verb
unfolding verb_of
verb_again Takes = refl
verb_again Gives = refl
verb_again Sends = refl
verb_again Replies = refl

by_found : (d : Edition) (task : List ℕ) (v : Option TrustVerb) (words : List (List ℕ))
    (says : WiringSays)
    → trust_by d task v words ≡ Some says
    → (verb : TrustVerb) × (v ≡ Some verb)
    × (trust_named (name_of task) verb (trusted d verb words) ≡ Some says)
by_found d task (Some verb) words says e = (verb, refl, e)
by_found d task None words says e = absurd (none-some says e)

trust_parts : (t : Option (List ℕ)) (verb : TrustVerb) (r : Option (Option TrustedRight))
    (says : WiringSays)
    → trust_named t verb r ≡ Some says
    → (task : List ℕ) × (right : Option TrustedRight) × (t ≡ Some task) × (r ≡ Some right)
    × (Trust task verb right ≡ says)
trust_parts (Some t) verb (Some r) says e = (t, r, refl, refl, same_Some _ _ e)
trust_parts (Some t) verb None says e = absurd (none-some says e)
trust_parts None verb r says e = absurd (none-some says e)

trust_found : (words : List (List ℕ)) (says : WiringSays)
    → trust_line editions.Third words ≡ Some says
    → AreWordsOf editions.Third (codes "trust" ∷ words) says
unfolding trust_line
trust_found [] says e = absurd (none-some says e)
trust_found (a ∷ []) says e = absurd (none-some says e)
trust_found (task ∷ verb ∷ words) says e =
    let b = by_found editions.Third task (verb_of verb) words says e in
    let f = trust_parts (name_of task) b.0 (trusted editions.Third b.0 words) says b.2 in
    let t = name_found task f.0 f.2 in
    let same : codes "trust" ∷ task ∷ verb ∷ words
    ≡ codes "trust" ∷ f.0 ∷ verb_word b.0 ∷ words =
    ap (λ x. codes "trust" ∷ x ∷ verb ∷ words) t.0
    ∙ ap (λ x. codes "trust" ∷ f.0 ∷ x ∷ words) (verb_found verb b.0 b.1) in
    subst (AreWordsOf editions.Third (codes "trust" ∷ task ∷ verb ∷ words)) f.4
    (refl, (words, trusted_found editions.Third b.0 words f.1 f.3, same), t.1)

fit_found : (words : List (List ℕ)) (says : WiringSays)
    → fit_line words ≡ Some says
    → AreWordsOf editions.Third (codes "replies" ∷ words) says
unfolding fit_line
fit_found [] says e = absurd (none-some says e)
fit_found (word ∷ []) says e =
    let c = chosen (bytes_eq word (codes "fit")) (Some RepliesFit) says e in
    subst (AreWordsOf editions.Third (codes "replies" ∷ word ∷ [])) (same_Some _ _ c.1)
    (refl, ap (λ w. codes "replies" ∷ w ∷ []) (word_is word (codes "fit") c.0))
fit_found (a ∷ b ∷ rest) says e = absurd (none-some says e)

-- no words are no class
no_words : (d : Edition) (class : ClassName) → class_of d [] ≡ Some class → ⊥
unfolding class_of
no_words d class e = none-some class e

right_named_again : (d : Edition) (word : List ℕ) (named : List (List ℕ)) (right : PortRight)
    (class : ClassName)
    → right_of word ≡ Some right
    → class_of d named ≡ Some class
    → trusted_right d (word ∷ named) ≡ Some (Some (record { right = right; class = class }))
unfolding trusted_right
right_named_again d word [] right class r c = absurd (no_words d class c)
right_named_again d word (w ∷ rest) right class r c = rw (r, c) refl

named_again : (d : Edition) (words : List (List ℕ)) (right : Option TrustedRight)
    → AreNamedWords d words right
    → trusted_right d words ≡ Some right
unfolding trusted_right
named_again d words None is = rw is refl
named_again d words (Some on) is =
    ap (trusted_right d) is.2
    ∙ right_named_again d (port_right_word on.right) is.0 on.right on.class (right_again on.right)
    (class_again d is.0 on.class is.1)

once_again : (d : Edition) (words : List (List ℕ)) (right : Option TrustedRight)
    → AreOnceWords d words right
    → option_map once_on (admitted d words) ≡ Some right
once_again d words None is = ap (option_map once_on) (admitted_again d words None is)
once_again d words (Some on) is =
    ap (option_map once_on) (admitted_again d words (Some on.class) is.0)
    ∙ ap (λ (r : PortRight). Some (Some (record { right = r; class = on.class }))) (sym is.1)

trusted_again : (d : Edition) (verb : TrustVerb) (words : List (List ℕ))
    (right : Option TrustedRight)
    → AreTrustedWords d verb words right
    → trusted d verb words ≡ Some right
trusted_again d Takes words right is = named_again d words right is
trusted_again d Gives words right is = named_again d words right is
trusted_again d Sends words right is = named_again d words right is
trusted_again d Replies words right is = once_again d words right is

trust_again : (task : List ℕ) (verb : TrustVerb) (right : Option TrustedRight)
    (named : List (List ℕ))
    → AreTrustedWords editions.Third verb named right
    → IsTrue (is_name task)
    → trust_line editions.Third (task ∷ verb_word verb ∷ named) ≡ Some (Trust task verb right)
unfolding trust_line
trust_again task verb right named is h =
    ap (λ v. trust_by editions.Third task v named) (verb_again verb)
    ∙ (ap (λ r. trust_named (name_of task) verb r)
    (trusted_again editions.Third verb named right is)
    ∙ rw h refl)

-- ---- any line

at_key : (d : Edition) (key wanted : List ℕ) (words : List (List ℕ)) (says : WiringSays)
    → bytes_eq key wanted ≡ true
    → AreWordsOf d (wanted ∷ words) says
    → AreWordsOf d (key ∷ words) says
at_key d key wanted words says is h =
    subst (λ k. AreWordsOf d (k ∷ words) says) (sym (word_is key wanted is)) h

-- what words say behind a key, if it is this one or a later one
abbrev from_admit : Edition → List ℕ → List (List ℕ) → Option WiringSays
from_admit d key words =
    cond (bytes_eq key (codes "admit")) (admit_line d words) (third_says d key words)

abbrev from_hold : Edition → List ℕ → List (List ℕ) → Option WiringSays
from_hold d key words =
    cond (bytes_eq key (codes "hold")) (hold_line words) (from_admit d key words)

abbrev from_births : Edition → List ℕ → List (List ℕ) → Option WiringSays
from_births d key words =
    cond (bytes_eq key (codes "births")) (births_line d words) (from_hold d key words)

abbrev from_port : Edition → List ℕ → List (List ℕ) → Option WiringSays
from_port d key words =
    cond (bytes_eq key (codes "port")) (port_line words) (from_births d key words)

in_third : (d : Edition) (key : List ℕ) (words : List (List ℕ)) (says : WiringSays)
    → third_says d key words ≡ Some says
    → AreWordsOf d (key ∷ words) says
in_third editions.First key words says e = absurd (none-some says e)
in_third editions.Second key words says e = absurd (none-some says e)
in_third editions.Third key words says e =
    let fit = cond (bytes_eq key (codes "replies")) (fit_line words) None in
    elim (either (bytes_eq key (codes "trust")) (trust_line editions.Third words) fit says e) [
      | inl c ↦
          at_key editions.Third key (codes "trust") words says c.0 (trust_found words says c.1)
      | inr c ↦
          let f = chosen (bytes_eq key (codes "replies")) (fit_line words) says c.1 in
          at_key editions.Third key (codes "replies") words says f.0 (fit_found words says f.1)
    ]

in_admit : (d : Edition) (key : List ℕ) (words : List (List ℕ)) (says : WiringSays)
    → from_admit d key words ≡ Some says
    → AreWordsOf d (key ∷ words) says
in_admit d key words says e =
    elim (either (bytes_eq key (codes "admit")) (admit_line d words) (third_says d key words) says
    e) [
      | inl c ↦ at_key d key (codes "admit") words says c.0 (admit_found d words says c.1)
      | inr c ↦ in_third d key words says c.1
    ]

in_hold : (d : Edition) (key : List ℕ) (words : List (List ℕ)) (says : WiringSays)
    → from_hold d key words ≡ Some says
    → AreWordsOf d (key ∷ words) says
in_hold d key words says e =
    elim (either (bytes_eq key (codes "hold")) (hold_line words) (from_admit d key words) says e) [
      | inl c ↦ at_key d key (codes "hold") words says c.0 (hold_found d words says c.1)
      | inr c ↦ in_admit d key words says c.1
    ]

in_births : (d : Edition) (key : List ℕ) (words : List (List ℕ)) (says : WiringSays)
    → from_births d key words ≡ Some says
    → AreWordsOf d (key ∷ words) says
in_births d key words says e =
    elim (either (bytes_eq key (codes "births")) (births_line d words) (from_hold d key words) says
    e) [
      | inl c ↦ at_key d key (codes "births") words says c.0 (births_found d words says c.1)
      | inr c ↦ in_hold d key words says c.1
    ]

in_port : (d : Edition) (key : List ℕ) (words : List (List ℕ)) (says : WiringSays)
    → from_port d key words ≡ Some says
    → AreWordsOf d (key ∷ words) says
in_port d key words says e =
    elim (either (bytes_eq key (codes "port")) (port_line words) (from_births d key words) says e) [
      | inl c ↦ at_key d key (codes "port") words says c.0 (port_found d words says c.1)
      | inr c ↦ in_births d key words says c.1
    ]

line_found : (d : Edition) (words : List (List ℕ)) (says : WiringSays)
    → wiring_says d words ≡ Some says
    → AreWordsOf d words says
unfolding wiring_says
line_found d [] says e = absurd (none-some says e)
line_found d (key ∷ words) says e =
    elim (either (bytes_eq key (codes "task")) (task_line words) (from_port d key words) says e) [
      | inl c ↦ at_key d key (codes "task") words says c.0 (task_found d words says c.1)
      | inr c ↦ in_port d key words says c.1
    ]

births_line_again : (d : Edition) (named : List (List ℕ)) (task : List ℕ) (kind : ℕ)
    (accepts : List Item)
    → AreKindWords d named task kind
    → IsTrue (is_name task)
    → AllByRecursion HasName accepts
    → births_line d (named ++ codes "accepts" ∷ items_words accepts)
    ≡ Some (Births task kind accepts)
unfolding plain_births kind_births
births_line_again editions.First named task kind accepts is h each =
    rw (is.0, is.1) (rw (h, items_again accepts each) refl)
births_line_again editions.Second named task kind accepts is h each =
    rw is.2 (rw (h, kind_again is.0 kind is.1, items_again accepts each) refl)
births_line_again editions.Third named task kind accepts is h each =
    rw is.2 (rw (h, kind_again is.0 kind is.1, items_again accepts each) refl)

admit_line_again : (d : Edition) (named : List (List ℕ)) (s t : List ℕ) (class : Option ClassName)
    → AreAdmittedWords d named class
    → IsTrue (is_name s)
    → IsTrue (is_name t)
    → admit_line d ((s ++ (codes "." ++ t)) ∷ named) ≡ Some (Admit s t class)
unfolding admit_line
admit_line_again d named s t class is hs ht =
    let slot = slot_again s t hs in
    ap (λ b. admit_named (name_of b) (name_of (after_first is_dot (s ++ 46 ∷ t)))
    (admitted d named)) slot.0
    ∙ ap (λ a. admit_named (name_of s) (name_of a) (admitted d named)) slot.1
    ∙ rw (hs, ht, admitted_again d named class is) refl

line_again : (d : Edition) (words : List (List ℕ)) (says : WiringSays)
    → AreWordsOf d words says
    → wiring_says d words ≡ Some says
unfolding wiring_says task_line port_line hold_line held held_right fit_line
line_again d words (Task t) h = rw h.0 (rw h.1 refl)
line_again d words (Port p r a) h = rw h.0 (rw (h.1, h.2, items_again a h.3) refl)
line_again d words (Births t k a) h =
    ap (wiring_says d) h.0.2 ∙ births_line_again d h.0.0 t k a h.0.1 h.1 h.2
line_again d words (HoldPort t Send p) h = rw h.0 (rw (h.1, h.2) refl)
line_again d words (HoldPort t SendOnce p) h = rw h.0 (rw (h.1, h.2) refl)
line_again d words (HoldTask t u) h = rw h.0 (rw (h.1, h.2) refl)
line_again d words (Admit s t c) h =
    ap (wiring_says d) h.0.2 ∙ admit_line_again d h.0.0 s t c h.0.1 h.1 h.2
line_again d words (Trust t v r) h =
    let named = h.1.0 in
    let third : AreTrustedWords editions.Third v named r =
    subst (λ e. AreTrustedWords e v named r) h.0 h.1.1 in
    ap (wiring_says d) h.1.2
    ∙ (ap (λ e. wiring_says e (codes "trust" ∷ t ∷ verb_word v ∷ named)) h.0
    ∙ trust_again t v r named third h.2)
line_again d words RepliesFit h = rw (h.0, h.1) refl

pub each_line_is_spelled : EachLineIsSpelled
each_line_is_spelled = λ d words says. (line_found d words says, line_again d words says)

-- ---- policies

forbid_parts : (t : Option (List ℕ)) (r : Option PortRight) (c : Option ClassName) (says : Forbid)
    → forbid_line t r c ≡ Some says
    → (t ≡ Some says.task) × (r ≡ Some says.right) × (c ≡ Some says.class)
forbid_parts (Some t) (Some r) (Some c) says e =
    let same = same_Some _ _ e in (
      ap (λ (f : Forbid). Some f.task) same,
      ap (λ (f : Forbid). Some f.right) same,
      ap (λ (f : Forbid). Some f.class) same,
    )
forbid_parts (Some t) (Some r) None says e = absurd (none-some says e)
forbid_parts (Some t) None c says e = absurd (none-some says e)
forbid_parts None r c says e = absurd (none-some says e)

forbid_found : (d : Edition) (words : List (List ℕ)) (says : Forbid)
    → policy_says d words ≡ Some says
    → AreForbidWords d words says
unfolding policy_says
forbid_found d [] says e = absurd (none-some says e)
forbid_found d (a ∷ []) says e = absurd (none-some says e)
forbid_found d (a ∷ b ∷ []) says e = absurd (none-some says e)
forbid_found d (key ∷ task ∷ right ∷ class) says e =
    let c = chosen (bytes_eq key (codes "forbid"))
    (forbid_line (name_of task) (right_of right) (class_of d class)) says e in
    let f = forbid_parts (name_of task) (right_of right) (class_of d class) says c.1 in
    let t = name_found task says.task f.0 in
    let same : key ∷ task ∷ right ∷ class
    ≡ codes "forbid" ∷ says.task ∷ port_right_word says.right ∷ class =
    ap (λ x. x ∷ task ∷ right ∷ class) (word_is key (codes "forbid") c.0)
    ∙ ap (λ x. codes "forbid" ∷ x ∷ right ∷ class) t.0
    ∙ ap (λ x. codes "forbid" ∷ says.task ∷ x ∷ class) (right_found right says.right f.1) in
    ((class, class_found d class says.class f.2, same), t.1)

forbid_again : (d : Edition) (words : List (List ℕ)) (says : Forbid)
    → AreForbidWords d words says
    → policy_says d words ≡ Some says
unfolding policy_says
forbid_again d words says is =
    rw is.0.2 (rw (is.1, right_again says.right, class_again d is.0.0 says.class is.0.1) refl)

pub each_policy_line_is_spelled : EachPolicyLineIsSpelled
each_policy_line_is_spelled =
    λ d words says. (forbid_found d words says, forbid_again d words says)
