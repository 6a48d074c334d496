-- Which receive rights were destroyed, port by port, and how often each of them is counted.
use Rattle.std.proofs.Common.{Bool, List, Some, T, [], ap, arith, false, if◌then◌else◌, inl, inr}
use Rattle.std.proofs.Common.{map, refl, sym, true, ℕ, ◌&&◌, ◌++◌, ◌+◌, ◌<◌, ◌==◌, ◌||◌, ◌∙◌, ◌∷◌}
use Rattle.std.proofs.Common.{◌≡◌, ◌≤◌}
use Rattle.std.proofs.lemmas.Bool.{cases_eq, eq-eqb, ne_eqb, or_cases}
use Rattle.mrc_base.specs.declared.PortRight.{PortRight}
use Rattle.mrc_base.specs.declared.PortRight.TheVariants.{Receive, Send, SendOnce}
use Rattle.mrc_model.proofs.Maps.{find_cases, not_None}
use Rattle.mrc_model.specs.Death.{has_receive, is_receive_of}
use Rattle.mrc_model.specs.Rights.{is_receive}
use Rattle.mrc_model.specs.Rising.{at_least, find_key, left_holds, is_rising, right_holds}
use Rattle.mrc_model.specs.World.{Held, Port, one_if_receive, receives}
use Rattle.mrc_cover.proofs.Rights.{receives-append, right_on}

-- a right counts where it is the receive right of the port
one : (p q : ℕ) (r : PortRight) → one_if_receive p q r ≡ (if is_receive r && q == p then 1 else 0)
one p q Receive = refl
one p q Send = refl
one p q SendOnce = refl

-- a receive right that is there counts
pub has_is_counted : (p : ℕ) (hs : List Held) → has_receive p hs ≡ true → 1 ≤ receives p hs
has_is_counted p [] e = cc
has_is_counted p (h ∷ hs) e = elim (or_cases (is_receive_of p h) (has_receive p hs) e) [
  | inl a ↦
      let b : one_if_receive p h.port h.right ≡ 1 = one p h.port h.right
      ∙ ap (λ (v : Bool). if v then 1 else 0) a in
      omega arith
  | inr a ↦ let b = has_is_counted p hs a in omega arith
]

-- and one that is not does not
pub not_counted : (p : ℕ) (hs : List Held) → has_receive p hs ≡ false → receives p hs ≡ 0
not_counted p [] e = refl
not_counted p (h ∷ hs) e =
    let go : (b : Bool) → is_receive_of p h ≡ b → (b || has_receive p hs) ≡ false
    → receives p (h ∷ hs) ≡ 0 = elim [
      | true ↦ λ a z. cc
      | false ↦ λ a z.
          let b : one_if_receive p h.port h.right ≡ 0 = one p h.port h.right
          ∙ ap (λ (v : Bool). if v then 1 else 0) a in
          let d = not_counted p hs z in omega arith
    ] in
    go (is_receive_of p h) refl e

-- which receive rights are destroyed, port by port
abbrev pub pending : List Held → List ℕ → List Held
pending hs [] = []
pending hs (p ∷ ps) = (if has_receive p hs then right_on p Receive ∷ [] else []) ++ pending hs ps

-- strictly rising numbers
abbrev pub IsRisingFrom : ℕ → List ℕ → Type 0
IsRisingFrom low [] = Unit {0}
IsRisingFrom low (p ∷ ps) = (low ≤ p) × IsRisingFrom (p + 1) ps

-- the keys of a rising list rise
pub keys_rise : (low : ℕ) (es : List (ℕ × Port)) → T (is_rising low es)
    → IsRisingFrom low (map (λ e. e.0) es)
keys_rise low [] r = tt
keys_rise low (e ∷ es) r =
    (at_least low e.0 (left_holds _ _ r), keys_rise (e.0 + 1) es (right_holds _ _ r))

-- another port's right does not count
single : (q p : ℕ) (b : Bool) → (q ≡ p → ⊥)
    → receives q (if b then right_on p Receive ∷ [] else []) ≡ 0
single q p true n = rw (ne_eqb p q (λ e. n (sym e)))
single q p false n = refl

-- the port's right counts once
single_same : (q p : ℕ) (b : Bool) → q ≡ p
    → receives q (if b then right_on p Receive ∷ [] else []) ≡ (if b then 1 else 0)
single_same q p true e = rw e (rw (eq-eqb p p refl))
single_same q p false e = refl

-- no port below the first is pending
pending_low : (q low : ℕ) (hs : List Held) (ps : List ℕ) → q < low → IsRisingFrom low ps
    → receives q (pending hs ps) ≡ 0
pending_low q low hs [] l r = refl
pending_low q low hs (p ∷ ps) l r =
    let a = r.0 in
    let rest = pending_low q (p + 1) hs ps (omega arith) r.1 in
    let here = single q p (has_receive p hs) (λ (z : q ≡ p). absurd (omega arith)) in
    let b = receives-append q (if has_receive p hs then right_on p Receive ∷ [] else [])
    (pending hs ps) in omega arith

-- two sums
sums : {a b c : ℕ} → a ≡ c → b ≡ 0 → a + b ≡ c
sums e z = omega arith

-- each destroyed receive right is pending once
pub pending_count : (q low : ℕ) (hs : List Held) (es : List (ℕ × Port)) (x : Port)
    → T (is_rising low es)
    → find_key q es ≡ Some x
    → receives q (pending hs (map (λ e. e.0) es)) ≡ (if has_receive q hs then 1 else 0)
pending_count q low hs [] x r is = absurd (not_None x (sym is))
pending_count q low hs (e ∷ es) x r is =
    let head = if has_receive e.0 hs then right_on e.0 Receive ∷ [] else [] in
    let tail = pending hs (map (λ e. e.0) es) in
    let b = receives-append q head tail in
    elim (cases_eq q e.0) [
      | inl same ↦
          let rest = pending_low q (e.0 + 1) hs (map (λ e. e.0) es) (omega arith)
          (keys_rise (e.0 + 1) es (right_holds _ _ r)) in
          let here = single_same q e.0 (has_receive e.0 hs) same in
          let z : ◌≡◌ {A = ℕ} (if has_receive e.0 hs then 1 else 0)
          (if has_receive q hs then 1 else 0) =
          ap (λ v. if has_receive v hs then 1 else 0) (sym same) in
          b ∙ sums here rest ∙ z
      | inr apart ↦ elim (find_cases e es q x is) [
        | inl h ↦ absurd (apart h.0)
        | inr h ↦
            let rest : receives q tail ≡ (if has_receive q hs then 1 else 0) = pending_count q
            (e.0 + 1) hs es x (right_holds _ _ r) h in
            let here = single q e.0 (has_receive e.0 hs) apart in
            omega arith
      ]
    ]
