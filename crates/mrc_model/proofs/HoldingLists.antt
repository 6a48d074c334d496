-- The list of a world's holdings has what is held, and nothing else.
use Rattle.std.proofs.Common.{◌≡◌, ℕ, ◌+◌, inl, inr, T, List, [], ◌∷◌, Option, Some, None, refl}
use Rattle.std.proofs.Common.{sym, ap, subst}
use Rattle.std.specs.Prelude.{map}
use Rattle.std.specs.Option.{unwrap_or}
use Rattle.mrc_base.specs.declared.PortRight.{PortRight}
use Rattle.mrc_model.specs.declared.Entry.{Entry}
use Rattle.mrc_model.specs.IsIn.{IsIn, here, later}
use Rattle.mrc_model.specs.Rising.{is_rising, find_key, right_holds}
use Rattle.mrc_model.specs.Map.{empty, get}
use Rattle.mrc_model.specs.World.{Space, World, Held, entry_rights}
use Rattle.mrc_model.specs.Breach.{Holds, Holding, entry_holdings, space_holdings, spaces_holdings}
use Rattle.mrc_model.specs.Breach.{holdings}
use Rattle.mrc_model.proofs.Maps.{not_None, find_later, find_here, find_cases}
use Rattle.mrc_model.proofs.FirstHeld.{in_cons}
use Rattle.mrc_model.proofs.Members.{in_left, in_right, in_append}

abbrev holding : ℕ → Held → Holding
holding t h = record { task = t; port = h.port; right = h.right }

-- the right of a holding
abbrev shown : Holding → Held
shown v = record { port = v.port; right = v.right }

-- an entry's holdings

in_entry : (t : ℕ) (hs : List Held) (h : Held) → IsIn h hs
    → IsIn (holding t h) (map (λ (g : Held). holding t g) hs)
in_entry t [] h m = elim m [ ]
in_entry t (g ∷ hs) h (here) = here
in_entry t (g ∷ hs) h (later m) = later (in_entry t hs h m)

of_entry : (t u : ℕ) (hs : List Held) (h : Held)
    → IsIn (holding u h) (map (λ (g : Held). holding t g) hs) → (u ≡ t) × IsIn h hs
of_entry t u [] h m = elim m [ ]
of_entry t u (g ∷ hs) h m =
    elim (in_cons (holding u h) (holding t g) (map (λ (v : Held). holding t v) hs) m) [
      | inl e ↦ (
        ap (λ (v : Holding). v.task) e,
        subst (λ v. IsIn v (g ∷ hs)) (sym (ap shown e)) here,
      )
      | inr there ↦ let z = of_entry t u hs h there in (z.0, later z.1)
    ]

-- a space's

in_space : (t low : ℕ) (es : List (ℕ × Entry)) → T (is_rising low es)
    → (n : ℕ) (e : Entry) (h : Held) → find_key n es ≡ Some e → IsIn h (entry_rights e)
    → IsIn (holding t h) (space_holdings t es)
in_space t low [] r n e h is m = absurd (not_None e (sym is))
in_space t low (f ∷ es) r n e h is m = elim (find_cases f es n e is) [
  | inl at ↦ in_left (holding t h) (entry_holdings t f.1) (space_holdings t es)
      (in_entry t (entry_rights f.1) h (subst (λ v. IsIn h (entry_rights v)) (sym at.1) m))
  | inr rest ↦ in_right (holding t h) (entry_holdings t f.1) (space_holdings t es)
      (in_space t (f.0 + 1) es (right_holds _ _ r) n e h rest m)
]

abbrev ShownIn : List (ℕ × Entry) → Held → Type 0
ShownIn es h = (n : ℕ) × (e : Entry) × (find_key n es ≡ Some e) × IsIn h (entry_rights e)

of_space : (t u low : ℕ) (es : List (ℕ × Entry)) → T (is_rising low es) → (h : Held)
    → IsIn (holding u h) (space_holdings t es) → (u ≡ t) × ShownIn es h
of_space t u low [] r h m = elim m [ ]
of_space t u low (f ∷ es) r h m =
    elim (in_append (holding u h) (entry_holdings t f.1) (space_holdings t es) m) [
      | inl z ↦
          let a = of_entry t u (entry_rights f.1) h z in (a.0, (f.0, f.1, find_here f es, a.1))
      | inr z ↦
          let a = of_space t u (f.0 + 1) es (right_holds _ _ r) h z in
          (a.0, (a.1.0, a.1.1, find_later low f es a.1.0 a.1.1 r a.1.2, a.1.3))
    ]

-- all spaces'

in_spaces : (low : ℕ) (xs : List (ℕ × Space)) → T (is_rising low xs)
    → (t : ℕ) (x : Space) (h : Held) → find_key t xs ≡ Some x → ShownIn x.list h
    → IsIn (holding t h) (spaces_holdings xs)
in_spaces low [] r t x h is m = absurd (not_None x (sym is))
in_spaces low (y ∷ xs) r t x h is m = elim (find_cases y xs t x is) [
  | inl at ↦ in_left (holding t h) (space_holdings y.0 y.1.list) (spaces_holdings xs)
      (subst (λ v. IsIn (holding v h) (space_holdings y.0 y.1.list)) (sym at.0)
      (subst (λ (v : Space). IsIn (holding y.0 h) (space_holdings y.0 v.list)) (sym at.1)
      (in_space y.0 0 x.list x.rising m.0 m.1 h m.2 m.3)))
  | inr rest ↦ in_right (holding t h) (space_holdings y.0 y.1.list) (spaces_holdings xs)
      (in_spaces (y.0 + 1) xs (right_holds _ _ r) t x h rest m)
]

of_spaces : (low : ℕ) (xs : List (ℕ × Space)) → T (is_rising low xs) → (t : ℕ) (h : Held)
    → IsIn (holding t h) (spaces_holdings xs)
    → (x : Space) × (find_key t xs ≡ Some x) × ShownIn x.list h
of_spaces low [] r t h m = elim m [ ]
of_spaces low (y ∷ xs) r t h m =
    elim (in_append (holding t h) (space_holdings y.0 y.1.list) (spaces_holdings xs) m) [
      | inl z ↦ let a = of_space y.0 t 0 y.1.list y.1.rising h z in
          (y.1, subst (λ v. find_key v (y ∷ xs) ≡ Some y.1) (sym a.0) (find_here y xs), a.1)
      | inr z ↦ let a = of_spaces (y.0 + 1) xs (right_holds _ _ r) t h z in
          (a.0, find_later low y xs t a.0 r a.1, a.2)
    ]

abbrev ShownAt : Option Space → Held → Type 0
ShownAt o h = (n : ℕ) × (e : Entry) × (get (unwrap_or o empty) n ≡ Some e) × IsIn h (entry_rights e)

pub is_held : (w : World) (t p : ℕ) (r : PortRight)
    → IsIn record { task = t; port = p; right = r } (holdings w) → Holds w t p r
unfolding get
is_held w t p r m =
    let h : Held = record { port = p; right = r } in
    let a = of_spaces 0 w.store.spaces.list w.store.spaces.rising t h m in
    subst (λ o. ShownAt o h) (sym a.1) (a.2.0, a.2.1, a.2.2, a.2.3)

pub held_is : (w : World) (t p : ℕ) (r : PortRight) → Holds w t p r
    → IsIn record { task = t; port = p; right = r } (holdings w)
unfolding get empty
held_is w t p r m =
    let h : Held = record { port = p; right = r } in
    let go : (o : Option Space) → get w.store.spaces t ≡ o → ShownAt o h
    → IsIn (holding t h) (holdings w) = elim [
      | None ↦ λ is z. absurd (not_None z.1 (sym z.2))
      | Some x ↦ λ is z. in_spaces 0 w.store.spaces.list w.store.spaces.rising t x h is
          (z.0, z.1, z.2, z.3)
    ] in
    go (get w.store.spaces t) refl m
