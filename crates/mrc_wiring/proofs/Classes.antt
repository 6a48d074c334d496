-- What a class accepts and what a type admits, by the table.
use Rattle.std.proofs.Common.{◌≡◌, ℕ, zero, suc, ◌+◌, ◌-◌, ◌<◌, ◌≤◌, true, false, List, []}
use Rattle.std.proofs.Common.{◌∷◌}
use Rattle.std.proofs.Common.{◌++◌, length, map, refl, ap, sym, ◌∙◌, arith}
use Rattle.std.proofs.Common.{◌||◌}
use Rattle.std.proofs.Common.{get_or, nat_lt, if◌then◌else◌}
use Rattle.std.proofs.lemmas.List.{length-map}
use Rattle.std.specs.Prelude.{slice_get, unwrap_or}
use Rattle.std.proofs.lemmas.Bool.{lt-ltb, le-ltb, ltb-true, ltb-false}
use Rattle.std.proofs.lemmas.Option.{unwrap_or-slice_get}
use Rattle.std.proofs.lemmas.List.{get_or_append_left, get_or_past}
use Rattle.mrc_model.specs.Wiring.{label, classes}
use Rattle.mrc_wiring.specs.Births.{of_row, pair_of}
use Rattle.mrc_wiring.specs.Table.{Table, IsTable, wiring_of, labels_of, of_kernel}

-- what is read behind a first part
pub behind : {X : Type 0} (xs ys : List X) (i j : ℕ) (d : X)
    → i ≡ length xs + j
    → get_or (xs ++ ys) i d ≡ get_or ys j d
behind [] ys i j d e = let same : i ≡ j = omega arith in ap (λ k. get_or ys k d) same
behind (x ∷ xs) ys zero j d e = absurd (omega arith)
behind (x ∷ xs) ys (suc i) j d e = behind xs ys i j d (omega arith)

nothing_of_kernels : (names : List (List ℕ)) (i : ℕ) → get_or (map of_kernel names) i [] ≡ []
nothing_of_kernels [] i = refl
nothing_of_kernels (name ∷ names) zero = refl
nothing_of_kernels (name ∷ names) (suc i) = nothing_of_kernels names i

-- the label of a class that is there
there : (table : Table) (c : ℕ)
    → c < classes (wiring_of table)
    → label (wiring_of table) c ≡ get_or (labels_of table) c []
there table c less =
    ap (λ b. if b then unwrap_or (slice_get (labels_of table) c) [] else [])
    (lt-ltb c (classes (wiring_of table)) less)
    ∙ unwrap_or-slice_get (labels_of table) c []

-- of a wired port
pub port_label : (table : Table) (c : ℕ)
    → IsTable table
    → c < length table.ports
    → label (wiring_of table) c ≡ get_or table.accepts c []
port_label table c is less =
    there table c (omega arith)
    ∙ get_or_append_left table.accepts _ [] c (omega (arith, is.accepts))

-- of a kernel port
pub kernel_label : (table : Table) (c : ℕ)
    → IsTable table
    → length table.ports ≤ c
    → c < length table.ports + length table.names
    → label (wiring_of table) c ≡ []
kernel_label table c is high less =
    there table c (omega arith)
    ∙ behind table.accepts _ c (c - length table.ports) [] (omega (arith, is.accepts))
    ∙ get_or_append_left (map of_kernel table.names) (map of_row table.births) []
    (c - length table.ports) (omega (arith, length-map table.names of_kernel))
    ∙ nothing_of_kernels table.names (c - length table.ports)

-- of births, or of no class
pub births_label : (table : Table) (c k : ℕ)
    → IsTable table
    → c ≡ length table.ports + length table.names + k
    → label (wiring_of table) c ≡ get_or (map of_row table.births) k []
births_label table c k is e =
    let many = length-map table.births pair_of in
    let rows = length-map table.births of_row in
    elim (nat_lt k (length table.births)) as (λ b. nat_lt k (length table.births) ≡ b
    → label (wiring_of table) c ≡ get_or (map of_row table.births) k []) [
      | true ↦ λ low.
          let less = ltb-true k (length table.births) low in
          there table c (omega arith)
          ∙ behind table.accepts _ c (length table.names + k) [] (omega (arith, is.accepts))
          ∙ behind (map of_kernel table.names) (map of_row table.births) (length table.names +
          k) k []
          (omega (arith, length-map table.names of_kernel))
      | false ↦ λ low.
          let past = ltb-false k (length table.births) low in
          ap (λ b. if b then unwrap_or (slice_get (labels_of table) c) [] else [])
          (le-ltb c (classes (wiring_of table)) (omega arith))
          ∙ sym (get_or_past (map of_row table.births) k [] (omega arith))
    ] refl
