-- Lines as they are written, one after the other.
use Rattle.std.proofs.Common.{◌≡◌, ◌<◌, ◌≤◌, ◌+◌, ℕ, Bool, true, false, eqb, List, [], ◌∷◌, ◌++◌}
use Rattle.std.proofs.Common.{length, get_or, drop, refl, ap, sym, subst, ◌∙◌, append_assoc, inl, inr}
use Rattle.std.proofs.Common.{drop-cons, add-one}
use Rattle.std.specs.Prelude.{flat_map}
use Rattle.std.proofs.lemmas.Bool.{cases_Bool, eqb-true}
use Rattle.std.proofs.lemmas.Bool.Decides.{eqb_tells}
use Rattle.std.proofs.lemmas.List.{append-nil}
use Rattle.std.proofs.Math.ListN.{drop_of_length-le}
use Rattle.mrc_base.specs.declared.Fact.{Fact}
use Rattle.mrc_wiring_text.specs.declared.reading.Line.{Line}
use Rattle.mrc_wiring_text.specs.declared.wiring.WiringSays.{WiringSays}
use Rattle.mrc_wiring.specs.Table.{Table}
use Rattle.mrc_dead.specs.declared.parts.QuietLine.{QuietLine}
use Rattle.mrc_dead.specs.Dead.{Written, class_list, class_declared, in_front, written_lines}
use Rattle.mrc_dead.specs.Dead.{quiet_line, quiet_written, quiet_lines}
use Rattle.mrc_dead.specs.Searching.{going_on, ended}

eqb-refl : (n : ℕ) → eqb n n ≡ true
eqb-refl n =
    elim (eqb_tells n n) [
      | inl same ↦ same.0
      | inr apart ↦ absurd (apart.1 refl)
    ]

-- classes of one line are put together
same_front : (n : ℕ) (cs ds : List ℕ) (ws : List Written)
    → in_front n cs (in_front n ds ws) ≡ in_front n (cs ++ ds) ws
same_front n cs ds [] = rw (eqb-refl n) refl
same_front n cs ds (w ∷ ws) =
    elim (cases_Bool (eqb n w.line)) [
      | inl same ↦ rw (same, eqb-refl n)
          (ap (λ (xs : List ℕ). record { line = n; classes = xs } ∷ ws)
          (sym (append_assoc cs ds w.classes)))
      | inr other ↦ rw (other, eqb-refl n) refl
    ]

-- those of another stand by themselves
other_front : (n m : ℕ) (cs ds : List ℕ) (ws : List Written)
    → eqb n m ≡ false
    → in_front n cs (in_front m ds ws) ≡ record { line = n; classes = cs } ∷ in_front m ds ws
other_front n m cs ds [] e = rw e refl
other_front n m cs ds (w ∷ ws) e =
    elim (cases_Bool (eqb m w.line)) [
      | inl same ↦ rw (same, e) refl
      | inr other ↦ rw (other, e) refl
    ]

-- the quiet lines among written ones
abbrev quiet_of : Table → (Fact → Bool) → List Written → List QuietLine
quiet_of table set ws = flat_map (quiet_written table set) ws

-- a line without classes adds nothing
pub nothing_front : (table : Table) (set : Fact → Bool) (n : ℕ) (ws : List Written)
    → quiet_of table set ws ≡ quiet_of table set (in_front n [] ws)
nothing_front table set n [] = refl
nothing_front table set n (w ∷ ws) =
    elim (cases_Bool (eqb n w.line)) [
      | inl same ↦ rw same (ap (λ (k : ℕ). quiet_line table set k w.classes ++ quiet_of table set ws)
          (sym (eqb-true n w.line same)))
      | inr other ↦ rw other refl
    ]

-- a line more behind the last
one_more : (table : Table) (set : Fact → Bool) (last number : ℕ) (cs ds : List ℕ)
    (ws : List Written)
    → quiet_of table set (in_front last cs (in_front number ds ws))
    ≡ ended table set last number cs
    ++ quiet_of table set (in_front number (going_on last number cs ++ ds) ws)
one_more table set last number cs ds ws =
    elim (cases_Bool (eqb last number)) [
      | inl same ↦ rw same (subst (λ (k : ℕ). quiet_of table set (in_front last cs
          (in_front k ds ws)) ≡ quiet_of table set (in_front k (cs ++ ds) ws))
          (eqb-true last number same)
          (ap (quiet_of table set) (same_front last cs ds ws)))
      | inr other ↦ rw other (ap (quiet_of table set) (other_front last number cs ds ws other))
    ]

next_is : {X : Type 0} (xs : List X) (i : ℕ) (d : X) → i < length xs
    → drop i xs ≡ get_or xs i d ∷ drop (i + 1) xs
next_is xs i d less =
    drop-cons xs i d less ∙ ap (λ n. get_or xs i d ∷ drop n xs) (sym (add-one i))

-- what is told of all lines is what was told, and what is told of the last line with those behind
abbrev pub ToldSoFar : Table → (Fact → Bool) → List (Line WiringSays) → List QuietLine → ℕ → List ℕ
    → List (Line WiringSays) → Type 0
ToldSoFar table set lines quiet last cs rest =
    quiet_lines table set lines
    ≡ quiet ++ quiet_of table set (in_front last cs (written_lines table rest))

pub told_first : (table : Table) (set : Fact → Bool) (lines : List (Line WiringSays))
    → ToldSoFar table set lines [] 0 [] lines
told_first table set lines = nothing_front table set 0 (written_lines table lines)

pub told_more : (table : Table) (set : Fact → Bool) (lines : List (Line WiringSays))
    (quiet more : List QuietLine) (last : ℕ) (cs ds es : List ℕ) (i : ℕ) (line : Line WiringSays)
    → i < length lines
    → line ≡ get_or lines i line
    → ToldSoFar table set lines quiet last cs (drop i lines)
    → more ≡ quiet ++ ended table set last line.number cs
    → ds ≡ going_on last line.number cs
    → es ≡ ds ++ class_list (class_declared table line.says)
    → ToldSoFar table set lines more line.number es (drop (i + 1) lines)
told_more table set lines quiet more last cs ds es i line less is told quiet_is ds_is es_is =
    let rest = written_lines table (drop (i + 1) lines) in
    let own = class_list (class_declared table line.says) in
    let cut : drop i lines ≡ line ∷ drop (i + 1) lines = next_is lines i line less
    ∙ ap (λ (x : Line WiringSays). x ∷ drop (i + 1) lines) (sym is) in
    let classes : going_on last line.number cs ++ own ≡ es =
    ap (λ (xs : List ℕ). xs ++ own) (sym ds_is) ∙ sym es_is in
    told
    ∙ ap (λ (ls : List (Line WiringSays)).
    quiet ++ quiet_of table set (in_front last cs (written_lines table ls))) cut
    ∙ ap (λ (xs : List QuietLine). quiet ++ xs)
    (one_more table set last line.number cs own rest)
    ∙ sym (append_assoc quiet (ended table set last line.number cs) _)
    ∙ ap (λ (xs : List QuietLine). xs ++ quiet_of table set
    (in_front line.number (going_on last line.number cs ++ own) rest)) (sym quiet_is)
    ∙ ap (λ (xs : List ℕ). more ++ quiet_of table set (in_front line.number xs rest)) classes

pub told_all : (table : Table) (set : Fact → Bool) (lines : List (Line WiringSays))
    (quiet more : List QuietLine) (last : ℕ) (cs : List ℕ) (i : ℕ)
    → length lines ≤ i
    → ToldSoFar table set lines quiet last cs (drop i lines)
    → more ≡ quiet ++ quiet_line table set last cs
    → more ≡ quiet_lines table set lines
told_all table set lines quiet more last cs i all told is =
    is ∙ ap (λ (xs : List QuietLine). quiet ++ xs) (sym (append-nil (quiet_line table set last cs)))
    ∙ sym (told ∙ ap (λ (ls : List (Line WiringSays)).
    quiet ++ quiet_of table set (in_front last cs (written_lines table ls)))
    (drop_of_length-le lines all))
