-- Texts that are told line by line.
use Rattle.std.proofs.Common.{◌≡◌, ℕ, suc, ◌+◌, ◌<◌, List, [], ◌∷◌, ◌++◌, length, take}
use Rattle.std.proofs.Common.{refl, sym, ap, subst, ◌∙◌, add-zero, slice_index_or, arith, Option}
use Rattle.std.proofs.Common.{None, append_assoc}
use Rattle.std.specs.Prelude.{codes}
use Rattle.std.proofs.lemmas.List.{take_more, length-take-le, append-nil, get_or_default}
use Rattle.mrc_wiring.specs.Table.{Table}
use Rattle.mrc_closure.specs.declared.chains.Step.{Step}
use Rattle.mrc_why.specs.declared.origins.Source.{Source}
use Rattle.mrc_why.specs.declared.printing.Layout.{Layout}
use Rattle.mrc_why.specs.declared.trees.TreeLine.{TreeLine}
use Rattle.mrc_why.specs.Broken.{BrokenLine}
use Rattle.mrc_why.specs.Lines.{Numbered}
use Rattle.mrc_why.specs.Sources.{IsSourceIfKnown, AreSourcesOf}
use Rattle.mrc_why.specs.Texts.{source_at, step_line, lines_from, deeper, tree_line, tree_from}
use Rattle.mrc_why.specs.Texts.{IsBrokenText, AreToldBy, IsVerdictText}

-- what is told of elements, of which the first has this number
abbrev texts : {X : Type 0} → (ℕ → X → List ℕ) → ℕ → List X → List ℕ
texts f n [] = []
texts f n (x ∷ xs) = f n x ++ texts f (n + 1) xs

texts_push : {X : Type 0} (f : ℕ → X → List ℕ) (n : ℕ) (xs : List X) (x : X)
    → texts f n (xs ++ x ∷ []) ≡ texts f n xs ++ f (n + length xs) x
texts_push f n [] x = append-nil (f n x) ∙ ap (λ k. f k x) (sym (add-zero n))
texts_push f n (y ∷ xs) x =
    let next : n + 1 + length xs ≡ n + length (y ∷ xs) = omega arith in
    ap (λ ls. f n y ++ ls) (texts_push f (n + 1) xs x)
    ∙ (sym (append_assoc (f n y) (texts f (n + 1) xs) (f (n + 1 + length xs) x))
    ∙ ap (λ k. (f n y ++ texts f (n + 1) xs) ++ f k x) next)

-- one more
texts_more : {X : Type 0} (f : ℕ → X → List ℕ) (n : ℕ) (xs : List X) (i m : ℕ) (x : X)
    → i < length xs
    → x ≡ slice_index_or xs i x
    → m ≡ n + i
    → (text line text_then : List ℕ)
    → text ≡ texts f n (take i xs)
    → line ≡ f m x
    → text_then ≡ text ++ line
    → text_then ≡ texts f n (take (i + 1) xs)
texts_more f n xs i m x low is at text line text_then so_far at_line then_is =
    let more : take (i + 1) xs ≡ take i xs ++ x ∷ [] = take_more xs i x low
    ∙ ap (λ y. take i xs ++ y ∷ []) (sym is) in
    let long : m ≡ n + length (take i xs) = omega (arith, at, length-take-le i xs (omega arith)) in
    then_is ∙ (ap (λ ys. ys ++ line) so_far
    ∙ (ap (λ ys. texts f n (take i xs) ++ ys) (at_line ∙ ap (λ k. f k x) long)
    ∙ (sym (texts_push f n (take i xs) x) ∙ ap (texts f n) (sym more))))

module _ (blanks : List ℕ) (table : Table) (sources : List (Option Source)) where
  line_of : ℕ → Step → List ℕ
  line_of n s = step_line blanks table n s (source_at sources n)

  are_lines : (n : ℕ) (steps : List Step)
      → lines_from blanks table sources n steps ≡ texts line_of n steps
  unfolding line_of
  are_lines n [] = refl
  are_lines n (s ∷ steps) = ap (λ ls. line_of n s ++ ls) (are_lines (n + 1) steps)

  -- one more line of a chain
  pub lines_more : (steps : List Step) (i : ℕ) (s : Step)
      → i < length steps
      → s ≡ slice_index_or steps i s
      → (text line text_then : List ℕ)
      → text ≡ lines_from blanks table sources 0 (take i steps)
      → line ≡ step_line blanks table i s (source_at sources i)
      → text_then ≡ text ++ line
      → text_then ≡ lines_from blanks table sources 0 (take (i + 1) steps)
  unfolding line_of
  lines_more steps i s low is text line text_then so_far at_line then_is =
      texts_more line_of 0 steps i i s low is (omega arith) text line text_then
      (so_far ∙ are_lines 0 (take i steps)) at_line then_is
      ∙ sym (are_lines 0 (take (i + 1) steps))

module _ (blanks : List ℕ) (table : Table) (steps : List Step) (sources : List (Option Source))
  where
    tree_line_of : ℕ → TreeLine → List ℕ
    tree_line_of n line = tree_line blanks table steps sources n line

    are_tree_lines : (n : ℕ) (lines : List TreeLine)
        → tree_from blanks table steps sources n lines ≡ texts tree_line_of n lines
    unfolding tree_line_of
    are_tree_lines n [] = refl
    are_tree_lines n (l ∷ lines) = ap (λ ls. tree_line_of n l ++ ls) (are_tree_lines (n + 1) lines)

    -- one more line of a tree
    pub tree_more : (lines : List TreeLine) (i m : ℕ) (l : TreeLine)
        → i < length lines
        → l ≡ slice_index_or lines i l
        → m ≡ i + 1
        → (text line text_then : List ℕ)
        → text ≡ tree_from blanks table steps sources 1 (take i lines)
        → line ≡ tree_line blanks table steps sources m l
        → text_then ≡ text ++ line
        → text_then ≡ tree_from blanks table steps sources 1 (take (i + 1) lines)
    unfolding tree_line_of
    tree_more lines i m l low is at text line text_then so_far at_line then_is =
        texts_more tree_line_of 1 lines i m l low is (omega arith) text line text_then
        (so_far ∙ are_tree_lines 1 (take i lines)) at_line then_is
        ∙ sym (are_tree_lines 1 (take (i + 1) lines))

    -- the same of what is read there
    pub tree_more_at : (lines : List TreeLine) (i m : ℕ) (d : TreeLine)
        → i < length lines
        → m ≡ i + 1
        → (text line text_then : List ℕ)
        → text ≡ tree_from blanks table steps sources 1 (take i lines)
        → line ≡ tree_line blanks table steps sources m (slice_index_or lines i d)
        → text_then ≡ text ++ line
        → text_then ≡ tree_from blanks table steps sources 1 (take (i + 1) lines)
    tree_more_at lines i m d low at =
        tree_more lines i m (slice_index_or lines i d) low
        (get_or_default lines i d (slice_index_or lines i d) low) at

-- two blanks more
pub deeper_more : (n m : ℕ) → m ≡ n + 1 → deeper m ≡ deeper n ++ codes "  "
deeper_more n m e = let next : m ≡ suc n = omega arith in ap deeper next

-- one more source
pub sources_push : (x : Numbered) (all steps : List Step) (sources : List (Option Source))
    (s : Step) (source : Option Source)
    → AreSourcesOf x all steps sources
    → IsSourceIfKnown x all s source
    → AreSourcesOf x all (steps ++ s ∷ []) (sources ++ source ∷ [])
sources_push x all [] [] s source are is = (is, tt)
sources_push x all [] (y ∷ ys) s source are is = absurd are
sources_push x all (t ∷ ts) [] s source are is = absurd are
sources_push x all (t ∷ ts) (y ∷ ys) s source are is = (
  are.0,
  sources_push x all ts ys s source are.1 is,
)

pub sources_more : (x : Numbered) (all steps : List Step) (i : ℕ) (s : Step)
    (sources : List (Option Source)) (source : Option Source) (sources_then : List (Option Source))
    → i < length steps
    → s ≡ slice_index_or steps i s
    → AreSourcesOf x all (take i steps) sources
    → IsSourceIfKnown x all s source
    → sources_then ≡ sources ++ source ∷ []
    → AreSourcesOf x all (take (i + 1) steps) sources_then
sources_more x all steps i s sources source sources_then low at are is then_is =
    let more : take (i + 1) steps ≡ take i steps ++ s ∷ [] = take_more steps i s low
    ∙ ap (λ y. take i steps ++ y ∷ []) (sym at) in
    subst (λ xs. AreSourcesOf x all (take (i + 1) steps) xs) (sym then_is)
    (subst (λ ss. AreSourcesOf x all ss (sources ++ source ∷ [])) (sym more)
    (sources_push x all (take i steps) sources s source are is))

-- one more broken line
told_push : (layout : Layout) (x : Numbered) (broken : List BrokenLine) (b : BrokenLine)
    (text one : List ℕ)
    → AreToldBy layout x broken text
    → IsBrokenText layout x b one
    → AreToldBy layout x (broken ++ b ∷ []) (text ++ one)
told_push layout x [] b text one are is =
    (one, [], is, refl, ap (λ t. t ++ one) are ∙ sym (append-nil one))
told_push layout x (a ∷ broken) b text one are is = (
  are.0,
  are.1 ++ one,
  are.2,
  told_push layout x broken b are.1 one are.3 is,
  ap (λ t. t ++ one) are.4 ∙ append_assoc are.0 are.1 one,
)

pub told_more : (layout : Layout) (x : Numbered) (broken : List BrokenLine) (i : ℕ)
    (b : BrokenLine) (text one text_then : List ℕ)
    → i < length broken
    → b ≡ slice_index_or broken i b
    → AreToldBy layout x (take i broken) text
    → IsBrokenText layout x b one
    → text_then ≡ text ++ one
    → AreToldBy layout x (take (i + 1) broken) text_then
told_more layout x broken i b text one text_then low at are is then_is =
    let more : take (i + 1) broken ≡ take i broken ++ b ∷ [] = take_more broken i b low
    ∙ ap (λ y. take i broken ++ y ∷ []) (sym at) in
    subst (λ t. AreToldBy layout x (take (i + 1) broken) t) (sym then_is)
    (subst (λ bs. AreToldBy layout x bs (text ++ one)) (sym more)
    (told_push layout x (take i broken) b text one are is))

-- where no line is broken, or some are
pub verdict_of : (layout : Layout) (x : Numbered) (broken : List BrokenLine) (text : List ℕ)
    → 0 < length broken
    → AreToldBy layout x broken text
    → IsVerdictText layout x None broken text
verdict_of layout x [] text some are = absurd (omega arith)
verdict_of layout x (b ∷ broken) text some are = are

pub verdict_none : (layout : Layout) (x : Numbered) (broken : List BrokenLine) (text : List ℕ)
    → length broken ≡ 0
    → text ≡ codes "YES\n"
    → IsVerdictText layout x None broken text
verdict_none layout x [] text none is = is
verdict_none layout x (b ∷ broken) text none is = absurd (omega arith)
