-- The lines that tasks say next, counted line by line and event by event.
use Rattle.std.proofs.Common.{◌≡◌, ◌+◌, ◌≤◌, ℕ, zero, suc, List, [], ◌∷◌, ◌++◌, Some, None, Bool}
use Rattle.std.proofs.Common.{true, false, take, drop, length, map, slice_get, refl, sym, ap, ◌∙◌}
use Rattle.std.proofs.Common.{arith, ◌==◌, cond}
use Rattle.std.proofs.lemmas.List.{take-append-drop, append-nil, length-append, map-append}
use Rattle.mrc_live.proofs.Following.{take_next}
use Rattle.mrc_live.specs.Runs.{event_of}
use Rattle.mrc_live.specs.declared.event.Event.{Event as LiveEvent}
use Rattle.mrc_model.specs.Runs.{Event}
use Rattle.mrc_report.specs.Halts.{lines_of}
use Rattle.mrc_report.specs.Journal.{calls_by}
use Rattle.mrc_report.specs.declared.script.TaskCall.{TaskCall}
use Rattle.mrc_wiring_text.specs.declared.reading.Line.{Line}

front_cond : {X : Type 0} (b : Bool) (x : X) (xs ys : List X)
    → cond b (x ∷ (xs ++ ys)) (xs ++ ys) ≡ cond b (x ∷ xs) xs ++ ys
front_cond true x xs ys = refl
front_cond false x xs ys = refl

-- the lines of one list after another
pub lines_of-append : (task : ℕ) (ls ms : List (Line TaskCall))
    → lines_of task (ls ++ ms) ≡ lines_of task ls ++ lines_of task ms
lines_of-append task [] ms = refl
lines_of-append task (l ∷ ls) ms =
    (λ i. cond (l.says.task == task) (l ∷ lines_of-append task ls ms i)
    (lines_of-append task ls ms i))
    ∙ front_cond (l.says.task == task) l (lines_of task ls) (lines_of task ms)

-- one line more
lines_next : (task : ℕ) (lines : List (Line TaskCall)) (k : ℕ) (l : Line TaskCall)
    → slice_get lines k ≡ Some l
    → lines_of task (take (k + 1) lines)
    ≡ lines_of task (take k lines) ++ cond (l.says.task == task) (l ∷ []) []
lines_next task lines k l at =
    ap (lines_of task) (take_next lines k (k + 1) l at refl)
    ∙ lines_of-append task (take k lines) (l ∷ [])

-- how many lines of a task there are, with one more of its own, or of another
pub more_lines : (task : ℕ) (lines : List (Line TaskCall)) (k : ℕ) (l : Line TaskCall)
    → slice_get lines k ≡ Some l → (l.says.task == task) ≡ true
    → length (lines_of task (take (k + 1) lines)) ≡ length (lines_of task (take k lines)) + 1
more_lines task lines k l at mine =
    ap length (lines_next task lines k l at
    ∙ (λ i. lines_of task (take k lines) ++ cond (mine i) (l ∷ []) []))
    ∙ length-append (lines_of task (take k lines)) (l ∷ [])

pub same_lines : (task : ℕ) (lines : List (Line TaskCall)) (k : ℕ) (l : Line TaskCall)
    → slice_get lines k ≡ Some l → (l.says.task == task) ≡ false
    → length (lines_of task (take (k + 1) lines)) ≡ length (lines_of task (take k lines))
same_lines task lines k l at other =
    ap length (lines_next task lines k l at
    ∙ (λ i. lines_of task (take k lines) ++ cond (other i) (l ∷ []) [])
    ∙ append-nil (lines_of task (take k lines)))

-- the element behind the first ones
get_behind : {X : Type 0} (xs ys : List X) (x : X)
    → slice_get (xs ++ x ∷ ys) (length xs) ≡ Some x
get_behind [] ys x = refl
get_behind (z ∷ xs) ys x = get_behind xs ys x

behind : {X : Type 0} (xs : List X) (x : X) (ys : List X) → (xs ++ x ∷ []) ++ ys ≡ xs ++ x ∷ ys
behind [] x ys = refl
behind (z ∷ xs) x ys = ap (λ zs. z ∷ zs) (behind xs x ys)

split_at : {X : Type 0} (xs : List X) (k : ℕ) (x : X) → slice_get xs k ≡ Some x
    → (ys : List X) × (xs ≡ take k xs ++ x ∷ ys)
split_at xs k x at = (
  drop (k + 1) xs,
  sym (take-append-drop (k + 1) xs)
      ∙ ap (λ front. front ++ drop (k + 1) xs) (take_next xs k (k + 1) x at refl)
      ∙ behind (take k xs) x (drop (k + 1) xs),
)

-- the line of a task behind those that it has said
pub line_there : (task : ℕ) (lines : List (Line TaskCall)) (k said : ℕ) (l : Line TaskCall)
    → slice_get lines k ≡ Some l → (l.says.task == task) ≡ true
    → said ≡ length (lines_of task (take k lines))
    → slice_get (lines_of task lines) said ≡ Some l
line_there task lines k said l at mine is =
    let front = lines_of task (take k lines) in
    let parts = split_at lines k l at in
    let whole : lines_of task lines ≡ front ++ l ∷ lines_of task parts.0 =
    ap (lines_of task) parts.1
    ∙ lines_of-append task (take k lines) (l ∷ parts.0)
    ∙ (λ i. front ++ cond (mine i) (l ∷ lines_of task parts.0) (lines_of task parts.0)) in
    (λ i. slice_get (whole i) (is i)) ∙ get_behind front (lines_of task parts.0) l

-- none is there past the end
pub none_there : {X : Type 0} (xs : List X) (n : ℕ) → length xs ≤ n → slice_get xs n ≡ None
none_there [] n past = refl
none_there (x ∷ xs) zero past = absurd (omega arith)
none_there (x ∷ xs) (suc n) past = none_there xs n (omega (arith, past))

-- the calls of one list of events after another
calls_by-append : (task : ℕ) (es fs : List Event)
    → calls_by task (es ++ fs) ≡ calls_by task es ++ calls_by task fs
calls_by-append task [] fs = refl
calls_by-append task (e ∷ es) fs =
    (λ i. cond (e.task == task) (e.call ∷ calls_by-append task es fs i)
    (calls_by-append task es fs i))
    ∙ front_cond (e.task == task) e.call (calls_by task es) (calls_by task fs)

-- one event more
calls_next : (task : ℕ) (events : List LiveEvent) (k : ℕ) (e : LiveEvent)
    → slice_get events k ≡ Some e
    → calls_by task (map event_of (take (k + 1) events))
    ≡ calls_by task (map event_of (take k events))
    ++ cond (e.task == task) ((event_of e).call ∷ []) []
calls_next task events k e at =
    ap (λ es. calls_by task (map event_of es)) (take_next events k (k + 1) e at refl)
    ∙ ap (calls_by task) (map-append event_of (take k events) (e ∷ []))
    ∙ calls_by-append task (map event_of (take k events)) (event_of e ∷ [])

pub more_calls : (task : ℕ) (events : List LiveEvent) (k : ℕ) (e : LiveEvent)
    → slice_get events k ≡ Some e → (e.task == task) ≡ true
    → length (calls_by task (map event_of (take (k + 1) events)))
    ≡ length (calls_by task (map event_of (take k events))) + 1
more_calls task events k e at mine =
    let front = calls_by task (map event_of (take k events)) in
    ap length (calls_next task events k e at
    ∙ (λ i. front ++ cond (mine i) ((event_of e).call ∷ []) []))
    ∙ length-append front ((event_of e).call ∷ [])

pub same_calls : (task : ℕ) (events : List LiveEvent) (k : ℕ) (e : LiveEvent)
    → slice_get events k ≡ Some e → (e.task == task) ≡ false
    → length (calls_by task (map event_of (take (k + 1) events)))
    ≡ length (calls_by task (map event_of (take k events)))
same_calls task events k e at other =
    let front = calls_by task (map event_of (take k events)) in
    ap length (calls_next task events k e at
    ∙ (λ i. front ++ cond (other i) ((event_of e).call ∷ []) [])
    ∙ append-nil front)
