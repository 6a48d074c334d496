-- What lines give, with one more line at their end.
use Rattle.std.proofs.Common.{◌≡◌, ℕ, zero, suc, ◌+◌, ◌<◌, ◌≤◌, Bool, true, false, List, []}
use Rattle.std.proofs.Common.{◌∷◌, ◌++◌, Some, refl, ap, sym, subst, ◌∙◌, arith}
use Rattle.std.proofs.Common.{zero-add, ◌||◌, not}
use Rattle.std.specs.Prelude.{slice_get, ◌&&◌}
use Rattle.std.specs.List.{list_any}
use Rattle.std.proofs.lemmas.Bool.{lt-ltb, and_from, ne_eqb, eq-eqb}
use Rattle.std.proofs.Math.Bool.{or-false, or_assoc}
use Rattle.mrc_base.specs.declared.PortRight.{PortRight}
use Rattle.mrc_base.specs.declared.PortRight.TheVariants.{Send, Receive}
use Rattle.mrc_model.specs.declared.FirstLine.{FirstLine}
use Rattle.mrc_model.specs.declared.FirstLine.TheVariants.{Task as TaskLine, Port as PortLine}
use Rattle.mrc_model.specs.declared.FirstLine.TheVariants.{Hold as HoldLine}
use Rattle.mrc_model.specs.Rights.{is_once}
use Rattle.mrc_model.specs.Wiring.{Wiring}
use Rattle.mrc_model.specs.Breach.{Holding}
use Rattle.mrc_model.specs.FirstHoldings.{line_holdings, line_births, names_earlier, names_given}
use Rattle.mrc_model.specs.FirstHoldings.{is_new_name, is_named, takes_name, one_if}
use Rattle.mrc_wiring.specs.Table.{task_lines, port_lines, kernel_births, port_births, AreEarlier}

abbrev pub held : ℕ → ℕ → PortRight → Holding
held t p right = record { task = t; port = p; right = right }

held_same : (t u p q : ℕ) (r : PortRight) → t ≡ u → p ≡ q → held t p r ≡ held u q r
held_same t u p q r e f = ap (λ x. held x p r) e ∙ ap (λ y. held u y r) f

pub task_lines_more : (ls : List FirstLine) (l : FirstLine)
    → task_lines (ls ++ l ∷ []) ≡ task_lines ls + task_lines (l ∷ [])
task_lines_more [] l = sym (zero-add _)
task_lines_more (TaskLine ∷ ls) l = let rest = task_lines_more ls l in omega arith
task_lines_more (PortLine t ∷ ls) l = task_lines_more ls l
task_lines_more (HoldLine t p r ∷ ls) l = task_lines_more ls l

pub port_lines_more : (ls : List FirstLine) (l : FirstLine)
    → port_lines (ls ++ l ∷ []) ≡ port_lines ls + port_lines (l ∷ [])
port_lines_more [] l = sym (zero-add _)
port_lines_more (TaskLine ∷ ls) l = port_lines_more ls l
port_lines_more (PortLine t ∷ ls) l = let rest = port_lines_more ls l in omega arith
port_lines_more (HoldLine t p r ∷ ls) l = port_lines_more ls l

-- each port of the first state is of a task line or a port line
pub births_are : (ls : List FirstLine) → line_births ls ≡ task_lines ls + port_lines ls
births_are [] = refl
births_are (TaskLine ∷ ls) = let rest = births_are ls in omega arith
births_are (PortLine t ∷ ls) = let rest = births_are ls in omega arith
births_are (HoldLine t p r ∷ ls) = births_are ls

pub holdings_task : (ls : List FirstLine) (n b t p : ℕ)
    → t ≡ n + task_lines ls
    → p ≡ b + line_births ls
    → line_holdings n b (ls ++ TaskLine ∷ []) ≡ line_holdings n b ls ++ held t p Send ∷ []
holdings_task [] n b t p e f =
    ap (λ h. h ∷ []) (held_same n t b p Send (omega arith) (omega arith))
holdings_task (TaskLine ∷ ls) n b t p e f =
    ap (λ hs. held n b Send ∷ hs) (holdings_task ls (n + 1) (b + 1) t p (omega arith) (omega arith))
holdings_task (PortLine u ∷ ls) n b t p e f =
    ap (λ hs. held u b Receive ∷ hs) (holdings_task ls n (b + 1) t p e (omega arith))
holdings_task (HoldLine u q r ∷ ls) n b t p e f =
    ap (λ hs. held u q r ∷ hs) (holdings_task ls n b t p e f)

pub holdings_port : (ls : List FirstLine) (n b t p : ℕ)
    → p ≡ b + line_births ls
    → line_holdings n b (ls ++ PortLine t ∷ []) ≡ line_holdings n b ls ++ held t p Receive ∷ []
holdings_port [] n b t p f = ap (λ h. h ∷ []) (held_same t t b p Receive refl (omega arith))
holdings_port (TaskLine ∷ ls) n b t p f =
    ap (λ hs. held n b Send ∷ hs) (holdings_port ls (n + 1) (b + 1) t p (omega arith))
holdings_port (PortLine u ∷ ls) n b t p f =
    ap (λ hs. held u b Receive ∷ hs) (holdings_port ls n (b + 1) t p (omega arith))
holdings_port (HoldLine u q r ∷ ls) n b t p f =
    ap (λ hs. held u q r ∷ hs) (holdings_port ls n b t p f)

pub holdings_hold : (ls : List FirstLine) (n b t p : ℕ) (right : PortRight)
    → line_holdings n b (ls ++ HoldLine t p right ∷ [])
    ≡ line_holdings n b ls ++ held t p right ∷ []
holdings_hold [] n b t p right = refl
holdings_hold (TaskLine ∷ ls) n b t p right =
    ap (λ hs. held n b Send ∷ hs) (holdings_hold ls (n + 1) (b + 1) t p right)
holdings_hold (PortLine u ∷ ls) n b t p right =
    ap (λ hs. held u b Receive ∷ hs) (holdings_hold ls n (b + 1) t p right)
holdings_hold (HoldLine u q r ∷ ls) n b t p right =
    ap (λ hs. held u q r ∷ hs) (holdings_hold ls n b t p right)

-- the birth numbers of kernel ports and of wired ports
pub kernels_more : (ls : List FirstLine) (b c : ℕ) (l : FirstLine)
    → c ≡ b + line_births ls
    → kernel_births b (ls ++ l ∷ []) ≡ kernel_births b ls ++ kernel_births c (l ∷ [])
kernels_more [] b c l e = let same : b ≡ c = omega arith in ap (λ n. kernel_births n (l ∷ [])) same
kernels_more (TaskLine ∷ ls) b c l e =
    ap (λ ns. b ∷ ns) (kernels_more ls (b + 1) c l (omega arith))
kernels_more (PortLine t ∷ ls) b c l e = kernels_more ls (b + 1) c l (omega arith)
kernels_more (HoldLine t p r ∷ ls) b c l e = kernels_more ls b c l e

pub wired_more : (ls : List FirstLine) (b c : ℕ) (l : FirstLine)
    → c ≡ b + line_births ls
    → port_births b (ls ++ l ∷ []) ≡ port_births b ls ++ port_births c (l ∷ [])
wired_more [] b c l e = let same : b ≡ c = omega arith in ap (λ n. port_births n (l ∷ [])) same
wired_more (TaskLine ∷ ls) b c l e = wired_more ls (b + 1) c l (omega arith)
wired_more (PortLine t ∷ ls) b c l e =
    ap (λ ns. b ∷ ns) (wired_more ls (b + 1) c l (omega arith))
wired_more (HoldLine t p r ∷ ls) b c l e = wired_more ls b c l e

-- they are numbers of ports that are there
pub kernel_below : (ls : List FirstLine) (b k p : ℕ)
    → slice_get (kernel_births b ls) k ≡ Some p
    → p < b + line_births ls
kernel_below [] b zero p e = cc
kernel_below [] b (suc k) p e = cc
kernel_below (TaskLine ∷ ls) b zero p e = let same : b ≡ p = cc in omega arith
kernel_below (TaskLine ∷ ls) b (suc k) p e =
    let rest = kernel_below ls (b + 1) k p e in omega arith
kernel_below (PortLine t ∷ ls) b k p e = let rest = kernel_below ls (b + 1) k p e in omega arith
kernel_below (HoldLine t q r ∷ ls) b k p e = kernel_below ls b k p e

pub wired_below : (ls : List FirstLine) (b k p : ℕ)
    → slice_get (port_births b ls) k ≡ Some p
    → p < b + line_births ls
wired_below [] b zero p e = cc
wired_below [] b (suc k) p e = cc
wired_below (TaskLine ∷ ls) b k p e = let rest = wired_below ls (b + 1) k p e in omega arith
wired_below (PortLine t ∷ ls) b zero p e = let same : b ≡ p = cc in omega arith
wired_below (PortLine t ∷ ls) b (suc k) p e =
    let rest = wired_below ls (b + 1) k p e in omega arith
wired_below (HoldLine t q r ∷ ls) b k p e = wired_below ls b k p e

earlier_at : (n m b c : ℕ) (ls : List FirstLine)
    → n ≡ m
    → b ≡ c
    → AreEarlier n b ls
    → AreEarlier m c ls
earlier_at n m b c ls e f h =
    subst (λ x. AreEarlier m x ls) f (subst (λ x. AreEarlier x b ls) e h)

pub earlier_more : (ls : List FirstLine) (n b m c : ℕ) (l : FirstLine)
    → m ≡ n + task_lines ls
    → c ≡ b + line_births ls
    → AreEarlier n b ls
    → AreEarlier m c (l ∷ [])
    → AreEarlier n b (ls ++ l ∷ [])
earlier_more [] n b m c l e f h last =
    earlier_at m n c b (l ∷ []) (omega arith) (omega arith) last
earlier_more (TaskLine ∷ ls) n b m c l e f h last =
    earlier_more ls (n + 1) (b + 1) m c l (omega arith) (omega arith) h last
earlier_more (PortLine t ∷ ls) n b m c l e f h last =
    (h.0, earlier_more ls n (b + 1) m c l e (omega arith) h.1 last)
earlier_more (HoldLine t p r ∷ ls) n b m c l e f h last =
    (h.0, h.1, h.2, earlier_more ls n b m c l e f h.3 last)

-- another task's right is no name of this one
other_name : (u : ℕ) (before : List Holding) (h : Holding)
    → (h.task ≡ u → ⊥)
    → one_if (is_new_name u before h) ≡ 0
other_name u before h ne =
    ap (λ b. one_if (b && takes_name before h)) (ne_eqb h.task u ne)

-- a task of no line has no name
pub fresh_task : (ls : List FirstLine) (n b t : ℕ) (before : List Holding)
    → AreEarlier n b ls
    → n + task_lines ls ≤ t
    → names_given t before (line_holdings n b ls) ≡ 0
fresh_task [] n b t before h high = refl
fresh_task (TaskLine ∷ ls) n b t before h high =
    let none = other_name t before (held n b Send) (λ e. omega arith) in
    let rest = fresh_task ls (n + 1) (b + 1) t (held n b Send ∷ before) h (omega arith) in
    omega arith
fresh_task (PortLine u ∷ ls) n b t before h high =
    let less = h.0 in
    let none = other_name t before (held u b Receive) (λ e. omega arith) in
    let rest = fresh_task ls n (b + 1) t (held u b Receive ∷ before) h.1 high in
    omega arith
fresh_task (HoldLine u p r ∷ ls) n b t before h high =
    let less = h.0 in
    let none = other_name t before (held u p r) (λ e. omega arith) in
    let rest = fresh_task ls n b t (held u p r ∷ before) h.3 high in
    omega arith

-- each line is of what earlier lines have
pub names_earlier_of : (W : Wiring) (ls : List FirstLine) (n b ports : ℕ)
    → AreEarlier n b ls
    → n + task_lines ls ≡ W.tasks
    → ports + port_lines ls ≡ W.ports
    → names_earlier W n ports b ls ≡ true
names_earlier_of W [] n b ports h all every = refl
names_earlier_of W (TaskLine ∷ ls) n b ports h all every =
    and_from _ _ (lt-ltb n W.tasks (omega arith))
    (names_earlier_of W ls (n + 1) (b + 1) ports h (omega arith) every)
names_earlier_of W (PortLine t ∷ ls) n b ports h all every =
    and_from _ _ (lt-ltb t n h.0) (and_from _ _ (lt-ltb ports W.ports (omega arith))
    (names_earlier_of W ls n (b + 1) (ports + 1) h.1 all (omega arith)))
names_earlier_of W (HoldLine t p r ∷ ls) n b ports h all every =
    and_from _ _ (ap not h.2) (and_from _ _ (lt-ltb t n h.0) (and_from _ _ (lt-ltb p b h.1)
    (names_earlier_of W ls n b ports h.3 all every)))

-- names, with one more right at the end of what is given

abbrev onto : List Holding → List Holding → List Holding
onto [] before = before
onto (h ∷ hs) before = onto hs (h ∷ before)

names_end : (t : ℕ) (hs before : List Holding) (h : Holding)
    → names_given t before (hs ++ h ∷ [])
    ≡ names_given t before hs + one_if (is_new_name t (onto hs before) h)
names_end t [] before h = omega arith
names_end t (g ∷ gs) before h = let rest = names_end t gs (g ∷ before) h in omega arith

or_moves : (a b c : Bool) → (a || (b || c)) ≡ ((b || a) || c)
or_moves true true c = refl
or_moves true false c = refl
or_moves false true c = refl
or_moves false false c = refl

any_onto : (P : Holding → Bool) (hs before : List Holding)
    → list_any P (onto hs before) ≡ (list_any P hs || list_any P before)
any_onto P [] before = refl
any_onto P (h ∷ hs) before =
    any_onto P hs (h ∷ before) ∙ or_moves (list_any P hs) (P h) (list_any P before)

pub any_end : (P : Holding → Bool) (hs : List Holding) (h : Holding)
    → list_any P (hs ++ h ∷ []) ≡ (list_any P hs || P h)
any_end P [] h = or-false (P h)
any_end P (g ∷ gs) h = rw (any_end P gs h) (sym (or_assoc (P g) (list_any P gs) (P h)))

-- it is a name more for the task where the right is send-once or nothing of the task's on the port
-- has a name
pub names_more : (t p : ℕ) (right : PortRight) (hs : List Holding)
    → names_given t [] (hs ++ held t p right ∷ [])
    ≡ names_given t [] hs + one_if (is_once right || not (list_any (is_named t p) hs))
names_more t p right hs =
    names_end t hs [] (held t p right) ∙ ap (λ b. names_given t [] hs + one_if b)
    (ap (λ b. b && takes_name (onto hs []) (held t p right)) (eq-eqb t t refl)
    ∙ ap (λ b. is_once right || not b)
    (any_onto (is_named t p) hs [] ∙ or-false (list_any (is_named t p) hs)))

-- and none for another task
pub names_other : (u t p : ℕ) (right : PortRight) (hs : List Holding)
    → (t ≡ u → ⊥)
    → names_given u [] (hs ++ held t p right ∷ []) ≡ names_given u [] hs
names_other u t p right hs ne =
    let none = other_name u (onto hs []) (held t p right) ne in
    let last = names_end u hs [] (held t p right) in
    omega arith
