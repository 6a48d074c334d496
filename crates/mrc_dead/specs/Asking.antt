-- Believe. Which tasks may ask which others, by a set of facts, and at which classes nobody may ask
-- another. This profile's own choice.
use Rattle.std.specs.Prelude.{ℕ, suc, zero, ◌==◌, ◌&&◌, ◌||◌, Bool, true, false, not, List, []}
use Rattle.std.specs.Prelude.{◌∷◌, ◌++◌}
use Rattle.std.specs.List.{list_any}
use Rattle.mrc_base.specs.declared.Fact.{Fact}
use Rattle.mrc_base.specs.declared.Fact.TheVariants.{Hold}
use Rattle.mrc_base.specs.declared.PortRight.TheVariants.{Send, Receive, SendOnce}
use Rattle.mrc_model.specs.declared.LabelItem.{LabelItem}
use Rattle.mrc_model.specs.declared.LabelItem.TheVariants.{Request, Reply, Destroyed}
use Rattle.mrc_model.specs.Wiring.{Wiring, classes, label}

-- some number below n passes the test
abbrev pub any_below : (ℕ → Bool) → ℕ → Bool
any_below test zero = false
any_below test (suc n) = any_below test n || test n

-- the number, if it is to be in the list
abbrev pub number_if : Bool → ℕ → List ℕ
number_if true n = n ∷ []
number_if false n = []

-- the numbers below n that pass the test, ascending
abbrev pub those_below : (ℕ → Bool) → ℕ → List ℕ
those_below test zero = []
those_below test (suc n) = those_below test n ++ number_if (test n) n

-- t may send to ports of class c
abbrev pub may_send : (Fact → Bool) → ℕ → ℕ → Bool
may_send set t c = set (Hold t c Send) || set (Hold t c SendOnce)

-- u is another task than t, and may receive from ports of class c
abbrev pub may_hear : (Fact → Bool) → ℕ → ℕ → ℕ → Bool
may_hear set c t u = not (t == u) && set (Hold u c Receive)

-- t may ask another task of the wiring at class c: it may send there, and the other may receive
abbrev pub asks_at : Wiring → (Fact → Bool) → ℕ → ℕ → Bool
asks_at W set c t = may_send set t c && any_below (may_hear set c t) W.tasks

-- no task of the wiring may ask another at class c
abbrev pub is_quiet : Wiring → (Fact → Bool) → ℕ → Bool
is_quiet W set c = not (any_below (asks_at W set c) W.tasks)

-- the items are one
abbrev pub same_item : LabelItem → LabelItem → Bool
same_item (Request s) (Request r) = s == r
same_item (Request s) (Reply r) = false
same_item (Request s) Destroyed = false
same_item (Reply s) (Request r) = false
same_item (Reply s) (Reply r) = s == r
same_item (Reply s) Destroyed = false
same_item Destroyed (Request r) = false
same_item Destroyed (Reply r) = false
same_item Destroyed Destroyed = true

-- class c accepts the item
abbrev pub accepts : Wiring → LabelItem → ℕ → Bool
accepts W item c = list_any (same_item item) (label W c)

-- class c accepts the item, and t may ask another task there
abbrev pub asks_by : Wiring → (Fact → Bool) → LabelItem → ℕ → ℕ → Bool
asks_by W set item t c = accepts W item c && asks_at W set c t

-- t may ask another task at a class that accepts the item
abbrev pub asks_for : Wiring → (Fact → Bool) → LabelItem → ℕ → Bool
asks_for W set item t = any_below (asks_by W set item t) (classes W)

-- the tasks that may do so; there is one exactly where a class that is not quiet accepts the item
abbrev pub askers : Wiring → (Fact → Bool) → LabelItem → List ℕ
askers W set item = those_below (asks_for W set item) W.tasks
