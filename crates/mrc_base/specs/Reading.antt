-- Believe. Answers: a value, the first fault, or out of memory. What a call that takes memory
-- answers, beside what its definition gives: a value, or the first fault. Of want of memory no
-- definition speaks. This profile's own choice.
use Rattle.std.specs.Prelude.{◌≡◌, Result, Ok, Err}
use Rattle.mrc_base.specs.declared.memory.OrMemory.{OrMemory}
use Rattle.mrc_base.specs.declared.memory.OrMemory.TheVariants.{Fault, Memory}

-- one step after another: what the last one gives, or the first fault
infixl 10 ◌>>=◌
abbrev pub ◌>>=◌ : {A B F : Type 0} → Result A F → (A → Result B F) → Result B F
(Ok x) >>= f = f x
(Err fault) >>= f = Err fault

-- the fact holds of the refusal's fault, unless memory ran out
abbrev pub UnlessMemory : {F : Type 0} → (F → Type 0) → OrMemory F → Type 0
UnlessMemory P (Fault fault) = P fault
UnlessMemory P Memory = Unit {0}

-- the refusal is the fault that the definition gives, unless memory ran out
abbrev pub Refuses : {B F : Type 0} → OrMemory F → Result B F → Type 0
Refuses (Fault fault) given = given ≡ Err fault
Refuses Memory given = Unit {0}

-- what was answered, seen by view, is what the definition gives, unless memory ran out
abbrev pub Gives : {A B F : Type 0} → (A → B) → Result A (OrMemory F) → Result B F → Type 0
Gives view (Ok x) given = given ≡ Ok (view x)
Gives view (Err refusal) given = Refuses refusal given
