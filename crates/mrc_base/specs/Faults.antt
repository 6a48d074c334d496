-- Believe. A fault made into another; out of memory stays that. This profile's own choice.
use Rattle.std.specs.Prelude.{◌≡◌, ⊤}
use Rattle.mrc_base.specs.declared.memory.OrMemory.{OrMemory}
use Rattle.mrc_base.specs.declared.memory.OrMemory.TheVariants.{Fault, Memory}

-- this is so of the fault, if it is one
abbrev pub IfFault : {F : Type 0} → OrMemory F → (F → Type 0) → Type 0
IfFault (Fault fault) P = P fault
IfFault Memory P = ⊤

-- it is a fault, and this is so of it
abbrev pub IsFaultAnd : {F : Type 0} → OrMemory F → (F → Type 0) → Type 0
IsFaultAnd (Fault fault) P = P fault
IsFaultAnd Memory P = ⊥

-- a fault becomes one that the map makes of it, and out of memory stays that
abbrev pub MapsFault : {F G : Type 0} → (F → G → Type 0) → OrMemory F → OrMemory G → Type 0
MapsFault makes (Fault fault) mapped = IsFaultAnd mapped (makes fault)
MapsFault makes Memory mapped = mapped ≡ Memory
