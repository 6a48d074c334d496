-- what the rules give, lists of rights, and stores with rights in hand
pub mod Obeyed
pub mod Rights
pub mod Stores
pub mod Sound
-- a right is taken
pub mod Entries
pub mod Taking
-- a right is given
pub mod Gaining
pub mod Giving
-- what every call keeps
pub mod Kept
pub mod Trusting
pub mod Altering
-- rights are destroyed, and ports die
pub mod Pruning
pub mod Burying
pub mod Pending
pub mod Queueing
pub mod Noticing
pub mod Destroying
-- a port is born, a task begins
pub mod Births
pub mod NewTask
-- what a message carries
pub mod Judging
pub mod Carrying
-- each call, in the file of its name
pub mod StepRead
pub mod StepSend
pub mod StepReceive
pub mod StepAllocate
pub mod StepInsertRight
pub mod StepExtractRight
pub mod StepMoveMember
pub mod StepRequestNotification
pub mod StepSetQlimit
pub mod StepRename
pub mod StepDrop
pub mod StepTerminate
pub mod StepCreateTask
pub mod Step
-- the first state
pub mod FirstTask
pub mod FirstLines
pub mod FirstCovered
-- well formed and covered, and no breach
pub mod WellFormed
pub mod Breaches
-- the laws
pub mod Laws
