use Rattle.mrc_classes.proofs.instances.candidates_of.Goals as goal

pub returns-in-First-clause-premises : goal.returns-in-First-clause-premises
returns-in-First-clause-premises c = λ S T. rw c.in-First.is (c.by_first.ensures.premises S T)

pub returns-in-Births-clause-premises : goal.returns-in-Births-clause-premises
returns-in-Births-clause-premises c = λ S T. rw c.in-Births.is (c.by_births.ensures.premises S T)

pub returns-in-Weaker-clause-premises : goal.returns-in-Weaker-clause-premises
returns-in-Weaker-clause-premises c = λ S T. rw c.in-Weaker.is (c.by_weaker.ensures.premises S T)

pub returns-in-Slot-clause-premises : goal.returns-in-Slot-clause-premises
returns-in-Slot-clause-premises c = λ S T. rw c.in-Slot.is (c.by_slot.ensures.premises S T)

pub returns-in-Reply-clause-premises : goal.returns-in-Reply-clause-premises
returns-in-Reply-clause-premises c = λ S T. rw c.in-Reply.is (c.by_reply.ensures.premises S T)

pub returns-in-Received-clause-premises : goal.returns-in-Received-clause-premises
returns-in-Received-clause-premises c = λ S T. rw c.in-Received.is (c.by_received.ensures.premises S T)

pub returns-in-KernelPort-clause-premises : goal.returns-in-KernelPort-clause-premises
returns-in-KernelPort-clause-premises c = λ S T. rw c.in-KernelPort.is (c.by_kernel_port.ensures.premises S T)

pub returns-in-Request-clause-premises : goal.returns-in-Request-clause-premises
returns-in-Request-clause-premises c = λ S T. rw c.in-Request.is (c.by_request.ensures.premises S T)

pub returns-in-Notice-clause-premises : goal.returns-in-Notice-clause-premises
returns-in-Notice-clause-premises c = λ S T. rw c.in-Notice.is (c.by_notice.ensures.premises S T)

pub returns-in-Returned-clause-premises : goal.returns-in-Returned-clause-premises
returns-in-Returned-clause-premises c = λ S T. rw c.in-Returned.is (c.by_returned.ensures.premises S T)
