pub mod ScriptLaws
pub mod LeakLaws
mod NoticeLines
mod NoticeLaws
mod NoticeExamples
mod VerdictLaws
mod VerifiedSafe
pub mod MigLaws
mod MigExamples
mod AskingLaws
