-- Believe. That there is nothing to tell besides an answer. This profile's own choice.
use Rattle.std.specs.Prelude.{◌≡◌, false, List, [], ℕ, All, None}
use Rattle.mrc_dead.specs.Dead.{no_dead_parts}
use Rattle.mrc_answer.specs.Notices.{Notices}

-- no routine that may carry rights is left out of a MIG file
abbrev pub HasNoNames : List (List ℕ) → Type 0
HasNoNames names = names ≡ []

-- none of these notices is there
pub record AreNone (notices : Notices) : Type 0 where
  pub left_out : All HasNoNames notices.left_out
  pub cut_before : notices.cut_before ≡ []
  pub notification : notices.notification ≡ None
  pub policy : notices.is_empty_policy ≡ false
  pub expecting : notices.demands.expects_nothing ≡ false
  pub idle : notices.demands.idle ≡ []
  pub unjudged : notices.demands.unjudged ≡ 0
  pub plain : notices.plain ≡ []
  pub leaky : notices.leaky ≡ []
  pub dead : notices.dead ≡ no_dead_parts
  pub trusted : notices.trusted ≡ []
