mod Verdicts
mod Lists
mod ClaimLaws
mod CauseLaws
