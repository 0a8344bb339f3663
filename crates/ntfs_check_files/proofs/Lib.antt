mod BaseLemmas
mod RuleLemmas
mod CollectLemmas
mod FileLemmas
mod ListLemmas
mod ListedLemmas
mod CompareLemmas
mod MemberLemmas
