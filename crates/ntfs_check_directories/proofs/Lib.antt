mod RowLemmas
mod AskedLemmas
mod RuleLemmas
mod NameLemmas
mod LeadLemmas
