mod ClaimLemmas
mod BitmapLemmas
mod NameLemmas
mod AskedLemmas
mod MarkLemmas
mod SurveyLemmas
mod StreamLemmas
mod FirstLemmas
