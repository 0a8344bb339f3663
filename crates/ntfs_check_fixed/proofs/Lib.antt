mod PlaceLemmas
mod RowLemmas
mod FixedLemmas
mod MirrorLemmas
mod FactLemmas
